use Rattle.std.proofs.Common.{◌≡◌, ℕ, Option, IsSome, unwrap_or, refl, ap, sym, ◌∙◌, subst}
use Rattle.std.proofs.lemmas.Cmp.{tied_itself}
use Rattle.std.proofs.lemmas.Option.{same_Some}
use Rattle.std.specs.Ordering.{is_eq}
use Rattle.slab.specs.Slab.{get}
use Rattle.ifmap_ident.specs.SameLaws.{items_total}
use Rattle.ifmap_graph.specs.declared.shelves.Shelf.{Shelf}
use Rattle.ifmap_graph.specs.Sides.{list_next, list_now}
use Rattle.ifmap_graph.proofs.Staying.{bare_stays, ends_stay, waits_stay}
use Rattle.ifmap_graph.proofs.Writes.{Write, is_shelved, shows, stood_on, write_of}
use Rattle.ifmap_graph.proofs.shelves.Shelves.exchange.Goals as goal

pub index-at-requires : goal.index-at-requires
index-at-requires c = subst (λ (o : Option ℕ). IsSome o) (sym c.requires.drafted.2) refl

pub exchange_at-requires : goal.exchange_at-requires
exchange_at-requires c =
    let same : c.index-at.result.now ≡ c.requires.drafted.0 = same_Some _ _ (sym c.index-at.ensures ∙ c.requires.drafted.2)
    in subst (λ (o : Option Shelf). IsSome o) (sym (ap (get c.args.self.now.slots) same ∙ c.requires.drafted.3)) refl

pub returns : goal.returns
returns c =
    let w : Write = write_of c.args.self.now.slots c.exchange_at.new.slots c.args.self.now.places.entries c.requires.shelved c.args.item.now
    c.index-at.result.now c.index-at.ensures (λ s. record s { stored = record s.stored { now = c.args.list.now } })
    c.exchange_at.ensures.slots
    in let same : w.at ≡ c.requires.drafted.0 = same_Some _ _ (sym w.here ∙ c.requires.drafted.2)
    in let shelf : w.was ≡ c.requires.drafted.1 = same_Some _ _ (sym w.had ∙ ap (get w.slots) same ∙ c.requires.drafted.3)
    in record {
      now = shows w list_now c.args.list.now refl;
      next = shows w list_next c.args.list.now
          (ap (λ o. unwrap_or o c.args.list.now) (ap (λ (s : Shelf). s.stored.draft) shelf ∙ c.requires.drafted.4));
      old = c.exchange_at.ensures.old w.was w.had ∙ stood_on w list_now c.args.item.now
          (ap is_eq (tied_itself items_total c.args.item.now));
      bare = bare_stays w refl;
      stays = record {
        shelved = is_shelved w;
        place = record { ends = ends_stay w refl; waits = waits_stay w refl; places = refl };
      };
    }
