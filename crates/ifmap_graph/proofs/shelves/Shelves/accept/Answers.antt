use Rattle.std.proofs.Common.{◌≡◌, ℕ, Option, None, IsSome, refl, ap, sym, ◌∙◌, subst}
use Rattle.std.proofs.lemmas.Option.{same_Some}
use Rattle.std.proofs.lemmas.Cmp.{tied_itself}
use Rattle.std.specs.Ordering.{is_eq}
use Rattle.slab.specs.Slab.{get}
use Rattle.ifmap_ident.specs.SameLaws.{items_total}
use Rattle.ifmap_graph.specs.Sides.{list_next, list_now}
use Rattle.ifmap_graph.proofs.Staying.{ends_stay, waits_stay}
use Rattle.ifmap_graph.proofs.Writes.{Write, comes, drafts_kept, drafts_left, is_shelved, side_stays, stood_on, write_of}
use Rattle.ifmap_graph.proofs.shelves.Shelves.accept.Goals as goal

pub index-at-requires : goal.index-at-requires
index-at-requires c = subst (λ (o : Option ℕ). IsSome o) (sym c.requires.drafted.2) refl

pub accept_at-requires : goal.accept_at-requires
accept_at-requires c =
    let same : c.index-at.result.now ≡ c.requires.drafted.0 = same_Some _ _ (sym c.index-at.ensures ∙ c.requires.drafted.2)
    in (c.requires.drafted.1, ap (get c.args.self.now.slots) same ∙ c.requires.drafted.3, c.requires.drafted.4)

pub returns : goal.returns
returns c =
    let w : Write = write_of c.args.self.now.slots c.accept_at.new.slots c.args.self.now.places.entries c.requires.shelved c.args.item.now
    c.index-at.result.now c.index-at.ensures (λ s. record s { stored = record { now = list_next s.stored; draft = None } })
    c.accept_at.ensures.slots
    in record {
      next = side_stays w list_next refl;
      now = comes w list_now list_next refl;
      old = c.accept_at.ensures.old w.was w.had ∙ stood_on w list_now c.args.item.now (ap is_eq (tied_itself items_total c.args.item.now));
      drafts = drafts_left w refl;
      kept = drafts_kept w;
      stays = record {
        shelved = is_shelved w;
        place = record { ends = ends_stay w refl; waits = waits_stay w refl; places = refl };
      };
    }
