-- A change came to be out, or did not: what contracts see.
-- In order: keys that stay both ways are the same; what contracts see where a change came to be out (`ComesOut`) and where it did
-- not (`StaysAsItWas`); shelves stay in their slots with their numbers; the change is out (`made_seen`, `made_out`); nothing is
-- out, and all is as before (`unmade_seen`).
use Rattle.std.proofs.Common.{◌≡◌, ◌≢◌, ℕ, ◌+◌, ◌<◌, Option, Some, None, List, [], ◌∷◌, length, refl, ap, ◌∙◌, sym, subst, arith}
use Rattle.std.proofs.lemmas.Option.{none-some}
use Rattle.std.specs.List.{AllByRecursion, IsDistinct}
use Rattle.std.specs.declared.cmp.Ordering.TheVariants.{Equal}
use Rattle.slab.specs.Slab.{get}
use Rattle.ifmap_lemmas.specs.Having.{Has}
use Rattle.ifmap_ident.specs.declared.identifiers.Identifier.{Identifier}
use Rattle.ifmap_ident.specs.declared.items.Item.{Item}
use Rattle.ifmap_ident.specs.Identifiers.{identifier_order}
use Rattle.ifmap_ident.specs.Items.{item_order, same_item}
use Rattle.ifmap_plans.specs.declared.plans.ItemChange.{ItemChange}
use Rattle.ifmap_plans.specs.Plans.{IsAfter}
use Rattle.ifmap_pool.specs.Holdings.{Holdings, IsHeld, key_at}
use Rattle.ifmap_view.specs.declared.views.LinkSeen.{LinkSeen}
use Rattle.ifmap_view.specs.Rows.{stored_on}
use Rattle.ifmap_graph.specs.declared.changes.Ready.{Ready}
use Rattle.ifmap_graph.specs.declared.shelves.Shelves.{Shelves}
use Rattle.ifmap_graph.specs.Back.{KeepsBacks}
use Rattle.ifmap_graph.specs.Bringing.{graph_fields}
use Rattle.ifmap_graph.specs.Drafted.{ends_at}
use Rattle.ifmap_graph.specs.Inside.{GraphInside, shown_shelves}
use Rattle.ifmap_graph.specs.Making.{IsMade, IsUnmade}
use Rattle.ifmap_graph.specs.Named.{AreIdentifiers, uses_in}
use Rattle.ifmap_graph.specs.Out.{IsDrafted, IsOut, items_changed}
use Rattle.ifmap_graph.specs.Seen.{AwaitsMore, IsSeenSame, IsStill, KeepsNumbers, KeepsOwn, StaysLeanWith, rows_next, rows_now}
use Rattle.ifmap_graph.specs.Shelved.{HasDraft, list_at, slot_of_item, rows_on_side}
use Rattle.ifmap_graph.specs.Sides.{Sides, list_next, list_now}
use Rattle.ifmap_graph.specs.Stays.{HasSameShelf, StayPlaced}
use Rattle.ifmap_graph.specs.Turning.{AreDrafted, NoOthers}
use Rattle.ifmap_graph.specs.Waits.{waits_on}
use Rattle.ifmap_graph.proofs.Backs.{keeps_backs}
use Rattle.ifmap_graph.proofs.Finding.{unlisted_empty}
use Rattle.ifmap_graph.proofs.Insides.{named_shown, rows_shown}
use Rattle.ifmap_graph.proofs.Lean.{made_lean, unmade_lean}
use Rattle.ifmap_graph.proofs.Lessening.{waited_there}
use Rattle.ifmap_graph.proofs.Outs.{from_shown, to_shown}
use Rattle.ifmap_graph.proofs.Own.{key_kept}
use Rattle.ifmap_graph.proofs.Settled.{bare_to, ends_shown, ends_there, inside_of, waits_shown}
use Rattle.ifmap_graph.proofs.Waited.{times_append}
use Rattle.ifmap_ident.specs.SameLaws.{BytesTellIdentifiers}

all_shown : (s : Shelves) (xs : List Item) → AllByRecursion (HasDraft s) xs
    → AllByRecursion (IsDrafted (shown_shelves (get s.slots) s.places.entries)) xs
all_shown s [] a = tt
all_shown s (x ∷ xs) a = (to_shown s x a.0, all_shown s xs a.1)

-- keys that stay both ways are the same
same_keys : (one two : Holdings Identifier) → ((v : ℕ) (a : Identifier) → key_at one v ≡ Some a → key_at two v ≡ Some a)
    → ((v : ℕ) (a : Identifier) → key_at two v ≡ Some a → key_at one v ≡ Some a) → (v : ℕ) → key_at two v ≡ key_at one v
same_keys one two f g v = by (key_at one v) refl (key_at two v) refl
  where
    by : (o : Option Identifier) → key_at one v ≡ o → (p : Option Identifier) → key_at two v ≡ p → key_at two v ≡ key_at one v
    by (Some a) e p q = f v a e ∙ sym e
    by None e None q = q ∙ sym e
    by None e (Some a) q = absurd (none-some _ (sym e ∙ g v a q))

-- what contracts see where a change came to be out
pub record ComesOut (changes : List ItemChange) (old new : GraphInside) : Type 0 where
  pub after : IsAfter changes (rows_now old) (rows_next new)
  pub now : rows_now new ≡ rows_now old
  pub numbers : KeepsNumbers old new
  pub own : KeepsOwn old new
  pub waits : AwaitsMore (items_changed changes) old new
  pub backs : KeepsBacks old new
  pub lean : StaysLeanWith (items_changed changes) old new

-- and where it did not
pub record StaysAsItWas (old new : GraphInside) : Type 0 where
  pub same : IsSeenSame old new
  pub numbers : KeepsNumbers old new
  pub backs : KeepsBacks old new
  pub still : IsStill new

module _ (names later : Holdings Identifier) (s t : Shelves) (links moved : List (Sides LinkSeen)) where
  rows_same : rows_on_side list_now t ≡ rows_on_side list_now s → rows_now (inside_of later t moved) ≡ rows_now (inside_of names s links)
  rows_same rows = rows_shown list_now (get t.slots) t.places.entries ∙ rows ∙ sym (rows_shown list_now (get s.slots) s.places.entries)

  own_same : ((a : Identifier) (own : ℕ) → IsHeld identifier_order names a (uses_in s.places.entries a + own)
      → IsHeld identifier_order later a (uses_in t.places.entries a + own)) → KeepsOwn (inside_of names s links) (inside_of later t moved)
  own_same f a own h =
      subst (λ (n : ℕ). IsHeld identifier_order later a (n + own)) (sym (named_shown (get t.slots) t.places.entries a))
      (f a own (subst (λ (n : ℕ). IsHeld identifier_order names a (n + own)) (named_shown (get s.slots) s.places.entries a) h))

  -- shelves stay in their slots with their numbers
  module _ (places : (x : Item) (at : ℕ) → slot_of_item s x ≡ Some at → (slot_of_item t x ≡ Some at) × (ends_at t at ≡ ends_at s at)) where
    there : (x : Item) (at : ℕ) → slot_of_item s x ≡ Some at → HasSameShelf (inside_of names s links) (inside_of later t moved) x
    there x at e =
        let p = places x at e
        in (
          p.0 ∙ sym e,
          ends_shown later t moved x ∙ ap (ends_there t) p.0 ∙ p.1 ∙ sym (ap (ends_there s) e) ∙ sym (ends_shown names s links x),
        )

    full_there : (x : Item) (o : Option ℕ) → slot_of_item s x ≡ o → stored_on x (rows_now (inside_of names s links)) ≢ []
        → HasSameShelf (inside_of names s links) (inside_of later t moved) x
    full_there x None e n =
        absurd (n (ap (stored_on x) (rows_shown list_now (get s.slots) s.places.entries)
        ∙ sym (unlisted_empty (λ at. list_at list_now (get s.slots at)) x s.places.entries e)))
    full_there x (Some at) e n = there x at e

    stay : StayPlaced (inside_of names s links) (inside_of later t moved)
    stay = record {
      waited = λ x a b.
          let w : 0 < waits_on s x = omega (arith, a, waits_shown names s links x)
          in let q = waited_there s x w in there x q.0 q.1;
      full = λ x a b. full_there x (slot_of_item s x) refl a;
    }

  -- the change is out
  module _ (changes : List ItemChange) (ways : List (ℕ × List LinkSeen))
      (made : IsMade changes ways (graph_fields names s links) (graph_fields later t moved)) where
    made_now : rows_now (inside_of later t moved) ≡ rows_now (inside_of names s links)
    made_now = rows_same made.rows

    made_after : IsAfter changes (rows_now (inside_of names s links)) (rows_next (inside_of later t moved))
    made_after =
        subst (λ r. IsAfter changes r (rows_next (inside_of later t moved))) (sym (rows_shown list_now (get s.slots) s.places.entries))
        (subst (λ r. IsAfter changes (rows_on_side list_now s) r) (sym (rows_shown list_next (get t.slots) t.places.entries)) made.after)

    made_own : KeepsOwn (inside_of names s links) (inside_of later t moved)
    made_own = own_same made.own

    made_waits : AwaitsMore (items_changed changes) (inside_of names s links) (inside_of later t moved)
    made_waits rest a x =
        omega (
          arith,
          a x,
          made.waits x,
          waits_shown names s links x,
          waits_shown later t moved x,
          times_append (items_changed changes)
              rest x,
        )

    more_waits : AwaitsMore [] (inside_of names s links) (inside_of later t moved)
    more_waits rest a x = let w = made_waits rest a x in omega (arith, w, times_append (items_changed changes) rest x)

    made_backs : KeepsBacks (inside_of names s links) (inside_of later t moved)
    made_backs =
        keeps_backs (inside_of names s links) (inside_of later t moved) made_now made.links made.longer (stay made.places) more_waits

    made_numbers : BytesTellIdentifiers → AreIdentifiers names → KeepsNumbers (inside_of names s links) (inside_of later t moved)
    made_numbers tells keys = key_kept names later made.kept tells keys made.inside.keys

    comes_out : BytesTellIdentifiers → AreIdentifiers names → ComesOut changes (inside_of names s links) (inside_of later t moved)
    comes_out tells keys = record {
      after = made_after;
      now = made_now;
      numbers = made_numbers tells keys;
      own = made_own;
      waits = made_waits;
      backs = made_backs;
      lean = made_lean names later s t links moved changes ways made;
    }

    pub made_seen : {old : GraphInside} → inside_of names s links ≡ old → BytesTellIdentifiers → AreIdentifiers names
        → ComesOut changes old (inside_of later t moved)
    made_seen is tells keys = subst (λ (h : GraphInside). ComesOut changes h (inside_of later t moved)) is (comes_out tells keys)

    pub made_out : (ready : Ready) → ready.plan.changes ≡ changes → length ready.lists ≡ length changes → ready.ways ≡ ways
        → IsOut ready (inside_of later t moved)
    made_out ready plan lists way = record {
      drafted = subst (λ l. AllByRecursion (IsDrafted (shown_shelves (get t.slots) t.places.entries)) (items_changed l)) (sym plan)
          (all_shown t (items_changed changes) made.out.drafted);
      within = λ x d.
          subst (λ l. (i : Item) × Has (items_changed l) i × (item_order i x ≡ Equal)) (sym plan)
          (made.out.within x (from_shown t x d));
      apart = subst (λ l. IsDistinct same_item (items_changed l)) (sym plan) made.out.apart;
      lists = lists ∙ sym (ap length plan);
      links = subst (λ w. AreDrafted w moved) (sym way) made.ready.drafted;
      no_others = subst (λ w. NoOthers w moved) (sym way) made.ready.no_others;
    }

  -- nothing is out, and all is as before
  module _ (un : IsUnmade (graph_fields names s links) (graph_fields later t moved)) where
    unmade_now : rows_now (inside_of later t moved) ≡ rows_now (inside_of names s links)
    unmade_now = rows_same un.rows

    unmade_own : KeepsOwn (inside_of names s links) (inside_of later t moved)
    unmade_own = own_same un.own

    unmade_still : IsStill (inside_of later t moved)
    unmade_still = bare_to later t moved un.bare un.none

    unmade_waits : AwaitsMore [] (inside_of names s links) (inside_of later t moved)
    unmade_waits rest a x = omega (arith, a x, waits_shown names s links x, waits_shown later t moved x, un.shelves.waits x)

    unmade_backs : KeepsBacks (inside_of names s links) (inside_of later t moved)
    unmade_backs =
        keeps_backs (inside_of names s links) (inside_of later t moved) unmade_now un.links un.longer
        (stay (λ x at e. (un.shelves.places x tt ∙ e, un.shelves.ends x at e))) unmade_waits

    unmade_numbers : BytesTellIdentifiers → AreIdentifiers names → KeepsNumbers (inside_of names s links) (inside_of later t moved)
    unmade_numbers tells keys = key_kept names later un.kept tells keys un.inside.keys

    unmade_same : BytesTellIdentifiers → AreIdentifiers names → IsSeenSame (inside_of names s links) (inside_of later t moved)
    unmade_same tells keys = record {
      rows = unmade_now;
      links = un.links;
      numbers = same_keys names later (key_kept names later un.kept tells keys un.inside.keys)
          (key_kept later names un.before tells un.inside.keys keys);
      own = unmade_own;
      waits = unmade_waits;
      lean = unmade_lean names later s t links moved un;
    }

    stays : BytesTellIdentifiers → AreIdentifiers names → StaysAsItWas (inside_of names s links) (inside_of later t moved)
    stays tells keys = record {
      same = unmade_same tells keys;
      numbers = unmade_numbers tells keys;
      backs = unmade_backs;
      still = unmade_still;
    }

    pub unmade_seen : {old : GraphInside} → inside_of names s links ≡ old → BytesTellIdentifiers → AreIdentifiers names
        → StaysAsItWas old (inside_of later t moved)
    unmade_seen is tells keys = subst (λ (h : GraphInside). StaysAsItWas h (inside_of later t moved)) is (stays tells keys)
