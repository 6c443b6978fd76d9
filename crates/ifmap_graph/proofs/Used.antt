-- Where nothing is left behind, the identifiers that have numbers are those that stand in an item with an attachment or that others hold.
use Rattle.std.proofs.Common.{◌≡◌, ◌⊎◌, ℕ, zero, suc, ◌+◌, ◌<◌, Option, Some, None, IsSome, List, [], ◌∷◌, map, refl, ap, ◌∙◌, sym, subst, inl, inr, arith}
use Rattle.std.proofs.lemmas.Bool.{cases_Bool}
use Rattle.std.specs.List.{AllByRecursion}
use Rattle.std.specs.Ordering.{is_eq}
use Rattle.std.specs.Cmp.{Equal-is}
use Rattle.slab.specs.Slab.{get}
use Rattle.ifmap_lemmas.specs.Having.{Has, has_joined, has_map, joined_has, map_has, all_has, first_of}
use Rattle.ifmap_ident.specs.declared.identifiers.Identifier.{Identifier}
use Rattle.ifmap_ident.specs.declared.items.Item.{Item}
use Rattle.ifmap_ident.specs.declared.items.Item.TheVariants.{One, Pair}
use Rattle.ifmap_ident.specs.Canon.{IsIdentifier}
use Rattle.ifmap_ident.specs.Identifiers.{identifier_order}
use Rattle.ifmap_ident.specs.Items.{IsCanonItem, identifiers_of}
use Rattle.ifmap_meta.specs.declared.stored.Stored.{Stored}
use Rattle.ifmap_pool.specs.Holdings.{Holdings, IsHeld, IsPool, Names, holds_at, key_at, once}
use Rattle.ifmap_view.specs.Attachments.{row_on}
use Rattle.ifmap_view.specs.declared.attachments.Attachment.{Attachment}
use Rattle.ifmap_view.specs.declared.views.LinkSeen.{LinkSeen}
use Rattle.ifmap_graph.specs.declared.ends.ItemEnds.{ItemEnds}
use Rattle.ifmap_graph.specs.declared.ends.ItemEnds.TheVariants as ends
use Rattle.ifmap_graph.specs.declared.shelves.Shelf.{Shelf}
use Rattle.ifmap_graph.specs.declared.shelves.Shelves.{Shelves}
use Rattle.ifmap_graph.specs.Inside.{IsInside, IsOwn}
use Rattle.ifmap_graph.specs.Named.{AreEnds, HasEnds, uses_of, uses_in}
use Rattle.ifmap_graph.specs.Releasing.{AreFilled}
use Rattle.ifmap_graph.specs.Seen.{AreUsed, IsAttached, IsHeldBeside, IsLean, rows_now}
use Rattle.ifmap_graph.specs.Shelved.{list_at, rows_on_side}
use Rattle.ifmap_graph.specs.Sides.{Sides, list_now}
use Rattle.ifmap_graph.specs.Waits.{waits_on}
use Rattle.ifmap_graph.proofs.Alike.{equal_alike}
use Rattle.ifmap_graph.proofs.Finding.{entry_stores}
use Rattle.ifmap_graph.proofs.Following.{entry_hits}
use Rattle.ifmap_graph.proofs.Insides.{named_shown, names_by, rows_shown}
use Rattle.ifmap_graph.proofs.Lean.{lean_from}
use Rattle.ifmap_graph.proofs.Own.{key_told, live_key}
use Rattle.ifmap_graph.proofs.Settled.{inside_of, waits_shown}
use Rattle.ifmap_ident.specs.SameLaws.{BytesTellIdentifiers}

-- an identifier that entries name is one of some entry's item
named_entry : {X : Type 0} (es : List (Item × X)) (a : Identifier) → 0 < uses_in es a → (e : Item × X) × Has es e × (0 < uses_of e.0 a)
named_entry [] a h = absurd (omega (arith, h))
named_entry {X} (e ∷ es) a h = by (uses_of e.0 a) refl (λ some. named_entry es a some)
  where
    by : (n : ℕ) → uses_of e.0 a ≡ n → (0 < uses_in es a → (x : Item × X) × Has es x × (0 < uses_of x.0 a))
        → (x : Item × X) × Has (e ∷ es) x × (0 < uses_of x.0 a)
    by (suc n) q rest = (e, inl refl, omega (arith, q))
    by zero q rest = let r = rest (omega (arith, h, q)) in (r.0, inr r.1, r.2)

-- it is the identifier itself, where elements gave both
once_is : (b a : Identifier) → BytesTellIdentifiers → IsIdentifier b → IsIdentifier a → 0 < once identifier_order b a → b ≡ a
once_is b a tells is other h = elim (cases_Bool (is_eq (identifier_order b a))) [
  | inl t ↦ tells b a is other (equal_alike b a ((Equal-is (identifier_order b a)).0 t))
  | inr f ↦ let none = rw f at h in absurd (omega (arith, none))
]

named_has : (i : Item) (a : Identifier) → BytesTellIdentifiers → AllByRecursion IsIdentifier (identifiers_of i) → IsIdentifier a → 0 <
    uses_of i a
    → Has (identifiers_of i) a
named_has (One b) a tells is other h = inl (once_is b a tells is.0 other h)
named_has (Pair b c) a tells is other h = by (once identifier_order b a) refl
  where
    by : (n : ℕ) → once identifier_order b a ≡ n → (b ≡ a) ⊎ ((c ≡ a) ⊎ ⊥)
    by (suc n) q = inl (once_is b a tells is.0 other (omega (arith, q)))
    by zero q = inr (inl (once_is c a tells is.1.0 other (omega (arith, h, q))))

-- a number's holds are more than none
held_some : (names : Holdings Identifier) (v : ℕ) (a : Identifier) (n : ℕ) → IsPool identifier_order names → key_at names v ≡ Some a
    → IsHeld identifier_order names a n → 0 < n
held_some names v a n pool e (inl h) =
    let same : holds_at names v ≡ n = ap (holds_at names) (pool.one_to_one v h.0 a (names_by names v a a e refl) h.1) ∙ h.2
    in let some : 0 < holds_at names v = pool.held v (live_key names v a e)
    in omega (arith, same, some)
held_some names v a n pool e (inr h) = absurd (h.0 v (names_by names v a a e refl))

ends_named : (names : Holdings Identifier) (i : Item) (e : ItemEnds) (a : Identifier) → AreEnds names i e → Has (identifiers_of i) a
    → (v : ℕ) × Names identifier_order names v a
ends_named names (One b) (ends.One v) a n (inl q) = (v, subst (Names identifier_order names v) q n)
ends_named names (One b) (ends.One v) a n (inr q) = absurd q
ends_named names (Pair b c) (ends.Pair v w) a n (inl q) = (v, subst (Names identifier_order names v) q n.0)
ends_named names (Pair b c) (ends.Pair v w) a n (inr (inl q)) = (w, subst (Names identifier_order names w) q n.1)
ends_named names (Pair b c) (ends.Pair v w) a n (inr (inr q)) = absurd q
ends_named names (One b) (ends.Pair v w) a n h = absurd n
ends_named names (Pair b c) (ends.One v) a n h = absurd n

shelf_named : (names : Holdings Identifier) (i : Item) (o : Option Shelf) (a : Identifier) → HasEnds names i o → Has (identifiers_of i) a
    → (v : ℕ) × Names identifier_order names v a
shelf_named names i None a n h = absurd n
shelf_named names i (Some shelf) a n h = ends_named names i shelf.ends a n h

module _ (names : Holdings Identifier) (s : Shelves) (links : List (Sides LinkSeen)) (tells : BytesTellIdentifiers)
    (is : IsInside names (get s.slots) s.places.entries links) where
  abbrev list_of : ℕ → List Stored
  list_of at = list_at list_now (get s.slots at)

  -- an identifier of an entry's item stands in an item with an attachment, where the shelf has something on it
  entry_attached : AreFilled s → ((x : Item) → waits_on s x ≡ 0) → (e : Item × ℕ) → Has s.places.entries e → (a : Identifier)
      → Has (identifiers_of e.0) a → IsAttached (rows_on_side list_now s) a
  entry_attached filled idle e h a named =
      let place = entry_hits s.places.entries e.0 e.1 is.placed.rising h
      in let on = entry_stores list_of e.0 s.places.entries e.1 is.placed.rising place
      in let some = first_of (list_of e.1) (λ q. filled e.0 (subst IsSome (sym place) refl) (idle e.0) (sym on ∙ q))
      in (
        row_on e.0 some.0,
        has_joined (λ x. map (row_on x.0) (list_of x.1)) s.places.entries e (row_on e.0 some.0) h
            (has_map (row_on e.0) (list_of e.1) some.0 some.1),
        named,
      )

  attached_named : (a : Identifier) → IsAttached (rows_on_side list_now s) a → (v : ℕ) × Names identifier_order names v a
  attached_named a q =
      let j = joined_has (λ x. map (row_on x.0) (list_of x.1)) s.places.entries q.0 q.1
      in let m = map_has (row_on j.0.0) (list_of j.0.1) q.0 j.2
      in shelf_named names j.0.0 (get s.slots j.0.1) a
      (all_has (λ x. HasEnds names x.0 (get s.slots x.1)) s.places.entries is.numbered j.0 j.1)
      (subst (λ (r : Attachment). Has (identifiers_of r.item) a) (sym m.2) q.2)

  held_named : (a : Identifier) (n : ℕ) → IsHeld identifier_order names a n → 0 < n → (v : ℕ) × Names identifier_order names v a
  held_named a n (inl h) some = (h.0, h.1)
  held_named a n (inr h) some = absurd (omega (arith, some, h.1))

  own_is : (a : Identifier) (own : ℕ) → IsHeld identifier_order names a (uses_in s.places.entries a + own)
      → IsOwn (inside_of names s links) a own
  own_is a own h =
      subst (λ (n : ℕ). IsHeld identifier_order names a (n + own)) (sym (named_shown (get s.slots) s.places.entries a)) h

  own_was : (a : Identifier) (own : ℕ) → IsOwn (inside_of names s links) a own
      → IsHeld identifier_order names a (uses_in s.places.entries a + own)
  own_was a own h = subst (λ (n : ℕ). IsHeld identifier_order names a (n + own)) (named_shown (get s.slots) s.places.entries a) h

  used_by : AreFilled s → ((x : Item) → waits_on s x ≡ 0) → (v : ℕ) (a : Identifier) → key_at names v ≡ Some a
      → IsAttached (rows_on_side list_now s) a ⊎ IsHeldBeside (inside_of names s links) a
  used_by filled idle v a e = by (uses_in s.places.entries a) refl
    where
      by : (n : ℕ) → uses_in s.places.entries a ≡ n → IsAttached (rows_on_side list_now s) a ⊎ IsHeldBeside (inside_of names s links) a
      by (suc n) q =
          let x = named_entry s.places.entries a (omega (arith, q))
          in inl (entry_attached filled idle x.0 x.1 a
          (named_has x.0.0 a tells (all_has (λ (y : Item × ℕ). IsCanonItem y.0) s.places.entries is.placed.canon x.0 x.1).identifiers
          (is.keys v a e) x.2))
      by zero q = inr (λ own h.
          let some = held_some names v a (uses_in s.places.entries a + own) is.pool e (own_was a own h)
          in omega (arith, some, q))

  pub are_used : IsLean [] (inside_of names s links) → AreUsed (inside_of names s links)
  are_used lean = record {
    only = λ a h.
        subst (λ r. IsAttached r a ⊎ IsHeldBeside (inside_of names s links) a) (sym (rows_shown list_now (get s.slots) s.places.entries))
        (used_by (lean_from names s links [] lean) (λ x. omega (arith, lean.waits x, waits_shown names s links x)) h.0 a h.1);
    each = λ a canon why.
        let n = named a why
        in (n.0, key_told names n.0 a tells is.keys canon n.1);
  }
    where
      named : (a : Identifier) → IsAttached (rows_now (inside_of names s links)) a ⊎ IsHeldBeside (inside_of names s links) a
          → (v : ℕ) × Names identifier_order names v a
      named a (inl q) = attached_named a (subst (λ r. IsAttached r a) (rows_shown list_now (get s.slots) s.places.entries) q)
      named a (inr q) =
          let h = is.held a
          in held_named a (uses_in s.places.entries a + h.0) h.1 (omega (arith, q h.0 (own_is a h.0 h.1)))
