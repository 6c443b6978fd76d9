-- What holding and letting go mean for the numbers of items and for the keys of a pool.
-- Plan: (1) two identifiers in order have two numbers; (2) a name that the change of another number leaves (`names_stay`);
-- (3) the keys of a pool in which one more is held are those of before and this one; (4) a number that has a key after a
-- release had it before; (5) the same of an item: a lone identifier, and the two of a link.
use Rattle.std.proofs.Common.{◌≡◌, ◌≢◌, ◌⊎◌, ℕ, ◌+◌, ◌-◌, ◌<◌, true, unwrap_or, Option, Some, None, IsSome, List, [], ◌∷◌, option_map, cond, refl, ap, ◌∙◌, sym, subst, inl, inr, arith}
use Rattle.std.proofs.lemmas.Bool.{cases_eq}
use Rattle.std.proofs.lemmas.Cmp.{nat_cmp_total}
use Rattle.std.proofs.lemmas.Option.{same_Some, none-some}
use Rattle.std.specs.Cmp.{nat_cmp_is}
use Rattle.std.specs.FinMap.{get, insert, get-insert, get-remove}
use Rattle.std.specs.List.{AllByRecursion}
use Rattle.std.specs.Ordering.{nat_cmp, is_eq}
use Rattle.std.specs.declared.cmp.Ordering.{Ordering}
use Rattle.std.specs.declared.cmp.Ordering.TheVariants.{Less, Equal, Greater}
use Rattle.ifmap_ident.specs.declared.identifiers.Identifier.{Identifier}
use Rattle.ifmap_ident.specs.declared.items.Item.{Item}
use Rattle.ifmap_ident.specs.declared.items.Item.TheVariants.{One, Pair}
use Rattle.ifmap_ident.specs.Canon.{IsIdentifier}
use Rattle.ifmap_ident.specs.Identifiers.{identifier_bytes, identifier_order}
use Rattle.ifmap_ident.specs.Items.{IsItem}
use Rattle.ifmap_pool.specs.Holdings.{Frees, Holdings, HoldsAgain, IsAbsent, IsHeld, LetsGo, Names, TakesNumber, entry_at, holds_at, key_at, once}
use Rattle.ifmap_graph.specs.declared.ends.ItemEnds as the_ends
use Rattle.ifmap_graph.specs.declared.ends.ItemEnds.TheVariants as ends
use Rattle.ifmap_graph.specs.declared.shelves.Shelf.{Shelf}
use Rattle.ifmap_graph.specs.Named.{AreEnds, AreIdentifiers, AreNumbered, HasEnds, uses_of}
use Rattle.ifmap_graph.proofs.Alike.{alike_equal, equal_alike}

-- two identifiers in order have two numbers
pub numbers_differ : (names : Holdings Identifier) (v w : ℕ) (a b : Identifier) → identifier_order a b ≡ Less
    → Names identifier_order names v a
    → Names identifier_order names w b → w ≢ v
numbers_differ names v w a b l n m e =
    let same : m.0 ≡ n.0 = same_Some _ _ (sym m.1 ∙ ap (entry_at names) e ∙ n.1)
    in let tie : identifier_order a b ≡ Equal
    = alike_equal a b (sym (equal_alike n.0.0 a n.2) ∙ ap identifier_bytes (ap (λ x. x.0) (sym same)) ∙ equal_alike m.0.0 b m.2)
    in let q : Less ≡ Equal = sym l ∙ tie in cc

-- a name that another number's change leaves
pub names_stay : (old new : Holdings Identifier) (r v : ℕ) (a : Identifier) → ((o : ℕ) → o ≢ r → entry_at new o ≡ entry_at old o) → v ≢ r
    → Names identifier_order old v a → Names identifier_order new v a
names_stay old new r v a others n m = (m.0, others v n ∙ m.1, m.2)

module _ (old new : Holdings Identifier) (kept : (v : ℕ) (a : Identifier) → Names identifier_order old v a → Names identifier_order new v
    a) where
  ends_kept : (item : Item) (e : the_ends.ItemEnds) → AreEnds old item e → AreEnds new item e
  ends_kept (One a) (ends.One v) n = kept v a n
  ends_kept (Pair a b) (ends.Pair v w) n = (kept v a n.0, kept w b n.1)
  ends_kept (One a) (ends.Pair v w) n = n
  ends_kept (Pair a b) (ends.One v) n = n

  has_kept : (item : Item) (o : Option Shelf) → HasEnds old item o → HasEnds new item o
  has_kept item None n = n
  has_kept item (Some shelf) n = ends_kept item shelf.ends n

  -- the numbers of entries stay theirs, where their slots stay
  pub numbered_kept : (look later : ℕ → Option Shelf) (es : List (Item × ℕ)) → AllByRecursion (λ e. later e.1 ≡ look e.1) es
      → AreNumbered old look es
      → AreNumbered new later es
  numbered_kept look later [] s a = tt
  numbered_kept look later (e ∷ es) s a =
      (subst (λ o. HasEnds new e.0 o) (sym s.0) (has_kept e.0 (look e.1) a.0), numbered_kept look later es s.1 a.1)

-- the keys of a pool in which one more is held: those that were, and this one
module _ (old new : Holdings Identifier) (r : ℕ) (id : Identifier)
    (present : (v : ℕ) → Names identifier_order old v id → (r ≡ v) × HoldsAgain old new v)
    (absent : IsAbsent identifier_order old id → TakesNumber old new r id)
    (others : (o : ℕ) → o ≢ r → entry_at new o ≡ entry_at old o) where
  itself : (k : ℕ) (x : Identifier × ℕ) → get (insert old.live k x) k ≡ Some x
  itself k x = get-insert nat_cmp_total old.live k x k ∙ ap (λ b. cond b (Some x) (get old.live k))
      (ap is_eq (sym (nat_cmp_is k k Equal refl)))

  -- where the number has an entry whose key does not tie, no number has the key
  no_other : (e : Identifier × ℕ) → entry_at old r ≡ Some e → (identifier_order e.0 id ≡ Equal → ⊥) → IsAbsent identifier_order old id
  no_other e is n v m =
      let s : m.0 ≡ e = same_Some _ _ (sym m.1 ∙ ap (entry_at old) (sym (present v m).0) ∙ is)
      in n (ap (λ x. identifier_order x.0 id) (sym s) ∙ m.2)

  not_there : (o : Option (Identifier × ℕ)) → entry_at old r ≡ o → Names identifier_order old r id ⊎ IsAbsent identifier_order old id
  not_there None is = inr (λ v m. none-some _ (sym is ∙ ap (entry_at old) (present v m).0 ∙ m.1))
  not_there (Some e) is = by (identifier_order e.0 id) refl
    where
      by : (o : Ordering) → identifier_order e.0 id ≡ o → Names identifier_order old r id ⊎ IsAbsent identifier_order old id
      by Equal q = inl (e, is, q)
      by Less q = inr (no_other e is (λ t. let z : Less ≡ Equal = sym q ∙ t in cc))
      by Greater q = inr (no_other e is (λ t. let z : Greater ≡ Equal = sym q ∙ t in cc))

  key_there : (k : Identifier) → key_at new r ≡ Some k → (key_at old r ≡ Some k) ⊎ (k ≡ id)
  key_there k e = elim (not_there (entry_at old r) refl) [
    | inl m ↦ let now : entry_at new r ≡ Some (m.0.0, m.0.1 + 1) = ap (λ p. entry_at p r) ((present r m).1 m.0 m.1)
        ∙ itself r (m.0.0, m.0.1 + 1)
        in inl (ap (option_map (λ x. x.0)) m.1 ∙ sym (ap (option_map (λ x. x.0)) now) ∙ e)
    | inr a ↦ let now : entry_at new r ≡ Some (id, 1) = ap (λ l. get l r) (absent a).live ∙ itself r (id, 1)
        in inr (same_Some _ _ (sym e ∙ ap (option_map (λ x. x.0)) now))
  ]

  pub still_identifiers : IsIdentifier id → AreIdentifiers old → AreIdentifiers new
  still_identifiers i all v k e = elim (cases_eq v r) [
    | inl q ↦ elim (key_there k (ap (key_at new) (sym q) ∙ e)) [
      | inl was ↦ all r k was
      | inr is ↦ subst IsIdentifier (sym is) i
    ]
    | inr o ↦ all v k (sym (ap (option_map (λ x. x.0)) (others v o)) ∙ e)
  ]

-- a number that has a key after a release had it before
module _ (old new : Holdings Identifier) (r : ℕ) (live : IsSome (entry_at old r)) (kept : LetsGo old new r) (last : holds_at old r ≡ 1
    → Frees old new r)
    (counted : holds_at new r + 1 ≡ holds_at old r) (others : (o : ℕ) → o ≢ r → entry_at new o ≡ entry_at old o) where
  holds_of : (e : Identifier × ℕ) → entry_at old r ≡ Some e → holds_at old r ≡ e.1
  holds_of e is = ap (λ o. unwrap_or (option_map (λ x. x.1) o) 0) is

  tie_test : is_eq (nat_cmp r r) ≡ true
  tie_test = ap is_eq (sym (nat_cmp_is r r Equal refl))

  -- the number has no key any more, or the same one
  after : (e : Identifier × ℕ) → entry_at old r ≡ Some e → (entry_at new r ≡ None) ⊎ ((m : ℕ) × (entry_at new r ≡ Some (e.0, m)))
  after e is = elim (cases_eq (holds_at old r) 1) [
    | inl one ↦ inl (ap (λ l. get l r) (last one).live ∙ get-remove nat_cmp_total old.live r r ∙ ap (λ b. cond b None (get old.live r))
        tie_test)
    | inr more ↦ let big : 1 < e.1 = omega (arith, more, counted, holds_of e is)
        in inr (
          e.1 - 1,
          ap (λ p. entry_at p r) (kept e is big) ∙ get-insert nat_cmp_total old.live r (e.0, e.1 - 1) r
              ∙ ap (λ b. cond b (Some (e.0, e.1 - 1)) (get old.live r)) tie_test,
        )
  ]

  before_there : (o : Option (Identifier × ℕ)) → entry_at old r ≡ o → (a : Identifier) → Names identifier_order new r a
      → Names identifier_order old r a
  before_there None is a n = let q : IsSome {T = Identifier × ℕ} None = subst (λ (o : Option (Identifier × ℕ)). IsSome o) is live in cc
  before_there (Some e) is a n = elim (after e is) [
    | inl gone ↦ absurd (none-some _ (sym gone ∙ n.1))
    | inr m ↦ let same : n.0 ≡ (e.0, m.0) = same_Some _ _ (sym n.1 ∙ m.1) in (e, is, ap (λ x. identifier_order x.0 a) (sym same) ∙ n.2)
  ]

  pub named_before : (v : ℕ) (a : Identifier) → Names identifier_order new v a → Names identifier_order old v a
  named_before v a n = elim (cases_eq v r) [
    | inl q ↦ subst (λ k. Names identifier_order old k a) (sym q) (before_there (entry_at old r) refl a
        (subst (λ k. Names identifier_order new k a) q n))
    | inr o ↦ (n.0, sym (others v o) ∙ n.1, n.2)
  ]

  key_stays : (o : Option (Identifier × ℕ)) → entry_at old r ≡ o → (k : Identifier) → key_at new r ≡ Some k → key_at old r ≡ Some k
  key_stays None is k e = let q : IsSome {T = Identifier × ℕ} None = subst (λ (o : Option (Identifier × ℕ)). IsSome o) is live in cc
  key_stays (Some x) is k e = elim (after x is) [
    | inl gone ↦ absurd (none-some _ (sym (ap (option_map (λ y. y.0)) gone) ∙ e))
    | inr m ↦ ap (option_map (λ y. y.0)) is ∙ sym (ap (option_map (λ y. y.0)) m.1) ∙ e
  ]

  pub keys_before : (v : ℕ) (k : Identifier) → key_at new v ≡ Some k → key_at old v ≡ Some k
  keys_before v k e = elim (cases_eq v r) [
    | inl q ↦ ap (key_at old) q ∙ key_stays (entry_at old r) refl k (ap (key_at new) (sym q) ∙ e)
    | inr o ↦ sym (ap (option_map (λ y. y.0)) (others v o)) ∙ e
  ]

  pub identifiers_stay : AreIdentifiers old → AreIdentifiers new
  identifiers_stay all v k e = all v k (keys_before v k e)

  -- where it was held more than once, it has the same key
  still_key : (o : Option (Identifier × ℕ)) → entry_at old r ≡ o → 1 < holds_at old r → key_at new r ≡ key_at old r
  still_key None is more = let q : IsSome {T = Identifier × ℕ} None = subst (λ (o : Option (Identifier × ℕ)). IsSome o) is live in cc
  still_key (Some x) is more =
      let big : 1 < x.1 = omega (arith, more, holds_of x is)
      in let now : entry_at new r ≡ Some (x.0, x.1 - 1)
      = ap (λ p. entry_at p r) (kept x is big) ∙ get-insert nat_cmp_total old.live r (x.0, x.1 - 1) r
      ∙ ap (λ b. cond b (Some (x.0, x.1 - 1)) (get old.live r)) tie_test
      in ap (option_map (λ y. y.0)) now ∙ sym (ap (option_map (λ y. y.0)) is)

  pub keys_stay : (v : ℕ) → (v ≡ r → 1 < holds_at old v) → key_at new v ≡ key_at old v
  keys_stay v more = elim (cases_eq v r) [
    | inl q ↦ ap (key_at new) q ∙ still_key (entry_at old r) refl (subst (λ k. 1 < holds_at old k) q (more q)) ∙ ap (key_at old) (sym q)
    | inr o ↦ ap (option_map (λ y. y.0)) (others v o)
  ]

-- a lone identifier's number is let go
module _ (old new : Holdings Identifier) (v : ℕ) where
  pub one_live : (item : Item) → AreEnds old item (ends.One v) → IsSome (entry_at old v)
  one_live (One a) n = subst (λ (o : Option (Identifier × ℕ)). IsSome o) (sym n.1) refl
  one_live (Pair a b) n = absurd n

  pub one_released : ((a other : Identifier) (count : ℕ) → Names identifier_order old v a → IsHeld identifier_order old other count
      → IsHeld identifier_order new other (count - once identifier_order a other))
      → (item : Item) (other : Identifier) (count : ℕ) → AreEnds old item (ends.One v) → IsHeld identifier_order old other count
      → IsHeld identifier_order new other (count - uses_of item other)
  one_released held (One a) other count n h = held a other count n h
  one_released held (Pair a b) other count n h = absurd n

-- the numbers of a link are let go
module _ (old new : Holdings Identifier) (v w : ℕ) where
  pub pair_live : (item : Item) → IsItem item → AreEnds old item (ends.Pair v w)
      → (a : Identifier) × (b : Identifier) × (identifier_order a b ≡ Less) × Names identifier_order old v a × Names identifier_order old
      w b
  pair_live (One a) i n = absurd n
  pair_live (Pair a b) i n = (a, b, i, n.0, n.1)

  pub pair_released : ((a b other : Identifier) (count : ℕ) → Names identifier_order old v a → Names identifier_order old w b
      → IsHeld identifier_order old other count → IsHeld identifier_order new other (count - uses_of (Pair a b) other))
      → (item : Item) (other : Identifier) (count : ℕ) → AreEnds old item (ends.Pair v w) → IsHeld identifier_order old other count
      → IsHeld identifier_order new other (count - uses_of item other)
  pair_released held (One a) other count n h = absurd n
  pair_released held (Pair a b) other count n h = held a b other count n.0 n.1 h
