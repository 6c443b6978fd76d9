-- An item's shelf goes, and its identifiers are let go: the numbers of the other items stay theirs, since those hold them.
use Rattle.std.proofs.Common.{◌≡◌, ℕ, ◌+◌, ◌≤◌, Option, Some, None, [], ◌∷◌, refl, ap, sym, subst, inl, inr, arith}
use Rattle.std.specs.List.{AllByRecursion}
use Rattle.ifmap_lemmas.specs.Having.{Has}
use Rattle.ifmap_ident.specs.declared.identifiers.Identifier.{Identifier}
use Rattle.ifmap_ident.specs.declared.items.Item.{Item}
use Rattle.ifmap_ident.specs.declared.items.Item.TheVariants.{One, Pair}
use Rattle.ifmap_ident.specs.Identifiers.{identifier_order}
use Rattle.ifmap_pool.specs.Holdings.{Holdings, IsHeld, IsPool, Names}
use Rattle.ifmap_graph.specs.declared.ends.ItemEnds as the_ends
use Rattle.ifmap_graph.specs.declared.ends.ItemEnds.TheVariants as ends
use Rattle.ifmap_graph.specs.declared.shelves.Shelf.{Shelf}
use Rattle.ifmap_graph.specs.Named.{AreEnds, AreNumbered, HasEnds, uses_of, uses_in}
use Rattle.ifmap_graph.proofs.Shelving.{Entries}
use Rattle.ifmap_graph.specs.NumberLaws.{once_itself}

named_has : (es : Entries) (e : Item × ℕ) (a : Identifier) → Has es e → uses_of e.0 a ≤ uses_in es a
named_has [] e a h = absurd h
named_has (x ∷ xs) e a (inl p) = let q : uses_of x.0 a ≡ uses_of e.0 a = ap (λ y. uses_of y.0 a) p in omega (arith, q)
named_has (x ∷ xs) e a (inr h) = omega (arith, named_has xs e a h)

module _ (old new : Holdings Identifier) (pool : IsPool identifier_order old)
    (before : (v : ℕ) (a : Identifier) → Names identifier_order new v a → Names identifier_order old v a)
    (all : Entries) (held : (a : Identifier) → (own : ℕ) × IsHeld identifier_order new a (uses_in all a + own)) where
  stays_named : (v : ℕ) (a : Identifier) → 1 ≤ uses_in all a → Names identifier_order old v a → Names identifier_order new v a
  stays_named v a least n = by (held a).0 (held a).1
    where
      by : (own : ℕ) → IsHeld identifier_order new a (uses_in all a + own) → Names identifier_order new v a
      by own (inl h) = subst (λ k. Names identifier_order new k a) (pool.one_to_one h.0 v a (before h.0 a h.1) n) h.1
      by own (inr h) = absurd (omega (arith, least, h.1))

  ends_stay : (e : Item × ℕ) → Has all e → (x : the_ends.ItemEnds) → AreEnds old e.0 x → AreEnds new e.0 x
  ends_stay e h x n = by e.0 x n (λ a. named_has all e a h)
    where
      by : (item : Item) (x : the_ends.ItemEnds) → AreEnds old item x → ((a : Identifier) → uses_of item a ≤ uses_in all a)
          → AreEnds new item x
      by (One a) (ends.One v) n m = stays_named v a (omega (arith, m a, once_itself a)) n
      by (Pair a b) (ends.Pair v w) n m =
          (stays_named v a (omega (arith, m a, once_itself a)) n.0, stays_named w b (omega (arith, m b, once_itself b)) n.1)
      by (One a) (ends.Pair v w) n m = n
      by (Pair a b) (ends.One v) n m = n

  has_stay : (e : Item × ℕ) → Has all e → (o : Option Shelf) → HasEnds old e.0 o → HasEnds new e.0 o
  has_stay e h None n = n
  has_stay e h (Some shelf) n = ends_stay e h shelf.ends n

  pub numbered_stay : (look later : ℕ → Option Shelf) (es : Entries) → ((e : Item × ℕ) → Has es e → Has all e)
      → AllByRecursion (λ e. later e.1 ≡ look e.1) es → AreNumbered old look es → AreNumbered new later es
  numbered_stay look later [] f s a = tt
  numbered_stay look later (e ∷ es) f s a = (
    subst (λ o. HasEnds new e.0 o) (sym s.0) (has_stay e (f e (inl refl)) (look e.1) a.0),
    numbered_stay look later es (λ x h. f x (inr h)) s.1 a.1,
  )
