-- The keys of a pool, each once.
use Rattle.std.proofs.Common.{◌≡◌, ℕ, true, false, T, Option, Some, None, List, [], ◌∷◌, map, option_map, refl, ap, ◌∙◌, sym, subst, inl, inr}
use Rattle.std.proofs.lemmas.Bool.{cases_Bool}
use Rattle.std.proofs.lemmas.Cmp.{nat_cmp_total, tied_itself}
use Rattle.std.proofs.lemmas.List.{length-map}
use Rattle.std.proofs.lemmas.Option.{none-some, same_Some}
use Rattle.std.specs.FinMap.{entries, entries_sorted, find, get-entries, is_sorted, len, len-entries}
use Rattle.std.specs.FinMap.Entries.{below_all}
use Rattle.std.specs.List.{AllByRecursion, IsDistinct}
use Rattle.std.specs.Ordering.{eq_by_cmp, is_eq, is_lt, nat_cmp}
use Rattle.std.proofs.Math.Facts.{and_yes}
use Rattle.ifmap_lemmas.specs.Having.{Has, has_map, map_has}
use Rattle.ifmap_lemmas.specs.Numbers.{ties_where_equal}
use Rattle.ifmap_lemmas.specs.Texts.{eq_tells}
use Rattle.ifmap_ident.specs.declared.identifiers.Identifier.{Identifier}
use Rattle.ifmap_ident.specs.Identifiers.{identifier_bytes, identifier_order, same_identifier}
use Rattle.ifmap_pool.specs.Holdings.{Holdings, IsPool, entry_at, key_at}
use Rattle.ifmap_graph.specs.Counted.{AreSoMany}
use Rattle.ifmap_graph.proofs.Alike.{alike_equal}

abbrev Numbered : Type 0
Numbered = List (ℕ × (Identifier × ℕ))

-- a number is not below itself
not_below : (v w : ℕ) → v ≡ w → T (is_lt (nat_cmp v w)) → ⊥
not_below v w e l = subst (λ o. T (is_lt o)) (tied_itself nat_cmp_total v) (subst (λ n. T (is_lt (nat_cmp v n))) (sym e) l)

below_has : (v : ℕ) (es : Numbered) → T (below_all nat_cmp v es) → (e : ℕ × (Identifier × ℕ)) → Has es e → T (is_lt (nat_cmp v e.0))
below_has v [] b e h = absurd h
below_has v (x ∷ xs) b e (inl p) = subst (λ y. T (is_lt (nat_cmp v y.0))) p (and_yes (is_lt (nat_cmp v x.0)) (below_all nat_cmp v xs) b).0
below_has v (x ∷ xs) b e (inr h) = below_has v xs (and_yes (is_lt (nat_cmp v x.0)) (below_all nat_cmp v xs) b).1 e h

find_has : (es : Numbered) (v : ℕ) (x : Identifier × ℕ) → find nat_cmp v es ≡ Some x → Has es (v, x)
find_has [] v x e = absurd (none-some _ e)
find_has (y ∷ ys) v x e = elim (cases_Bool (eq_by_cmp nat_cmp v y.0)) [
  | inl t ↦ let here : y.1 ≡ x = same_Some _ _ (rw t at e)
      in inl (ap (λ n. (n, y.1)) (sym ((ties_where_equal v y.0).0 t)) ∙ ap (λ z. (v, z)) here)
  | inr f ↦ inr (find_has ys v x (rw f at e))
]

has_find : (es : Numbered) → T (is_sorted nat_cmp es) → (e : ℕ × (Identifier × ℕ)) → Has es e → find nat_cmp e.0 es ≡ Some e.1
has_find [] s e h = absurd h
has_find (y ∷ ys) s e (inl p) =
    let t : eq_by_cmp nat_cmp e.0 y.0 ≡ true = ap (λ z. eq_by_cmp nat_cmp e.0 z.0) p ∙ ap is_eq (tied_itself nat_cmp_total e.0)
    in rw t (ap (λ z. Some z.1) p)
has_find (y ∷ ys) s e (inr h) = elim (cases_Bool (eq_by_cmp nat_cmp e.0 y.0)) [
  | inl t ↦ absurd (not_below y.0 e.0 (sym ((ties_where_equal e.0 y.0).0 t))
      (below_has y.0 ys (and_yes (below_all nat_cmp y.0 ys) (is_sorted nat_cmp ys) s).0 e h))
  | inr f ↦ rw f (has_find ys (and_yes (below_all nat_cmp y.0 ys) (is_sorted nat_cmp ys) s).1 e h)
]

module _ (names : Holdings Identifier) (pool : IsPool identifier_order names) where
  apart_all : (e : ℕ × (Identifier × ℕ)) (es : Numbered) → T (below_all nat_cmp e.0 es) → entry_at names e.0 ≡ Some e.1
      → ((x : ℕ × (Identifier × ℕ)) → Has es x → entry_at names x.0 ≡ Some x.1)
      → AllByRecursion (λ a. same_identifier e.1.0 a ≡ false) (map (λ x. x.1.0) es)
  apart_all e [] b is all = tt
  apart_all e (y ∷ ys) b is all = (
    elim (cases_Bool (same_identifier e.1.0 y.1.0)) [
      | inl t ↦ let alike = eq_tells (identifier_bytes e.1.0) (identifier_bytes y.1.0) t
          in absurd (not_below e.0 y.0
          (pool.one_to_one e.0 y.0 y.1.0 (e.1, is, alike_equal e.1.0 y.1.0 alike) (y.1, all y (inl refl), alike_equal y.1.0 y.1.0 refl))
          (and_yes (is_lt (nat_cmp e.0 y.0)) (below_all nat_cmp e.0 ys) b).0)
      | inr f ↦ f
    ],
    apart_all e ys (and_yes (is_lt (nat_cmp e.0 y.0)) (below_all nat_cmp e.0 ys) b).1 is (λ x h. all x (inr h)),
  )

  distinct_keys : (es : Numbered) → T (is_sorted nat_cmp es) → ((x : ℕ × (Identifier × ℕ)) → Has es x → entry_at names x.0 ≡ Some x.1)
      → IsDistinct same_identifier (map (λ x. x.1.0) es)
  unfolding IsDistinct
  distinct_keys [] s all = tt
  distinct_keys (e ∷ es) s all = (
    apart_all e es (and_yes (below_all nat_cmp e.0 es) (is_sorted nat_cmp es) s).0 (all e (inl refl)) (λ x h. all x (inr h)),
    distinct_keys es (and_yes (below_all nat_cmp e.0 es) (is_sorted nat_cmp es) s).1 (λ x h. all x (inr h)),
  )

  entry_is : (x : ℕ × (Identifier × ℕ)) → Has (entries names.live) x → entry_at names x.0 ≡ Some x.1
  entry_is x h = get-entries names.live x.0 ∙ has_find (entries names.live) (entries_sorted names.live) x h

  key_has : (v : ℕ) (a : Identifier) (o : Option (Identifier × ℕ)) → entry_at names v ≡ o → option_map (λ x. x.0) o ≡ Some a
      → Has (map (λ (x : ℕ × (Identifier × ℕ)). x.1.0) (entries names.live)) a
  key_has v a None is e = absurd (none-some _ e)
  key_has v a (Some x) is e =
      subst (Has (map (λ (x : ℕ × (Identifier × ℕ)). x.1.0) (entries names.live))) (same_Some _ _ e)
      (has_map (λ (x : ℕ × (Identifier × ℕ)). x.1.0) (entries names.live) (v, x)
      (find_has (entries names.live) v x (sym (get-entries names.live v) ∙ is)))

  pub keys_counted : AreSoMany (len names.live) (λ a. (v : ℕ) × (key_at names v ≡ Some a))
  keys_counted = (
    map (λ x. x.1.0) (entries names.live),
    distinct_keys (entries names.live) (entries_sorted names.live) entry_is,
    length-map (entries names.live) (λ x. x.1.0) ∙ sym (len-entries names.live),
    λ a. (
      λ h. let m = map_has (λ (x : ℕ × (Identifier × ℕ)). x.1.0) (entries names.live) a h
          in (m.0.0, ap (option_map (λ x. x.0)) (entry_is m.0 m.1) ∙ ap Some m.2),
      λ n. key_has n.0 a (entry_at names n.0) refl n.1,
    ),
  )
