-- The first row of a scope with a prefix is that of the last declaration of the prefix at or round the path.
use Rattle.std.proofs.Common.{◌≡◌, ℕ, zero, suc, ◌≤◌, Bool, true, false, cond, ◌&&◌, List, [], ◌∷◌, ◌++◌, map, reverse, refl, ap, sym, ◌∙◌, inl, inr, arith}
use Rattle.std.specs.Prelude.{◌==◌, Option, Some, None, filter}
use Rattle.std.specs.List.{slice_get, starts_with}
use Rattle.std.specs.Map.{lookup}
use Rattle.std.specs.Option.{option_or}
use Rattle.std.specs.Str.{bytes_eq}
use Rattle.std.proofs.lemmas.Bool.{cases_Bool}
use Rattle.std.proofs.lemmas.List.{map-append, reverse-append}
use Rattle.ifmap_elem.specs.InScope.{binding_told}
use Rattle.ifmap_elem.specs.Scopes.{Binding, row_of_binding}
use Rattle.ifmap_elem.specs.declared.readings.Declared.{Declared}
use Rattle.ifmap_lemmas.specs.Options.{or_none}
use Rattle.ifmap_prefixes.specs.InScope.{scope_by}
use Rattle.ifmap_prefixes.specs.Rows.{IsLastOf, is_at_or_round}

abbrev Row : Type 0
Row = List ℕ × List ℕ

lookup_more : (test : List ℕ → Bool) (xs ys : List Row) → lookup test (xs ++ ys) ≡ option_or (lookup test xs) (lookup test ys)
lookup_more test [] ys = refl
lookup_more test (x ∷ xs) ys = elim (cases_Bool (test x.0)) [ inl e ↦ rw e refl | inr e ↦ rw e (lookup_more test xs ys) ]

module _ (prefix path : List ℕ) where
  abbrev pub space_in : List Declared → Option (List ℕ)
  space_in rows = lookup (bytes_eq prefix) (scope_by rows path).rows

  abbrev stands : Declared → Bool
  stands d = starts_with ◌==◌ path d.path

  abbrev bindings_in : List Declared → List Binding
  bindings_in ds = map binding_told (filter stands ds)

  -- the namespace of the last declaration of the prefix at or round the path
  last_space : List Declared → Option (List ℕ)
  last_space [] = None
  last_space (d ∷ ds) = option_or (last_space ds) (cond (is_at_or_round prefix path d) (Some d.space) None)

  more : (ds : List Declared) (d : Declared) → stands d ≡ true
      → space_in (d ∷ ds) ≡ option_or (space_in ds) (cond (bytes_eq prefix d.prefix) (Some d.space) None)
  more ds d e =
      ap (λ b. lookup (bytes_eq prefix)
      (map row_of_binding (reverse (map binding_told (cond b (d ∷ filter stands ds) (filter stands ds)))))) e
      ∙ ap (λ bs. lookup (bytes_eq prefix) (map row_of_binding bs)) (reverse-append (binding_told d ∷ []) (bindings_in ds))
      ∙ ap (lookup (bytes_eq prefix)) (map-append row_of_binding (reverse (bindings_in ds)) (binding_told d ∷ []))
      ∙ lookup_more (bytes_eq prefix) (map row_of_binding (reverse (bindings_in ds))) ((d.prefix, d.space) ∷ [])

  space_further_on : (ds : List Declared) (d : Declared) → stands d ≡ false → space_in (d ∷ ds) ≡ space_in ds
  space_further_on ds d e =
      ap (λ b. lookup (bytes_eq prefix)
      (map row_of_binding (reverse (map binding_told (cond b (d ∷ filter stands ds) (filter stands ds)))))) e

  space_is_last : (ds : List Declared) → space_in ds ≡ last_space ds
  unfolding last_space
  space_is_last [] = refl
  space_is_last (d ∷ ds) = elim (cases_Bool (stands d)) [
    | inl e ↦
        more ds d e ∙ ap (λ o. option_or o (cond (bytes_eq prefix d.prefix) (Some d.space) None)) (space_is_last ds)
        ∙ ap (λ b. option_or (last_space ds) (cond (b && bytes_eq prefix d.prefix) (Some d.space) None)) (sym e)
    | inr e ↦
        space_further_on ds d e ∙ space_is_last ds ∙ sym (or_none (last_space ds))
        ∙ ap (λ b. option_or (last_space ds) (cond (b && bytes_eq prefix d.prefix) (Some d.space) None)) (sym e)
  ]

  none_at_or_round : (ds : List Declared) → ((i : ℕ) (d : Declared) → slice_get ds i ≡ Some d → is_at_or_round prefix path d ≡ true → ⊥)
      → last_space ds ≡ None
  unfolding last_space
  none_at_or_round [] f = refl
  none_at_or_round (d ∷ ds) f = elim (cases_Bool (is_at_or_round prefix path d)) [
    | inl e ↦ absurd (f 0 d refl e)
    | inr e ↦
        ap (λ o. option_or o (cond (is_at_or_round prefix path d) (Some d.space) None)) (none_at_or_round ds (λ i. f (suc i)))
        ∙ ap (λ b. cond b (Some d.space) None) e
  ]

  last_at_or_round : (ds : List Declared) (i : ℕ) (d : Declared) → slice_get ds i ≡ Some d → is_at_or_round prefix path d ≡ true
      → ((j : ℕ) (e : Declared) → slice_get ds j ≡ Some e → is_at_or_round prefix path e ≡ true → j ≤ i) → last_space ds ≡ Some d.space
  unfolding last_space
  last_at_or_round [] i d is t f = cc
  last_at_or_round (x ∷ xs) zero d is t f =
      let first : x ≡ d = cc in
      ap (λ o. option_or o (cond (is_at_or_round prefix path x) (Some x.space) None))
      (none_at_or_round xs (λ j e s u. let late = f (suc j) e s u in omega arith))
      ∙ ap (λ (y : Declared). cond (is_at_or_round prefix path y) (Some y.space) None) first
      ∙ ap (λ b. cond b (Some d.space) None) t
  last_at_or_round (x ∷ xs) (suc i) d is t f =
      ap (λ o. option_or o (cond (is_at_or_round prefix path x) (Some x.space) None))
      (last_at_or_round xs i d is t (λ j e s u. let late = f (suc j) e s u in omega arith))

  module _ (rows : List Declared) (answer : Option ℕ) (at : IsLastOf rows prefix path answer) where
    pub space_found : (i : ℕ) (d : Declared) → answer ≡ Some i → slice_get rows i ≡ Some d → space_in rows ≡ Some d.space
    space_found i d is there =
        let found = at.found i is in
        let same : Some found.0 ≡ Some d = sym found.1 ∙ there in
        let row : found.0 ≡ d = cc in
        space_is_last rows ∙ last_at_or_round rows i found.0 found.1 found.2
        (λ j e s u.
        let last = at.last j e s u in
        let one : Some last.index ≡ Some i = sym last.is ∙ is in
        let index : last.index ≡ i = cc in
        let late = last.late in
        omega arith)
        ∙ ap (λ (x : Declared). Some x.space) row

    pub space_lacks : answer ≡ None → space_in rows ≡ None
    space_lacks is =
        space_is_last rows ∙ none_at_or_round rows
        (λ i d s u. let last = at.last i d s u in let wrong : Some last.index ≡ None = sym last.is ∙ is in cc)
