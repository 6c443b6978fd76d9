-- What prefixes are bound to at a path, one declaration at a time.
use Rattle.std.proofs.Common.{◌≡◌, ◌≢◌, ℕ, ◌+◌, ◌<◌, ◌==◌, ◌&&◌, Bool, true, false, cond, List, [], ◌∷◌, ◌++◌, map, reverse, take, length, get_or, refl, ap, sym, ◌∙◌, subst, inl, inr}
use Rattle.std.specs.Prelude.{Option, Some, None, filter}
use Rattle.std.specs.List.{AllByRecursion, starts_with}
use Rattle.std.specs.List.Sorted.{IsStrictlySortedBy}
use Rattle.std.specs.Map.{lookup}
use Rattle.std.specs.Ordering.{nat_cmp, is_eq}
use Rattle.std.specs.declared.cmp.Ordering.TheVariants.{Less}
use Rattle.std.specs.Cmp.Lexicographic.{slice_cmp, texts_ties}
use Rattle.std.specs.Str.{bytes_eq}
use Rattle.std.proofs.lemmas.Bool.{cases_Bool, and_parts}
use Rattle.std.proofs.lemmas.List.{append-nil, map-append, reverse-append, take_more}
use Rattle.std.proofs.lemmas.List.Elements.{filter-append}
use Rattle.std.proofs.lemmas.Map.Keys.{sorted_head, sorted_tail}
use Rattle.ifmap_elem.specs.declared.readings.Declared.{Declared}
use Rattle.ifmap_elem.specs.Scopes.{Scope, Binding, AllDiffer}
use Rattle.ifmap_lemmas.specs.Texts.{eq_tells, eq_itself}
use Rattle.ifmap_elem.specs.InScope.{declared_at, is_listed, listed_space}
use Rattle.ifmap_elem.specs.InScope.{binding_told}

-- a binding further in, of a listed prefix and of another
listed_inner : (scope : Scope) (b : Binding) (q : List ℕ) → is_listed b.prefix ≡ true
    → listed_space (b ∷ scope) q ≡ cond (bytes_eq b.prefix q) (Some b.space) (listed_space scope q)
listed_inner scope b q is = elim (cases_Bool (bytes_eq b.prefix q)) [
  | inl e ↦ let same : is_listed q ≡ true = subst (λ p. is_listed p ≡ true) (eq_tells b.prefix q e) is in rw (same, e) refl
  | inr e ↦ rw e refl
]

listed_outer : (scope : Scope) (b : Binding) (q : List ℕ) → is_listed b.prefix ≡ false → listed_space (b ∷ scope) q ≡ listed_space scope q
listed_outer scope b q is = elim (cases_Bool (bytes_eq b.prefix q)) [
  | inl e ↦ let same : is_listed q ≡ false = subst (λ p. is_listed p ≡ false) (eq_tells b.prefix q e) is in rw same refl
  | inr e ↦ rw e refl
]

pub none_listed : (q : List ℕ) → None ≡ listed_space [] q
none_listed q = elim (cases_Bool (is_listed q)) [ inl e ↦ rw e refl | inr e ↦ rw e refl ]

module _ (path : List ℕ) where
  abbrev stands : Declared → Bool
  stands d = starts_with ◌==◌ path d.path

  last_is : (ds : List Declared) (d : Declared) → declared_at path (ds ++ d ∷ []) ≡ cond (stands d) (binding_told d ∷ declared_at path ds)
      (declared_at path ds)
  last_is ds d = ap (λ xs. reverse (map binding_told xs)) (filter-append stands ds (d ∷ [])) ∙ elim (cases_Bool (stands d)) [
    | inl e ↦ rw e (ap reverse (map-append binding_told (filter stands ds) (d ∷ []))
        ∙ reverse-append (map binding_told (filter stands ds)) (binding_told d ∷ []))
    | inr e ↦ rw e (ap (λ xs. reverse (map binding_told xs)) (append-nil (filter stands ds)))
  ]

  module _ (ds : List Declared) (i : ℕ) (d : Declared) (l : i < length ds) (is : d ≡ get_or ds i d) (old : List ℕ → Option (List ℕ))
      (at : (q : List ℕ) → old q ≡ listed_space (declared_at path (take i ds)) q) where
    more_is : declared_at path (take (i + 1) ds) ≡ cond (stands d) (binding_told d ∷ declared_at path (take i ds))
        (declared_at path (take i ds))
    more_is = ap (declared_at path) (take_more ds i d l ∙ ap (λ (x : Declared). take i ds ++ x ∷ []) (sym is)) ∙ last_is (take i ds) d

    pub row_passed : (row : Bool) → row ≡ (stands d && is_listed d.prefix) → row ≡ false → (q : List ℕ)
        → old q ≡ listed_space (declared_at path (take (i + 1) ds)) q
    row_passed row tells fails q = at q ∙ elim (cases_Bool (stands d)) [
      | inl e ↦
          let other : is_listed d.prefix ≡ false = let k : (true && is_listed d.prefix) ≡ false = ap (λ b. b && is_listed d.prefix)
          (sym e) ∙ sym tells ∙ fails in k in
          sym (listed_outer (declared_at path (take i ds)) (binding_told d) q other)
          ∙ ap (λ s. listed_space s q) (sym (more_is ∙ ap (λ b. cond b (binding_told d ∷ declared_at path (take i ds))
          (declared_at path (take i ds))) e))
      | inr e ↦ ap (λ s. listed_space s q) (sym (more_is ∙ ap (λ b. cond b (binding_told d ∷ declared_at path (take i ds))
          (declared_at path (take i ds))) e))
    ]

    pub row_taken : (row : Bool) → row ≡ (stands d && is_listed d.prefix) → row ≡ true
        → (new : List ℕ → Option (List ℕ)) (key space : List ℕ) → key ≡ d.prefix → space ≡ d.space
        → ((q : List ℕ) → new q ≡ cond (is_eq (slice_cmp nat_cmp key q)) (Some space) (old q)) → (q : List ℕ)
        → new q ≡ listed_space (declared_at path (take (i + 1) ds)) q
    row_taken row tells holds new key space k s now q =
        let both = and_parts (stands d) (is_listed d.prefix) (sym tells ∙ holds) in
        now q ∙ (λ i. cond (is_eq (slice_cmp nat_cmp (k i) q)) (Some (s i)) (at q i))
        ∙ ap (λ b. cond b (Some d.space) (listed_space (declared_at path (take i ds)) q)) (sym (texts_ties d.prefix q))
        ∙ sym (listed_inner (declared_at path (take i ds)) (binding_told d) q both.1)
        ∙ ap (λ scope. listed_space scope q) (sym (more_is ∙ ap (λ b. cond b (binding_told d ∷ declared_at path (take i ds))
        (declared_at path (take i ds))) both.0))

-- a table as the list of its rows
pub found_by_text : (rows : List (List ℕ × List ℕ)) (prefix : List ℕ)
    → lookup (bytes_eq prefix) rows ≡ lookup (λ q. is_eq (slice_cmp nat_cmp prefix q)) rows
found_by_text rows prefix = λ i. lookup (λ q. texts_ties prefix q i) rows

all_apart : (k : List ℕ) (ks : List (List ℕ)) → AllByRecursion (λ y. slice_cmp nat_cmp k y ≡ Less) ks → AllByRecursion (λ y. k ≢ y) ks
all_apart k [] h = tt
all_apart k (y ∷ ys) h = (
  λ same.
      let less : slice_cmp nat_cmp k k ≡ Less = subst (λ z. slice_cmp nat_cmp k z ≡ Less) (sym same) h.0 in
      let no : bytes_eq k k ≡ false = texts_ties k k ∙ ap is_eq less in
      let yes : bytes_eq k k ≡ true = eq_itself k in cc,
  all_apart k ys h.1,
)

pub rising_differ : (ks : List (List ℕ)) → IsStrictlySortedBy (slice_cmp nat_cmp) ks → AllDiffer ks
rising_differ [] h = tt
rising_differ (k ∷ ks) h =
    (all_apart k ks (sorted_head (slice_cmp nat_cmp) k ks h), rising_differ ks (sorted_tail (slice_cmp nat_cmp) k ks h))

pub rows_once : (rows entries : List (List ℕ × List ℕ)) → rows ≡ entries → IsStrictlySortedBy (slice_cmp nat_cmp) (map (λ e. e.0) entries)
    → AllDiffer (map (λ row. row.0) rows)
rows_once rows entries is up =
    subst (λ (rs : List (List ℕ × List ℕ)). AllDiffer (map (λ row. row.0) rs)) (sym is) (rising_differ (map (λ e. e.0) entries) up)
