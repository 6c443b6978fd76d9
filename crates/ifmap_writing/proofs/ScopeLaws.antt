-- In the scope of each element of what is written, the prefixes `f1`, `f2` and so on stand for the namespaces of the filters.
-- Plan: (1) rows of which no two have one prefix, turned round, or after others; (2) the rows that a root declares; (3) the scope.
use Rattle.std.proofs.Common.{◌≡◌, ◌≢◌, ◌∙◌, ◌++◌, ℕ, ◌+◌, true, false, cond, List, [], ◌∷◌, None, Some, codes, map, reverse, inl, inr}
use Rattle.std.proofs.Common.{refl, ap, sym, subst, arith}
use Rattle.std.specs.Prelude.{◌==◌}
use Rattle.std.specs.List.{AllByRecursion, starts_with}
use Rattle.std.specs.Map.{lookup}
use Rattle.std.specs.Str.{bytes_eq}
use Rattle.std.proofs.lemmas.Bool.{cases_Bool, false_from_ne_true}
use Rattle.std.proofs.lemmas.List.{map-append, reverse-append}
use Rattle.ifmap_lemmas.specs.Filters.{filter_all}
use Rattle.ifmap_lemmas.specs.Texts.{eq_tells}
use Rattle.ifmap_elem.specs.Canonical.{root_declarations}
use Rattle.ifmap_elem.specs.InScope.{binding_told}
use Rattle.ifmap_elem.specs.Scopes.{AllDiffer, Binding, xml_space, row_of_binding}
use Rattle.ifmap_elem.specs.declared.elements.Name as element
use Rattle.ifmap_elem.specs.declared.readings.Declared.{Declared}
use Rattle.ifmap_elem.specs.declared.tokens.Qualified.{Qualified}
use Rattle.ifmap_elem.specs.laws.PrintedScopes.{both_differ, f_letter, n_letter, prefixes_differ, numbered_prefix_rows}
use Rattle.ifmap_elem.specs.laws.PrintedTags.{row_binding}
use Rattle.ifmap_ident.specs.ifmap_reader.declared.scoping.Scope.{Scope}
use Rattle.ifmap_filter.specs.declared.filters.Filter.{Filter}
use Rattle.ifmap_filter.specs.Grammar.{StandsFor, space_of}
use Rattle.ifmap_filter.specs.Printing.{numbered_prefix, numbered_rows, numbered_scope}
use Rattle.ifmap_filter.specs.Texts.{WritesFilter}
use Rattle.ifmap_requests.specs.ifmap_forms.Scopes.{scopes_by}
use Rattle.ifmap_writing.proofs.WiderLaws.{writes_in}

-- ---- (1) rows

abbrev TextPairs : Type 0
TextPairs = List (List ℕ × List ℕ)

abbrev keys : TextPairs → List (List ℕ)
keys rows = map (λ (r : List ℕ × List ℕ). r.0) rows

module _ (p : List ℕ) where
  none_of_key : (k : List ℕ) (rows : TextPairs) → bytes_eq p k ≡ true → AllByRecursion (λ y. k ≢ y) (keys rows)
      → lookup (bytes_eq p) rows ≡ None
  none_of_key k [] same f = refl
  none_of_key k (r ∷ rows) same f =
      let other : bytes_eq p r.0 ≡ false =
      false_from_ne_true (bytes_eq p r.0) (λ e. f.0 (sym (eq_tells p k same) ∙ eq_tells p r.0 e)) in
      rw other (none_of_key k rows same f.1)

  last_other : (rows : TextPairs) (k s : List ℕ) → bytes_eq p k ≡ false → lookup (bytes_eq p) (rows ++ (k, s) ∷ [])
      ≡ lookup (bytes_eq p) rows
  last_other [] k s e = rw e refl
  last_other (r ∷ rows) k s e = ap (cond (bytes_eq p r.0) (Some r.1)) (last_other rows k s e)

  last_new : (rows : TextPairs) (k s : List ℕ) → bytes_eq p k ≡ true → lookup (bytes_eq p) rows ≡ None
      → lookup (bytes_eq p) (rows ++ (k, s) ∷ []) ≡ Some s
  last_new [] k s e none = rw e refl
  last_new (r ∷ rows) k s e none = elim (cases_Bool (bytes_eq p r.0)) [
    | inl f ↦ let h : Some r.1 ≡ None = rw f at none in cc
    | inr f ↦ let h : lookup (bytes_eq p) rows ≡ None = rw f at none in rw f (last_new rows k s e h)
  ]

  -- turned round
  found_turned : (rows : TextPairs) → AllDiffer (keys rows) → lookup (bytes_eq p) (reverse rows) ≡ lookup (bytes_eq p) rows
  found_turned [] d = refl
  found_turned (r ∷ rows) d =
      ap (lookup (bytes_eq p)) (reverse-append (r ∷ []) rows)
      ∙ elim (cases_Bool (bytes_eq p r.0)) [
        | inl e ↦
            let none : lookup (bytes_eq p) (reverse rows) ≡ None = found_turned rows d.1 ∙ none_of_key r.0 rows e d.0 in
            last_new (reverse rows) r.0 r.1 e none ∙ rw e refl
        | inr e ↦ last_other (reverse rows) r.0 r.1 e ∙ found_turned rows d.1 ∙ rw e refl
      ]

  -- after others
  found_later : (rows more : TextPairs) (s : List ℕ) → AllDiffer (keys (rows ++ more)) → lookup (bytes_eq p) more ≡ Some s
      → lookup (bytes_eq p) (rows ++ more) ≡ Some s
  found_later [] more s d found = found
  found_later (r ∷ rows) more s d found =
      let others = found_later rows more s d.1 found in
      elim (cases_Bool (bytes_eq p r.0)) [
        | inl e ↦ let wrong : None ≡ Some s = sym (none_of_key r.0 (rows ++ more) e d.0) ∙ others in cc
        | inr e ↦ rw e others
      ]

-- ---- (2) what a root declares

abbrev turn : List ℕ × List ℕ → List ℕ × List ℕ
turn row = (row.1, row.0)

keys_are : (rows : TextPairs) → map (λ (b : Binding). b.prefix) (map row_binding rows) ≡ keys (map turn rows)
keys_are [] = refl
keys_are (r ∷ rows) = ap (λ (l : List (List ℕ)). r.1 ∷ l) (keys_are rows)

numbered_are : (n : ℕ) (spaces : List (List ℕ)) → map turn (numbered_prefix_rows 0x66 n spaces) ≡ numbered_rows n spaces
numbered_are n [] = refl
numbered_are n (space ∷ spaces) = ap (λ (l : TextPairs). (numbered_prefix n, space) ∷ l) (numbered_are (n + 1) spaces)

module _ (own spaces : List (List ℕ)) where
  abbrev pub its_rows : TextPairs
  its_rows = numbered_prefix_rows 0x6E 1 own ++ numbered_prefix_rows 0x66 1 spaces

  its_differ : AllDiffer (keys (map turn its_rows))
  its_differ =
      subst AllDiffer (keys_are its_rows)
      (both_differ 0x6E 0x66 1 1 own spaces (λ q. absurd (omega arith)) (prefixes_differ 0x6E n_letter 1 own)
      (prefixes_differ 0x66 f_letter 1 spaces))

  found_there : (p s : List ℕ) → lookup (bytes_eq p) (numbered_rows 1 spaces) ≡ Some s
      → lookup (bytes_eq p) (reverse (map turn its_rows)) ≡ Some s
  found_there p s found =
      let parts : map turn its_rows ≡ map turn (numbered_prefix_rows 0x6E 1 own) ++ numbered_rows 1 spaces =
      map-append turn (numbered_prefix_rows 0x6E 1 own) (numbered_prefix_rows 0x66 1 spaces)
      ∙ ap (λ (l : TextPairs). map turn (numbered_prefix_rows 0x6E 1 own) ++ l) (numbered_are 1 spaces) in
      found_turned p (map turn its_rows) its_differ
      ∙ ap (lookup (bytes_eq p)) parts
      ∙ found_later p (map turn (numbered_prefix_rows 0x6E 1 own)) (numbered_rows 1 spaces) s
      (subst (λ (rows : TextPairs). AllDiffer (keys rows)) parts its_differ) found

  -- ---- (3) the scope

  root_starts : (path : List ℕ) → starts_with ◌==◌ path [] ≡ true
  root_starts [] = refl
  root_starts (index ∷ path) = refl

  all_start : (path : List ℕ) (rows : TextPairs)
      → AllByRecursion (λ (d : Declared). starts_with ◌==◌ path d.path ≡ true) (root_declarations rows)
  all_start path [] = tt
  all_start path (r ∷ rows) = (root_starts path, all_start path rows)

  told_last : (bs : List Binding) (b : Binding) → map row_of_binding (bs ++ b ∷ []) ≡ map row_of_binding bs ++ row_of_binding b ∷ []
  told_last bs b = map-append row_of_binding bs (b ∷ [])

  told_turned : (rows : TextPairs) → map row_of_binding (reverse (map binding_told (root_declarations rows))) ≡ reverse (map turn rows)
  told_turned [] = refl
  told_turned (r ∷ rows) =
      ap (map row_of_binding) (reverse-append (row_binding r ∷ []) (map binding_told (root_declarations rows)))
      ∙ told_last (reverse (map binding_told (root_declarations rows))) (row_binding r)
      ∙ ap (λ (l : TextPairs). l ++ turn r ∷ []) (told_turned rows)
      ∙ sym (reverse-append (turn r ∷ []) (map turn rows))

  rows_there : (path inner : List ℕ) → (scopes_by (root_declarations its_rows) path inner).rows ≡ reverse (map turn its_rows)
  rows_there path inner =
      ap (λ (ds : List Declared). map row_of_binding (reverse (map binding_told ds)))
      (filter_all (λ (d : Declared). starts_with ◌==◌ (path ++ inner) d.path) (root_declarations its_rows)
      (all_start (path ++ inner) its_rows))
      ∙ told_turned its_rows

  module _ (path inner : List ℕ) where
    abbrev there : Scope
    there = scopes_by (root_declarations its_rows) path inner

    space_there : (p s : List ℕ) → space_of (numbered_scope spaces) p ≡ Some s → space_of there p ≡ Some s
    space_there [] s h = h
    space_there (b ∷ bs) s h = elim (cases_Bool (bytes_eq (b ∷ bs) (codes "xml"))) [
      | inl e ↦ let own_space : Some xml_space ≡ Some s = rw e at h in rw e own_space
      | inr e ↦
          let found : lookup (bytes_eq (b ∷ bs)) (numbered_rows 1 spaces) ≡ Some s = rw e at h in
          rw e (ap (lookup (bytes_eq (b ∷ bs))) (rows_there path inner) ∙ found_there (b ∷ bs) s found)
    ]

    stands_there : (q : Qualified) (name : element.Name) → StandsFor (numbered_scope spaces) q name → StandsFor there q name
    stands_there q name stands =
        record { space_is = space_there q.prefix name.space stands.space_is; local_is = stands.local_is }

    -- what is written in the prefixes of these namespaces is written in the scope there
    pub written_there : (text : List ℕ) (filter : Filter) → WritesFilter text (numbered_scope spaces) filter
        → WritesFilter text there filter
    written_there = writes_in (numbered_scope spaces) there stands_there
