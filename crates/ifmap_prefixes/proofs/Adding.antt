-- One more declaration in the search: it is the last one of its prefix at its path, and every other prefix and path keeps its own.
use Rattle.std.proofs.Common.{◌≡◌, ◌⊎◌, ℕ, zero, suc, ◌+◌, ◌<◌, ◌≤◌, Bool, true, false, cond, List, [], ◌∷◌, ◌++◌, take, length, get_or, refl, ap, sym, ◌∙◌, subst, inl, inr, arith}
use Rattle.std.specs.Prelude.{Option, Some, None}
use Rattle.std.specs.BTreeMap.{get_by}
use Rattle.std.specs.Cmp.{Equal-is}
use Rattle.std.specs.Cmp.Lexicographic.{slice_cmp}
use Rattle.std.specs.List.{slice_get}
use Rattle.std.specs.Option.{option_and_then}
use Rattle.std.specs.Ordering.{is_eq, nat_cmp, ordering_then}
use Rattle.std.proofs.lemmas.Bool.{cases_Bool}
use Rattle.std.proofs.lemmas.List.{length-take-le, take_more}
use Rattle.std.proofs.lemmas.Option.{slice_get_within}
use Rattle.ifmap_elem.specs.declared.readings.Declared.{Declared}
use Rattle.ifmap_lemmas.specs.Orderings.{both_equal}
use Rattle.ifmap_lemmas.specs.Texts.{same_texts, slice_cmp-same}
use Rattle.ifmap_lemmas.specs.Ties.{then_not_tied, then_after_tie}
use Rattle.ifmap_prefixes.specs.Rows.{HasLast, Indexes, IsDeclaredAt, HasIndexFrom, at_text, is_key}

abbrev pub Kept : Type 0
Kept = List ℕ → List ℕ → Option ℕ

still_there : (ds : List Declared) (d e : Declared) (i : ℕ) → slice_get ds i ≡ Some e → slice_get (ds ++ d ∷ []) i ≡ Some e
still_there [] d e i is = cc
still_there (x ∷ xs) d e zero is = is
still_there (x ∷ xs) d e (suc i) is = still_there xs d e i is

at_end : (ds : List Declared) (d : Declared) → slice_get (ds ++ d ∷ []) (length ds) ≡ Some d
at_end [] d = refl
at_end (x ∷ xs) d = at_end xs d

there_or_last : (ds : List Declared) (d e : Declared) (i : ℕ) → slice_get (ds ++ d ∷ []) i ≡ Some e
    → (slice_get ds i ≡ Some e) ⊎ ((i ≡ length ds) × (d ≡ e))
there_or_last [] d e zero is = inr (refl, cc)
there_or_last [] d e (suc i) is = cc
there_or_last (x ∷ xs) d e zero is = inl is
there_or_last (x ∷ xs) d e (suc i) is = elim (there_or_last xs d e i is) [
  | inl s ↦ inl s
  | inr s ↦ inr (ap suc s.0, s.1)
]

key_tells : (d : Declared) (prefix path : List ℕ) → is_key d prefix path ≡ true → (d.prefix ≡ prefix) × (d.path ≡ path)
key_tells d prefix path e =
    let both = both_equal _ _ ((Equal-is (ordering_then (slice_cmp nat_cmp d.prefix prefix) (slice_cmp nat_cmp d.path path))).0 e) in
    (same_texts d.prefix prefix both.0, same_texts d.path path both.1)

key_itself : (d : Declared) (prefix path : List ℕ) → d.prefix ≡ prefix → d.path ≡ path → is_key d prefix path ≡ true
key_itself d prefix path p q =
    ap is_eq (ap (λ o. ordering_then o (slice_cmp nat_cmp d.path path)) (slice_cmp-same d.prefix prefix p) ∙ slice_cmp-same d.path path q)

module _ (ds : List Declared) (d : Declared) (old new : Kept) (at : HasLast old ds)
    (now : (prefix path : List ℕ) → new prefix path ≡ cond (is_key d prefix path) (Some (length ds)) (old prefix path)) where
  module _ (prefix path : List ℕ) where
    new_here : is_key d prefix path ≡ true → new prefix path ≡ Some (length ds)
    new_here e = now prefix path ∙ ap (λ b. cond b (Some (length ds)) (old prefix path)) e

    new_other : is_key d prefix path ≡ false → new prefix path ≡ old prefix path
    new_other e = now prefix path ∙ ap (λ b. cond b (Some (length ds)) (old prefix path)) e

    kept : (i : ℕ) → IsDeclaredAt ds prefix path i → IsDeclaredAt (ds ++ d ∷ []) prefix path i
    kept i is = record {
      row = is.row;
      is = still_there ds d is.row i is.is;
      prefix_is = is.prefix_is;
      path_is = is.path_is;
    }

    found_more : (i : ℕ) → new prefix path ≡ Some i → IsDeclaredAt (ds ++ d ∷ []) prefix path i
    found_more i is = elim (cases_Bool (is_key d prefix path)) [
      | inl e ↦
          let key = key_tells d prefix path e in
          let last : Some (length ds) ≡ Some i = sym (new_here e) ∙ is in
          let same : length ds ≡ i = cc in
          subst (λ k. IsDeclaredAt (ds ++ d ∷ []) prefix path k) same
          (record { row = d; is = at_end ds d; prefix_is = key.0; path_is = key.1 })
      | inr e ↦ kept i (at.found prefix path i (sym (new_other e) ∙ is))
    ]

    last_more : (i : ℕ) → IsDeclaredAt (ds ++ d ∷ []) prefix path i → HasIndexFrom (new prefix path) i
    last_more i is = elim (cases_Bool (is_key d prefix path)) [
      | inl e ↦ record { index = length ds; is = new_here e; late = within }
      | inr e ↦ elim (there_or_last ds d is.row i is.is) [
        | inl s ↦
            let last = at.last prefix path i (record { row = is.row; is = s; prefix_is = is.prefix_is; path_is = is.path_is }) in
            record { index = last.index; is = new_other e ∙ last.is; late = last.late }
        | inr s ↦ absurd (no s.1 e)
      ]
    ]
      where
        within : i ≤ length ds
        within = elim (there_or_last ds d is.row i is.is) [
          | inl s ↦ let l = slice_get_within ds i is.row s in omega arith
          | inr s ↦ let l = s.0 in omega arith
        ]

        no : d ≡ is.row → is_key d prefix path ≡ false → ⊥
        no same e =
            let k : is_key d prefix path ≡ true =
            key_itself d prefix path (ap (λ (x : Declared). x.prefix) same ∙ is.prefix_is)
            (ap (λ (x : Declared). x.path) same ∙ is.path_is) in
            cc

  has_new_last : HasLast new (ds ++ d ∷ [])
  has_new_last = record { found = found_more; last = last_more }

-- a loop's step
pub row_added : (rows : List Declared) (n : ℕ) (d : Declared) → n < length rows → d ≡ get_or rows n d → (old new : Kept)
    → HasLast old (take n rows)
    → ((prefix path : List ℕ) → new prefix path ≡ cond (is_key d prefix path) (Some n) (old prefix path))
    → HasLast new (take (n + 1) rows)
row_added rows n d l is old new at now =
    let long : length (take n rows) ≡ n = length-take-le n rows (omega arith) in
    subst (HasLast new) (sym (take_more rows n d l ∙ ap (λ (x : Declared). take n rows ++ x ∷ []) (sym is)))
    (has_new_last (take n rows) d old new at (λ prefix path. now prefix path
    ∙ ap (λ k. cond (is_key d prefix path) (Some k) (old prefix path)) (sym long)))

pub no_rows : (kept : Kept) → ((prefix path : List ℕ) → kept prefix path ≡ None) → HasLast kept []
no_rows kept none = record {
  found = λ prefix path i is. let wrong : Some i ≡ None = sym is ∙ none prefix path in cc;
  last = λ prefix path i is. let gone : slice_get [] i ≡ Some is.row = is.is in cc;
}

-- ---- one more declaration in the table of tables

module _ (d : Declared) (n : ℕ) (prefix path : List ℕ) (old mid new : Option Indexes) (indexes : Indexes) (own_index : Option ℕ) where
  abbrev at_path : Option Indexes → Option ℕ
  at_path o = option_and_then (λ ns. get_by (at_text path) ns) o

  abbrev is_prefix : Bool
  is_prefix = is_eq (slice_cmp nat_cmp d.prefix prefix)

  abbrev is_path : Bool
  is_path = is_eq (slice_cmp nat_cmp d.path path)

  pub table_added : new ≡ cond is_prefix (Some indexes) mid → mid ≡ cond is_prefix None old
      → get_by (at_text path) indexes ≡ cond is_path (Some n) own_index → (d.prefix ≡ prefix → own_index ≡ at_path old)
      → at_path new ≡ cond (is_key d prefix path) (Some n) (at_path old)
  table_added e3 e2 e1 own = elim (cases_Bool is_prefix) [
    | inl e ↦
        let prefix_is : d.prefix ≡ prefix =
        same_texts d.prefix prefix ((Equal-is (slice_cmp nat_cmp d.prefix prefix)).0 e) in
        ap at_path (e3 ∙ ap (λ b. cond b (Some indexes) mid) e) ∙ e1
        ∙ ap (λ o. cond is_path (Some n) o) (own prefix_is)
        ∙ ap (λ o. cond (is_eq o) (Some n) (at_path old))
        (sym (then_after_tie (slice_cmp nat_cmp d.prefix prefix) (slice_cmp nat_cmp d.path path) e))
    | inr e ↦
        ap at_path (e3 ∙ ap (λ b. cond b (Some indexes) mid) e ∙ e2 ∙ ap (λ b. cond b None old) e)
        ∙ ap (λ b. cond b (Some n) (at_path old))
        (sym (then_not_tied (slice_cmp nat_cmp d.prefix prefix) (slice_cmp nat_cmp d.path path) e))
  ]
