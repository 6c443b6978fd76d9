-- Namespaces, each once, and their prefixes.
-- 1. What one more namespace at the end of those seen changes: nothing where it is undeclared or among them, else one more.
-- 2. So `AddsSpaces` holds of none, of two lists in turn, and of one namespace, by whether it is declared and known.
-- 3. The rows of prefixes have a namespace exactly where it is among the declared ones, so a lookup in them decides step 2.
-- 4. One row more is put at the end of the rows by the next number; so a table that gains one key keeps to the rows.
-- 5. The table begins with the row of `xml`, and the lack of a namespace never has a prefix.
use Rattle.std.proofs.Common.{◌≡◌, ◌≢◌, ℕ, ◌+◌, suc, List, [], ◌∷◌, ◌++◌, length, Bool, true, false, not, cond, ◌||◌, Option, Some, None, refl, ap, sym, ◌∙◌, subst, arith, inl, inr, append_assoc}
use Rattle.std.proofs.lemmas.List.{append-nil}
use Rattle.std.proofs.lemmas.List.Elements.{filter-append}
use Rattle.std.proofs.lemmas.Bool.{cases_Bool, false_from_ne_true, not-true, and_parts}
use Rattle.std.specs.Prelude.{codes}
use Rattle.std.specs.List.{filter, list_any}
use Rattle.std.specs.Map.{lookup}
use Rattle.std.specs.Option.{is_some}
use Rattle.std.specs.Str.{bytes_eq}
use Rattle.ifmap_lemmas.specs.Numerals.{numeral}
use Rattle.std.specs.Ordering.{nat_cmp, is_eq}
use Rattle.std.specs.Cmp.Lexicographic.{slice_cmp, texts_ties}
use Rattle.std.proofs.lemmas.Cmp.{nat_list_eq_equiv}
use Rattle.ifmap_elem.specs.Namespaces.{once_each, is_declared, declared_among, numbered_prefixes, name_prefixes, AddsSpaces}
use Rattle.ifmap_elem.specs.Scopes.{xml_space}
use Rattle.ifmap_lemmas.specs.Texts.{eq_tells, eq_itself, bytes_apart}

abbrev pub Texts : Type 0
Texts = List (List ℕ)

abbrev pub among : List ℕ → Texts → Bool
among s xs = list_any (bytes_eq s) xs

abbrev pub others_than : List ℕ → Texts → Texts
others_than x xs = filter (λ y. not (bytes_eq y x)) xs

-- what is no x is among the others exactly where it is among all
pub among-others : (s x : List ℕ) (ys : Texts) → bytes_eq s x ≡ false → among s (others_than x ys) ≡ among s ys
among-others s x [] e = refl
among-others s x (y ∷ ys) e = elim (cases_Bool (bytes_eq y x)) [
  | inl f ↦
      let g : bytes_eq s y ≡ false = subst (λ z. bytes_eq s z ≡ false) (sym (eq_tells y x f)) e in
      rw (f, g) (among-others s x ys e)
  | inr f ↦ rw f (ap (λ b. bytes_eq s y || b) (among-others s x ys e))
]

left_out : (p : List ℕ → Bool) (xs : Texts) (s : List ℕ) → p s ≡ false → (b : Bool) → filter p (cond b xs (xs ++ s ∷ [])) ≡ filter p xs
left_out p xs s e true = refl
left_out p xs s e false = filter-append p xs (s ∷ []) ∙ (rw e (append-nil (filter p xs)))

keeps_new : (p : List ℕ → Bool) (x : List ℕ) (xs : Texts) (s : List ℕ) → p s ≡ true → (b : Bool)
    → x ∷ filter p (cond b xs (xs ++ s ∷ [])) ≡ cond b (x ∷ filter p xs) (x ∷ (filter p xs ++ s ∷ []))
keeps_new p x xs s e true = refl
keeps_new p x xs s e false = ap (λ l. x ∷ l) (filter-append p xs (s ∷ []) ∙ (rw e refl))

-- one more at the end is new, or changes nothing
once_each-push : (xs : Texts) (s : List ℕ) → once_each (xs ++ s ∷ []) ≡ cond (among s (once_each xs)) (once_each xs)
    (once_each xs ++ s ∷ [])
once_each-push [] s = refl
once_each-push (x ∷ xs) s = elim (cases_Bool (bytes_eq s x)) [
  | inl e ↦
      let out : not (bytes_eq s x) ≡ false = ap not e in
      rw (once_each-push xs s, e) (ap (λ l. x ∷ l) (left_out (λ y. not (bytes_eq y x)) (once_each xs) s out (among s (once_each xs))))
  | inr e ↦
      let stays : not (bytes_eq s x) ≡ true = ap not e in
      rw (once_each-push xs s, e, among-others s x (once_each xs) e)
      (keeps_new (λ y. not (bytes_eq y x)) x (once_each xs) s stays (among s (once_each xs)))
]

undeclared : (seen : Texts) (s : List ℕ) → is_declared s ≡ false → declared_among (seen ++ s ∷ []) ≡ declared_among seen
undeclared seen s e = ap once_each (filter-append is_declared seen (s ∷ []) ∙ (rw e (append-nil (filter is_declared seen))))

declared_among-push : (seen : Texts) (s : List ℕ) → is_declared s ≡ true
    → declared_among (seen ++ s ∷ []) ≡ cond (among s (declared_among seen)) (declared_among seen) (declared_among seen ++ s ∷ [])
declared_among-push seen s e =
    ap once_each (filter-append is_declared seen (s ∷ []) ∙ (rw e refl)) ∙ once_each-push (filter is_declared seen) s

pub adds_none : (xs : Texts) → AddsSpaces xs [] xs
adds_none xs seen e = e ∙ ap declared_among (sym (append-nil seen))

pub adds_both : (a b c xs ys : Texts) → AddsSpaces a xs b → AddsSpaces b ys c → AddsSpaces a (xs ++ ys) c
adds_both a b c xs ys h k seen e = k (seen ++ xs) (h seen e) ∙ ap declared_among (append_assoc seen xs ys)

pub adds_undeclared : (xs : Texts) (s : List ℕ) → is_declared s ≡ false → AddsSpaces xs (s ∷ []) xs
adds_undeclared xs s n seen e = e ∙ sym (undeclared seen s n)

pub adds_known : (xs : Texts) (s : List ℕ) → is_declared s ≡ true → among s xs ≡ true → AddsSpaces xs (s ∷ []) xs
adds_known xs s d known seen e =
    let k : among s (declared_among seen) ≡ true = ap (among s) (sym e) ∙ known in
    e ∙ sym (declared_among-push seen s d ∙ (rw k refl))

pub adds_new : (xs : Texts) (s : List ℕ) → is_declared s ≡ true → among s xs ≡ false → AddsSpaces xs (s ∷ []) (xs ++ s ∷ [])
adds_new xs s d new seen e =
    let k : among s (declared_among seen) ≡ false = ap (among s) (sym e) ∙ new in
    ap (λ l. l ++ s ∷ []) e ∙ sym (declared_among-push seen s d ∙ (rw k refl))

pub is_some-prefix_rows : (letter : List ℕ) (n : ℕ) (s : List ℕ) (xs : Texts)
    → is_some (lookup (bytes_eq s) (numbered_prefixes letter n xs)) ≡ among s xs
is_some-prefix_rows letter n s [] = refl
is_some-prefix_rows letter n s (x ∷ xs) = elim (cases_Bool (bytes_eq s x)) [
  | inl e ↦ rw e refl
  | inr e ↦ rw e (is_some-prefix_rows letter (n + 1) s xs)
]

-- a namespace that has a prefix adds nothing
pub adds_prefixed : (xs : Texts) (s : List ℕ) → is_some (lookup (bytes_eq s) (name_prefixes xs)) ≡ true → AddsSpaces xs (s ∷ []) xs
adds_prefixed xs s known = elim (cases_Bool (is_declared s)) [
  | inr d ↦ adds_undeclared xs s d
  | inl d ↦
      let other : bytes_eq s xml_space ≡ false = not-true (bytes_eq s xml_space)
      (and_parts (not (bytes_eq s [])) (not (bytes_eq s xml_space)) d).1 in
      adds_known xs s d (sym (is_some-prefix_rows (codes "n") 1 s xs) ∙ (rw other at known))
]

-- no namespace adds nothing
pub adds_no_space : (xs : Texts) (s : List ℕ) → s ≡ [] → AddsSpaces xs (s ∷ []) xs
adds_no_space xs s e = adds_undeclared xs s (ap is_declared e)

-- one without a prefix, which is a namespace, is new
pub adds_unprefixed : (xs ys : Texts) (s : List ℕ) → (s ≡ [] → ⊥) → is_some (lookup (bytes_eq s) (name_prefixes xs)) ≡ false
    → ys ≡ xs ++ s ∷ [] → AddsSpaces xs (s ∷ []) ys
adds_unprefixed xs ys s some none is =
    let full : bytes_eq s [] ≡ false = false_from_ne_true (bytes_eq s []) (λ e. some (eq_tells s [] e)) in
    let parts = unprefixed s xs none in
    let xml : bytes_eq s xml_space ≡ false = parts.0 in
    let new = adds_new xs s (rw (full, xml) refl) parts.1 in
    λ seen e. is ∙ new seen e
  where
    unprefixed : (s : List ℕ) (xs : Texts) → is_some (lookup (bytes_eq s) (name_prefixes xs)) ≡ false
        → (bytes_eq s xml_space ≡ false) × (among s xs ≡ false)
    unprefixed s xs none =
        let off : bytes_eq s xml_space ≡ false = false_from_ne_true (bytes_eq s xml_space)
        (λ e. let h : true ≡ false = rw e at none in cc) in
        (off, sym (is_some-prefix_rows (codes "n") 1 s xs) ∙ (rw off at none))

pub prefix_rows-push : (letter : List ℕ) (n : ℕ) (xs : Texts) (s : List ℕ)
    → numbered_prefixes letter n (xs ++ s ∷ []) ≡ numbered_prefixes letter n xs ++ (s, letter ++ numeral (n + length xs)) ∷ []
prefix_rows-push letter n [] s = let e : n ≡ n + length {A = List ℕ} [] = omega arith in ap (λ (k : ℕ). (s, letter ++ numeral k) ∷ []) e
prefix_rows-push letter n (x ∷ xs) s =
    let e : n + 1 + length xs ≡ n + suc (length xs) = omega arith in
    ap (λ l. (x, letter ++ numeral n) ∷ l) (prefix_rows-push letter (n + 1) xs s
    ∙ ap (λ (k : ℕ). numbered_prefixes letter (n + 1) xs ++ (s, letter ++ numeral k) ∷ []) e)

abbrev pub PrefixRows : Type 0
PrefixRows = List (List ℕ × List ℕ)

lookup-other : (p : List ℕ → Bool) (rows : PrefixRows) (s label : List ℕ) → p s ≡ false → lookup p (rows ++ (s, label) ∷ []) ≡ lookup p rows
lookup-other p [] s label e = rw e refl
lookup-other p (r ∷ rows) s label e = ap (cond (p r.0) (Some r.1)) (lookup-other p rows s label e)

lookup-new : (p : List ℕ → Bool) (rows : PrefixRows) (s label : List ℕ) → p s ≡ true → lookup p rows ≡ None
    → lookup p (rows ++ (s, label) ∷ []) ≡ Some label
lookup-new p [] s label e none = rw e refl
lookup-new p (r ∷ rows) s label e none = elim (cases_Bool (p r.0)) [
  | inl f ↦ let h : Some r.1 ≡ None = rw f at none in cc
  | inr f ↦ rw f (lookup-new p rows s label e (rw f at none))
]

-- a table from namespaces to prefixes, where one more is numbered
one_row_more : (old new : List ℕ → Option (List ℕ)) (xs : Texts) (s label : List ℕ)
    → ((q : List ℕ) → old q ≡ lookup (bytes_eq q) (name_prefixes xs))
    → ((q : List ℕ) → new q ≡ cond (is_eq (slice_cmp nat_cmp s q)) (Some label) (old q)) → label ≡ codes "n" ++ numeral (1 + length xs)
    → lookup (bytes_eq s) (name_prefixes xs) ≡ None
    → (q : List ℕ) → new q ≡ lookup (bytes_eq q) (name_prefixes (xs ++ s ∷ []))
one_row_more old new xs s label was now is none q =
    let rows : name_prefixes (xs ++ s ∷ []) ≡ name_prefixes xs ++ (s, codes "n" ++ numeral (1 + length xs)) ∷ [] = ap
    (λ l. (xml_space, codes "xml") ∷ l) (prefix_rows-push (codes "n") 1 xs s) in
    now q ∙ ap (λ b. cond b (Some label) (old q)) (sym (texts_ties s q)) ∙ row (bytes_eq s q) refl ∙ ap (lookup (bytes_eq q)) (sym rows)
  where
    row : (b : Bool) → bytes_eq s q ≡ b → cond b (Some label) (old q) ≡ lookup (bytes_eq q)
        (name_prefixes xs ++ (s, codes "n" ++ numeral (1 + length xs)) ∷ [])
    row true e =
        let same : s ≡ q = eq_tells s q e in
        ap (λ l. Some l) is ∙ sym (lookup-new (bytes_eq q) (name_prefixes xs) s (codes "n" ++ numeral (1 + length xs))
        (subst (λ t. bytes_eq t s ≡ true) same (eq_itself s)) (subst (λ t. lookup (bytes_eq t) (name_prefixes xs) ≡ None) same none))
    row false e = was q ∙ sym (lookup-other (bytes_eq q) (name_prefixes xs) s (codes "n" ++ numeral (1 + length xs)) (bytes_apart s q e))

-- the same as code makes it, with a copy of the namespace as the key, and another in the list
pub one_key_more : (old new : List ℕ → Option (List ℕ)) (xs ys : Texts) (s key other label : List ℕ)
    → ((q : List ℕ) → old q ≡ lookup (bytes_eq q) (name_prefixes xs))
    → ((q : List ℕ) → new q ≡ cond (is_eq (slice_cmp nat_cmp key q)) (Some label) (old q)) → key ≡ s → other ≡ s → ys ≡ xs ++ other ∷ []
    → label ≡ codes "n" ++ numeral (length xs + 1)
    → lookup (bytes_eq s) (name_prefixes xs) ≡ None → (q : List ℕ) → new q ≡ lookup (bytes_eq q) (name_prefixes ys)
one_key_more old new xs ys s key other label was now k o more is none q =
    let e : length xs + 1 ≡ 1 + length xs = omega arith in
    one_row_more old new xs s label was (λ t. now t ∙ ap (λ x. cond (is_eq (slice_cmp nat_cmp x t)) (Some label) (old t)) k)
    (is ∙ ap (λ n. codes "n" ++ numeral n) e) none q
    ∙ ap (λ l. lookup (bytes_eq q) (name_prefixes l)) (sym (more ∙ ap (λ x. xs ++ x ∷ []) o))

-- the lack of a namespace has no prefix where nothing is numbered
pub none_first : (xs : Texts) → xs ≡ [] → lookup (bytes_eq []) (name_prefixes xs) ≡ None
none_first xs e = ap (λ l. lookup (bytes_eq []) (name_prefixes l)) e

-- nor where one more namespace is
pub none_more : (xs ys : Texts) (s other : List ℕ) → s ≢ [] → other ≡ s → ys ≡ xs ++ other ∷ []
    → lookup (bytes_eq []) (name_prefixes xs) ≡ None
    → lookup (bytes_eq []) (name_prefixes ys) ≡ None
none_more xs ys s other some o more none =
    let off : bytes_eq [] s ≡ false = false_from_ne_true (bytes_eq [] s) (λ e. some (sym (eq_tells [] s e))) in
    ap (λ l. lookup (bytes_eq []) (name_prefixes l)) (more ∙ ap (λ x. xs ++ x ∷ []) o)
    ∙ ap (λ l. lookup (bytes_eq []) ((xml_space, codes "xml") ∷ l)) (prefix_rows-push (codes "n") 1 xs s)
    ∙ lookup-other (bytes_eq []) (name_prefixes xs) s (codes "n" ++ numeral (1 + length xs)) off ∙ none

-- the table that begins with the prefix `xml`
pub first_row : (old new : List ℕ → Option (List ℕ)) (xs : Texts) (key label : List ℕ) → ((q : List ℕ) → old q ≡ None)
    → ((q : List ℕ) → new q ≡ cond (is_eq (slice_cmp nat_cmp key q)) (Some label) (old q)) → key ≡ xml_space → label ≡ codes "xml" → xs ≡ []
    → (q : List ℕ) → new q ≡ lookup (bytes_eq q) (name_prefixes xs)
first_row old new xs key label was now k is none q =
    now q ∙ ap (λ x. cond (is_eq (slice_cmp nat_cmp x q)) (Some label) (old q)) k
    ∙ ap (λ b. cond b (Some label) (old q)) (sym (texts_ties xml_space q) ∙ nat_list_eq_equiv.symm xml_space q)
    ∙ (λ i. cond (bytes_eq q xml_space) (Some (is i)) (was q i)) ∙ ap (λ l. lookup (bytes_eq q) (name_prefixes l)) (sym none)
