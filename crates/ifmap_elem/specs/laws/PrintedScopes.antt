-- The declarations of a root bind a prefix to each namespace in it, and each prefix to one namespace.
-- 1. A label, a letter and a numeral, is a name part in ASCII that is not `xml` or `xmlns`; labels of different numbers differ.
-- 2. The rows of prefixes bind the label of a number to the namespace that has this number, and leave other prefixes as they were.
-- 3. A namespace has a row exactly where it is declared and among all; the lack of one and that of `xml` are bound from outside.
-- 4. So each namespace in the element is written by a prefix that is bound to it (`all_resolved`).
-- 5. The declarations of one letter, or of two, fit, are bindings and have different prefixes (`rows_fit`, `both_differ`).
use Rattle.std.proofs.Common.{◌≡◌, ◌≢◌, ℕ, ◌+◌, ◌<◌, ◌≤◌, Bool, true, false, not, ◌||◌, List, [], ◌∷◌, ◌++◌, map, refl, ap, sym, ◌∙◌, subst, arith, inl, inr, Option, Some, None}
use Rattle.std.specs.Prelude.{◌==◌, nat_le, codes, filter}
use Rattle.std.specs.List.{AllByRecursion}
use Rattle.ifmap_lemmas.specs.Numerals.{numeral, numeral_digits, one_number}
use Rattle.std.specs.Int.{is_in_range}
use Rattle.std.specs.Map.{lookup}
use Rattle.std.specs.Str.{bytes_eq, byte}
use Rattle.std.specs.Str.Parse.{AllDigits}
use Rattle.std.proofs.lemmas.Bool.{cases_Bool, false_from_ne_true, or_right}
use Rattle.std.proofs.lemmas.Bool.Decides.{nat_tests}
use Rattle.std.proofs.lemmas.Slice.Eq.{bytes_eq-Decides}
use Rattle.std.proofs.lemmas.Str.Parse.{digit_from_value}
use Rattle.ifmap_elem.specs.Chars.{AllAre}
use Rattle.ifmap_elem.specs.Names.{IsNamePart, is_name_start, is_name_character, middle_dot, with_prefix}
use Rattle.ifmap_elem.specs.Scopes.{Scope, AllDiffer, IsBinding, prefix_space, root_scope, xml_space}
use Rattle.ifmap_elem.specs.Fit.{IsNamespace, IsDeclarable}
use Rattle.ifmap_elem.specs.Canonical.{after_prefix}
use Rattle.ifmap_elem.specs.Namespaces.{once_each, is_declared, declared_among, numbered_prefixes, name_prefixes}
use Rattle.ifmap_elem.specs.laws.NameBytes.{part_is_some}
use Rattle.ifmap_elem.specs.laws.NamespaceLaws.{among, among-others, is_some-prefix_rows, PrefixRows, Texts}
use Rattle.ifmap_lemmas.specs.Texts.{eq_tells, eq_itself, is_ascii}
use Rattle.ifmap_lemmas.specs.Members.{all_of_test}
use Rattle.ifmap_lemmas.specs.Absent.{none_where_not_some}
use Rattle.ifmap_lemmas.specs.Options.{some_is}
use Rattle.ifmap_lemmas.specs.Apart.{other_bytes_differ}
use Rattle.ifmap_elem.specs.laws.PrintedTags.{prefix_or, row_binding, Resolves, FitRow, ascii_part}

-- numbered prefixes

abbrev pub label : ℕ → ℕ → List ℕ
label letter n = letter ∷ numeral n

-- a letter that can begin a prefix, which is neither `xml` nor `xmlns`
pub record IsLetter (letter : ℕ) : Type 0 where
  pub start : is_name_start letter ≡ true
  pub low : is_ascii letter ≡ true
  pub no_x : letter ≢ byte "x"

pub n_letter : IsLetter (byte "n")
n_letter = record { start = refl; low = refl; no_x = λ e. absurd (omega arith) }

pub f_letter : IsLetter (byte "f")
f_letter = record { start = refl; low = refl; no_x = λ e. absurd (omega arith) }

pub among_tests : (a b c d e f : Bool) → (a || b || c || true || d || e || f) ≡ true
among_tests true b c d e f = refl
among_tests false true c d e f = refl
among_tests false false true d e f = refl
among_tests false false false d e f = refl

pub digit_character : (c : ℕ) → byte "0" ≤ c → c ≤ byte "9" → is_name_character c ≡ true
digit_character c low high =
    let test : nat_le (byte "0") c ≡ true = grind (arith, nat_tests) in
    let also : nat_le c (byte "9") ≡ true = grind (arith, nat_tests) in
    let both : is_in_range (byte "0") (byte "9") c ≡ true = rw (test, also) refl in
    rw both
    (among_tests (is_name_start c) (c == byte "-") (c == byte ".") (c == middle_dot) (is_in_range 0x300 0x36F c)
    (is_in_range 0x203F 0x2040 c))

pub digits_characters : (ds : List ℕ) → AllDigits 10 ds → AllAre is_name_character ds
digits_characters [] f = tt
digits_characters (d ∷ ds) f = let r = digit_from_value d f.0 in (digit_character d r.0 r.1, digits_characters ds f.1)

pub digit_ascii : (c : ℕ) → c ≤ byte "9" → is_ascii c ≡ true
digit_ascii c high = let test : nat_le 128 c ≡ false = grind (arith, nat_tests) in ap not test

pub digits_ascii : (ds : List ℕ) → AllDigits 10 ds → AllAre is_ascii ds
digits_ascii [] f = tt
digits_ascii (d ∷ ds) f = let r = digit_from_value d f.0 in (digit_ascii d r.1, digits_ascii ds f.1)

label_some : (letter n : ℕ) → label letter n ≢ []
label_some letter n e = cc

-- what the rows bind

abbrev pub numbered_prefix_rows : ℕ → ℕ → Texts → PrefixRows
numbered_prefix_rows letter n xs = numbered_prefixes (letter ∷ []) n xs

abbrev pub with_numbered_prefixes : ℕ → ℕ → Texts → Scope → Scope
with_numbered_prefixes letter n xs more = map row_binding (numbered_prefix_rows letter n xs) ++ more

-- a namespace, and the number of its prefix
pub record HasNumber (letter n : ℕ) (xs : Texts) (more : Scope) (s p : List ℕ) : Type 0 where
  pub number : ℕ
  pub from : n ≤ number
  pub prefix_is : p ≡ label letter number
  pub binds : prefix_space (with_numbered_prefixes letter n xs more) p ≡ Some s

module _ (letter : ℕ) (is : IsLetter letter) where
  label_part : (n : ℕ) → IsNamePart (label letter n)
  label_part n =
      let digits = numeral_digits n in
      ascii_part letter (numeral n) is.start (digits_characters (numeral n) digits) (is.low, digits_ascii (numeral n) digits)

  label_no_x : (n : ℕ) (bs : List ℕ) → label letter n ≢ byte "x" ∷ bs
  label_no_x n bs e = let h : letter ≡ byte "x" = cc in is.no_x h

  labels_differ : (m n : ℕ) → m ≢ n → label letter m ≢ label letter n
  labels_differ m n other e = let d : numeral m ≡ numeral n = cc in other (one_number m n d)

  rows_bind : (n : ℕ) (xs : Texts) (more : Scope) (s p : List ℕ) → lookup (bytes_eq s) (numbered_prefix_rows letter n xs) ≡ Some p
      → HasNumber letter n xs more s p
  rows_bind n [] more s p found = let wrong : None ≡ Some p = found in cc
  rows_bind n (x ∷ xs) more s p found = elim (cases_Bool (bytes_eq s x)) [
    | inl e ↦
        let h : Some (label letter n) ≡ Some p = rw e at found in
        let q : label letter n ≡ p = cc in
        let t : bytes_eq (label letter n) p ≡ true = (bytes_eq-Decides (label letter n) p).1 q in
        record { number = n; from = omega arith; prefix_is = sym q; binds = rw t (ap (λ z. Some z) (sym (eq_tells s x e))) }
    | inr e ↦
        let h : lookup (bytes_eq s) (numbered_prefix_rows letter (n + 1) xs) ≡ Some p = rw e at found in
        let r : HasNumber letter (n + 1) xs more s p = rows_bind (n + 1) xs more s p h in
        let t : bytes_eq (label letter n) p ≡ false =
        other_bytes_differ (label letter n) p (λ q. labels_differ n r.number (λ same. absurd (omega arith)) (q ∙ r.prefix_is)) in
        record { number = r.number; from = omega arith; prefix_is = r.prefix_is; binds = rw t r.binds }
  ]

pub past_rows : (letter n : ℕ) (xs : Texts) (more : Scope) (p : List ℕ) → ((k : ℕ) → label letter k ≢ p)
    → prefix_space (with_numbered_prefixes letter n xs more) p ≡ prefix_space more p
past_rows letter n [] more p other = refl
past_rows letter n (x ∷ xs) more p other = rw (other_bytes_differ (label letter n) p (other n)) (past_rows letter (n + 1) xs more p other)

resolves_none : (prefixes : PrefixRows) (scope : Scope) (s : List ℕ) → lookup (bytes_eq s) prefixes ≡ None → s ≡ []
    → prefix_space scope [] ≡ Some []
    → Resolves prefixes scope s
resolves_none prefixes scope s found is default = record {
  printed = λ local. ap (λ o. after_prefix o local) found ∙ sym (ap (λ o. with_prefix (prefix_or o) local) found);
  is_prefix = inl (ap prefix_or found);
  no_xmlns = λ e. let wrong : [] ≡ codes "xmlns" = sym (ap prefix_or found) ∙ e in cc;
  bound_to = ap (prefix_space scope) (ap prefix_or found) ∙ default ∙ ap (λ z. Some z) (sym is);
  none = λ e. is;
}

resolves_some : (prefixes : PrefixRows) (scope : Scope) (s p : List ℕ) → lookup (bytes_eq s) prefixes ≡ Some p → IsNamePart p
    → p ≢ codes "xmlns" → prefix_space scope p ≡ Some s → Resolves prefixes scope s
resolves_some prefixes scope s p found part other binds = record {
  printed = λ local. ap (λ o. after_prefix o local) found ∙ colon p local (part_is_some p part)
      ∙ sym (ap (λ o. with_prefix (prefix_or o) local) found);
  is_prefix = inr (subst IsNamePart (sym (ap prefix_or found)) part);
  no_xmlns = λ e. other (sym (ap prefix_or found) ∙ e);
  bound_to = ap (prefix_space scope) (ap prefix_or found) ∙ binds;
  none = λ e. absurd (part_is_some p part (sym (ap prefix_or found) ∙ e));
}
  where
    colon : (p local : List ℕ) → p ≢ [] → p ++ (codes ":" ++ local) ≡ with_prefix p local
    colon [] local some = absurd (some refl)
    colon (b ∷ bs) local some = refl

-- which namespaces have a number

among_once : (s : List ℕ) (xs : Texts) → among s (once_each xs) ≡ among s xs
among_once s [] = refl
among_once s (x ∷ xs) = elim (cases_Bool (bytes_eq s x)) [
  | inl e ↦ rw e refl
  | inr e ↦ rw e (among-others s x (once_each xs) e ∙ among_once s xs)
]

among_kept : (test : List ℕ → Bool) (s : List ℕ) (xs : Texts) → test s ≡ true → among s (filter test xs) ≡ among s xs
among_kept test s [] t = refl
among_kept test s (x ∷ xs) t = elim (cases_Bool (test x)) [
  | inl e ↦ rw e (ap (λ b. bytes_eq s x || b) (among_kept test s xs t))
  | inr e ↦
      let other : bytes_eq s x ≡ false = false_from_ne_true (bytes_eq s x)
      (λ same. let wrong : true ≡ false = sym t ∙ ap test (eq_tells s x same) ∙ e in cc) in
      rw (e, other) (among_kept test s xs t)
]

among_dropped : (test : List ℕ → Bool) (s : List ℕ) (xs : Texts) → test s ≡ false → among s (filter test xs) ≡ false
among_dropped test s [] t = refl
among_dropped test s (x ∷ xs) t = elim (cases_Bool (test x)) [
  | inl e ↦
      let other : bytes_eq s x ≡ false = false_from_ne_true (bytes_eq s x)
      (λ same. let wrong : false ≡ true = sym t ∙ ap test (eq_tells s x same) ∙ e in cc) in
      rw (e, other) (among_dropped test s xs t)
  | inr e ↦ rw e (among_dropped test s xs t)
]

xml_part : IsNamePart (codes "xml")
xml_part =
    ascii_part (byte "x") (codes "ml") refl (all_of_test is_name_character (codes "ml") refl) (all_of_test is_ascii (codes "xml") refl)

-- the default and `xml` are bound as they are outside of a document
pub record IsOutermost (scope : Scope) : Type 0 where
  pub default : prefix_space scope [] ≡ Some []
  pub xml : prefix_space scope (codes "xml") ≡ Some xml_space

pub root_outermost : IsOutermost root_scope
root_outermost = record { default = refl; xml = refl }

pub rows_outermost : (letter n : ℕ) (xs : Texts) (more : Scope) → IsLetter letter → IsOutermost more
    → IsOutermost (with_numbered_prefixes letter n xs more)
rows_outermost letter n xs more is outer = record {
  default = past_rows letter n xs more [] (label_some letter) ∙ outer.default;
  xml = past_rows letter n xs more (codes "xml") (λ k. label_no_x letter is k (codes "ml")) ∙ outer.xml;
}

module _ (all : Texts) (more : Scope) (outer : IsOutermost more) where
  abbrev its_prefixes : PrefixRows
  its_prefixes = name_prefixes (declared_among all)

  abbrev its_scope : Scope
  its_scope = with_numbered_prefixes (byte "n") 1 (declared_among all) more

  outermost : IsOutermost its_scope
  outermost = rows_outermost (byte "n") 1 (declared_among all) more n_letter outer

  no_namespace : (s : List ℕ) → s ≡ [] → Resolves its_prefixes its_scope s
  no_namespace s is =
      let out : is_declared s ≡ false = ap is_declared is in
      let none : among s (declared_among all) ≡ false = among_once s (filter is_declared all) ∙ among_dropped is_declared s all out in
      let rows : lookup (bytes_eq s) (numbered_prefix_rows (byte "n") 1 (declared_among all)) ≡ None = none_where_not_some _
      (is_some-prefix_rows (codes "n") 1 s (declared_among all) ∙ none) in
      let xml : bytes_eq s xml_space ≡ false = ap (λ z. bytes_eq z xml_space) is in
      resolves_none its_prefixes its_scope s (rw xml rows) is outermost.default

  the_xml_space : (s : List ℕ) → bytes_eq s xml_space ≡ true → Resolves its_prefixes its_scope s
  the_xml_space s same =
      resolves_some its_prefixes its_scope s (codes "xml") (rw same refl) xml_part (λ e. cc)
      (outermost.xml ∙ ap (λ z. Some z) (sym (eq_tells s xml_space same)))

  numbered : (s : List ℕ) → is_declared s ≡ true → bytes_eq s xml_space ≡ false → among s all ≡ true → Resolves its_prefixes its_scope s
  numbered s out other here =
      let found : among s (declared_among all) ≡ true = among_once s (filter is_declared all) ∙ among_kept is_declared s all out ∙ here in
      let row = some_is (lookup (bytes_eq s) (numbered_prefix_rows (byte "n") 1 (declared_among all)))
      (is_some-prefix_rows (codes "n") 1 s (declared_among all) ∙ found) in
      let r : HasNumber (byte "n") 1 (declared_among all) more s row.0 =
      rows_bind (byte "n") n_letter 1 (declared_among all) more s row.0 row.1 in
      resolves_some its_prefixes its_scope s row.0 (rw other row.1)
      (subst IsNamePart (sym r.prefix_is) (label_part (byte "n") n_letter r.number))
      (λ e. label_no_x (byte "n") n_letter r.number (codes "mlns") (sym r.prefix_is ∙ e)) r.binds

  resolved : (s : List ℕ) → among s all ≡ true → Resolves its_prefixes its_scope s
  resolved s here = elim (cases_Bool (bytes_eq s [])) [
    | inl e ↦ no_namespace s (eq_tells s [] e)
    | inr e ↦ elim (cases_Bool (bytes_eq s xml_space)) [
      | inl f ↦ the_xml_space s f
      | inr f ↦ let out : is_declared s ≡ true = rw (e, f) refl in numbered s out f here
    ]
  ]

  each_of : (xs : Texts) → ((s : List ℕ) → among s xs ≡ true → Resolves its_prefixes its_scope s)
      → AllByRecursion (Resolves its_prefixes its_scope) xs
  each_of [] h = tt
  each_of (x ∷ xs) h =
      (h x (let same : bytes_eq x x ≡ true = eq_itself x in rw same refl), each_of xs (λ s m. h s (or_right (bytes_eq s x) (among s xs) m)))

  -- each namespace is written by a prefix that is bound to it
  pub all_resolved : AllByRecursion (Resolves its_prefixes its_scope) all
  all_resolved = each_of all resolved

-- the declarations are allowed

all_others : (P : List ℕ → Type 0) (test : List ℕ → Bool) (xs : Texts) → AllByRecursion P xs → AllByRecursion P (filter test xs)
all_others P test [] f = tt
all_others P test (x ∷ xs) f = elim (cases_Bool (test x)) [
  | inl e ↦ rw e (f.0, all_others P test xs f.1)
  | inr e ↦ rw e (all_others P test xs f.1)
]

all_once : (P : List ℕ → Type 0) (xs : Texts) → AllByRecursion P xs → AllByRecursion P (once_each xs)
all_once P [] f = tt
all_once P (x ∷ xs) f = (f.0, all_others P (λ y. not (bytes_eq y x)) (once_each xs) (all_once P xs f.1))

all_declared : (xs : Texts) → AllByRecursion IsNamespace xs → AllByRecursion IsDeclarable (filter is_declared xs)
all_declared [] f = tt
all_declared (x ∷ xs) f = elim (cases_Bool (is_declared x)) [
  | inl e ↦ rw e (record { declared = e; fit = f.0 }, all_declared xs f.1)
  | inr e ↦ rw e (all_declared xs f.1)
]

pub are_declared : (all : Texts) → AllByRecursion IsNamespace all → AllByRecursion IsDeclarable (declared_among all)
are_declared all f = all_once IsDeclarable (filter is_declared all) (all_declared all f)

no_xml : (s : List ℕ) → is_declared s ≡ true → s ≢ xml_space
no_xml s out e = let wrong : false ≡ true = sym (ap is_declared e) ∙ out in cc

is_some_space : (s : List ℕ) → is_declared s ≡ true → s ≢ []
is_some_space s out e = let wrong : false ≡ true = sym (ap is_declared e) ∙ out in cc

module _ (letter : ℕ) (is : IsLetter letter) where
  pub rows_fit : (n : ℕ) (xs : Texts) → AllByRecursion IsDeclarable xs → AllByRecursion FitRow (numbered_prefix_rows letter n xs)
  rows_fit n [] f = tt
  rows_fit n (x ∷ xs) f = (record { prefix = label_part letter is n; space = f.0.fit.characters }, rows_fit (n + 1) xs f.1)

  pub rows_are_bindings : (n : ℕ) (xs : Texts) → AllByRecursion IsDeclarable xs
      → AllByRecursion IsBinding (map row_binding (numbered_prefix_rows letter n xs))
  rows_are_bindings n [] f = tt
  rows_are_bindings n (x ∷ xs) f = (
    record {
      no_xmlns = label_no_x letter is n (codes "mlns");
      no_xmlns_space = f.0.fit.not_reserved;
      xml_alone = (λ e. absurd (label_no_x letter is n (codes "ml") e), λ e. absurd (no_xml x f.0.declared e));
      some_space = λ e. is_some_space x f.0.declared;
    },
    rows_are_bindings (n + 1) xs f.1,
  )

  later_differ : (m n : ℕ) (xs : Texts) → m < n → AllByRecursion (λ y. label letter m ≢ y)
      (map (λ b. b.prefix) (map row_binding (numbered_prefix_rows letter n xs)))
  later_differ m n [] low = tt
  later_differ m n (x ∷ xs) low =
      (labels_differ letter is m n (λ e. absurd (omega arith)), later_differ m (n + 1) xs (omega arith))

  pub prefixes_differ : (n : ℕ) (xs : Texts) → AllDiffer (map (λ b. b.prefix) (map row_binding (numbered_prefix_rows letter n xs)))
  prefixes_differ n [] = tt
  prefixes_differ n (x ∷ xs) = (later_differ n (n + 1) xs (omega arith), prefixes_differ (n + 1) xs)

-- prefixes of different letters differ

others_differ : (letter other m n : ℕ) (ys : Texts) → letter ≢ other
    → AllByRecursion (λ y. label letter m ≢ y) (map (λ b. b.prefix) (map row_binding (numbered_prefix_rows other n ys)))
others_differ letter other m n [] apart = tt
others_differ letter other m n (y ∷ ys) apart = (λ e. let h : letter ≡ other = cc in apart h, others_differ letter other m (n + 1) ys apart)

all_in_both : (P : List ℕ → Type 0) (rows more : PrefixRows) → AllByRecursion P (map (λ b. b.prefix) (map row_binding rows))
    → AllByRecursion P (map (λ b. b.prefix) (map row_binding more))
    → AllByRecursion P (map (λ b. b.prefix) (map row_binding (rows ++ more)))
all_in_both P [] more f g = g
all_in_both P (row ∷ rows) more f g = (f.0, all_in_both P rows more f.1 g)

pub both_differ : (letter other n m : ℕ) (xs ys : Texts) → letter ≢ other
    → AllDiffer (map (λ b. b.prefix) (map row_binding (numbered_prefix_rows letter n xs)))
    → AllDiffer (map (λ b. b.prefix) (map row_binding (numbered_prefix_rows other m ys)))
    → AllDiffer (map (λ b. b.prefix) (map row_binding (numbered_prefix_rows letter n xs ++ numbered_prefix_rows other m ys)))
both_differ letter other n m [] ys apart f g = g
both_differ letter other n m (x ∷ xs) ys apart f g = (
  all_in_both (λ y. label letter n ≢ y) (numbered_prefix_rows letter (n + 1) xs) (numbered_prefix_rows other m ys) f.0 (others_differ
      letter other n m ys apart),
  both_differ letter other (n + 1) m xs ys apart f.1 g,
)
