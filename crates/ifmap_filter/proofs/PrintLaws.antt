-- What the code of `printing` does beside its definitions.
use Rattle.std.proofs.Common.{◌≡◌, ℕ, ◌+◌, ◌<◌, ◌≤◌, ◌^◌, zero, suc, true, false, List, [], ◌∷◌, ◌++◌, take, drop, get_or, length, map, refl, ap, sym, ◌∙◌, subst, arith, drop-cons, add-one, append_assoc}
use Rattle.std.specs.Prelude.{cond, not, codes, IsUtf8}
use Rattle.std.specs.Fmt.{decimal}
use Rattle.std.specs.List.{flat_map}
use Rattle.std.specs.Str.{bytes_eq}
use Rattle.std.proofs.Math.Seq.{drop-length}
use Rattle.std.proofs.lemmas.Grind.{flat_map-append}
use Rattle.std.proofs.lemmas.List.{append-nil, length-take-le, take_more}
use Rattle.ifmap_lemmas.specs.Members.{all_of_test}
use Rattle.ifmap_lemmas.specs.Texts.{ascii_encoded, is_ascii}
use Rattle.ifmap_lemmas.specs.Numerals.{numeral, numeral_is_decimal}
use Rattle.ifmap_elem.specs.Chars.{colon}
use Rattle.ifmap_elem.specs.Scopes.{xml_space}
use Rattle.ifmap_elem.specs.declared.elements.Name.{Name}
use Rattle.ifmap_filter.specs.declared.filters.Predicate.{Predicate, Attr, Child, And, Or, fold-roll-Predicate}
use Rattle.ifmap_filter.specs.declared.filters.Predicate.TheVariants.{rolls-Attr, rolls-Child, rolls-And, rolls-Or}
use Rattle.ifmap_filter.specs.declared.filters.Predicate.TheOpen.{Predicate-F}
use Rattle.ifmap_filter.specs.declared.printing.Around.{Around}
use Rattle.ifmap_filter.specs.declared.printing.Around.TheVariants.{Brackets, Ands, Ors}
use Rattle.ifmap_filter.specs.Printing.{PredicateText, ands_text, attribute_text, child_text, comparison_text, joined_texts, numbered_prefix, ors_text, has_single_quote, name_text, parts_text, space_place, predicate_text, predicate_text_of, quote_of, text_in}

module _ (space : List ℕ) (spaces : List (List ℕ)) (i : ℕ) (other : List ℕ) (here : i < length spaces)
    (is : other ≡ get_or spaces i other) where
  place_here : space_place space (drop i spaces) ≡ cond (not (bytes_eq other space)) (1 + space_place space (drop (i + 1) spaces)) 0
  place_here =
      ap (space_place space) (drop-cons spaces i other here) ∙ ap (λ o. space_place space (o ∷ drop (suc i) spaces)) (sym is)
      ∙ ap (λ k. cond (not (bytes_eq other space)) (1 + space_place space (drop k spaces)) 0) (sym (add-one i))

  pub at_place : bytes_eq other space ≡ true → space_place space spaces ≡ i + space_place space (drop i spaces)
      → i ≡ space_place space spaces
  at_place e was = let stop : space_place space (drop i spaces) ≡ 0 = place_here ∙ rw e refl in omega (arith, was, stop)

  pub past_place : bytes_eq other space ≡ false → space_place space spaces ≡ i + space_place space (drop i spaces)
      → space_place space spaces ≡ (i + 1) + space_place space (drop (i + 1) spaces)
  past_place e was =
      let on : space_place space (drop i spaces) ≡ 1 + space_place space (drop (i + 1) spaces) = place_here ∙ rw e refl in
      omega (arith, was, on)

pub no_place : (space : List ℕ) (spaces : List (List ℕ)) (i : ℕ) → length spaces ≤ i → i ≤ length spaces
    → space_place space spaces ≡ i + space_place space (drop i spaces) → length spaces ≡ space_place space spaces
no_place space spaces i past within was =
    let end : i ≡ length spaces = omega arith in
    let none : space_place space (drop i spaces) ≡ 0 = ap (λ k. space_place space (drop k spaces)) end
    ∙ ap (space_place space) (drop-length spaces) in
    omega (arith, was, none)

-- words before all but the first

abbrev pub word_at : List ℕ → ℕ → List ℕ
word_at word zero = []
word_at word (suc i) = word

module _ {X : Type 0} (word : List ℕ) (text : X → List ℕ) where
  joined_last : (ys : List X) (x : X)
      → joined_texts word text (ys ++ x ∷ []) ≡ joined_texts word text ys ++ (word_at word (length ys) ++ text x)
  joined_last [] x = append-nil (text x)
  joined_last (y ∷ ys) x =
      ap (λ l. text y ++ l) (flat_map-append (λ z. word ++ text z) ys (x ∷ [])
      ∙ ap (λ l. flat_map (λ z. word ++ text z) ys ++ l) (append-nil (word ++ text x)))
      ∙ sym (append_assoc (text y) (flat_map (λ z. word ++ text z) ys) (word ++ text x))

  pub joined_more : (xs : List X) (i : ℕ) (x : X) (out now mid new first : List ℕ) → i < length xs → x ≡ get_or xs i x
      → now ≡ out ++ joined_texts word text (take i xs) → first ≡ word_at word i → mid ≡ now ++ first → new ≡ mid ++ text x
      → new ≡ out ++ joined_texts word text (take (i + 1) xs)
  joined_more xs i x out now mid new first here is was w a b =
      let front = take i xs in
      let long : length front ≡ i = length-take-le i xs (omega (arith, here)) in
      let word_is : first ≡ word_at word (length front) = w ∙ ap (word_at word) (sym long) in
      let more : take (i + 1) xs ≡ front ++ x ∷ [] = take_more xs i x here ∙ ap (λ z. front ++ z ∷ []) (sym is) in
      b ∙ (λ k. (a ∙ (λ j. was j ++ word_is j)) k ++ text x)
      ∙ append_assoc (out ++ joined_texts word text front) (word_at word (length front)) (text x)
      ∙ append_assoc out (joined_texts word text front) (word_at word (length front) ++ text x)
      ∙ ap (λ l. out ++ l) (sym (joined_last front x) ∙ ap (joined_texts word text) (sym more))

pub word_later : (word : List ℕ) (i : ℕ) → word ≡ word_at word (i + 1)
word_later word i = ap (word_at word) (sym (add-one i))

pub or_text : IsUtf8 (codes " or ")
or_text = (codes " or ", (refl, ascii_encoded (codes " or ") (all_of_test is_ascii (codes " or ") refl)))

pub prefix_printed : (out first new digits : List ℕ) (n : ℕ) → n < 2 ^ 64 → first ≡ out ++ codes "f" → new ≡ first ++ digits
    → digits ≡ decimal n
    → new ≡ out ++ numbered_prefix n
prefix_printed out first new digits n held a b c =
    b ∙ (λ i. a i ++ (c ∙ sym (numeral_is_decimal n held)) i) ∙ append_assoc out (codes "f") (numeral n)

pub double_for_single : (value : List ℕ) → has_single_quote value ≡ true → codes "\"" ≡ quote_of value ∷ []
double_for_single value e = rw e refl

pub single_else : (value : List ℕ) → has_single_quote value ≡ false → codes "'" ≡ quote_of value ∷ []
single_else value e = rw e refl

-- a name, where what is printed after its namespace was looked at has P
module _ (spaces : List (List ℕ)) (name : Name) (local : List ℕ) (P : List ℕ → Type 0) (own : local ≡ name.local)
    (some : bytes_eq name.space [] ≡ false) where
  pub name_by_xml : bytes_eq name.space xml_space ≡ true → P (codes "xml" ++ (colon ∷ local)) → P (name_text spaces name)
  name_by_xml is h = subst P (ap (λ l. codes "xml" ++ (colon ∷ l)) own ∙ by) h
    where
      by : codes "xml" ++ (colon ∷ name.local) ≡ name_text spaces name
      by = rw (some, is) refl

  pub name_by_number : (place : ℕ) → bytes_eq name.space xml_space ≡ false → place ≡ space_place name.space spaces
      → P (numbered_prefix (place + 1) ++ (colon ∷ local)) → P (name_text spaces name)
  name_by_number place other at h =
      subst P ((λ i. numbered_prefix (at i + 1) ++ (colon ∷ own i)) ∙ by) h
    where
      by : numbered_prefix (space_place name.space spaces + 1) ++ (colon ∷ name.local) ≡ name_text spaces name
      by = rw (some, other) refl

-- what is printed of a predicate, by what it is

pub prints_attr : (spaces : List (List ℕ)) (local value : List ℕ)
    → predicate_text spaces (Attr local value) ≡ comparison_text (attribute_text local value)
prints_attr spaces local value =
    ap (predicate_text spaces) (sym (rolls-Attr local value))
    ∙ fold-roll-Predicate PredicateText (predicate_text_of spaces) (Predicate-F.Attr local value)

pub prints_child : (spaces : List (List ℕ)) (name : Name) (value : List ℕ)
    → predicate_text spaces (Child name value) ≡ comparison_text (child_text spaces name value)
prints_child spaces name value =
    ap (predicate_text spaces) (sym (rolls-Child name value))
    ∙ fold-roll-Predicate PredicateText (predicate_text_of spaces) (Predicate-F.Child name value)

pub alike_anywhere : (around : Around) (text : List ℕ) → text_in around (comparison_text text) ≡ text
alike_anywhere Brackets text = refl
alike_anywhere Ands text = refl
alike_anywhere Ors text = refl

joined_mapped : {X Y : Type 0} (word : List ℕ) (text : Y → List ℕ) (f : X → Y) (xs : List X)
    → joined_texts word text (map f xs) ≡ joined_texts word (λ x. text (f x)) xs
joined_mapped word text f [] = refl
joined_mapped word text f (x ∷ xs) = ap (λ l. text (f x) ++ l) (others xs)
  where
    others : (ys : List _) → flat_map (λ y. word ++ text y) (map f ys) ≡ flat_map (λ y. word ++ text (f y)) ys
    others [] = refl
    others (y ∷ ys) = ap (λ l. (word ++ text (f y)) ++ l) (others ys)

pub prints_and : (spaces : List (List ℕ)) (parts : List Predicate)
    → predicate_text spaces (And parts) ≡ ands_text (parts_text spaces Ands parts)
prints_and spaces parts =
    ap (predicate_text spaces) (sym (rolls-And parts)) ∙ fold-roll-Predicate PredicateText (predicate_text_of spaces)
    (Predicate-F.And parts)
    ∙ ap ands_text (joined_mapped (codes " and ") (λ p. p.in_and) (predicate_text spaces) parts)

pub prints_or : (spaces : List (List ℕ)) (parts : List Predicate)
    → predicate_text spaces (Or parts) ≡ ors_text (parts_text spaces Ors parts)
prints_or spaces parts =
    ap (predicate_text spaces) (sym (rolls-Or parts)) ∙ fold-roll-Predicate PredicateText (predicate_text_of spaces) (Predicate-F.Or parts)
    ∙ ap ors_text (joined_mapped (codes " or ") (λ p. p.in_or) (predicate_text spaces) parts)

-- and of one that stands there
pub and_there : (spaces : List (List ℕ)) (parts : List Predicate) {predicate : Predicate} {around here : Around} → predicate ≡ And parts
    → around ≡ here → text_in here (ands_text (parts_text spaces Ands parts)) ≡ text_in around (predicate_text spaces predicate)
and_there spaces parts {predicate} {around} {here} is at =
    sym ((λ i. text_in (at i) (predicate_text spaces (is i))) ∙ ap (text_in here) (prints_and spaces parts))

pub or_there : (spaces : List (List ℕ)) (parts : List Predicate) {predicate : Predicate} {around here : Around} → predicate ≡ Or parts
    → around ≡ here → text_in here (ors_text (parts_text spaces Ors parts)) ≡ text_in around (predicate_text spaces predicate)
or_there spaces parts {predicate} {around} {here} is at =
    sym ((λ i. text_in (at i) (predicate_text spaces (is i))) ∙ ap (text_in here) (prints_or spaces parts))
