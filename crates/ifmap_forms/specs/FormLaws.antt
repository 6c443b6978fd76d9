-- -
use Rattle.std.proofs.Common.{◌≡◌, Bool, true, List, [], ◌∷◌, refl, ℕ, ◌<◌, arith, false, ◌++◌, ◌≤◌, ◌%◌, not, ap, ◌∙◌, None, Some, Ok, Err}
use Rattle.std.specs.List.{AllByRecursion, list_all}
use Rattle.std.proofs.lemmas.Bool.{and_from}
use Rattle.std.specs.Char.{is_ascii_digit}
use Rattle.std.proofs.lemmas.Bool.Decides.{nat_tests}
use Rattle.ifmap_lemmas.specs.Numerals.{digit, numeral, numeral_by_digits, numeral_value}
use Rattle.std.specs.Str.{bytes_eq}
use Rattle.ifmap_lemmas.specs.Members.{all_append}
use Rattle.ifmap_lemmas.specs.Runs.{all_tested}
use Rattle.ifmap_forms.specs.Values.{is_number, number_of_digits}
use Rattle.std.specs.Prelude.{if◌then◌else◌}
use Rattle.std.specs.Str.Parse.{digits_value}
use Rattle.ifmap_elem.specs.declared.elements.Element.{Element}
use Rattle.ifmap_ident.specs.declared.codes.Code.TheVariants.{Failure}
use Rattle.ifmap_forms.specs.AnswerLaws.{found_after, refused_test}
use Rattle.ifmap_forms.specs.Checks.{pass}
use Rattle.ifmap_forms.specs.Scopes.{Scopes}
use Rattle.ifmap_elem.specs.WhiteSpace.{is_blank_part}
use Rattle.ifmap_forms.specs.Tables.{no_children, element_parts}

pub digit_is_digit : (d : ℕ) → d < 10 → is_ascii_digit (digit d) ≡ true
digit_is_digit d few = grind (arith, nat_tests)

-- digits, and some
abbrev pub AreDigits : List ℕ → Type 0
AreDigits ds = (bytes_eq ds [] ≡ false) × AllByRecursion (λ b. is_ascii_digit b ≡ true) ds

pub still_some : (ds : List ℕ) (d : ℕ) → bytes_eq (ds ++ d ∷ []) [] ≡ false
still_some [] d = refl
still_some (b ∷ bs) d = refl

pub numeral_is_digits : (n : ℕ) → AreDigits (numeral n)
numeral_is_digits = numeral_by_digits (λ n ds. AreDigits ds) (λ n few. (refl, (digit_is_digit n few, tt))) more
  where
    more : (n : ℕ) (ds : List ℕ) → 10 ≤ n → AreDigits ds → AreDigits (ds ++ digit (n % 10) ∷ [])
    more n ds many f = (
      still_some ds (digit (n % 10)),
      all_append is_ascii_digit ds (digit (n % 10) ∷ []) f.1 (digit_is_digit (n % 10) (omega arith), tt),
    )

pub numeral_is_number : (n : ℕ) → is_number (numeral n) ≡ true
numeral_is_number n =
    let is = numeral_is_digits n in
    and_from (not (bytes_eq (numeral n) [])) (list_all is_ascii_digit (numeral n)) (ap not is.0)
    (all_tested is_ascii_digit (numeral n) is.1)

pub number_back : (n : ℕ) → number_of_digits (numeral n) ≡ Some n
number_back n =
    (λ i. if numeral_is_number n i then Some (digits_value 10 (numeral n)) else None) ∙ ap (λ m. Some m) (numeral_value n)

-- no children but white space
pub blank_children : (scopes : Scopes) (e : Element) → list_all is_blank_part (element_parts e) ≡ true → no_children scopes
    (element_parts e) (Ok tt)
blank_children scopes e is = found_after (pass tt) (list_all is_blank_part (element_parts e)) Failure (Ok tt) is refl

pub other_children : (scopes : Scopes) (e : Element) → list_all is_blank_part (element_parts e) ≡ false
    → no_children scopes (element_parts e) (Err Failure)
other_children scopes e is = refused_test (pass tt) (list_all is_blank_part (element_parts e)) Failure is
