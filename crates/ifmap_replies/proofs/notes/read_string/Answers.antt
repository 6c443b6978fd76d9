use Rattle.std.proofs.Common.{◌≡◌, ◌∙◌, [], List, Ok, Err, Result, ap, codes, sym, true, ℕ}
use Rattle.std.specs.List.{list_all}
use Rattle.ifmap_elem.specs.Building.{is_bare}
use Rattle.ifmap_elem.specs.declared.elements.Child.{Child}
use Rattle.ifmap_elem.specs.declared.elements.Element.{Element}
use Rattle.ifmap_forms.specs.ifmap_filter.Holding.{text_among}
use Rattle.ifmap_ident.specs.Parts.{has_only}
use Rattle.ifmap_ident.specs.declared.codes.Code.{Code}
use Rattle.ifmap_ident.specs.declared.codes.Code.TheVariants.{Failure}
use Rattle.ifmap_forms.specs.AnswerLaws.{found_after, refused_test}
use Rattle.ifmap_forms.specs.Checks.{Check, need, pass}
use Rattle.ifmap_forms.specs.Tables.{parts_in, element_parts}
use Rattle.ifmap_replies.specs.ResultForms.{is_text, note_check}
use Rattle.ifmap_replies.proofs.notes.read_string.Goals as goal

abbrev text_inside : Element → Check (List ℕ)
text_inside e = need (list_all is_text (element_parts e)) Failure (pass (text_among e.children))

abbrev string_check : Element → Check (List ℕ)
string_check e = need (has_only [] e) Failure (text_inside e)

module _ (e : Element) (is : is_bare (codes "errorString") e.name ≡ true) where
  after_name : (found : Result (List ℕ) Code) → string_check e found → note_check e found
  after_name found f = found_after (string_check e) (is_bare (codes "errorString") e.name) Failure found is f

  after_attributes : has_only [] e ≡ true → (found : Result (List ℕ) Code) → text_inside e found → note_check e found
  after_attributes only found f = after_name found (found_after (text_inside e) (has_only [] e) Failure found only f)

pub returns-then-not-is_bare : goal.returns-then-not-is_bare
returns-then-not-is_bare c =
    let e = c.args.element.now in
    refused_test (string_check e) (is_bare (codes "errorString") e.name) Failure (sym c.is_bare.ensures ∙ c.if-not-is_bare.true)

pub returns-then-not-has_only : goal.returns-then-not-has_only
returns-then-not-has_only c =
    let e = c.args.element.now in
    after_name e (sym c.is_bare.ensures ∙ c.if-not-is_bare.false) (Err Failure)
    (refused_test (text_inside e) (has_only [] e) Failure (sym c.has_only.ensures ∙ c.if-not-has_only.true))

pub returns-then-not-are_texts : goal.returns-then-not-are_texts
returns-then-not-are_texts c =
    let e = c.args.element.now in
    after_attributes e (sym c.is_bare.ensures ∙ c.if-not-is_bare.false) (sym c.has_only.ensures ∙ c.if-not-has_only.false) (Err Failure)
    (refused_test (pass (text_among e.children)) (list_all is_text (element_parts e)) Failure
    (ap (λ (cs : List Child). list_all is_text (parts_in cs)) (sym c.as_slice-children.ensures)
    ∙ (sym c.are_texts.ensures ∙ c.if-not-are_texts.true)))

pub returns : goal.returns
returns c =
    let e = c.args.element.now in
    let text = c.in_ok-text_among.field-0 in
    let same : text ≡ text_among e.children = c.in_ok-text_among.ensures ∙ ap text_among c.as_slice-children.ensures in
    after_attributes e (sym c.is_bare.ensures ∙ c.if-not-is_bare.false) (sym c.has_only.ensures ∙ c.if-not-has_only.false) (Ok text)
    (found_after (pass (text_among e.children)) (list_all is_text (element_parts e)) Failure (Ok text)
    (ap (λ (cs : List Child). list_all is_text (parts_in cs)) (sym c.as_slice-children.ensures)
    ∙ (sym c.are_texts.ensures ∙ c.if-not-are_texts.false)) (ap (λ t. Ok t) same))
