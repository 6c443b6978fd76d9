use Rattle.std.proofs.Common.{◌∙◌, List, ap, refl, sym}
use Rattle.std.specs.List.{list_all}
use Rattle.ifmap_elem.specs.declared.elements.Child.{Child}
use Rattle.ifmap_ident.specs.declared.codes.Code.TheVariants.{Failure}
use Rattle.ifmap_forms.specs.declared.errors.FormError.TheVariants.{Named}
use Rattle.ifmap_forms.specs.AnswerLaws.{found_form, refused_at_content, refused_at_others}
use Rattle.ifmap_elem.specs.WhiteSpace.{is_blank_part}
use Rattle.ifmap_forms.specs.Tables.{parts_in}
use Rattle.ifmap_replies.specs.ResultForms.{no_scopes, plain_form, plain_made}
use Rattle.ifmap_replies.proofs.responses.read_plain.Goals as goal
use Rattle.ifmap_forms.specs.FormLaws.{blank_children, other_children}

pub returns-then-not-has_only : goal.returns-then-not-has_only
returns-then-not-has_only c = λ kind.
    refused_at_others (plain_form kind) (plain_made c.args.reply) no_scopes c.args.element.now tt refl
    (sym c.has_only.ensures ∙ c.if-not-has_only.true)

pub returns-then-not-are_blank : goal.returns-then-not-are_blank
returns-then-not-are_blank c = λ kind.
    let e = c.args.element.now in
    refused_at_content (plain_form kind) (plain_made c.args.reply) no_scopes e tt refl (Named Failure)
    (sym c.has_only.ensures ∙ c.if-not-has_only.false)
    (other_children no_scopes e (ap (λ (cs : List Child). list_all is_blank_part (parts_in cs)) (sym c.as_slice.ensures)
    ∙ (sym c.are_blank.ensures ∙ c.if-not-are_blank.true)))

pub returns : goal.returns
returns c = λ kind.
    let e = c.args.element.now in
    found_form (plain_form kind) (plain_made c.args.reply) no_scopes e tt refl tt (sym c.has_only.ensures ∙ c.if-not-has_only.false)
    (blank_children no_scopes e (ap (λ (cs : List Child). list_all is_blank_part (parts_in cs)) (sym c.as_slice.ensures)
    ∙ (sym c.are_blank.ensures ∙ c.if-not-are_blank.false)))
