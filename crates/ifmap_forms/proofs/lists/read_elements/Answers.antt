use Rattle.std.proofs.Common.{◌≡◌, ◌∙◌, [], Bool, List, Ok, subst, sym, true}
use Rattle.ifmap_elem.specs.declared.elements.Child.{Child}
use Rattle.ifmap_ident.specs.Parts.{has_only}
use Rattle.ifmap_ident.specs.declared.codes.Code.TheVariants.{Failure}
use Rattle.ifmap_forms.specs.AnswerLaws.{refused_after, refused_exit}
use Rattle.ifmap_forms.specs.Answers.{IsCheckRefusal}
use Rattle.ifmap_forms.specs.Checks.{need}
use Rattle.ifmap_forms.specs.Items.{list_check}
use Rattle.ifmap_forms.specs.Tables.{element_parts, members_check, parts_in}
use Rattle.ifmap_forms.proofs.lists.read_elements.Goals as goal

pub returns-in_err-read_members : goal.returns-in_err-read_members
returns-in_err-read_members g c =
    let finds = g.R.MemberReader.finds in
    let e = c.args.list in
    let error = c.in_err-read_members.field-0.0 in
    let only : has_only [] e ≡ true = sym c.has_only.ensures ∙ c.if-not-has_only.false in
    refused_exit (list_check finds e) c.from_residual.result error c.from_residual.ensures.1
    (refused_after (members_check finds (element_parts e)) (has_only [] e) Failure error only
    (subst (λ (cs : List Child). IsCheckRefusal (members_check finds (parts_in cs)) error) c.children.view_is
    c.in_err-read_members.ensures))

pub returns : goal.returns
returns g c =
    let finds = g.R.MemberReader.finds in
    let e = c.args.list in
    let found = c.in_ok-read_members.field-0.items in
    let only : has_only [] e ≡ true = sym c.has_only.ensures ∙ c.if-not-has_only.false in
    subst (λ (b : Bool). need b Failure (members_check finds (element_parts e)) (Ok found)) (sym only)
    (subst (λ (cs : List Child). members_check finds (parts_in cs) (Ok found)) c.children.view_is c.in_ok-read_members.ensures)
