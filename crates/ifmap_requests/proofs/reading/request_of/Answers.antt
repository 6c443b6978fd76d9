use Rattle.std.proofs.Common.{List, subst}
use Rattle.ifmap_elem.specs.declared.readings.Declared.{Declared}
use Rattle.ifmap_forms.specs.Answers.{IsChecked}
use Rattle.ifmap_forms.specs.Scopes.{scopes_by}
use Rattle.ifmap_requests.specs.RequestForms.{request_check}
use Rattle.ifmap_requests.proofs.ReadingLaws.{form_answer}
use Rattle.ifmap_requests.proofs.reading.request_of.Goals as goal

pub returns : goal.returns
returns c =
    let e = c.in-Some.element.now in
    form_answer c.args.reading.now c.args.path.now e c.in-Some.ensures c.read_copy.result
    (subst (λ (declared : List Declared). IsChecked (request_check (scopes_by declared c.args.path.now) e) c.read_copy.result)
    c.as_slice-declared.ensures c.read_copy.ensures)
