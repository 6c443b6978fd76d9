use Rattle.std.proofs.Common.{List, subst}
use Rattle.ifmap_elem.specs.declared.readings.Declared.{Declared}
use Rattle.ifmap_forms.specs.Answers.{IsChecked}
use Rattle.ifmap_forms.specs.Scopes.{scopes_by}
use Rattle.ifmap_requests.specs.RequestForms.{request_check}
use Rattle.ifmap_requests.proofs.reading.read_at.Goals as goal

pub returns : goal.returns
returns c =
    subst (λ (rows : List Declared).
    IsChecked (request_check (scopes_by rows c.args.path.now) c.args.element) c.read_element.result)
    c.in_ok-declarations.ensures c.read_element.ensures
