use Rattle.std.proofs.Common.{subst}
use Rattle.ifmap_elem.specs.declared.elements.Element.{Element}
use Rattle.ifmap_forms.specs.Answers.{IsChecked}
use Rattle.ifmap_forms.specs.Scopes.{scopes_by}
use Rattle.ifmap_requests.specs.RequestForms.{request_check}
use Rattle.ifmap_requests.proofs.reading.read_copy.Goals as goal

pub returns : goal.returns
returns c =
    subst (λ (e : Element). IsChecked (request_check (scopes_by c.args.declared.now c.args.path.now) e) c.read_at.result)
    c.in_ok-element.ensures c.read_at.ensures
