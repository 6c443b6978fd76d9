use Rattle.std.proofs.Common.{◌∙◌, sym}
use Rattle.ifmap_forms.specs.Scopes.{scopes_by}
use Rattle.ifmap_requests.proofs.NameLaws.{at_publish, in_other_space, in_space, past_publish}
use Rattle.ifmap_requests.proofs.asking.read_element.Goals as goal

pub returns-then-not-is_asked : goal.returns-then-not-is_asked
returns-then-not-is_asked c =
    in_other_space (scopes_by c.args.place.now.declared.now c.args.place.now.path.now) c.args.element
    (sym c.is_asked.ensures ∙ c.if-not-is_asked.true)

pub returns-then-is_publish : goal.returns-then-is_publish
returns-then-is_publish c =
    let scopes = scopes_by c.args.place.now.declared.now c.args.place.now.path.now in
    in_space scopes c.args.element (sym c.is_asked.ensures ∙ c.if-not-is_asked.false) c.read_publish.result
    (at_publish scopes c.args.element (sym c.is_publish.ensures ∙ c.if-is_publish.true) c.read_publish.result c.read_publish.ensures)

pub returns : goal.returns
returns c =
    let scopes = scopes_by c.args.place.now.declared.now c.args.place.now.path.now in
    in_space scopes c.args.element (sym c.is_asked.ensures ∙ c.if-not-is_asked.false) c.read_named.result
    (past_publish scopes c.args.element (sym c.is_publish.ensures ∙ c.if-is_publish.false) c.read_named.result c.read_named.ensures)
