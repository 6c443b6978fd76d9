use Rattle.std.proofs.Common.{◌∙◌, sym}
use Rattle.ifmap_forms.specs.Scopes.{place_scopes}
use Rattle.ifmap_requests.proofs.NameLaws.{at_end, at_subscription}
use Rattle.ifmap_requests.proofs.subscribing.read_op.Goals as goal

pub returns-then-is_bare : goal.returns-then-is_bare
returns-then-is_bare c =
    let scopes = place_scopes c.args.place.now.declared.now c.args.place.now.path.now c.args.place.now.child in
    at_subscription scopes c.args.element.now (sym c.is_bare.ensures ∙ c.if-is_bare.true) c.read_subscription.result
    c.read_subscription.ensures

pub returns-then-is_bare-2 : goal.returns-then-is_bare-2
returns-then-is_bare-2 c =
    let scopes = place_scopes c.args.place.now.declared.now c.args.place.now.path.now c.args.place.now.child in
    at_end scopes c.args.element.now (sym c.is_bare.ensures ∙ c.if-is_bare.false) (sym c.is_bare-2.ensures ∙ c.if-is_bare-2.true)
    c.read_end.result (c.read_end.ensures scopes)
