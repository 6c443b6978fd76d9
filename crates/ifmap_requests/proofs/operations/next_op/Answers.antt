use Rattle.ifmap_forms.specs.Gathering.{text_answers_part}
use Rattle.ifmap_forms.specs.Scopes.{scopes_below, scopes_by}
use Rattle.ifmap_requests.specs.RequestForms.{publish_op_check}
use Rattle.ifmap_requests.proofs.PlaceLaws.{child_found, child_refused}
use Rattle.ifmap_requests.proofs.operations.next_op.Goals as goal

pub returns-in_err-read_op-in-Element : goal.returns-in_err-read_op-in-Element
returns-in_err-read_op-in-Element c =
    let place = c.args.place.now in
    let there = c.in_ok-place-in-Element in
    child_refused publish_op_check place.declared.now there.place.declared.now place.path.now there.place.path.now there.place.child
    c.args.index there.ensures.declared there.ensures.path there.ensures.child c.args.child c.in-Element.element c.in-Element.is
    c.from_residual-in_err-read_op-in-Element.result c.in_err-read_op-in-Element.field-0.0
    c.from_residual-in_err-read_op-in-Element.ensures.1 c.in_err-read_op-in-Element.ensures

pub returns-in_ok-read_op-in-Element : goal.returns-in_ok-read_op-in-Element
returns-in_ok-read_op-in-Element c =
    let place = c.args.place.now in
    let there = c.in_ok-place-in-Element in
    child_found publish_op_check place.declared.now there.place.declared.now place.path.now there.place.path.now there.place.child
    c.args.index there.ensures.declared there.ensures.path there.ensures.child c.args.child c.in-Element.element c.in-Element.is
    c.in_ok-read_op-in-Element.field-0 c.in_ok-read_op-in-Element.ensures

pub returns-in-Text : goal.returns-in-Text
returns-in-Text c =
    let place = c.args.place.now in
    text_answers_part (publish_op_check (scopes_below (scopes_by place.declared.now place.path.now) c.args.index)) c.args.child
    c.in-Text.text c.in-Text.is c.pass_over_text.result c.pass_over_text.ensures.answer
