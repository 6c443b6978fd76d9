use Rattle.std.proofs.Common.{◌++◌, reverse}
use Rattle.std.proofs.lemmas.Result.{err_from_is_err_and}
use Rattle.ifmap_lemmas.specs.Joined.{none_to_pop}
use Rattle.ifmap_reader.specs.OpenElements.{scope_of}
use Rattle.ifmap_reader.proofs.Attributing.{attributing_first, attribute_added, binding_left, attribute_refused, all_given, told_some, told_none}
use Rattle.ifmap_reader.specs.AllowedTags.{plain_part}
use Rattle.ifmap_reader.proofs.allowed_tags.attributes_of.Goals as goal

pub loop-assignment-init : goal.loop-assignment-init
loop-assignment-init c = attributing_first _ c.args.assignments _ c.reverse.new.self.items c.in_ok-made.made.items c.assignments.view_is
    c.reverse.ensures.items c.in_ok-made.ensures.items

pub loop-assignment-preserved-then-is_some : goal.loop-assignment-preserved-then-is_some
loop-assignment-preserved-then-is_some c =
    binding_left _ _ _ c.loop-assignment.left.items c.pop.new.self.items c.in-Some.assignment c.in-Some.ensures.items
    c.loop-assignment.invariant
    (told_some c.bound_prefix.result c.in-Some.assignment.value _ c.is_some.result c.bound_prefix.ensures c.is_some.ensures
    c.if-is_some.true)

pub returns-in_err-attribute_of : goal.returns-in_err-attribute_of
returns-in_err-attribute_of c =
    let p = err_from_is_err_and c.from_residual-in_err-attribute_of.result c.from_residual-in_err-attribute_of.ensures.1 in
    rw (p.1, p.2) (attribute_refused (c.args.bindings.now ++ scope_of (reverse c.args.open_elements.now))
    (plain_part c.args.assignments) c.loop-assignment.made.items c.loop-assignment.left.items c.pop.new.self.items c.in-Some.assignment
    c.in-Some.ensures.items c.loop-assignment.invariant
    (told_none c.bound_prefix.result c.in-Some.assignment.value _ c.is_some.result c.bound_prefix.ensures c.is_some.ensures
    c.if-is_some.false)
    c.in_err-attribute_of.field-0.0 c.in_err-attribute_of.ensures)

pub loop-assignment-preserved : goal.loop-assignment-preserved
loop-assignment-preserved c =
    attribute_added _ _ _ c.loop-assignment.left.items c.pop.new.self.items c.in-Some.assignment c.in-Some.ensures.items
    c.loop-assignment.invariant
    (told_none c.bound_prefix.result c.in-Some.assignment.value _ c.is_some.result c.bound_prefix.ensures c.is_some.ensures
    c.if-is_some.false)
    c.in_ok-attribute_of.field-0 c.push.new.self.items c.in_ok-attribute_of.ensures c.in_ok-push.ensures.items

pub returns : goal.returns
returns c =
    all_given _ _ _ c.loop-assignment.left.items (none_to_pop _ c.pop.new.self.items _ c.in_default.ensures.items c.in_default.ensures.rest
    c.in_default.ensures.cases.0) c.loop-assignment.invariant
