use Rattle.std.proofs.Common.{◌≡◌, List, get_or, length, ap, sym, ◌∙◌, subst, arith}
use Rattle.std.specs.Prelude.{OnOk}
use Rattle.ifmap_filter.specs.declared.filters.Predicate.{Predicate}
use Rattle.ifmap_filter.specs.Spaces.{predicate_spaces, with_each}
use Rattle.ifmap_filter.proofs.SpaceLaws.{run_more, spaces_and, spaces_or}
use Rattle.ifmap_filter.proofs.spaces.+adding.Goals as goal

pub add_predicate-returns-in-And : goal.add_predicate-returns-in-And
add_predicate-returns-in-And t c =
    subst (λ these. OnOk c.add_parts.result (c.add_parts.new.spaces.items ≡ with_each c.args.spaces.now.items these))
    (sym (ap predicate_spaces c.in-And.is ∙ spaces_and c.in-And.parts))
    c.add_parts.ensures

pub add_predicate-returns-in-Or : goal.add_predicate-returns-in-Or
add_predicate-returns-in-Or t c =
    subst (λ these. OnOk c.add_parts-in-Or.result (c.add_parts-in-Or.new.spaces.items ≡ with_each c.args.spaces.now.items these))
    (sym (ap predicate_spaces c.in-Or.is ∙ spaces_or c.in-Or.parts))
    c.add_parts-in-Or.ensures

pub add_parts-loop-part-preserved : goal.add_parts-loop-part-preserved
add_parts-loop-part-preserved t c =
    let list = c.as_slice-part-items.ensures in
    run_more predicate_spaces c.args.parts.now c.loop-part.part-index c.part-item.result c.args.spaces.now.items c.loop-part.spaces.items
    c.add_predicate.new.spaces.items (omega (arith, c.loop-part-test.true, ap length list))
    (c.part-item.is ∙ ap (λ (l : List Predicate). get_or l c.loop-part.part-index c.part-item.result) list)
    c.loop-part.invariant c.in_ok-add_predicate.ensures
