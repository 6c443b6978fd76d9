use Rattle.std.proofs.Common.{◌∙◌, ◌&&◌, ap, arith, not}
use Rattle.std.proofs.lemmas.List.{take_all}
use Rattle.std.specs.List.{filter}
use Rattle.ifmap_requests.specs.ifmap_filter.Meets.{meets_optional}
use Rattle.ifmap_rows.specs.ifmap_plans.Lists.{is_among}
use Rattle.ifmap_publish.proofs.Meeting.{all_taken, row_passed}
use Rattle.ifmap_publish.proofs.edits.share_others_met.Goals as goal

pub returns-then-taken-rows : goal.returns-then-taken-rows
returns-then-taken-rows c =
    c.new-met.ensures.items
    ∙ all_taken c.args.taken.now c.args.rows.now (λ s. meets_optional c.args.test.now s.element) c.requires.taken
    (omega (arith, c.if-taken-rows.true))

pub loop-row-preserved : goal.loop-row-preserved
loop-row-preserved c =
    let p = row_passed (is_among c.args.taken.now) (λ s. meets_optional c.args.test.now s.element) c.args.rows.now c.requires.rows
    c.loop-row.row-index c.row-item.result c.loop-row-test.true c.row-item.is c.loop-row.rest.now c.loop-row.met.items _ _
    c.loop-row.invariant.rest c.loop-row.invariant.met c.in_ok-rest.ensures in
    record { rest = p.0; met = p.1 }

pub returns : goal.returns
returns c =
    c.loop-row.invariant.met
    ∙ ap (filter (λ s. not (is_among c.args.taken.now s) && meets_optional c.args.test.now s.element))
    (take_all c.loop-row.row-index c.args.rows.now (omega (arith, c.loop-row-test.false)))
