use Rattle.ifmap_requests.specs.ifmap_filter.Meets.{meets_optional}
use Rattle.ifmap_publish.proofs.Meeting.{passes_by, passes_over}
use Rattle.ifmap_publish.proofs.edits.pass_row.Goals as goal

pub returns-in-Some : goal.returns-in-Some
returns-in-Some c =
    passes_over (λ s. meets_optional c.args.test.now s.element) c.args.row.now c.args.taken.now c.in-Some.after.now c.args.met.now.items
    c.in-Some.ensures

pub returns-in_ok-add_if_met-in-None : goal.returns-in_ok-add_if_met-in-None
returns-in_ok-add_if_met-in-None c =
    passes_by (λ s. meets_optional c.args.test.now s.element) c.args.row.now c.args.taken.now c.args.met.now.items _ c.in-None.ensures
    c.in_ok-add_if_met-in-None.ensures
