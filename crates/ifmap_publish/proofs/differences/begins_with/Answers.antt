use Rattle.std.proofs.Common.{◌∙◌, sym}
use Rattle.ifmap_publish.proofs.Passing.{first_tells}
use Rattle.ifmap_publish.proofs.differences.begins_with.Goals as goal

pub returns-in-Some : goal.returns-in-Some
returns-in-Some c =
    c.same_stored.ensures ∙ sym (first_tells c.args.row.now c.in-Some.first.now c.in-Some.field-0-1.now c.args.rows.now
    c.in-Some.ensures.cases.0 c.requires.rising c.requires.from)
