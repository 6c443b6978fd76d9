use Rattle.std.proofs.Common.{sym, ap, ◌∙◌}
use Rattle.ifmap_io.specs.Calendar.{civil_text, moment_text}
use Rattle.ifmap_io.proofs.CivilFacts.{civil_seen_by, shows, same_civil}
use Rattle.ifmap_io.proofs.CivilOf.{civil_of_is}
use Rattle.ifmap_io.proofs.moments.Moment.text.Goals as goal

pub returns-clause-value : goal.returns-clause-value
unfolding moment_text
returns-clause-value c =
    let p = shows c.civil_at.result c.self.inside.0 c.civil_at.ensures in
    c.text_of.ensures ∙ ap civil_text (sym (civil_of_is (civil_seen_by c.civil_at.result) p.0)) ∙ ap moment_text (p.1 ∙ c.self.view_is)

pub returns-clause-shown : goal.returns-clause-shown
returns-clause-shown c =
    let p = shows c.civil_at.result c.self.inside.0 c.civil_at.ensures in
    (civil_seen_by c.civil_at.result, p.0, p.1 ∙ c.self.view_is, c.text_of.ensures)

pub returns-clause-only : goal.returns-clause-only
returns-clause-only c = λ d h e.
    let p = shows c.civil_at.result c.self.inside.0 c.civil_at.ensures in
    c.text_of.ensures ∙ ap civil_text (same_civil (civil_seen_by c.civil_at.result) d p.0 h (p.1 ∙ c.self.view_is ∙ sym e))
