use Rattle.std.proofs.Common.{Ok, ap}
use Rattle.ifmap_forms.specs.AnswerLaws.{refused_exit, refused_first}
use Rattle.ifmap_forms.specs.Checks.{pass}
use Rattle.ifmap_forms.specs.Tables.{members_check, parts_in}
use Rattle.ifmap_replies.specs.ResultForms.{entries_check, run_check}
use Rattle.ifmap_replies.specs.Runs.{entries_in_runs}
use Rattle.ifmap_replies.proofs.entry_lists.read_entries.Goals as goal

pub returns-in_err-runs : goal.returns-in_err-runs
returns-in_err-runs c =
    let parts = parts_in c.args.children.items in
    let error = c.in_err-runs.field-0.0 in
    refused_exit (entries_check parts) c.from_residual.result error c.from_residual.ensures.1
    (refused_first (members_check run_check parts) (λ runs. pass (entries_in_runs runs)) error c.in_err-runs.ensures)

pub returns : goal.returns
returns c = (c.in_ok-runs.runs.items, c.in_ok-runs.ensures, ap (λ es. Ok es) c.in_ok-entries.ensures)
