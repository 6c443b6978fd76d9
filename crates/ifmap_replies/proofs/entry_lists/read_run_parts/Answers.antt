use Rattle.std.proofs.Common.{List, Ok, Option}
use Rattle.ifmap_elem.specs.declared.elements.Element.{Element}
use Rattle.ifmap_ident.specs.declared.items.Item.{Item}
use Rattle.ifmap_forms.specs.AnswerLaws.{refused_exit}
use Rattle.ifmap_forms.specs.Checks.{Check, pass}
use Rattle.ifmap_forms.specs.ListLaws.{listed_makes, listed_refused}
use Rattle.ifmap_forms.specs.Tables.{parts_in}
use Rattle.ifmap_replies.specs.declared.runs.Run.{Run}
use Rattle.ifmap_replies.specs.ResultForms.{element_check, elements_or_none, run_parts}
use Rattle.ifmap_replies.specs.Runs.{run_on}
use Rattle.ifmap_replies.proofs.entry_lists.read_run_parts.Goals as goal

abbrev run_of : Item → Option (List Element) → Check Run
run_of item list = pass (run_on item (elements_or_none list))

pub returns-in_err-listed : goal.returns-in_err-listed
returns-in_err-listed c =
    let parts = parts_in c.args.children.items in
    let error = c.in_err-listed.field-0.0 in
    refused_exit (run_parts parts) c.from_residual.result error c.from_residual.ensures.1
    (listed_refused element_check run_of parts error c.in_err-listed.ensures)

pub returns : goal.returns
returns c =
    listed_makes element_check run_of (parts_in c.args.children.items) c.in_ok-listed.listed c.in_ok-listed.ensures
    (Ok (run_on c.in_ok-item.item c.elements_or_none-elements.result))
    (λ i. Ok (run_on (c.in_ok-item.ensures i) (c.elements_or_none-elements.ensures i)))
