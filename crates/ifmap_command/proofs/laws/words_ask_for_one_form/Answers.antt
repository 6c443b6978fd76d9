use Rattle.ifmap_command.proofs.Asking.{one_form}
use Rattle.ifmap_command.proofs.laws.words_ask_for_one_form.Goals as goal

pub returns : goal.returns
returns c = one_form
