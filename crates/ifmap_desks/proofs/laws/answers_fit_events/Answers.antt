use Rattle.ifmap_desks.proofs.FittingAnswers.{answer_fits}
use Rattle.ifmap_desks.proofs.laws.answers_fit_events.Goals as goal

pub returns : goal.returns
returns c = λ state event. answer_fits event state
