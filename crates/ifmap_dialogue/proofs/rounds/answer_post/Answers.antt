use Rattle.ifmap_dialogue.proofs.Answering.{serves_post}
use Rattle.ifmap_dialogue.proofs.Coming.{told_fits}
use Rattle.ifmap_dialogue.proofs.rounds.answer_post.Goals as goal

pub answer-requires : goal.answer-requires
answer-requires g c =
    let f = c.consult-finding.ensures in
    record { fit = told_fits c.bodies_mean_fit_requests.ensures _ _ f.turns c.consult-finding.result f.finds }

pub returns : goal.returns
returns g c =
    serves_post _ _ _ _ _ _ _ c.consult-finding.new.words c.args.post c.consult-finding.result c.answer.result _ c.after_post-then.ensures
    c.consult-finding.ensures (c.answer.ensures c.consult-finding.new.words)
