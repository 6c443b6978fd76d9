use Rattle.ifmap_core.proofs.ending.answer_at.Goals as goal

pub returns-in-Err-clause-parts : goal.returns-in-Err-clause-parts
returns-in-Err-clause-parts g c =
    c.what_is_back_is_sound.ensures c.args.parts.now c.answer_once.new.parts c.is_view.ensures c.is_view-in-Err.ensures c.requires
    c.in-Err.ensures.answers.kept

pub returns-in-Err-clause-lean : goal.returns-in-Err-clause-lean
returns-in-Err-clause-lean g c = c.in-Err.ensures.answers.kept.lean
