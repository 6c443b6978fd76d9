use Rattle.ifmap_server.proofs.replaying.answer_request.Goals as goal

pub invariant_of-event : goal.invariant_of-event
invariant_of-event g c = record { client = c.text.ensures.form; ask = c.requires }
