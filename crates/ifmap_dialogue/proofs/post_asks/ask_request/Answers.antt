use Rattle.ifmap_dialogue.proofs.Coming.{request_is}
use Rattle.ifmap_dialogue.proofs.post_asks.ask_request.Goals as goal

pub returns-in-Poll : goal.returns-in-Poll
returns-in-Poll g c = request_is _ _ _ _ _ _ _ _ _ _ c.in-Poll.is c.ask_poll.ensures

pub ask_poll-requires : goal.ask_poll-requires
ask_poll-requires g c = record { fit = rw c.in-Poll.is at c.requires.fit; short = c.requires.short }

pub ask_once-requires : goal.ask_once-requires
ask_once-requires g c = record { fit = c.requires.fit; short = c.requires.short; other = c.in_default.not-Poll }
