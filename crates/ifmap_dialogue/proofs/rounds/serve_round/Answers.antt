use Rattle.std.proofs.Common.{◌≤◌, length, refl, sym, subst, ◌∙◌}
use Rattle.ifmap_http.specs.ifmap_heads.Limits.{longest_post}
use Rattle.ifmap_http.specs.declared.wires.Post.{Post}
use Rattle.ifmap_http.specs.Wires.{wire_seen}
use Rattle.ifmap_dialogue.proofs.Connecting.{HasRead, goes_on_by, has_read, more_if_none, post_not, refusal_ends, round_ended, round_posted, round_refused, round_truncated, round_unread, round_wanting}
use Rattle.ifmap_dialogue.proofs.rounds.serve_round.Given as given
use Rattle.ifmap_dialogue.proofs.rounds.serve_round.Goals as goal
use Rattle.ifmap_dialogue.proofs.rounds.serve_round.Goals.{After-read_post}

-- reading the wire left what was written
wire_read : (g : given.Over) (c : After-read_post g)
    → HasRead (wire_seen g.L.Source.left g.L.Sink.held g.L.Source.faults g.L.Sink.faults c.args.wire.now)
    (wire_seen g.L.Source.left g.L.Sink.held g.L.Source.faults g.L.Sink.faults c.read_post.new.self)
wire_read g c =
    has_read g.L.Source.left g.L.Sink.held g.L.Source.faults g.L.Sink.faults g.L.Source.outgoing g.met.L.Link.outgoing_is c.args.wire.now
    c.read_post.new.self c.read_post.ensures.takes.by_reading.side.apart c.read_post.ensures.takes.by_reading.side.later

pub returns-in-Posted-clause-serves : goal.returns-in-Posted-clause-serves
returns-in-Posted-clause-serves g c =
    round_posted _ _ _ _ _ _ _ _ _ c.in-Posted.post c.close_last_post-post.result c.answer_post.result
    (wire_read g (goal.at.returns-in-Posted-clause-serves g c).After-read_post)
    c.in-Posted.ensures.takes.reads c.close_last_post-post.ensures c.answer_post.ensures (post_not _ _ _ _ _ c.answer_post.ensures)

pub returns-in-Posted-clause-more : goal.returns-in-Posted-clause-more
returns-in-Posted-clause-more g c =
    more_if_none c.answer_post.result _
    (λ e.
    let (other, same) = goes_on_by _ _ _ _ c.in-Posted.post c.close_last_post-post.result _ c.close_last_post-post.ensures
    c.answer_post.ensures e in
    (same ∙ c.in-Posted.ensures.spent, other))

pub returns-in-Status-clause-serves : goal.returns-in-Status-clause-serves
returns-in-Status-clause-serves g c =
    let (output, writes, gained) = c.send_bare-sent.ensures.writes in
    round_refused _ _ _ _ _ _ _
    (wire_read g (goal.at.returns-in-Status-clause-serves g c).After-read_post)
    c.in-Status.status c.send_bare-sent.result _ output c.in-Status.ensures.takes.reads writes gained c.send_bare-sent.ensures.fault
    c.next_after.ensures

pub returns-in-Status-clause-more : goal.returns-in-Status-clause-more
returns-in-Status-clause-more g c = refusal_ends c.send_bare-sent.result _ _ _ c.next_after.ensures

pub returns-in-NoMemory-clause-serves : goal.returns-in-NoMemory-clause-serves
returns-in-NoMemory-clause-serves g c =
    let (output, given, gained) = c.give_up.ensures in
    round_wanting _ _ _ _ _ _ _
    (wire_read g (goal.at.returns-in-NoMemory-clause-serves g c).After-read_post)
    output c.in-NoMemory.ensures.takes.reads given gained

pub returns-in-ReadFault-clause-serves : goal.returns-in-ReadFault-clause-serves
returns-in-ReadFault-clause-serves g c =
    round_unread _ _ _ _ _ _ (wire_read g (goal.at.returns-in-ReadFault-clause-serves g c).After-read_post)
    c.in-ReadFault.ensures.takes.reads (c.in-ReadFault.ensures.takes.by_reading.fault refl)

pub returns-in-Ended-clause-serves : goal.returns-in-Ended-clause-serves
returns-in-Ended-clause-serves g c =
    round_ended _ _ _ _ _ _ (wire_read g (goal.at.returns-in-Ended-clause-serves g c).After-read_post) c.in-Ended.ensures.takes.reads

pub returns-in-Truncated-clause-serves : goal.returns-in-Truncated-clause-serves
returns-in-Truncated-clause-serves g c =
    round_truncated _ _ _ _ _ _ (wire_read g (goal.at.returns-in-Truncated-clause-serves g c).After-read_post)
    c.in-Truncated.ensures.takes.reads

pub answer_post-requires : goal.answer_post-requires
answer_post-requires g c =
    record {
      short = subst (λ (p : Post). length p.body ≤ longest_post) (sym c.close_last_post-post.ensures)
          c.in-Posted.ensures.takes.by_reading.answerable;
    }
