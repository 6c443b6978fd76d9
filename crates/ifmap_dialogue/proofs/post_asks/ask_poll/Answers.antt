use Rattle.std.proofs.Common.{◌≤◌, refl, subst, sym}
use Rattle.ifmap_elem.specs.Chars.{IsCharacters}
use Rattle.ifmap_http.specs.ifmap_heads.Limits.{longest_post}
use Rattle.ifmap_dialogue.specs.declared.polls.Poll.{Poll}
use Rattle.ifmap_dialogue.proofs.Coming.{none_asked, poll_request}
use Rattle.ifmap_dialogue.proofs.post_asks.ask_poll.Goals as goal

pub returns-in-Ok : goal.returns-in-Ok
returns-in-Ok g c =
    poll_request _ _ _ _ _ _ _ _ _ _ c.in-Ok.ensures.poll c.in-Ok.ensures.drawn c.await_reply.ensures

pub returns-in-Err : goal.returns-in-Err
returns-in-Err g c = none_asked _ _ _ _ refl c.in-Err.ensures.none

pub await_reply-requires : goal.await_reply-requires
await_reply-requires g c = record {
  fit = subst (λ (p : Poll). IsCharacters p.session) (sym c.in-Ok.ensures.poll) c.requires.fit;
  short = subst (λ (p : Poll). p.bytes ≤ longest_post) (sym c.in-Ok.ensures.poll) c.requires.short;
  first = c.in-Ok.ensures.event;
}
