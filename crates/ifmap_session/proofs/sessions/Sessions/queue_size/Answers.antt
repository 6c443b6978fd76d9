use Rattle.std.proofs.Common.{◌≡◌, sym, ◌∙◌, ap, ◌-◌, ◌^◌, min}
use Rattle.ifmap_search.specs.Sizes.{queue_size}
use Rattle.ifmap_session.specs.Sessions.{Session}
use Rattle.ifmap_session.proofs.RowLaws.{found_in_row}
use Rattle.ifmap_session.proofs.sessions.Sessions.queue_size.Goals as goal

pub returns : goal.returns
returns c = λ s is.
    let got = rw (c.unwrap.ensures, c.deref.ensures.value) at c.find_live.ensures in
    let own = c.self.invariant.sessions.own in
    let there = found_in_row c.args.serial c.self.inside.rows.items got.0 c.unwrap.result.now own.rising own.own got.1 in
    let live = rw (← c.self.view_is) at is in
    let same : c.unwrap.result.now.session ≡ s = cc (sym there ∙ live) in (
      c.size.ensures.size ∙ ap (λ (t : Session). min (queue_size t.queue) (2 ^ 64 - 1)) same,
      c.size.ensures.limit
          ∙ ap (λ (t : Session). t.limit) same,
    )
