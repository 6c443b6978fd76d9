use Rattle.std.proofs.Common.{◌≡◌, ◌∙◌, ap}
use Rattle.std.proofs.lemmas.Result.{on_ok_weaker}
use Rattle.ifmap_rows.specs.ifmap_plans.Lists.{next_on}
use Rattle.ifmap_publish.specs.Working.{over_keys}
use Rattle.ifmap_publish.proofs.Gathering.{keyed_apart, keyed_over}
use Rattle.ifmap_publish.proofs.edits.put_over_keys.Goals as goal

pub exchange-requires : goal.exchange-requires
exchange-requires c =
    rw c.deref.ensures.value
    (keyed_apart c.args.put.now c.args.more.now c.in_ok-found.found.items c.requires.put.whole c.requires.more c.in_ok-found.ensures)

pub returns : goal.returns
returns c =
    on_ok_weaker {P = c.exchange.new.self ≡ next_on c.deref.result.now c.args.more.now c.args.put.now}
    {Q = c.exchange.new.self ≡ over_keys c.args.put.now c.args.more.now} c.exchange.result
    (λ e. e ∙ ap (λ l. next_on l c.args.more.now c.args.put.now) c.deref.ensures.value
    ∙ keyed_over c.args.put.now c.args.more.now c.in_ok-found.found.items c.in_ok-found.ensures)
    c.exchange.ensures
