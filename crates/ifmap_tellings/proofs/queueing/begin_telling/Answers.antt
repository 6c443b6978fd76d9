use Rattle.std.proofs.Common.{◌∙◌, ◌^◌, ◌<◌, List, [], Some, subst, sym, arith}
use Rattle.std.proofs.lemmas.Option.{same_Some}
use Rattle.ifmap_search.specs.declared.results.PollItem.{PollItem}
use Rattle.ifmap_tellings.specs.Tellings.{AddsTo, IsSized}
use Rattle.ifmap_tellings.specs.declared.tellings.Telling.TheVariants.{After}
use Rattle.ifmap_lemmas.specs.Numbers.{others_untied}
use Rattle.ifmap_tellings.proofs.AddedLaws.{begin_adds, begun_size}
use Rattle.ifmap_tellings.proofs.queueing.begin_telling.Goals as goal

pub returns-clause-added : goal.returns-clause-added
returns-clause-added c =
    let size = c.queue_size-size.result.0
    in let items = c.args.items
    in begin_adds items size _ c.requires.some
    (subst (λ o. AddsTo items (Some (After [] size)) o) (sym c.in_ok-insert.ensures.updates.1)
    (subst (λ (none : List PollItem). AddsTo items (Some (After none size)) (Some c.add_items.new.telling)) c.new.ensures
    c.in_ok-add_items.ensures.added))

pub returns-clause-others : goal.returns-clause-others
returns-clause-others c = λ n other. c.in_ok-insert.ensures.updates.2 n (others_untied c.args.serial n (λ e. other (sym e)))

pub returns-clause-sized : goal.returns-clause-sized
returns-clause-sized c = λ t e.
    let live = c.args.sessions.now.live
    in let size = c.queue_size-size.result.0
    in let fits : c.queue_size-size.result.1 < 2 ^ 32 = omega arith
    in let before = begun_size c.args.serial live size c.queue_size-size.result.1 c.queue_size-size.ensures c.requires.within fits
    in let after = c.in_ok-add_items.ensures.sized c.args.serial live
    (subst (λ (none : List PollItem). IsSized c.args.serial (After none size) live) (sym c.new.ensures) before)
    in subst (λ (t : _). IsSized c.args.serial t live) (same_Some _ t (sym c.in_ok-insert.ensures.updates.1 ∙ e)) after
