use Rattle.std.proofs.Common.{◌∙◌, ◌||◌, ap, sym, length}
use Rattle.std.specs.BTreeMap.{get}
use Rattle.std.specs.Ordering.{nat_cmp}
use Rattle.ifmap_standing.specs.ifmap_machine.Telling.{is_overfull}
use Rattle.ifmap_tellings.specs.Tellings.{flags_since, is_alone, tell_by}
use Rattle.ifmap_tellings.proofs.FlagLaws.{alone_are_bare}
use Rattle.ifmap_tellings.proofs.NewsLaws.{brought_all, gone_long, mid_can, mid_fits, mid_within, queues_within, told_all}
use Rattle.ifmap_tellings.proofs.QueuedLaws.{left_alone}
use Rattle.ifmap_tellings.proofs.tellings.queue_news.Goals as goal

pub queue_all-requires-clause-within : goal.queue_all-requires-clause-within
queue_all-requires-clause-within c = queues_within c.args.pending.now.tellings c.args.sessions.now.live c.requires.within

pub queue_all-requires-clause-alone : goal.queue_all-requires-clause-alone
queue_all-requires-clause-alone c = λ n alone.
    left_alone n c.args.standing.now c.args.pending.now.gone.items c.args.news c.requires.flags (c.requires.alone n alone)
    c.requires.skipped

pub overflow_all-requires-clause-within : goal.overflow_all-requires-clause-within
overflow_all-requires-clause-within c =
    mid_within c.args.standing.now c.args.news c.args.pending.now.tellings c.queue_all.new.tellings c.in_ok-queue_all.ensures.added
    c.args.sessions.now.live c.requires.within

pub overflow_all-requires-clause-rest : goal.overflow_all-requires-clause-rest
overflow_all-requires-clause-rest c =
    mid_can c.args.standing.now c.args.pending.now.tellings c.queue_all.new.tellings c.in_ok-queue_all.ensures.others c.args.sessions.now
    c.requires.can_tell

pub overflow_all-requires-clause-others : goal.overflow_all-requires-clause-others
overflow_all-requires-clause-others c =
    mid_fits c.args.standing.now c.args.pending.now.tellings c.queue_all.new.tellings c.in_ok-queue_all.ensures.others
    c.args.sessions.now.live c.requires.within

pub flag_alone-requires : goal.flag_alone-requires
flag_alone-requires c =
    let gone = c.args.pending.now.gone.items
    in ap length (c.flag_too_big.ensures ∙ ap (flags_since gone) c.as_slice.ensures)
    ∙ gone_long gone c.args.news (c.requires.flags ∙ sym c.requires.long) ∙ c.requires.flags

pub returns-clause-told : goal.returns-clause-told
returns-clause-told c =
    c.in_ok-overflow_all.ensures.told
    ∙ told_all c.args.standing.now c.args.news c.args.pending.now.tellings c.queue_all.new.tellings c.in_ok-queue_all.ensures.added
    c.args.sessions.now.live

pub returns-clause-overrun : goal.returns-clause-overrun
returns-clause-overrun c = λ s h.
    let mid = c.queue_all.new.tellings
    in let added = c.in_ok-queue_all.ensures.added s.serial
    in c.in_ok-overflow_all.ensures.alone s h
    ∙ ap (λ b. b || is_overfull (tell_by mid s)) added.alone
    ∙ ap (λ t. is_alone (get nat_cmp c.args.pending.now.tellings s.serial) || is_overfull t) (added.told s)

pub returns-clause-brought : goal.returns-clause-brought
returns-clause-brought c =
    brought_all c.args.standing.now c.args.news c.args.pending.now.tellings c.queue_all.new.tellings c.in_ok-queue_all.ensures.added
    c.overflow_all.new.tellings c.in_ok-overflow_all.ensures.keys

pub returns-clause-alone : goal.returns-clause-alone
returns-clause-alone c =
    alone_are_bare c.overflow_all.new.tellings c.flag_too_big.new.gone.items c.flag_alone.new.gone.items c.args.standing.now
    c.flag_alone.ensures
