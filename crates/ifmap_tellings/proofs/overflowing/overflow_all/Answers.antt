use Rattle.std.proofs.Common.{refl}
use Rattle.std.proofs.lemmas.Option.{slice_get_read}
use Rattle.ifmap_tellings.proofs.PassedLaws.{passed_alone, passed_can, passed_first, passed_next, passed_told}
use Rattle.ifmap_tellings.proofs.overflowing.overflow_all.Goals as goal

pub loop-one-init : goal.loop-one-init
loop-one-init c =
    passed_first c.args.standing.now c.args.sessions.now c.args.tellings.now c.requires.others c.requires.rest c.requires.sized

pub loop-one-preserved : goal.loop-one-preserved
loop-one-preserved c =
    let here = slice_get_read c.args.standing.now _ c.loop-one.one-index c.one-item.result refl c.loop-one-test.true c.one-item.is
    in let e = c.in_ok-overflow_one.ensures
    in passed_next c.args.standing.now c.args.sessions.now c.loop-one.sessions c.args.tellings.now c.loop-one.tellings c.loop-one.one-index
    c.loop-one.invariant _ here c.is_table.ensures.rising c.requires.wide c.overflow_one.new.sessions c.overflow_one.new.tellings
    e.told e.alone e.key e.others e.can_tell e.sized c.overflow_one.ensures.same

pub returns-clause-told : goal.returns-clause-told
returns-clause-told c =
    passed_told c.args.standing.now c.args.sessions.now c.loop-one.sessions c.args.tellings.now c.loop-one.tellings c.loop-one.one-index
    c.loop-one.invariant c.loop-one-test.false

pub returns-clause-can_tell : goal.returns-clause-can_tell
returns-clause-can_tell c =
    passed_can c.args.standing.now c.args.sessions.now c.loop-one.sessions c.args.tellings.now c.loop-one.tellings c.loop-one.one-index
    c.loop-one.invariant c.loop-one-test.false

pub returns-clause-alone : goal.returns-clause-alone
returns-clause-alone c =
    passed_alone c.args.standing.now c.args.sessions.now c.loop-one.sessions c.args.tellings.now c.loop-one.tellings c.loop-one.one-index
    c.loop-one.invariant c.loop-one-test.false
