use Rattle.std.proofs.Common.{arith}
use Rattle.jiff_core.proofs.SignedLemmas.{signed_arith}
use Rattle.ifmap_io.proofs.CivilFacts.{starts_at_zero}
use Rattle.ifmap_io.proofs.calendar.civil_at.Goals as goal

pub add-requires : goal.add-requires
add-requires c =
    let e = starts_at_zero c.datetime.result c.datetime.ensures.date c.datetime.ensures.time in
    rw e (omega (arith, signed_arith))

pub returns : goal.returns
returns c =
    let e = starts_at_zero c.datetime.result c.datetime.ensures.date c.datetime.ensures.time in
    rw (c.add.ensures, e, c.from_secs.ensures) (omega (arith, signed_arith))
