use Rattle.std.proofs.Common.{◌≡◌, ap, subst, sym, take, get_or, ◌+◌}
use Rattle.ifmap_region.specs.Marks.{mark_of}
use Rattle.ifmap_delta.specs.Flipped.{AreFlipsOf}
use Rattle.ifmap_delta.specs.Located.{IsLocatedTwice}
use Rattle.ifmap_delta.proofs.Along.{flips_more}
use Rattle.ifmap_delta.proofs.InStep.{each_at}
use Rattle.ifmap_delta.proofs.flips.flips_of.Goals as goal

pub loop-i-preserved : goal.loop-i-preserved
loop-i-preserved c = λ old new are.
    let s = c.args.search.now
    in let changes = c.args.changes.now
    in let l = c.loop-i
    in let change = get_or changes l.i c.index-changes-i.result
    in let is : change ≡ get_or changes l.i change = ap (λ x. get_or changes l.i x) c.index-changes-i.is
    in let at = each_at (λ c l. IsLocatedTwice old new c.item l) changes c.args.located.now l.i change c.index-located-i.result are
    c.loop-i-test.true is c.index-located-i.is
    in let mark = mark_of c.args.region.now.marks.entries
    in subst (λ fs. AreFlipsOf old new s mark (take (l.i + 1) changes) fs) (sym c.in_ok-offer.ensures)
    (flips_more old new s mark changes l.flips.items l.i change c.flip_of.result c.loop-i-test.true is
    (l.invariant old new are) (c.flip_of.ensures.some old new at) (c.flip_of.ensures.each old new at))
