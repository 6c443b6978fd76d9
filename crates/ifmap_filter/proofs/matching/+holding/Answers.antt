use Rattle.std.proofs.Common.{ap, sym, ◌∙◌}
use Rattle.ifmap_filter.specs.Meets.{holds}
use Rattle.ifmap_filter.proofs.HoldLaws.{holds_all, holds_one}
use Rattle.ifmap_filter.proofs.matching.+holding.Goals as goal

pub holds-returns-in-And : goal.holds-returns-in-And
holds-returns-in-And t c =
    c.all_hold.ensures ∙ sym (ap (holds c.args.element.now) c.in-And.is ∙ holds_all c.args.element.now c.in-And.parts)

pub holds-returns-in-Or : goal.holds-returns-in-Or
holds-returns-in-Or t c =
    c.one_holds.ensures ∙ sym (ap (holds c.args.element.now) c.in-Or.is ∙ holds_one c.args.element.now c.in-Or.parts)
