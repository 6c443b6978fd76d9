use Rattle.std.proofs.Common.{rules, sym, subst}
use Rattle.ifmap_meta.specs.Whole.{IsWhole}
use Rattle.ifmap_meta.specs.laws.WholeLaws.{stamped_is_whole}
use Rattle.ifmap_meta.proofs.metadata.Metadata.stamp.Goals as goal

pub returns-clause-stored : goal.returns-clause-stored
returns-clause-stored c = search rules

pub returns-clause-whole : goal.returns-clause-whole
returns-clause-whole c met =
    subst IsWhole (sym (returns-clause-stored c))
    (stamped_is_whole c.args.self.now c.args.publisher.now c.args.moment c.args.life met c.text.ensures.form)
