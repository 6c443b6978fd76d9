use Rattle.std.proofs.Common.{subst}
use Rattle.ifmap_graph.specs.Named.{AreEnds}
use Rattle.ifmap_graph.proofs.KeyHolds.{identifiers_stay, named_before, one_live, one_released, pair_live}
use Rattle.ifmap_graph.proofs.ends.release_ends.Goals as goal

pub release-requires : goal.release-requires
release-requires c = one_live c.args.names.now c.args.names.now c.in-One.number c.requires.0
    (subst (AreEnds c.args.names.now c.requires.0) c.in-One.is c.requires.2)

pub release_pair-requires : goal.release_pair-requires
release_pair-requires c =
    pair_live c.args.names.now c.args.names.now c.in-Pair.one c.in-Pair.two c.requires.0 c.requires.1
    (subst (AreEnds c.args.names.now c.requires.0) c.in-Pair.is c.requires.2)

pub returns-in-One : goal.returns-in-One
returns-in-One c =
    let live = one_live c.args.names.now c.args.names.now c.in-One.number c.requires.0
    (subst (AreEnds c.args.names.now c.requires.0) c.in-One.is c.requires.2)
    in rw c.in-One.is (record {
      held = one_released c.args.names.now c.release.new.self c.in-One.number c.release.ensures.held;
      before = named_before c.args.names.now c.release.new.self c.in-One.number live
          c.release.ensures.kept c.release.ensures.last c.release.ensures.counted c.release.ensures.others;
      keys = identifiers_stay c.args.names.now c.release.new.self c.in-One.number live
          c.release.ensures.kept c.release.ensures.last c.release.ensures.counted c.release.ensures.others;
      limit = c.release.ensures.limit;
      spare = c.release.ensures.spare;
      whole = c.release.ensures.whole;
    })

pub returns-in-Pair : goal.returns-in-Pair
returns-in-Pair c = rw c.in-Pair.is c.release_pair.ensures
