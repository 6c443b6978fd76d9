use Rattle.ifmap_region_tests.proofs.PairLinks.{pairs_symmetric}
use Rattle.ifmap_region_tests.proofs.regions.patch_to.Goals as goal

pub repair-requires-clause-symmetric : goal.repair-requires-clause-symmetric
repair-requires-clause-symmetric g c = pairs_symmetric _ c.args.links.now
