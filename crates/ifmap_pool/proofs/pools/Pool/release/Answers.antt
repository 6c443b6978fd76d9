use Rattle.ifmap_pool.proofs.Releases as releases
use Rattle.ifmap_pool.proofs.pools.Pool.release.Goals as goal

pub returns-clause-kept : goal.returns-clause-kept
returns-clause-kept g c = releases.lets_go c.release_one.ensures.goes

pub returns-clause-last : goal.returns-clause-last
returns-clause-last g c = releases.frees_last c.release_one.ensures.goes

pub returns-clause-counted : goal.returns-clause-counted
returns-clause-counted g c = releases.count_falls c.release_one.ensures.goes

pub returns-clause-others : goal.returns-clause-others
returns-clause-others g c = releases.others_same c.release_one.ensures.goes

pub returns-clause-spare : goal.returns-clause-spare
returns-clause-spare g c = releases.spare_more c.release_one.ensures.goes

pub returns-clause-limit : goal.returns-clause-limit
returns-clause-limit g c = releases.limit_same c.release_one.ensures.goes

pub returns-clause-held : goal.returns-clause-held
returns-clause-held g c key other count mine =
    releases.held_by_keys c.release_one.ensures.goes g.met.K.Ord.total c.release_one.ensures.before key mine other count
