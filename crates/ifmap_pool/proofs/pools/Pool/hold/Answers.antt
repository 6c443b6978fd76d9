use Rattle.ifmap_pool.proofs.Holds as holds
use Rattle.ifmap_pool.proofs.Holds.{IsOneMore}
use Rattle.ifmap_pool.proofs.pools.Pool.hold.Given as given
use Rattle.ifmap_pool.proofs.pools.Pool.hold.Goals as goal
use Rattle.ifmap_pool.proofs.pools.Pool.hold.Goals.{After-hold_one}

more : (g : given.Over) (c : After-hold_one g)
    → IsOneMore g.K.Ord.cmp c.args.self.now c.hold_one.new.self c.hold_one.result c.args.key
more g c = record {
  holds = c.hold_one.ensures.holds;
  before = c.hold_one.ensures.before;
  whole = c.hold_one.ensures.whole;
}

pub returns-clause-named : goal.returns-clause-named
returns-clause-named g c = holds.names_key g.met.K.Ord.total (more g (goal.at.returns-clause-named g c).After-hold_one)

pub returns-clause-present : goal.returns-clause-present
returns-clause-present g c = holds.holds_again g.met.K.Ord.total (more g (goal.at.returns-clause-present g c).After-hold_one)

pub returns-clause-absent : goal.returns-clause-absent
returns-clause-absent g c = holds.takes_number g.met.K.Ord.total (more g (goal.at.returns-clause-absent g c).After-hold_one)

pub returns-clause-counted : goal.returns-clause-counted
returns-clause-counted g c = holds.count_rises g.met.K.Ord.total (more g (goal.at.returns-clause-counted g c).After-hold_one)

pub returns-clause-others : goal.returns-clause-others
returns-clause-others g c = holds.others_same g.met.K.Ord.total (more g (goal.at.returns-clause-others g c).After-hold_one)

pub returns-clause-kept : goal.returns-clause-kept
returns-clause-kept g c = holds.keeps_names g.met.K.Ord.total (more g (goal.at.returns-clause-kept g c).After-hold_one)

pub returns-clause-spare : goal.returns-clause-spare
returns-clause-spare g c = holds.spare_left g.met.K.Ord.total (more g (goal.at.returns-clause-spare g c).After-hold_one)

pub returns-clause-below : goal.returns-clause-below
returns-clause-below g c = holds.one_more_at_most g.met.K.Ord.total (more g (goal.at.returns-clause-below g c).After-hold_one)

pub returns-clause-limit : goal.returns-clause-limit
returns-clause-limit g c = holds.limit_same g.met.K.Ord.total (more g (goal.at.returns-clause-limit g c).After-hold_one)

pub returns-clause-held : goal.returns-clause-held
returns-clause-held g c = holds.held_by_keys g.met.K.Ord.total (more g (goal.at.returns-clause-held g c).After-hold_one)
