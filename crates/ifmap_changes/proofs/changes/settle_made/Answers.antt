use Rattle.std.proofs.Common.{◌++◌, refl, sym, subst}
use Rattle.std.specs.List.{AllByRecursion}
use Rattle.ifmap_changes.specs.Between.{HasStartNumber, state_now}
use Rattle.ifmap_changes.proofs.Settling.{kept_settled, ready_after, same_left, same_state, settled_searches}
use Rattle.ifmap_changes.proofs.Steady.{HaveSameSearches, all_numbered, steady_beside}
use Rattle.ifmap_changes.proofs.changes.settle_made.Goals as goal
use Rattle.ifmap_lemmas.specs.Members.{all_both}
use Rattle.ifmap_graph.specs.ifmap_plans.Plans.{AreWhole}

pub returns-clause-steady : goal.returns-clause-steady
returns-clause-steady c = λ more s.
    let xs = c.args.parts.now.standing.items in
    let ys = c.settle_all.new.standing.items in
    steady_beside c.bytes_tell_identifiers_apart.ensures c.args.parts.now.graph c.settle-plan.new.self c.is_view.ensures
    c.settle-plan.ensures.done.still (subst AreWhole (sym c.settle-plan.ensures.now) s.whole) c.settle-plan.ensures.done.numbers
    c.settle-plan.ensures.done.own xs ys more (settled_searches c.args.made.ways xs ys c.settle_all.ensures.settled) s

pub returns-clause-settled : goal.returns-clause-settled
returns-clause-settled c = record {
  rows = c.settle-plan.ensures.now;
  links = c.settle-plan.ensures.links;
  numbers = c.settle-plan.ensures.done.numbers;
  len = c.settle_all.ensures.len;
  capacity = c.settle_all.ensures.capacity;
  searches = settled_searches c.args.made.ways c.args.parts.now.standing.items c.settle_all.new.standing.items c.settle_all.ensures.settled;
  sessions = refl;
}

pub returns-clause-ready : goal.returns-clause-ready
returns-clause-ready c = λ asking pending r.
    let xs = c.args.parts.now.standing.items in
    let ys = c.settle_all.new.standing.items in
    let same : HaveSameSearches xs ys = settled_searches c.args.made.ways xs ys c.settle_all.ensures.settled in
    let more = c.requires.steady.0 in
    let g = c.args.parts.now.graph in
    let h = c.settle-plan.new.self in
    let numbered : AllByRecursion (HasStartNumber h) xs =
    (all_both (HasStartNumber h) xs more (all_numbered c.bytes_tell_identifiers_apart.ensures g h c.is_view.ensures
    c.settle-plan.ensures.done.numbers c.settle-plan.ensures.done.own (xs ++ more) c.requires.steady.1)).0 in
    ready_after asking c.args.parts.now (record c.args.parts.now { graph = h; standing = c.settle_all.new.standing }) pending refl same
    (kept_settled c.same_links_keep_subscriptions.ensures c.same_marks_keep_subscriptions.ensures.settled g h c.is_view.ensures
    c.is_view-2.ensures c.settle-plan.ensures.now c.settle-plan.ensures.links c.settle-plan.ensures.done.numbers c.args.made.ways
    pending.gone.items xs ys numbered c.settle_all.ensures.settled r.kept) r

pub returns-clause-state_now : goal.returns-clause-state_now
returns-clause-state_now c = λ asking pending.
    let xs = c.args.parts.now.standing.items in
    let ys = c.settle_all.new.standing.items in
    same_state (state_now asking c.args.parts.now pending) _ _ _ _ c.settle-plan.ensures.now
    (same_left pending.gone.items xs ys (settled_searches c.args.made.ways xs ys c.settle_all.ensures.settled))

pub returns-clause-waits : goal.returns-clause-waits
returns-clause-waits c = λ rest w. c.settle-plan.ensures.done.waits rest w

pub returns-clause-lean : goal.returns-clause-lean
returns-clause-lean c = λ rest l. c.settle-plan.ensures.done.lean rest l
