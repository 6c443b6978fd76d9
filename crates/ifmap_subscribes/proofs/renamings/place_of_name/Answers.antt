use Rattle.std.proofs.Common.{rules, ◌≡◌}
use Rattle.std.proofs.lemmas.Fn.{always_returns_same}
use Rattle.ifmap_subscribes.specs.Renamings.{order_to_name}
use Rattle.ifmap_subscribes.proofs.RenamingPlaces.{place_found, place_gap, place_none}
use Rattle.ifmap_subscribes.proofs.renamings.place_of_name.Goals as goal

pub returns-clause-found : goal.returns-clause-found
returns-clause-found c =
    let found = c.binary_search_by.ensures.position (order_to_name c.args.serial c.args.name.now) (always_returns_same _
    (λ a r. r ≡ order_to_name c.args.serial c.args.name.now a.0.now) _ (λ a r f k. search rules)) in
    place_found c.args.serial c.args.name.now c.args.standing.now c.binary_search_by.result c.binary_search_by.ensures.bound found

pub returns-clause-only : goal.returns-clause-only
returns-clause-only c =
    let found = c.binary_search_by.ensures.position (order_to_name c.args.serial c.args.name.now) (always_returns_same _
    (λ a r. r ≡ order_to_name c.args.serial c.args.name.now a.0.now) _ (λ a r f k. search rules)) in
    place_none c.args.serial c.args.name.now c.args.standing.now c.requires c.binary_search_by.result c.binary_search_by.ensures.bound found

pub returns-clause-gap : goal.returns-clause-gap
returns-clause-gap c =
    let found = c.binary_search_by.ensures.position (order_to_name c.args.serial c.args.name.now) (always_returns_same _
    (λ a r. r ≡ order_to_name c.args.serial c.args.name.now a.0.now) _ (λ a r f k. search rules)) in
    place_gap c.args.serial c.args.name.now c.args.standing.now c.requires c.binary_search_by.result c.binary_search_by.ensures.bound found
