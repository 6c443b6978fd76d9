use Rattle.std.proofs.Common.{◌++◌, ◌∷◌, [], List, option_to_list}
use Rattle.std.proofs.lemmas.Result.{on_err_weaker}
use Rattle.std.specs.List.{AllByRecursion}
use Rattle.ifmap_lemmas.specs.Outcomes.{of_three}
use Rattle.ifmap_changes.specs.Between.{IsSteady, seen_now}
use Rattle.ifmap_changes.specs.ifmap_delta.SeenViews.{IsUpToDate}
use Rattle.ifmap_changes.specs.ifmap_standing.declared.standing.Standing.{Standing}
use Rattle.ifmap_subscribes.proofs.Ready.{few_own, stand_more, stand_still, stays_ready}
use Rattle.ifmap_changes.specs.ifmap_graph.Seen.{rows_now}
use Rattle.ifmap_subscribes.specs.Readying.{BeginsName, CanStand}
use Rattle.ifmap_subscribes.specs.Renamings.{starts_by}
use Rattle.ifmap_subscribes.proofs.readying.begin_beside.Goals as goal

pub begin_name-begun-requires-clause-few : goal.begin_name-begun-requires-clause-few
begin_name-begun-requires-clause-few g c =
    let p = c.args.parts.now in
    few_own p.graph p.sessions.live p.standing.items c.args.made.now c.requires.ready.ordered c.is_table.ensures.few c.requires.most
    c.requires.stand.steady

pub returns-clause-stand : goal.returns-clause-stand
returns-clause-stand g c =
    let p = c.args.parts.now in
    let made = c.args.made.now in
    let n = c.args.scene.now.serial in
    let h = c.begin_name-begun.new.graph in
    let e = c.begin_name-begun.ensures in
    let wish = c.args.wish.now in
    of_three (BeginsName (rows_now p.graph) n wish.name.now wish.search.now)
    (λ r. AllByRecursion (λ x. IsUpToDate (seen_now h) x.subscription) (option_to_list r.standing))
    (λ r. (standing : List Standing) → IsSteady p.graph standing → IsSteady h (standing ++ option_to_list r.standing))
    (λ r. CanStand n (record p { graph = h }) (made ++ r ∷ [])) c.begin_name-begun.result e.begins e.kept e.steady
    (λ r begins k steady. stand_more c.same_links_keep_subscriptions.ensures n p h made c.is_view.ensures c.is_view-2.ensures e.holds
    c.requires.stand r begins.session k (steady (p.standing.items ++ starts_by made) c.requires.stand.steady))

pub returns-clause-err : goal.returns-clause-err
returns-clause-err g c =
    let p = c.args.parts.now in
    let made = c.args.made.now in
    let n = c.args.scene.now.serial in
    let h = c.begin_name-begun.new.graph in
    let e = c.begin_name-begun.ensures in
    on_err_weaker {P = (standing : List Standing) → IsSteady p.graph standing → IsSteady h standing}
    {Q = CanStand n (record p { graph = h }) made} c.begin_name-begun.result
    (λ steady. stand_still c.same_links_keep_subscriptions.ensures n p h made c.is_view.ensures c.is_view-2.ensures e.holds
    c.requires.stand (steady (p.standing.items ++ starts_by made) c.requires.stand.steady)) e.err

pub returns-clause-ready : goal.returns-clause-ready
returns-clause-ready g c =
    stays_ready c.same_links_keep_subscriptions.ensures c.args.scene.now.serial c.args.parts.now c.begin_name-begun.new.graph
    c.args.made.now c.is_view.ensures c.is_view-2.ensures c.begin_name-begun.ensures.holds c.requires.stand c.args.scene.now.asking.now
    c.args.scene.now.pending.now c.requires.ready
