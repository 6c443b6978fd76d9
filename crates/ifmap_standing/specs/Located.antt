-- A change whose plan's items were looked up.
use Rattle.std.specs.List.{AllByRecursion}
use Rattle.ifmap_delta.specs.declared.locating.LocatedPlan.{LocatedPlan}
use Rattle.ifmap_delta.specs.Changes.{ShowsAfter}
use Rattle.ifmap_delta.specs.Located.{IsLocatedPlan}
use Rattle.ifmap_delta.specs.SeenViews.{ViewSeen}
use Rattle.ifmap_ident.specs.Items.{IsCanonItem}
use Rattle.ifmap_view.specs.Views.{IsView}

-- the plan's items are located in two views
pub record IsLocatedIn (old new : ViewSeen) (p : LocatedPlan) : Type 0 where
  pub graph : IsView old.rows old.id_at old.links
  pub draft : IsView new.rows new.id_at new.links
  pub items : IsLocatedPlan old new p

-- and one view shows the other after the plan's changes, and what is notified is on items that can be stored
pub record IsPlannedIn (old new : ViewSeen) (p : LocatedPlan) : Type 0 where
  pub located : IsLocatedIn old new p
  pub change : ShowsAfter old new p.plan.now.changes
  pub notes : AllByRecursion (λ n. IsCanonItem n.item) p.plan.now.notes
