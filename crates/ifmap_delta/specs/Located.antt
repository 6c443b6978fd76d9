-- Where the items of a plan stand in the graph and in the draft.
use Rattle.std.specs.Prelude.{◌≡◌, ℕ, List, [], ◌∷◌, Option, Some, IfSome}
use Rattle.ifmap_ident.specs.declared.identifiers.Identifier.{Identifier}
use Rattle.ifmap_ident.specs.declared.items.Item.{Item}
use Rattle.ifmap_ident.specs.declared.items.Item.TheVariants.{One, Pair}
use Rattle.ifmap_plans.specs.declared.plans.ItemChange.{ItemChange}
use Rattle.ifmap_plans.specs.declared.plans.Note.{Note}
use Rattle.ifmap_view.specs.Rows.{stored_on}
use Rattle.ifmap_view.specs.Views.{IsView}
use Rattle.ifmap_delta.specs.Changes.{ShowsAfter}
use Rattle.ifmap_delta.specs.declared.locating.Located.{Located}
use Rattle.ifmap_delta.specs.declared.locating.LocatedChange.{LocatedChange}
use Rattle.ifmap_delta.specs.declared.locating.LocatedPlan.{LocatedPlan}
use Rattle.ifmap_delta.specs.SeenViews.{ViewSeen}

-- the number of an identifier in a view, where it is live there
pub record IsNumberOf (g : ViewSeen) (a : Identifier) (number : Option ℕ) : Type 0 where
  pub found : IfSome number (λ v. g.id_at v ≡ Some a)
  pub only : (v : ℕ) → g.id_at v ≡ Some a → number ≡ Some v

-- the numbers of an item's identifiers in a view
abbrev pub AreLocatedEnds : ViewSeen → Item → Located → Type 0
AreLocatedEnds g (One a) l = IsNumberOf g a l.first
AreLocatedEnds g (Pair a b) l = IsNumberOf g a l.first × IsNumberOf g b l.second

-- the numbers of an item's identifiers in a view, and what is stored on it
pub record IsLocated (g : ViewSeen) (x : Item) (l : Located) : Type 0 where
  pub ends : AreLocatedEnds g x l
  pub rows : l.rows.now ≡ stored_on x g.rows

-- the same in two views
pub record IsLocatedTwice (old new : ViewSeen) (x : Item) (l : LocatedChange) : Type 0 where
  pub before : IsLocated old x l.before
  pub after : IsLocated new x l.after

-- two lists are of one length, and a relation holds at each place
abbrev pub AreEach : {X Y : Type 0} → (X → Y → Type 0) → List X → List Y → Type 0
AreEach R [] [] = Unit {0}
AreEach R [] (y ∷ ys) = ⊥
AreEach R (x ∷ xs) [] = ⊥
AreEach R (x ∷ xs) (y ∷ ys) = R x y × AreEach R xs ys

-- the items of changes, in order
abbrev pub AreLocated : ViewSeen → ViewSeen → List ItemChange → List LocatedChange → Type 0
AreLocated old new = AreEach (λ c. IsLocatedTwice old new c.item)

-- the items of notes, in order
abbrev pub AreNotesLocated : ViewSeen → List Note → List Located → Type 0
AreNotesLocated g = AreEach (λ n. IsLocated g n.item)

-- the items of a plan
pub record IsLocatedPlan (old new : ViewSeen) (p : LocatedPlan) : Type 0 where
  pub changes : AreLocated old new p.plan.now.changes p.changes.items
  pub notes : AreNotesLocated new p.plan.now.notes p.notes.items

-- a draft beside the graph, each a view, shows it after the changes of a plan, whose items are located in both
pub record IsPlannedDraft (old new : ViewSeen) (p : LocatedPlan) : Type 0 where
  pub graph : IsView old.rows old.id_at old.links
  pub draft : IsView new.rows new.id_at new.links
  pub change : ShowsAfter old new p.plan.now.changes
  pub located : AreLocated old new p.plan.now.changes p.changes.items
