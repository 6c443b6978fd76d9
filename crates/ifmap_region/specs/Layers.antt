-- Layers: rows over the marks of a region, with the most links of a walk and the graph along which it goes.
use Rattle.std.specs.Prelude.{◌≡◌, ℕ, suc, ◌+◌, ◌<◌, ◌≤◌, true, false, Option, Some, IsSome, List, sum_by}
use Rattle.ifmap_region.specs.declared.flips.Flip.{Flip}
use Rattle.ifmap_region.specs.declared.bases.Basis.{Basis}
use Rattle.ifmap_region.specs.Bounds.{IsWithin}
use Rattle.ifmap_region.specs.Flips.{WithRemoved, Mid}
use Rattle.ifmap_region.specs.Links.{GraphSeen, links_of}
use Rattle.ifmap_region.specs.Losing.{HasNearerMark, IsBeforeCut, IsCutting}
use Rattle.ifmap_region.specs.Marks.{mark_of, row_of, mark_over}
use Rattle.ifmap_region.specs.Near.{NearOneWay}
use Rattle.ifmap_region.specs.Seeds.{IsNext, MayHold, Lowers}
use Rattle.ifmap_region.specs.Spreading.{IsReady, IsFalling, IsCharged, Improves}
use Rattle.ifmap_region.specs.Walks.{AreDepths}

-- what a call that sets marks works on: the graph, the most links of a walk, the marks below, and the rows over them
pub record Layer : Type 0 where
  pub graph : GraphSeen
  pub top : ℕ
  pub first : ℕ → Option ℕ
  pub rows : List (ℕ × Option ℕ)

-- the layer of rows over a basis, of whose graph this is seen
abbrev pub layer_of : {X : Type 0} → (X → GraphSeen) → Basis X → List (ℕ × Option ℕ) → Layer
layer_of seen basis rows = record {
  graph = seen basis.graph.now;
  top = basis.top;
  first = mark_of basis.base.now.entries;
  rows = rows;
}

-- the same layer with other rows
abbrev pub with_rows : Layer → List (ℕ × Option ℕ) → Layer
with_rows layer rows = record {
  graph = layer.graph;
  top = layer.top;
  first = layer.first;
  rows = rows;
}

-- the links of a layer's graph
abbrev pub links : Layer → ℕ → ℕ → Type 0
links layer = links_of layer.graph

-- the marks of a layer
abbrev pub marks : Layer → ℕ → Option ℕ
marks layer = mark_over layer.rows layer.first

-- the number has a mark that is at most so much
abbrev pub HasMarkWithin : Layer → ℕ → ℕ → Type 0
HasMarkWithin layer v most = (k : ℕ) × (k ≤ most) × (marks layer v ≡ Some k)

-- the marks are the depths over the layer's links
abbrev pub HasDepths : Layer → ℕ → Type 0
HasDepths layer start = AreDepths (links layer) layer.graph.terminal start layer.top (marks layer)

-- the marks are ready to fall to the depths, where these wait
abbrev pub MayFall : Layer → ℕ → (ℕ → ℕ → Type 0) → Type 0
MayFall layer start = IsReady (links layer) layer.graph.terminal start layer.top (marks layer)

-- the same while numbers of a level, and of the one that follows, are in the queue
abbrev pub Falls : Layer → ℕ → List (ℕ × ℕ) → ℕ → List ℕ → List ℕ → Type 0
Falls layer start = IsFalling (links layer) layer.graph.terminal start layer.top (marks layer)

-- the numbers that a walk reaches by fewer links than their marks say
abbrev pub IsShortened : Layer → ℕ → ℕ → Type 0
IsShortened layer start = Improves (links layer) layer.graph.terminal start layer.top (marks layer)

-- marks only fell from the first ones, and each step is charged to a number whose mark fell, those of the queue in
-- advance
abbrev pub Charges : Layer → ℕ → (ℕ → Option ℕ) → ℕ → ℕ → ℕ → List ℕ → Type 0
Charges layer start first level before owed queue = IsCharged (links layer) layer.graph.terminal start layer.top
    layer.graph.count first (marks layer) level before (owed + sum_by layer.graph.count queue)

-- the marks below are the depths over the layer's links and the removed ones
abbrev pub IsUncut : Layer → List Flip → ℕ → Type 0
IsUncut layer flips start = IsBeforeCut (links layer) layer.graph.terminal flips start layer.top layer.first

-- the steps are within so many times the links of what is near the removed links
abbrev pub IsNearCut : Layer → List Flip → ℕ → ℕ → ℕ → ℕ → Type 0
IsNearCut layer flips start = IsWithin layer.graph.count (NearOneWay flips false (WithRemoved (links layer) flips)
    (links layer) layer.graph.terminal start layer.top)

-- the marks are the depths over the layer's links without the added ones
abbrev pub IsUngrown : Layer → List Flip → ℕ → Type 0
IsUngrown layer flips start = AreDepths (Mid (links layer) flips) layer.graph.terminal start layer.top (marks layer)

-- the steps are within so many times the links of what is near the added links
abbrev pub IsNearGrowth : Layer → List Flip → ℕ → ℕ → ℕ → ℕ → Type 0
IsNearGrowth layer flips start = IsWithin layer.graph.count (NearOneWay flips true (Mid (links layer) flips) (links
    layer) layer.graph.terminal start layer.top)

-- a level follows the mark of a number from which a walk may go on
abbrev pub IsNextOf : Layer → ℕ → ℕ → Type 0
IsNextOf layer = IsNext layer.graph.terminal layer.top (marks layer)

-- a number may have held another by a link, whose mark this is
abbrev pub MayHoldAt : Layer → ℕ → ℕ → ℕ → Type 0
MayHoldAt layer = MayHold layer.graph.terminal layer.top (marks layer)

-- a number lowers another by a link, to this level
abbrev pub LowersTo : Layer → ℕ → ℕ → ℕ → Type 0
LowersTo layer = Lowers layer.graph.terminal layer.top (marks layer)

-- removed links are being cut: what the rows, the numbers that are gone, the seeds that wait, the queues and the steps
-- say
abbrev pub IsBeingCut : Layer → List Flip → ℕ → List ℕ → List (ℕ × ℕ) → ℕ → List ℕ → List ℕ → ℕ → ℕ → Type 0
IsBeingCut layer flips start = IsCutting (links layer) layer.graph.terminal layer.graph.count flips start layer.top
    layer.first layer.rows

-- a neighbour by a link that stays holds the number at a level
abbrev pub HasHolder : Layer → ℕ → ℕ → Type 0
HasHolder layer = HasNearerMark (λ u v. links layer v u) layer.graph.terminal (marks layer)

-- no neighbour by a link that stays holds the number at a level
abbrev pub IsUnheld : Layer → ℕ → ℕ → Type 0
IsUnheld layer v level = (u d : ℕ) → level ≡ suc d → links layer v u → layer.graph.terminal u ≡ false → marks layer u
    ≡ Some d → ⊥

-- the neighbours to which a walk goes on from a number of a level, and which had the next level as their mark, have
-- rows
abbrev pub AreFollowed : Layer → ℕ → ℕ → Type 0
AreFollowed layer v level = (w : ℕ) → level < layer.top → layer.graph.terminal v ≡ false → links layer v w
    → layer.first w ≡ Some (level + 1) → IsSome (row_of layer.rows w)
