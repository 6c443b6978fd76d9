-- How many steps a search takes, and the operations of a subscribe, of the attachments that they are made on; and that none are within
-- any of these bounds.
use Rattle.std.specs.Prelude.{◌≡◌, ◌≤◌, ◌⊎◌, ℕ, List, [], ◌∷◌, length}
use Rattle.std.proofs.Common.{arith, inl}
use Rattle.ifmap_changes.specs.ifmap_delta.SeenViews.{ViewSeen}
use Rattle.ifmap_changes.specs.ifmap_fresh.Linking.{IsReachedAt}
use Rattle.ifmap_changes.specs.ifmap_region.Bounds.{IsWithin}
use Rattle.ifmap_changes.specs.ifmap_requests.declared.requests.SubscribeOp.{SubscribeOp}
use Rattle.ifmap_changes.specs.ifmap_requests.declared.requests.SubscribeOp.TheVariants.{Update, Delete}
use Rattle.ifmap_search.specs.declared.searches.Search.{Search}
use Rattle.ifmap_changes.specs.ifmap_view.declared.attachments.Attachment.{Attachment}
use Rattle.ifmap_changes.specs.ifmap_view.Views.{IsView}

-- the steps rose by at most so many times the links of all that a search reaches; or not at all. The sum is the same whichever numbers
-- identifiers have, so it is enough that it holds with one numbering.
abbrev pub IsWithinSpan : ℕ → List Attachment → Search → ℕ → ℕ → Type 0
IsWithinSpan times rows s before after =
    (after ≤ before)
    ⊎ ((g : ViewSeen) × (g.rows ≡ rows) × IsView g.rows g.id_at g.links
    × IsWithin (λ v. length (g.links v)) (IsReachedAt g.rows g.id_at s) times before after)

-- by at most four times that for an update
abbrev pub IsOpWithin : List Attachment → SubscribeOp → ℕ → ℕ → Type 0
IsOpWithin rows (Update name search) before after = IsWithinSpan 4 rows search before after
IsOpWithin rows (Delete name) before after = after ≤ before

-- by at most the sum of that for these operations
abbrev pub AreOpsWithin : List Attachment → List SubscribeOp → ℕ → ℕ → Type 0
AreOpsWithin rows [] before after = after ≤ before
AreOpsWithin rows (op ∷ ops) before after = (middle : ℕ) × IsOpWithin rows op before middle × AreOpsWithin rows ops middle after

pub no_op : (rows : List Attachment) (op : SubscribeOp) (n : ℕ) → IsOpWithin rows op n n
no_op rows (Update name search) n = inl (omega arith)
no_op rows (Delete name) n = omega arith

pub no_ops : (rows : List Attachment) (ops : List SubscribeOp) (n : ℕ) → AreOpsWithin rows ops n n
no_ops rows [] n = omega arith
no_ops rows (op ∷ ops) n = (n, no_op rows op n, no_ops rows ops n)
