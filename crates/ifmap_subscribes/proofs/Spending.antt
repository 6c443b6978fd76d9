-- The steps of a subscribe. First those of a search, on a graph that shows the same (`within_span`, `spanned_as`). Then those of one
-- operation and of the rest are those of all (`one_more`), or they stop there (`one_stops`).
use Rattle.std.proofs.Common.{◌≡◌, ◌∙◌, ◌<◌, ap, inr, refl, sym, subst, ℕ, suc, ◌+◌, add-one, List, ◌∷◌, drop, drop-cons, length, get_or}
use Rattle.ifmap_changes.specs.Between.{IsSeen, seen_now}
use Rattle.ifmap_changes.specs.ifmap_fresh.Linking.{IsReachedAt}
use Rattle.ifmap_changes.specs.ifmap_graph.Inside.{GraphInside}
use Rattle.ifmap_changes.specs.ifmap_graph.Seen.{links_now, rows_now}
use Rattle.ifmap_changes.specs.ifmap_pool.Holdings.{key_at}
use Rattle.ifmap_changes.specs.ifmap_region.Bounds.{IsWithin}
use Rattle.ifmap_changes.specs.ifmap_requests.declared.requests.SubscribeOp.{SubscribeOp}
use Rattle.ifmap_search.specs.declared.searches.Search.{Search}
use Rattle.ifmap_subscribes.specs.Bounds.{AreOpsWithin, IsOpWithin, IsWithinSpan, no_ops}
use Rattle.ifmap_changes.specs.ifmap_view.declared.attachments.Attachment.{Attachment}

-- a search that is the same as another, on a graph
pub within_span : (h : GraphInside) (times : ℕ) (s asked : Search) (before after : ℕ) → IsSeen h → s ≡ asked
    → IsWithin (λ v. length (links_now h v)) (IsReachedAt (rows_now h) (key_at h.names) s) times before after
    → IsWithinSpan times (rows_now h) asked before after
within_span h times s asked before after seen is w =
    inr (
      seen_now h,
      refl,
      seen,
      subst (λ (t : Search). IsWithin (λ v. length (links_now h v)) (IsReachedAt (rows_now h) (key_at h.names) t) times before after) is w,
    )

pub spanned_as : (times : ℕ) (was rows : List Attachment) (s : Search) (before after : ℕ) → was ≡ rows
    → IsWithinSpan times was s before after → IsWithinSpan times rows s before after
spanned_as times was rows s before after same w = subst (λ (r : List Attachment). IsWithinSpan times r s before after) same w

-- the operations that are left, from one on
left_from : (ops : List SubscribeOp) (i : ℕ) (op : SubscribeOp) → i < length ops → op ≡ get_or ops i op
    → drop i ops ≡ op ∷ drop (i + 1) ops
left_from ops i op low at =
    drop-cons ops i op low ∙ ap (λ o. o ∷ drop (suc i) ops) (sym at) ∙ ap (λ k. op ∷ drop k ops) (sym (add-one i))

module _ (was rows : List Attachment) (same : was ≡ rows) (ops : List SubscribeOp) (i : ℕ) (op : SubscribeOp) (low : i < length ops)
    (at : op ≡ get_or ops i op) (first before middle : ℕ)
    (all : (after : ℕ) → AreOpsWithin rows (drop i ops) before after → AreOpsWithin rows ops first after)
    (one : IsOpWithin was op before middle) where
  -- one more
  pub one_more : (after : ℕ) → AreOpsWithin rows (drop (i + 1) ops) middle after → AreOpsWithin rows ops first after
  one_more after rest =
      all after (subst (λ (left : List SubscribeOp). AreOpsWithin rows left before after) (sym (left_from ops i op low at))
      (middle, subst (λ (r : List Attachment). IsOpWithin r op before middle) same one, rest))

  -- and no more
  pub one_stops : AreOpsWithin rows ops first middle
  one_stops = one_more middle (no_ops rows (drop (i + 1) ops) middle)
