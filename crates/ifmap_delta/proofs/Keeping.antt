-- A subscription that took over a patch and a size keeps what it would keep.
use Rattle.std.proofs.Common.{◌≡◌, ◌∙◌, sym, ap, subst, ℕ, Option, List}
use Rattle.ifmap_region.specs.Marks.{mark_of, mark_over}
use Rattle.ifmap_search.specs.declared.searches.Search.{Search}
use Rattle.ifmap_fresh.specs.Fresh.{fresh_size}
use Rattle.ifmap_delta.specs.declared.subscriptions.Subscription.{Subscription}
use Rattle.ifmap_delta.specs.Changes.{WouldKeep}
use Rattle.ifmap_delta.specs.SeenViews.{AreMarks, IsUpToDate, ViewSeen}
use Rattle.ifmap_delta.specs.SameSearches.{HasSameSearch}

-- marks that are the same at each number
pub same_marks : (g : ViewSeen) (s : Search) (start top : ℕ) (mark mark' : ℕ → Option ℕ) → ((v : ℕ) → mark' v ≡ mark v)
    → AreMarks g s start top mark → AreMarks g s start top mark'
same_marks g s start top mark mark' m are = record {
  identifier = are.identifier;
  here = are.here;
  most = are.most;
  depths = λ v k. (λ e. (are.depths v k).0 (sym (m v) ∙ e), λ h. m v ∙ (are.depths v k).1 h);
}

pub takes_over : (sub sub' : Subscription) (patch : List (ℕ × Option ℕ)) (n : ℕ) → HasSameSearch sub sub' → sub'.size ≡ n
    → ((v : ℕ) → mark_of sub'.region.marks.entries v ≡ mark_over patch (mark_of sub.region.marks.entries) v)
    → (g : ViewSeen) → WouldKeep g sub patch n → IsUpToDate g sub'
takes_over sub sub' patch n same size marks g would =
    let mark : ℕ → Option ℕ = mark_of sub'.region.marks.entries
    in let are : AreMarks g sub.search sub.region.start sub.region.max_depth mark
    = same_marks g sub.search sub.region.start sub.region.max_depth (mark_over patch (mark_of sub.region.marks.entries)) mark
    marks would.marks
    in record {
      marks = subst (λ s. AreMarks g s sub'.region.start sub'.region.max_depth mark) (sym same.search)
          (subst (λ n. AreMarks g sub.search n sub'.region.max_depth mark) (sym same.start)
          (subst (λ n. AreMarks g sub.search sub.region.start n mark) (sym same.max_depth) are));
      size = size ∙ would.size ∙ ap (fresh_size g.rows) (sym same.search);
    }
