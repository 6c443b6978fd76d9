-- What a subscription keeps is of the links alone: where two views have the same, walks are the same.
-- First links are matches (`linked_matches`, `matches_linked`). Then a link of one view is one of the other, between the same
-- identifiers (`there`), so that walks go on alike (`over`), and what is kept is kept (`kept_elsewhere`). Last, marks that are
-- the same place by place (`kept_the_same`).
use Rattle.std.proofs.Common.{◌≡◌, ◌≢◌, ℕ, ◌<◌, Bool, true, false, cond, Option, Some, None, List, [], length, get_or, slice_get, refl, ap, ◌∙◌, sym, subst}
use Rattle.std.proofs.lemmas.List.{get_or-map, length-map}
use Rattle.std.proofs.lemmas.Option.{slice_get-get_or, same_Some, none-some}
use Rattle.std.specs.List.{Contains}
use Rattle.ifmap_delta.specs.declared.subscriptions.Subscription.{Subscription}
use Rattle.ifmap_delta.specs.SeenViews.{AreMarks, IsUpToDate, Links, ViewSeen, is_terminal_in}
use Rattle.ifmap_delta.specs.SameSearches.{HasSameSearch}
use Rattle.ifmap_delta.specs.ifmap_fresh.Fresh.{fresh_size}
use Rattle.ifmap_delta.specs.ifmap_fresh.Linking.{end_where, is_terminal_at}
use Rattle.ifmap_delta.specs.ifmap_fresh.Matching.{one_meets}
use Rattle.ifmap_ident.specs.declared.identifiers.Identifier.{Identifier}
use Rattle.ifmap_delta.specs.ifmap_region.Marks.{mark_of}
use Rattle.ifmap_delta.specs.ifmap_region.Walks.{HasDepth}
use Rattle.ifmap_delta.specs.ifmap_search.declared.searches.Search.{Search}
use Rattle.ifmap_standing.specs.Ways.{IsWayGivenUp, Way}
use Rattle.ifmap_view.specs.declared.attachments.Attachment.{Attachment}
use Rattle.ifmap_view.specs.declared.views.LinkSeen.{LinkSeen}
use Rattle.ifmap_view.specs.Rows.{stored_linked}
use Rattle.ifmap_view.specs.Views.{IsView, others}
use Rattle.ifmap_delta.specs.ifmap_region.DepthLaws.{depths_same, walk_over}
use Rattle.ifmap_delta.specs.ifmap_fresh.laws.JoiningLaws.{some_if_met}

-- what is stored on a link is stored between two identifiers
ends_are_named : (rows : List Attachment) (x y : Option Identifier) → stored_linked x y rows ≢ []
    → (a : Identifier) × (b : Identifier) × (x ≡ Some a) × (y ≡ Some b)
ends_are_named rows None y n = absurd (n refl)
ends_are_named rows (Some a) None n = absurd (n refl)
ends_are_named rows (Some a) (Some b) n = (a, b, refl, refl)

module _ (g : ViewSeen) (s : Search) where
  abbrev Matches : ℕ → ℕ → Type 0
  Matches v w = one_meets s.match_links (stored_linked (g.id_at v) (g.id_at w) g.rows) ≡ true

  end_matches : (v w : ℕ) (seen : Option LinkSeen) → end_where g.rows g.id_at s.match_links v seen ≡ Some w → Matches v w
  end_matches v w None e = absurd (none-some w e)
  end_matches v w (Some seen) e = taken (one_meets s.match_links (stored_linked (g.id_at v) (g.id_at seen.other) g.rows)) refl e
    where
      taken : (b : Bool) → one_meets s.match_links (stored_linked (g.id_at v) (g.id_at seen.other) g.rows) ≡ b
          → cond b (Some seen.other) None ≡ Some w → Matches v w
      taken true is k = subst (λ x. Matches v x) (same_Some seen.other w k) is
      taken false is k = absurd (none-some w k)

  linked_matches : (v w : ℕ) → Links g s v w → Matches v w
  linked_matches v w l = end_matches v w (slice_get (g.links v) l.0) l.2

  matches_linked : IsView g.rows g.id_at g.links → (v w : ℕ) → Matches v w → Links g s v w
  matches_linked is v w m =
      let c = is.each v w (some_if_met s.match_links (stored_linked (g.id_at v) (g.id_at w) g.rows) m)
      in let links = g.links v
      in let within : c.0 < length links = subst (λ n. c.0 < n) (length-map links (λ l. l.other)) c.1
      in let seen : LinkSeen = get_or links c.0 (record { other = w; at = 0 })
      in let other : seen.other ≡ w = sym (get_or-map (λ l. l.other) links c.0 (record { other = w; at = 0 }) w within) ∙ c.2
      in (
        c.0,
        within,
        ap (λ o. end_where g.rows g.id_at s.match_links v o) (slice_get-get_or links c.0 (record { other = w; at = 0 }) within)
            ∙ ap (λ b. cond b (Some seen.other) None) (subst (λ x. Matches v x) (sym other) m)
            ∙ ap Some other,
      )

depth_to : (L M : ℕ → ℕ → Type 0) (T U : ℕ → Bool) (start top : ℕ) → ((u v : ℕ) → T u ≡ false → L u v → (U u ≡ false) × M u v)
    → ((u v : ℕ) → U u ≡ false → M u v → (T u ≡ false) × L u v)
    → (v k : ℕ) → HasDepth L T start top v k → HasDepth M U start top v k
depth_to L M T U start top f g v k d = record {
  within = d.within;
  walk = walk_over L M T U start f k v d.walk;
  least = λ j w. d.least j (walk_over M L U T start g j v w);
}

-- a link of one view is one of the other, and walks go on from its beginning alike
module _ (one other : ViewSeen) (s : Search) (was : IsView one.rows one.id_at one.links)
    (is : IsView other.rows other.id_at other.links) (rows : other.rows ≡ one.rows) (links : (v : ℕ) → other.links v ≡ one.links v)
    (ids : (v : ℕ) (a b : Identifier) → one.id_at v ≡ Some a → other.id_at v ≡ Some b → b ≡ a) where
  there : (v w : ℕ) → Links one s v w
      → (a : Identifier) × (b : Identifier) × (one.id_at v ≡ Some a) × (one.id_at w ≡ Some b) × (other.id_at v ≡ Some a)
      × (other.id_at w ≡ Some b)
  there v w l =
      let m = linked_matches one s v w l
      in let n = some_if_met s.match_links (stored_linked (one.id_at v) (one.id_at w) one.rows) m
      in let a = ends_are_named one.rows (one.id_at v) (one.id_at w) n
      in let c : Contains (others (other.links v)) w = subst (λ ls. Contains (others ls) w) (sym (links v)) (was.each v w n)
      in let b = ends_are_named other.rows (other.id_at v) (other.id_at w) (is.only v w c)
      in (a.0, a.1, a.2, a.3, b.2 ∙ ap Some (ids v a.0 b.0 a.2 b.2), b.3 ∙ ap Some (ids w a.1 b.1 a.3 b.3))

  over : (v w : ℕ) → is_terminal_in one s v ≡ false → Links one s v w → (is_terminal_in other s v ≡ false) × Links other s v w
  over v w t l =
      let h = there v w l
      in let from : other.id_at v ≡ one.id_at v = h.4 ∙ sym h.2
      in let to : other.id_at w ≡ one.id_at w = h.5 ∙ sym h.3
      in let stored : stored_linked (other.id_at v) (other.id_at w) other.rows
      ≡ stored_linked (one.id_at v) (one.id_at w) one.rows
      = ap (λ x. stored_linked x (other.id_at w) other.rows) from ∙ ap (λ x. stored_linked (one.id_at v) x other.rows) to
      ∙ ap (stored_linked (one.id_at v) (one.id_at w)) rows
      in (
        ap (is_terminal_at s.terminal) from ∙ t,
        matches_linked other s is v w (subst (λ xs. one_meets s.match_links xs ≡ true) (sym stored) (linked_matches one s v w l)),
      )

pub kept_elsewhere : (one other : ViewSeen) (sub : Subscription) → IsView one.rows one.id_at one.links
    → IsView other.rows other.id_at other.links → other.rows ≡ one.rows → ((v : ℕ) → other.links v ≡ one.links v)
    → ((v : ℕ) (a b : Identifier) → one.id_at v ≡ Some a → other.id_at v ≡ Some b → b ≡ a)
    → other.id_at sub.region.start ≡ Some sub.search.start → IsUpToDate one sub → IsUpToDate other sub
kept_elsewhere one other sub was is rows links ids here kept =
    let s = sub.search
    in let f = over one other s was is rows links ids
    in let g = over other one s is was (sym rows) (λ v. sym (links v)) (λ v a b i j. sym (ids v b a j i))
    in let L = Links one s
    in let M = Links other s
    in let T = is_terminal_in one s
    in let U = is_terminal_in other s
    in let start = sub.region.start
    in let top = s.max_depth
    in let d = kept.marks.depths
    in record {
      marks = record {
        identifier = kept.marks.identifier;
        here = here;
        most = kept.marks.most;
        depths = λ v k. (
          λ e. depth_to L M T U start top f g v k ((d v k).0 e),
          λ h. (d v k).1 (depth_to M L U T start top g f v k h),
        );
      };
      size = kept.size ∙ ap (λ r. fresh_size r s) (sym rows);
    }

pub kept_the_same : (g : ViewSeen) (old new : Subscription) → HasSameSearch old new → new.size ≡ old.size
    → ((v : ℕ) → mark_of new.region.marks.entries v ≡ mark_of old.region.marks.entries v) → IsUpToDate g old → IsUpToDate g new
kept_the_same g old new same size marks kept =
    let old_mark = mark_of old.region.marks.entries
    in let new_mark = mark_of new.region.marks.entries
    in let at : AreMarks g old.search old.region.start old.region.max_depth new_mark = record {
      identifier = kept.marks.identifier;
      here = kept.marks.here;
      most = kept.marks.most;
      depths = depths_same (Links g old.search) (is_terminal_in g old.search) old.region.start old.search.max_depth old_mark new_mark
          marks kept.marks.depths;
    }
    in record {
      marks = subst (λ s. AreMarks g s new.region.start new.region.max_depth new_mark) (sym same.search)
          (subst (λ n. AreMarks g old.search n new.region.max_depth new_mark) (sym same.start)
          (subst (λ n. AreMarks g old.search old.region.start n new_mark) (sym same.max_depth) at));
      size = size ∙ kept.size ∙ ap (fresh_size g.rows) (sym same.search);
    }

pub kept_settled : (g : ViewSeen) (way : Option (Option Way)) (old new : Subscription) → IsWayGivenUp way old new → IsUpToDate g old
    → IsUpToDate g new
kept_settled g None old new e kept = subst (λ x. IsUpToDate g x) (sym e) kept
kept_settled g (Some None) old new e kept = subst (λ x. IsUpToDate g x) (sym e) kept
kept_settled g (Some (Some way)) old new e kept = kept_the_same g old new e.0 e.1 e.2 kept
