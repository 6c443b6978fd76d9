-- A change that is taken over: what the subscription would keep it keeps still once there is room (`would_keep`), and the way back
-- leads back to what it kept before (`leads`).
use Rattle.std.proofs.Common.{◌≡◌, inl, inr, ℕ, Option, List, [], ◌∷◌, refl, ap, ◌∙◌, sym, subst}
use Rattle.std.specs.Prelude.{is_some, unwrap_or}
use Rattle.std.proofs.lemmas.Bool.{false≢true}
use Rattle.ifmap_delta.specs.Changes.{WouldKeep}
use Rattle.ifmap_delta.specs.declared.subscriptions.Subscription.{Subscription}
use Rattle.ifmap_delta.specs.SeenViews.{AreMarks, Links, ViewSeen, is_terminal_in}
use Rattle.ifmap_delta.specs.SameSearches.{HasSameSearch}
use Rattle.ifmap_delta.specs.ifmap_fresh.Fresh.{fresh_size}
use Rattle.ifmap_delta.specs.ifmap_region.Marks.{mark_of, mark_over, row_of}
use Rattle.ifmap_delta.specs.ifmap_region.Ways.{HasRoom, Makes, OnlyRoom, taken_from}
use Rattle.ifmap_standing.specs.Kept.{KeepsSame}
use Rattle.ifmap_standing.specs.Ways.{LeadsBack, Way}
use Rattle.ifmap_delta.specs.ifmap_region.DepthLaws.{depths_same}
use Rattle.ifmap_standing.specs.PlaceLaws.{searches_twice}

-- room for a patch leaves all but rows
pub room_keeps : (old new : Subscription) (patch : List (ℕ × Option ℕ)) → HasSameSearch old new → new.size ≡ old.size
    → ((v : ℕ) → mark_of new.region.marks.entries v ≡ mark_of old.region.marks.entries v)
    → OnlyRoom patch old.region.marks.entries new.region.marks.entries → KeepsSame old new
room_keeps old new patch search size marks only = record {
  search = search;
  size = size;
  marks = marks;
  rows = λ v r. elim (only v) [
    | inl e ↦ ap is_some e ∙ r
    | inr e ↦ absurd (false≢true (sym (ap is_some e.0) ∙ r))
  ];
}

pub would_keep : (g : ViewSeen) (old new : Subscription) (patch : List (ℕ × Option ℕ)) (size : ℕ) → KeepsSame old new
    → WouldKeep g old patch size → WouldKeep g new patch size
would_keep g old new patch size k w =
    let old_mark = mark_over patch (mark_of old.region.marks.entries)
    in let new_mark = mark_over patch (mark_of new.region.marks.entries)
    in let at : AreMarks g old.search old.region.start old.region.max_depth new_mark = record {
      identifier = w.marks.identifier;
      here = w.marks.here;
      most = w.marks.most;
      depths = depths_same (Links g old.search) (is_terminal_in g old.search) old.region.start old.search.max_depth old_mark new_mark
          (λ v. ap (unwrap_or (row_of patch v)) (k.marks v)) w.marks.depths;
    }
    in record {
      marks = subst (λ s. AreMarks g s new.region.start new.region.max_depth new_mark) (sym k.search.search)
          (subst (λ n. AreMarks g old.search n new.region.max_depth new_mark) (sym k.search.start)
          (subst (λ n. AreMarks g old.search old.region.start n new_mark) (sym k.search.max_depth) at));
      size = w.size ∙ ap (fresh_size g.rows) (sym k.search.search);
    }

taken_alike : (one other : ℕ → Option ℕ) → ((v : ℕ) → one v ≡ other v) → (patch : List (ℕ × Option ℕ))
    → taken_from one patch ≡ taken_from other patch
taken_alike one other same [] = refl
taken_alike one other same (e ∷ patch) =
    ap (λ m. (e.0, m) ∷ taken_from one patch) (same e.0) ∙ ap (λ l. (e.0, other e.0) ∷ l) (taken_alike one other same patch)

-- before, with room, and with the patch made
pub leads : (before roomy now : Subscription) (patch : List (ℕ × Option ℕ)) (way : Way) → KeepsSame before roomy
    → HasSameSearch roomy now → Makes patch roomy.region.marks.entries now.region.marks.entries
    → way.0 ≡ taken_from (mark_of roomy.region.marks.entries) patch → way.1 ≡ roomy.size
    → HasRoom way.0 now.region.marks.entries → LeadsBack before way now
leads before roomy now patch way k search makes taken size room = record {
  search = searches_twice before roomy now k.search search;
  size = size ∙ k.size;
  patch = patch;
  marks = record {
    taken = taken
        ∙ taken_alike (mark_of roomy.region.marks.entries) (mark_of before.region.marks.entries) k.marks patch;
    made = λ v. makes.marks v ∙ ap (unwrap_or (row_of patch v)) (k.marks v);
  };
  room = room;
  rows = λ v r. makes.rows v ∙ k.rows v r;
}
