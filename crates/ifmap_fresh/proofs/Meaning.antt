-- Walks over numbers are walks over their identifiers.
use Rattle.std.proofs.Common.{◌≡◌, ℕ, zero, suc, ◌<◌, ◌≤◌, true, false, Option, Some, None, List, length, refl, ap, ◌∙◌, sym}
use Rattle.std.proofs.Common.{subst, inl, inr, arith}
use Rattle.std.proofs.lemmas.Bool.{cases_lt}
use Rattle.std.proofs.lemmas.Option.{same_Some, none-some}
use Rattle.ifmap_ident.specs.declared.identifiers.Identifier.{Identifier}
use Rattle.ifmap_region.specs.Bounds.{IsWithin, within_wider}
use Rattle.ifmap_region.specs.Walks.{begins, goes_on, HasDepth, IsReached, AreDepths}
use Rattle.ifmap_search.specs.declared.searches.Search.{Search}
use Rattle.ifmap_view.specs.declared.attachments.Attachment.{Attachment}
use Rattle.ifmap_view.specs.declared.views.LinkSeen.{LinkSeen}
use Rattle.ifmap_view.specs.Rows.{stored_linked}
use Rattle.ifmap_view.specs.Views.{IsView}
use Rattle.ifmap_fresh.specs.Linking.{IsReachedAt, is_terminal_at}
use Rattle.ifmap_fresh.specs.Matching.{IsMatch, LinksTo, is_terminal, one_meets}
use Rattle.ifmap_fresh.specs.Numbered.{HaveMatchingLink, KeepsWalks, NumberWalk, is_terminal_number}
use Rattle.ifmap_fresh.specs.Walked.{SearchWalk}
use Rattle.ifmap_fresh.specs.laws.JoiningLaws.{count, linked_matches, matches_linked, some_if_met}

module _ (rows : List Attachment) (id_at : ℕ → Option Identifier) (links : ℕ → List LinkSeen) (s : Search) (is : IsView rows id_at links)
    (start : ℕ) (here : id_at start ≡ Some s.start) where
  far : (a : Identifier) (o : Option Identifier) → one_meets s.match_links (stored_linked (Some a) o rows) ≡ true
      → (b : Identifier) × (o ≡ Some b) × IsMatch rows s.match_links a b
  far a None e = absurd (some_if_met s.match_links _ e refl)
  far a (Some b) e = (b, refl, e)

  pub to_identifier : (k v : ℕ) → NumberWalk rows id_at links s start k v → (a : Identifier) × (id_at v ≡ Some a) × SearchWalk rows s k a
  to_identifier zero v (begins e) = (s.start, ap id_at e ∙ here, begins refl)
  to_identifier (suc k) v (goes_on {u = u} w t l) =
      let before = to_identifier k u w
      in let m = linked_matches rows id_at links s.match_links u v l
      in let next = far before.0 (id_at v) (subst (λ o. one_meets s.match_links (stored_linked o (id_at v) rows) ≡ true) before.1 m)
      in (next.0, next.1, goes_on before.2 (subst (λ o. is_terminal_at s.terminal o ≡ false) before.1 t) (is.canon v next.0 next.1, next.2))

  pub to_number : (k : ℕ) (a : Identifier) → SearchWalk rows s k a → (v : ℕ) × (id_at v ≡ Some a) × NumberWalk rows id_at links s start k v
  to_number zero a (begins e) = (start, here ∙ ap Some (sym e), begins refl)
  to_number (suc k) b (goes_on {u = a} w t m) =
      let before = to_number k a w
      in let next = is.linked a b m.0 (some_if_met s.match_links _ m.1)
      in (
        next.0,
        next.1,
        goes_on before.2 (subst (λ o. is_terminal_at s.terminal o ≡ false) (sym before.1) t)
            (matches_linked rows id_at links s.match_links is before.0 next.0
            (subst (λ o. one_meets s.match_links (stored_linked o (id_at next.0) rows) ≡ true) (sym before.1)
            (subst (λ o. one_meets s.match_links (stored_linked (Some a) o rows) ≡ true) (sym next.1) m.1))),
      )

  walk_of : (k v : ℕ) (a : Identifier) → id_at v ≡ Some a → NumberWalk rows id_at links s start k v → SearchWalk rows s k a
  walk_of k v a i w =
      let x = to_identifier k v w
      in subst (λ y. SearchWalk rows s k y) (same_Some x.0 a (sym x.1 ∙ i)) x.2

  walk_at : (k v : ℕ) (a : Identifier) → id_at v ≡ Some a → SearchWalk rows s k a → NumberWalk rows id_at links s start k v
  walk_at k v a i w =
      let x = to_number k a w
      in subst (λ y. NumberWalk rows id_at links s start k y) (is.one_to_one x.0 v a x.1 i) x.2

  abbrev Leads : Identifier → Identifier → Type 0
  Leads = LinksTo rows s.match_links

  depth_of : (top k v : ℕ) (a : Identifier) → id_at v ≡ Some a
      → HasDepth (HaveMatchingLink rows id_at links s) (is_terminal_number rows id_at links s) start top v k
      → HasDepth Leads (is_terminal s.terminal) s.start top a k
  depth_of top k v a i d =
      record { within = d.within; walk = walk_of k v a i d.walk; least = λ j w. d.least j (walk_at j v a i w) }

  depth_at : (top k v : ℕ) (a : Identifier) → id_at v ≡ Some a
      → HasDepth Leads (is_terminal s.terminal) s.start top a k
      → HasDepth (HaveMatchingLink rows id_at links s) (is_terminal_number rows id_at links s) start top v k
  depth_at top k v a i d =
      record { within = d.within; walk = walk_at k v a i d.walk; least = λ j w. d.least j (walk_of j v a i w) }

  pub keeps_walks : KeepsWalks rows id_at links s start
  keeps_walks = record {
    identified = λ k v w. let x = to_identifier k v w in (x.0, x.1);
    numbered = λ k a w. let x = to_number k a w in (x.0, x.1);
    walks = λ k v a i. (walk_of k v a i, walk_at k v a i);
    depths = λ top k v a i. (depth_of top k v a i, depth_at top k v a i);
  }

  pub reached_is : (v : ℕ) → IsReached (HaveMatchingLink rows id_at links s) (is_terminal_number rows id_at links s) start s.max_depth v
      → IsReachedAt rows id_at s v
  reached_is v r = let w = to_identifier r.0 v r.2 in (w.0, w.1, (r.0, r.1, w.2))

  pub steps_are : (times before after : ℕ) → IsWithin (count rows id_at links s.match_links)
      (IsReached (HaveMatchingLink rows id_at links s) (is_terminal_number rows id_at links s) start s.max_depth) times before after
      → IsWithin (λ v. length (links v)) (IsReachedAt rows id_at s) times before after
  steps_are times before after w =
      within_wider _ (IsReached (HaveMatchingLink rows id_at links s) (is_terminal_number rows id_at links s) start s.max_depth)
      (IsReachedAt rows id_at s) times before after reached_is w

  module _ (mark : ℕ → Option ℕ)
      (depths : AreDepths (HaveMatchingLink rows id_at links s) (is_terminal_number rows id_at links s) start s.max_depth mark) where
    -- a mark is the length of a walk
    pub mark_walk : (v k : ℕ) → mark v ≡ Some k → (k ≤ s.max_depth) × NumberWalk rows id_at links s start k v
    mark_walk v k e = let d = (depths v k).0 e in (d.within, d.walk)

    -- and where a walk ends there is a mark, that is no greater
    pub walk_mark : (v k : ℕ) → k ≤ s.max_depth → NumberWalk rows id_at links s start k v → (j : ℕ) × (mark v ≡ Some j) × (j ≤ k)
    walk_mark v k h w = by (mark v) refl
      where
        never : (n : ℕ) → n ≤ suc k → mark v ≡ None → (j : ℕ) → j < n → NumberWalk rows id_at links s start j v → ⊥
        never zero b e j l x = omega (arith, l)
        never (suc n) b e j l x =
            none-some j (sym e ∙ (depths v j).1 (record {
              within = omega (arith, l, b, h);
              walk = x;
              least = λ i y. elim (cases_lt i j) [
                | inl g ↦ absurd (never n (omega (arith, b)) e i (omega (arith, g, l)) y)
                | inr g ↦ g
              ];
            }))

        by : (o : Option ℕ) → mark v ≡ o → (j : ℕ) × (mark v ≡ Some j) × (j ≤ k)
        by None e = absurd (never (suc k) (omega arith) e k (omega arith) w)
        by (Some j) e = (j, e, ((depths v j).0 e).least k w)
