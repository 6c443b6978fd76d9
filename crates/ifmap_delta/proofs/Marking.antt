-- Marks over the numbers of a view, and what they tell of identifiers.
use Rattle.std.proofs.Common.{◌≡◌, ◌↔◌, ℕ, zero, suc, ◌<◌, ◌≤◌, Bool, true, false, not, Option, Some, None, List, Result, Ok, Err}
use Rattle.std.proofs.Common.{IfOk, is_some, length, refl, ap, ◌∙◌, sym, subst, inl, inr, arith}
use Rattle.std.proofs.lemmas.Bool.{and_from, and_parts, cases_lt, lt-ltb, ltb-true, not-true}
use Rattle.std.proofs.lemmas.Option.{none-some}
use Rattle.std.specs.Cmp.{both_ways}
use Rattle.std.specs.declared.alloc.AllocError.{AllocError}
use Rattle.ifmap_ident.specs.declared.identifiers.Identifier.{Identifier}
use Rattle.ifmap_ident.specs.Canon.{IsIdentifier}
use Rattle.ifmap_lemmas.specs.Options.{some_is}
use Rattle.ifmap_region.specs.declared.region.Region.{Region}
use Rattle.ifmap_region.specs.Bounds.{IsWithin, within_wider}
use Rattle.ifmap_region.specs.Marks.{mark_of}
use Rattle.ifmap_region.specs.Walks.{AreDepths, IsReached, Walk}
use Rattle.ifmap_search.specs.declared.searches.Search.{Search}
use Rattle.ifmap_view.specs.declared.attachments.Attachment.{Attachment}
use Rattle.ifmap_view.specs.declared.views.LinkSeen.{LinkSeen}
use Rattle.ifmap_view.specs.Attachments.{IsGraph}
use Rattle.ifmap_view.specs.Views.{IsView}
use Rattle.ifmap_fresh.specs.Collected.{is_below}
use Rattle.ifmap_fresh.specs.Linking.{IsReachedAt, is_terminal_at}
use Rattle.ifmap_fresh.specs.Matching.{LinksTo, is_terminal}
use Rattle.ifmap_fresh.specs.Numbered.{KeepsWalks}
use Rattle.ifmap_fresh.specs.Reached.{is_expanded, is_reached}
use Rattle.ifmap_fresh.specs.Walked.{IsExpanded}
use Rattle.ifmap_delta.specs.Located.{IsNumberOf}
use Rattle.ifmap_delta.specs.Shown.{goes_on}
use Rattle.ifmap_delta.specs.SeenViews.{AreMarks, HaveMarks, Links, ViewSeen, is_terminal_in}
use Rattle.ifmap_delta.proofs.InStep.{number_found, number_none}

-- the region of a search has its marks
pub marks_are : (g : ViewSeen) (s : Search) (start : ℕ) → IsIdentifier s.start → g.id_at start ≡ Some s.start →
    (r : Result Region AllocError)
    → IfOk r (λ region. region.start ≡ start) → IfOk r (λ region. region.max_depth ≡ s.max_depth)
    → IfOk r (λ region. AreDepths (Links g s) (is_terminal_in g s) start s.max_depth (mark_of region.marks.entries))
    → IfOk r (λ region. AreMarks g s region.start region.max_depth (mark_of region.marks.entries))
marks_are g s start i here (Ok region) a m d = record {
  identifier = i;
  here = ap g.id_at a ∙ here;
  most = m;
  depths = subst (λ n. AreDepths (Links g s) (is_terminal_in g s) n s.max_depth (mark_of region.marks.entries)) (sym a) d;
}
marks_are g s start i here (Err e) a m d = a

module _ (g : ViewSeen) (s : Search) (start : ℕ) (keeps : KeepsWalks g.rows g.id_at g.links s start) where
  abbrev L : ℕ → ℕ → Type 0
  L = Links g s

  abbrev T : ℕ → Bool
  T = is_terminal_in g s

  -- a number that a walk reaches has an identifier that a walk reaches
  pub reached_at : (v : ℕ) → IsReached L T start s.max_depth v → IsReachedAt g.rows g.id_at s v
  reached_at v r = let i = keeps.identified r.0 v r.2 in (i.0, i.1, (r.0, r.1, (keeps.walks r.0 v i.0 i.1).0 r.2))

  pub steps_at : (times before after : ℕ) → IsWithin (λ v. length (g.links v)) (IsReached L T start s.max_depth) times before after
      → IsWithin (λ v. length (g.links v)) (IsReachedAt g.rows g.id_at s) times before after
  steps_at times before after w = within_wider (λ v. length (g.links v)) (IsReached L T start s.max_depth)
      (IsReachedAt g.rows g.id_at s) times before after reached_at w

-- where a walk ends there is a mark that is no greater, where marks are depths
module _ (L : ℕ → ℕ → Type 0) (T : ℕ → Bool) (start top : ℕ) (mark : ℕ → Option ℕ) (are : AreDepths L T start top mark) where
  never : (n v k : ℕ) → k ≤ top → n ≤ suc k → mark v ≡ None → (j : ℕ) → j < n → Walk L T start j v → ⊥
  never zero v k h b e j l x = omega (arith, l)
  never (suc n) v k h b e j l x =
      none-some j (sym e ∙ (are v j).1 (record {
        within = omega (arith, l, b, h);
        walk = x;
        least = λ i y. elim (cases_lt i j) [
          | inl p ↦ absurd (never n v k h (omega (arith, b)) e i (omega (arith, p, l)) y)
          | inr p ↦ p
        ];
      }))

  pub walk_marked : (v k : ℕ) → k ≤ top → Walk L T start k v → (j : ℕ) × (mark v ≡ Some j) × (j ≤ k)
  walk_marked v k h w = by (mark v) refl
    where
      by : (o : Option ℕ) → mark v ≡ o → (j : ℕ) × (mark v ≡ Some j) × (j ≤ k)
      by None e = absurd (never (suc k) v k h (omega arith) e k (omega arith) w)
      by (Some j) e = (j, e, ((are v j).0 e).least k w)

-- what the laws of searches say
abbrev pub LevelsReach : Type 0
LevelsReach = (rows : List Attachment) (s : Search) (a : Identifier) → IsGraph rows → IsIdentifier s.start → IsIdentifier a
    → (is_reached rows s a ≡ true) ↔ IsReached (LinksTo rows s.match_links) (is_terminal s.terminal) s.start s.max_depth a

abbrev pub LevelsExpand : Type 0
LevelsExpand = (rows : List Attachment) (s : Search) (a : Identifier) → IsGraph rows → IsIdentifier s.start → IsIdentifier a
    → (is_expanded rows s a ≡ true) ↔ IsExpanded rows s a

abbrev pub NumbersKeep : Type 0
NumbersKeep = (rows : List Attachment) (id_at : ℕ → Option Identifier) (links : ℕ → List LinkSeen) (s : Search) (start : ℕ)
    → IsView rows id_at links → id_at start ≡ Some s.start → KeepsWalks rows id_at links s start

below_mark : (top : ℕ) (o : Option ℕ) → is_below top o ≡ true → (k : ℕ) × (o ≡ Some k) × (k < top)
below_mark top None e = let q : false ≡ true = e in cc
below_mark top (Some k) e = (k, refl, ltb-true k top e)

module _ (reach : LevelsReach) (expand : LevelsExpand) (g : ViewSeen) (s : Search) (is : IsView g.rows g.id_at g.links)
    (start top : ℕ) (mark : ℕ → Option ℕ) (are : AreMarks g s start top mark) (keeps : KeepsWalks g.rows g.id_at g.links s start) where
  abbrev M : ℕ → ℕ → Type 0
  M = Links g s

  abbrev E : ℕ → Bool
  E = is_terminal_in g s

  -- a mark is the length of a walk
  pub mark_walk : (v k : ℕ) → mark v ≡ Some k → (k ≤ s.max_depth) × Walk M E start k v
  mark_walk v k e = let d = (are.depths v k).0 e in (d.within, d.walk)

  -- and where a walk ends there is a mark, that is no greater
  pub walk_mark : (v k : ℕ) → k ≤ s.max_depth → Walk M E start k v → (j : ℕ) × (mark v ≡ Some j) × (j ≤ k)
  walk_mark = walk_marked M E start s.max_depth mark are.depths

  -- a number with a mark has an identifier
  pub mark_named : (v k : ℕ) → mark v ≡ Some k → (a : Identifier) × (g.id_at v ≡ Some a)
  mark_named v k e = keeps.identified k v (mark_walk v k e).1

  pub reached_marked : (a : Identifier) → IsIdentifier a → is_reached g.rows s a ≡ true
      → (v : ℕ) × (g.id_at v ≡ Some a) × ((k : ℕ) × (mark v ≡ Some k))
  reached_marked a i e =
      let r = (reach g.rows s a is.graph are.identifier i).0 e
      in let n = keeps.numbered r.0 a r.2
      in let m = walk_mark n.0 r.0 r.1 ((keeps.walks r.0 n.0 a n.1).1 r.2)
      in (n.0, n.1, (m.0, m.1))

  pub marked_reached : (v k : ℕ) (a : Identifier) → g.id_at v ≡ Some a → mark v ≡ Some k → is_reached g.rows s a ≡ true
  marked_reached v k a i e =
      let w = mark_walk v k e
      in (reach g.rows s a is.graph are.identifier (is.canon v a i)).1 (k, w.0, (keeps.walks k v a i).0 w.1)

  -- an identifier of a number is reached exactly where the number has a mark
  pub reached_is : (v : ℕ) (a : Identifier) → g.id_at v ≡ Some a → is_reached g.rows s a ≡ is_some (mark v)
  reached_is v a i = both_ways (is_reached g.rows s a) (is_some (mark v))
      (λ e. let r = reached_marked a (is.canon v a i) e
      in let m : mark v ≡ Some r.2.0 = ap mark (is.one_to_one v r.0 a i r.1) ∙ r.2.1
      in ap is_some m)
      (λ e. let k = some_is (mark v) e in marked_reached v k.0 a i k.1)

  pub not_reached : (a : Identifier) → IsIdentifier a → ((v : ℕ) → g.id_at v ≡ Some a → ⊥) → is_reached g.rows s a ≡ false
  not_reached a i none = both_ways (is_reached g.rows s a) false
      (λ e. let r = reached_marked a i e in absurd (none r.0 r.1)) (λ e. let q : false ≡ true = e in cc)

  pub expanded_marked : (a : Identifier) → IsIdentifier a → is_expanded g.rows s a ≡ true
      → (v : ℕ) × (g.id_at v ≡ Some a) × (goes_on s (g.id_at v) (mark v) ≡ true)
  expanded_marked a i e =
      let x = (expand g.rows s a is.graph are.identifier i).0 e
      in let n = keeps.numbered x.1.0 a x.1.2
      in let m = walk_mark n.0 x.1.0 (omega (arith, x.1.1)) ((keeps.walks x.1.0 n.0 a n.1).1 x.1.2)
      in let low : is_below s.max_depth (mark n.0) ≡ true = subst (λ o. is_below s.max_depth o ≡ true) (sym m.1)
      (lt-ltb m.0 s.max_depth (omega (arith, m.2, x.1.1)))
      in let t : is_terminal_at s.terminal (g.id_at n.0) ≡ false = subst (λ o. is_terminal_at s.terminal o ≡ false) (sym n.1) x.0
      in (n.0, n.1, and_from (is_below s.max_depth (mark n.0)) (not (is_terminal_at s.terminal (g.id_at n.0))) low (ap not t))

  pub marked_expanded : (v : ℕ) (a : Identifier) → g.id_at v ≡ Some a → goes_on s (g.id_at v) (mark v) ≡ true
      → is_expanded g.rows s a ≡ true
  marked_expanded v a i e =
      let p = and_parts (is_below s.max_depth (mark v)) (not (is_terminal_at s.terminal (g.id_at v))) e
      in let m = below_mark s.max_depth (mark v) p.0
      in let w = mark_walk v m.0 m.1
      in let t : is_terminal s.terminal a ≡ false = not-true (is_terminal s.terminal a)
      (subst (λ o. not (is_terminal_at s.terminal o) ≡ true) i p.1)
      in (expand g.rows s a is.graph are.identifier (is.canon v a i)).1 (t, (m.0, m.2, (keeps.walks m.0 v a i).0 w.1))

  -- an identifier of a number is expanded exactly where walks go on from the number
  pub expanded_is : (v : ℕ) (a : Identifier) → g.id_at v ≡ Some a → is_expanded g.rows s a ≡ goes_on s (g.id_at v) (mark v)
  expanded_is v a i = both_ways (is_expanded g.rows s a) (goes_on s (g.id_at v) (mark v))
      (λ e. let r = expanded_marked a (is.canon v a i) e
      in subst (λ w. goes_on s (g.id_at w) (mark w) ≡ true) (is.one_to_one r.0 v a r.1 i) r.2)
      (marked_expanded v a i)

  pub not_expanded : (a : Identifier) → IsIdentifier a → ((v : ℕ) → g.id_at v ≡ Some a → ⊥) → is_expanded g.rows s a ≡ false
  not_expanded a i none = both_ways (is_expanded g.rows s a) false
      (λ e. let r = expanded_marked a i e in absurd (none r.0 r.1)) (λ e. let q : false ≡ true = e in cc)

module _ (reach : LevelsReach) (expand : LevelsExpand) (keep : NumbersKeep) (g : ViewSeen) (s : Search)
    (is : IsView g.rows g.id_at g.links) (mark : ℕ → Option ℕ) (have : HaveMarks g s mark) (a : Identifier) (i : IsIdentifier a)
    (number : Option ℕ) (n : IsNumberOf g a number) where
  keeps : KeepsWalks g.rows g.id_at g.links s have.0
  keeps = keep g.rows g.id_at g.links s have.0 is have.2.here

  -- the number of an identifier has a mark exactly where the identifier is reached
  pub reached_at_number : (v : ℕ) → number ≡ Some v → is_some (mark v) ≡ is_reached g.rows s a
  reached_at_number v e =
      sym (reached_is reach expand g s is have.0 have.1 mark have.2 keeps v a (number_found g a number v n e))

  -- walks go on from it exactly where the identifier is expanded
  pub expanded_at_number : (v : ℕ) → number ≡ Some v → goes_on s (g.id_at v) (mark v) ≡ is_expanded g.rows s a
  expanded_at_number v e =
      sym (expanded_is reach expand g s is have.0 have.1 mark have.2 keeps v a (number_found g a number v n e))

  -- an identifier that has no number is neither
  pub unreached_without_number : number ≡ None → false ≡ is_reached g.rows s a
  unreached_without_number e =
      sym (not_reached reach expand g s is have.0 have.1 mark have.2 keeps a i (number_none g a number n e))

  pub unexpanded_without_number : number ≡ None → false ≡ is_expanded g.rows s a
  unexpanded_without_number e =
      sym (not_expanded reach expand g s is have.0 have.1 mark have.2 keeps a i (number_none g a number n e))
