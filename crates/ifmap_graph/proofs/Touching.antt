-- Slots that come to be full or empty are looked at, one after another: the drafts of links are then what is to be.
use Rattle.std.proofs.Common.{◌≡◌, ◌≢◌, ◌⊎◌, ◌&&◌, ◌||◌, ℕ, ◌+◌, ◌<◌, ◌≤◌, Bool, true, false, not, cond, Option, Some, None, is_some, unwrap_or, List, [], ◌∷◌, ◌++◌, length, get_or, take, refl, ap, ◌∙◌, sym, subst, inl, inr, arith, append_assoc, add-one, nat_eq}
use Rattle.std.proofs.lemmas.Bool.{cases_eq}
use Rattle.std.proofs.lemmas.Bool.Decides.{nat_tests}
use Rattle.std.proofs.lemmas.List.{append-nil, take_all}
use Rattle.std.proofs.lemmas.List.Folds.{list_any_more}
use Rattle.std.specs.List.{Contains, cons_option, filter_map, list_any}
use Rattle.slab.specs.Slab.{Slab, get}
use Rattle.ifmap_lemmas.specs.Absent.{none_where_not_some}
use Rattle.ifmap_lemmas.specs.Having.{Has, from_has, has_any, has_from, has_all}
use Rattle.ifmap_view.specs.declared.views.LinkSeen.{LinkSeen}
use Rattle.ifmap_graph.specs.declared.shelves.Shelf.{Shelf}
use Rattle.ifmap_graph.specs.Joined.{joined_pair}
use Rattle.ifmap_graph.specs.Linked.{AreListed, changed_links, far_of, seen_at}
use Rattle.ifmap_graph.specs.Sides.{Sides}
use Rattle.ifmap_graph.specs.Touched.{AreExactlyDrafted, KeepsLinks, begun_draft, brought_link, draft_of, full_next, full_now, joins, links_kept, touched_draft}
use Rattle.ifmap_graph.specs.Turning.{sides_at}
use Rattle.ifmap_graph.proofs.Links.{far_first, far_second, is_far}
use Rattle.ifmap_lemmas.specs.Deciding.{or_parts}
use Rattle.ifmap_lemmas.specs.Filters.{filter_all}
use Rattle.ifmap_lemmas.specs.Stepping.{picked_more}

nothing_seen : (b : Bool) (at : ℕ) (o : Option ℕ) → o ≡ None → cond b (seen_at at o) None ≡ None
nothing_seen false at o e = refl
nothing_seen true at o e = ap (seen_at at) e

-- there are as many places, and the links stay, whichever step comes first
pub kept_both : (first mid later : List (Sides LinkSeen)) → KeepsLinks first mid → KeepsLinks mid later → KeepsLinks first later
kept_both first mid later a b = record { now = λ v. b.now v ∙ a.now v; long = b.long ∙ a.long }

module _ (slots : Slab Shelf) where
  pub none_brought : (v at : ℕ) → joins slots v at ≡ false → brought_link slots v at ≡ None
  none_brought v at e = nothing_seen (full_next slots at && not (full_now slots at)) at (far_of (joined_pair (get slots at)) v)
      (none_where_not_some (far_of (joined_pair (get slots at)) v) e)

  nothing_brought : (v : ℕ) (touched : List ℕ) → list_any (joins slots v) touched ≡ false → filter_map (brought_link slots v) touched ≡ []
  nothing_brought v [] e = refl
  nothing_brought v (at ∷ rest) e =
      let p = or_parts (joins slots v at) (list_any (joins slots v) rest) e
      in ap (λ o. cons_option o (filter_map (brought_link slots v) rest)) (none_brought v at p.0) ∙ nothing_brought v rest p.1

  -- what a draft comes to be, by whether there was one and whether the slot joins the number
  one_touched : (v at : ℕ) (links : List LinkSeen) (touched : List ℕ) (any has : Bool) → list_any (joins slots v) touched ≡ any
      → joins slots v at ≡ has
      → cond has (Some (begun_draft slots (cond any (Some (links_kept slots links ++ filter_map (brought_link slots v) touched)) None)
      links ++
      cons_option (brought_link slots v at) []))
      (cond any (Some (links_kept slots links ++ filter_map (brought_link slots v) touched)) None)
      ≡ cond (any || has) (Some (links_kept slots links
      ++ (filter_map (brought_link slots v) touched ++ cons_option (brought_link slots v at) []))) None
  one_touched v at links touched true true e f =
      ap Some (append_assoc (links_kept slots links) (filter_map (brought_link slots v) touched) (cons_option (brought_link slots v at) []))
  one_touched v at links touched true false e f =
      ap (λ o. Some (links_kept slots links ++ o))
      (sym (append-nil (filter_map (brought_link slots v) touched))
      ∙ ap (λ o. filter_map (brought_link slots v) touched ++ cons_option o []) (sym (none_brought v at f)))
  one_touched v at links touched false true e f =
      ap (λ l. Some (links_kept slots links ++ (l ++ cons_option (brought_link slots v at) []))) (sym (nothing_brought v touched e))
  one_touched v at links touched false false e f = refl

  pub draft_more : (v : ℕ) (links : List LinkSeen) (touched : List ℕ) (i : ℕ) → i < length touched
      → cond (joins slots v (get_or touched i 0))
      (Some (begun_draft slots (draft_of slots (take i touched) v links) links
      ++ cons_option (brought_link slots v (get_or touched i 0)) []))
      (draft_of slots (take i touched) v links)
      ≡ draft_of slots (take (i + 1) touched) v links
  draft_more v links touched i h =
      one_touched v (get_or touched i 0) links (take i touched) (list_any (joins slots v) (take i touched))
      (joins slots v (get_or touched i 0)) refl refl
      ∙ ap (λ b. cond b (Some (links_kept slots links ++
      (filter_map (brought_link slots v) (take i touched) ++ cons_option (brought_link slots v (get_or touched i 0)) []))) None)
      (sym (list_any_more (joins slots v) touched i 0 h))
      ∙ ap (λ l. cond (list_any (joins slots v) (take (i + 1) touched)) (Some (links_kept slots links ++ l)) None)
      (sym (picked_more (brought_link slots v) 0 touched i h)
      ∙ ap (λ n. filter_map (brought_link slots v) (take n touched)) (sym (add-one i)))

  -- a slot that joins two numbers is looked at for both
  far_none : (v w u : ℕ) → u ≢ v → u ≢ w → far_of (Some (v, w)) u ≡ None
  far_none v w u n m =
      let t : nat_eq v u ≡ false = grind (arith, nat_tests) in let q : nat_eq w u ≡ false = grind (arith, nat_tests) in rw (t, q) refl

  pub both_touched : (ls mid xs : List (Sides LinkSeen)) (at v w : ℕ) → joined_pair (get slots at) ≡ Some (v, w) → v ≢ w
      → (sides_at mid v).draft ≡ Some (begun_draft slots (sides_at ls v).draft (sides_at ls v).now
      ++ cons_option (brought_link slots v at) [])
      → ((u : ℕ) → u ≢ v → sides_at mid u ≡ sides_at ls u)
      → (sides_at xs w).draft ≡ Some (begun_draft slots (sides_at mid w).draft (sides_at mid w).now
      ++ cons_option (brought_link slots w at) [])
      → ((u : ℕ) → u ≢ w → sides_at xs u ≡ sides_at mid u) → (u : ℕ) → (sides_at xs u).draft ≡ touched_draft slots at u (sides_at ls u)
  both_touched ls mid xs at v w j n one f two g u = elim (cases_eq u v) [
    | inl e ↦ subst (λ u. (sides_at xs u).draft ≡ touched_draft slots at u (sides_at ls u)) (sym e)
        (ap (λ x. x.draft) (g v n) ∙ one
        ∙ sym (ap (λ b. cond b (Some (begun_draft slots (sides_at ls v).draft (sides_at ls v).now
        ++ cons_option (brought_link slots v at) []))
        (sides_at ls v).draft)
        (ap (λ o. is_some (far_of o v)) j ∙ ap is_some (far_first v w))))
    | inr a ↦ elim (cases_eq u w) [
      | inl e ↦ subst (λ u. (sides_at xs u).draft ≡ touched_draft slots at u (sides_at ls u)) (sym e)
          (two
          ∙ ap (λ (s : Sides LinkSeen). Some (begun_draft slots s.draft s.now ++ cons_option (brought_link slots w at) []))
          (f w (λ q. n (sym q)))
          ∙ sym (ap (λ b. cond b (Some (begun_draft slots (sides_at ls w).draft (sides_at ls w).now
          ++ cons_option (brought_link slots w at) []))
          (sides_at ls w).draft)
          (ap (λ o. is_some (far_of o w)) j ∙ ap is_some (far_second w v))))
      | inr b ↦ ap (λ x. x.draft) (g u b ∙ f u a)
          ∙ sym (ap (λ t. cond t (Some (begun_draft slots (sides_at ls u).draft (sides_at ls u).now
          ++ cons_option (brought_link slots u at) []))
          (sides_at ls u).draft)
          (ap (λ o. is_some (far_of o u)) j ∙ ap is_some (far_none v w u a b)))
    ]
  ]

  -- so many slots were looked at
  pub record Touching (first : List (Sides LinkSeen)) (touched : List ℕ) (ways : List (ℕ × List LinkSeen)) (links : List (Sides LinkSeen))
      (i : ℕ) : Type 0 where
    pub ready : AreExactlyDrafted ways links
    pub kept : KeepsLinks first links
    pub drafts : (v : ℕ) → (sides_at links v).draft ≡ draft_of slots (take i touched) v (sides_at first v).now

  pub begins_touching : (first : List (Sides LinkSeen)) (touched : List ℕ) (ways : List (ℕ × List LinkSeen)) → AreExactlyDrafted ways first
      → ((v : ℕ) → (sides_at first v).draft ≡ None) → Touching first touched ways first 0
  begins_touching first touched ways r bare = record { ready = r; kept = record { now = λ v. refl; long = refl }; drafts = λ v. bare v }

  pub touches_on : (first links later : List (Sides LinkSeen)) (touched : List ℕ) (ways others : List (ℕ × List LinkSeen)) (i : ℕ)
      → i < length touched
      → Touching first touched ways links i → AreExactlyDrafted others later → KeepsLinks links later
      → ((v : ℕ) → (sides_at later v).draft ≡ touched_draft slots (get_or touched i 0) v (sides_at links v))
      → Touching first touched others later (i + 1)
  touches_on first links later touched ways others i h t ready kept drafts = record {
    ready = ready;
    kept = kept_both first links later t.kept kept;
    drafts = λ v.
        drafts v
        ∙ ap (λ d. cond (joins slots v (get_or touched i 0))
        (Some (begun_draft slots d (sides_at links v).now ++ cons_option (brought_link slots v (get_or touched i 0)) [])) d) (t.drafts v)
        ∙ ap (λ l. cond (joins slots v (get_or touched i 0))
        (Some (begun_draft slots (draft_of slots (take i touched) v (sides_at first v).now) l ++ cons_option
        (brought_link slots v (get_or touched i 0)) []))
        (draft_of slots (take i touched) v (sides_at first v).now)) (t.kept.now v)
        ∙ draft_more v (sides_at first v).now touched i h;
  }

  pub touched_all : (first links : List (Sides LinkSeen)) (touched : List ℕ) (ways : List (ℕ × List LinkSeen)) (i : ℕ) → length touched ≤ i
      → Touching first touched ways links i → (v : ℕ) → (sides_at links v).draft ≡ draft_of slots touched v (sides_at first v).now
  touched_all first links touched ways i h t v =
      t.drafts v ∙ ap (λ ts. draft_of slots ts v (sides_at first v).now) (take_all i touched h)

  -- the links that are to be are those that stay, and those that come, whether there is a draft or not
  module _ (touched : List ℕ) (links : ℕ → List LinkSeen) (listed : AreListed (λ at. joined_pair (get slots at)) (full_now slots) links)
      (all : (at : ℕ) → (full_now slots at ≡ full_next slots at) ⊎ Contains touched at) where
    stays : (v : ℕ) (seen : LinkSeen) → list_any (joins slots v) touched ≡ false → Has (links v) seen → full_next slots seen.at ≡ true
    stays v seen none h =
        let p = listed.only v seen (from_has (links v) seen h)
        in elim (all seen.at) [
          | inl same ↦ sym same ∙ p.1
          | inr c ↦ let q : joins slots v seen.at ≡ true = ap is_some (is_far (λ at. joined_pair (get slots at)) seen.at v seen.other p.0)
              in let r : false ≡ true = sym none ∙ has_any (joins slots v) touched seen.at (has_from touched seen.at c) q in cc
        ]

    by_any : (v : ℕ) (any : Bool) → list_any (joins slots v) touched ≡ any
        → unwrap_or (cond any (Some (links_kept slots (links v) ++ filter_map (brought_link slots v) touched)) None) (links v)
        ≡ links_kept slots (links v) ++ filter_map (brought_link slots v) touched
    by_any v true e = refl
    by_any v false e =
        sym (append-nil (links v)) ∙ ap (λ l. l ++ []) (sym (filter_all (λ l. full_next slots l.at) (links v)
        (has_all (λ l. full_next slots l.at ≡ true) (links v) (λ seen h. stays v seen e h))))
        ∙ ap (λ l. links_kept slots (links v) ++ l) (sym (nothing_brought v touched e))

    pub drafted_links : (v : ℕ) → unwrap_or (draft_of slots touched v (links v)) (links v)
        ≡ changed_links (λ at. joined_pair (get slots at)) (full_now slots) (full_next slots) touched links v
    drafted_links v = by_any v (list_any (joins slots v) touched) refl
