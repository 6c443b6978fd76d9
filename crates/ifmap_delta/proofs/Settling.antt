-- Items that are not gathered tell nothing.
-- 1. Marks before the change, by the numbers afterwards (`reached_before`, `expanded_before`).
-- 2. A number whose marks differ is in the patch.
-- 3. One identifier (`one_settled`).
-- 4. One link (`pair_settled`).
use Rattle.std.proofs.Common.{◌≡◌, ◌≢◌, ◌⊎◌, inl, inr, ℕ, Bool, true, false, cond, not, ◌&&◌, ◌||◌, Option, Some, None, List, [], ◌++◌}
use Rattle.std.proofs.Common.{is_some, option_and_then, unwrap_or, refl, ap, ◌∙◌, sym, subst}
use Rattle.std.proofs.Math.Bool.{beq}
use Rattle.std.proofs.lemmas.Bool.{cases_Bool}
use Rattle.std.proofs.lemmas.Option.{none-some, same_Some}
use Rattle.std.specs.Cmp.{both_ways}
use Rattle.std.specs.List.{AllByRecursion, filter}
use Rattle.ifmap_ident.specs.declared.identifiers.Identifier.{Identifier}
use Rattle.ifmap_ident.specs.declared.items.Item.{Item}
use Rattle.ifmap_ident.specs.declared.items.Item.TheVariants.{One, Pair}
use Rattle.ifmap_ident.specs.Canon.{IsIdentifier}
use Rattle.ifmap_ident.specs.Items.{IsCanonItem, pair_of}
use Rattle.ifmap_lemmas.specs.Branches.{same_not_apart}
use Rattle.ifmap_lemmas.specs.Having.{Has, filter_has, has_either, has_filter, has_from, has_joined, has_left, has_map, has_mapped, has_right, joined_has, map_has, mapped_has, all_has}
use Rattle.ifmap_lemmas.specs.Options.{some_is}
use Rattle.ifmap_plans.specs.declared.plans.ItemChange.{ItemChange}
use Rattle.ifmap_plans.specs.Plans.{change_of}
use Rattle.ifmap_region.specs.Marks.{mark_over, row_of}
use Rattle.ifmap_search.specs.declared.searches.Search.{Search}
use Rattle.ifmap_view.specs.declared.views.LinkSeen.{LinkSeen}
use Rattle.ifmap_view.specs.Rows.{stored_between, stored_linked, stored_on, stored_where}
use Rattle.ifmap_view.specs.Views.{IsView}
use Rattle.ifmap_fresh.specs.Collected.{numbers_of}
use Rattle.ifmap_fresh.specs.Items.{item_alone, pair_at}
use Rattle.ifmap_fresh.specs.Fresh.{is_looked_at}
use Rattle.ifmap_fresh.specs.Linking.{end_where}
use Rattle.ifmap_fresh.specs.Matching.{is_match, one_meets}
use Rattle.ifmap_fresh.specs.Numbered.{KeepsWalks}
use Rattle.ifmap_fresh.specs.Reached.{is_expanded, is_reached}
use Rattle.ifmap_delta.specs.Changes.{ShowsAfter}
use Rattle.ifmap_delta.specs.Shown.{goes_on}
use Rattle.ifmap_delta.specs.SeenViews.{AreMarks, ViewSeen}
use Rattle.ifmap_delta.specs.Touched.{HasNothingToTell, brought_items, link_item, is_looked_at_either, linked_items, moved_items, planned_items, turns}
use Rattle.ifmap_delta.proofs.Flipping.{change_at, stored_same}
use Rattle.ifmap_fresh.specs.laws.JoiningLaws.{match_turned, some_if_met}
use Rattle.ifmap_delta.proofs.Marking.{LevelsExpand, LevelsReach, expanded_is, expanded_marked, mark_named, marked_expanded}
use Rattle.ifmap_delta.proofs.Marking.{marked_reached, reached_is, reached_marked}
use Rattle.ifmap_fresh.specs.laws.SameLaws.{pair_canon, pair_is, pair_turned}
use Rattle.ifmap_fresh.specs.laws.GatheringLaws.{row_has}
use Rattle.ifmap_ident.specs.SameLaws.{BytesTellIdentifiers}

-- two tests agree, or are told apart
same_or : (p q : Bool) → (p ≡ q) ⊎ (not (beq p q) ≡ true)
same_or true true = inl refl
same_or true false = inr refl
same_or false true = inr refl
same_or false false = inl refl

or_false : (p q : Bool) → ((p || q) ≡ true → ⊥) → (p ≡ false) × (q ≡ false)
or_false true q f = absurd (f refl)
or_false false true f = absurd (f refl)
or_false false false f = (refl, refl)

-- a number whose marks differ is in the patch
pub in_patch : (patch : List (ℕ × Option ℕ)) (below : ℕ → Option ℕ) (v : ℕ) → below v ≢ mark_over patch below v → Has (numbers_of patch) v
in_patch patch below v differ = by (row_of patch v) refl
  where
    by : (o : Option (Option ℕ)) → row_of patch v ≡ o → Has (numbers_of patch) v
    by None e = absurd (differ (sym (ap (λ o. unwrap_or o (below v)) e)))
    by (Some r) e = row_has patch v r e

module _ (tells : BytesTellIdentifiers) (reach : LevelsReach) (expand : LevelsExpand) (old new : ViewSeen) (s : Search)
    (was : IsView old.rows old.id_at old.links) (is : IsView new.rows new.id_at new.links) (changes : List ItemChange)
    (change : ShowsAfter old new changes) (start top start' top' : ℕ) (mark mark' : ℕ → Option ℕ)
    (before : AreMarks old s start top mark) (now : AreMarks new s start' top' mark')
    (keeps : KeepsWalks old.rows old.id_at old.links s start) (keeps' : KeepsWalks new.rows new.id_at new.links s start') where
  -- an identifier is reached before the change exactly where its number has a mark, which is the one that it has afterwards
  pub reached_before : (v : ℕ) (a : Identifier) → new.id_at v ≡ Some a → is_reached old.rows s a ≡ is_some (mark v)
  reached_before v a i = both_ways (is_reached old.rows s a) (is_some (mark v))
      (λ e. let r = reached_marked reach expand old s was start top mark before keeps a (is.canon v a i) e
      in let same : v ≡ r.0 = is.one_to_one v r.0 a i (change.numbers r.0 a r.1)
      in ap is_some (ap mark same ∙ r.2.1))
      (λ e. let k = some_is (mark v) e
      in let n = mark_named reach expand old s was start top mark before keeps v k.0 k.1
      in let same : n.0 ≡ a = same_Some n.0 a (sym (change.numbers v n.0 n.1) ∙ i)
      in marked_reached reach expand old s was start top mark before keeps v k.0 a (n.1 ∙ ap Some same) k.1)

  pub expanded_before : (v : ℕ) (a : Identifier) → new.id_at v ≡ Some a → is_expanded old.rows s a ≡ goes_on s (new.id_at v) (mark v)
  expanded_before v a i = both_ways (is_expanded old.rows s a) (goes_on s (new.id_at v) (mark v))
      (λ e. let r = expanded_marked reach expand old s was start top mark before keeps a (is.canon v a i) e
      in let same : r.0 ≡ v = is.one_to_one r.0 v a (change.numbers r.0 a r.1) i
      in subst (λ o. goes_on s o (mark v) ≡ true) (sym i)
      (subst (λ w. goes_on s (Some a) (mark w) ≡ true) same (subst (λ o. goes_on s o (mark r.0) ≡ true) r.1 r.2)))
      (λ e. by v a i (mark v) refl e)
    where
      by : (v : ℕ) (a : Identifier) → new.id_at v ≡ Some a → (o : Option ℕ) → mark v ≡ o → goes_on s (new.id_at v) o ≡ true
          → is_expanded old.rows s a ≡ true
      by v a i None m e = let q : false ≡ true = e in cc
      by v a i (Some k) m e =
          let n = mark_named reach expand old s was start top mark before keeps v k m
          in let same : n.0 ≡ a = same_Some n.0 a (sym (change.numbers v n.0 n.1) ∙ i)
          in let here : old.id_at v ≡ Some a = n.1 ∙ ap Some same
          in marked_expanded reach expand old s was start top mark before keeps v a here
          (subst (λ o. goes_on s o (mark v) ≡ true) (sym here) (subst (λ o. goes_on s (Some a) o ≡ true) (sym m)
          (subst (λ o. goes_on s o (Some k) ≡ true) i e)))

  module _ (numbers : List ℕ) (all : (v : ℕ) → mark v ≢ mark' v → Has numbers v) where
    abbrev gathered_items : List Item
    gathered_items = planned_items (is_looked_at_either old new s) changes ++ moved_items new s mark mark' numbers

    abbrev brings : ℕ → List Item
    brings v = brought_items new s v (mark v) (mark' v)

    by_moved : (v : ℕ) (x : Item) → mark v ≢ mark' v → Has (brings v) x → Has gathered_items x
    by_moved v x differ h =
        has_right (planned_items (is_looked_at_either old new s) changes) (moved_items new s mark mark' numbers) x
        (has_joined brings numbers v x (all v differ) h)

    reached_changes : (v : ℕ) (a : Identifier) → new.id_at v ≡ Some a → not (beq (is_some (mark v)) (is_some (mark' v))) ≡ true
        → Has gathered_items (One a)
    reached_changes v a i t =
        by_moved v (One a) (λ e. same_not_apart (is_some (mark v)) (is_some (mark' v)) (ap is_some e) t)
        (has_left (cond (not (beq (is_some (mark v)) (is_some (mark' v)))) (item_alone (new.id_at v)) [])
        (cond (turns new s v (mark v) (mark' v)) (linked_items new s v) []) (One a)
        (subst (λ b. Has (cond b (item_alone (new.id_at v)) []) (One a)) (sym t) (subst (λ o. Has (item_alone o) (One a)) (sym i) (inl
        refl))))

    -- the links of a number that walks go on from at one time alone are gathered
    along : (v w : ℕ) (a b : Identifier) (x : Item) → new.id_at v ≡ Some a → new.id_at w ≡ Some b
        → is_match new.rows s.match_links a b ≡ true → pair_of a b ≡ Some x → turns new s v (mark v) (mark' v) ≡ true → Has gathered_items x
    along v w a b x i j m e t =
        let linked_is : stored_linked (new.id_at v) (new.id_at w) new.rows ≡ stored_between a b new.rows
        = ap (λ o. stored_linked o (new.id_at w) new.rows) i ∙ ap (λ o. stored_linked (Some a) o new.rows) j
        in let matches : one_meets s.match_links (stored_linked (new.id_at v) (new.id_at w) new.rows) ≡ true
        = ap (one_meets s.match_links) linked_is ∙ m
        in let there = map_has (λ (l : LinkSeen). l.other) (new.links v) w
        (has_from _ w (is.each v w (some_if_met s.match_links (stored_linked (new.id_at v) (new.id_at w) new.rows) matches)))
        in let at : link_item new s v (Some there.0) ≡ Some x
        = ap (λ b. option_and_then (λ (w : ℕ). pair_at (new.id_at v) (new.id_at w)) (cond b (Some there.0.other) None))
        (ap (λ y. one_meets s.match_links (stored_linked (new.id_at v) (new.id_at y) new.rows)) there.2 ∙ matches)
        ∙ ap (λ y. pair_at (new.id_at v) (new.id_at y)) there.2
        ∙ ap (λ o. pair_at o (new.id_at w)) i ∙ ap (λ o. pair_at (Some a) o) j ∙ e
        in by_moved v x
        (λ q. same_not_apart (goes_on s (new.id_at v) (mark v)) (goes_on s (new.id_at v) (mark' v)) (ap (goes_on s (new.id_at v)) q) t)
        (has_right (cond (not (beq (is_some (mark v)) (is_some (mark' v)))) (item_alone (new.id_at v)) [])
        (cond (turns new s v (mark v) (mark' v)) (linked_items new s v) []) x
        (subst (λ b. Has (cond b (linked_items new s v) []) x) (sym t)
        (has_mapped (λ seen. link_item new s v (Some seen)) (new.links v) there.0 x there.1 at)))

    one_settled : (a : Identifier) → IsIdentifier a → (Has gathered_items (One a) → ⊥) → is_reached old.rows s a ≡ is_reached new.rows s a
    one_settled a i out = elim (same_or (is_reached old.rows s a) (is_reached new.rows s a)) [
      | inl e ↦ e
      | inr t ↦ absurd (either t)
    ]
      where
        differs : not (beq (is_reached old.rows s a) (is_reached new.rows s a)) ≡ true → (v : ℕ) → new.id_at v ≡ Some a → ⊥
        differs t v n =
            let p = reached_before v a n
            in let q = reached_is reach expand new s is start' top' mark' now keeps' v a n
            in out (reached_changes v a n (ap (λ b. not (beq b (is_some (mark' v)))) (sym p)
            ∙ ap (λ b. not (beq (is_reached old.rows s a) b)) (sym q) ∙ t))

        either : not (beq (is_reached old.rows s a) (is_reached new.rows s a)) ≡ true → ⊥
        either t = elim (cases_Bool (is_reached old.rows s a)) [
          | inl e ↦ let r = reached_marked reach expand old s was start top mark before keeps a i e
              in differs t r.0 (change.numbers r.0 a r.1)
          | inr e ↦ elim (cases_Bool (is_reached new.rows s a)) [
            | inl f ↦ let r = reached_marked reach expand new s is start' top' mark' now keeps' a i f in differs t r.0 r.1
            | inr f ↦ same_not_apart (is_reached old.rows s a) (is_reached new.rows s a) (e ∙ sym f) t
          ]
        ]

    end_settled : (v w : ℕ) (a b : Identifier) (x : Item) → new.id_at v ≡ Some a → new.id_at w ≡ Some b
        → is_match new.rows s.match_links a b ≡ true → pair_of a b ≡ Some x → (Has gathered_items x → ⊥)
        → is_expanded old.rows s a ≡ is_expanded new.rows s a
    end_settled v w a b x i j m e out = elim (same_or (is_expanded old.rows s a) (is_expanded new.rows s a)) [
      | inl f ↦ f
      | inr t ↦ absurd (let p = expanded_before v a i
          in let q = expanded_is reach expand new s is start' top' mark' now keeps' v a i
          in out (along v w a b x i j m e (ap (λ c. not (beq c (goes_on s (new.id_at v) (mark' v)))) (sym p)
          ∙ ap (λ c. not (beq (is_expanded old.rows s a) c)) (sym q) ∙ t)))
    ]

    pair_settled : (a b : Identifier) → IsCanonItem (Pair a b) → (Has gathered_items (Pair a b) → ⊥)
        → is_match old.rows s.match_links a b ≡ is_match new.rows s.match_links a b
        → is_looked_at old.rows s (Pair a b) ≡ is_looked_at new.rows s (Pair a b)
    pair_settled a b i out e = by (is_match new.rows s.match_links a b) refl
      where
        ends : is_match new.rows s.match_links a b ≡ true
            → (is_expanded old.rows s a || is_expanded old.rows s b) ≡ (is_expanded new.rows s a || is_expanded new.rows s b)
        ends m =
            let turned : is_match new.rows s.match_links b a ≡ true = match_turned new.rows s.match_links b a ∙ m
            in let v = is.linked b a i.identifiers.0 (some_if_met s.match_links (stored_between b a new.rows) turned)
            in let w = is.linked a b i.identifiers.1.0 (some_if_met s.match_links (stored_between a b new.rows) m)
            in let p : pair_of a b ≡ Some (Pair a b) = pair_is a b i.ordered
            in ap (λ c. c || is_expanded old.rows s b) (end_settled v.0 w.0 a b (Pair a b) v.1 w.1 m p out)
            ∙ ap (λ c. is_expanded new.rows s a || c) (end_settled w.0 v.0 b a (Pair a b) w.1 v.1 turned (pair_turned b a ∙ p) out)

        by : (c : Bool) → is_match new.rows s.match_links a b ≡ c
            → is_looked_at old.rows s (Pair a b) ≡ is_looked_at new.rows s (Pair a b)
        by true m =
            ap (λ c. c && (is_expanded old.rows s a || is_expanded old.rows s b)) e
            ∙ ap (λ c. is_match new.rows s.match_links a b && c) (ends m)
        by false m =
            ap (λ c. c && (is_expanded old.rows s a || is_expanded old.rows s b)) (e ∙ m)
            ∙ sym (ap (λ c. c && (is_expanded new.rows s a || is_expanded new.rows s b)) m)

    match_stays : (a b : Identifier) → IsCanonItem (Pair a b) → stored_on (Pair a b) new.rows ≡ stored_on (Pair a b) old.rows
        → is_match old.rows s.match_links a b ≡ is_match new.rows s.match_links a b
    match_stays a b i e =
        let p = pair_is a b i.ordered
        in ap (λ o. one_meets s.match_links (stored_where o old.rows)) p ∙ ap (one_meets s.match_links) (sym e)
        ∙ sym (ap (λ o. one_meets s.match_links (stored_where o new.rows)) p)

    still : (x : Item) → IsCanonItem x → (Has gathered_items x → ⊥) → stored_on x new.rows ≡ stored_on x old.rows
        → is_looked_at old.rows s x ≡ is_looked_at new.rows s x
    still (One a) i out e = one_settled a i.identifiers.0 out
    still (Pair a b) i out e = pair_settled a b i out (match_stays a b i e)

    -- what is not gathered tells nothing
    pub ungathered_stay : (x : Item) → IsCanonItem x → (Has gathered_items x → ⊥) → HasNothingToTell old new s x
    ungathered_stay x i out = by (change_of changes x) refl
      where
        by : (o : Option ItemChange) → change_of changes x ≡ o → HasNothingToTell old new s x
        by None e =
            let same = stored_same tells old new s was is changes change x e
            in record { looked = still x i out same; stored = λ h. sym same }
        by (Some c) e =
            let at = change_at tells old new s was is changes change x c i e
            in let looks : ItemChange → Bool = λ d. is_looked_at_either old new s d.item
            in let none = or_false (is_looked_at old.rows s c.item) (is_looked_at new.rows s c.item)
            (λ t. out (has_left (planned_items (is_looked_at_either old new s) changes) (moved_items new s mark mark' numbers) x
            (subst (λ y. Has (planned_items (is_looked_at_either old new s) changes) y) at.1
            (has_map (λ (d : ItemChange). d.item) (filter looks changes) c (has_filter looks changes c at.0 t)))))
            in let p : is_looked_at old.rows s x ≡ false = subst (λ y. is_looked_at old.rows s y ≡ false) at.1 none.0
            in let q : is_looked_at new.rows s x ≡ false = subst (λ y. is_looked_at new.rows s y ≡ false) at.1 none.1
            in record { looked = p ∙ sym q; stored = λ h. let f : false ≡ true = sym p ∙ h in cc }

-- what is gathered is an item that elements mean
module _ (old new : ViewSeen) (s : Search) (is : IsView new.rows new.id_at new.links) (changes : List ItemChange)
    (canon : AllByRecursion (λ c. IsCanonItem c.item) changes) (mark mark' : ℕ → Option ℕ) (numbers : List ℕ) where
  alone_canon : (b : Bool) (o : Option Identifier) (x : Item) → ((a : Identifier) → o ≡ Some a → IsIdentifier a)
      → Has (cond b (item_alone o) []) x → IsCanonItem x
  alone_canon false o x f h = absurd h
  alone_canon true None x f h = absurd h
  alone_canon true (Some a) x f (inr h) = absurd h
  alone_canon true (Some a) x f (inl e) = subst IsCanonItem e (record { ordered = tt; identifiers = (f a refl, tt) })

  ends_canon : (v w : ℕ) (a b : Option Identifier) (x : Item) → new.id_at v ≡ a → new.id_at w ≡ b → pair_at a b ≡ Some x → IsCanonItem x
  ends_canon v w None b x i j q = absurd (none-some x q)
  ends_canon v w (Some a) None x i j q = absurd (none-some x q)
  ends_canon v w (Some a) (Some b) x i j q = pair_canon a b x (is.canon v a i) (is.canon w b j) q

  along_canon : (v : ℕ) (o : Option ℕ) (x : Item) → option_and_then (λ (w : ℕ). pair_at (new.id_at v) (new.id_at w)) o ≡ Some x
      → IsCanonItem x
  along_canon v None x q = absurd (none-some x q)
  along_canon v (Some w) x q = ends_canon v w (new.id_at v) (new.id_at w) x refl refl q

  linked_canon : (b : Bool) (v : ℕ) (x : Item) → Has (cond b (linked_items new s v) []) x → IsCanonItem x
  linked_canon false v x h = absurd h
  linked_canon true v x h =
      let m = mapped_has (λ seen. link_item new s v (Some seen)) (new.links v) x h
      in along_canon v (end_where new.rows new.id_at s.match_links v (Some m.0)) x m.2

  pub gathered_canon : (x : Item) → Has (planned_items (is_looked_at_either old new s) changes ++ moved_items new s mark mark' numbers) x
      → IsCanonItem x
  gathered_canon x h = elim (has_either (planned_items (is_looked_at_either old new s) changes)
      (moved_items new s mark mark' numbers) x h) [
        | inl k ↦ let looks : ItemChange → Bool = λ d. is_looked_at_either old new s d.item
            in let m = map_has (λ (d : ItemChange). d.item) (filter looks changes) x k
            in subst IsCanonItem m.2 (all_has (λ d. IsCanonItem d.item) changes canon m.0 (filter_has looks changes m.0 m.1).0)
        | inr k ↦ let j = joined_has (λ v. brought_items new s v (mark v) (mark' v)) numbers x k
            in elim (has_either (cond (not (beq (is_some (mark j.0)) (is_some (mark' j.0)))) (item_alone (new.id_at j.0)) [])
            (cond (turns new s j.0 (mark j.0) (mark' j.0)) (linked_items new s j.0) []) x j.2) [
              | inl l ↦ alone_canon (not (beq (is_some (mark j.0)) (is_some (mark' j.0)))) (new.id_at j.0) x (is.canon j.0) l
              | inr l ↦ linked_canon (turns new s j.0 (mark j.0) (mark' j.0)) j.0 x l
            ]
      ]
