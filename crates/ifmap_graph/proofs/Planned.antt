-- The items of a change get their drafts, one after another.
-- Plan: (1) items that tie have the same stored on them; (2) of members and places; (3) where all shelves are bare none has a
-- draft; (4) what is stored after one change, of those that are left; (5) change after change, until each item of the plan
-- has its draft.
use Rattle.std.proofs.Common.{◌≡◌, ◌⊎◌, ℕ, suc, ◌+◌, ◌<◌, ◌≤◌, zero, true, false, cond, Option, Some, None, IsSome, List, [], ◌∷◌, ◌++◌, length, get_or, take, drop, refl, ap, ◌∙◌, sym, subst, inl, inr, arith, add-one, drop-cons}
use Rattle.std.proofs.lemmas.Bool.{cases_Bool}
use Rattle.std.proofs.lemmas.List.{drop_all, take_all}
use Rattle.std.proofs.Math.Seq.{take-suc}
use Rattle.std.specs.BTreeMap.{is_at}
use Rattle.std.specs.List.{AllByRecursion, IsDistinct}
use Rattle.std.specs.Ordering.{is_eq}
use Rattle.std.specs.declared.cmp.Ordering.TheVariants.{Equal}
use Rattle.std.proofs.lemmas.Map.Keys.{IsDistinct-head, IsDistinct-tail}
use Rattle.std.specs.Cmp.{tied_back, Equal-is}
use Rattle.slab.specs.Slab.{get}
use Rattle.ifmap_lemmas.specs.Having.{Has}
use Rattle.ifmap_ident.specs.declared.items.Item.{Item}
use Rattle.ifmap_ident.specs.Items.{item_order, items_tie, same_item}
use Rattle.ifmap_meta.specs.declared.stored.Stored.{Stored}
use Rattle.ifmap_plans.specs.declared.plans.ItemChange.{ItemChange}
use Rattle.ifmap_plans.specs.Lists.{next_on}
use Rattle.ifmap_plans.specs.Plans.{Fits, IsAfter, after_on, change_of, list_after}
use Rattle.ifmap_view.specs.Rows.{stored_on}
use Rattle.ifmap_graph.specs.declared.shelves.Shelves.{Shelves}
use Rattle.ifmap_graph.specs.Drafted.{AreBare, AreOut, DraftsWithin, NoDraft, ends_at}
use Rattle.ifmap_graph.specs.Out.{items_changed}
use Rattle.ifmap_graph.specs.Shelved.{AreShelved, HasDraft, slot_of_item, rows_on_side}
use Rattle.ifmap_graph.specs.Sides.{list_next, list_now}
use Rattle.ifmap_graph.specs.Waits.{waits_on}
use Rattle.ifmap_graph.proofs.Bare.{sides_same}
use Rattle.ifmap_graph.proofs.Finding.{live_at}
use Rattle.ifmap_lemmas.specs.Members.{all_last, all_of_map}
use Rattle.ifmap_ident.specs.SameLaws.{items_total}
use Rattle.ifmap_plans.specs.laws.OnItemLaws.{stored_tied}
use Rattle.ifmap_lemmas.specs.Filters.{all_weaker, all_at}

-- items that both tie with a third tie
pub tied_both : (i j x : Item) → is_at (item_order i) x ≡ true → same_item j x ≡ true → same_item i j ≡ true
tied_both i j x a b =
    let one : item_order i x ≡ Equal = (Equal-is (item_order i x)).0 a
    in let two : item_order j x ≡ Equal = (Equal-is (item_order j x)).0 (sym (items_tie j x) ∙ b)
    in items_tie i j ∙ ap is_eq (items_total.congr i x j one ∙ tied_back items_total j x two)

no_change : (i x : Item) (changes : List ItemChange) → is_at (item_order i) x ≡ true
    → AllByRecursion (λ y. same_item i y ≡ false) (items_changed changes)
    → change_of changes x ≡ None
no_change i x [] t a = refl
no_change i x (c ∷ cs) t a = elim (cases_Bool (same_item c.item x)) [
  | inl y ↦ let q : true ≡ false = sym (tied_both i c.item x t y) ∙ a.0 in cc
  | inr f ↦ rw f (no_change i x cs t a.1)
]

map_snoc : (xs : List ItemChange) (x : ItemChange) → items_changed (xs ++ x ∷ []) ≡ items_changed xs ++ x.item ∷ []
map_snoc [] x = refl
map_snoc (y ∷ ys) x = ap (λ l. y.item ∷ l) (map_snoc ys x)

has_at : (changes : List ItemChange) (i : ℕ) (d : ItemChange) → i < length changes → Has (items_changed changes) (get_or changes i d).item
has_at [] i d h = absurd (omega (arith, h))
has_at (c ∷ cs) zero d h = inl refl
has_at (c ∷ cs) (suc i) d h = inr (has_at cs i d (omega (arith, h)))

-- no shelf has a draft where all are bare
pub bare_none : (s : Shelves) → AreBare s → (x : Item) → HasDraft s x → ⊥
bare_none s bare x d =
    let n : NoDraft (Some d.1) = subst NoDraft d.3
    (live_at (λ at. NoDraft (get s.slots at)) (is_at (item_order x)) s.places.entries d.0 bare d.2)
    in let q : IsSome {T = List Stored} None = subst (λ (o : Option (List Stored)). IsSome o) n d.4 in cc

-- what is stored after one change, of those that are left
after_first : (c : ItemChange) (rest : List ItemChange) (x : Item) (was here later : List Stored)
    → AllByRecursion (λ y. same_item c.item y ≡ false) (items_changed rest)
    → later ≡ cond (is_at (item_order c.item) x) (next_on c.removed c.added here) was → (is_at (item_order c.item) x ≡ true → was ≡ here)
    → after_on rest x later ≡ after_on (c ∷ rest) x was
after_first c rest x was here later apart e same = elim (cases_Bool (is_at (item_order c.item) x)) [
  | inl t ↦ ap (λ o. list_after o later) (no_change c.item x rest t apart) ∙ e
      ∙ ap (λ b. cond b (next_on c.removed c.added here) was) t ∙ ap (λ l. next_on c.removed c.added l) (sym (same t))
      ∙ sym (ap (λ b. list_after (cond b (Some c) (change_of rest x)) was) (items_tie c.item x ∙ t))
  | inr f ↦ ap (λ l. after_on rest x l) (e ∙ ap (λ b. cond b (next_on c.removed c.added here) was) f)
      ∙ sym (ap (λ b. list_after (cond b (Some c) (change_of rest x)) was) (items_tie c.item x ∙ f))
]

module _ (changes : List ItemChange) (first : Shelves) where
  -- so many items have their drafts
  pub record Drafting (s : Shelves) (i : ℕ) : Type 0 where
    pub shelved : AreShelved s
    pub same : rows_on_side list_now s ≡ rows_on_side list_now first
    pub drafted : AllByRecursion (HasDraft s) (items_changed (take i changes))
    pub within : DraftsWithin (items_changed changes) s
    pub apart : IsDistinct same_item (items_changed (drop i changes))
    pub fresh : AllByRecursion (λ x. stored_on x (rows_on_side list_next s) ≡ stored_on x (rows_on_side list_now first))
        (items_changed (drop i changes))
    pub left : (x : Item) → after_on (drop i changes) x (stored_on x (rows_on_side list_next s)) ≡ after_on changes x
        (stored_on x (rows_on_side list_now first))
    pub ends : (at : ℕ) → ends_at s at ≡ ends_at first at
    pub waits : (x : Item) → waits_on s x ≡ waits_on first x
    pub places : s.places ≡ first.places

  all_same : (xs : List Item) → ((x : Item) → stored_on x (rows_on_side list_next first) ≡ stored_on x (rows_on_side list_now first))
      → AllByRecursion (λ x. stored_on x (rows_on_side list_next first) ≡ stored_on x (rows_on_side list_now first)) xs
  all_same [] f = tt
  all_same (x ∷ xs) f = (f x, all_same xs f)

  pub begins_drafting : AreShelved first → AreBare first → Fits (rows_on_side list_now first) changes → Drafting first 0
  begins_drafting shelved bare fits = record {
    shelved = shelved;
    same = refl;
    drafted = tt;
    within = λ x d. absurd (bare_none first bare x d);
    apart = fits.apart;
    fresh = all_same (items_changed changes) (λ x. ap (stored_on x) (sides_same first bare));
    left = λ x. ap (λ rows. after_on changes x (stored_on x rows)) (sides_same first bare);
    ends = λ at. refl;
    waits = λ x. refl;
    places = refl;
  }

  module _ (s : Shelves) (i : ℕ) (h : i < length changes) (c : ItemChange) (is : c ≡ get_or changes i c) (g : Drafting s i) where
    pub there_at : AllByRecursion (λ x. IsSome (slot_of_item first x)) (items_changed changes) → IsSome (slot_of_item s c.item)
    there_at all =
        subst (λ p. IsSome (slot_of_item (record { places = p; slots = s.slots }) c.item)) (sym g.places)
        (subst (λ (x : ItemChange). IsSome (slot_of_item first x.item)) (sym is)
        (all_at (λ (x : ItemChange). IsSome (slot_of_item first x.item)) changes i c
        (all_of_map (λ x. IsSome (slot_of_item first x)) (λ (x : ItemChange). x.item) changes all) h))

    pub within_on : (t : Shelves) → ((x : Item) → HasDraft t x → HasDraft s x ⊎ (is_at (item_order c.item) x ≡ true))
        → DraftsWithin (items_changed changes) t
    within_on t drafts x d = elim (drafts x d) [
      | inl old ↦ g.within x old
      | inr tie ↦ (
        c.item,
        subst (λ (y : ItemChange). Has (items_changed changes) y.item) (sym is) (has_at changes i c h),
        (Equal-is
            (item_order c.item x)).0 tie,
      )
    ]

    here : drop i changes ≡ c ∷ drop (i + 1) changes
    here = drop-cons changes i c h ∙ ap (λ x. x ∷ drop (suc i) changes) (sym is) ∙ ap (λ n. c ∷ drop n changes) (sym (add-one i))

    apart_here : AllByRecursion (λ y. same_item c.item y ≡ false) (items_changed (drop (i + 1) changes))
        × IsDistinct same_item (items_changed (drop (i + 1) changes))
    apart_here =
        let rest = items_changed (drop (i + 1) changes)
        in let d : IsDistinct same_item (c.item ∷ rest) = subst (λ l. IsDistinct same_item (items_changed l)) here g.apart
        in (IsDistinct-head same_item c.item rest d, IsDistinct-tail same_item c.item rest d)

    fresh_here : AllByRecursion (λ x. stored_on x (rows_on_side list_next s) ≡ stored_on x (rows_on_side list_now first))
        (items_changed (c ∷ drop (i + 1) changes))
    fresh_here = subst
        (λ l. AllByRecursion (λ x. stored_on x (rows_on_side list_next s) ≡ stored_on x (rows_on_side list_now first)) (items_changed l))
        here g.fresh

    module _ (t : Shelves) (shelved : AreShelved t) (same : rows_on_side list_now t ≡ rows_on_side list_now s)
        (shows : (x : Item) → stored_on x (rows_on_side list_next t)
        ≡ cond (is_at (item_order c.item) x) (next_on c.removed c.added (stored_on c.item (rows_on_side list_now s)))
        (stored_on x (rows_on_side list_next s)))
        (drafts : (x : Item) → HasDraft t x → HasDraft s x ⊎ (is_at (item_order c.item) x ≡ true))
        (kept : (x : Item) → HasDraft s x → HasDraft t x)
        (there : HasDraft t c.item) (ends : (at : ℕ) → ends_at t at ≡ ends_at s at) (waits : (x : Item) → waits_on t x ≡ waits_on s x)
        (places : t.places ≡ s.places) where
      still_fresh : (xs : List Item) → AllByRecursion (λ y. same_item c.item y ≡ false) xs
          → AllByRecursion (λ x. stored_on x (rows_on_side list_next s) ≡ stored_on x (rows_on_side list_now first)) xs
          → AllByRecursion (λ x. stored_on x (rows_on_side list_next t) ≡ stored_on x (rows_on_side list_now first)) xs
      still_fresh [] a b = tt
      still_fresh (x ∷ xs) a b = (
        shows x
            ∙ ap (λ b. cond b (next_on c.removed c.added (stored_on c.item (rows_on_side list_now s)))
            (stored_on x (rows_on_side list_next s)))
            (sym (items_tie c.item x) ∙ a.0) ∙ b.0,
        still_fresh xs a.1 b.1,
      )

      pub drafts_on : Drafting t (i + 1)
      drafts_on = record {
        shelved = shelved;
        same = same ∙ g.same;
        drafted = subst (λ l. AllByRecursion (HasDraft t) (items_changed l))
            (ap (λ x. take i changes ++ x ∷ []) is ∙ sym (take-suc changes i c h) ∙ ap (λ n. take n changes) (sym (add-one i)))
            (subst (AllByRecursion (HasDraft t)) (sym (map_snoc (take i changes) c))
            (all_last (HasDraft t) (items_changed (take i changes)) c.item
            (all_weaker (HasDraft s) (HasDraft t) kept (items_changed (take i changes)) g.drafted) there));
        within = within_on t drafts;
        apart = apart_here.1;
        fresh = still_fresh (items_changed (drop (i + 1) changes)) apart_here.0 fresh_here.1;
        left = λ x.
            after_first c (drop (i + 1) changes) x (stored_on x (rows_on_side list_next s)) (stored_on c.item (rows_on_side list_now s))
            (stored_on x (rows_on_side list_next t)) apart_here.0
            (shows x)
            (λ t. sym (stored_tied c.item x (rows_on_side list_next s) ((Equal-is (item_order c.item x)).0 t)) ∙ fresh_here.0
            ∙ sym (ap (stored_on c.item) g.same))
            ∙ sym (ap (λ l. after_on l x (stored_on x (rows_on_side list_next s))) here) ∙ g.left x;
        ends = λ at. ends at ∙ g.ends at;
        waits = λ x. waits x ∙ g.waits x;
        places = places ∙ g.places;
      }

  module _ (s : Shelves) (i : ℕ) (e : length changes ≤ i) (g : Drafting s i) where
    pub drafted_after : IsAfter changes (rows_on_side list_now first) (rows_on_side list_next s)
    drafted_after x = sym (ap (λ l. after_on l x (stored_on x (rows_on_side list_next s))) (drop_all i changes e)) ∙ g.left x

    pub drafted_out : Fits (rows_on_side list_now first) changes → AreOut (items_changed changes) s
    drafted_out fits = record {
      drafted = subst (λ l. AllByRecursion (HasDraft s) (items_changed l)) (take_all i changes e) g.drafted;
      within = g.within;
      apart = fits.apart;
    }
