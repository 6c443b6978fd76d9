-- Once the drafts of shelves and of links stand, both sides are in order.
-- Plan: (1) which numbers change their links are those of the items that flip; (2) the numbers that a slot joins are two live
-- ones, and different (`are_pairs`), also once the drafts of shelves stand; (3) what is stored on an item is a list, now
-- and after the change; (4) both sides are graphs whose links are those of their shelves; (5) once nothing has a draft
-- any more, both sides are what is there.
use Rattle.std.proofs.Common.{◌≡◌, ◌≢◌, ◌⊎◌, ℕ, ◌<◌, Bool, true, false, cond, Option, Some, None, IsSome, unwrap_or, List, [], ◌∷◌, length, nat_eq, refl, ap, ◌∙◌, sym, subst, inl, inr}
use Rattle.std.proofs.lemmas.Bool.{cases_Bool}
use Rattle.std.proofs.lemmas.Option.{none-some, same_Some}
use Rattle.std.specs.BTreeMap.{is_at}
use Rattle.std.specs.List.{AllByRecursion, Contains, IsDistinct, cons_option, filter_map}
use Rattle.std.specs.Ordering.{is_eq}
use Rattle.std.proofs.lemmas.Map.Keys.{IsDistinct-cons, IsDistinct-head, IsDistinct-tail}
use Rattle.std.specs.Cmp.{tied_back, Equal-is}
use Rattle.slab.specs.Slab.{Slab, get}
use Rattle.ifmap_lemmas.specs.Having.{Has, from_has, has_mapped, all_has}
use Rattle.ifmap_ident.specs.declared.items.Item.{Item}
use Rattle.ifmap_ident.specs.declared.items.Item.TheVariants.{One, Pair}
use Rattle.ifmap_ident.specs.declared.identifiers.Identifier.{Identifier}
use Rattle.ifmap_ident.specs.Identifiers.{identifier_order}
use Rattle.ifmap_ident.specs.Items.{IsCanonItem, IsItem, item_order, items_tie, same_item}
use Rattle.ifmap_meta.specs.declared.stored.Stored.{Stored}
use Rattle.ifmap_plans.specs.declared.plans.ItemChange.{ItemChange}
use Rattle.ifmap_plans.specs.Lists as plans
use Rattle.ifmap_plans.specs.Plans.{Fits, FitsItem, IsAfter, after_on}
use Rattle.ifmap_pool.specs.Holdings.{Holdings, Names, entry_at}
use Rattle.ifmap_plans.specs.Lists.{IsList}
use Rattle.ifmap_view.specs.declared.attachments.Attachment.{Attachment}
use Rattle.ifmap_view.specs.declared.views.LinkSeen.{LinkSeen}
use Rattle.ifmap_view.specs.Rows.{stored_on}
use Rattle.ifmap_graph.specs.declared.ends.ItemEnds as the_ends
use Rattle.ifmap_graph.specs.declared.ends.ItemEnds.TheVariants as ends
use Rattle.ifmap_graph.specs.declared.shelves.Shelf.{Shelf}
use Rattle.ifmap_graph.specs.declared.shelves.Shelves.{Shelves}
use Rattle.ifmap_graph.specs.Drafted.{AreOut, DraftsWithin, ends_at}
use Rattle.ifmap_graph.specs.Inside.{IsInside, IsSide, links_at}
use Rattle.ifmap_graph.specs.Joined.{is_not_empty, joined_pair, two_of}
use Rattle.ifmap_graph.specs.Linked.{changed_links}
use Rattle.ifmap_graph.specs.Named.{AreEnds, AreNumbered, HasEnds}
use Rattle.ifmap_graph.specs.Out.{items_changed}
use Rattle.ifmap_graph.specs.Shelved.{AreShelved, IsPlaced, StoredSide, list_at, slot_of_item, rows_on_side}
use Rattle.ifmap_graph.specs.Sides.{Sides, list_next, list_now}
use Rattle.ifmap_graph.specs.Touched.{ArePairs, KeepsLinks, exactly_one, draft_of, flip_in, flipped_slot, full_next, full_now}
use Rattle.ifmap_graph.specs.Turning.{sides_at}
use Rattle.ifmap_graph.proofs.Apart.{changed_apart}
use Rattle.ifmap_graph.proofs.Empty.{nothing_is_list, side_same}
use Rattle.ifmap_graph.proofs.Finding.{unlisted_empty, entry_stores, live_at}
use Rattle.ifmap_graph.proofs.Following.{entry_hits, lookup_tied, looked_up}
use Rattle.ifmap_graph.proofs.KeyHolds.{numbers_differ}
use Rattle.ifmap_graph.proofs.Links.{changed_listed}
use Rattle.ifmap_graph.proofs.Moved.{inside_moved, lists_stay, live_by, side_moved, still_numbered}
use Rattle.ifmap_graph.proofs.Shelving.{Entries}
use Rattle.ifmap_graph.proofs.Touching.{drafted_links}
use Rattle.ifmap_graph.proofs.Writes.{one_item}
use Rattle.ifmap_ident.specs.SameLaws.{items_total}
use Rattle.ifmap_plans.specs.laws.OnItemLaws.{stored_tied}
use Rattle.ifmap_lemmas.specs.Numbers.{is_other}
use Rattle.ifmap_lemmas.specs.Rising.{to_distinct}

same_or_not : (a b : Bool) → exactly_one a b ≡ false → a ≡ b
same_or_not true true e = refl
same_or_not true false e = let q : true ≡ false = e in cc
same_or_not false true e = let q : true ≡ false = e in cc
same_or_not false false e = refl

differ_not : (a b : Bool) → exactly_one a b ≡ true → a ≡ b → ⊥
differ_not true true e q = let r : false ≡ true = e in cc
differ_not true false e q = cc
differ_not false true e q = cc
differ_not false false e q = let r : false ≡ true = e in cc

module _ (s : Shelves) where
  flip_place : (o : Option ℕ) (at : ℕ) → flip_in s.slots o ≡ Some at → o ≡ Some at
  flip_place None at e = absurd (none-some _ e)
  flip_place (Some bt) at e = by (exactly_one (full_now s.slots bt) (full_next s.slots bt)) e
    where
      by : (b : Bool) → cond b (Some bt) None ≡ Some at → Some bt ≡ Some at
      by true q = q
      by false q = absurd (none-some _ q)

  -- a shelf whose lists differ has a draft
  has_draft : (o : Option Shelf) (shelf : Shelf) → o ≡ Some shelf
      → exactly_one (is_not_empty (list_at list_now o)) (is_not_empty (list_at list_next o)) ≡
      true
      → IsSome shelf.stored.draft
  has_draft o shelf e d = by shelf.stored.draft refl
    where
      by : (draft : Option (List Stored)) → shelf.stored.draft ≡ draft → IsSome shelf.stored.draft
      by (Some l) q = subst (λ (o : Option (List Stored)). IsSome o) (sym q) refl
      by None q = absurd (differ_not (is_not_empty (list_at list_now o)) (is_not_empty (list_at list_next o)) d
          (ap (λ o. is_not_empty (list_at list_now o)) e ∙ ap (λ d. is_not_empty (unwrap_or d shelf.stored.now)) (sym q)
          ∙ sym (ap (λ o. is_not_empty (list_at list_next o)) e)))

  module _ (is : AreShelved s) (used : (at : ℕ) → IsSome (get s.slots at) → (item : Item) × Has s.places.entries (item, at))
      (items : List Item)
      (within : DraftsWithin items s) where
    touched_item : (at : ℕ) (shelf : Shelf) → get s.slots at ≡ Some shelf → exactly_one (full_now s.slots at) (full_next s.slots at) ≡ true
        → (x : Item) × Has items x × (flipped_slot s x ≡ Some at)
    touched_item at shelf e d =
        let u = used at (subst (λ (o : Option Shelf). IsSome o) (sym e) refl)
        in let place : slot_of_item s u.0 ≡ Some at = entry_hits s.places.entries u.0 at is.rising u.1
        in let w = within u.0 (at, shelf, place, e, has_draft (get s.slots at) shelf e d)
        in (
          w.0,
          w.1,
          ap (flip_in s.slots) (lookup_tied w.0 u.0 s.places.entries w.2 ∙ place) ∙ ap (λ b. cond b (Some at) None) d,
        )

    by_slot : (at : ℕ) (o : Option Shelf) → get s.slots at ≡ o
        → (full_now s.slots at ≡ full_next s.slots at) ⊎ Contains (filter_map (flipped_slot s) items) at
    by_slot at None e = inl (ap (λ o. is_not_empty (list_at list_now o)) e ∙ sym (ap (λ o. is_not_empty (list_at list_next o)) e))
    by_slot at (Some shelf) e = elim (cases_Bool (exactly_one (full_now s.slots at) (full_next s.slots at))) [
      | inl d ↦ let t = touched_item at shelf e d
          in inr (from_has (filter_map (flipped_slot s) items) at (has_mapped (flipped_slot s) items t.0 at t.1 t.2))
      | inr d ↦ inl (same_or_not (full_now s.slots at) (full_next s.slots at) d)
    ]

    pub all_touched : (at : ℕ) → (full_now s.slots at ≡ full_next s.slots at) ⊎ Contains (filter_map (flipped_slot s) items) at
    all_touched at = by_slot at (get s.slots at) refl

  -- no slot is touched twice
  module _ (is : AreShelved s) where
    one_slot : (x y : Item) (at : ℕ) → slot_of_item s x ≡ Some at → slot_of_item s y ≡ Some at → same_item x y ≡ true
    one_slot x y at e f =
        let a = looked_up s.places.entries x at e
        in let b = looked_up s.places.entries y at f
        in let same : a.0 ≡ b.0 = one_item s.places.entries a.0 b.0 at is.apart a.1 b.1
        in items_tie x y ∙ ap is_eq (items_total.congr x a.0 y a.2 ∙ ap (λ k. item_order k y) same ∙ tied_back items_total y b.0 b.2)

    out_of : (x : Item) (at : ℕ) (items : List Item) → flipped_slot s x ≡ Some at → AllByRecursion (λ y. same_item x y ≡ false) items
        → AllByRecursion (λ n. nat_eq at n ≡ false) (filter_map (flipped_slot s) items)
    out_of x at [] e a = tt
    out_of x at (y ∷ ys) e a = by (flipped_slot s y) refl (out_of x at ys e a.1)
      where
        by : (o : Option ℕ) → flipped_slot s y ≡ o → AllByRecursion (λ n. nat_eq at n ≡ false) (filter_map (flipped_slot s) ys)
            → AllByRecursion (λ n. nat_eq at n ≡ false) (cons_option o (filter_map (flipped_slot s) ys))
        by None f rest = rest
        by (Some bt) f rest = (
          is_other at bt (λ q.
              (let r : true ≡ false
              = sym (one_slot x y at (flip_place (slot_of_item s x) at e) (flip_place (slot_of_item s y) at (f ∙ ap Some (sym q)))) ∙ a.0
              in cc)),
          rest,
        )

    pub touched_apart : (items : List Item) → IsDistinct same_item items → IsDistinct nat_eq (filter_map (flipped_slot s) items)
    touched_apart [] d = to_distinct nat_eq [] tt
    touched_apart (x ∷ xs) d = by (flipped_slot s x) refl (touched_apart xs (IsDistinct-tail same_item x xs d))
      where
        by : (o : Option ℕ) → flipped_slot s x ≡ o → IsDistinct nat_eq (filter_map (flipped_slot s) xs)
            → IsDistinct nat_eq (cons_option o (filter_map (flipped_slot s) xs))
        by None e rest = rest
        by (Some at) e rest = IsDistinct-cons nat_eq at (filter_map (flipped_slot s) xs)
            (out_of x at xs e (IsDistinct-head same_item x xs d))
            rest

pub flips_mapped : (s : Shelves) (changes : List ItemChange)
    → filter_map (λ (c : ItemChange). flipped_slot s c.item) changes ≡ filter_map (flipped_slot s) (items_changed changes)
flips_mapped s [] = refl
flips_mapped s (c ∷ cs) = ap (λ l. cons_option (flipped_slot s c.item) l) (flips_mapped s cs)

-- the numbers that a slot joins are two live ones
module _ (names : Holdings Identifier) (v w : ℕ) where
  two_by : (item : Item) (e : the_ends.ItemEnds) → two_of e ≡ Some (v, w) → IsItem item → AreEnds names item e
      → IsSome (entry_at names v) × IsSome (entry_at names w) × (v ≢ w)
  two_by (One a) (ends.One u) j i n = absurd (none-some _ j)
  two_by (Pair a b) (ends.One u) j i n = absurd n
  two_by (One a) (ends.Pair u t) j i n = absurd n
  two_by (Pair a b) (ends.Pair u t) j i n =
      let e : (u, t) ≡ (v, w) = same_Some _ _ j
      in let one : Names identifier_order names v a = subst (λ k. Names identifier_order names k a) (ap (λ p. p.0) e) n.0
      in let two : Names identifier_order names w b = subst (λ k. Names identifier_order names k b) (ap (λ p. p.1) e) n.1
      in (
        subst (λ (o : Option (Identifier × ℕ)). IsSome o) (sym one.1) refl,
        subst (λ (o : Option (Identifier × ℕ)). IsSome o) (sym two.1) refl,
        λ q. numbers_differ names v w a b i one two (sym q),
      )

  two_in : (item : Item) (o : Option Shelf) → joined_pair o ≡ Some (v, w) → IsItem item → HasEnds names item o
      → IsSome (entry_at names v) × IsSome (entry_at names w) × (v ≢ w)
  two_in item None j i n = absurd n
  two_in item (Some shelf) j i n = two_by item shelf.ends j i n

  joined_live : (o : Option Shelf) → joined_pair o ≡ Some (v, w) → IsSome o
  joined_live None j = absurd (none-some _ j)
  joined_live (Some shelf) j = refl

pub are_pairs : (names : Holdings Identifier) (slots : Slab Shelf) (es : Entries) (n : ℕ) → IsPlaced (get slots) es
    → ((at : ℕ) → IsSome (get slots at) → (item : Item) × Has es (item, at)) → AreNumbered names (get slots) es
    → ((v : ℕ) → IsSome (entry_at names v) → v < n)
    → ArePairs slots n
are_pairs names slots es n is used numbered table at v w j =
    let u = used at (joined_live names v w (get slots at) j)
    in let t = two_in names v w u.0 (get slots at) j (all_has (λ e. IsCanonItem e.0) es is.canon (u.0, at) u.1).ordered
    (all_has (λ e. HasEnds names e.0 (get slots e.1)) es numbered (u.0, at) u.1)
    in (table v t.0, table w t.1, t.2)

-- so they are once the drafts of shelves stand
pub pairs_after : (names : Holdings Identifier) (s t : Shelves) (links : List (Sides LinkSeen))
    → IsInside names (get s.slots) s.places.entries links
    → AreShelved t → t.places ≡ s.places → ((at : ℕ) → ends_at t at ≡ ends_at s at) → ArePairs t.slots (length links)
pairs_after names s t links old shelved places ends =
    let is : IsInside names (get s.slots) t.places.entries links
    = subst (λ p. IsInside names (get s.slots) p.entries links) (sym places) old
    in are_pairs names t.slots t.places.entries (length links) shelved
    (λ at x. is.used at (live_by (get s.slots at) (get t.slots at) (sym (ends at)) x))
    (still_numbered (get s.slots) (get t.slots) ends names t.places.entries is.numbered) is.table

-- what is stored on an item is a list
pub stored_list : (side : StoredSide) (s : Shelves) → AreShelved s
    → AllByRecursion (λ e. IsList (list_at side (get s.slots e.1))) s.places.entries → (x : Item)
    → IsList (stored_on x (rows_on_side side s))
stored_list side s is all x = by (slot_of_item s x) refl
  where
    by : (o : Option ℕ) → slot_of_item s x ≡ o → IsList (stored_on x (rows_on_side side s))
    by None e = subst IsList (unlisted_empty (λ at. list_at side (get s.slots at)) x s.places.entries e) nothing_is_list
    by (Some at) e =
        subst IsList (entry_stores (λ n. list_at side (get s.slots n)) x s.places.entries at is.rising e)
        (live_at (λ n. IsList (list_at side (get s.slots n))) (is_at (item_order x)) s.places.entries at all e)

-- so is what is stored after a change
pub after_list : (rows : List Attachment) (changes : List ItemChange) (x : Item) → AllByRecursion (FitsItem rows) changes
    → IsList (stored_on x rows)
    → IsList (after_on changes x (stored_on x rows))
after_list rows [] x f l = l
after_list rows (c ∷ cs) x f l = elim (cases_Bool (same_item c.item x)) [
  | inl t ↦ let list = f.0.list
      in let tied : stored_on c.item rows ≡ stored_on x rows
      = stored_tied c.item x rows ((Equal-is (item_order c.item x)).0 (sym (items_tie c.item x) ∙ t))
      in rw t (subst (λ l. IsList (plans.next_on c.removed c.added l)) tied (record { rising = list.rising; keys = list.keys }))
  | inr t ↦ rw t (after_list rows cs x f.1 l)
]

module _ (names : Holdings Identifier) (s t : Shelves) (links later : List (Sides LinkSeen))
    (old : IsInside names (get s.slots) s.places.entries links)
    (shelved : AreShelved t) (places : t.places ≡ s.places) (ends : (at : ℕ) → ends_at t at ≡ ends_at s at)
    (rows : rows_on_side list_now t ≡ rows_on_side list_now s)
    (changes : List ItemChange) (fits : Fits (rows_on_side list_now s) changes)
    (after : IsAfter changes (rows_on_side list_now s) (rows_on_side list_next t))
    (out : AreOut (items_changed changes) t) (kept : KeepsLinks links later)
    (drafts : (v : ℕ) → (sides_at later v).draft ≡ draft_of t.slots (filter_map (flipped_slot t) (items_changed changes)) v
    (sides_at links v).now)
  where
    is : IsInside names (get s.slots) t.places.entries links
    is = subst (λ p. IsInside names (get s.slots) p.entries links) (sym places) old

    used : (at : ℕ) → IsSome (get t.slots at) → (item : Item) × Has t.places.entries (item, at)
    used at x = is.used at (live_by (get s.slots at) (get t.slots at) (sym (ends at)) x)

    lists : (at : ℕ) → list_at list_now (get t.slots at) ≡ list_at list_now (get s.slots at)
    lists = lists_stay s t old.placed shelved places old.used ends list_now list_now rows

    -- the links that are there, of the shelves that are there now
    now_side : IsSide list_now (get t.slots) t.places.entries (links_at list_now links)
    now_side = side_moved (get s.slots) (get t.slots) ends list_now list_now lists (links_at list_now links) (links_at list_now links)
        (λ v. refl) t.places.entries is.side

    all_lists : (es : Entries) → ((e : Item × ℕ) → Has es e → Has t.places.entries e)
        → AllByRecursion (λ e. IsList (list_at list_next (get t.slots e.1))) es
    all_lists [] f = tt
    all_lists (e ∷ es) f = (
      subst IsList
          (sym (entry_stores (λ n. list_at list_next (get t.slots n)) e.0 t.places.entries e.1 shelved.rising
          (entry_hits t.places.entries e.0 e.1 shelved.rising (f e (inl refl)))
          ∙ after e.0))
          (after_list (rows_on_side list_now s) changes e.0 fits.each (stored_list list_now s old.placed old.side.lists e.0)),
      all_lists es (λ x h. f x (inr h)),
    )

    next_links : (v : ℕ) → links_at list_next later v
        ≡ changed_links (λ at. joined_pair (get t.slots at)) (full_now t.slots) (full_next t.slots)
        (filter_map (flipped_slot t) (items_changed changes))
        (links_at list_now links) v
    next_links v =
        ap (λ d. unwrap_or d (sides_at later v).now) (drafts v)
        ∙ ap (unwrap_or (draft_of t.slots (filter_map (flipped_slot t) (items_changed changes)) v (sides_at links v).now)) (kept.now v)
        ∙ drafted_links t.slots (filter_map (flipped_slot t) (items_changed changes)) (links_at list_now links) now_side.listed
        (all_touched t shelved used (items_changed changes) out.within) v

    pub inside_drafted : IsInside names (get t.slots) t.places.entries later
    inside_drafted = record {
      placed = shelved;
      used = used;
      numbered = still_numbered (get s.slots) (get t.slots) ends names t.places.entries is.numbered;
      pool = is.pool;
      keys = is.keys;
      held = is.held;
      table = λ v x. subst (λ (n : ℕ). v < n) (sym kept.long) (is.table v x);
      side = side_same list_now (get t.slots) t.places.entries (links_at list_now links) (links_at list_now later) kept.now now_side;
      next_side =
          side_same list_next (get t.slots) t.places.entries
          (changed_links (λ at. joined_pair (get t.slots at)) (full_now t.slots) (full_next t.slots)
          (filter_map (flipped_slot t) (items_changed changes))
          (links_at list_now links))
          (links_at list_next later) next_links
          (record {
            lists = all_lists t.places.entries (λ e h. h);
            listed = changed_listed (λ at. joined_pair (get t.slots at)) (full_now t.slots) (full_next t.slots)
                (filter_map (flipped_slot t) (items_changed changes)) (links_at list_now links)
                now_side.listed (all_touched t shelved used (items_changed changes) out.within);
            once = λ v. changed_apart (λ at. joined_pair (get t.slots at)) (full_now t.slots) (full_next t.slots) v
                (filter_map (flipped_slot t) (items_changed changes)) (links_at list_now links)
                now_side.listed (touched_apart t shelved (items_changed changes) out.apart) (now_side.once v);
          });
    }

-- once nothing has a draft any more, both sides are what is there
pub inside_dropped : (names : Holdings Identifier) (s t : Shelves) (links later : List (Sides LinkSeen))
    → IsInside names (get s.slots) s.places.entries links
    → AreShelved t → t.places ≡ s.places → ((at : ℕ) → ends_at t at ≡ ends_at s at) → rows_on_side list_now t ≡ rows_on_side list_now s
    → rows_on_side list_next t ≡ rows_on_side list_now s
    → KeepsLinks links later → ((v : ℕ) → (sides_at later v).draft ≡ None) → IsInside names (get t.slots) t.places.entries later
inside_dropped names s t links later is shelved places ends rows same kept none =
    subst (λ p. IsInside names (get t.slots) p.entries later) (sym places)
    (inside_moved (get s.slots) (get t.slots) ends names s.places.entries links later list_now list_now list_now list_now
    (lists_stay s t is.placed shelved places is.used ends list_now list_now rows)
    (lists_stay s t is.placed shelved places is.used ends list_now list_next same)
    kept.now (λ v. ap (λ d. unwrap_or d (sides_at later v).now) (none v) ∙ kept.now v) kept.long is.side is.side is)
