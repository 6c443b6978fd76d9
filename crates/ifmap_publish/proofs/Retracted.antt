-- A walk over the items that carry attachments, from each of which what is retracted goes.
-- The plan: on one item what goes is the difference and nothing comes (goes, comes); the items so far rise, carry something, and are
-- all that are not above the last (IsSoFar), at the first step and from each to the next (so_far_none, so_far_next); at the end they are
-- all that carry something, so what is to stand on each is what the retraction leaves (all_told), their lists are sound and their keys
-- rise (all_sound, all_up), so the changes lead from the rows to that (they_fit, they_lead, they_are_exact, they_are_changes); the steps
-- are their number (steps_are), and fewer are above each next one, so the walk ends (falls).
use Rattle.std.proofs.Common.{◌≡◌, ◌≢◌, ◌∙◌, ◌⊎◌, refl, sym, ap, subst, ℕ, ◌+◌, ◌≤◌, ◌<◌, Bool, true, false, cond, not, ◌||◌, List, [], ◌∷◌}
use Rattle.std.proofs.Common.{◌++◌, map, length, Option, Some, None, inl, inr, arith}
use Rattle.std.proofs.Math.Bool.{not-not}
use Rattle.std.proofs.lemmas.Bool.{cases_Bool, or_right}
use Rattle.std.proofs.lemmas.List.{append_assoc, length-append, map-append}
use Rattle.std.proofs.lemmas.List.Folds.{list_any-append}
use Rattle.std.specs.BTreeMap.{is_at}
use Rattle.std.specs.Cmp.{tied_itself}
use Rattle.std.specs.List.{AllByRecursion, filter, list_any}
use Rattle.std.specs.List.Sorted.{IsStrictlySortedBy}
use Rattle.std.specs.Map.{keys_of, lookup}
use Rattle.std.specs.Ordering.{is_eq, is_lt}
use Rattle.std.proofs.lemmas.Cmp.{alike_right}
use Rattle.std.proofs.lemmas.Map.Views.{any-filter_same}
use Rattle.ifmap_lemmas.specs.Filtered.{filter_le}
use Rattle.ifmap_lemmas.specs.Orderings.{greater_reversed, is_less, not_both}
use Rattle.std.specs.Str.{bytes_eq}
use Rattle.std.specs.declared.cmp.Ordering.{Ordering}
use Rattle.std.specs.declared.cmp.Ordering.TheVariants.{Less, Equal, Greater}
use Rattle.ifmap_ident.specs.declared.items.Item.{Item}
use Rattle.ifmap_ident.specs.Items.{IsCanonItem, item_order, same_item, items_tie}
use Rattle.ifmap_lemmas.specs.Filters.{all_pass, all_weaker, filter_alike, filter_none}
use Rattle.ifmap_lemmas.specs.Having.{Has, any_has, filter_has, has_all, has_any, has_filter}
use Rattle.ifmap_lemmas.specs.Members.{both_all}
use Rattle.ifmap_lemmas.specs.Rising.{nothing_rises, rises_last}
use Rattle.ifmap_meta.specs.declared.stored.Stored.{Stored}
use Rattle.ifmap_rows.specs.ifmap_plans.declared.plans.ItemChange.{ItemChange}
use Rattle.ifmap_rows.specs.ifmap_plans.After.{IsAbove, IsNextItem, NoItem, items_of}
use Rattle.ifmap_rows.specs.ifmap_plans.Lists.{stored_difference, same_stored}
use Rattle.ifmap_rows.specs.ifmap_plans.Plans.{AreExact, AreWhole, Fits, IsAfter, IsChange}
use Rattle.ifmap_view.specs.declared.attachments.Attachment.{Attachment}
use Rattle.ifmap_view.specs.Attachments.{IsGraph}
use Rattle.ifmap_view.specs.Rows.{stored_on}
use Rattle.ifmap_publish.specs.declared.who.Who.{Who}
use Rattle.ifmap_publish.specs.declared.who.Who.TheVariants.{Sessions, Publisher}
use Rattle.ifmap_publish.specs.Retract.{ends_with, is_of, retract, retract_on}
use Rattle.ifmap_publish.specs.Working.{change_to, changes_to, kept_change}
use Rattle.ifmap_publish.proofs.Attaching.{sound_filter}
use Rattle.ifmap_publish.proofs.Changing.{AreSound, all_fit, are_changes, are_exact, is_after, list_or, stored_by}
use Rattle.ifmap_publish.proofs.Entries.{stored_alike}
use Rattle.ifmap_publish.proofs.Graphs.{sound_on}
use Rattle.ifmap_publish.proofs.Items.{retract_told}
use Rattle.ifmap_publish.proofs.Same.{life_same, publisher_same, same_itself}
use Rattle.ifmap_ident.specs.SameLaws.{same_equal, items_equiv, items_total, told_as}

-- one stored element is of these where the other is
respects : (who : Who) (a b : Stored) → same_stored a b ≡ true → is_of who a ≡ is_of who b
respects (Sessions serials) a b e = ap (ends_with serials) (life_same a b e)
respects (Publisher name) a b e = ap (λ p. bytes_eq p name) (publisher_same a b e)

module _ (who : Who) (list : List Stored) where
  abbrev stays : Stored → Bool
  stays s = not (is_of who s)

  tells : (s : Stored) → Has list s → list_any (same_stored s) (filter stays list) ≡ stays s
  tells s h = by (stays s) refl
    where
      by : (b : Bool) → stays s ≡ b → list_any (same_stored s) (filter stays list) ≡ stays s
      by true e = has_any (same_stored s) (filter stays list) s (has_filter stays list s h e) (same_itself s) ∙ sym e
      by false e = elim (cases_Bool (list_any (same_stored s) (filter stays list))) [
        | inl t ↦
            let other = any_has (same_stored s) (filter stays list) t in
            let bad : false ≡ true =
            sym e ∙ ap not (respects who s other.0 other.2) ∙ (filter_has stays list other.0 other.1).1 in cc
        | inr t ↦ t ∙ sym e
      ]

  -- what goes, and that nothing comes
  pub goes : filter (is_of who) list ≡ stored_difference list (retract_on who list)
  goes = filter_alike (is_of who) (λ s. not (list_any (same_stored s) (filter stays list))) list
      (has_all (λ s. is_of who s ≡ not (list_any (same_stored s) (filter stays list))) list
      (λ s h. sym (ap not (tells s h) ∙ not-not (is_of who s))))

  pub comes : [] ≡ stored_difference (retract_on who list) list
  comes = sym (filter_none (λ s. not (list_any (same_stored s) list)) (filter stays list)
      (has_all (λ s. not (list_any (same_stored s) list) ≡ false) (filter stays list)
      (λ s h. ap not (has_any (same_stored s) list s (filter_has stays list s h).0 (same_itself s)))))

-- what is to stand on an item
abbrev pub entry_of : Who → List Attachment → Item → Item × List Stored
entry_of who rows k = (k, retract_on who (stored_on k rows))

changes_append : (rows : List Attachment) (es fs : List (Item × List Stored))
    → changes_to rows (es ++ fs) ≡ changes_to rows es ++ changes_to rows fs
changes_append rows [] fs = refl
changes_append rows (e ∷ es) fs =
    let kept = kept_change (change_to rows e) ((change_to rows e).removed ++ (change_to rows e).added) in
    ap (λ l. kept ++ l) (changes_append rows es fs) ∙ sym (append_assoc kept (changes_to rows es) (changes_to rows fs))

above_or_not : (last : Option Item) (x : Item) → IsAbove last x ⊎ (IsAbove last x → ⊥)
above_or_not None x = inl tt
above_or_not (Some a) x = by (item_order a x)
  where
    by : (o : Ordering) → (o ≡ Less) ⊎ (o ≡ Less → ⊥)
    by Less = inl refl
    by Equal = inr (λ e. cc)
    by Greater = inr (λ e. cc)

-- what is not above the last is below the next
below_next : (last : Option Item) (j k : Item) → (IsAbove last j → ⊥) → IsAbove last k → item_order j k ≡ Less
below_next None j k not up = absurd (not tt)
below_next (Some a) j k not up = by (item_order a j) refl
  where
    by : (o : Ordering) → item_order a j ≡ o → item_order j k ≡ Less
    by Less e = absurd (not e)
    by Equal e = sym (items_total.congr a j k e) ∙ up
    by Greater e = items_total.trans j a k (greater_reversed items_total a j e) up

-- the items so far
pub record IsSoFar (who : Who) (rows : List Attachment) (changes : List ItemChange) (last : Option Item) (before steps : ℕ) : Type 0 where
  pub keys : List Item
  pub made : changes ≡ changes_to rows (map (entry_of who rows) keys)
  pub canon : AllByRecursion IsCanonItem keys
  pub up : IsStrictlySortedBy item_order keys
  pub carry : AllByRecursion (λ k. stored_on k rows ≢ []) keys
  pub within : AllByRecursion (λ k. IsAbove last k → ⊥) keys
  pub holds_all : (x : Item) → stored_on x rows ≢ [] → (IsAbove last x → ⊥) → list_any (same_item x) keys ≡ true
  pub count : steps ≡ before + length keys

pub so_far_none : (who : Who) (rows : List Attachment) (changes : List ItemChange) (before : ℕ) → changes ≡ []
    → IsSoFar who rows changes None before before
so_far_none who rows changes before is = record {
  keys = [];
  made = is;
  canon = tt;
  up = nothing_rises item_order;
  carry = tt;
  within = tt;
  holds_all = λ x full under. absurd (under tt);
  count = omega arith;
}

pub so_far_next : (who : Who) (rows : List Attachment) (changes more : List ItemChange) (last : Option Item) (before steps after : ℕ)
    (k : Item)
    → IsSoFar who rows changes last before steps → IsNextItem rows last k → IsCanonItem k → after ≡ steps + 1
    → more ≡ changes ++ changes_to rows (entry_of who rows k ∷ []) → IsSoFar who rows more (Some k) before after
so_far_next who rows changes more last before steps after k so next canon one is =
    let below : AllByRecursion (λ j. item_order j k ≡ Less) so.keys =
    all_weaker (λ j. IsAbove last j → ⊥) (λ j. item_order j k ≡ Less) (λ j under. below_next last j k under next.above) so.keys so.within in
    record {
      keys = so.keys ++ k ∷ [];
      made = is ∙ ap (λ l. l ++ changes_to rows (entry_of who rows k ∷ [])) so.made
          ∙ sym (ap (changes_to rows) (map-append (entry_of who rows) so.keys (k ∷ []))
          ∙ changes_append rows (map (entry_of who rows) so.keys) (entry_of who rows k ∷ []));
      canon = both_all IsCanonItem so.keys (k ∷ []) so.canon (canon, tt);
      up = rises_last item_order so.keys k so.up below;
      carry = both_all (λ j. stored_on j rows ≢ []) so.keys (k ∷ []) so.carry (next.carries, tt);
      within = both_all (λ j. item_order k j ≡ Less → ⊥) so.keys (k ∷ [])
          (all_weaker (λ j. item_order j k ≡ Less) (λ j. item_order k j ≡ Less → ⊥) (λ j l m. not_both items_total j k l m) so.keys below)
          ((λ m. not_itself m), tt);
      holds_all = λ x full under. list_any-append (same_item x) so.keys (k ∷ []) ∙ at x full under (item_order k x) refl;
      count = let n = length-append so.keys (k ∷ []) in omega (arith, one, so.count, n);
    }
  where
    not_itself : item_order k k ≡ Less → ⊥
    not_itself m = let q : Equal ≡ Less = sym (tied_itself items_total k) ∙ m in cc

    at : (x : Item) → stored_on x rows ≢ [] → (item_order k x ≡ Less → ⊥) → (o : Ordering) → item_order k x ≡ o
        → (list_any (same_item x) so.keys || list_any (same_item x) (k ∷ [])) ≡ true
    at x full under Less e = absurd (under e)
    at x full under Equal e =
        let same : same_item x k ≡ true = items_equiv.symm x k ∙ items_tie k x ∙ ap is_eq e in
        ap (λ b. list_any (same_item x) so.keys || (b || false)) same ∙ or_right (list_any (same_item x) so.keys) true refl
    at x full under Greater e = elim (above_or_not last x) [
      | inl over ↦ absurd (next.least x over full (greater_reversed items_total k x e))
      | inr least ↦ ap (λ b. b || list_any (same_item x) (k ∷ [])) (so.holds_all x full least)
    ]

-- what is to stand on an item, of the items that carry something
found_or_not : (who : Who) (rows : List Attachment) (x : Item) (keys : List Item)
    → list_or (lookup (is_at (item_order x)) (map (entry_of who rows) keys)) (stored_on x rows)
    ≡ cond (list_any (same_item x) keys) (retract_on who (stored_on x rows)) (stored_on x rows)
found_or_not who rows x [] = refl
found_or_not who rows x (k ∷ keys) = elim (cases_Bool (same_item x k)) [
  | inl is ↦
      ap (λ b. list_or (cond b (Some (retract_on who (stored_on k rows))) (lookup (is_at (item_order x)) (map (entry_of who rows) keys)))
      (stored_on x rows)) (sym (items_tie x k) ∙ is)
      ∙ ap (retract_on who) (sym (stored_alike k x (items_equiv.symm k x ∙ is) rows))
      ∙ sym (ap (λ b. cond (b || list_any (same_item x) keys) (retract_on who (stored_on x rows)) (stored_on x rows)) is)
  | inr is ↦
      ap (λ b. list_or (cond b (Some (retract_on who (stored_on k rows))) (lookup (is_at (item_order x)) (map (entry_of who rows) keys)))
      (stored_on x rows)) (sym (items_tie x k) ∙ is)
      ∙ found_or_not who rows x keys
      ∙ sym (ap (λ b. cond (b || list_any (same_item x) keys) (retract_on who (stored_on x rows)) (stored_on x rows)) is)
]

full_or_not : (list : List Stored) → (list ≡ []) ⊎ (list ≢ [])
full_or_not [] = inl refl
full_or_not (s ∷ list) = inr (λ e. cc)

-- at the end
module _ (who : Who) (rows : List Attachment) (changes : List ItemChange) (last : Option Item) (before steps : ℕ)
    (so : IsSoFar who rows changes last before steps) (end : NoItem rows last) where
  all_told : (x : Item) → stored_by rows (λ q. lookup (is_at (item_order q)) (map (entry_of who rows) so.keys)) x
      ≡ stored_on x (retract who rows)
  all_told x = found_or_not who rows x so.keys ∙ at ∙ sym (retract_told x who rows)
    where
      at : cond (list_any (same_item x) so.keys) (retract_on who (stored_on x rows)) (stored_on x rows) ≡ retract_on who (stored_on x rows)
      at = elim (full_or_not (stored_on x rows)) [
        | inl none ↦
            (λ i. cond (list_any (same_item x) so.keys) (retract_on who (none i)) (none i)) ∙ same (list_any (same_item x) so.keys)
            ∙ ap (retract_on who) (sym none)
        | inr full ↦
            ap (λ b. cond b (retract_on who (stored_on x rows)) (stored_on x rows))
            (so.holds_all x full (λ over. full (end x over)))
      ]
        where
          same : (b : Bool) → cond b (retract_on who []) [] ≡ retract_on who []
          same true = refl
          same false = refl

  all_sound : IsGraph rows → AreWhole rows → AreSound (map (entry_of who rows) so.keys)
  all_sound graph whole = walk so.keys so.canon
    where
      walk : (ks : List Item) → AllByRecursion IsCanonItem ks → AreSound (map (entry_of who rows) ks)
      walk [] c = tt
      walk (k ∷ ks) c = (
        record { canon = c.0; sound = sound_filter (λ s. not (is_of who s)) (stored_on k rows) (sound_on k rows graph whole) },
        walk ks c.1,
      )

  all_up : IsStrictlySortedBy item_order (keys_of (map (entry_of who rows) so.keys))
  all_up = subst (IsStrictlySortedBy item_order) (sym (keys_are so.keys)) so.up
    where
      keys_are : (ks : List Item) → keys_of (map (entry_of who rows) ks) ≡ ks
      keys_are [] = refl
      keys_are (k ∷ ks) = ap (λ l. k ∷ l) (keys_are ks)

  -- so the changes are those from the rows to what the retraction leaves
  pub they_fit : IsGraph rows → AreWhole rows → Fits rows changes
  they_fit graph whole =
      subst (Fits rows) (sym so.made) (all_fit rows graph whole (map (entry_of who rows) so.keys) (all_sound graph whole) all_up)

  pub they_lead : IsGraph rows → AreWhole rows → IsAfter changes rows (retract who rows)
  they_lead graph whole =
      subst (λ made. IsAfter made rows (retract who rows)) (sym so.made)
      (is_after rows graph whole (retract who rows) (map (entry_of who rows) so.keys) (all_sound graph whole) all_up all_told)

  pub they_are_exact : IsGraph rows → AreWhole rows → AreExact rows (retract who rows) changes
  they_are_exact graph whole =
      subst (AreExact rows (retract who rows)) (sym so.made)
      (are_exact rows graph whole (retract who rows) (map (entry_of who rows) so.keys) (all_sound graph whole) all_up all_told)

  pub they_are_changes : AllByRecursion IsChange changes
  they_are_changes = subst (AllByRecursion IsChange) (sym so.made) (are_changes rows (map (entry_of who rows) so.keys))

-- how many items carry something
remain : (x z : Item) (ys : List Item) → same_item x z ≡ false → list_any (same_item z) ys ≡ true
    → list_any (same_item z) (filter (λ y. not (same_item x y)) ys) ≡ true
remain x z ys differ e =
    any-filter_same (same_item z) (λ y. not (same_item x y)) true
    (λ y t. ap not (told_as z x y (items_equiv.symm y z ∙ t) ∙ differ)) ys ∙ e

one_item_fewer : (x : Item) (ys : List Item) → list_any (same_item x) ys ≡ true
    → length (filter (λ y. not (same_item x y)) ys) + 1 ≤ length ys
one_item_fewer x [] e = cc
one_item_fewer x (y ∷ ys) e = by (same_item x y) refl e (one_item_fewer x ys)
  where
    by : (b : Bool) → same_item x y ≡ b → (b || list_any (same_item x) ys) ≡ true
        → (list_any (same_item x) ys ≡ true → length (filter (λ y. not (same_item x y)) ys) + 1 ≤ length ys)
        → length (cond (not b) (y ∷ filter (λ y. not (same_item x y)) ys) (filter (λ y. not (same_item x y)) ys)) + 1 ≤ length (y ∷ ys)
    by true is e rest = let l = filter_le (λ y. not (same_item x y)) (λ y. true) ys (λ y t. refl) in
        let n = ap length (all_pass ys) in omega (arith, l, n)
    by false is e rest = let l = rest e in omega (arith, l)

no_more_than_all : (xs ys : List Item) → IsStrictlySortedBy item_order xs → AllByRecursion (λ x. list_any (same_item x) ys ≡ true) xs
    → length xs ≤ length ys
unfolding IsStrictlySortedBy
no_more_than_all [] ys up all = omega arith
no_more_than_all (x ∷ xs) ys up all =
    let less = no_more_than_all xs (filter (λ y. not (same_item x y)) ys) up.1 (walk xs up.0 all.1) in
    let one = one_item_fewer x ys all.0 in omega (arith, less, one)
  where
    walk : (zs : List Item) → AllByRecursion (λ y. item_order x y ≡ Less) zs → AllByRecursion (λ z. list_any (same_item z) ys ≡ true) zs
        → AllByRecursion (λ z. list_any (same_item z) (filter (λ y. not (same_item x y)) ys) ≡ true) zs
    walk [] u a = tt
    walk (z ∷ zs) u a = (remain x z ys (items_tie x z ∙ ap is_eq u.0) a.0, walk zs u.1 a.1)

among_items : (k : Item) (rows : List Attachment) → stored_on k rows ≢ [] → list_any (same_item k) (items_of rows) ≡ true
among_items k [] full = absurd (full refl)
among_items k (r ∷ rows) full = elim (cases_Bool (same_item k r.item)) [
  | inl t ↦ ap (λ b. b || list_any (same_item k) (filter (λ x. not (same_item r.item x)) (items_of rows))) t
  | inr t ↦
      let other : same_item r.item k ≡ false = items_equiv.symm r.item k ∙ t in
      ap (λ b. b || list_any (same_item k) (filter (λ x. not (same_item r.item x)) (items_of rows))) t
      ∙ remain r.item k (items_of rows) other (among_items k rows (λ e. full (ap (λ b. map (λ s. s.stored)
      (cond b (r ∷ filter (λ s. same_item s.item k) rows) (filter (λ s. same_item s.item k) rows))) other ∙ e)))
]

pub steps_are : (who : Who) (rows : List Attachment) (changes : List ItemChange) (last : Option Item) (before steps : ℕ)
    → IsSoFar who rows changes last before steps → steps ≤ before + length (items_of rows)
steps_are who rows changes last before steps so =
    let n = no_more_than_all so.keys (items_of rows) so.up
    (all_weaker (λ k. stored_on k rows ≢ []) (λ k. list_any (same_item k) (items_of rows) ≡ true)
    (λ k full. among_items k rows full) so.keys so.carry) in
    omega (arith, n, so.count)

-- the walk ends
abbrev pub is_above : Option Item → Item → Bool
is_above None x = true
is_above (Some a) x = is_lt (item_order a x)

pub falls : (last : Option Item) (k : Item) (rows : List Attachment) → IsAbove last k → stored_on k rows ≢ []
    → length (filter (λ r. is_above (Some k) r.item) rows) < length (filter (λ r. is_above last r.item) rows)
falls last k [] up full = absurd (full refl)
falls last k (r ∷ rows) up full = elim (cases_Bool (same_item r.item k)) [
  | inl t ↦
      let rest = filter_le (λ s. is_above (Some k) s.item) (λ s. is_above last s.item) rows (λ s e. later last up s.item e) in
      let below : is_above (Some k) r.item ≡ false = ap is_lt (same_equal k r.item (items_equiv.symm k r.item ∙ t)) in
      let over : is_above last r.item ≡ true = same_above last up t in
      rw (below, over) (omega (arith, rest))
  | inr t ↦
      let less = falls last k rows up (λ e. full (ap (λ b. map (λ s. s.stored)
      (cond b (r ∷ filter (λ s. same_item s.item k) rows) (filter (λ s. same_item s.item k) rows))) t ∙ e)) in
      by (is_above (Some k) r.item) (is_above last r.item) (λ e. later last up r.item e) less
]
  where
    later : (last : Option Item) → IsAbove last k → (x : Item) → is_lt (item_order k x) ≡ true → is_above last x ≡ true
    later None up x e = refl
    later (Some a) up x e = ap is_lt (items_total.trans a k x up (is_less (item_order k x) e))

    same_above : (last : Option Item) → IsAbove last k → same_item r.item k ≡ true → is_above last r.item ≡ true
    same_above None up t = refl
    same_above (Some a) up t = ap is_lt (alike_right items_total r.item k a (same_equal r.item k t) ∙ up)

    by : (a b : Bool) → (a ≡ true → b ≡ true)
        → length (filter (λ s. is_above (Some k) s.item) rows) < length (filter (λ s. is_above last s.item) rows)
        → length (cond a (r ∷ filter (λ s. is_above (Some k) s.item) rows) (filter (λ s. is_above (Some k) s.item) rows))
        < length (cond b (r ∷ filter (λ s. is_above last s.item) rows) (filter (λ s. is_above last s.item) rows))
    by true true h l = omega (arith, l)
    by true false h l = let bad : false ≡ true = h refl in cc
    by false true h l = omega (arith, l)
    by false false h l = l
