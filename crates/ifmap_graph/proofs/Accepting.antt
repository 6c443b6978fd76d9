-- The items of a change, one after another: their drafts are accepted, or taken back.
-- Plan: (1) what is said of each item of a list, by places and by members; (2) an item is another than those after it; (3) the
-- draft of one item is accepted, and what is stored on the others stays (`stored_at`); (4) item after item; (5) the same
-- where drafts are taken back.
use Rattle.std.proofs.Common.{◌≡◌, ℕ, ◌+◌, ◌<◌, ◌≤◌, false, IsSome, List, [], ◌∷◌, ◌++◌, map, length, get_or, set, take, drop, refl, ap, ◌∙◌, sym, subst, arith, append_assoc}
use Rattle.std.proofs.lemmas.List.{append-nil, drop_all, get_or-map, length-map, length-set, take_all, take_more_set}
use Rattle.std.specs.List.{AllByRecursion, IsDistinct}
use Rattle.std.proofs.lemmas.Map.Keys.{IsDistinct-head, IsDistinct-tail}
use Rattle.ifmap_ident.specs.declared.items.Item.{Item}
use Rattle.ifmap_ident.specs.Items.{same_item}
use Rattle.ifmap_meta.specs.declared.stored.Stored.{Stored}
use Rattle.ifmap_view.specs.Rows.{stored_on}
use Rattle.ifmap_graph.specs.declared.shelves.Shelves.{Shelves}
use Rattle.ifmap_graph.specs.Drafted.{AreBare, DraftsWithin, ends_at}
use Rattle.ifmap_graph.specs.Shelved.{AreShelved, HasDraft, slot_of_item, rows_on_side}
use Rattle.ifmap_graph.specs.Sides.{list_next, list_now}
use Rattle.ifmap_graph.specs.Waits.{waits_on}
use Rattle.ifmap_graph.proofs.Bare.{none_left, one_gone, sides_same}
use Rattle.ifmap_ident.specs.SameLaws.{ties, items_equiv}
use Rattle.ifmap_lemmas.specs.Filters.{all_weaker}
use Rattle.ifmap_lemmas.specs.Members.{all_two}
use Rattle.ifmap_lemmas.specs.Options.{is_some_of}
use Rattle.ifmap_lemmas.specs.Stepping.{here_mapped}
use Rattle.ifmap_plans.specs.declared.plans.ItemChange.{ItemChange}
use Rattle.ifmap_graph.specs.Out.{items_changed}

map_same : {Y : Type 0} (f g : Item → Y) (xs : List Item) → AllByRecursion (λ x. f x ≡ g x) xs → map f xs ≡ map g xs
map_same f g [] a = refl
map_same f g (x ∷ xs) a = ap (λ y. y ∷ map f xs) a.0 ∙ ap (λ l. g x ∷ l) (map_same f g xs a.1)

-- as many items as changes, and the item of the change at a place
pub as_many : (changes : List ItemChange) → length (items_changed changes) ≡ length changes
as_many changes = length-map changes (λ (c : ItemChange). c.item)

pub item_at : (changes : List ItemChange) (i : ℕ) (c : ItemChange) → i < length changes → c ≡ get_or changes i c
    → (i < length (items_changed changes)) × (get_or (items_changed changes) i c.item ≡ c.item)
item_at changes i c h is = (
  omega (arith, h, as_many changes),
  get_or-map (λ (x : ItemChange). x.item) changes i c c.item h ∙ ap (λ (x : ItemChange). x.item) (sym is),
)

pub here_changed : (changes : List ItemChange) (i : ℕ) (d : ItemChange) → i < length changes
    → drop i (items_changed changes) ≡ (get_or changes i d).item ∷ drop (i + 1) (items_changed changes)
here_changed = here_mapped (λ (c : ItemChange). c.item)

-- an item is another than those after it, which differ among themselves
pub apart_after : (items : List Item) (i : ℕ) (x : Item) → drop i items ≡ x ∷ drop (i + 1) items → IsDistinct same_item (drop i items)
    → AllByRecursion (λ y. same_item x y ≡ false) (drop (i + 1) items) × IsDistinct same_item (drop (i + 1) items)
apart_after items i x here apart =
    let d : IsDistinct same_item (x ∷ drop (i + 1) items) = subst (λ l. IsDistinct same_item l) here apart
    in (IsDistinct-head same_item x (drop (i + 1) items) d, IsDistinct-tail same_item x (drop (i + 1) items) d)

-- what is stored on an item
abbrev pub stored_at : Shelves → Item → List Stored
stored_at s x = stored_on x (rows_on_side list_now s)

module _ (items : List Item) (first : Shelves) where
  -- so many drafts are accepted, and the lists that were there stand in the places of those that were given
  pub record Accepting (lists : List (List Stored)) (shelves : Shelves) (i : ℕ) : Type 0 where
    pub shelved : AreShelved shelves
    pub same : rows_on_side list_next shelves ≡ rows_on_side list_next first
    pub drafted : AllByRecursion (HasDraft shelves) (drop i items)
    pub within : DraftsWithin (drop i items) shelves
    pub apart : IsDistinct same_item (drop i items)
    pub long : length lists ≡ length items
    pub made : take i lists ++ map (stored_at shelves) (drop i items) ≡ map (stored_at first) items
    pub ends : (at : ℕ) → ends_at shelves at ≡ ends_at first at
    pub waits : (x : Item) → waits_on shelves x ≡ waits_on first x
    pub places : shelves.places ≡ first.places

  pub begins_accepting : (lists : List (List Stored)) → AreShelved first → AllByRecursion (HasDraft first) items → DraftsWithin items first
      → IsDistinct same_item items → length lists ≡ length items → Accepting lists first 0
  begins_accepting lists shelved drafted within apart long = record {
    shelved = shelved;
    same = refl;
    drafted = drafted;
    within = within;
    apart = apart;
    long = long;
    made = refl;
    ends = λ at. refl;
    waits = λ x. refl;
    places = refl;
  }

  module _ (lists : List (List Stored)) (shelves : Shelves) (i : ℕ) (item : Item) (h : i < length items)
      (here : drop i items ≡ item ∷ drop (i + 1) items) (g : Accepting lists shelves i) where
    now_drafted : AllByRecursion (HasDraft shelves) (item ∷ drop (i + 1) items)
    now_drafted = subst (AllByRecursion (HasDraft shelves)) here g.drafted

    pub drafted_at : HasDraft shelves item
    drafted_at = now_drafted.0

    module _ (lists' : List (List Stored)) (shelves' : Shelves) (shelved : AreShelved shelves')
        (same : rows_on_side list_next shelves' ≡ rows_on_side list_next shelves)
        (drafts : (x : Item) → HasDraft shelves' x → HasDraft shelves x × (same_item x item ≡ false))
        (others : (x : Item) → same_item x item ≡ false
        → (HasDraft shelves x → HasDraft shelves' x)
        × (stored_on x (rows_on_side list_now shelves') ≡ stored_on x (rows_on_side list_now shelves)))
        (ends : (at : ℕ) → ends_at shelves' at ≡ ends_at shelves at) (waits : (x : Item) → waits_on shelves' x ≡ waits_on shelves x)
        (places : shelves'.places ≡ shelves.places) (wrote : lists' ≡ set lists i (stored_at shelves item)) where
      within : i < length lists
      within = omega (arith, h, g.long)

      front : take (i + 1) lists' ≡ take i lists ++ stored_at shelves item ∷ []
      front = ap (λ l. take (i + 1) l) wrote ∙ take_more_set lists i _ within

      rest : map (stored_at shelves') (drop (i + 1) items) ≡ map (stored_at shelves) (drop (i + 1) items)
      rest =
          map_same (stored_at shelves') (stored_at shelves) (drop (i + 1) items)
          (all_weaker (λ y. same_item item y ≡ false) (λ x. stored_at shelves' x ≡ stored_at shelves x)
          (λ x f. (others x (items_equiv.symm x item ∙ f)).1) (drop (i + 1) items) (apart_after items i item here g.apart).0)

      pub accepts_on : Accepting lists' shelves' (i + 1)
      accepts_on = record {
        shelved = shelved;
        same = same ∙ g.same;
        drafted = all_two (λ y. same_item item y ≡ false) (HasDraft shelves) (HasDraft shelves')
            (λ x f. (others x (items_equiv.symm x item ∙ f)).0) (drop (i + 1) items) (apart_after items i item here g.apart).0
            now_drafted.1;
        within = one_gone shelves shelves' item (drop (i + 1) items) (subst (λ l. DraftsWithin l shelves) here g.within)
            (λ x k. let p = drafts x k in (p.0, ties item x ∙ p.1));
        apart = (apart_after items i item here g.apart).1;
        long = ap length wrote ∙ length-set lists i (stored_at shelves item) ∙ g.long;
        made = ap (λ l. l ++ map (stored_at shelves') (drop (i + 1) items)) front
            ∙ append_assoc (take i lists) (stored_at shelves item ∷ []) (map (stored_at shelves') (drop (i + 1) items))
            ∙ ap (λ l. take i lists ++ stored_at shelves item ∷ l) rest ∙ sym (ap (λ l. take i lists ++ map (stored_at shelves) l) here)
            ∙ g.made;
        ends = λ at. ends at ∙ g.ends at;
        waits = λ x. waits x ∙ g.waits x;
        places = places ∙ g.places;
      }

  module _ (lists : List (List Stored)) (shelves : Shelves) (i : ℕ) (e : length items ≤ i) (g : Accepting lists shelves i) where
    none : drop i items ≡ []
    none = drop_all i items e

    pub accepted_bare : AreBare shelves
    accepted_bare = none_left shelves g.shelved (subst (λ l. DraftsWithin l shelves) none g.within)

    pub accepted_now : rows_on_side list_now shelves ≡ rows_on_side list_next first
    accepted_now = sym (sides_same shelves accepted_bare) ∙ g.same

    pub accepted_lists : lists ≡ map (stored_at first) items
    accepted_lists =
        sym (append-nil lists) ∙ sym (ap (λ l. l ++ []) (take_all i lists (omega (arith, e, g.long))))
        ∙ sym (ap (λ l. take i lists ++ map (stored_at shelves) l) none) ∙ g.made

  -- what has a draft has a shelf
  pub drafted_there : AllByRecursion (HasDraft first) items → AllByRecursion (λ x. IsSome (slot_of_item first x)) items
  drafted_there drafted =
      all_weaker (HasDraft first) (λ x. IsSome (slot_of_item first x)) (λ x k. is_some_of (slot_of_item first x) k.0 k.2) items drafted

  -- so many drafts are taken back
  pub record Discarding (shelves : Shelves) (i : ℕ) : Type 0 where
    pub shelved : AreShelved shelves
    pub same : rows_on_side list_now shelves ≡ rows_on_side list_now first
    pub there : AllByRecursion (λ x. IsSome (slot_of_item first x)) (drop i items)
    pub within : DraftsWithin (drop i items) shelves
    pub ends : (at : ℕ) → ends_at shelves at ≡ ends_at first at
    pub waits : (x : Item) → waits_on shelves x ≡ waits_on first x
    pub places : shelves.places ≡ first.places

  pub begins_discarding : AreShelved first → AllByRecursion (λ x. IsSome (slot_of_item first x)) items → DraftsWithin items first
      → Discarding first 0
  begins_discarding shelved there within = record {
    shelved = shelved;
    same = refl;
    there = there;
    within = within;
    ends = λ at. refl;
    waits = λ x. refl;
    places = refl;
  }

  module _ (shelves : Shelves) (i : ℕ) (item : Item) (h : i < length items) (here : drop i items ≡ item ∷ drop (i + 1) items)
      (g : Discarding shelves i) where
    now_there : AllByRecursion (λ x. IsSome (slot_of_item first x)) (item ∷ drop (i + 1) items)
    now_there = subst (AllByRecursion (λ x. IsSome (slot_of_item first x))) here g.there

    pub there_at : IsSome (slot_of_item shelves item)
    there_at = subst (λ p. IsSome (slot_of_item (record { places = p; slots = shelves.slots }) item)) (sym g.places) now_there.0

    pub discards_on : (shelves' : Shelves) → AreShelved shelves' → rows_on_side list_now shelves' ≡ rows_on_side list_now shelves
        → ((x : Item) → HasDraft shelves' x → HasDraft shelves x × (same_item x item ≡ false))
        → ((at : ℕ) → ends_at shelves' at ≡ ends_at shelves at) → ((x : Item) → waits_on shelves' x ≡ waits_on shelves x)
        → shelves'.places ≡ shelves.places
        → Discarding shelves' (i + 1)
    discards_on shelves' shelved same drafts ends waits places = record {
      shelved = shelved;
      same = same ∙ g.same;
      there = now_there.1;
      within = one_gone shelves shelves' item (drop (i + 1) items) (subst (λ l. DraftsWithin l shelves) here g.within)
          (λ x k. let p = drafts x k in (p.0, ties item x ∙ p.1));
      ends = λ at. ends at ∙ g.ends at;
      waits = λ x. waits x ∙ g.waits x;
      places = places ∙ g.places;
    }

  module _ (shelves : Shelves) (i : ℕ) (e : length items ≤ i) (g : Discarding shelves i) where
    pub discarded_bare : AreBare shelves
    discarded_bare = none_left shelves g.shelved (subst (λ l. DraftsWithin l shelves) (drop_all i items e) g.within)

    pub discarded_next : rows_on_side list_next shelves ≡ rows_on_side list_now first
    discarded_next = sides_same shelves discarded_bare ∙ g.same
