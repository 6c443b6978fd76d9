-- Lists stand on items again, one after another.
use Rattle.std.proofs.Common.{◌≡◌, ℕ, ◌+◌, ◌<◌, ◌≤◌, Some, IsSome, List, ◌∷◌, cond, length, get_or, set, drop, refl, ap, ◌∙◌, sym, subst, arith, add-one, drop-cons}
use Rattle.std.proofs.lemmas.List.{drop-set-lt, drop_all, length-set}
use Rattle.std.specs.BTreeMap.{is_at}
use Rattle.std.specs.List.{AllByRecursion}
use Rattle.slab.specs.Slab.{get}
use Rattle.ifmap_ident.specs.declared.items.Item.{Item}
use Rattle.ifmap_ident.specs.Items.{item_order}
use Rattle.ifmap_meta.specs.declared.stored.Stored.{Stored}
use Rattle.ifmap_graph.specs.declared.shelves.Shelves.{Shelves}
use Rattle.ifmap_graph.specs.Back.{stand_each}
use Rattle.ifmap_graph.specs.Drafted.{AreBare, NoDraft, ends_at}
use Rattle.ifmap_graph.specs.Shelved.{AreShelved, HasNoDraft, slot_of_item}
use Rattle.ifmap_graph.specs.Waits.{waits_on}
use Rattle.ifmap_graph.proofs.Accepting.{stored_at}
use Rattle.ifmap_graph.proofs.Finding.{live_at}
use Rattle.ifmap_graph.proofs.Writes.{slot_live}
use Rattle.ifmap_lemmas.specs.Options.{some_is}

-- an item that has a shelf has one without a draft, where none has one
pub no_draft_on : (s : Shelves) (x : Item) → AreShelved s → AreBare s → IsSome (slot_of_item s x) → HasNoDraft s x
no_draft_on s x is bare there =
    let p = some_is (slot_of_item s x) there
    in let q = some_is (get s.slots p.0) (slot_live (get s.slots) s.places.entries x p.0 is p.1)
    in let none : NoDraft (Some q.0) = subst NoDraft q.1
    (live_at (λ at. NoDraft (get s.slots at)) (is_at (item_order x)) s.places.entries p.0 bare p.1)
    in (p.0, q.0, p.1, q.1, none)

module _ (items : List Item) (given : List (List Stored)) (first : Shelves) where
  -- so many lists stand again; what is left makes the same of what is stored then as all make of what was
  pub record Restoring (lists : List (List Stored)) (shelves : Shelves) (i : ℕ) : Type 0 where
    pub shelved : AreShelved shelves
    pub bare : AreBare shelves
    pub there : AllByRecursion (λ x. IsSome (slot_of_item first x)) (drop i items)
    pub long : length lists ≡ length items
    pub left : (x : Item) → stand_each (drop i items) (drop i lists) x (stored_at shelves x) ≡ stand_each items given x (stored_at first x)
    pub ends : (at : ℕ) → ends_at shelves at ≡ ends_at first at
    pub waits : (x : Item) → waits_on shelves x ≡ waits_on first x
    pub places : shelves.places ≡ first.places

  pub begins_restoring : AreShelved first → AreBare first → AllByRecursion (λ x. IsSome (slot_of_item first x)) items
      → length given ≡ length items
      → Restoring given first 0
  begins_restoring shelved bare there long = record {
    shelved = shelved;
    bare = bare;
    there = there;
    long = long;
    left = λ x. refl;
    ends = λ at. refl;
    waits = λ x. refl;
    places = refl;
  }

  module _ (lists : List (List Stored)) (shelves : Shelves) (i : ℕ) (item : Item) (h : i < length items)
      (here : drop i items ≡ item ∷ drop (i + 1) items) (g : Restoring lists shelves i) where
    now_there : AllByRecursion (λ x. IsSome (slot_of_item first x)) (item ∷ drop (i + 1) items)
    now_there = subst (AllByRecursion (λ x. IsSome (slot_of_item first x))) here g.there

    pub shelf_there : IsSome (slot_of_item shelves item)
    shelf_there = subst (λ p. IsSome (slot_of_item (record { places = p; slots = shelves.slots }) item)) (sym g.places) now_there.0

    list_here : (d : List Stored) → drop i lists ≡ get_or lists i d ∷ drop (i + 1) lists
    list_here d = drop-cons lists i d (omega (arith, h, g.long)) ∙ ap (λ n. get_or lists i d ∷ drop n lists) (sym (add-one i))

    pub restores_on : (lists' : List (List Stored)) (shelves' : Shelves) (d was : List Stored) → AreShelved shelves' → AreBare shelves'
        → ((x : Item) → stored_at shelves' x ≡ cond (is_at (item_order item) x) (get_or lists i d) (stored_at shelves x))
        → lists' ≡ set lists i was
        → ((at : ℕ) → ends_at shelves' at ≡ ends_at shelves at) → ((x : Item) → waits_on shelves' x ≡ waits_on shelves x)
        → shelves'.places ≡ shelves.places
        → Restoring lists' shelves' (i + 1)
    restores_on lists' shelves' d was shelved bare stands wrote ends waits places = record {
      shelved = shelved;
      bare = bare;
      there = now_there.1;
      long = ap length wrote ∙ length-set lists i was ∙ g.long;
      left = λ x.
          ap (λ l. stand_each (drop (i + 1) items) l x (stored_at shelves' x))
          (ap (λ l. drop (i + 1) l) wrote ∙ drop-set-lt (i + 1) lists i was (omega arith))
          ∙ ap (stand_each (drop (i + 1) items) (drop (i + 1) lists) x) (stands x)
          ∙ sym (ap (λ l. stand_each (item ∷ drop (i + 1) items) l x (stored_at shelves x)) (list_here d))
          ∙ sym (ap (λ l. stand_each l (drop i lists) x (stored_at shelves x)) here) ∙ g.left x;
      ends = λ at. ends at ∙ g.ends at;
      waits = λ x. waits x ∙ g.waits x;
      places = places ∙ g.places;
    }

  pub all_restored : (lists : List (List Stored)) (shelves : Shelves) (i : ℕ) → length items ≤ i → Restoring lists shelves i
      → (x : Item) → stored_at shelves x ≡ stand_each items given x (stored_at first x)
  all_restored lists shelves i e g x = sym (ap (λ l. stand_each l (drop i lists) x (stored_at shelves x)) (drop_all i items e)) ∙ g.left x
