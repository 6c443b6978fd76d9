-- The items of a change are waited for, one after another.
use Rattle.std.proofs.Common.{◌≡◌, ℕ, ◌+◌, ◌-◌, ◌^◌, ◌<◌, ◌≤◌, false, Option, IsSome, List, [], ◌∷◌, ◌++◌, length, take, drop, refl, ap, ◌∙◌, sym, subst, add-one, get_or, arith}
use Rattle.std.proofs.lemmas.List.{take_all, drop_more}
use Rattle.std.proofs.Math.Seq.{take-suc}
use Rattle.std.specs.BTreeMap.{is_at}
use Rattle.std.specs.List.{AllByRecursion, IsDistinct}
use Rattle.std.specs.Map.{lookup}
use Rattle.ifmap_ident.specs.declared.items.Item.{Item}
use Rattle.ifmap_ident.specs.Items.{item_order, items_tie, same_item}
use Rattle.ifmap_graph.specs.declared.shelves.Shelves.{Shelves}
use Rattle.ifmap_graph.specs.Drafted.{ends_at}
use Rattle.ifmap_graph.specs.Shelved.{AreShelved, HasDraft, slot_of_item, rows_on_side}
use Rattle.ifmap_graph.specs.Sides.{list_next, list_now}
use Rattle.ifmap_graph.specs.Waits.{WaitsFor, waits_on}
use Rattle.ifmap_graph.proofs.Waited.{times_append}
use Rattle.ifmap_lemmas.specs.Members.{all_last}
use Rattle.ifmap_graph.proofs.Accepting.{apart_after}

-- so often at most, that once more can be counted
abbrev pub Few : Shelves → Item → Type 0
Few s x = waits_on s x < 2 ^ 64 - 1

module _ (items : List Item) (first : Shelves) where
  pub record Waiting (s : Shelves) (i : ℕ) : Type 0 where
    pub shelved : AreShelved s
    pub same : rows_on_side list_now s ≡ rows_on_side list_now first
    pub other : rows_on_side list_next s ≡ rows_on_side list_next first
    pub waits : WaitsFor (take i items) first s
    pub there : AllByRecursion (λ x. IsSome (slot_of_item first x)) (drop i items)
    pub few : AllByRecursion (Few s) (drop i items)
    pub apart : IsDistinct same_item (drop i items)
    pub drafts : (x : Item) → HasDraft s x → HasDraft first x
    pub kept : (x : Item) → HasDraft first x → HasDraft s x
    pub ends : (at : ℕ) → ends_at s at ≡ ends_at first at
    pub places : s.places ≡ first.places

  pub begins_waiting : AreShelved first → AllByRecursion (λ x. IsSome (slot_of_item first x)) items → AllByRecursion (Few first) items
      → IsDistinct same_item items
      → Waiting first 0
  begins_waiting shelved there few apart = record {
    shelved = shelved;
    same = refl;
    other = refl;
    waits = λ x. omega arith;
    there = there;
    few = few;
    apart = apart;
    drafts = λ x d. d;
    kept = λ x d. d;
    ends = λ at. refl;
    places = refl;
  }

  module _ (s : Shelves) (i : ℕ) (x : Item) (h : i < length items) (is : get_or items i x ≡ x) (g : Waiting s i) where
    here : drop i items ≡ x ∷ drop (i + 1) items
    here = drop_more items i x h ∙ ap (λ y. y ∷ drop (i + 1) items) is

    pub has_place : IsSome (slot_of_item s x)
    has_place =
        subst (λ (o : Option ℕ). IsSome o) (sym (ap (λ p. lookup (is_at (item_order x)) p.entries) g.places))
        (subst (AllByRecursion (λ x. IsSome (slot_of_item first x))) here g.there).0

    pub is_few : Few s x
    is_few = (subst (AllByRecursion (Few s)) here g.few).0

    module _ (t : Shelves) (shelved : AreShelved t) (same : rows_on_side list_now t ≡ rows_on_side list_now s)
        (other : rows_on_side list_next t ≡ rows_on_side list_next s)
        (waits : WaitsFor (x ∷ []) s t)
        (drafts : (y : Item) → HasDraft t y → HasDraft s y) (kept : (y : Item) → HasDraft s y → HasDraft t y)
        (ends : (at : ℕ) → ends_at t at ≡ ends_at s at) (places : t.places ≡ s.places) where
      others : (y : Item) → is_at (item_order x) y ≡ false → waits_on t y ≡ waits_on s y
      others y f = let w = rw f at (waits y) in omega (arith, w)

      still_few : (ys : List Item) → AllByRecursion (λ y. same_item x y ≡ false) ys → AllByRecursion (Few s) ys → AllByRecursion (Few t) ys
      still_few [] a b = tt
      still_few (y ∷ ys) a b = (subst (λ (n : ℕ). n < 2 ^ 64 - 1) (sym (others y (sym (items_tie x y) ∙ a.0))) b.0, still_few ys a.1 b.1)

      pub waits_on_more : Waiting t (i + 1)
      waits_on_more = record {
        shelved = shelved;
        same = same ∙ g.same;
        other = other ∙ g.other;
        waits =
            subst (λ l. WaitsFor l first t)
            (ap (λ y. take i items ++ y ∷ []) (sym is) ∙ sym (take-suc items i x h) ∙ ap (λ n. take n items) (sym (add-one i)))
            (λ y. omega (arith, waits y, g.waits y, times_append (take i items) (x ∷ []) y));
        there = (subst (AllByRecursion (λ x. IsSome (slot_of_item first x))) here g.there).1;
        few = still_few (drop (i + 1) items) (apart_after items i x here g.apart).0 (subst (AllByRecursion (Few s)) here g.few).1;
        apart = (apart_after items i x here g.apart).1;
        drafts = λ y d. g.drafts y (drafts y d);
        kept = λ y d. kept y (g.kept y d);
        ends = λ at. ends at ∙ g.ends at;
        places = places ∙ g.places;
      }

  pub waited_all : (s : Shelves) (i : ℕ) → length items ≤ i → Waiting s i → WaitsFor items first s
  waited_all s i h g = subst (λ l. WaitsFor l first s) (take_all i items h) g.waits

pub few_more : (s : Shelves) (items : List Item) (i : ℕ) (x : Item) → i < length items → get_or items i x ≡ x
    → AllByRecursion (Few s) (take i items) → Few s x
    → AllByRecursion (Few s) (take (i + 1) items)
few_more s items i x h is a few =
    subst (AllByRecursion (Few s)) (ap (λ y. take i items ++ y ∷ []) (sym is) ∙ sym (take-suc items i x h)
    ∙ ap (λ n. take n items) (sym (add-one i)))
    (all_last (Few s) (take i items) x a few)

pub few_all : (s : Shelves) (items : List Item) (i : ℕ) → length items ≤ i → AllByRecursion (Few s) (take i items)
    → AllByRecursion (Few s) items
few_all s items i h a = subst (AllByRecursion (Few s)) (take_all i items h) a
