-- A shelf that is empty comes or goes: both sides stay in order, and no link is listed otherwise.
use Rattle.std.proofs.Common.{◌≡◌, ◌≢◌, ℕ, true, false, Option, None, List, [], ◌∷◌, nat_eq, ap, ◌∙◌, sym, subst, inl, inr}
use Rattle.std.proofs.lemmas.Bool.{cases_eq}
use Rattle.std.specs.BTreeMap.{is_at, insert_entry}
use Rattle.std.specs.List.{AllByRecursion, Contains, IsDistinct}
use Rattle.std.specs.Map.{lookup, remove_entry}
use Rattle.ifmap_ident.specs.declared.items.Item.{Item}
use Rattle.ifmap_ident.specs.Items.{item_order}
use Rattle.ifmap_lemmas.specs.Rising.{to_distinct, to_sorted}
use Rattle.ifmap_meta.specs.Keys.{same_key}
use Rattle.ifmap_plans.specs.Lists.{IsList}
use Rattle.ifmap_view.specs.declared.views.LinkSeen.{LinkSeen}
use Rattle.ifmap_view.specs.Attachments.{stored_order}
use Rattle.ifmap_graph.specs.declared.shelves.Shelf.{Shelf}
use Rattle.ifmap_graph.specs.Inside.{IsSide}
use Rattle.ifmap_graph.specs.Joined.{is_not_empty, joined_pair}
use Rattle.ifmap_graph.specs.Linked.{AreListed, link_places}
use Rattle.ifmap_graph.specs.Shelved.{StoredSide, list_at}
use Rattle.ifmap_graph.proofs.Finding.{all_inserted, all_left}
use Rattle.ifmap_graph.proofs.Links.{joins_alike}

pub nothing_is_list : IsList []
nothing_is_list = record { rising = to_sorted stored_order [] tt; keys = to_distinct same_key [] tt }

module _ (side : StoredSide) (look later : ℕ → Option Shelf) (at : ℕ) (before : list_at side (look at) ≡ [])
    (after : list_at side (later at) ≡ [])
    (others : (o : ℕ) → o ≢ at → later o ≡ look o) where
  -- every slot has the list that it had
  pub same_list : (n : ℕ) → list_at side (later n) ≡ list_at side (look n)
  same_list n = elim (cases_eq n at) [
    | inl q ↦ ap (λ m. list_at side (later m)) q ∙ after ∙ sym (ap (λ m. list_at side (look m)) q ∙ before)
    | inr o ↦ ap (list_at side) (others n o)
  ]

  full_other : (n : ℕ) → is_not_empty (list_at side (look n)) ≡ true → n ≢ at
  full_other n f q = let r : false ≡ true = sym (ap (λ m. is_not_empty (list_at side (look m))) q ∙ ap is_not_empty before) ∙ f in cc

  pub listed_same : (links : ℕ → List LinkSeen) → AreListed (λ n. joined_pair (look n)) (λ n. is_not_empty (list_at side (look n))) links
      → AreListed (λ n. joined_pair (later n)) (λ n. is_not_empty (list_at side (later n))) links
  listed_same links old = record {
    only = λ v seen c.
        let p = old.only v seen c
        in let o = full_other seen.at p.1
        in (
          joins_alike (λ n. joined_pair (look n)) (λ n. joined_pair (later n)) seen.at v seen.other (ap joined_pair (others seen.at o)) p.0,
          ap is_not_empty (same_list seen.at) ∙ p.1,
        );
    each = λ v w n e f.
        let g : is_not_empty (list_at side (look n)) ≡ true = sym (ap is_not_empty (same_list n)) ∙ f
        in old.each v w n (joins_alike (λ n. joined_pair (later n)) (λ n. joined_pair (look n)) n v w
        (sym (ap joined_pair (others n (full_other n g)))) e) g;
  }

  lists_same : (es : List (Item × ℕ)) → AllByRecursion (λ e. IsList (list_at side (look e.1))) es → AllByRecursion
      (λ e. IsList (list_at side (later e.1))) es
  lists_same [] a = tt
  lists_same (e ∷ es) a = (subst IsList (sym (same_list e.1)) a.0, lists_same es a.1)

  -- so a side stays one as the entry comes
  pub side_comes : (es new : List (Item × ℕ)) (item : Item) (links : ℕ → List LinkSeen) → lookup (is_at (item_order item)) es ≡ None
      → new ≡ insert_entry item_order es item at → IsSide side look es links → IsSide side later new links
  side_comes es new item links none inserts is = record {
    lists = subst (λ l. AllByRecursion (λ e. IsList (list_at side (later e.1))) l) (sym inserts)
        (all_inserted (λ e. IsList (list_at side (later e.1))) es item at none (lists_same es is.lists)
        (subst IsList (sym after) nothing_is_list));
    listed = listed_same links is.listed;
    once = is.once;
  }

  -- or goes
  pub side_goes : (es new : List (Item × ℕ)) (item : Item) (links : ℕ → List LinkSeen) → new ≡ remove_entry (is_at (item_order item)) es
      → IsSide side look es links → IsSide side later new links
  side_goes es new item links removes is = record {
    lists = subst (λ l. AllByRecursion (λ e. IsList (list_at side (later e.1))) l) (sym removes)
        (all_left (λ e. IsList (list_at side (later e.1))) (is_at (item_order item)) es (lists_same es is.lists));
    listed = listed_same links is.listed;
    once = is.once;
  }

-- links that are the same of each number
pub side_same : (side : StoredSide) (look : ℕ → Option Shelf) (es : List (Item × ℕ)) (links others : ℕ → List LinkSeen)
    → ((v : ℕ) → others v ≡ links v)
    → IsSide side look es links → IsSide side look es others
side_same side look es links others same is = record {
  lists = is.lists;
  listed = record {
    only = λ v seen c. is.listed.only v seen (subst (λ l. Contains l seen) (same v) c);
    each = λ v w at e f. subst (λ l. Contains l (record { other = w; at = at })) (sym (same v)) (is.listed.each v w at e f);
  };
  once = λ v. subst (λ l. IsDistinct nat_eq (link_places l)) (sym (same v)) (is.once v);
}
