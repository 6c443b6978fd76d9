-- A change that is out, as the shelves have it and as contracts see it.
use Rattle.std.proofs.Common.{◌≡◌, ℕ, Option, Some, None, List, [], ◌∷◌, option_map, refl, ap, ◌∙◌, sym}
use Rattle.std.proofs.lemmas.Option.{same_Some, none-some}
use Rattle.std.specs.BTreeMap.{is_at}
use Rattle.std.specs.List.{AllByRecursion, IsDistinct}
use Rattle.std.specs.Map.{lookup}
use Rattle.std.specs.declared.cmp.Ordering.TheVariants.{Equal}
use Rattle.slab.specs.Slab.{get}
use Rattle.ifmap_lemmas.specs.Having.{Has}
use Rattle.ifmap_ident.specs.declared.items.Item.{Item}
use Rattle.ifmap_ident.specs.Items.{item_order, same_item}
use Rattle.ifmap_graph.specs.declared.shelves.Shelves.{Shelves}
use Rattle.ifmap_graph.specs.Drafted.{AreOut}
use Rattle.ifmap_graph.specs.Inside.{shown_shelves}
use Rattle.ifmap_graph.specs.Out.{IsDrafted}
use Rattle.ifmap_graph.specs.Shelved.{HasDraft}
use Rattle.ifmap_graph.proofs.Insides.{lookup_shown}

module _ (s : Shelves) where
  pub from_shown : (x : Item) → IsDrafted (shown_shelves (get s.slots) s.places.entries) x → HasDraft s x
  from_shown x d = by (lookup (is_at (item_order x)) s.places.entries) refl
      (sym (lookup_shown (get s.slots) (is_at (item_order x)) s.places.entries) ∙ d.1)
    where
      by : (o : Option ℕ) → lookup (is_at (item_order x)) s.places.entries ≡ o → option_map (get s.slots) o ≡ Some (Some d.0) → HasDraft s x
      by None e q = absurd (none-some _ q)
      by (Some at) e q = (at, d.0, e, same_Some _ _ q, d.2)

  pub to_shown : (x : Item) → HasDraft s x → IsDrafted (shown_shelves (get s.slots) s.places.entries) x
  to_shown x d =
      (d.1, lookup_shown (get s.slots) (is_at (item_order x)) s.places.entries ∙ ap (option_map (get s.slots)) d.2 ∙ ap Some d.3, d.4)

  all_from : (items : List Item) → AllByRecursion (IsDrafted (shown_shelves (get s.slots) s.places.entries)) items
      → AllByRecursion (HasDraft s)
      items
  all_from [] a = tt
  all_from (x ∷ xs) a = (from_shown x a.0, all_from xs a.1)

  pub are_out : (items : List Item) → AllByRecursion (IsDrafted (shown_shelves (get s.slots) s.places.entries)) items
      → ((x : Item) → IsDrafted (shown_shelves (get s.slots) s.places.entries) x → (i : Item) × Has items i × (item_order i x ≡ Equal))
      → IsDistinct same_item items → AreOut items s
  are_out items drafted within apart = record {
    drafted = all_from items drafted;
    within = λ x d. within x (to_shown x d);
    apart = apart;
  }
