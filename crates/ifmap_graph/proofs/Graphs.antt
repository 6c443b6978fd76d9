-- The attachments of shelves whose lists rise, each with its keys apart, are a graph.
use Rattle.std.proofs.Common.{◌≡◌, ◌&&◌, false, List, [], ◌∷◌, map, ap, ◌∙◌}
use Rattle.std.specs.List.{AllByRecursion}
use Rattle.std.specs.Ordering.{is_eq, ordering_then}
use Rattle.std.specs.declared.cmp.Ordering.TheVariants.{Less}
use Rattle.std.proofs.lemmas.Cmp.{tied_itself}
use Rattle.std.proofs.Math.Bool.{and-false}
use Rattle.ifmap_lemmas.specs.Members.{both_all, map_of_all, all_any}
use Rattle.ifmap_ident.specs.declared.items.Item.{Item}
use Rattle.ifmap_ident.specs.Items.{IsCanonItem, item_order, items_tie, same_item}
use Rattle.ifmap_meta.specs.declared.stored.Stored.{Stored}
use Rattle.ifmap_meta.specs.Keys.{same_key}
use Rattle.ifmap_plans.specs.Lists.{IsList}
use Rattle.ifmap_view.specs.declared.attachments.Attachment.{Attachment}
use Rattle.ifmap_view.specs.Attachments.{IsGraph, attachment_order, of_one_key, row_on, stored_order}
use Rattle.ifmap_graph.specs.Shelved.{ItemsRise, rows_by}
use Rattle.ifmap_graph.proofs.Finding.{first_rises}
use Rattle.ifmap_lemmas.specs.Pairwise.{Pairwise, pairwise_onto, pairwise_both}
use Rattle.ifmap_ident.specs.SameLaws.{items_total}
use Rattle.ifmap_lemmas.specs.Filters.{all_weaker}
use Rattle.ifmap_lemmas.specs.Rising.{from_distinct, from_sorted, to_distinct, to_sorted}

module _ {X : Type 0} (list_of : X → List Stored) where
  -- what holds of all that could stand on the entries' items holds of all rows
  all_rows : (Q : Attachment → Type 0) (P : Item → Type 0) → ((i : Item) (x : Stored) → P i → Q (row_on i x)) → (es : List (Item × X))
      → AllByRecursion P (map (λ e. e.0) es) → AllByRecursion Q (rows_by list_of es)
  all_rows Q P f [] a = tt
  all_rows Q P f (e ∷ es) a =
      both_all Q (map (row_on e.0) (list_of e.1)) (rows_by list_of es)
      (map_of_all Q (row_on e.0) (list_of e.1) (all_any (λ x. Q (row_on e.0 x)) (list_of e.1) (λ x. f e.0 x a.0)))
      (all_rows Q P f es a.1)

  -- what holds within each list, and across items that rise, holds of all rows
  rows_pairwise : (P : Attachment → Attachment → Type 0) → ((i k : Item) (x y : Stored) → item_order i k ≡ Less → P (row_on i x)
      (row_on k y))
      → (es : List (Item × X)) → ItemsRise es → AllByRecursion (λ e. Pairwise P (map (row_on e.0) (list_of e.1))) es
      → Pairwise P (rows_by list_of es)
  rows_pairwise P f [] r a = tt
  rows_pairwise P f (e ∷ es) r a =
      let p = first_rises e es r
      in pairwise_both P (map (row_on e.0) (list_of e.1)) (rows_by list_of es) a.0 (rows_pairwise P f es p.1 a.1)
      (map_of_all (λ x. AllByRecursion (P x) (rows_by list_of es)) (row_on e.0) (list_of e.1)
      (all_any (λ x. AllByRecursion (P (row_on e.0 x)) (rows_by list_of es)) (list_of e.1)
      (λ x. all_rows (P (row_on e.0 x)) (λ k. item_order e.0 k ≡ Less) (λ k y l. f e.0 k x y l) es p.0)))

  pub graph_is : (es : List (Item × X)) → ItemsRise es → AllByRecursion (λ e. IsCanonItem e.0) es → AllByRecursion
      (λ e. IsList (list_of e.1))
      es
      → IsGraph (rows_by list_of es)
  graph_is es r c l = record {
    items = all_rows (λ x. IsCanonItem x.item) IsCanonItem (λ i x p. p) es (map_of_all IsCanonItem (λ e. e.0) es c);
    rising = to_sorted attachment_order (rows_by list_of es)
        (rows_pairwise (λ x y. attachment_order x y ≡ Less) (λ i k x y e. ap (λ o. ordering_then o (stored_order x y)) e) es r
        (all_weaker (λ e. IsList (list_of e.1)) (λ e. Pairwise (λ x y. attachment_order x y ≡ Less) (map (row_on e.0) (list_of e.1)))
        (λ e p. pairwise_onto (λ x y. stored_order x y ≡ Less) (λ x y. attachment_order x y ≡ Less) (row_on e.0) (list_of e.1)
        (λ x y q. ap (λ o. ordering_then o (stored_order x y)) (tied_itself items_total e.0) ∙ q)
        (from_sorted stored_order (list_of e.1) p.rising)) es l));
    keys = to_distinct of_one_key (rows_by list_of es)
        (rows_pairwise (λ x y. of_one_key x y ≡ false) (λ i k x y e. ap (λ b. b && same_key x y) (items_tie i k ∙ ap is_eq e)) es r
        (all_weaker (λ e. IsList (list_of e.1)) (λ e. Pairwise (λ x y. of_one_key x y ≡ false) (map (row_on e.0) (list_of e.1)))
        (λ e p. pairwise_onto (λ x y. same_key x y ≡ false) (λ x y. of_one_key x y ≡ false) (row_on e.0) (list_of e.1)
        (λ x y q. ap (λ b. same_item e.0 e.0 && b) q ∙ and-false (same_item e.0 e.0))
        (from_distinct same_key (list_of e.1) p.keys)) es l));
  }
