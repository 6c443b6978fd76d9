-- What a graph has on an item is a list: it rises, and its keys are apart.
use Rattle.std.proofs.Common.{◌≡◌, ◌∙◌, sym, ap, true, false, ◌&&◌, List, [], ◌∷◌, inl, inr}
use Rattle.std.proofs.lemmas.Bool.{cases_Bool}
use Rattle.std.specs.List.{AllByRecursion, IsDistinct}
use Rattle.std.specs.List.Sorted.{IsStrictlySortedBy}
use Rattle.std.specs.Ordering.{ordering_then}
use Rattle.std.specs.declared.cmp.Ordering.TheVariants.{Less}
use Rattle.ifmap_ident.specs.declared.items.Item.{Item}
use Rattle.ifmap_ident.specs.Items.{same_item}
use Rattle.ifmap_ident.specs.SameLaws.{same_equal, told_as}
use Rattle.ifmap_meta.specs.declared.stored.Stored.{Stored}
use Rattle.ifmap_meta.specs.Keys.{same_key}
use Rattle.ifmap_plans.specs.Lists.{IsList}
use Rattle.ifmap_view.specs.declared.attachments.Attachment.{Attachment}
use Rattle.ifmap_view.specs.Attachments.{IsGraph, attachment_order, of_one_key, stored_order}
use Rattle.ifmap_view.specs.Rows.{stored_on}

-- what is stored on an item
module _ (x : Item) where
  -- of one that stands on the item, to all that do
  all_of : (P : Stored → Type 0) (Q : Attachment → Type 0) → ((s : Attachment) → same_item s.item x ≡ true → Q s → P s.stored)
      → (rows : List Attachment) → AllByRecursion Q rows → AllByRecursion P (stored_on x rows)
  all_of P Q h [] a = tt
  all_of P Q h (r ∷ rows) a = elim (cases_Bool (same_item r.item x)) [
    | inl is ↦ rw is (h r is a.0, all_of P Q h rows a.1)
    | inr is ↦ rw is (all_of P Q h rows a.1)
  ]

  order_on : (r s : Attachment) → same_item r.item x ≡ true → same_item s.item x ≡ true → attachment_order r s ≡ Less
      → stored_order r.stored s.stored ≡ Less
  order_on r s i j e =
      ap (λ o. ordering_then o (stored_order r.stored s.stored)) (sym (same_equal r.item s.item (told_as x r.item s.item j ∙ i))) ∙ e

  keys_differ_on : (r s : Attachment) → same_item r.item x ≡ true → same_item s.item x ≡ true → of_one_key r s ≡ false
      → same_key r.stored s.stored ≡ false
  keys_differ_on r s i j e = ap (λ b. b && same_key r.stored s.stored) (sym (told_as x r.item s.item j ∙ i)) ∙ e

  rising_on : (rows : List Attachment) → IsStrictlySortedBy attachment_order rows → IsStrictlySortedBy stored_order (stored_on x rows)
  unfolding IsStrictlySortedBy
  rising_on [] up = tt
  rising_on (r ∷ rows) up = elim (cases_Bool (same_item r.item x)) [
    | inl is ↦ rw is (
      all_of (λ s. stored_order r.stored s ≡ Less) (λ s. attachment_order r s ≡ Less) (λ s j e. order_on r s is j e) rows up.0,
      rising_on rows up.1,
    )
    | inr is ↦ rw is (rising_on rows up.1)
  ]

  keys_on : (rows : List Attachment) → IsDistinct of_one_key rows → IsDistinct same_key (stored_on x rows)
  unfolding IsDistinct
  keys_on [] d = tt
  keys_on (r ∷ rows) d = elim (cases_Bool (same_item r.item x)) [
    | inl is ↦ rw is (
      all_of (λ s. same_key r.stored s ≡ false) (λ s. of_one_key r s ≡ false) (λ s j e. keys_differ_on r s is j e) rows d.0,
      keys_on rows d.1,
    )
    | inr is ↦ rw is (keys_on rows d.1)
  ]

  pub list_on : (rows : List Attachment) → IsGraph rows → IsList (stored_on x rows)
  list_on rows g = record { rising = rising_on rows g.rising; keys = keys_on rows g.keys }
