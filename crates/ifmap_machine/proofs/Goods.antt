-- Graphs whose attachments are whole, and the results of searches in them.
-- Entries of such graphs are told apart by bytes (`entries_told`), results rise (`fresh_rises`), and so one result and what went and
-- came make the next (`results_fold`, `results_begin`). What the crates below state of bytes and differences comes in as premises.
use Rattle.std.proofs.Common.{◌≡◌, refl, sym, ◌∙◌, ap, subst, ℕ, true, List, [], ◌∷◌, Some}
use Rattle.std.proofs.lemmas.Bool.{and_parts}
use Rattle.std.specs.List.{IsDistinct, filter}
use Rattle.std.specs.List.Sorted.{IsStrictlySortedBy}
use Rattle.ifmap_folds.specs.Differences.{difference, entry_bytes, entry_order, same_entry}
use Rattle.ifmap_folds.specs.Folds.{Sets, fold_items, with_entries}
use Rattle.ifmap_elem.specs.Canonical.{canonical_bytes}
use Rattle.ifmap_elem.specs.laws.CanonicalSpells.{same_when_alike}
use Rattle.ifmap_folds.specs.ifmap_fresh.Fresh.{fresh, is_found}
use Rattle.ifmap_ident.specs.Items.{IsCanonItem}
use Rattle.ifmap_ident.specs.SameLaws.{BytesTellIdentifiers, same_item_is}
use Rattle.ifmap_lemmas.specs.Having.{Has, filter_has, map_has, all_has}
use Rattle.ifmap_machine.proofs.Folding.{Folds}
use Rattle.ifmap_meta.specs.Whole.{IsWhole}
use Rattle.ifmap_folds.specs.ifmap_plans.Plans.{AreWhole}
use Rattle.ifmap_replies.specs.ifmap_search.declared.results.Entry.{Entry}
use Rattle.ifmap_replies.specs.ifmap_search.declared.results.PollItem.TheVariants.{Delete, Update}
use Rattle.ifmap_replies.specs.ifmap_search.declared.searches.Search.{Search}
use Rattle.ifmap_session.specs.laws.TextLaws.{text_is}
use Rattle.ifmap_publish.specs.ifmap_view.declared.attachments.Attachment.{Attachment}
use Rattle.ifmap_publish.specs.ifmap_view.Attachments.{IsGraph}
use Rattle.ifmap_folds.specs.laws.FoldingLaws.{difference_none, fresh_rises}
use Rattle.ifmap_folds.specs.ifmap_fresh.laws.GatheringLaws.{row_entry}

-- a graph whose attachments are whole
pub record IsWholeGraph (rows : List Attachment) : Type 0 where
  pub graph : IsGraph rows
  pub whole : AreWhole rows

pub graph_none : IsGraph []
unfolding IsStrictlySortedBy IsDistinct
graph_none = record { items = tt; rising = tt; keys = tt }

-- ---- results rise

empty_rises : IsStrictlySortedBy entry_order []
unfolding IsStrictlySortedBy
empty_rises = tt

-- ---- entries are told apart by bytes

module _ (tells : BytesTellIdentifiers) where
  attachments_told : (a b : Attachment) → IsCanonItem a.item → IsCanonItem b.item → IsWhole a.stored → IsWhole b.stored
      → same_entry (row_entry a) (row_entry b) ≡ true → row_entry a ≡ row_entry b
  unfolding entry_bytes
  attachments_told a b ca cb wa wb same =
      let parts = and_parts _ _ same in
      let items = same_item_is tells a.item b.item ca.identifiers cb.identifiers parts.0 in
      let bytes : canonical_bytes a.stored.element ≡ canonical_bytes b.stored.element =
      text_is (canonical_bytes a.stored.element) (canonical_bytes b.stored.element) parts.1 in
      let arranged = same_when_alike a.stored.element b.stored.element wa.sent.fit wb.sent.fit bytes in
      let elements : a.stored.element ≡ b.stored.element = sym wa.sent.arranged ∙ arranged ∙ wb.sent.arranged in
      ap (λ i. record { item = i; element = a.stored.element }) items ∙ ap (λ e. record { item = b.item; element = e }) elements

  pub entries_told : (before after : List Attachment) (s : Search) → IsWholeGraph before → IsWholeGraph after → (x y : Entry)
      → Has (fresh before s) x → Has (fresh after s) y → same_entry x y ≡ true → x ≡ y
  entries_told before after s g k x y hx hy same =
      let a = map_has row_entry (filter (is_found before s) before) x hx in
      let b = map_has row_entry (filter (is_found after s) after) y hy in
      let has_a = (filter_has (is_found before s) before a.0 a.1).0 in
      let has_b = (filter_has (is_found after s) after b.0 b.1).0 in
      let told = attachments_told a.0 b.0 (all_has (λ (r : Attachment). IsCanonItem r.item) before g.graph.items a.0 has_a)
      (all_has (λ (r : Attachment). IsCanonItem r.item) after k.graph.items b.0 has_b)
      (all_has (λ (r : Attachment). IsWhole r.stored) before g.whole a.0 has_a)
      (all_has (λ (r : Attachment). IsWhole r.stored) after k.whole b.0 has_b)
      (subst (λ e. same_entry e (row_entry b.0) ≡ true) (sym a.2) (subst (λ e. same_entry x e ≡ true) (sym b.2) same)) in
      sym a.2 ∙ told ∙ b.2

  -- ---- results fold

  module _ (next : (sets : Sets) (name : List ℕ) (a b : List Entry) → sets name ≡ Some a
      → ((x y : Entry) → Has a x → Has b y → same_entry x y ≡ true → x ≡ y) → IsStrictlySortedBy entry_order a
      → IsStrictlySortedBy entry_order b
      → fold_items (Delete name (difference a b) ∷ (Update name (difference b a) ∷ [])) sets name ≡ Some b) where
    folded : (a b : List Entry) → ((x y : Entry) → Has a x → Has b y → same_entry x y ≡ true → x ≡ y)
        → IsStrictlySortedBy entry_order a → IsStrictlySortedBy entry_order b
        → with_entries (difference b a) (difference a (difference a b)) ≡ b
    folded a b told up next_up =
        let made : Some (with_entries (difference b a) (difference a (difference a b))) ≡ Some b =
        next (λ _. Some a) [] a b refl told up next_up in
        cc made

    pub results_fold : (before after : List Attachment) (s : Search) → IsWholeGraph before → IsWholeGraph after → Folds before after s
    results_fold before after s g k =
        folded (fresh before s) (fresh after s) (entries_told before after s g k) (fresh_rises before s g.graph)
        (fresh_rises after s k.graph)

    pub results_begin : (rows : List Attachment) (s : Search) → IsWholeGraph rows → with_entries (fresh rows s) [] ≡ fresh rows s
    results_begin rows s g =
        ap (λ entries. with_entries entries []) (sym (difference_none (fresh rows s)))
        ∙ folded [] (fresh rows s) (λ x y hx. absurd hx) empty_rises (fresh_rises rows s g.graph)
