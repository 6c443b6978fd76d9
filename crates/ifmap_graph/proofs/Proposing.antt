-- A draft is written to the shelf of an item: which shelves have one then.
use Rattle.std.proofs.Common.{◌≡◌, ◌⊎◌, true, Option, IsSome, List, ap, ◌∙◌, sym, subst, inl, inr}
use Rattle.std.proofs.lemmas.Bool.{cases_Bool}
use Rattle.std.proofs.lemmas.Option.{same_Some}
use Rattle.std.specs.BTreeMap.{is_at}
use Rattle.slab.specs.Slab.{get}
use Rattle.ifmap_ident.specs.declared.items.Item.{Item}
use Rattle.ifmap_ident.specs.Items.{item_order}
use Rattle.ifmap_meta.specs.declared.stored.Stored.{Stored}
use Rattle.ifmap_graph.specs.declared.shelves.Shelf.{Shelf}
use Rattle.ifmap_graph.proofs.Writes.{drafts_kept, DraftedIn, Write, has, others_there, tied_here}

module _ (w : Write) where
  pub draft_there : IsSome w.later.stored.draft → DraftedIn w.new w.es w.item
  draft_there drafted = (w.at, w.later, w.here, has w, drafted)

  pub drafts_there : IsSome w.later.stored.draft → (x : Item) → DraftedIn w.slots w.es x → DraftedIn w.new w.es x
  drafts_there drafted x d = elim (cases_Bool (is_at (item_order w.item) x)) [
    | inl y ↦ (w.at, w.later, tied_here w x y, has w, drafted)
    | inr f ↦ drafts_kept w x f d
  ]

  pub drafts_come : (x : Item) → DraftedIn w.new w.es x → DraftedIn w.slots w.es x ⊎ (is_at (item_order w.item) x ≡ true)
  drafts_come x d = elim (cases_Bool (is_at (item_order w.item) x)) [
    | inl y ↦ inr y
    | inr f ↦ inl (d.0, d.1, d.2, sym (others_there w x d.0 f d.2) ∙ d.3, d.4)
  ]

  -- a write that leaves the draft: the same shelves have one
  pub drafts_from : w.later.stored.draft ≡ w.was.stored.draft → (x : Item) → DraftedIn w.new w.es x → DraftedIn w.slots w.es x
  drafts_from e x d = elim (cases_Bool (is_at (item_order w.item) x)) [
    | inl y ↦ let same : d.0 ≡ w.at = same_Some _ _ (sym d.2 ∙ tied_here w x y)
        in let shelf : d.1 ≡ w.later = same_Some _ _ (sym d.3 ∙ ap (get w.new) same ∙ has w)
        in (
          w.at,
          w.was,
          tied_here w x y,
          w.had,
          subst (λ (o : Option (List Stored)). IsSome o) (ap (λ (k : Shelf). k.stored.draft) shelf ∙ e) d.4,
        )
    | inr f ↦ (d.0, d.1, d.2, sym (others_there w x d.0 f d.2) ∙ d.3, d.4)
  ]

  pub drafts_to : w.later.stored.draft ≡ w.was.stored.draft → (x : Item) → DraftedIn w.slots w.es x → DraftedIn w.new w.es x
  drafts_to e x d = elim (cases_Bool (is_at (item_order w.item) x)) [
    | inl y ↦ let same : d.0 ≡ w.at = same_Some _ _ (sym d.2 ∙ tied_here w x y)
        in let shelf : d.1 ≡ w.was = same_Some _ _ (sym d.3 ∙ ap (get w.slots) same ∙ w.had)
        in drafts_there (subst (λ (o : Option (List Stored)). IsSome o) (ap (λ (k : Shelf). k.stored.draft) shelf ∙ sym e) d.4) x d
    | inr f ↦ drafts_kept w x f d
  ]
