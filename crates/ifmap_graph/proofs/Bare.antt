-- Drafts are accepted or taken back one by one; where none is left, both sides are the same.
use Rattle.std.proofs.Common.{◌≡◌, ℕ, true, false, Option, Some, None, IsSome, List, [], ◌∷◌, ◌++◌, map, unwrap_or, refl, ap, ◌∙◌, sym, subst, inl, inr}
use Rattle.std.specs.BTreeMap.{is_at}
use Rattle.std.specs.List.{AllByRecursion}
use Rattle.std.specs.Ordering.{is_eq}
use Rattle.std.specs.declared.cmp.Ordering.TheVariants.{Equal}
use Rattle.slab.specs.Slab.{get}
use Rattle.ifmap_lemmas.specs.Having.{Has}
use Rattle.ifmap_ident.specs.declared.items.Item.{Item}
use Rattle.ifmap_ident.specs.Items.{item_order}
use Rattle.ifmap_meta.specs.declared.stored.Stored.{Stored}
use Rattle.ifmap_graph.specs.declared.shelves.Shelf.{Shelf}
use Rattle.ifmap_graph.specs.declared.shelves.Shelves.{Shelves}
use Rattle.ifmap_graph.specs.Drafted.{AreBare, DraftsWithin, NoDraft}
use Rattle.ifmap_graph.specs.Shelved.{AreShelved, HasDraft, list_at, rows_by, rows_on_side}
use Rattle.ifmap_graph.specs.Sides.{list_next, list_now}
use Rattle.ifmap_graph.proofs.Following.{entry_hits}
use Rattle.ifmap_graph.proofs.Shelving.{Entries}
use Rattle.ifmap_view.specs.Attachments.{row_on}

pub list_bare : (o : Option Shelf) → NoDraft o → list_at list_next o ≡ list_at list_now o
list_bare None n = refl
list_bare (Some shelf) n = ap (λ d. unwrap_or d shelf.stored.now) n

rows_bare : (look : ℕ → Option Shelf) (es : Entries) → AllByRecursion (λ e. NoDraft (look e.1)) es
    → rows_by (λ at. list_at list_next (look at)) es ≡ rows_by (λ at. list_at list_now (look at)) es
rows_bare look [] a = refl
rows_bare look (e ∷ es) a =
    ap (λ l. map (row_on e.0) l ++ rows_by (λ at. list_at list_next (look at)) es) (list_bare (look e.1) a.0)
    ∙ ap (λ l. map (row_on e.0) (list_at list_now (look e.1)) ++ l) (rows_bare look es a.1)

-- where no shelf has a draft, what is stored is what is to be
pub sides_same : (s : Shelves) → AreBare s → rows_on_side list_next s ≡ rows_on_side list_now s
sides_same s a = rows_bare (get s.slots) s.places.entries a

pub no_draft : (o : Option Shelf) → ((shelf : Shelf) → o ≡ Some shelf → IsSome shelf.stored.draft → ⊥) → NoDraft o
no_draft None f = tt
no_draft (Some shelf) f = by shelf.stored.draft refl
  where
    by : (d : Option (List Stored)) → shelf.stored.draft ≡ d → shelf.stored.draft ≡ None
    by None e = e
    by (Some l) e = absurd (f shelf refl (subst (λ (o : Option (List Stored)). IsSome o) (sym e) refl))

-- drafts that stand nowhere are none
pub none_left : (s : Shelves) → AreShelved s → DraftsWithin [] s → AreBare s
none_left s is d = by s.places.entries (λ e h. h)
  where
    by : (es : Entries) → ((e : Item × ℕ) → Has es e → Has s.places.entries e) → AllByRecursion (λ e. NoDraft (get s.slots e.1)) es
    by [] f = tt
    by (e ∷ es) f = (
      no_draft (get s.slots e.1) (λ shelf at has.
          (d e.0 (e.1, shelf, entry_hits s.places.entries e.0 e.1 is.rising (f e (inl refl)), at, has)).1),
      by es (λ x h. f x (inr h)),
    )

-- one draft goes: those of the others are left
pub one_gone : (old new : Shelves) (item : Item) (items : List Item) → DraftsWithin (item ∷ items) old
    → ((x : Item) → HasDraft new x → HasDraft old x × (is_at (item_order item) x ≡ false)) → DraftsWithin items new
one_gone old new item items d f x h =
    let p = f x h
    in let i = d x p.0
    in elim i.1 [
      | inl e ↦ let q : false ≡ true = sym p.1 ∙ ap is_eq (subst (λ k. item_order k x ≡ Equal) (sym e) i.2) in cc
      | inr k ↦ (i.0, k, i.2)
    ]
