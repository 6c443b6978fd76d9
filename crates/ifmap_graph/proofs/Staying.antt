-- One shelf is written: the numbers of every slot stay, and how often items are waited for.
use Rattle.std.proofs.Common.{◌≡◌, ℕ, Option, Some, [], ◌∷◌, option_map, ap, ◌∙◌, sym, subst, inl, inr}
use Rattle.std.proofs.lemmas.Bool.{cases_Bool, cases_eq}
use Rattle.std.specs.BTreeMap.{is_at}
use Rattle.std.specs.List.{AllByRecursion}
use Rattle.slab.specs.Slab.{get}
use Rattle.ifmap_ident.specs.declared.items.Item.{Item}
use Rattle.ifmap_ident.specs.Items.{item_order}
use Rattle.ifmap_graph.specs.declared.ends.ItemEnds.{ItemEnds}
use Rattle.ifmap_graph.specs.declared.shelves.Shelf.{Shelf}
use Rattle.ifmap_graph.specs.Drafted.{NoDraft}
use Rattle.ifmap_graph.specs.Waits.{waits_at}
use Rattle.ifmap_graph.proofs.Shelving.{Entries}
use Rattle.ifmap_graph.proofs.Writes.{waits_had, waits_has, waits_others, Write, elsewhere, has}

-- the numbers that a shelf has
abbrev pub ends_of : Option Shelf → Option ItemEnds
ends_of o = option_map (λ (s : Shelf). s.ends) o

module _ (w : Write) where
  pub ends_stay : w.later.ends ≡ w.was.ends → (o : ℕ) → ends_of (get w.new o) ≡ ends_of (get w.slots o)
  ends_stay e o = elim (cases_eq o w.at) [
    | inl q ↦ ap (λ n. ends_of (get w.new n)) q ∙ ap ends_of (has w) ∙ ap Some e ∙ sym (ap ends_of w.had)
        ∙ ap (λ n. ends_of (get w.slots n)) (sym q)
    | inr n ↦ ap ends_of (elsewhere w o n)
  ]

  pub waits_stay : w.later.waits ≡ w.was.waits → (x : Item) → waits_at (get w.new) w.es x ≡ waits_at (get w.slots) w.es x
  waits_stay e x = elim (cases_Bool (is_at (item_order w.item) x)) [
    | inl y ↦ waits_has w x y ∙ e ∙ sym (waits_had w x y)
    | inr f ↦ waits_others w x f
  ]

  bare_each : w.later.stored.draft ≡ w.was.stored.draft → (xs : Entries) → AllByRecursion (λ e. NoDraft (get w.slots e.1)) xs
      → AllByRecursion (λ e. NoDraft (get w.new e.1)) xs
  bare_each e [] a = tt
  bare_each e (x ∷ xs) a = (
    elim (cases_eq x.1 w.at) [
      | inl q ↦ let none : NoDraft (Some w.was) = subst NoDraft (ap (get w.slots) q ∙ w.had) a.0
          in subst NoDraft (sym (ap (get w.new) q ∙ has w)) (e ∙ none)
      | inr n ↦ subst NoDraft (sym (elsewhere w x.1 n)) a.0
    ],
    bare_each e xs a.1,
  )

  -- where no shelf has a draft, none has
  pub bare_stays : w.later.stored.draft ≡ w.was.stored.draft → AllByRecursion (λ e. NoDraft (get w.slots e.1)) w.es
      → AllByRecursion (λ e. NoDraft (get w.new e.1)) w.es
  bare_stays e = bare_each e w.es
