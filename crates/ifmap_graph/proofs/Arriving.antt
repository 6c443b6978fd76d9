-- A new shelf has the numbers of its item's identifiers, and those of the others stay theirs.
use Rattle.std.proofs.Common.{◌≡◌, ◌≢◌, ℕ, Option, Some, None, IsSome, ◌∙◌, sym, subst, ap}
use Rattle.std.specs.BTreeMap.{is_at, insert_entry}
use Rattle.std.specs.List.{AllByRecursion}
use Rattle.std.specs.Map.{lookup}
use Rattle.ifmap_ident.specs.declared.identifiers.Identifier.{Identifier}
use Rattle.ifmap_ident.specs.declared.items.Item.{Item}
use Rattle.ifmap_ident.specs.Identifiers.{identifier_order}
use Rattle.ifmap_ident.specs.Items.{item_order}
use Rattle.ifmap_pool.specs.Holdings.{Holdings, Names}
use Rattle.ifmap_graph.specs.declared.shelves.Shelf.{Shelf}
use Rattle.ifmap_graph.specs.Named.{AreEnds, AreNumbered, HasEnds}
use Rattle.ifmap_graph.proofs.KeyHolds.{numbered_kept}
use Rattle.ifmap_graph.proofs.Finding.{all_inserted}
use Rattle.ifmap_graph.proofs.Shelving.{Entries, slots_stay}

pub numbered_comes : (old new : Holdings Identifier) → ((v : ℕ) (a : Identifier) → Names identifier_order old v a
    → Names identifier_order new v a)
    → (es : Entries) (entries : Entries) (look later : ℕ → Option Shelf) (item ends : Item) (at place : ℕ) (shelf : Shelf)
    → AllByRecursion (λ e. IsSome (look e.1)) es → AreNumbered old look es → lookup (is_at (item_order item)) es ≡ None → at ≡ place
    → look at ≡ None
    → later at ≡ Some shelf → ((o : ℕ) → o ≢ at → later o ≡ look o) → entries ≡ insert_entry item_order es item place
    → ends ≡ item → AreEnds new ends shelf.ends → AreNumbered new later entries
numbered_comes old new kept es entries look later item ends at place shelf live numbered none here vacant later_at others inserts same has =
    subst (λ l. AreNumbered new later l) (sym (inserts ∙ ap (λ n. insert_entry item_order es item n) (sym here)))
    (all_inserted (λ e. HasEnds new e.0 (later e.1)) es item at none
    (numbered_kept old new kept look later es (slots_stay look later at vacant others es live) numbered)
    (subst (λ o. HasEnds new item o) (sym later_at) (subst (λ i. AreEnds new i shelf.ends) same has)))
