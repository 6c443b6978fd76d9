-- Entries in the order of their items: the first after another that is not empty.
use Rattle.std.specs.Prelude.{◌≡◌, ◌≢◌, List, [], ◌∷◌, ◌++◌, Option, Some, None}
use Rattle.std.specs.List.{AllByRecursion, filter}
use Rattle.std.specs.Ordering.{is_lt}
use Rattle.ifmap_ident.specs.declared.items.Item.{Item}
use Rattle.ifmap_ident.specs.Items.{item_order}
use Rattle.ifmap_meta.specs.declared.stored.Stored.{Stored}

-- the entries after an item
abbrev pub entries_after : {X : Type 0} → Option Item → List (Item × X) → List (Item × X)
entries_after None es = es
entries_after (Some item) es = filter (λ e. is_lt (item_order item e.0)) es

module _ {X : Type 0} (list_of : X → List Stored) where
  abbrev pub AreEmpty : List (Item × X) → Type 0
  AreEmpty es = AllByRecursion (λ e. list_of e.1 ≡ []) es

  -- the first entry that is not empty
  pub record IsFirstFull (es : List (Item × X)) (item : Item) : Type 0 where
    pub before : List (Item × X)
    pub rest : List (Item × X)
    pub at : X
    pub split : es ≡ before ++ (item, at) ∷ rest
    pub empty : AreEmpty before
    pub full : list_of at ≢ []

  -- the entries so far are empty
  pub record IsPassing (es rest : List (Item × X)) : Type 0 where
    pub before : List (Item × X)
    pub split : es ≡ before ++ rest
    pub empty : AreEmpty before
