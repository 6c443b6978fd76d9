-- What is made of an item and of the list after it, by a check that begins with both: what is found of the two is found of the whole.
use Rattle.std.specs.Prelude.{◌≡◌, List, [], Option, None, Some, Result, Ok, Err}
use Rattle.std.proofs.Common.{ap, inl, inr, subst}
use Rattle.ifmap_elem.specs.declared.elements.Element.{Element}
use Rattle.ifmap_ident.specs.declared.codes.Code.{Code}
use Rattle.ifmap_ident.specs.declared.codes.Code.TheVariants.{Failure}
use Rattle.ifmap_ident.specs.declared.identifiers.Identifier.{Identifier}
use Rattle.ifmap_ident.specs.declared.items.Item.{Item}
use Rattle.ifmap_forms.specs.declared.errors.FormError.{FormError}
use Rattle.ifmap_forms.specs.declared.errors.FormError.TheVariants.{Named, NoMemory}
use Rattle.ifmap_forms.specs.declared.lists.Listed.{Listed}
use Rattle.ifmap_forms.specs.Answers.{IsCheckRefusal}
use Rattle.ifmap_forms.specs.Checks.{Check, check_then, need_some}
use Rattle.ifmap_forms.specs.Items.{before_list, from_list, identifiers_check, item_of, list_if_there, listed_check, listed_from}
use Rattle.ifmap_forms.specs.Tables.{Part}

module _ {X Y : Type 0} (one : Element → Check X) (make : Item → Option (List X) → Check Y) (parts : List Part) where
  -- what is made, where there is an item
  abbrev pub made_from : List Identifier → Option (List X) → Check Y
  made_from identifiers list = need_some Failure (item_of identifiers) (λ item. make item list)

  -- identifiers, then the list, and then what is made of the item and the list
  abbrev pub made_check : Check Y
  made_check =
      check_then (identifiers_check 2 [] (before_list parts))
      (λ identifiers. check_then (list_if_there one (from_list parts)) (λ list. made_from identifiers list))

  abbrev code_found : Code → Result Y Code
  code_found code = Err code

  abbrev listed_code : Code → Result (Listed X) Code
  listed_code code = Err code

  abbrev listed_found : Listed X → Result (Listed X) Code
  listed_found listed = Ok listed

  abbrev as_listed : Item → Option (List X) → Listed X
  as_listed item list = record { item = item; list = list }

  -- where there is no item, nothing is made
  no_item : (identifiers : List Identifier) (list : Option (List X)) (code : Code) → listed_from identifiers list (listed_code code)
      → made_from identifiers list (code_found code)
  no_item identifiers list code = from (item_of identifiers)
    where
      from : (o : Option Item) → need_some Failure o (λ item found. found ≡ listed_found (as_listed item list)) (listed_code code)
          → need_some Failure o (λ item. make item list) (code_found code)
      from None is = let same : listed_code code ≡ listed_code Failure = is in let e : code ≡ Failure = cc in ap code_found e
      from (Some item) is = let wrong : listed_code code ≡ listed_found (as_listed item list) = is in cc

  -- where there is one, what is found of it is found
  of_item : (identifiers : List Identifier) (list : Option (List X)) (listed : Listed X)
      → listed_from identifiers list (listed_found listed) → (found : Result Y Code) → make listed.item listed.list found
      → made_from identifiers list found
  of_item identifiers list listed is found f = from (item_of identifiers) is
    where
      from : (o : Option Item) → need_some Failure o (λ item found. found ≡ listed_found (as_listed item list)) (listed_found listed)
          → need_some Failure o (λ item. make item list) found
      from None is = let wrong : listed_found listed ≡ listed_code Failure = is in cc
      from (Some item) is =
          let same : listed_found listed ≡ listed_found (as_listed item list) = is in
          let e : listed ≡ as_listed item list = cc in
          subst (λ (l : Listed X). make l.item l.list found) e f

  -- a defect of the item or of the list is one of the whole
  pub listed_refused : (error : FormError) → IsCheckRefusal (listed_check one parts) error → IsCheckRefusal made_check error
  listed_refused NoMemory f = tt
  listed_refused (Named code) f = elim f [
    | inl g ↦ inl g
    | inr g ↦ inr (g.0, g.1, later g.0 g.2)
  ]
    where
      later : (identifiers : List Identifier)
          → check_then (list_if_there one (from_list parts)) (λ list. listed_from identifiers list) (listed_code code)
          → check_then (list_if_there one (from_list parts)) (λ list. made_from identifiers list) (code_found code)
      later identifiers f = elim f [
        | inl g ↦ inl g
        | inr g ↦ inr (g.0, g.1, no_item identifiers g.0 code g.2)
      ]

  -- what is found of the item and the list is found of the whole
  pub listed_makes : (listed : Listed X) → listed_check one parts (Ok listed) → (found : Result Y Code)
      → make listed.item listed.list found → made_check found
  listed_makes listed f (Ok y) g = (f.0, f.1, (f.2.0, f.2.1, of_item f.0 f.2.0 listed f.2.2 (Ok y) g))
  listed_makes listed f (Err code) g = inr (f.0, f.1, inr (f.2.0, f.2.1, of_item f.0 f.2.0 listed f.2.2 (Err code) g))
