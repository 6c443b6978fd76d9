-- An item and a list: the identifiers, then the list, then the item of the identifiers.
use Rattle.std.proofs.Common.{List, [], Option, Result, Ok, Err, inl, inr}
use Rattle.ifmap_elem.specs.declared.elements.Element.{Element}
use Rattle.ifmap_ident.specs.declared.identifiers.Identifier.{Identifier}
use Rattle.ifmap_forms.specs.declared.errors.FormError.{FormError}
use Rattle.ifmap_forms.specs.declared.errors.FormError.TheVariants.{Named, NoMemory}
use Rattle.ifmap_forms.specs.declared.lists.Listed.{Listed}
use Rattle.ifmap_forms.specs.Answers.{IsChecked, IsCheckRefusal}
use Rattle.ifmap_forms.specs.Checks.{Check}
use Rattle.ifmap_forms.specs.Items.{before_list, from_list, identifiers_check, list_if_there, listed_check, listed_from}
use Rattle.ifmap_forms.specs.Tables.{Part}

module _ {X : Type 0} (one : Element → Check X) (parts : List Part) where
  abbrev identifiers_there : Check (List Identifier)
  identifiers_there = identifiers_check 2 [] (before_list parts)

  abbrev list_there : Check (Option (List X))
  list_there = list_if_there one (from_list parts)

  pub refused_identifiers : (error : FormError) → IsCheckRefusal identifiers_there error → IsCheckRefusal (listed_check one parts) error
  refused_identifiers (Named code) f = inl f
  refused_identifiers NoMemory f = tt

  module _ (identifiers : List Identifier) (f : identifiers_there (Ok identifiers)) where
    pub refused_list : (error : FormError) → IsCheckRefusal list_there error → IsCheckRefusal (listed_check one parts) error
    refused_list (Named code) g = inr (identifiers, f, inl g)
    refused_list NoMemory g = tt

    refused_rest : (list : Option (List X)) → list_there (Ok list) → (error : FormError)
        → IsCheckRefusal (listed_from identifiers list) error → IsCheckRefusal (listed_check one parts) error
    refused_rest list g (Named code) h = inr (identifiers, f, inr (list, g, h))
    refused_rest list g NoMemory h = tt

    pub listed_whole : (list : Option (List X)) → list_there (Ok list) → (r : Result (Listed X) FormError)
        → IsChecked (listed_from identifiers list) r → IsChecked (listed_check one parts) r
    listed_whole list g (Ok listed) h = (identifiers, f, (list, g, h))
    listed_whole list g (Err error) h = refused_rest list g error h
