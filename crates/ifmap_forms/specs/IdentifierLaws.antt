-- Checks of identifiers find something where the check of each element does; and of the elements of identifiers, and of an item's, they
-- find these again.
use Rattle.std.proofs.Common.{◌≡◌, ◌&&◌, ◌||◌, ◌++◌, ℕ, Bool, true, false, not, List, [], ◌∷◌, Some, Result, Ok, Err, map, refl, ap}
use Rattle.std.specs.Prelude.{nat_lt}
use Rattle.std.specs.List.{list_all}
use Rattle.std.specs.declared.cmp.Ordering.{Ordering}
use Rattle.ifmap_elem.specs.Chars.{is_white}
use Rattle.ifmap_elem.specs.declared.elements.Child.TheOpen.{Child-F}
use Rattle.ifmap_elem.specs.declared.elements.Element.{Element}
use Rattle.ifmap_elem.specs.laws.ChildElements.{as_parts}
use Rattle.ifmap_ident.specs.declared.codes.Code.TheVariants.{Failure, InvalidIdentifier, InvalidIdentifierType, IdentifierTooLong}
use Rattle.ifmap_ident.specs.declared.errors.IdentError.{IdentError}
use Rattle.ifmap_ident.specs.declared.errors.IdentError.TheVariants.{WrongKind, Invalid, TooLong, NoMemory}
use Rattle.ifmap_ident.specs.declared.identifiers.Identifier.{Identifier}
use Rattle.ifmap_ident.specs.declared.items.Item.{Item}
use Rattle.ifmap_ident.specs.declared.items.Item.TheVariants.{One, Pair}
use Rattle.ifmap_ident.specs.Canon.{IsAnswer, IsCanon, IsIdentifier}
use Rattle.ifmap_ident.specs.Identifiers.{identifier_element, same_identifier}
use Rattle.ifmap_ident.specs.Items.{IsCanonItem, identifiers_of, ordered_pair}
use Rattle.ifmap_ident.specs.Laws.{HasAnswer}
use Rattle.ifmap_ident.specs.SameLaws.{greater_identifier_differs}
use Rattle.ifmap_forms.specs.AnswerLaws.{found_after}
use Rattle.ifmap_forms.specs.CheckLaws.{need_done, pass_done, then_done}
use Rattle.ifmap_forms.specs.Checks.{IsConclusive, check_then, need, ok_value, pass}
use Rattle.ifmap_forms.specs.Items.{identifier_check, identifiers_check, item_of, may_follow}
use Rattle.ifmap_forms.specs.Tables.{Part}

-- ---- something is found

identifier_found : (e : Element) (result : Result Identifier IdentError) → IsAnswer e result → (result ≡ Err NoMemory → ⊥)
    → IsConclusive (identifier_check e)
identifier_found e (Ok i) a memory = (Ok i, a)
identifier_found e (Err WrongKind) a memory = (Err InvalidIdentifierType, (WrongKind, refl, a))
identifier_found e (Err Invalid) a memory = (Err InvalidIdentifier, (Invalid, refl, a))
identifier_found e (Err TooLong) a memory = (Err IdentifierTooLong, (TooLong, refl, a))
identifier_found e (Err NoMemory) a memory = absurd (memory refl)

-- an element in an identifier's place
pub identifier_done : ((e : Element) → HasAnswer e) → (e : Element) → IsConclusive (identifier_check e)
identifier_done some e = let a = some e in identifier_found e a.0 a.1 a.2

module _ (identifier : (e : Element) → IsConclusive (identifier_check e)) where
  -- places of identifiers
  pub identifiers_done : (number : ℕ) (before : List Identifier) (parts : List Part) → IsConclusive (identifiers_check number before parts)
  identifiers_done number before [] = pass_done []
  identifiers_done number before (Child-F.Element e ∷ parts) =
      then_done (identifier_check e)
      (λ i. need (may_follow number before i) Failure
      (check_then (identifiers_check number (before ++ i ∷ []) parts) (λ others. pass (i ∷ others))))
      (λ i found. need_done (may_follow number before i) Failure
      (check_then (identifiers_check number (before ++ i ∷ []) parts) (λ others. pass (i ∷ others)))
      (then_done (identifiers_check number (before ++ i ∷ []) parts) (λ others. pass (i ∷ others))
      (λ others got. pass_done (i ∷ others)) (identifiers_done number (before ++ i ∷ []) parts)))
      (identifier e)
  identifiers_done number before (Child-F.Text text ∷ parts) =
      need_done (list_all is_white text) Failure (identifiers_check number before parts) (identifiers_done number before parts)

-- ---- an item's identifiers are found again

module _ (canon : (i : Identifier) → IsIdentifier i → IsCanon (identifier_element i) i) where
  may_second : (a b : Identifier) → same_identifier b a ≡ false → may_follow 2 (a ∷ []) b ≡ true
  may_second a b other = ap (λ (t : Bool). nat_lt 1 2 && not (t || false)) other

  pub identifiers_back : (item : Item) → IsCanonItem item
      → identifiers_check 2 [] (as_parts (map identifier_element (identifiers_of item))) (ok_value (identifiers_of item))
  identifiers_back (One a) f = (a, canon a f.identifiers.0, ([], refl, refl))
  identifiers_back (Pair a b) f =
      let second : identifiers_check 2 (a ∷ []) (as_parts (map identifier_element (b ∷ []))) (ok_value (b ∷ [])) = (
        b,
        canon b f.identifiers.1.0,
        found_after (check_then (identifiers_check 2 (a ∷ (b ∷ [])) []) (λ others. pass (b ∷ others))) (may_follow 2 (a ∷ []) b) Failure
            (ok_value (b ∷ [])) (may_second a b (greater_identifier_differs a b f.ordered)) ([], refl, refl),
      ) in
      (a, canon a f.identifiers.0, (b ∷ [], second, refl))

-- and make that item
pub item_of_identifiers : (item : Item) → IsCanonItem item → item_of (identifiers_of item) ≡ Some item
item_of_identifiers (One a) f = refl
item_of_identifiers (Pair a b) f = ap (λ (o : Ordering). ordered_pair o a b) f.ordered
