-- Identifiers and lists of elements as children: the items of operations and results (IF-MAP binding for SOAP, version 2.2, section 3).
use Rattle.std.specs.Prelude.{◌≡◌, ℕ, Bool, false, not, ◌&&◌, nat_lt, if◌then◌else◌, List, [], ◌∷◌, ◌++◌, codes, length, Option, None, Some, Ok, Err}
use Rattle.std.specs.List.{list_all, list_any}
use Rattle.ifmap_elem.specs.Building.{is_bare}
use Rattle.ifmap_elem.specs.Chars.{is_white}
use Rattle.ifmap_elem.specs.declared.elements.Child.TheOpen.{Child-F}
use Rattle.ifmap_elem.specs.declared.elements.Element.{Element}
use Rattle.ifmap_ident.specs.declared.codes.Code.{Code}
use Rattle.ifmap_ident.specs.declared.codes.Code.TheVariants.{Failure, InvalidIdentifier, InvalidIdentifierType, IdentifierTooLong}
use Rattle.ifmap_ident.specs.declared.identifiers.Identifier.{Identifier}
use Rattle.ifmap_ident.specs.declared.items.Item.{Item}
use Rattle.ifmap_ident.specs.declared.items.Item.TheVariants.{One}
use Rattle.ifmap_ident.specs.declared.errors.IdentError.{IdentError}
use Rattle.ifmap_ident.specs.declared.errors.IdentError.TheVariants.{WrongKind, Invalid, TooLong, NoMemory}
use Rattle.ifmap_ident.specs.Canon.{IsAnswer}
use Rattle.ifmap_ident.specs.Identifiers.{same_identifier}
use Rattle.ifmap_ident.specs.Items.{pair_of}
use Rattle.ifmap_ident.specs.Parts.{has_only}
use Rattle.ifmap_forms.specs.declared.errors.FormError.{FormError}
use Rattle.ifmap_forms.specs.declared.errors.FormError.TheVariants as form
use Rattle.ifmap_forms.specs.declared.lists.Listed.{Listed}
use Rattle.ifmap_forms.specs.Checks.{Check, check_then, fail, need, need_some, pass}
use Rattle.ifmap_elem.specs.WhiteSpace.{is_blank_part}
use Rattle.ifmap_forms.specs.Tables.{ContentCheck, Part, each_element, element_parts, only_member}

-- ---- one identifier

-- the code of a refusal; want of memory has none
abbrev pub identifier_code : IdentError → Option Code
identifier_code WrongKind = Some InvalidIdentifierType
identifier_code Invalid = Some InvalidIdentifier
identifier_code TooLong = Some IdentifierTooLong
identifier_code NoMemory = None

-- as an answer
abbrev pub identifier_refusal : IdentError → FormError
identifier_refusal WrongKind = form.Named InvalidIdentifierType
identifier_refusal Invalid = form.Named InvalidIdentifier
identifier_refusal TooLong = form.Named IdentifierTooLong
identifier_refusal NoMemory = form.NoMemory

-- an element in an identifier's place
abbrev pub identifier_check : Element → Check Identifier
identifier_check e (Ok i) = IsAnswer e (Ok i)
identifier_check e (Err code) = (error : IdentError) × (identifier_code error ≡ Some code) × IsAnswer e (Err error)

-- after these identifiers one more may stand: they are not too many, and it is none of them
abbrev pub may_follow : ℕ → List Identifier → Identifier → Bool
may_follow most before i = nat_lt (length before) most && not (list_any (same_identifier i) before)

-- places of identifiers from left to right, each checked whole; some identifiers stand before them
abbrev pub identifiers_check : ℕ → List Identifier → List Part → Check (List Identifier)
identifiers_check most before [] = pass []
identifiers_check most before (Child-F.Element e ∷ parts) =
    check_then (identifier_check e)
    (λ i. need (may_follow most before i) Failure
    (check_then (identifiers_check most (before ++ i ∷ []) parts) (λ others. pass (i ∷ others))))
identifiers_check most before (Child-F.Text text ∷ parts) = need (list_all is_white text) Failure (identifiers_check most before parts)

-- one identifier or two different ones are an item
abbrev pub item_of : List Identifier → Option Item
item_of [] = None
item_of (a ∷ []) = Some (One a)
item_of (a ∷ (b ∷ [])) = pair_of a b
item_of (a ∷ (b ∷ (c ∷ more))) = None

-- one identifier
abbrev pub start_check : List Part → Check Identifier
start_check parts =
    check_then (identifiers_check 1 [] parts) (λ identifiers. need_some Failure (only_member identifiers) (λ i. pass i))

abbrev pub start_content : ContentCheck Identifier
start_content scopes = start_check

-- one identifier or two
abbrev pub item_check : List Part → Check Item
item_check parts =
    check_then (identifiers_check 2 [] parts) (λ identifiers. need_some Failure (item_of identifiers) (λ item. pass item))

abbrev pub item_content : ContentCheck Item
item_content scopes = item_check

-- ---- identifiers, and then a list of elements

-- the part is the list
abbrev pub is_list : Part → Bool
is_list (Child-F.Element e) = is_bare (codes "metadata") e.name
is_list (Child-F.Text text) = false

-- the parts before the first list: each is an identifier's place
abbrev pub before_list : List Part → List Part
before_list [] = []
before_list (part ∷ parts) = if is_list part then [] else part ∷ before_list parts

-- that list and the parts after it
abbrev pub from_list : List Part → List Part
from_list [] = []
from_list (part ∷ parts) = if is_list part then part ∷ parts else from_list parts

-- an item of the identifiers, beside the list
abbrev pub listed_from : {X : Type 0} → List Identifier → Option (List X) → Check (Listed X)
listed_from identifiers list = need_some Failure (item_of identifiers) (λ item. pass (record { item = item; list = list }))

module _ {X : Type 0} (one : Element → Check X) where
  -- the list: no attributes of its own, and elements alone
  abbrev pub list_check : Element → Check (List X)
  list_check e = need (has_only [] e) Failure (each_element (λ index inner. one inner) 0 (element_parts e))

  -- the list where there is one, and nothing after it but white space
  abbrev pub list_if_there : List Part → Check (Option (List X))
  list_if_there [] = pass None
  list_if_there (Child-F.Element e ∷ after) =
      check_then (list_check e) (λ xs. need (list_all is_blank_part after) Failure (pass (Some xs)))
  list_if_there (Child-F.Text text ∷ after) = fail Failure

  -- the identifiers, then the list; that the identifiers are no item is found after all that is there was checked
  abbrev pub listed_check : List Part → Check (Listed X)
  listed_check parts =
      check_then (identifiers_check 2 [] (before_list parts))
      (λ identifiers. check_then (list_if_there (from_list parts)) (λ list. listed_from identifiers list))
