-- Elements that are written fit, have their attributes in order and nest as deep as they may: what holds of the elements in an element
-- whose attributes are named values holds of it, one level higher.
use Rattle.std.proofs.Common.{◌≡◌, ℕ, suc, true, List, arith, ◌+◌}
use Rattle.std.specs.List.{AllByRecursion}
use Rattle.ifmap_elem.specs.Fit.{IsFitName}
use Rattle.ifmap_elem.specs.declared.elements.Element.{Element}
use Rattle.ifmap_elem.specs.declared.elements.Name.{Name}
use Rattle.ifmap_writing.specs.Attributes.{NamedValue, attributes_of}
use Rattle.ifmap_elem.specs.Building.{as_children}
use Rattle.ifmap_elem.specs.laws.GoodElements.{IsGood, good_elements, good_within}
use Rattle.ifmap_writing.proofs.AttributeLaws.{HasFitValue, rises, values_differ, values_fit, values_plain, values_sorted}

-- named values that can be written
pub record AreFitValues (written : List NamedValue) : Type 0 where
  pub rise : rises written ≡ true
  pub plain : values_plain written ≡ true
  pub values : AllByRecursion HasFitValue written

module _ (levels : ℕ) where
  module _ (name : Name) (values : List NamedValue) (es : List Element) where
    abbrev whole : Element
    whole = record { name = name; attributes = attributes_of values; children = as_children es }

    pub sound_whole : IsFitName name → AreFitValues values → AllByRecursion (IsGood levels) es → IsGood (suc levels) whole
    sound_whole named f s =
        good_within (levels + 1) (suc levels) whole (omega arith)
        (good_elements name (attributes_of values) named (values_fit values f.plain f.values) (values_differ values f.rise)
        (values_sorted values f.rise) levels es s)
