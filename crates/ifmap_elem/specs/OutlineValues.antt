-- The values of attributes of outlines.
use Rattle.std.specs.Prelude.{ℕ, List}
use Rattle.ifmap_elem.specs.declared.outline_attributes.Value.{Value}
use Rattle.ifmap_elem.specs.declared.outline_attributes.Value.TheVariants.{Borrowed, Own}

-- the text that a value is
abbrev pub value_text : Value → List ℕ
value_text (Borrowed text) = text.now
value_text (Own text) = text
