-- What runs of written characters add to a text or a value (XML 1.0, sections 2.11 and 3.3.3).
use Rattle.std.specs.Prelude.{ℕ, List, map}
use Rattle.ifmap_elem.specs.Chars.{line_feed, space_character}
use Rattle.ifmap_elem.specs.Values.{ValuePart, Plain, text_part, value_part, as_space}
use Rattle.ifmap_elem.specs.declared.escaping.TextPlace.{TextPlace}
use Rattle.ifmap_elem.specs.declared.escaping.TextPlace.TheVariants.{Value, Content}

-- what a part adds in its place
abbrev pub part_in : TextPlace → ValuePart → List ℕ
part_in Content part = text_part part
part_in Value part = value_part part

-- what a line adds in its place
abbrev pub line_in : TextPlace → List ℕ → List ℕ
line_in Content line = line
line_in Value line = map as_space line

-- what the end of a line adds in its place
abbrev pub break_in : TextPlace → ℕ
break_in Content = line_feed
break_in Value = space_character

-- what a run adds in its place
abbrev pub run_in : TextPlace → List ℕ → List ℕ
run_in place run = part_in place (Plain run)
