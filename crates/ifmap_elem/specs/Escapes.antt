-- How text and the values of attributes are written in canonical bytes (XML 1.0, section 2.4).
use Rattle.std.specs.Prelude.{ℕ, List, [], ◌∷◌, cond, ◌==◌, codes}
use Rattle.std.specs.List.{flat_map}
use Rattle.ifmap_elem.specs.Chars.{ampersand, carriage_return, double_quote, greater_than, less_than, line_feed, tab}

-- a byte of text: `&`, `<`, `>` and the carriage return are references
abbrev pub text_byte : ℕ → List ℕ
text_byte b =
    cond (b == ampersand) (codes "&amp;") (cond (b == less_than) (codes "&lt;") (cond (b == greater_than) (codes "&gt;")
    (cond (b == carriage_return) (codes "&#13;") (b ∷ []))))

-- a byte of a value in double quotes: `&`, `<`, `"`, the tab, the line feed and the carriage return are references
abbrev pub value_byte : ℕ → List ℕ
value_byte b =
    cond (b == ampersand) (codes "&amp;") (cond (b == less_than) (codes "&lt;") (cond (b == double_quote) (codes "&quot;")
    (cond (b == tab) (codes "&#9;") (cond (b == line_feed) (codes "&#10;") (cond (b == carriage_return) (codes "&#13;") (b ∷ []))))))

-- a text as it is written
abbrev pub text_bytes : List ℕ → List ℕ
text_bytes text = flat_map text_byte text

-- the value of an attribute as it is written between its quotes
abbrev pub value_bytes : List ℕ → List ℕ
value_bytes value = flat_map value_byte value
