-- How bytes that are no whole head yet go on. No public clause cites this file.
use Rattle.std.specs.Prelude.{◌≡◌, ℕ, ◌==◌, ◌&&◌, Bool, true, false, List, [], ◌∷◌, ◌++◌, if◌then◌else◌}
use Rattle.std.specs.List.{list_all}
use Rattle.httparse.specs.Ascii.{space}
use Rattle.httparse.specs.Grammar.{LineEnd, is_token_byte, is_uri_byte, print_end}

-- no line end stands in front
abbrev pub BeginsNoLineEnd : List ℕ → Type 0
BeginsNoLineEnd bytes = (end : LineEnd) (rest : List ℕ) → ¬ (bytes ≡ print_end end ++ rest)

-- a method, a space and bytes of a target; of the method some bytes may stand before
abbrev pub is_cut_target : Bool → List ℕ → Bool
is_cut_target begun [] = false
is_cut_target begun (b ∷ bytes) =
    if is_token_byte b then is_cut_target true bytes
    else (begun && (b == space) && list_all is_uri_byte bytes)
