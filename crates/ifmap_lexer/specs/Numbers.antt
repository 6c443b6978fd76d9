-- Numbers in references (XML 1.0, section 4.1).
use Rattle.std.specs.Prelude.{ℕ, not, ◌==◌, ◌&&◌, if◌then◌else◌, List, length, min, Option, Some, None}
use Rattle.std.specs.Char.{is_digit}
use Rattle.std.specs.List.{list_all}
use Rattle.std.specs.Str.Parse.{digits_value}

-- the number that the digits write, where they are some, or the first number past all characters where it is greater
abbrev pub code_point_of : ℕ → List ℕ → Option ℕ
code_point_of base digits =
    if not (length digits == 0) && list_all (λ d. is_digit d base) digits then Some (min (digits_value base digits) 0x11_0000) else None
