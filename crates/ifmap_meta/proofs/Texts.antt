-- The text of a moment is ASCII.
use Rattle.std.proofs.Common.{ℕ, ◌<◌, arith}
use Rattle.std.specs.List.{AllByRecursion}
use Rattle.std.specs.Str.{IsUtf8}
use Rattle.std.proofs.lemmas.List.Elements.{All-from_recursion}
use Rattle.std.proofs.lemmas.Str.{IsUtf8-from_ascii}
use Rattle.std.proofs.lemmas.Str.Ascii.{IsAscii-from_all}
use Rattle.ifmap_io.specs.Calendar.{Civil, civil_text, last_digit}

digit_is_ascii : (n : ℕ) → last_digit n < 128
digit_is_ascii n = omega arith

all_ascii : (c : Civil) → AllByRecursion (λ b. b < 128) (civil_text c)
all_ascii c = search (arith, digit_is_ascii)

pub civil_text_is_utf8 : (c : Civil) → IsUtf8 (civil_text c)
civil_text_is_utf8 c = IsUtf8-from_ascii (civil_text c) (IsAscii-from_all (civil_text c) (All-from_recursion
    (λ b. b < 128) (civil_text c) (all_ascii c)))
