-- The character that begins a header.
use Rattle.std.specs.Prelude.{ℕ}
use Rattle.std.specs.Str.{byte}

abbrev pub at_sign : ℕ
at_sign = byte "@"
