-- Words that are options.
use Rattle.std.specs.Prelude.{ℕ, ◌==◌, Bool, false, List, [], ◌∷◌}
use Rattle.std.specs.Str.{byte}

-- the word begins with a hyphen
abbrev pub is_option : List ℕ → Bool
is_option [] = false
is_option (c ∷ cs) = c == byte "-"
