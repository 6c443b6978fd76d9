-- A law on the longest front of characters that pass a test.
use Rattle.std.specs.Prelude.{ℕ, Bool, List, [], ◌∷◌}
use Rattle.ifmap_lemmas.specs.Branches.{if_either}
use Rattle.ifmap_elem.specs.Chars.{AllAre}
use Rattle.ifmap_filter.specs.Tokens.{front_while}

-- each of its characters passes
pub front_passes : (p : ℕ → Bool) (cs : List ℕ) → AllAre p (front_while p cs)
front_passes p [] = tt
front_passes p (c ∷ cs) =
    if_either (AllAre p) (p c) (c ∷ front_while p cs) [] (λ e. (e, front_passes p cs)) (λ e. tt)
