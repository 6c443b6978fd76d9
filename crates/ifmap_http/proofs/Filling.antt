-- A body that is filled piece by piece.
use Rattle.std.proofs.Common.{◌≡◌, ℕ, ◌+◌, ◌<◌, ◌≤◌, List, ◌++◌, length, take, sym, ap, ◌∙◌, arith, append_assoc, length-append, length-take}
use Rattle.std.specs.Prelude.{Option}
use Rattle.std.specs.Io.KnownBytes.{Consumes}
use Rattle.std.proofs.KnownBytes.{Consumes-trans}
use Rattle.std.proofs.Math.Seq.{take-append-add}
use Rattle.std.proofs.lemmas.List.{take-append-le, take-take}

pub filled_by : (items room t1 t2 : List ℕ) (filled count len : ℕ) → filled ≤ length items → filled + count ≤ len → count ≤ length room
    → take (filled + count) (take len ((take filled items ++ (room ++ t1)) ++ t2)) ≡ take filled items ++ take count room
filled_by items room t1 t2 filled count len within fits given =
    let front = take filled items in
    let size : length front ≡ filled = omega (arith, length-take filled items) in
    let inner : count ≤ length (room ++ t1) = omega (arith, length-append room t1) in
    take-take (filled + count) len ((front ++ (room ++ t1)) ++ t2) fits
    ∙ ap (take (filled + count)) (append_assoc front (room ++ t1) t2)
    ∙ ap (λ (n : ℕ). take (n + count) (front ++ ((room ++ t1) ++ t2))) (sym size)
    ∙ take-append-add front ((room ++ t1) ++ t2) count
    ∙ ap (λ (xs : List ℕ). front ++ xs) (take-append-le count (room ++ t1) t2 inner ∙ take-append-le count room t1 given)

-- where the source has ended, what was got is all that there is, and it is too short
pub body_lacks : (left_old left_mid left_new : Option (List ℕ)) (body got more items new : List ℕ) (filled size : ℕ)
    → Consumes left_old left_mid got → Consumes left_mid left_new more → take filled items ≡ body ++ got
    → take (filled + 0) new ≡ take filled items ++ more → filled < size
    → (x : List ℕ) × Consumes left_old left_new x × (length (body ++ x) < size)
body_lacks left_old left_mid left_new body got more items new filled size a b is grown lacks =
    let whole : take (filled + 0) new ≡ body ++ (got ++ more) = grown ∙ ap (λ (xs : List ℕ). xs ++ more) is ∙ append_assoc body got more in
    (got ++ more, Consumes-trans left_old left_mid left_new got more a b, omega (arith, ap length whole, length-take (filled + 0) new))
