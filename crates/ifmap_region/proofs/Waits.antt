-- Lists that rise by level.
use Rattle.std.proofs.Common.{◌≡◌, ◌≢◌, ℕ, ◌+◌, ◌<◌, ◌≤◌, List, length, get_or, drop, All, sym, ap, ◌∙◌, arith, length-drop, get_or-drop}
use Rattle.std.proofs.lemmas.List.{get_or_default}
use Rattle.std.specs.List.Sorted.{IsNonDecreasingBy}

-- what is left from a place on is no lower than what stands there
pub first_least : (xs : List (ℕ × ℕ)) (i : ℕ) → IsNonDecreasingBy (λ p. p.0) xs → i < length xs → (e : ℕ × ℕ) → e ≡ get_or xs i e
    → All (λ s. e.0 ≤ s.0) (drop i xs)
first_least xs i up lt e is k d h =
    let within : i + k < length xs = omega (arith, h, length-drop i xs) in
    let here : (get_or xs i d).0 ≤ (get_or xs (i + k) d).0 = up i (i + k) d (omega arith) within in
    let first : e.0 ≡ (get_or xs i d).0 = ap (λ (p : ℕ × ℕ). p.0) (is ∙ get_or_default xs i e d lt) in
    let there : (get_or (drop i xs) k d).0 ≡ (get_or xs (i + k) d).0 = ap (λ (p : ℕ × ℕ). p.0) (get_or-drop i xs k d) in
    omega (arith, here, first, there)

-- where the first of what is left is above a level that is below none, all are above it
pub all_above : (xs : List (ℕ × ℕ)) (i : ℕ) → IsNonDecreasingBy (λ p. p.0) xs → i < length xs → (e : ℕ × ℕ) → e ≡ get_or xs i e
    → (level : ℕ) → e.0 ≢ level → All (λ s. level ≤ s.0) (drop i xs) → All (λ s. level < s.0) (drop i xs)
all_above xs i up lt e is level apart all k d h =
    let least = first_least xs i up lt e is in
    let zero_there : 0 < length (drop i xs) = omega (arith, h) in
    let at_first : level ≤ (get_or (drop i xs) 0 d).0 = all 0 d zero_there in
    let same : (get_or (drop i xs) 0 d).0 ≡ e.0 = ap (λ (p : ℕ × ℕ). p.0) (get_or-drop i xs 0 d ∙ ap (λ (n : ℕ). get_or xs n d) (omega
    arith) ∙ sym (is ∙ get_or_default xs i e d lt)) in
    let this : e.0 ≤ (get_or (drop i xs) k d).0 = least k d h in
    omega (arith, at_first, same, this, apart)

-- a level below none of what is left is not above the first
pub below_first : (xs : List (ℕ × ℕ)) (i : ℕ) → i < length xs → (e : ℕ × ℕ) → e ≡ get_or xs i e
    → (floor : ℕ) → All (λ s. floor ≤ s.0) (drop i xs) → floor ≤ e.0
below_first xs i lt e is floor all =
    let some : 0 < length (drop i xs) = omega (arith, lt, length-drop i xs) in
    let at_first : floor ≤ (get_or (drop i xs) 0 e).0 = all 0 e some in
    let same : (get_or (drop i xs) 0 e).0 ≡ e.0 = ap (λ (p : ℕ × ℕ). p.0) (get_or-drop i xs 0 e ∙ ap (λ (n : ℕ). get_or xs n e) (omega
    arith) ∙ sym is) in
    omega (arith, at_first, same)
