-- Lists of numbers that are cut at the first of one number.
use Rattle.std.proofs.Common.{◌≡◌, ◌≢◌, ℕ, zero, suc, ◌<◌, List, [], ◌∷◌, ◌++◌, length, get_or, cond, eqb, arith, refl, ap}
use Rattle.std.proofs.lemmas.Bool.{ne_eqb, eq-eqb}

-- none of these is c
abbrev pub Without : ℕ → List ℕ → Type 0
Without c [] = Unit {0}
Without c (x ∷ xs) = (x ≢ c) × Without c xs

pub without_from : (c : ℕ) (xs : List ℕ) → ((k : ℕ) → k < length xs → get_or xs k 0 ≢ c) → Without c xs
without_from c [] f = tt
without_from c (x ∷ xs) f = (f 0 (omega arith), without_from c xs (λ k h. f (suc k) (omega arith)))

pub without_at : (c : ℕ) (xs : List ℕ) → Without c xs → (k : ℕ) → k < length xs → get_or xs k 0 ≢ c
without_at c [] w k h = absurd (omega arith)
without_at c (x ∷ xs) w zero h = w.0
without_at c (x ∷ xs) w (suc k) h = without_at c xs w.1 k (omega arith)

pub without_append : (c : ℕ) (xs ys : List ℕ) → Without c xs → Without c ys → Without c (xs ++ ys)
without_append c [] ys w v = v
without_append c (x ∷ xs) ys w v = (w.0, without_append c xs ys w.1 v)

-- what stands before the first c, and what stands after it
abbrev pub before : ℕ → List ℕ → List ℕ
before c [] = []
before c (x ∷ xs) = cond (eqb x c) [] (x ∷ before c xs)

abbrev pub after : ℕ → List ℕ → List ℕ
after c [] = []
after c (x ∷ xs) = cond (eqb x c) xs (after c xs)

pub before_at : (c : ℕ) (xs ys : List ℕ) → Without c xs → before c (xs ++ c ∷ ys) ≡ xs
before_at c [] ys w = rw (eq-eqb c c refl) refl
before_at c (x ∷ xs) ys w = rw (ne_eqb x c w.0) (ap (λ (l : List ℕ). x ∷ l) (before_at c xs ys w.1))

pub after_at : (c : ℕ) (xs ys : List ℕ) → Without c xs → after c (xs ++ c ∷ ys) ≡ ys
after_at c [] ys w = rw (eq-eqb c c refl) refl
after_at c (x ∷ xs) ys w = rw (ne_eqb x c w.0) (after_at c xs ys w.1)

-- the first c after a text without c is the one that follows it
pub first_is : (c : ℕ) (xs ys : List ℕ) (k : ℕ) → Without c xs → get_or (xs ++ c ∷ ys) k 0 ≡ c
    → ((j : ℕ) → j < k → get_or (xs ++ c ∷ ys) j 0 ≢ c) → k < length (xs ++ c ∷ ys) → k ≡ length xs
first_is c [] ys zero w at first within = refl
first_is c [] ys (suc k) w at first within = absurd (first 0 (omega arith) refl)
first_is c (x ∷ xs) ys zero w at first within = absurd (w.0 at)
first_is c (x ∷ xs) ys (suc k) w at first within = ap suc (first_is c xs ys k w.1 at (λ j h. first (suc j) (omega arith)) (omega arith))
