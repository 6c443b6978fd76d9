-- Whether a list has members: a test of it, and what the test of the length against none tells.
use Rattle.std.proofs.Common.{◌≡◌, ◌≢◌, ◌==◌, Bool, true, false, List, [], ◌∷◌, length, refl, arith}
use Rattle.std.proofs.lemmas.Bool.Decides.{nat_tests}

pub nothing_in : {X : Type 0} (l : List X) → (length l == 0) ≡ true → l ≡ []
nothing_in [] e = refl
nothing_in (x ∷ xs) e = absurd (grind (arith, nat_tests))

pub some_there : {X : Type 0} (l : List X) → (length l == 0) ≡ false → l ≢ []
some_there [] e n = absurd (grind (arith, nat_tests))
some_there (x ∷ xs) e n = cc

-- a list with a first member is not empty
pub first_there : {X : Type 0} (x : X) (xs : List X) → x ∷ xs ≢ []
first_there x xs e = cc

-- there is a member
abbrev pub is_not_empty : {X : Type 0} → List X → Bool
is_not_empty [] = false
is_not_empty (x ∷ xs) = true

pub full_some : {X : Type 0} (l : List X) → is_not_empty l ≡ true → l ≢ []
full_some [] e n = cc
full_some (x ∷ xs) e n = cc

pub some_full : {X : Type 0} (l : List X) → l ≢ [] → is_not_empty l ≡ true
some_full [] n = absurd (n refl)
some_full (x ∷ xs) n = refl
