-- Flags beside a list, one for each place. First the flags that a walk has turned so far where a test passes (`flags_to`): one place on,
-- and at the end (`flags_all`). Then what flags tell that stay, where more are turned (`was_kept`, `kept_later`).
use Rattle.std.proofs.Common.{◌≡◌, ℕ, zero, suc, ◌+◌, ◌||◌, Bool, true, false, List, [], ◌∷◌, length, map, set, Some, slice_get, refl, sym, ◌∙◌, ap, arith}
use Rattle.std.proofs.Math.Bool.{or-false}
use Rattle.std.proofs.lemmas.Bool.{or_parts, or_right}
use Rattle.std.proofs.lemmas.Option.{none-some, same_Some}
use Rattle.std.specs.List.{zip}
use Rattle.ifmap_lemmas.specs.Places.{something_at}

module _ {X : Type 0} (test : X → Bool) where
  -- the flags, turned at the first n places whose element passes the test
  abbrev pub flags_to : ℕ → List Bool → List X → List Bool
  flags_to zero flags xs = flags
  flags_to (suc n) [] xs = []
  flags_to (suc n) (flag ∷ flags) [] = flag ∷ flags
  flags_to (suc n) (flag ∷ flags) (x ∷ xs) = (flag || test x) ∷ flags_to n flags xs

  pub flags_long : (n : ℕ) (flags : List Bool) (xs : List X) → length (flags_to n flags xs) ≡ length flags
  flags_long zero flags xs = refl
  flags_long (suc n) [] xs = refl
  flags_long (suc n) (flag ∷ flags) [] = refl
  flags_long (suc n) (flag ∷ flags) (x ∷ xs) = ap (λ m. suc m) (flags_long n flags xs)

  pub flag_stays : (n : ℕ) (flags : List Bool) (xs : List X) (x : X) → slice_get xs n ≡ Some x → test x ≡ false
      → flags_to (n + 1) flags xs ≡ flags_to n flags xs
  flag_stays n flags xs x e no_flag = ap (λ m. flags_to m flags xs) (let s : n + 1 ≡ suc n = omega arith in s) ∙ go n flags xs e
    where
      go : (n : ℕ) (flags : List Bool) (xs : List X) → slice_get xs n ≡ Some x → flags_to (suc n) flags xs ≡ flags_to n flags xs
      go n flags [] e = absurd (none-some x e)
      go zero [] (y ∷ xs) e = refl
      go zero (flag ∷ flags) (y ∷ xs) e =
          ap (λ b. b ∷ flags) (ap (λ b. flag || b) (ap test (same_Some y x e) ∙ no_flag) ∙ or-false flag)
      go (suc n) [] (y ∷ xs) e = refl
      go (suc n) (flag ∷ flags) (y ∷ xs) e = ap (λ l. (flag || test y) ∷ l) (go n flags xs e)

  pub flag_turns : (n : ℕ) (flags : List Bool) (xs : List X) (x : X) → slice_get xs n ≡ Some x → test x ≡ true
      → flags_to (n + 1) flags xs ≡ set (flags_to n flags xs) n true
  flag_turns n flags xs x e flagged = ap (λ m. flags_to m flags xs) (let s : n + 1 ≡ suc n = omega arith in s) ∙ go n flags xs e
    where
      go : (n : ℕ) (flags : List Bool) (xs : List X) → slice_get xs n ≡ Some x
          → flags_to (suc n) flags xs ≡ set (flags_to n flags xs) n true
      go n flags [] e = absurd (none-some x e)
      go zero [] (y ∷ xs) e = refl
      go zero (flag ∷ flags) (y ∷ xs) e = ap (λ b. b ∷ flags) (or_right flag (test y) (ap test (same_Some y x e) ∙ flagged))
      go (suc n) [] (y ∷ xs) e = refl
      go (suc n) (flag ∷ flags) (y ∷ xs) e = ap (λ l. (flag || test y) ∷ l) (go n flags xs e)

  pub flags_all : (n : ℕ) (flags : List Bool) (xs : List X) → n ≡ length xs → length flags ≡ length xs
      → flags_to n flags xs ≡ map (λ (p : Bool × X). p.0 || test p.1) (zip flags xs)
  flags_all zero [] [] e long = refl
  flags_all zero (flag ∷ flags) [] e long = absurd (omega (arith, long))
  flags_all zero flags (x ∷ xs) e long = absurd (omega (arith, e))
  flags_all (suc n) [] xs e long = refl
  flags_all (suc n) (flag ∷ flags) [] e long = absurd (omega (arith, e))
  flags_all (suc n) (flag ∷ flags) (x ∷ xs) e long =
      ap (λ l. (flag || test x) ∷ l) (flags_all n flags xs (omega (arith, e)) (omega (arith, long)))

-- where a flag is not turned, the test fails
pub unturned_fails : {X : Type 0} (test : X → Bool) (flags : List Bool) (xs : List X) (i : ℕ) (x : X) → slice_get xs i ≡ Some x
    → slice_get (map (λ (p : Bool × X). p.0 || test p.1) (zip flags xs)) i ≡ Some false → test x ≡ false
unturned_fails test flags [] i x e off = absurd (none-some x e)
unturned_fails test [] (y ∷ xs) i x e off = absurd (none-some false off)
unturned_fails test (flag ∷ flags) (y ∷ xs) zero x e off =
    sym (ap test (same_Some y x e)) ∙ (or_parts flag (test y) (same_Some (flag || test y) false off)).1
unturned_fails test (flag ∷ flags) (y ∷ xs) (suc i) x e off = unturned_fails test flags xs i x e off

-- flags stay where more are turned
pub flags_stay : {X : Type 0} (test : X → Bool) (gone : List Bool) (xs : List X) → length gone ≡ length xs → (i : ℕ)
    → slice_get gone i ≡ Some true → slice_get (map (λ (p : Bool × X). p.0 || test p.1) (zip gone xs)) i ≡ Some true
flags_stay test [] xs long i e = absurd (none-some true e)
flags_stay test (g ∷ gone) [] long i e = absurd (omega (arith, long))
flags_stay test (true ∷ gone) (x ∷ xs) long zero e = refl
flags_stay test (false ∷ gone) (x ∷ xs) long zero e = let wrong : false ≡ true = same_Some false true e in cc
flags_stay test (g ∷ gone) (x ∷ xs) long (suc i) e = flags_stay test gone xs (omega (arith, long)) i e

-- where flags stay, what has none had none
pub was_kept : (old new : List Bool) → length new ≡ length old → ((i : ℕ) → slice_get old i ≡ Some true → slice_get new i ≡ Some true)
    → (i : ℕ) → slice_get new i ≡ Some false → slice_get old i ≡ Some false
was_kept [] [] e up i q = absurd (none-some false q)
was_kept [] (b ∷ new) e up i q = absurd (omega (arith, e))
was_kept (a ∷ old) [] e up i q = absurd (none-some false q)
was_kept (true ∷ old) (b ∷ new) e up zero q =
    let bad : true ≡ false = same_Some true false (sym (up zero refl) ∙ q) in cc
was_kept (false ∷ old) (b ∷ new) e up zero q = refl
was_kept (a ∷ old) (b ∷ new) e up (suc i) q = was_kept old new (omega (arith, e)) (λ j k. up (suc j) k) i q

-- what holds without a flag holds of what comes in its place, where flags stay
pub kept_later : {X : Type 0} (P Q : X → Type 0) (gone after : List Bool) (old new : List X) → length gone ≡ length old
    → length new ≡ length old → ((i : ℕ) (x y : X) → slice_get old i ≡ Some x → slice_get new i ≡ Some y → P x → Q y)
    → ((i : ℕ) → slice_get gone i ≡ Some true → slice_get after i ≡ Some true)
    → ((i : ℕ) (x : X) → slice_get old i ≡ Some x → slice_get gone i ≡ Some false → P x)
    → (i : ℕ) (y : X) → slice_get new i ≡ Some y → slice_get after i ≡ Some false → Q y
kept_later {X} P Q gone after old new flags long goes stays h i y here none =
    let x = something_at new old i y (sym long) here
    in let g = something_at old gone i x.0 flags x.1
    in at g.0 g.1 x.0 x.1
  where
    at : (b : Bool) → slice_get gone i ≡ Some b → (x : X) → slice_get old i ≡ Some x → Q y
    at true flag x here = let wrong : true ≡ false = same_Some true false (sym (stays i flag) ∙ none) in cc
    at false flag x was = goes i x y was here (h i x was flag)
