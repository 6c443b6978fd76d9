-- What stands at the places where no flag is: what holds of it, how many of it pass a test, and that it rises still.
use Rattle.std.proofs.Common.{◌≡◌, ℕ, zero, suc, ◌≤◌, Bool, true, false, List, [], ◌∷◌, length, Some, slice_get, inl, inr, refl, ap, subst, arith}
use Rattle.std.proofs.lemmas.Bool.{cases_Bool}
use Rattle.std.proofs.lemmas.Option.{none-some, same_Some}
use Rattle.std.specs.List.{AllByRecursion, filter}
use Rattle.std.specs.List.Sorted.{IsStrictlySortedBy}
use Rattle.std.specs.declared.cmp.Ordering.{Ordering}
use Rattle.std.specs.declared.cmp.Ordering.TheVariants.{Less}
use Rattle.ifmap_tellings.specs.Tellings.{kept_items}

-- what holds of each that has no flag holds of all that is left, and the other way round
pub kept_all : {X : Type 0} (P : X → Type 0) (gone : List Bool) (xs : List X)
    → ((i : ℕ) (x : X) → slice_get xs i ≡ Some x → slice_get gone i ≡ Some false → P x) → AllByRecursion P (kept_items gone xs)
kept_all P [] xs f = tt
kept_all P (g ∷ gone) [] f = tt
kept_all P (true ∷ gone) (x ∷ xs) f = kept_all P gone xs (λ i. f (suc i))
kept_all P (false ∷ gone) (x ∷ xs) f = (f zero x refl refl, kept_all P gone xs (λ i. f (suc i)))

pub all_kept : {X : Type 0} (P : X → Type 0) (gone : List Bool) (xs : List X) → AllByRecursion P (kept_items gone xs)
    → (i : ℕ) (x : X) → slice_get xs i ≡ Some x → slice_get gone i ≡ Some false → P x
all_kept P [] xs h i x e f = absurd (none-some false f)
all_kept P (g ∷ gone) [] h i x e f = absurd (none-some x e)
all_kept P (true ∷ gone) (y ∷ xs) h zero x e f = let wrong : true ≡ false = same_Some true false f in cc
all_kept P (true ∷ gone) (y ∷ xs) h (suc i) x e f = all_kept P gone xs h i x e f
all_kept P (false ∷ gone) (y ∷ xs) h zero x e f = subst P (same_Some y x e) h.0
all_kept P (false ∷ gone) (y ∷ xs) h (suc i) x e f = all_kept P gone xs h.1 i x e f

-- what holds of all holds of those that are left
pub all_left : {X : Type 0} (P : X → Type 0) (gone : List Bool) (xs : List X) → AllByRecursion P xs → AllByRecursion P (kept_items gone xs)
all_left P [] xs h = tt
all_left P (g ∷ gone) [] h = tt
all_left P (true ∷ gone) (x ∷ xs) h = all_left P gone xs h.1
all_left P (false ∷ gone) (x ∷ xs) h = (h.0, all_left P gone xs h.1)

-- where there is no flag, all are left
pub none_gone : {X : Type 0} (gone : List Bool) (xs : List X) → AllByRecursion (λ flag. flag ≡ false) gone → length gone ≡ length xs
    → kept_items gone xs ≡ xs
none_gone [] [] h e = refl
none_gone [] (x ∷ xs) h e = absurd (omega (arith, e))
none_gone (g ∷ gone) [] h e = absurd (omega (arith, e))
none_gone (g ∷ gone) (x ∷ xs) h e = rw h.0 (ap (λ t. x ∷ t) (none_gone gone xs h.1 (omega (arith, e))))

module _ {X : Type 0} where
  -- no more pass a test of those that are left
  pub fewer_kept : (p : X → Bool) (gone : List Bool) (xs : List X) → length (filter p (kept_items gone xs)) ≤ length (filter p xs)
  fewer_kept p [] xs = omega arith
  fewer_kept p (g ∷ gone) [] = omega arith
  fewer_kept p (true ∷ gone) (x ∷ xs) =
      let rest = fewer_kept p gone xs in
      elim (cases_Bool (p x)) [ inl hit ↦ rw hit (omega (arith, rest)) | inr miss ↦ rw miss rest ]
  fewer_kept p (false ∷ gone) (x ∷ xs) =
      let rest = fewer_kept p gone xs in
      elim (cases_Bool (p x)) [ inl hit ↦ rw hit (omega (arith, rest)) | inr miss ↦ rw miss rest ]

  -- those that are left rise still
  pub rising_kept : (cmp : X → X → Ordering) (gone : List Bool) (xs : List X) → IsStrictlySortedBy cmp xs
      → IsStrictlySortedBy cmp (kept_items gone xs)
  unfolding IsStrictlySortedBy
  rising_kept cmp [] xs up = tt
  rising_kept cmp (g ∷ gone) [] up = tt
  rising_kept cmp (true ∷ gone) (x ∷ xs) up = rising_kept cmp gone xs up.1
  rising_kept cmp (false ∷ gone) (x ∷ xs) up = (all_left (λ y. cmp x y ≡ Less) gone xs up.0, rising_kept cmp gone xs up.1)
