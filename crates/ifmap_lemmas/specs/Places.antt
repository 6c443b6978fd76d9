-- What stands at each place of a list.
use Rattle.std.proofs.Common.{◌≡◌, ◌≢◌, ℕ, zero, suc, ◌<◌, List, [], ◌∷◌, ◌++◌, get_or, length, set, Option, None, Some, Bor, refl, sym, ap, subst, arith}
use Rattle.std.proofs.lemmas.Bool.{ltb-false, ltb-true}
use Rattle.std.proofs.lemmas.Option.{none-some, same_Some, slice_get_past, slice_get_read}
use Rattle.std.specs.List.{AllByRecursion, slice_get}
use Rattle.std.specs.Option.{option_copied}
use Rattle.std.specs.Prelude.{IfSome, is_some, nat_lt}

-- a list in which one place is written
pub written_there : {X : Type 0} (xs : List X) (i : ℕ) (y : X) → i < length xs → slice_get (set xs i y) i ≡ Some y
written_there [] i y less = absurd (omega (arith, less))
written_there (x ∷ xs) zero y less = refl
written_there (x ∷ xs) (suc i) y less = written_there xs i y (omega (arith, less))

pub written_elsewhere : {X : Type 0} (xs : List X) (i j : ℕ) (y : X) → j ≢ i → slice_get (set xs i y) j ≡ slice_get xs j
written_elsewhere [] i j y n = refl
written_elsewhere (x ∷ xs) zero zero y n = absurd (n refl)
written_elsewhere (x ∷ xs) zero (suc j) y n = refl
written_elsewhere (x ∷ xs) (suc i) zero y n = refl
written_elsewhere (x ∷ xs) (suc i) (suc j) y n = written_elsewhere xs i j y (λ e. n (ap suc e))

-- the last of a list
pub last_there : {X : Type 0} (xs : List X) (x : X) → slice_get (xs ++ x ∷ []) (length xs) ≡ Some x
last_there [] x = refl
last_there (y ∷ xs) x = last_there xs x

-- a list as long as another has something at each place of that one
pub something_at : {X Y : Type 0} (xs : List X) (ys : List Y) (i : ℕ) (x : X) → length ys ≡ length xs → slice_get xs i ≡ Some x
    → (y : Y) × (slice_get ys i ≡ Some y)
something_at [] ys i x long e = absurd (none-some x e)
something_at (a ∷ xs) [] i x long e = absurd (omega (arith, long))
something_at (a ∷ xs) (b ∷ ys) zero x long e = (b, refl)
something_at (a ∷ xs) (b ∷ ys) (suc i) x long e = something_at xs ys i x (omega (arith, long)) e

-- what holds of each member holds of the one at a place
pub all_got : {X : Type 0} (P : X → Type 0) (xs : List X) (i : ℕ) (x : X) → AllByRecursion P xs → slice_get xs i ≡ Some x → P x
all_got P [] i x h e = absurd (none-some x e)
all_got P (a ∷ xs) zero x h e = subst P (same_Some a x e) h.0
all_got P (a ∷ xs) (suc i) x h e = all_got P xs i x h.1 e

-- a copy of what was looked up at a place is what stands there
pub copied_there : {X : Type 0} (xs : List X) (n : ℕ) (r : Option (Bor X)) → is_some r ≡ nat_lt n (length xs)
    → IfSome r (λ x. x.now ≡ get_or xs n x.now) → option_copied r ≡ slice_get xs n
copied_there xs n None e h = sym (slice_get_past xs n (ltb-false n (length xs) (sym e)))
copied_there xs n (Some x) e h = sym (slice_get_read xs (length xs) n x.now refl (ltb-true n (length xs) (sym e)) h)
