-- Lists that are related at each place: what a sum and a property of all make of them. Last, properties of what is not gone.
use Rattle.std.proofs.Common.{◌≡◌, ℕ, suc, Bool, true, false, true≢false, Some, List, [], ◌∷◌, length, slice_get, refl, ◌∙◌, sym, arith}
use Rattle.std.proofs.lemmas.List.Sums.{sum_by-cons}
use Rattle.std.proofs.lemmas.Option.{same_Some}
use Rattle.std.specs.List.{AllByRecursion, sum_by}
use Rattle.ifmap_lemmas.specs.Places.{something_at}
use Rattle.ifmap_tellings.specs.ifmap_standing.declared.standing.Standing.{Standing}
use Rattle.ifmap_tellings.specs.ifmap_standing.Kept.{AtEach}
use Rattle.ifmap_tellings.specs.ifmap_standing.PlaceLaws.{at_each_rest}
use Rattle.ifmap_tellings.specs.Tellings.{AllKept}

module _ {X : Type 0} where
  pub same_sum : (f : X → ℕ) (R : ℕ → X → X → Type 0) → ((i : ℕ) (x y : X) → R i x y → f y ≡ f x) → (old new : List X)
      → AtEach R old new → sum_by f new ≡ sum_by f old
  same_sum f R s [] [] r = refl
  same_sum f R s [] (y ∷ new) r = absurd (omega (arith, r.long))
  same_sum f R s (x ∷ old) [] r = absurd (omega (arith, r.long))
  same_sum f R s (x ∷ old) (y ∷ new) r =
      omega (
        arith,
        sum_by-cons f x old,
        sum_by-cons f y new,
        s 0 x y (r.at 0 x y refl refl),
        same_sum f (λ i. R (suc i)) (λ i. s (suc i)) old new (at_each_rest R x y old new r),
      )

  pub same_all : (P Q : X → Type 0) (R : ℕ → X → X → Type 0) → ((i : ℕ) (x y : X) → R i x y → P x → Q y) → (old new : List X)
      → AtEach R old new → AllByRecursion P old → AllByRecursion Q new
  same_all P Q R f [] [] r h = tt
  same_all P Q R f [] (y ∷ new) r h = absurd (omega (arith, r.long))
  same_all P Q R f (x ∷ old) [] r h = absurd (omega (arith, r.long))
  same_all P Q R f (x ∷ old) (y ∷ new) r h = (
    f 0 x y (r.at 0 x y refl refl) h.0,
    same_all P Q (λ i. R (suc i)) (λ i. f (suc i)) old new (at_each_rest R x y old new r) h.1,
  )

-- and of each that is not gone later
pub less_kept : (P : Standing → Type 0) (gone more : List Bool) (standing : List Standing) → length gone ≡ length standing
    → ((i : ℕ) → slice_get gone i ≡ Some true → slice_get more i ≡ Some true) → AllKept P gone standing → AllKept P more standing
less_kept P gone more standing long stay k = λ i x at flag.
    let b = something_at standing gone i x long at in k i x at (by i b.0 b.1 flag)
  where
    by : (i : ℕ) (b : Bool) → slice_get gone i ≡ Some b → slice_get more i ≡ Some false → slice_get gone i ≡ Some false
    by i true is flag = let e : Some true ≡ Some false = sym (stay i is) ∙ flag in absurd (true≢false (same_Some true false e))
    by i false is flag = is
