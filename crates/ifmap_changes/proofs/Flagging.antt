-- Flags at the places of subscriptions. First a walk that sets them one after the other (`flags_first`), and whether a serial is one of
-- some that rise. Then what flags of sessions are: as many as before (`as_many`), those that were set are still (`still_set`), what is
-- left is what is left of the machine's list (`left_without`), and nothing of sessions that are flagged
-- (`none_of_them`, `none_left`).
use Rattle.std.proofs.Common.{◌≡◌, ◌≢◌, ℕ, zero, suc, ◌==◌, ◌||◌, Bool, true, false, not, cond, Some, List, [], ◌∷◌, length, map, set, slice_get, Result, Ok, Err, refl, ap, ◌∙◌, sym, subst, arith}
use Rattle.std.proofs.lemmas.Bool.{eq-eqb}
use Rattle.std.proofs.lemmas.Cmp.{nat_cmp_total}
use Rattle.std.proofs.lemmas.Option.{same_Some, none-some}
use Rattle.std.specs.Cmp.{unsigned_tied}
use Rattle.std.specs.List.{list_any}
use Rattle.std.specs.List.Sorted.{IsBinarySearchResult, IsSearchInRange, IsStrictlySortedBy}
use Rattle.std.specs.Ordering.{nat_cmp}
use Rattle.std.specs.Result.{is_ok}
use Rattle.ifmap_changes.specs.Changes.{flags_with}
use Rattle.ifmap_tellings.specs.ifmap_machine.Ending.{without_standing}
use Rattle.ifmap_graph.specs.ifmap_plans.laws.PlacingLaws.{found_any, gap_none}
use Rattle.ifmap_tellings.specs.ifmap_standing.declared.standing.Standing.{Standing}
use Rattle.ifmap_tellings.specs.ifmap_standing.Standing.{standing_of}
use Rattle.ifmap_tellings.specs.Tellings.{AllKept, kept_items}

abbrev pub is_of : List ℕ → Standing → Bool
is_of serials x = list_any (λ n. n == x.serial) serials

-- ---- one after the other

-- the first so many flags, with those of the sessions; the others as before
abbrev pub gone_first : List ℕ → ℕ → List Bool → List Standing → List Bool
gone_first serials zero gone xs = gone
gone_first serials (suc n) [] xs = []
gone_first serials (suc n) (b ∷ gone) [] = b ∷ gone
gone_first serials (suc n) (b ∷ gone) (x ∷ xs) = (b || is_of serials x) ∷ gone_first serials n gone xs

abbrev pub flag_at : Bool → ℕ → List Bool → List Bool
flag_at b n gone = cond b (set gone n true) gone

pub flags_first : (serials : List ℕ) (n : ℕ) (gone : List Bool) (xs : List Standing) (x : Standing) → length gone ≡ length xs
    → slice_get xs n ≡ Some x → flag_at (is_of serials x) n (gone_first serials n gone xs) ≡ gone_first serials (suc n) gone xs
flags_first serials n gone [] x long at = absurd (none-some x at)
flags_first serials n [] (y ∷ xs) x long at = absurd (omega (arith, long))
flags_first serials zero (b ∷ gone) (y ∷ xs) x long at =
    subst (λ z. flag_at (is_of serials z) 0 (b ∷ gone) ≡ (b || is_of serials y) ∷ gone) (same_Some y x at) (by b (is_of serials y))
  where
    by : (c d : Bool) → flag_at d 0 (c ∷ gone) ≡ (c || d) ∷ gone
    by true true = refl
    by true false = refl
    by false true = refl
    by false false = refl
flags_first serials (suc n) (b ∷ gone) (y ∷ xs) x long at =
    by (is_of serials x) (gone_first serials n gone xs)
    ∙ ap (λ l. (b || is_of serials y) ∷ l) (flags_first serials n gone xs x (omega (arith, long)) at)
  where
    by : (d : Bool) (l : List Bool) → flag_at d (suc n) ((b || is_of serials y) ∷ l) ≡ (b || is_of serials y) ∷ flag_at d n l
    by true l = refl
    by false l = refl

pub all_flagged : (serials : List ℕ) (n : ℕ) (gone : List Bool) (xs : List Standing) → length gone ≡ length xs → n ≡ length xs
    → gone_first serials n gone xs ≡ flags_with serials gone xs
all_flagged serials zero [] [] long e = refl
all_flagged serials zero (b ∷ gone) [] long e = absurd (omega (arith, long))
all_flagged serials zero gone (x ∷ xs) long e = absurd (omega (arith, e))
all_flagged serials (suc n) gone [] long e = absurd (omega (arith, e))
all_flagged serials (suc n) [] (x ∷ xs) long e = absurd (omega (arith, long))
all_flagged serials (suc n) (b ∷ gone) (x ∷ xs) long e =
    ap (λ l. (b || is_of serials x) ∷ l) (all_flagged serials n gone xs (omega (arith, long)) (omega (arith, e)))

pub as_many_first : (serials : List ℕ) (n : ℕ) (gone : List Bool) (xs : List Standing) → length (gone_first serials n gone xs) ≡ length gone
as_many_first serials zero gone xs = refl
as_many_first serials (suc n) [] xs = refl
as_many_first serials (suc n) (b ∷ gone) [] = refl
as_many_first serials (suc n) (b ∷ gone) (x ∷ xs) = ap suc (as_many_first serials n gone xs)

-- where a search among numbers that rise ends
pub among : (serial : ℕ) (serials : List ℕ) (r : Result ℕ ℕ) → IsStrictlySortedBy nat_cmp serials → IsSearchInRange r (length serials)
    → IsBinarySearchResult (λ n. nat_cmp n serial) serials r → is_ok r ≡ list_any (λ n. n == serial) serials
among serial serials (Ok i) up within is =
    sym (found_any ℕ nat_cmp nat_cmp_total serial serials i within is) ∙ (λ k. list_any (λ n. unsigned_tied n serial k) serials)
among serial serials (Err i) up within is =
    sym (gap_none ℕ nat_cmp nat_cmp_total serial serials i up within is) ∙ (λ k. list_any (λ n. unsigned_tied n serial k) serials)

-- ---- what they are

pub as_many : (serials : List ℕ) (gone : List Bool) (xs : List Standing) → length gone ≡ length xs
    → length (flags_with serials gone xs) ≡ length xs
as_many serials [] [] long = refl
as_many serials (b ∷ gone) [] long = absurd (omega (arith, long))
as_many serials [] (x ∷ xs) long = absurd (omega (arith, long))
as_many serials (b ∷ gone) (x ∷ xs) long = ap suc (as_many serials gone xs (omega (arith, long)))

pub still_set : (serials : List ℕ) (gone : List Bool) (xs : List Standing) → length gone ≡ length xs → (i : ℕ)
    → slice_get gone i ≡ Some true → slice_get (flags_with serials gone xs) i ≡ Some true
still_set serials [] xs long i e = absurd (none-some true e)
still_set serials (b ∷ gone) [] long i e = absurd (omega (arith, long))
still_set serials (b ∷ gone) (x ∷ xs) long zero e = ap (λ c. Some (c || is_of serials x)) (same_Some b true e)
still_set serials (b ∷ gone) (x ∷ xs) long (suc i) e = still_set serials gone xs (omega (arith, long)) i e

pub left_without : (serials : List ℕ) (gone : List Bool) (xs : List Standing)
    → map standing_of (kept_items (flags_with serials gone xs) xs) ≡ without_standing serials (map standing_of (kept_items gone xs))
left_without serials [] xs = refl
left_without serials (b ∷ gone) [] = refl
left_without serials (true ∷ gone) (x ∷ xs) = left_without serials gone xs
left_without serials (false ∷ gone) (x ∷ xs) = by (is_of serials x) (left_without serials gone xs)
  where
    by : (d : Bool) → map standing_of (kept_items (flags_with serials gone xs) xs)
        ≡ without_standing serials (map standing_of (kept_items gone xs))
        → map standing_of (kept_items (d ∷ flags_with serials gone xs) (x ∷ xs))
        ≡ cond (not d) (standing_of x ∷ without_standing serials (map standing_of (kept_items gone xs)))
        (without_standing serials (map standing_of (kept_items gone xs)))
    by true rest = rest
    by false rest = ap (λ l. standing_of x ∷ l) rest

pub none_of_them : (serials : List ℕ) (gone : List Bool) (xs : List Standing)
    → AllKept (λ x. is_of serials x ≡ false) (flags_with serials gone xs) xs
none_of_them serials [] xs i x at flag = absurd (none-some false flag)
none_of_them serials (b ∷ gone) [] i x at flag = absurd (none-some x at)
none_of_them serials (b ∷ gone) (y ∷ xs) (suc i) x at flag = none_of_them serials gone xs i x at flag
none_of_them serials (b ∷ gone) (y ∷ xs) zero x at flag =
    by b (is_of serials x) (subst (λ z. (b || is_of serials z) ≡ false) (same_Some y x at)
    (same_Some (b || is_of serials y) false flag))
  where
    by : (c d : Bool) → (c || d) ≡ false → d ≡ false
    by true d u = cc
    by false d u = u

pub none_left : (serial : ℕ) (gone : List Bool) (xs : List Standing)
    → AllKept (λ x. x.serial ≢ serial) (flags_with (serial ∷ []) gone xs) xs
none_left serial [] xs i x at flag = absurd (none-some false flag)
none_left serial (b ∷ gone) [] i x at flag = absurd (none-some x at)
none_left serial (b ∷ gone) (y ∷ xs) (suc i) x at flag = none_left serial gone xs i x at flag
none_left serial (b ∷ gone) (y ∷ xs) zero x at flag = λ e.
    let own : y.serial ≡ serial = ap (λ (z : Standing). z.serial) (same_Some y x at) ∙ e in
    let hit : (serial == y.serial) ≡ true = eq-eqb serial y.serial (sym own) in
    let unset : (b || ((serial == y.serial) || false)) ≡ false = same_Some (b || ((serial == y.serial) || false)) false flag in
    by b (serial == y.serial) hit unset
  where
    by : (c d : Bool) → d ≡ true → (c || (d || false)) ≡ false → ⊥
    by true d h u = cc
    by false true h u = cc
    by false false h u = cc
