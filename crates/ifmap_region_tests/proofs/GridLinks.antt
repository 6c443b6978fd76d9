-- The links of the grid are symmetric.
use Rattle.std.proofs.Common.{◌≡◌, ℕ, zero, suc, ◌+◌, ◌-◌, ◌/◌, ◌%◌, ◌<◌, ◌≤◌, Bool, true, false, Option, Some, None, cond, refl, sym, ap, ◌∙◌, arith, true≢false, ◌&&◌, ◌||◌}
use Rattle.std.specs.Prelude.{nat_lt, ◌==◌, if◌then◌else◌}
use Rattle.std.proofs.lemmas.Option.{same_Some, none-some, cond_some}
use Rattle.std.proofs.lemmas.Bool.{ltb-true, lt-ltb, and_parts, and_from}
use Rattle.ifmap_region.specs.Links.{Linked, IsSymmetric}
use Rattle.ifmap_region_tests.specs.Grid.{beside, is_corner, unless_cut, grid_link}

beside_back : (v w i : ℕ) → beside v i ≡ Some w → (j : ℕ) × (j < 4) × (beside w j ≡ Some v)
beside_back v w zero e =
    let p = cond_some (nat_lt (v % 128) 99) (v + 1) w e in
    let t : v % 128 < 99 = ltb-true (v % 128) 99 p.0 in
    let low : 0 < w % 128 = omega (arith, t, p.1) in
    let high : w % 128 < 100 = omega (arith, t, p.1) in (
      1,
      omega arith,
      ap (λ (b : Bool). if b then Some (w - 1) else None) (and_from (nat_lt 0 (w % 128)) (nat_lt (w % 128) 100) (lt-ltb 0
          (w % 128) low) (lt-ltb (w % 128) 100 high)) ∙ ap Some (omega (arith, p.1)),
    )
beside_back v w (suc zero) e =
    let p = cond_some (nat_lt 0 (v % 128) && nat_lt (v % 128) 100) (v - 1) w e in
    let q = and_parts (nat_lt 0 (v % 128)) (nat_lt (v % 128) 100) p.0 in
    let low : 0 < v % 128 = ltb-true 0 (v % 128) q.0 in
    let high : v % 128 < 100 = ltb-true (v % 128) 100 q.1 in
    let at : w % 128 < 99 = omega (arith, low, high, p.1) in
    (0, omega arith, ap (λ (b : Bool). if b then Some (w + 1) else None) (lt-ltb (w % 128) 99 at) ∙ ap Some (omega (arith, low, p.1)))
beside_back v w (suc (suc zero)) e =
    let p = cond_some (nat_lt (v / 128) 99) (v + 128) w e in
    let t : v / 128 < 99 = ltb-true (v / 128) 99 p.0 in
    let low : 127 < w = omega (arith, p.1) in
    let high : w < 12800 = omega (arith, t, p.1) in (
      3,
      omega arith,
      ap (λ (b : Bool). if b then Some (w - 128) else None) (and_from (nat_lt 127 w) (nat_lt w 12800) (lt-ltb 127 w low)
          (lt-ltb w 12800 high)) ∙ ap Some (omega (arith, p.1)),
    )
beside_back v w (suc (suc (suc i))) e =
    let p = cond_some (nat_lt 127 v && nat_lt v 12800) (v - 128) w e in
    let q = and_parts (nat_lt 127 v) (nat_lt v 12800) p.0 in
    let low : 127 < v = ltb-true 127 v q.0 in
    let high : v < 12800 = ltb-true v 12800 q.1 in
    let at : w / 128 < 99 = omega (arith, low, high, p.1) in
    (2, omega arith, ap (λ (b : Bool). if b then Some (w + 128) else None) (lt-ltb (w / 128) 99 at) ∙ ap Some (omega (arith, low, p.1)))

corner_back : (v w : ℕ) → is_corner w v ≡ is_corner v w
corner_back v w = by (v == 0) (w == 1) (v == 1) (w == 0)
  where
    by : (a b c d : Bool) → (d && c) || (b && a) ≡ (a && b) || (c && d)
    by true true true true = refl
    by true true true false = refl
    by true true false true = refl
    by true true false false = refl
    by true false true true = refl
    by true false true false = refl
    by true false false true = refl
    by true false false false = refl
    by false true true true = refl
    by false true true false = refl
    by false true false true = refl
    by false true false false = refl
    by false false true true = refl
    by false false true false = refl
    by false false false true = refl
    by false false false false = refl

pub grid_symmetric : (cut : Bool) → IsSymmetric (Linked (λ _. 4) (grid_link cut))
grid_symmetric cut v w l = by (beside v l.0) refl l.2
  where
    shown : (x : ℕ) (t : Bool) → (cut && is_corner v x) ≡ t → beside v l.0 ≡ Some x → (if t then None else Some x) ≡ Some w
        → Linked (λ _. 4) (grid_link cut) w v
    shown x true t e f = absurd (none-some w f)
    shown x false t e f =
        let same = same_Some x w f in
        let back = beside_back v w l.0 (e ∙ f) in (
          back.0,
          back.1,
          ap (unless_cut cut w) back.2 ∙ ap (λ (b : Bool). if b then None else Some v)
              (ap (λ (b : Bool). cut && b) (corner_back v w) ∙ ap (λ (y : ℕ). cut && is_corner v y) (sym same) ∙ t),
        )

    by : (o : Option ℕ) → beside v l.0 ≡ o → unless_cut cut v o ≡ Some w → Linked (λ _. 4) (grid_link cut) w v
    by None e f = absurd (none-some w f)
    by (Some x) e f = shown x (cut && is_corner v x) refl e f
