-- How many steps a call takes, and the laws of such bounds.
use Rattle.std.specs.Prelude.{ℕ, ◌+◌, ◌*◌, ◌≤◌, List, [], All, Contains, sum_by, nat_eq}
use Rattle.std.proofs.Common.{arith}
use Rattle.std.proofs.Math.Nat.{mul-le-mul_left, mul-le-mul_right}
use Rattle.std.specs.List.{IsDistinct}
use Rattle.std.proofs.lemmas.List.Elements.{All-weaker, All-contains, All-nil}
use Rattle.ifmap_lemmas.specs.Distinct.{joined_distinct, sum_within, sum_heavier}

-- the steps rose by at most so many times the sum of a weight over some distinct numbers, all of which are in the set
pub record IsWithin (weight : ℕ → ℕ) (Among : ℕ → Type 0) (times before after : ℕ) : Type 0 where
  pub numbers : List ℕ
  pub distinct : IsDistinct nat_eq numbers
  pub among : All Among numbers
  pub bound : after ≤ before + times * sum_by weight numbers

-- no step is within any bound
pub within_nothing : (weight : ℕ → ℕ) (Among : ℕ → Type 0) (times before : ℕ)
    → IsWithin weight Among times before before
unfolding IsDistinct
within_nothing weight Among times before = record {
  numbers = [];
  distinct = tt;
  among = All-nil Among;
  bound = omega
      arith;
}

-- a set that has all that the other has
pub within_wider : (weight : ℕ → ℕ) (Among Wider : ℕ → Type 0) (times before after : ℕ) → ((v : ℕ) → Among v
    → Wider v)
    → IsWithin weight Among times before after → IsWithin weight Wider times before after
within_wider weight Among Wider times before after wider s = record {
  numbers = s.numbers;
  distinct = s.distinct;
  among = All-weaker Among Wider wider s.numbers s.among;
  bound = s.bound;
}

-- a weight that is nowhere less
pub within_heavier : (weight heavier : ℕ → ℕ) (Among : ℕ → Type 0) (times before after : ℕ) → ((v : ℕ)
    → weight v ≤ heavier v)
    → IsWithin weight Among times before after → IsWithin heavier Among times before after
within_heavier weight heavier Among times before after le s =
    let more : times * sum_by weight s.numbers ≤ times * sum_by heavier s.numbers = mul-le-mul_left times
    (sum_heavier weight heavier le s.numbers) in
    record { numbers = s.numbers; distinct = s.distinct; among = s.among; bound = omega (arith, s.bound, more) }

-- more times
pub within_more : (weight : ℕ → ℕ) (Among : ℕ → Type 0) (times more before after : ℕ) → times ≤ more
    → IsWithin weight Among times before after → IsWithin weight Among more before after
within_more weight Among times more before after le s =
    let most : times * sum_by weight s.numbers ≤ more * sum_by weight s.numbers = mul-le-mul_right (sum_by weight
    s.numbers) le in
    record { numbers = s.numbers; distinct = s.distinct; among = s.among; bound = omega (arith, s.bound, most) }

-- two bounds, one after the other
pub within_both : (weight : ℕ → ℕ) (Among : ℕ → Type 0) (first second before mid after : ℕ)
    → IsWithin weight Among first before mid → IsWithin weight Among second mid after
    → IsWithin weight Among (first + second) before after
within_both weight Among first second before mid after a b =
    let u = joined_distinct Among a.numbers b.numbers a.distinct a.among b.among in
    let s : first * sum_by weight a.numbers ≤ first * sum_by weight u.0 = mul-le-mul_left first (sum_within weight
    a.numbers u.0 a.distinct u.3) in
    let t : second * sum_by weight b.numbers ≤ second * sum_by weight u.0 = mul-le-mul_left second (sum_within weight
    b.numbers u.0 b.distinct u.4) in
    record { numbers = u.0; distinct = u.1; among = u.2; bound = omega (arith, a.bound, b.bound, s, t) }

-- at most so many times the sum over any list that has the whole set
pub within_sum : (weight : ℕ → ℕ) (Among : ℕ → Type 0) (times before after : ℕ)
    → IsWithin weight Among times before after
    → (numbers : List ℕ) → ((v : ℕ) → Among v → Contains numbers v) → after ≤ before + times * sum_by weight numbers
within_sum weight Among times before after s numbers all =
    let sum = sum_within weight s.numbers numbers s.distinct (λ v h. all v (All-contains Among s.numbers v s.among
    h)) in
    let most : times * sum_by weight s.numbers ≤ times * sum_by weight numbers = mul-le-mul_left times sum in
    omega (arith, s.bound, most)
