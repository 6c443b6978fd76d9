-- Numbers: what a test for equality tells, where two tie in their order, and that less goes one way.
use Rattle.std.proofs.Common.{◌≡◌, ◌≢◌, ℕ, true, false, arith, ◌==◌}
use Rattle.std.proofs.lemmas.Bool.Decides.{nat_tests}
use Rattle.std.specs.Ordering.{is_eq, nat_cmp}
use Rattle.std.specs.Prelude.{◌↔◌, nat_eq, nat_lt}

pub equal_numbers : (a b : ℕ) → nat_eq a b ≡ true → a ≡ b
equal_numbers a b h = grind (arith, nat_tests)

pub is_other : (a b : ℕ) → a ≢ b → nat_eq a b ≡ false
is_other a b h = grind (arith, nat_tests)

-- it is the test of their order
pub equal_by_order : (a b : ℕ) → (a == b) ≡ is_eq (nat_cmp a b)
equal_by_order a b = grind (arith, nat_tests)

-- two numbers tie exactly where they are one
pub ties_where_equal : (a b : ℕ) → is_eq (nat_cmp a b) ≡ true ↔ a ≡ b
ties_where_equal a b = (λ t. grind (arith, nat_tests, t), λ e. grind (arith, nat_tests, e))

pub others_untied : (a b : ℕ) → a ≢ b → is_eq (nat_cmp a b) ≡ false
others_untied a b apart = grind (arith, nat_tests)

-- of two numbers, one at most is less than the other
pub less_one_way : (a b : ℕ) → nat_lt a b ≡ true → nat_lt b a ≡ false
less_one_way a b less = grind (arith, nat_tests)
