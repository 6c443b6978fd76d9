-- Tests: what their answers exclude, what several of them say together, and what holds of a choice by one.
use Rattle.std.proofs.Common.{◌≡◌, ℕ, Bool, true, false, not, ◌&&◌, ◌||◌, ◌==◌, refl, sym, ◌∙◌}
use Rattle.std.specs.Prelude.{◌↔◌, IsTrue, if◌then◌else◌}
use Rattle.std.specs.Bool.{OnTrue, beq}
use Rattle.std.proofs.lemmas.Bool.{eq-eqb}

-- ---- one test

-- no test answers both ways
pub not_both_ways : {P : Type 0} (b : Bool) → b ≡ true → b ≡ false → P
not_both_ways b one other = let wrong : true ≡ false = sym one ∙ other in cc

-- what a test tells does not hold where it fails
pub fails_where_false : (b : Bool) (P : Type 0) → IsTrue b ↔ P → b ≡ false → P → ⊥
fails_where_false b P tells h p = let wrong : true ≡ false = sym (tells.1 p) ∙ h in cc

pub on_true : (b : Bool) (P : Type 0) → (b ≡ true → P) → OnTrue b P
on_true true P f = f refl
on_true false P f = tt

pub number_itself : (n : ℕ) → (n == n) ≡ true
number_itself n = eq-eqb n n refl

-- ---- several tests

pub and_true : (b : Bool) → (b && true) ≡ b
and_true true = refl
and_true false = refl

pub neither : (a b : Bool) → a ≡ false → b ≡ false → (a || b) ≡ false
neither true b e f = let wrong : true ≡ false = e in cc
neither false b e f = f

-- of two of which one holds, the second where the first does not
pub second_holds : (a b : Bool) → a ≡ false → (a || b) ≡ true → b ≡ true
second_holds true b e h = let wrong : true ≡ false = e in cc
second_holds false b e h = h

pub either_leads : {P : Type 0} (a b : Bool) → (a || b) ≡ true → (b ≡ true → P) → (a ≡ true → P) → P
either_leads true b e last first = first refl
either_leads false b e last first = last e

pub all_three : (a b c : Bool) → (a && b && c) ≡ true → (a ≡ true) × (b ≡ true) × (c ≡ true)
all_three true true true e = (refl, refl, refl)
all_three true true false e = cc
all_three true false c e = cc
all_three false b c e = cc

-- of two, one holds and the other does not
pub one_without_other : (a b : Bool) → (a && not b) ≡ true → (a ≡ true) × (b ≡ false)
one_without_other true true e = let r : false ≡ true = e in cc
one_without_other true false e = (refl, refl)
one_without_other false b e = let r : false ≡ true = e in cc

-- tests with one answer are not told apart
pub same_not_apart : (p q : Bool) → p ≡ q → not (beq p q) ≡ true → ⊥
same_not_apart true true e f = let q : false ≡ true = f in cc
same_not_apart true false e f = let q : true ≡ false = e in cc
same_not_apart false true e f = let q : false ≡ true = e in cc
same_not_apart false false e f = let q : false ≡ true = f in cc

-- tests that agree, and another that holds
pub agree_and : (x y others : Bool) → (beq x y && others) ≡ true → (x ≡ y) × (others ≡ true)
agree_and true true others h = (refl, h)
agree_and true false others h = cc
agree_and false true others h = cc
agree_and false false others h = (refl, h)

-- two tests that tell one thing answer alike
pub answer_alike : (a b : Bool) (P : Type 0) → (IsTrue a ↔ P) → (IsTrue b ↔ P) → a ≡ b
answer_alike true b P h k = sym (k.1 (h.0 refl))
answer_alike false true P h k = h.1 (k.0 refl)
answer_alike false false P h k = refl

-- ---- a choice

-- what holds of both branches holds of the choice
module _ {X : Type 0} (P : X → Type 0) where
  pub if_either : (b : Bool) (x y : X) → (b ≡ true → P x) → (b ≡ false → P y) → P (if b then x else y)
  if_either true x y f g = f refl
  if_either false x y f g = g refl

  pub if_both : (b : Bool) (x y : X) → P x → P y → P (if b then x else y)
  if_both true x y p q = p
  if_both false x y p q = q
