-- Results and what a clause says of them: of two clauses, a third.
use Rattle.std.proofs.Common.{Result, Ok, Err}
use Rattle.std.specs.Result.{IfOk, OnOk}

-- what holds anyway holds of the answer
pub on_ok : {X E : Type 0} (r : Result X E) (P : Type 0) → P → OnOk r P
on_ok (Ok x) P p = p
on_ok (Err e) P p = tt

-- what is told of the value and of the answer, together
pub where_value : {X E : Type 0} (r : Result X E) (P : X → Type 0) (Q : Type 0) (R : X → Type 0) → ((x : X) → P x → Q → R x)
    → IfOk r P → OnOk r Q → IfOk r R
where_value (Ok x) P Q R f p q = f x p q
where_value (Err e) P Q R f p q = tt

-- of three clauses of the value, a fourth
pub of_three : {A E : Type 0} (P Q R S : A → Type 0) (r : Result A E) → IfOk r P → IfOk r Q → IfOk r R
    → ((a : A) → P a → Q a → R a → S a) → IfOk r S
of_three P Q R S (Ok a) p q r f = f a p q r
of_three P Q R S (Err e) p q r f = tt
