-- Results at the exits of functions: clauses on them, and one error in two of them.
use Rattle.std.proofs.Common.{◌≡◌, Result, Ok, Err, ap}
use Rattle.std.specs.Result.{OnErr}

-- what holds anyway holds at an error
pub on_err : {X E : Type 0} (r : Result X E) (P : Type 0) → P → OnErr r P
on_err (Ok x) P p = tt
on_err (Err e) P p = p

-- errors that are one in one result are one in another
error_of : {T E : Type 0} → E → Result T E → E
error_of other (Ok x) = other
error_of other (Err e) = e

pub same_error : {T U E : Type 0} (x y : E) → ◌≡◌ {A = Result T E} (Err x) (Err y) → ◌≡◌ {A = Result U E} (Err x) (Err y)
unfolding error_of
same_error x y e = ap Err (ap (error_of x) e)
