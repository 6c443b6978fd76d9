-- Checks of the parts of a message, one after another. Each finds a value or the code of a defect, and the first defect counts.
use Rattle.std.specs.Prelude.{◌≡◌, ◌⊎◌, Bool, true, false, Option, None, Some, Result, Ok, Err}
use Rattle.ifmap_ident.specs.declared.codes.Code.{Code}

-- what a check may find: a value, or the code of a defect
abbrev pub Check : Type 0 → Type 1
Check X = Result X Code → Type 0

module _ {X : Type 0} where
  -- a value that is found, and the code of a defect
  abbrev pub ok_value : X → Result X Code
  ok_value x = Ok x

  abbrev pub err_value : Code → Result X Code
  err_value code = Err code

  -- it finds this value
  abbrev pub pass : X → Check X
  pass x found = found ≡ Ok x

  -- it finds a defect with this code
  abbrev pub fail : Code → Check X
  fail code found = found ≡ Err code

  -- where the test fails, that is the defect; where it does not, the check goes on
  abbrev pub need : Bool → Code → Check X → Check X
  need true code check = check
  need false code check = fail code

  -- one check or the other
  abbrev pub check_if : Bool → Check X → Check X → Check X
  check_if true one other = one
  check_if false one other = other

  -- the check finds one thing at most
  abbrev pub IsSingle : Check X → Type 0
  IsSingle check = (one other : Result X Code) → check one → check other → one ≡ other

  -- the check finds something
  abbrev pub IsConclusive : Check X → Type 0
  IsConclusive check = (found : Result X Code) × check found

module _ {X Y : Type 0} where
  -- a check, and then one that knows what it found
  abbrev pub check_then : Check X → (X → Check Y) → Check Y
  check_then first second (Ok y) = (x : X) × first (Ok x) × second x (Ok y)
  check_then first second (Err code) = first (Err code) ⊎ ((x : X) × first (Ok x) × second x (Err code))

  -- where there is no value, that is the defect
  abbrev pub need_some : Code → Option X → (X → Check Y) → Check Y
  need_some code None check = fail code
  need_some code (Some x) check = check x
