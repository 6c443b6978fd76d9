-- What readers answer to what checks find.
use Rattle.std.specs.Prelude.{Result, Ok, Err}
use Rattle.ifmap_forms.specs.declared.errors.FormError.{FormError}
use Rattle.ifmap_forms.specs.declared.errors.FormError.TheVariants.{Named, NoMemory}
use Rattle.ifmap_forms.specs.Checks.{Check}

-- the refusal is the code of a defect that the check finds; want of memory says nothing
abbrev pub IsCheckRefusal : {X : Type 0} → Check X → FormError → Type 0
IsCheckRefusal check (Named code) = check (Err code)
IsCheckRefusal check NoMemory = Unit {0}

-- the answer is what the check finds, where values are seen like this
abbrev pub IsCheckedAs : {V X : Type 0} → (V → X) → Check X → Result V FormError → Type 0
IsCheckedAs seen check (Ok v) = check (Ok (seen v))
IsCheckedAs seen check (Err error) = IsCheckRefusal check error

-- the answer is what the check finds
abbrev pub IsChecked : {X : Type 0} → Check X → Result X FormError → Type 0
IsChecked check (Ok x) = check (Ok x)
IsChecked check (Err error) = IsCheckRefusal check error
