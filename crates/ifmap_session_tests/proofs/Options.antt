-- Options that were mapped.
use Rattle.std.proofs.Common.{◌≡◌, refl, false, Option, None, Some}
use Rattle.std.specs.Option.{is_some, option_map}

-- what maps to nothing is nothing
pub none_before : {A B : Type 0} (f : A → B) (o : Option A) (r : Option B) → r ≡ option_map f o → is_some r ≡ false → o ≡ None
none_before f None r e none = refl
none_before f (Some x) None e none = cc
none_before f (Some x) (Some y) e none = cc
