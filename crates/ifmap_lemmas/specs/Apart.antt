-- Texts that a test tells apart.
use Rattle.std.proofs.Common.{◌≡◌, ◌≢◌, ℕ, false, List}
use Rattle.std.specs.Str.{bytes_eq}
use Rattle.std.proofs.lemmas.Bool.{both_ways, false_from_ne_true}
use Rattle.std.proofs.lemmas.Slice.Eq.{bytes_eq-Decides}

pub told_apart : (x y : List ℕ) → bytes_eq x y ≡ false → x ≢ y
told_apart x y h e = both_ways (bytes_eq x y) h ((bytes_eq-Decides x y).1 e)

pub other_bytes_differ : (x y : List ℕ) → x ≢ y → bytes_eq x y ≡ false
other_bytes_differ x y apart = false_from_ne_true (bytes_eq x y) (λ h. apart ((bytes_eq-Decides x y).0 h))
