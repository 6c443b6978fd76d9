-- What rose.
use Rattle.std.proofs.Common.{ℕ, ◌≤◌, arith, List, [], None, Some, sym, ◌∙◌, append-nil, length, take, subst}
use Rattle.ifmap_io.specs.Causes.{Rose}
use Rattle.std.specs.Prelude.{Option}
use Rattle.std.specs.Io.KnownBytes.{Appends, Keeps}
use Rattle.std.proofs.Math.Seq.{take-length}

pub rose_since : (before mid now : ℕ) → before ≤ mid → Rose mid now → Rose before now
rose_since before mid now later rose = omega arith

pub keeps_appends : (old new : Option (List ℕ)) → Keeps old new → Appends old new []
keeps_appends None new k = tt
keeps_appends (Some xs) None k = absurd k
keeps_appends (Some xs) (Some ys) k = k ∙ sym (append-nil xs)

pub appends_kept : (a b c : Option (List ℕ)) (bytes : List ℕ) → Appends a b bytes → Keeps b c → Appends a c bytes
appends_kept None b c bytes p q = tt
appends_kept (Some x) None c bytes p q = absurd p
appends_kept (Some x) (Some y) None bytes p q = absurd q
appends_kept (Some x) (Some y) (Some z) bytes p q = q ∙ p

-- all of a text is a prefix of it
pub appends_whole : (a b : Option (List ℕ)) (bytes : List ℕ) → Appends a b bytes → (n : ℕ) × Appends a b (take n bytes)
appends_whole a b bytes p = (length bytes, subst (Appends a b) (sym (take-length bytes)) p)
