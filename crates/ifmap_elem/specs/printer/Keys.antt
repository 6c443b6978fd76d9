-- The order in which the printer keeps the namespaces that it has met: a word first that mixes all bytes.
use Rattle.std.specs.Prelude.{◌==◌, ◌&&◌, ℕ, List, Bool}
use Rattle.std.specs.declared.cmp.Ordering.{Ordering}
use Rattle.std.specs.Ordering.{nat_cmp, on, then_cmp}
use Rattle.std.specs.Cmp.Lexicographic.{pointwise, slice_cmp}
use Rattle.std.specs.Hash.FoldHasher.{finish, initial, write}

-- the word of a namespace
unfoldable pub space_word : List ℕ → ℕ
space_word bytes = finish (write initial bytes)

-- by the words, and where these are one by the bytes
abbrev pub key_order : List ℕ → List ℕ → Ordering
key_order = then_cmp (on space_word nat_cmp) (slice_cmp nat_cmp)

-- whether both the words and the bytes are one
abbrev pub key_eq : List ℕ → List ℕ → Bool
key_eq a b = (space_word a == space_word b) && pointwise ◌==◌ a b
