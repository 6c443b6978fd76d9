use Rattle.std.proofs.Common.{◌<◌, ◌≤◌, ◌-◌, ℕ, length, get_or}
use Rattle.ifmap_meta.specs.declared.stored.Stored.{Stored}
use Rattle.ifmap_meta.specs.Keys.{HaveOneKey, word_of}
use Rattle.ifmap_rows.proofs.index.find_keyed.Given as goal

-- none that was passed has the key, and the words from here on are not less
abbrev pub invariant-loop-place : goal.invariant-loop-place
invariant-loop-place l = record {
  within : l.place ≤ length l.index;
  passed : (j : ℕ) (d : Stored) → j < l.place → HaveOneKey l.row (get_or l.index j d) → ⊥;
  least : (j : ℕ) (d : Stored) → l.place ≤ j → j < length l.index → l.word ≤ word_of (get_or l.index j d);
}

abbrev pub decreases-loop-place : goal.decreases-loop-place
decreases-loop-place l = length l.index - l.place
