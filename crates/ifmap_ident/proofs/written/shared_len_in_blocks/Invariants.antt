use Rattle.std.proofs.Common.{◌≡◌, ◌+◌, ◌-◌, length, min, take}
use Rattle.ifmap_ident.proofs.written.shared_len_in_blocks.Given as goal

abbrev pub decreases-loop-at : goal.decreases-loop-at
decreases-loop-at l = l.last - l.at

abbrev pub invariant-loop-at : goal.invariant-loop-at
invariant-loop-at l =
    record {
      shared : take l.at l.one ≡ take l.at l.other;
      last : l.last + 16 ≡ min (length l.one) (length l.other);
    }
