use Rattle.std.proofs.Common.{◌≡◌, ◌+◌, ◌*◌, ◌≤◌, length, take}
use Rattle.std.specs.List.{sum_by}
use Rattle.std.specs.Net.Text.{hex}
use Rattle.ifmap_addresses.proofs.ip_v6.ip_v6_len.Given as goal

-- the groups so far and all colons, and that it is little
abbrev pub invariant-loop-group : goal.invariant-loop-group
invariant-loop-group l =
    record {
      sum : l.len ≡ 7 + sum_by (λ g. length (hex g)) (take l.group-index l.value);
      little : l.len ≤ 7 + 4 * l.group-index;
    }
