use Rattle.std.proofs.Common.{◌≡◌, ◌+◌, ◌++◌, take, string_bytes}
use Rattle.ifmap_addresses.specs.IpV6.{ip_v6_text}
use Rattle.ifmap_addresses.proofs.ip_v6.push_groups.Given as goal

abbrev pub invariant-loop-group : goal.invariant-loop-group
invariant-loop-group l = string_bytes l.text ≡ string_bytes l.fn.text ++ ip_v6_text (take (l.group-index + 1) l.groups)
