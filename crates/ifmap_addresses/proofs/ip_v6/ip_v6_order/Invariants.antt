use Rattle.std.proofs.Common.{◌≡◌, drop}
use Rattle.std.specs.Cmp.Lexicographic.{slice_cmp}
use Rattle.std.specs.Ordering.{nat_cmp, ordering_then}
use Rattle.ifmap_addresses.specs.IpV6.{ip_v6_text}
use Rattle.ifmap_addresses.proofs.ip_v6.ip_v6_order.Given as goal

-- the order of the groups so far, and then that of the others
abbrev pub invariant-loop-i : goal.invariant-loop-i
invariant-loop-i l =
    slice_cmp nat_cmp (ip_v6_text l.one) (ip_v6_text l.other)
    ≡ ordering_then l.order (slice_cmp nat_cmp (ip_v6_text (drop l.i l.one)) (ip_v6_text (drop l.i l.other)))
