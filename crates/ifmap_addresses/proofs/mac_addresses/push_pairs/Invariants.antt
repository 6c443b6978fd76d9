use Rattle.std.proofs.Common.{◌≡◌, ◌+◌, ◌++◌, take, string_bytes}
use Rattle.ifmap_addresses.specs.MacAddresses.{mac_address_text}
use Rattle.ifmap_addresses.proofs.mac_addresses.push_pairs.Given as goal

abbrev pub invariant-loop-byte : goal.invariant-loop-byte
invariant-loop-byte l = string_bytes l.text ≡ string_bytes l.fn.text ++ mac_address_text (take (l.byte-index + 1) l.bytes)
