use Rattle.std.proofs.Common.{◌≡◌, ◌-◌, ◌^◌, length, min, take}
use Rattle.ifmap_ident.specs.Written.{placed_bytes}
use Rattle.ifmap_ident.proofs.written.text_len.Given as goal

abbrev pub invariant-loop-byte : goal.invariant-loop-byte
invariant-loop-byte l = l.len ≡ min (length (placed_bytes l.place (take l.byte-index l.text))) (2 ^ 64 - 1)
