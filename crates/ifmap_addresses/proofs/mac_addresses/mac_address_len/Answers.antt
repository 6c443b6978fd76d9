use Rattle.std.proofs.Common.{◌≡◌, ℕ, List, [], ◌∷◌, length, arith}
use Rattle.ifmap_addresses.specs.MacAddresses.{mac_address_text}
use Rattle.ifmap_addresses.specs.MacAddressLaws.{mac_address_length}
use Rattle.ifmap_addresses.proofs.mac_addresses.mac_address_len.Goals as goal

of_six : (value : List ℕ) → length value ≡ 6 → 17 ≡ length (mac_address_text value)
of_six [] e = absurd (omega arith)
of_six (b ∷ bytes) e = let whole = mac_address_length b bytes in omega arith

pub returns : goal.returns
returns c = of_six c.args.value.now c.told-value
