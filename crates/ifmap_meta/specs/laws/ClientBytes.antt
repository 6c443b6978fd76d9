-- The names of clients are ASCII.
use Rattle.std.proofs.Common.{◌≡◌, ℕ, ◌<◌, true, arith}
use Rattle.std.proofs.lemmas.Bool.Decides.{nat_tests}
use Rattle.ifmap_meta.specs.ClientNames.{is_client_byte}

-- a byte of a client's name is ASCII
pub client_is_ascii : (b : ℕ) → is_client_byte b ≡ true → b < 128
client_is_ascii b is = grind (arith, nat_tests)
