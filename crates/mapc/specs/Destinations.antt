-- What the words of the program ask for.
use Rattle.std.specs.Prelude.{◌≡◌, ◌≤◌, ℕ, true, List, length}
use Rattle.ifmap_http.specs.ifmap_heads.Messages.{is_visible}
use Rattle.ifmap_meta.specs.ClientNames.{IsClientName}
use Rattle.ifmap_words.specs.Pairs.{IsPair}

-- an address of one visible ASCII character or more
abbrev pub IsAddress : List ℕ → Type 0
IsAddress address = (1 ≤ length address) × (is_visible address ≡ true)

-- such an address, and the name of a client
abbrev pub IsAskable : List ℕ → List ℕ → Type 0
IsAskable address name = IsAddress address × IsClientName name

-- these are the host and the client of a destination
abbrev pub AreHostAndClient : List ℕ → List ℕ → List ℕ → List ℕ → Type 0
AreHostAndClient address name host client = (host ≡ address) × (client ≡ name) × IsAskable address name

-- `ADDRESS NAME`, neither of them an option
abbrev pub AreAddressAndName : List (List ℕ) → List ℕ → List ℕ → Type 0
AreAddressAndName words host client = IsPair words host client × IsAskable host client
