-- The names of clients.
use Rattle.std.specs.Prelude.{ℕ, ◌≤◌, ◌==◌, ◌||◌, Bool, List, length, IsTrue}
use Rattle.std.specs.Char.{is_ascii_alphanumeric}
use Rattle.std.specs.List.{list_all}
use Rattle.std.specs.Str.{byte}

-- an ASCII letter or digit, a full stop, a low line or a hyphen
abbrev pub is_client_byte : ℕ → Bool
is_client_byte b = is_ascii_alphanumeric b || b == byte "." || b == byte "_" || b == byte "-"

-- the most bytes of a client's name
abbrev pub longest_client_name : ℕ
longest_client_name = 40

-- 1 to 40 such bytes
abbrev pub IsClientName : List ℕ → Type 0
IsClientName name =
    (1 ≤ length name) × (length name ≤ longest_client_name) × IsTrue (list_all is_client_byte name)
