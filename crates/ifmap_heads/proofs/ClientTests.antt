-- The test of a client's name.
use Rattle.std.proofs.Common.{◌≡◌, ℕ, true, List, length, refl}
use Rattle.std.specs.Prelude.{◌&&◌, nat_le}
use Rattle.std.specs.List.{list_all}
use Rattle.std.proofs.lemmas.Bool.{and_parts, le-leb, leb-true}
use Rattle.ifmap_meta.specs.ClientNames.{IsClientName, is_client_byte, longest_client_name}
use Rattle.ifmap_heads.specs.Posts.{is_client_name}

pub name_of_test : (name : List ℕ) → is_client_name name ≡ true → IsClientName name
name_of_test name is =
    let parts = and_parts (nat_le 1 (length name) && nat_le (length name) longest_client_name) (list_all is_client_byte name) is in
    let bounds = and_parts (nat_le 1 (length name)) (nat_le (length name) longest_client_name) parts.0 in
    (leb-true 1 (length name) bounds.0, leb-true (length name) longest_client_name bounds.1, parts.1)

pub test_of_name : (name : List ℕ) → IsClientName name → is_client_name name ≡ true
test_of_name name is = rw (le-leb 1 (length name) is.0, le-leb (length name) longest_client_name is.1, is.2) refl
