use Rattle.std.proofs.Common.{◌≡◌, ℕ, Bool, true, false, List, length, refl}
use Rattle.std.specs.Prelude.{◌&&◌, nat_le}
use Rattle.std.specs.List.{list_all}
use Rattle.std.specs.Str.{IsUtf8}
use Rattle.std.proofs.lemmas.List.Sums.{AllPass-from_list_all}
use Rattle.std.proofs.lemmas.Str.{IsUtf8-from_ascii}
use Rattle.std.proofs.lemmas.Str.Ascii.{IsAscii-from_all}
use Rattle.ifmap_lemmas.specs.Branches.{all_three}
use Rattle.ifmap_meta.specs.ClientNames.{is_client_byte}
use Rattle.ifmap_meta.specs.laws.ClientBytes.{client_is_ascii}
use Rattle.ifmap_heads.specs.Posts.{is_client_name}
use Rattle.ifmap_heads.proofs.posts.client_of.Goals as goal

name_is_text : (name : List ℕ) → is_client_name name ≡ true → IsUtf8 name
name_is_text name is =
    let all = AllPass-from_list_all is_client_byte name
    (all_three (nat_le 1 (length name)) (nat_le (length name) 40) (list_all is_client_byte name) is).2 in
    IsUtf8-from_ascii name (IsAscii-from_all name (λ k d within. client_is_ascii _ (all k d within)))

no_name : (name : List ℕ) → (IsUtf8 name → ⊥) → is_client_name name ≡ false
no_name name garbled = by_test (is_client_name name) refl
  where
    by_test : (t : Bool) → is_client_name name ≡ t → is_client_name name ≡ false
    by_test true is = absurd (garbled (name_is_text name is))
    by_test false is = is

pub returns-in-Err : goal.returns-in-Err
returns-in-Err c = rw (no_name c.args.value.now c.in-Err.ensures.cases.0) refl
