-- Values of attributes are read back. Plan: (1) numbers; (2) kinds: the pieces between commas are their names.
use Rattle.std.proofs.Common.{◌≡◌, ◌≢◌, ◌≤◌, ◌<◌, ◌^◌, ◌%◌, ◌∙◌, ◌++◌, ℕ, Bool, true, false, List, [], ◌∷◌, Option, None, Some}
use Rattle.std.proofs.Common.{codes, length, map, min, refl, ap, sym, subst, arith}
use Rattle.std.specs.Prelude.{nat_le, nat_lt}
use Rattle.std.specs.List.{flat_map, list_all}
use Rattle.std.proofs.lemmas.Bool.Decides.{nat_tests}
use Rattle.ifmap_lemmas.specs.Numerals.{numeral}
use Rattle.ifmap_elem.specs.Chars.{is_white}
use Rattle.ifmap_filter.specs.Printing.{joined_texts}
use Rattle.ifmap_ident.specs.declared.codes.Code.{Code}
use Rattle.ifmap_ident.specs.declared.codes.Code.TheVariants.{InvalidIdentifierType}
use Rattle.ifmap_ident.specs.declared.kinds.Kind.{Kind}
use Rattle.ifmap_ident.specs.declared.kinds.Kind.TheVariants.{AccessRequest, Device, Identity, IpAddress, MacAddress}
use Rattle.ifmap_ident.specs.Kinds.{kind_name}
use Rattle.ifmap_requests.specs.ifmap_forms.Checks.{Check, check_if, need_some, ok_value, pass}
use Rattle.ifmap_requests.specs.ifmap_forms.Values.{greatest_limit, greatest_size, least_limit, longest_name}
use Rattle.ifmap_lemmas.specs.Separated.{comma_parts}
use Rattle.ifmap_requests.specs.ifmap_forms.Values.{kind_named, kinds_check, number_of_digits, piece_check, read_depth, read_kinds}
use Rattle.ifmap_requests.specs.ifmap_forms.Values.{read_lifetime, read_limit, read_name, read_size, trim_white, within_range}
use Rattle.ifmap_writing.specs.Attributes.{kinds_value, lifetime_value, limit_value, number_value}
use Rattle.ifmap_requests.specs.ifmap_forms.FormLaws.{number_back}

-- ---- (1) numbers

-- what is made of a number is found where its numeral is read
number_passes : {X : Type 0} (n : ℕ) (code : Code) (check : ℕ → Check X) (x : X) → check n (ok_value x)
    → need_some code (number_of_digits (numeral n)) check (ok_value x)
number_passes n code check x f = subst (λ (o : Option ℕ). need_some code o check (ok_value x)) (sym (number_back n)) f

pub limit_back : (limit : Option ℕ) → ((n : ℕ) → limit ≡ Some n → (least_limit ≤ n) × (n ≤ greatest_limit))
    → read_limit (limit_value limit) (ok_value limit)
limit_back None f = refl
limit_back (Some n) f =
    let bounds = f n refl in
    let low = bounds.0 in
    let high = bounds.1 in
    let same : n ≡ within_range least_limit greatest_limit n = omega (arith, low, high) in
    number_passes n _ (λ m. pass (Some (within_range least_limit greatest_limit m))) (Some n) (ap (λ (m : ℕ). ok_value (Some m)) same)

pub depth_back : (n : ℕ) → n < 2 ^ 32 → read_depth (number_value n) (ok_value n)
depth_back n low =
    let test : nat_lt n (2 ^ 32) ≡ true = grind (arith, nat_tests) in
    number_passes n _ _ n (rw test refl)

pub size_back : (n : ℕ) → n ≤ greatest_size → read_size (number_value n) (ok_value n)
size_back n low =
    let same : n ≡ min n greatest_size = omega (arith, low) in
    number_passes n _ (λ m. pass (min m greatest_size)) n (ap (λ (m : ℕ). ok_value m) same)

pub name_back : (name : List ℕ) → 1 ≤ length name → length name ≤ longest_name → read_name (Some name) (ok_value name)
name_back name some few =
    let low : nat_le 1 (length name) ≡ true = grind (arith, nat_tests) in
    let high : nat_le (length name) longest_name ≡ true = grind (arith, nat_tests) in
    rw (low, high) refl

pub lifetime_back : (forever : Bool) → read_lifetime (lifetime_value forever) (ok_value forever)
lifetime_back true = refl
lifetime_back false = refl

-- ---- (2) kinds

-- a name, and then others after commas
pieces_end : (kind : Kind) → comma_parts (kind_name kind ++ []) ≡ kind_name kind ∷ []
pieces_end AccessRequest = refl
pieces_end Device = refl
pieces_end Identity = refl
pieces_end IpAddress = refl
pieces_end MacAddress = refl

pieces_more : (kind : Kind) (rest : List ℕ) → comma_parts (kind_name kind ++ (codes "," ++ rest)) ≡ kind_name kind ∷ comma_parts rest
pieces_more AccessRequest rest = refl
pieces_more Device rest = refl
pieces_more Identity rest = refl
pieces_more IpAddress rest = refl
pieces_more MacAddress rest = refl

pieces_back : (kind : Kind) (others : List Kind)
    → comma_parts (joined_texts (codes ",") kind_name (kind ∷ others)) ≡ map kind_name (kind ∷ others)
pieces_back kind [] = pieces_end kind
pieces_back kind (other ∷ others) =
    pieces_more kind (joined_texts (codes ",") kind_name (other ∷ others))
    ∙ ap (λ (l : List (List ℕ)). kind_name kind ∷ l) (pieces_back other others)

kind_back : (kind : Kind) → kind_named (trim_white (kind_name kind)) ≡ Some kind
kind_back AccessRequest = refl
kind_back Device = refl
kind_back Identity = refl
kind_back IpAddress = refl
kind_back MacAddress = refl

piece_back : (kind : Kind) → piece_check (kind_name kind) (ok_value kind)
piece_back kind = subst (λ (o : Option Kind). need_some InvalidIdentifierType o (λ k. pass k) (ok_value kind)) (sym (kind_back kind)) refl

each_back : (kinds : List Kind) → kinds_check (map kind_name kinds) (ok_value kinds)
each_back [] = refl
each_back (kind ∷ kinds) = (kind, piece_back kind, (kinds, each_back kinds, refl))

solid_text : (kind : Kind) (rest : List ℕ) → list_all is_white (kind_name kind ++ rest) ≡ false
solid_text AccessRequest rest = refl
solid_text Device rest = refl
solid_text Identity rest = refl
solid_text IpAddress rest = refl
solid_text MacAddress rest = refl

pub kinds_back : (kinds : List Kind) → read_kinds (kinds_value kinds) (ok_value kinds)
kinds_back [] = refl
kinds_back (kind ∷ others) =
    let solid = solid_text kind (flat_map (λ k. codes "," ++ kind_name k) others) in
    let pieces : kinds_check (comma_parts (joined_texts (codes ",") kind_name (kind ∷ others))) (ok_value (kind ∷ others)) =
    subst (λ (l : List (List ℕ)). kinds_check l (ok_value (kind ∷ others))) (sym (pieces_back kind others)) (each_back (kind ∷ others)) in
    subst (λ (b : Bool). check_if b (pass []) (kinds_check (comma_parts (joined_texts (codes ",") kind_name (kind ∷ others))))
    (ok_value (kind ∷ others))) (sym solid) pieces
