-- Kinds in a text.
-- 1. White space at the front and at the end.
-- 2. The first comma cuts the first piece off.
-- 3. What is found of the other pieces comes after the first.
use Rattle.std.proofs.Common.{◌≡◌, ◌∙◌, ℕ, ◌+◌, ◌-◌, ◌<◌, Bool, true, false, cond, List, [], ◌∷◌, None, Result, Ok, Err, length, get_or, take, drop, reverse, inl, inr, refl, ap, arith, subst, sym}
use Rattle.std.specs.Prelude.{◌==◌}
use Rattle.std.specs.List.{position, position_or_len}
use Rattle.std.specs.Str.{byte}
use Rattle.std.proofs.lemmas.List.{reverse-reverse}
use Rattle.ifmap_lemmas.specs.Joined.{reversed_at_last}
use Rattle.ifmap_filter.specs.Tokens.{without_white}
use Rattle.ifmap_elem.specs.Chars.{is_white}
use Rattle.ifmap_ident.specs.declared.codes.Code.{Code}
use Rattle.ifmap_ident.specs.declared.kinds.Kind.{Kind}
use Rattle.ifmap_forms.specs.declared.errors.FormError.{FormError}
use Rattle.ifmap_forms.specs.declared.errors.FormError.TheVariants.{Named, NoMemory}
use Rattle.ifmap_forms.specs.Answers.{IsCheckRefusal}
use Rattle.ifmap_forms.specs.Checks.{ok_value}
use Rattle.ifmap_forms.specs.Gathering.{after_made}
use Rattle.ifmap_lemmas.specs.Positions.{at_place, no_place, place_inside, place_is}
use Rattle.ifmap_lemmas.specs.Separated.{comma_parts, part_before, part_of_all}
use Rattle.ifmap_forms.specs.Values.{begins_white, kinds_check, piece_check}

-- ---- 1. white space

pub white_front : (text : List ℕ) → begins_white text ≡ true → without_white (drop 1 text) ≡ without_white text
white_front [] h = let wrong : false ≡ true = h in cc
white_front (b ∷ bs) h = sym (ap (λ t. cond t (without_white bs) (b ∷ bs)) h)

pub solid_front : (text : List ℕ) → begins_white text ≡ false → text ≡ without_white text
solid_front [] h = refl
solid_front (b ∷ bs) h = sym (ap (λ t. cond t (without_white bs) (b ∷ bs)) h)

pub white_back : (text : List ℕ) → begins_white (reverse text) ≡ true
    → reverse (without_white (reverse (take (length text - 1) text))) ≡ reverse (without_white (reverse text))
white_back [] h = let wrong : false ≡ true = h in cc
white_back (b ∷ bs) h =
    let text : List ℕ = b ∷ bs in
    let turned = reversed_at_last text 0 (omega arith) in
    let white : is_white (get_or text (length text - 1) 0) ≡ true = sym (ap begins_white turned) ∙ h in
    ap reverse (sym (ap without_white turned
    ∙ ap (λ t. cond t (without_white (reverse (take (length text - 1) text)))
    (get_or text (length text - 1) 0 ∷ reverse (take (length text - 1) text))) white))

pub solid_back : (text : List ℕ) → begins_white (reverse text) ≡ false → text ≡ reverse (without_white (reverse text))
solid_back text h = sym (reverse-reverse text) ∙ ap reverse (solid_front (reverse text) h)

-- ---- 2. commas

abbrev is_comma : ℕ → Bool
is_comma b = b == byte ","

-- what the first comma cuts off
pub record IsCut (text : List ℕ) (end : ℕ) : Type 0 where
  pub inside : end < length text
  pub pieces : comma_parts text ≡ take end text ∷ comma_parts (drop (end + 1) text)

pub comma_found : (text : List ℕ) (end : ℕ) → at_place end ≡ position is_comma text → IsCut text end
comma_found text end h =
    let is = place_is is_comma text end h in
    let inside = place_inside is_comma text end h in
    let below : position_or_len is_comma text < length text = subst (λ (n : ℕ). n < length text) (sym is) inside in
    record {
      inside = inside;
      pieces = subst (λ (n : ℕ). comma_parts text ≡ take n text ∷ comma_parts (drop (n + 1) text)) is (part_before (byte ",") text below);
    }

pub no_comma : (text : List ℕ) → None ≡ position is_comma text → comma_parts text ≡ text ∷ []
no_comma text h = part_of_all (byte ",") text (no_place is_comma text h)

-- ---- 3. kinds

pub kind_goes_on : (piece : List ℕ) (pieces : List (List ℕ)) (kind : Kind) → piece_check piece (ok_value kind)
    → (found : Result (List Kind) Code) → kinds_check pieces found → kinds_check (piece ∷ pieces) (after_made (kind ∷ []) found)
kind_goes_on piece pieces kind is (Ok kinds) f = (kind, is, (kinds, f, refl))
kind_goes_on piece pieces kind is (Err code) f = inr (kind, is, inl f)

pub kind_stops : (piece : List ℕ) (pieces : List (List ℕ)) (error : FormError) → IsCheckRefusal (piece_check piece) error
    → IsCheckRefusal (kinds_check (piece ∷ pieces)) error
kind_stops piece pieces (Named code) f = inl f
kind_stops piece pieces NoMemory f = tt

pub last_kind : (piece : List ℕ) (kind : Kind) → piece_check piece (ok_value kind) → kinds_check (piece ∷ []) (Ok (kind ∷ []))
last_kind piece kind is = (kind, is, ([], refl, refl))
