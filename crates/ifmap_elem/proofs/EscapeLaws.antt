-- Bytes that stand for themselves.
use Rattle.std.proofs.Common.{◌≡◌, ℕ, suc, ◌+◌, ◌%◌, ◌^◌, ◌≤◌, Bool, true, false, cond, ◌==◌, List, [], ◌∷◌, ◌++◌, length, map}
use Rattle.std.proofs.Common.{replicate, w8, refl, sym, ◌∙◌, arith}
use Rattle.std.proofs.lemmas.Bool.{eqb-true}
use Rattle.std.proofs.lemmas.Simd.{bitmask_splat, length-chunk, none_from_empty_mask}
use Rattle.std.specs.Bool.{OnTrue}
use Rattle.ifmap_lemmas.specs.Branches.{on_true}
use lib.Lanes.{chunk, mask_l, top, zip2}
use Rattle.ifmap_elem.specs.declared.escaping.TextPlace.{TextPlace}
use Rattle.ifmap_elem.specs.printer.Plain.{ArePlain, LacksByte, escape_bytes}

escaped_plain : (place : TextPlace) (bytes : List ℕ) → ArePlain place bytes 0 (length bytes) → escape_bytes place bytes ≡ bytes
escaped_plain place [] h = λ i. []
escaped_plain place (b ∷ bytes) h =
    let first = h 0 (omega arith) (omega arith) in
    let rest = escaped_plain place bytes (λ k p q. h (suc k) (omega arith) (omega arith)) in
    λ i. first i ++ rest i

pub plain_is_escaped : (found : Bool) (place : TextPlace) (bytes : List ℕ) → OnTrue found (ArePlain place bytes 0 (length bytes))
    → OnTrue found (escape_bytes place bytes ≡ bytes)
plain_is_escaped true place bytes h = escaped_plain place bytes h
plain_is_escaped false place bytes h = tt

-- where no lane of n bytes is equal to a byte, none of the bytes is
pub lacks_from_lanes : (bytes : List ℕ) (at n byte : ℕ) → at + n ≤ length bytes → n ≤ 64
    → OnTrue (mask_l (map (top 7) (zip2 (λ a b. cond (a == b) 255 0) (chunk at n bytes) (replicate n byte))) % 2 ^ 64 == 0)
    (LacksByte bytes at (at + n) byte)
lacks_from_lanes bytes at n byte room few =
    on_true _ _ (λ e. none_from_empty_mask (λ b. b == byte) bytes at n 0 room
    (sym (bitmask_splat w8 ◌==◌ (chunk at n bytes) n byte (length-chunk at n bytes room) few) ∙ eqb-true _ 0 e))
