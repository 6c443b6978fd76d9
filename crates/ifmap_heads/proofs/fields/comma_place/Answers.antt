use Rattle.std.proofs.Common.{◌≡◌, ℕ, ◌<◌, ◌+◌, true, List, ◌∷◌, ◌++◌, length, get_or, take, drop, ap, ◌∙◌, arith}
use Rattle.std.proofs.lemmas.List.{take_all}
use Rattle.httparse.specs.Ascii.{comma}
use Rattle.ifmap_lemmas.specs.Joined.{cut_at_place}
use Rattle.ifmap_lemmas.specs.Separated.{comma_parts, part_alone, part_at}
use Rattle.ifmap_heads.proofs.Values.{lacks_comma}
use Rattle.ifmap_heads.proofs.fields.comma_place.Goals as goal

parts_there : (bytes : List ℕ) (i : ℕ) → i < length bytes → lacks_comma (take i bytes) ≡ true → get_or bytes i 0 ≡ comma
    → comma_parts bytes ≡ take i bytes ∷ comma_parts (drop (i + 1) bytes)
parts_there bytes i within none here =
    ap comma_parts (cut_at_place bytes i 0 within)
    ∙ ap (λ (b : ℕ). comma_parts (take i bytes ++ b ∷ drop (i + 1) bytes)) here
    ∙ part_at 44 (take i bytes) (drop (i + 1) bytes) none

pub returns-then-byte-eq44-clause-parts : goal.returns-then-byte-eq44-clause-parts
returns-then-byte-eq44-clause-parts c =
    parts_there c.args.bytes.now c.loop-i.i (omega arith) c.loop-i.invariant c.if-byte-eq44.true

pub returns-clause-parts : goal.returns-clause-parts
returns-clause-parts c =
    let whole : take c.loop-i.i c.args.bytes.now ≡ c.args.bytes.now = take_all _ _ (omega arith) in
    part_alone 44 c.args.bytes.now (rw whole at c.loop-i.invariant)
