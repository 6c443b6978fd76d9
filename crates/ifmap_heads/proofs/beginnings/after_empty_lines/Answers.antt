use Rattle.std.proofs.Common.{◌≡◌, List, [], ◌∷◌, ◌++◌, ap, sym, ◌∙◌, append_assoc, append-nil}
use Rattle.std.proofs.lemmas.Grind.{flat_map-append}
use Rattle.httparse.specs.Grammar.{LineEnd, print_blank, print_end}
use Rattle.ifmap_heads.proofs.beginnings.after_empty_lines.Goals as goal
use Prim.Native.Nat.{ℕ}

one_more : (bytes : List ℕ) (blank : List LineEnd) (rest after : List ℕ) (end : LineEnd) → bytes ≡ print_blank blank ++ rest
    → rest ≡ print_end end ++ after → bytes ≡ print_blank (blank ++ end ∷ []) ++ after
one_more bytes blank rest after end e f =
    rw (flat_map-append, append-nil)
    (e ∙ ap (λ (xs : List ℕ). print_blank blank ++ xs) f ∙ sym (append_assoc (print_blank blank) (print_end end) after))

pub lines-preserved : goal.lines-preserved
lines-preserved c =
    let (blank, is) = c.lines.invariant in
    let (end, cut) = c.in-Some.ensures in
    (blank ++ end ∷ [], one_more c.args.bytes.now blank c.lines.rest.now c.in-Some.after.now end is cut)
