use Rattle.std.proofs.Common.{◌≡◌, zero, List, ℕ, ◌+◌, ◌-◌, ◌<◌, ◌≤◌, ◌∷◌, get_or, length, reverse, take, refl, sym, ap, ◌∙◌, arith}
use Rattle.std.proofs.lemmas.List.{reverse-append, reverse-reverse, take_all, take_more}
use Rattle.httparse.specs.Grammar.{skip_ows}
use Rattle.httparse.proofs.TrimLemmas.{skip_ows_yes, skip_ows_no}
use Rattle.ifmap_heads.proofs.fields.trim_ows_end.Goals.{then-loop-end-test+else-is_space_or_tab, else-loop-end-test}
use Rattle.ifmap_heads.proofs.fields.trim_ows_end.Goals as goal

last_taken : (xs : List ℕ) (end : ℕ) → 0 < end → end ≤ length xs
    → reverse (take end xs) ≡ get_or xs (end - 1) 0 ∷ reverse (take (end - 1) xs)
last_taken xs end some fits =
    let n = end - 1 in
    let len : end ≡ n + 1 = omega arith in
    let inside : n < length xs = omega arith in
    ap (λ (k : ℕ). reverse (take k xs)) len ∙ rw (take_more xs n 0 inside, reverse-append) refl

pub loop-end-init : goal.loop-end-init
loop-end-init c =
    (omega arith, ap (λ (t : List ℕ). skip_ows (reverse t)) (sym (take_all (length c.args.bytes.now) c.args.bytes.now (omega arith))))

pub loop-end-preserved : goal.loop-end-preserved
loop-end-preserved c =
    let last = last_taken c.args.bytes.now c.loop-end.end (omega arith) (omega arith) in
    (omega arith, c.loop-end.invariant.1 ∙ skip_ows_yes last c.if-is_space_or_tab.ensures)

pub returns : goal.returns
returns c =
    let bytes = c.args.bytes.now in
    elim c.loop-end-test.branch [
      | then-loop-end-test+else-is_space_or_tab w ↦
          let last = last_taken bytes c.loop-end.end (omega arith) (omega arith) in
          sym (ap reverse (c.loop-end.invariant.1 ∙ skip_ows_no last w.if-is_space_or_tab.ensures) ∙ reverse-reverse _)
      | else-loop-end-test w ↦
          let none : c.loop-end.end ≡ zero = omega arith in
          ap (λ (n : ℕ). take n bytes) none
          ∙ sym (ap reverse (c.loop-end.invariant.1 ∙ ap (λ (n : ℕ). skip_ows (reverse (take n bytes))) none))
    ]
