use Rattle.std.proofs.Common.{ℕ, ◌++◌, ◌+◌, ◌<◌, ap, subst, sym, ◌∙◌, arith}
use Rattle.ifmap_lemmas.specs.Numerals.{numeral}
use Rattle.ifmap_elem.proofs.KeyLaws.{as_many, at_bytes, bytes_of}
use Rattle.ifmap_elem.proofs.PrintedLaws.{declared_more}
use Rattle.ifmap_elem.proofs.printing.write_declarations.Goals as goal

pub loop-space-preserved : goal.loop-space-preserved
loop-space-preserved c =
    let items = c.args.spaces.now in (
      omega (arith, c.loop-space.invariant.0),
      declared_more c.args.letter.now (bytes_of items) c.loop-space.space-index c.space-item.result.now
          (c.args.letter.now ++ numeral (c.loop-space.count + 1)) c.args.out.now.items c.loop-space.out.items
          c.write_declaration.new.out.items
          (subst (λ n. c.loop-space.space-index < n) (sym (as_many items)) c.loop-space-test.true)
          (ap (λ p. p.now) c.space-item.is ∙ at_bytes items c.loop-space.space-index c.space-item.result)
          (ap (λ (n : ℕ). c.args.letter.now ++ numeral (n + 1)) c.loop-space.invariant.0)
          c.loop-space.invariant.1 c.in_ok-write_declaration.ensures,
    )
