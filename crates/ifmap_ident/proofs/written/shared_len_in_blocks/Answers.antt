use Rattle.std.proofs.Common.{◌≡◌, ◌-◌, subst, take, drop, arith}
use Rattle.ifmap_lemmas.specs.Joined.{shared_on, shared_before}
use Rattle.ifmap_ident.proofs.BlockLaws.{apart_in_last}
use Rattle.ifmap_ident.proofs.written.shared_len_in_blocks.Goals as goal

pub returns-then-shared-lt-BLOCK-clause-shared : goal.returns-then-shared-lt-BLOCK-clause-shared
returns-then-shared-lt-BLOCK-clause-shared c =
    shared_on c.args.one.now c.args.other.now c.loop-at.at c.shared_in_block-shared.result c.loop-at.invariant.shared
    c.shared_in_block-shared.ensures.shared

pub loop-at-preserved : goal.loop-at-preserved
loop-at-preserved c =
    let whole : c.shared_in_block-shared.result ≡ 16 = omega (arith, c.shared_in_block-shared.ensures.within, c.if-shared-lt-BLOCK.false) in
    record {
      shared = shared_on c.args.one.now c.args.other.now c.loop-at.at 16 c.loop-at.invariant.shared
          (subst (λ n. take n (drop c.loop-at.at c.args.one.now) ≡ take n (drop c.loop-at.at c.args.other.now)) whole
          c.shared_in_block-shared.ensures.shared);
      last = c.loop-at.invariant.last;
    }

pub returns-clause-shared : goal.returns-clause-shared
returns-clause-shared c =
    let last = c.min-last.result - 16 in
    shared_on c.args.one.now c.args.other.now last c.shared_in_block.result
    (shared_before c.args.one.now c.args.other.now last c.loop-at.at (omega (arith, c.loop-at-test.false)) c.loop-at.invariant.shared)
    c.shared_in_block.ensures.shared

pub returns-clause-apart : goal.returns-clause-apart
returns-clause-apart c =
    apart_in_last c.args.one.now c.args.other.now (c.min-last.result - 16) c.shared_in_block.result c.loop-at.invariant.last
    (c.shared_in_block.ensures.within, c.shared_in_block.ensures.shared, c.shared_in_block.ensures.apart)
