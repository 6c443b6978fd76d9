use Rattle.std.proofs.Common.{ap, ◌∙◌}
use Rattle.std.specs.BTreeMap.{get}
use Rattle.std.specs.Cmp.Lexicographic.{slice_cmp}
use Rattle.std.specs.Ordering.{nat_cmp}
use Rattle.ifmap_reader.proofs.ScopeLaws.{row_passed, row_taken}
use Rattle.ifmap_reader.proofs.scoping.spaces_at.Goals.{then-is_listed_at+in_ok-copy+in_ok-copy-2+in_ok-insert+in-Some-1, then-is_listed_at+in_ok-copy+in_ok-copy-2+in_ok-insert+in-None-1, else-is_listed_at}
use Rattle.ifmap_reader.proofs.scoping.spaces_at.Goals as goal

pub loop-declaration-preserved : goal.loop-declaration-preserved
loop-declaration-preserved c = λ q.
    let path = c.args.path.now in
    let rows = c.args.declared.now in
    let i = c.loop-declaration.declaration-index in
    let row = c.declaration-item.result in
    let old = get (slice_cmp nat_cmp) c.loop-declaration.spaces in
    elim c.if-is_listed_at.branch [
      | then-is_listed_at+in_ok-copy+in_ok-copy-2+in_ok-insert+in-Some-1 w ↦ ap (λ m. get (slice_cmp nat_cmp) m q) w.spaces-is
          ∙ row_taken path rows i row c.loop-declaration-test.true c.declaration-item.is old c.loop-declaration.invariant
          c.is_listed_at.result c.is_listed_at.ensures w.if-is_listed_at.true
          (get (slice_cmp nat_cmp) w.insert.new.self) w.in_ok-copy.field-0 w.in_ok-copy-2.field-0 w.in_ok-copy.ensures
          w.in_ok-copy-2.ensures w.in_ok-insert.ensures.updates.0 q
      | then-is_listed_at+in_ok-copy+in_ok-copy-2+in_ok-insert+in-None-1 w ↦ ap (λ m. get (slice_cmp nat_cmp) m q) w.spaces-is
          ∙ row_taken path rows i row c.loop-declaration-test.true c.declaration-item.is old c.loop-declaration.invariant
          c.is_listed_at.result c.is_listed_at.ensures w.if-is_listed_at.true
          (get (slice_cmp nat_cmp) w.insert.new.self) w.in_ok-copy.field-0 w.in_ok-copy-2.field-0 w.in_ok-copy.ensures
          w.in_ok-copy-2.ensures w.in_ok-insert.ensures.updates.0 q
      | else-is_listed_at w ↦ ap (λ m. get (slice_cmp nat_cmp) m q) w.spaces-is
          ∙ row_passed path rows i row c.loop-declaration-test.true c.declaration-item.is old c.loop-declaration.invariant
          c.is_listed_at.result c.is_listed_at.ensures w.if-is_listed_at.false q
    ]
