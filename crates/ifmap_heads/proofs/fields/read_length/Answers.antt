use Rattle.std.proofs.Common.{arith}
use Rattle.ifmap_heads.proofs.Values.{digit_pushed, room_for_digit}
use Rattle.ifmap_heads.proofs.fields.read_length.Goals as goal

pub overflow_mul-number : goal.overflow_mul-number
overflow_mul-number c = omega (arith, room_for_digit c.loop-byte.number c.loop-byte.byte-index c.loop-byte.invariant.1 (omega arith))

pub overflow_add-number : goal.overflow_add-number
overflow_add-number c =
    let range = rw c.if-not-is_ascii_digit.false at c.is_ascii_digit.ensures.cases in
    omega (
      arith,
      range.0,
      range.1,
      c.from.ensures,
      room_for_digit c.loop-byte.number c.loop-byte.byte-index c.loop-byte.invariant.1
          (omega arith),
    )

pub loop-byte-preserved : goal.loop-byte-preserved
loop-byte-preserved c =
    let range = rw c.if-not-is_ascii_digit.false at c.is_ascii_digit.ensures.cases in
    digit_pushed c.args.value.now c.loop-byte.byte-index c.loop-byte.number c.from.result
    c.loop-byte-test.true c.loop-byte.invariant.0 c.loop-byte.invariant.1 c.loop-byte.invariant.2
    range.0 range.1 c.from.ensures
