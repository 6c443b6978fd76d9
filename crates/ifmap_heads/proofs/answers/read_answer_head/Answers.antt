use Rattle.std.proofs.Common.{Err, ◌≡◌, ℕ, ◌<◌, ◌++◌, length, drop, subst, ap, inl, inr, arith}
use Rattle.httparse.specs.Grammar.{status_code}
use Rattle.httparse.specs.Spans.{ResponseExceeds, ResponseOverflows}
use Rattle.ifmap_heads.specs.Limits.{longest_head}
use Rattle.ifmap_heads.proofs.AnswerHeads.{refused_never, refused_past_limits, unfit_head}
use Rattle.ifmap_heads.proofs.Found.{answer_says, field_count, is_too_many}
use Rattle.ifmap_heads.proofs.HeadFronts.{answers, head_too_long, head_too_wide, many_bytes, many_fields, none_when_long}
use Rattle.ifmap_heads.proofs.answers.read_answer_head.Goals.{then-size-gt-LONGEST_HEAD-via-then-size-gt-LONGEST_HEAD, then-size-gt-LONGEST_HEAD-via-else-size-gt-LONGEST_HEAD+then-response-gt-MOST_FIELDS}
use Rattle.ifmap_heads.proofs.answers.read_answer_head.Goals as goal

pub returns-then-size-gt-LONGEST_HEAD : goal.returns-then-size-gt-LONGEST_HEAD
returns-then-size-gt-LONGEST_HEAD c more =
    let (h, holds) = rw c.in-Ok-Complete.field-0-is at c.in-Ok-Complete.ensures.complete in
    refused_past_limits (c.args.bytes.now ++ more)
    (elim c.then-size-gt-LONGEST_HEAD.branch [
      | then-size-gt-LONGEST_HEAD-via-then-size-gt-LONGEST_HEAD w ↦
          head_too_long answers c.args.bytes.now more h (drop c.in-Ok-Complete.size c.args.bytes.now) holds.reads
          (omega (arith, holds.len_is, w.if-size-gt-LONGEST_HEAD.true))
      | then-size-gt-LONGEST_HEAD-via-else-size-gt-LONGEST_HEAD+then-response-gt-MOST_FIELDS w ↦
          head_too_wide answers c.args.bytes.now more h (drop c.in-Ok-Complete.size c.args.bytes.now) holds.reads
          (omega (arith, field_count c.parse.new.self.headers.now h.fields holds.fields, w.if-response-gt-MOST_FIELDS.true))
    ])

pub returns-in-Unfit : goal.returns-in-Unfit
returns-in-Unfit c more =
    let (h, holds) = rw c.in-Ok-Complete.field-0-is at c.in-Ok-Complete.ensures.complete in
    let code : c.unwrap-code.result ≡ status_code h = cc (c.unwrap-code.ensures, holds.code) in
    unfit_head c.args.bytes.now more h (drop c.in-Ok-Complete.size c.args.bytes.now) holds.reads
    (omega (arith, holds.len_is, c.if-size-gt-LONGEST_HEAD.false))
    (omega (arith, field_count c.parse.new.self.headers.now h.fields holds.fields, c.if-response-gt-MOST_FIELDS.false))
    (answer_says h _ _ _ code holds.fields c.in-Unfit.ensures)

pub returns-then-bytes-gt-LONGEST_HEAD : goal.returns-then-bytes-gt-LONGEST_HEAD
returns-then-bytes-gt-LONGEST_HEAD c more =
    let absent = rw c.in-Ok-Partial.field-0-is at c.in-Ok-Partial.ensures.partial in
    let long : longest_head < length c.args.bytes.now = omega arith in
    refused_past_limits (c.args.bytes.now ++ more)
    (many_bytes answers c.args.bytes.now more long (none_when_long answers c.args.bytes.now more absent long))

pub returns-in-Err : goal.returns-in-Err
returns-in-Err c more =
    let room : length c.new-response.result.headers.now ≡ 64 = ap length c.new-response.ensures.room in
    let overflows = subst (λ (n : ℕ). ResponseOverflows n c.args.bytes.now) room c.in-Err.ensures.no_room in
    elim (is_too_many c.in-Err.field-0) [
      | inl same ↦
          refused_past_limits (c.args.bytes.now ++ more)
          (many_fields answers c.args.bytes.now more overflows
          (subst (λ (n : ℕ). ResponseExceeds n c.args.bytes.now) room (c.in-Err.ensures.too_many (ap Err same))))
      | inr other ↦ refused_never c.args.bytes.now more (c.in-Err.ensures.invalid other)
    ]
