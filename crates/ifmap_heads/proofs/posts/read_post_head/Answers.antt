use Rattle.std.proofs.Common.{Err, ◌≡◌, ℕ, ◌++◌, length, drop, subst, ap, inl, inr, arith}
use Rattle.httparse.specs.Spans.{RequestExceeds, RequestOverflows}
use Rattle.ifmap_heads.proofs.PostHeads.{refused_by_head, refused_never, refused_past_limits, head_stands}
use Rattle.ifmap_heads.proofs.Found.{field_count, head_within, is_too_many, option_now, post_says, starts_in_target, starts_partial}
use Rattle.ifmap_heads.proofs.HeadFronts.{head_too_long, head_too_wide, many_fields, posts}
use Rattle.ifmap_heads.proofs.posts.read_post_head.Goals.{then-size-gt-LONGEST_HEAD-via-then-size-gt-LONGEST_HEAD, then-size-gt-LONGEST_HEAD-via-else-size-gt-LONGEST_HEAD+then-request-gt-MOST_FIELDS}
use Rattle.ifmap_heads.proofs.posts.read_post_head.Goals as goal

pub returns-then-size-gt-LONGEST_HEAD : goal.returns-then-size-gt-LONGEST_HEAD
returns-then-size-gt-LONGEST_HEAD c =
    rw c.refuse.ensures
    (λ more.
    let (h, holds) = rw c.in-Ok-Complete.field-0-is at c.in-Ok-Complete.ensures.complete in
    refused_past_limits (c.args.bytes.now ++ more)
    (elim c.then-size-gt-LONGEST_HEAD.branch [
      | then-size-gt-LONGEST_HEAD-via-then-size-gt-LONGEST_HEAD w ↦
          head_too_long posts c.args.bytes.now more h (drop c.in-Ok-Complete.size c.args.bytes.now) holds.reads
          (omega (arith, holds.len_is, w.if-size-gt-LONGEST_HEAD.true))
      | then-size-gt-LONGEST_HEAD-via-else-size-gt-LONGEST_HEAD+then-request-gt-MOST_FIELDS w ↦
          head_too_wide posts c.args.bytes.now more h (drop c.in-Ok-Complete.size c.args.bytes.now) holds.reads
          (omega (arith, field_count c.parse.new.self.headers.now h.fields holds.fields, w.if-request-gt-MOST_FIELDS.true))
    ]))

pub returns-in-Refused : goal.returns-in-Refused
returns-in-Refused c =
    rw c.refuse-in-Refused.ensures
    (λ more.
    let (h, holds) = rw c.in-Ok-Complete.field-0-is at c.in-Ok-Complete.ensures.complete in
    let minor : c.unwrap-minor.result ≡ h.minor = cc (c.unwrap-minor.ensures, holds.version) in
    let method : c.as_bytes-method.result.now ≡ h.method = cc
    (c.as_bytes-method.ensures.value, option_now c.unwrap.ensures, holds.method) in
    let says = rw c.in-Refused.is at c.in_ok-status-in-Ok-Complete.ensures in
    refused_by_head c.args.bytes.now more h (drop c.in-Ok-Complete.size c.args.bytes.now) c.in-Refused.status holds.reads
    (omega (arith, holds.len_is, c.if-size-gt-LONGEST_HEAD.false))
    (omega (arith, field_count c.parse.new.self.headers.now h.fields holds.fields, c.if-request-gt-MOST_FIELDS.false))
    (post_says h _ _ _ _ method minor holds.fields says))

pub returns-in-Taken : goal.returns-in-Taken
returns-in-Taken c =
    let (h, holds) = rw c.in-Ok-Complete.field-0-is at c.in-Ok-Complete.ensures.complete in
    let minor : c.unwrap-minor.result ≡ h.minor = cc (c.unwrap-minor.ensures, holds.version) in
    let method : c.as_bytes-method.result.now ≡ h.method = cc
    (c.as_bytes-method.ensures.value, option_now c.unwrap.ensures, holds.method) in
    let says = rw c.in-Taken.is at c.in_ok-status-in-Ok-Complete.ensures in
    record {
      head = h;
      within = head_within c.args.bytes.now h (drop c.in-Ok-Complete.size c.args.bytes.now) c.in-Ok-Complete.size holds.reads holds.len_is;
      is = λ more.
          head_stands c.args.bytes.now more h (drop c.in-Ok-Complete.size c.args.bytes.now) holds.reads
          (omega (arith, holds.len_is, c.if-size-gt-LONGEST_HEAD.false))
          (omega (arith, field_count c.parse.new.self.headers.now h.fields holds.fields, c.if-request-gt-MOST_FIELDS.false));
      says = post_says h _ _ _ _ method minor holds.fields says;
    }

pub returns-in-Ok-Partial : goal.returns-in-Ok-Partial
returns-in-Ok-Partial c =
    starts_partial c.args.bytes.now c.unfinished_post.result
    (rw c.in-Ok-Partial.field-0-is at c.in-Ok-Partial.ensures.partial)
    (rw c.in-Ok-Partial.field-0-is at c.in-Ok-Partial.ensures.unfinished)
    c.unfinished_post.ensures.long c.unfinished_post.ensures.short

pub returns-then-ends_in_target : goal.returns-then-ends_in_target
returns-then-ends_in_target c =
    let room : length c.new-request.result.headers.now ≡ 64 = ap length c.new-request.ensures.room in
    let overflows = subst (λ (n : ℕ). RequestOverflows n c.args.bytes.now) room c.in-Err.ensures.no_room in
    let target = c.ends_in_target.ensures.0 c.if-ends_in_target.true in
    starts_in_target c.args.bytes.now c.unfinished_post-then-ends_in_target.result overflows target
    c.unfinished_post-then-ends_in_target.ensures.long c.unfinished_post-then-ends_in_target.ensures.short

pub returns-else-ends_in_target : goal.returns-else-ends_in_target
returns-else-ends_in_target c =
    rw c.refuse-else-ends_in_target.ensures
    (λ more.
    let room : length c.new-request.result.headers.now ≡ 64 = ap length c.new-request.ensures.room in
    let overflows = subst (λ (n : ℕ). RequestOverflows n c.args.bytes.now) room c.in-Err.ensures.no_room in
    elim (is_too_many c.in-Err.field-0) [
      | inl same ↦
          refused_past_limits (c.args.bytes.now ++ more)
          (many_fields posts c.args.bytes.now more overflows
          (subst (λ (n : ℕ). RequestExceeds n c.args.bytes.now) room (c.in-Err.ensures.too_many (ap Err same))))
      | inr other ↦
          refused_never c.args.bytes.now more (c.in-Err.ensures.invalid other)
          (λ target. let yes_is = c.ends_in_target.ensures.1 target in let no_is = c.if-ends_in_target.false in cc)
    ])
