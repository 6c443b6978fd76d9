use Rattle.std.proofs.Common.{◌≡◌, ℕ, ◌+◌, false, List, ◌++◌, Ok, Err, Result, arith, subst, sym, take, ◌∙◌}
use Rattle.std.specs.Prelude.{OnOk, is_err}
use Rattle.ifmap_http.proofs.Filling.{body_lacks}
use Rattle.ifmap_http.proofs.bodies.fill_body.Goals as goal

ok_then : {T E P : Type 0} (r : Result T E) → is_err r ≡ false → OnOk r P → P
ok_then (Ok x) e p = p
ok_then (Err x) e p = cc

pub returns-in-Ok-eq0-clause-truncated : goal.returns-in-Ok-eq0-clause-truncated
returns-in-Ok-eq0-clause-truncated g c _ =
    let made = sym c.is_err.ensures.value ∙ c.if-is_err.false in
    let room = ok_then c.make_room.result made c.make_room.ensures.room in
    let same = ok_then c.make_room.result made c.make_room.ensures.same in
    let (got, consumed, is) = c.body.invariant.got in
    let there = rw c.in-Ok-eq0.field-0-test at c.in-Ok-eq0.ensures.got in
    let (more, then_consumed, grown) = there.1 in (
      c.in-Ok-eq0.ensures.end c.in-Ok-eq0.field-0-test (omega (arith, room.0)),
      body_lacks _ _ _ c.args.body.items got more _ _ c.body.filled c.args.size consumed then_consumed is
          (subst (λ (xs : List ℕ). take (c.body.filled + 0) c.read_after.new.body.items ≡ xs ++ more) same grown) c.body-test.true,
    )
