-- A line and a header lead to the frame, or to the reason why none begins.
use Rattle.std.proofs.Common.{arith, inl, inr}
use Rattle.std.proofs.lemmas.Result.{err_from_is_err_and}
use Rattle.ifmap_lemmas.specs.Results.{same_error}
use Rattle.ifmap_server.proofs.Framing.{cut_fault, frame_is_whole, header_fault, line_fault, long_fault, short_awaits}
use Rattle.ifmap_server.proofs.Taking.{read_took}
use Rattle.ifmap_server.proofs.replaying.next_frame.Goals as goal
use Rattle.ifmap_server.proofs.replaying.next_frame.Goals.{then-end-offset-via-then-end-offset, then-end-offset-via-else-end-offset+in_ok-await_bytes+then-not-branch}

pub returns-in_err-line-clause-fault : goal.returns-in_err-line-clause-fault
returns-in_err-line-clause-fault g c =
    let p = err_from_is_err_and c.from_residual.result c.from_residual.ensures.1 in
    rw (p.1, p.2) (λ e. line_fault _ _ _ (c.in_err-line.ensures.fault (same_error _ _ e)))

pub returns-in_err-line-clause-read : goal.returns-in_err-line-clause-read
returns-in_err-line-clause-read g c =
    let p = err_from_is_err_and c.from_residual.result c.from_residual.ensures.1 in
    rw (p.1, p.2) (λ e. inl (c.in_err-line.ensures.read (same_error _ _ e)))

pub returns-in_default-2-clause-fault : goal.returns-in_default-2-clause-fault
returns-in_default-2-clause-fault g c =
    λ e. header_fault _ _ _ c.in-Some.line (rw c.in-Some.is at c.in_ok-line.ensures.line)
    (rw (c.in_default-2.is, c.pending_bytes.ensures) at c.in_ok-header.ensures.none)

pub returns-in_err-await_bytes-clause-read : goal.returns-in_err-await_bytes-clause-read
returns-in_err-await_bytes-clause-read g c =
    let p = err_from_is_err_and c.from_residual-in_err-await_bytes.result c.from_residual-in_err-await_bytes.ensures.1 in
    rw (p.1, p.2) (λ e.
    let failed = same_error _ _ e in
    let short = c.in_err-await_bytes.ensures.read failed in
    let took = read_took _ _ _ _ _ failed c.in_err-await_bytes.ensures.takes in
    let header = rw c.in-Some-2.is at c.in_ok-header.ensures.found in
    let offset = c.requires in
    let ends = c.if-end-offset.false in
    inr (short_awaits _ _ _ _ _ c.in-Some.line c.in-Some-2.header took (rw c.in-Some.is at c.in_ok-line.ensures.line)
    (rw c.pending_bytes.ensures at header) short (omega arith)))

pub returns-then-end-offset-clause-fault : goal.returns-then-end-offset-clause-fault
returns-then-end-offset-clause-fault g c =
    let header = rw c.in-Some-2.is at c.in_ok-header.ensures.found in
    elim c.then-end-offset.branch [
      | then-end-offset-via-then-end-offset w ↦
          let offset = c.requires in
          let over = w.if-end-offset.true in
          rw (w.input-is, w.source-is) (λ e. long_fault _ _ _ c.in-Some.line c.in-Some-2.header
          (rw c.in-Some.is at c.in_ok-line.ensures.line) (rw c.pending_bytes.ensures at header) (omega arith))
      | then-end-offset-via-else-end-offset+in_ok-await_bytes+then-not-branch w ↦
          let end = rw w.if-not-branch.true at w.in_ok-await_bytes.ensures.end in
          rw (w.input-is, w.source-is) (λ e. cut_fault _ _ _ _ _ c.in-Some.line c.in-Some-2.header
          w.in_ok-await_bytes.ensures.takes.taken (rw c.in-Some.is at c.in_ok-line.ensures.line) (rw c.pending_bytes.ensures at header) _
          end.0 end.1)
    ]

pub returns-clause-frame : goal.returns-clause-frame
returns-clause-frame g c =
    let header = rw c.in-Some-2.is at c.in_ok-header.ensures.found in
    frame_is_whole _ _ _ _ _ c.in-Some.line c.in-Some-2.header c.in_ok-await_bytes.ensures.takes.taken
    (rw c.in-Some.is at c.in_ok-line.ensures.line) (rw c.pending_bytes.ensures at header)
    (rw c.if-not-branch.false at c.in_ok-await_bytes.ensures.enough) (let offset = c.requires in let ends = c.if-end-offset.false in
    omega arith)
