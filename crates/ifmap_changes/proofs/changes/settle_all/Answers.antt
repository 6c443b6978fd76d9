use Rattle.std.proofs.Common.{◌≡◌, List, ◌++◌, length, take, drop, sym, ◌∙◌, ap, subst}
use Rattle.std.proofs.Math.Seq.{take-append_seam}
use Rattle.ifmap_changes.proofs.Settling.{AreSettled}
use Rattle.ifmap_changes.proofs.changes.settle_all.Goals as goal
use Rattle.ifmap_tellings.specs.ifmap_standing.declared.standing.Standing.{Standing}

pub returns-clause-settled : goal.returns-clause-settled
returns-clause-settled c =
    let old = c.args.standing.now.items in
    let new = c.settle.new.standing in
    let all : c.args.standing.now.len ≡ length new =
    c.args.standing.now.ok.0 ∙ ap length (sym c.deref_mut.ensures.value) ∙ sym c.settle.ensures.long in
    let taken : take c.args.standing.now.len (new ++ drop (length new) old) ≡ new =
    ap (λ n. take n (new ++ drop (length new) old)) all ∙ take-append_seam new (drop (length new) old) in
    subst (λ (l : List Standing). AreSettled c.args.ways old l) (sym taken)
    (subst (λ (l : List Standing). AreSettled c.args.ways l new) c.deref_mut.ensures.value c.settle.ensures)
