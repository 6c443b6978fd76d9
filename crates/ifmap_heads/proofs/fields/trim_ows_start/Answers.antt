use Rattle.std.proofs.Common.{length, sym, ap, ◌∙◌, arith}
use Rattle.httparse.specs.Grammar.{skip_ows}
use Rattle.httparse.proofs.TrimLemmas.{skip_ows_yes, skip_ows_no, slice_first, slice_empty}
use Rattle.ifmap_heads.proofs.fields.trim_ows_start.Goals.{then-loop-start-test+else-is_space_or_tab, else-loop-start-test}
use Rattle.ifmap_heads.proofs.fields.trim_ows_start.Goals as goal

pub loop-start-preserved : goal.loop-start-preserved
loop-start-preserved c =
    let first = slice_first c.args.bytes.now _ _ c.loop-start-test.true (omega arith) in
    (omega arith, c.loop-start.invariant.1 ∙ skip_ows_yes first c.if-is_space_or_tab.ensures)

pub returns : goal.returns
returns c =
    let bytes = c.args.bytes.now in
    elim c.loop-start-test.branch [
      | then-loop-start-test+else-is_space_or_tab w ↦
          let first = slice_first bytes _ _ w.loop-start-test.true (omega arith) in
          sym (c.loop-start.invariant.1 ∙ skip_ows_no first w.if-is_space_or_tab.ensures)
      | else-loop-start-test w ↦
          let empty = slice_empty bytes c.loop-start.start (length bytes) (omega arith) (omega arith) in
          sym (c.loop-start.invariant.1 ∙ ap skip_ows empty ∙ sym empty)
    ]
