use Rattle.ifmap_reader.specs.Progress.{where_is}
use Rattle.ifmap_reader.proofs.Progressing.{at_start, next_at, token_refused, within_next, end_read}
use Rattle.ifmap_reader.proofs.reading.read_tokens.Goals as goal
use Rattle.ifmap_lemmas.specs.Joined.{cut_at_end}

pub loop-at-init : goal.loop-at-init
loop-at-init c = record {
  within = c.byte_order_mark_length-at.ensures.within;
  come = at_start c.args.bytes.now c.args.depth _
      c.byte_order_mark_length-at.ensures.after;
}

pub returns-in-Err : goal.returns-in-Err
returns-in-Err c =
    token_refused c.args.bytes.now c.args.depth (where_is c.loop-at.standing) c.loop-at.at c.loop-at.invariant.come _
    c.in-Err.refusal c.refusal_error.result c.loop-at-test.true (cut_at_end c.args.bytes.now c.loop-at.at) c.refusal_error.ensures
    c.in-Err.ensures

pub loop-at-preserved : goal.loop-at-preserved
loop-at-preserved c =
    let takes = c.in-Ok.ensures.takes in
    record {
      within = within_next c.args.bytes.now c.loop-at.at c.in-Ok.next.length c.loop-at-test.true takes.within;
      come = next_at c.args.bytes.now c.args.depth (where_is c.loop-at.standing) c.loop-at.at c.loop-at.invariant.come _
          c.in-Ok.ensures.token c.in-Ok.next.length c.loop-at-test.true (cut_at_end c.args.bytes.now c.loop-at.at)
          takes.taken takes.alone (where_is c.in-Ok.next.standing) c.in-Ok.ensures.answers;
    }

pub returns : goal.returns
returns c =
    end_read c.args.bytes.now c.args.depth c.loop-at.standing c.loop-at.at c.read_at_end.result c.loop-at.invariant.come
    c.loop-at.invariant.within c.loop-at-test.false c.read_at_end.ensures
