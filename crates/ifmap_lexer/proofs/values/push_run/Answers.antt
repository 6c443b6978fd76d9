use Rattle.std.proofs.Common.{[], ◌∷◌, string_bytes}
use Rattle.ifmap_lemmas.specs.Joined.{joined_more, whole_on_ok}
use Rattle.ifmap_elem.specs.Values.{Plain}
use Rattle.ifmap_lexer.specs.Runs.{break_in, line_in, part_in}
use Rattle.ifmap_lexer.proofs.RunLaws.{break_cut, break_end}
use Rattle.ifmap_lexer.proofs.values.push_run.Goals as goal

pub loop-line-preserved : goal.loop-line-preserved
loop-line-preserved c =
    let inv = c.loop-line.invariant in
    let place = c.args.place in
    let rest = c.loop-line.rest.now in
    let later = c.after_newline-rest.result.now in (
      c.after_newline-rest.utf8,
      joined_more _ (string_bytes c.loop-line.text) (string_bytes c.push_line.new.out) (part_in place (Plain rest))
          (string_bytes c.push_break.new.text) (line_in place c.in-Some.line.now) (break_in place ∷ []) inv.1
          c.in_ok-push_line.ensures c.in_ok-push_break.ensures (part_in place (Plain later))
          (break_cut place rest c.in-Some.line.now c.in-Some.after.now later c.in-Some.ensures.found
          c.after_newline-rest.ensures.line),
    )

pub returns : goal.returns
returns c =
    let place = c.args.place in
    let rest = c.loop-line.rest.now in
    whole_on_ok c.push_line-2.result _ (string_bytes c.loop-line.text) (part_in place (Plain rest)) (string_bytes c.push_line-2.new.out)
    (line_in place rest) c.loop-line.invariant.1 c.push_line-2.ensures
    (break_end place rest c.in_default.ensures.none)
