use Rattle.std.proofs.Common.{◌++◌, ap, sym, ◌∙◌, string_bytes, lit<}
use Rattle.std.specs.Prelude.{encode_utf8}
use Rattle.ifmap_elem.specs.Values.{reference_value}
use Rattle.ifmap_lexer.proofs.ExpansionLaws.{along_unended, along_unknown, along_next, along_end}
use Rattle.ifmap_lexer.proofs.SplitLaws.{after_is_utf8}
use Rattle.ifmap_lexer.proofs.values.expand.Goals as goal
use Rattle.ifmap_elem.specs.Chars.{ampersand, semicolon}

pub returns-in_default-split_char-clause-refused : goal.returns-in_default-split_char-clause-refused
returns-in_default-split_char-clause-refused c =
    along_unended c.args.place c.args.written.now (string_bytes c.loop-run.text) c.loop-run.rest.now c.in-Some.run'.now
    c.in-Some.after.now c.loop-run.invariant.1 c.in-Some.ensures.found c.in_default-split_char.ensures.none

pub returns-in_default-character_named-clause-refused : goal.returns-in_default-character_named-clause-refused
returns-in_default-character_named-clause-refused c =
    along_unknown c.args.place c.args.written.now (string_bytes c.loop-run.text) c.loop-run.rest.now c.in-Some.run'.now
    c.in-Some.after.now c.loop-run.invariant.1 c.in-Some.ensures.found
    c.in-Some-split_char.name.now c.in-Some-split_char.next.now c.in-Some-split_char.ensures.found
    (ap reference_value (sym c.as_bytes.ensures.value) ∙ sym c.character_named.ensures ∙ c.in_default-character_named.is)

pub loop-run-preserved : goal.loop-run-preserved
loop-run-preserved c =
    let inv = c.loop-run.invariant in
    let first = c.in-Some.ensures.found in
    let second = c.in-Some-split_char.ensures.found in
    let rest = c.loop-run.rest.now in
    let run = c.in-Some.run'.now in
    let after = c.in-Some.after.now in
    let name = c.in-Some-split_char.name.now in
    let next = c.in-Some-split_char.next.now in
    let character = c.in-Some-character_named.character in (
      after_is_utf8 semicolon after name next (lit< tt) second.bytes_are
          (after_is_utf8 ampersand rest run after (lit< tt) first.bytes_are inv.0),
      along_next c.args.place c.args.written.now (string_bytes c.loop-run.text) rest run after inv.1 first name next second
          (string_bytes c.push.new.self) character
          (ap reference_value (sym c.as_bytes.ensures.value) ∙ sym c.character_named.ensures ∙ c.in-Some-character_named.is)
          (c.in_ok-push.ensures.bytes ∙ ap (λ x. x ++ encode_utf8 character) c.in_ok-push_run.ensures),
    )

pub returns-clause-found : goal.returns-clause-found
returns-clause-found c =
    along_end c.args.place c.args.written.now (string_bytes c.loop-run.text) c.loop-run.rest.now (string_bytes c.push_run-2.new.text)
    c.loop-run.invariant.1 c.in_default.ensures.none c.in_ok-push_run-2.ensures
