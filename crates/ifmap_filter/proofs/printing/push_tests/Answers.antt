use Rattle.std.proofs.Common.{◌++◌, refl, ap, sym, ◌∙◌, arith}
use Rattle.std.specs.Prelude.{codes, string_bytes}
use Rattle.std.proofs.lemmas.List.{append-nil, take_all}
use Rattle.std.proofs.lemmas.Str.{IsUtf8-nil}
use Rattle.ifmap_filter.specs.Printing.{joined_texts, test_text}
use Rattle.ifmap_filter.proofs.PrintLaws.{joined_more, or_text, word_later}
use Rattle.ifmap_filter.proofs.printing.push_tests.Goals as goal

pub loop-test-preserved : goal.loop-test-preserved
loop-test-preserved c = (
  or_text,
  joined_more (codes " or ") (test_text c.args.spaces.now) c.args.tests.now c.loop-test.test-index c.test-item.result
      (string_bytes c.args.out.now) (string_bytes c.loop-test.out) (string_bytes c.push_str.new.self) (string_bytes c.push_test.new.out)
      c.loop-test.word.now c.loop-test-test.true c.test-item.is c.loop-test.invariant.1 c.loop-test.invariant.2
      c.in_ok-push_str.ensures.bytes
      c.in_ok-push_test.ensures,
  word_later (codes " or ") c.loop-test.test-index,
)

pub loop-test-init : goal.loop-test-init
loop-test-init c = (IsUtf8-nil, sym (append-nil (string_bytes c.args.out.now)), refl)

pub returns : goal.returns
returns c =
    c.loop-test.invariant.1
    ∙ ap (λ l. string_bytes c.args.out.now ++ joined_texts (codes " or ") (test_text c.args.spaces.now) l)
    (take_all c.loop-test.test-index c.args.tests.now (omega (arith, c.loop-test-test.false)))
