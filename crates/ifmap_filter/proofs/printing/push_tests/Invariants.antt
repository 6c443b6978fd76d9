use denote.Shadow.{shadow}
use denote.Text.{Utf8}
use Rattle.std.proofs.Common.{◌≡◌, ◌++◌, take}
use Rattle.std.specs.Prelude.{codes, string_bytes}
use Rattle.ifmap_filter.specs.Printing.{joined_texts, test_text}
use Rattle.ifmap_filter.proofs.PrintLaws.{word_at}
use Rattle.ifmap_filter.proofs.printing.push_tests.Given as goal

abbrev pub invariant-loop-test : goal.invariant-loop-test
invariant-loop-test l =
    shadow (Utf8 l.word)
    × (string_bytes l.out ≡ string_bytes l.initial.out ++ joined_texts (codes " or ") (test_text l.spaces) (take l.test-index l.tests))
    × (l.word ≡ word_at (codes " or ") l.test-index)
