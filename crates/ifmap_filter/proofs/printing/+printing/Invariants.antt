use denote.Shadow.{shadow}
use denote.Text.{Utf8}
use Rattle.std.proofs.Common.{◌≡◌, ◌++◌, take}
use Rattle.std.specs.Prelude.{string_bytes}
use Rattle.ifmap_filter.specs.Printing.{joined_texts, predicate_text, text_in, word_in}
use Rattle.ifmap_filter.proofs.PrintLaws.{word_at}
use Rattle.ifmap_filter.proofs.printing.+printing.Given as goal

abbrev pub invariant-push_parts-loop-part : goal.invariant-push_parts-loop-part
invariant-push_parts-loop-part l =
    shadow (Utf8 l.word)
    × (string_bytes l.out
    ≡ string_bytes l.initial.out ++ joined_texts (word_in l.around) (λ p. text_in l.around (predicate_text l.spaces p))
    (take l.part-index l.parts))
    × (l.word ≡ word_at (word_in l.around) l.part-index)
