-- The note of a result that is too big is of characters, and limits of sessions are words.
use Rattle.std.proofs.Common.{ℕ, ◌++◌}
use Rattle.std.proofs.Common.{codes, refl, arith}
use Rattle.std.specs.Prelude.{Option, None, Some}
use Rattle.std.specs.Fmt.{decimal}
use Rattle.ifmap_elem.specs.Chars.{IsCharacters}
use Rattle.ifmap_lemmas.specs.Members.{all_append, all_of_test}
use Rattle.ifmap_machine.specs.Telling.{limit_note}
use Rattle.ifmap_replies.specs.Fit.{IsWord}
use Rattle.ifmap_session.specs.Sessions.{limit_of}
use Rattle.ifmap_elem.specs.laws.CharacterLaws.{is_plain, plain_characters}
use Rattle.ifmap_session.specs.laws.IdLaws.{decimal_plain}

-- ---- numerals

pub limit_characters : (size limit : ℕ) → IsCharacters (limit_note size limit)
limit_characters size limit =
    plain_characters (limit_note size limit)
    (all_append is_plain (decimal size ++ codes " of ") (decimal limit)
    (all_append is_plain (decimal size) (codes " of ") (decimal_plain size) (all_of_test is_plain (codes " of ") refl))
    (decimal_plain limit))

-- ---- limits

pub limit_word : (limit : Option ℕ) → IsWord (limit_of limit)
limit_word None = omega arith
limit_word (Some asked) = grind arith
