use Rattle.clap.specs.Words.{found_of}
use Rattle.ifmap_words.proofs.Reading.{no_value_is_none, value_is_found}
use Rattle.ifmap_words.specs.Pairs.{first_id, second_id}
use Rattle.ifmap_words.proofs.pairs.pair_in.Goals as goal

pub returns-in_err-first : goal.returns-in_err-first
returns-in_err-first c = λ x y first second.
    absurd (no_value_is_none (found_of c.args.matches.now) first_id x c.get_str.result c.get_str.ensures c.in_err-first.was first)

pub returns-in_err-second : goal.returns-in_err-second
returns-in_err-second c = λ x y first second.
    absurd (no_value_is_none (found_of c.args.matches.now) second_id y c.get_str-2.result c.get_str-2.ensures c.in_err-second.was second)

pub returns : goal.returns
returns c = λ x y first second. (
  value_is_found (found_of c.args.matches.now) first_id x c.get_str.result c.in_ok-first.first c.get_str.ensures c.in_ok-first.was first,
  value_is_found (found_of c.args.matches.now) second_id y c.get_str-2.result c.in_ok-second.second c.get_str-2.ensures
      c.in_ok-second.was second,
)
