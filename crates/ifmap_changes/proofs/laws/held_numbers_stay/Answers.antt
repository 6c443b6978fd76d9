use Rattle.ifmap_changes.proofs.Numbers.{number_stays}
use Rattle.ifmap_changes.proofs.Steady.{numbered_still}
use Rattle.ifmap_changes.proofs.laws.held_numbers_stay.Goals as goal

pub returns-clause-numbers : goal.returns-clause-numbers
returns-clause-numbers c = λ old new v a own seen fewer here held some.
    number_stays c.bytes_tell_identifiers_apart.ensures old new seen fewer v a own here held some

pub returns-clause-steady : goal.returns-clause-steady
returns-clause-steady c = λ old new standing seen fewer numbered still whole own. record {
  still = still;
  whole = whole;
  own = own;
  numbered = numbered_still c.bytes_tell_identifiers_apart.ensures old new seen fewer standing numbered own;
}
