-- Decimal digits and numerals, as std reads them.
use Rattle.std.specs.Str.Parse.{AllDigits, digits_value}
use Rattle.std.proofs.lemmas.Str.Parse.{IsNumeralModel, numerals_by_value, tells_digits}

-- the decimal numerals of std are numerals to its lemmas
pub decimal_model : IsNumeralModel (AllDigits 10) (digits_value 10)
decimal_model = numerals_by_value (AllDigits 10) tells_digits
