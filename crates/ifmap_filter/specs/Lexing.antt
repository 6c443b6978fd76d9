-- How the tokenizer cuts texts.
use Rattle.std.specs.Prelude.{◌≡◌, ℕ, Bool, List, chars, encode_utf8_all}
use Rattle.ifmap_filter.specs.Tokens.{after_while, front_while}

-- the characters at the front that pass a test, in their bytes, and what is left
pub record CutsCharacters (p : ℕ → Bool) (text front rest : List ℕ) : Type 0 where
  pub front_is : front ≡ encode_utf8_all (front_while p (chars text))
  pub rest_is : chars rest ≡ after_while p (chars text)
