-- The settings of the XML declaration (XML 1.0, section 2.8).
use Rattle.std.specs.Prelude.{◌≡◌, ◌≢◌, ◌⊎◌, ℕ, false, List, [], ◌∷◌, ◌++◌, codes, map}
use Rattle.std.specs.Char.{to_ascii_uppercase}
use Rattle.ifmap_elem.specs.Chars.{IsWhite, is_white}
use Rattle.ifmap_elem.specs.Tokens.{TakesQuoted, TakesSetting}

-- the name does not begin with white space
abbrev pub StartsNotWhite : List ℕ → Type 0
StartsNotWhite [] = ⊥
StartsNotWhite (b ∷ bs) = is_white b ≡ false

-- white space, this name and a value
pub record SetsTo (name bytes written rest : List ℕ) : Type 0 where
  pub white : List ℕ
  pub after : List ℕ
  pub bytes_are : bytes ≡ white ++ (name ++ after)
  pub is_white : IsWhite white
  pub some_white : white ≢ []
  pub given : TakesQuoted after written rest

-- the setting is taken where it stands, and else nothing is
abbrev pub TakesWhereSet : List ℕ → (List ℕ → Type 0) → List ℕ → List ℕ → Type 0
TakesWhereSet name IsAllowed bytes rest = TakesSetting name IsAllowed bytes rest
    ⊎ ((bytes ≡ rest) × ((r : List ℕ) → TakesSetting name IsAllowed bytes r → ⊥))

-- the values that a declaration may have
abbrev pub IsXmlVersion : List ℕ → Type 0
IsXmlVersion v = v ≡ codes "1.0"

abbrev pub IsEncoding : List ℕ → Type 0
IsEncoding v = map to_ascii_uppercase v ≡ codes "UTF-8"

abbrev pub IsYesOrNo : List ℕ → Type 0
IsYesOrNo v = (v ≡ codes "yes") ⊎ (v ≡ codes "no")

-- the setting of the version
abbrev pub SetsVersion : List ℕ → List ℕ → Type 0
SetsVersion bytes rest = TakesSetting (codes "version") IsXmlVersion bytes rest
