-- Whether a quoted value stands at the front of bytes, and whether written characters mean a text or a value.
use Rattle.std.proofs.Common.{◌≡◌, ℕ, ◌<◌, ◌||◌, List, [], ◌∷◌, length, refl, ap, arith, length-append, inl, inr}
use Rattle.std.specs.Prelude.{◌==◌, Option, Some, None}
use Rattle.std.proofs.lemmas.Bool.{cases_Bool}
use Rattle.ifmap_lemmas.specs.Deciding.{Decided, begins_or_not, by_length}
use Rattle.ifmap_elem.specs.Chars.{is_white, ampersand, double_quote, equals_sign, semicolon, single_quote}
use Rattle.ifmap_elem.specs.Tokens.{TakesQuoted}
use Rattle.ifmap_elem.specs.Values.{SpellsOut, reference_value}
use Rattle.ifmap_lexer.specs.Cutting.{Cuts, CutsAt}
use Rattle.ifmap_lexer.specs.Runs.{part_in}
use Rattle.ifmap_elem.specs.declared.escaping.TextPlace.{TextPlace}
use Rattle.ifmap_lexer.proofs.ExpansionLaws.{Along, along_start, along_unended, along_unknown, along_next, along_end}
use Rattle.ifmap_lexer.proofs.QuoteLaws.{no_quote_at, no_sign, no_quote, no_quote_takes, quoted_found}
use Rattle.ifmap_lexer.proofs.deciding.Runs.{cut_of, cut_or_none}

abbrev pub SomeQuoted : List ℕ → Type 0
SomeQuoted bytes = (written : List ℕ) × (rest : List ℕ) × TakesQuoted bytes written rest

none_quoted : {bytes : List ℕ} → ((w r : List ℕ) → TakesQuoted bytes w r → ⊥) → SomeQuoted bytes → ⊥
none_quoted none s = none s.0 s.1 s.2

module _ (bytes before sign : List ℕ) (c : Cuts is_white bytes before sign) (rest after : List ℕ) (e : sign ≡ equals_sign ∷ rest) where
  value_or_none : (value : List ℕ) → Cuts is_white rest after value → Decided (SomeQuoted bytes)
  value_or_none [] d = inr (none_quoted (no_quote bytes before sign c rest after [] e d (λ q r g f. let wrong : [] ≡ q ∷ r = f in cc)))
  value_or_none (q ∷ inside) d = elim (cases_Bool (q == double_quote || q == single_quote)) [
    | inl g ↦ elim (cut_or_none q inside) [
      | inl k ↦ inl (k.0, k.1, quoted_found bytes before sign c rest after (q ∷ inside) e d q inside refl g k.0 k.1 k.2)
      | inr none ↦ inr (none_quoted (no_quote_takes bytes before sign c rest after (q ∷ inside) e d q inside refl g none))
    ]
    | inr g ↦ inr (none_quoted (no_quote bytes before sign c rest after (q ∷ inside) e d (no_quote_at q inside (q ∷ inside) refl g)))
  ]

pub quoted_or_none : (bytes : List ℕ) → Decided (SomeQuoted bytes)
quoted_or_none bytes =
    let c = cut_of is_white bytes in
    elim (begins_or_not (equals_sign ∷ []) c.1) [
      | inl b ↦ let d = cut_of is_white b.0 in value_or_none bytes c.0 c.1 c.2 b.0 d.0 b.1 d.1 d.2
      | inr none ↦ inr (none_quoted (no_sign bytes c.0 c.1 c.2 (λ r e. none (r, e))))
    ]

-- what written characters mean

module _ (place : TextPlace) (written : List ℕ) where
  abbrev pub SomeExpansion : Type 0
  SomeExpansion = (text : List ℕ) × SpellsOut (part_in place) written text

  module _ (made rest run inner : List ℕ) (along : Along place written made rest) (c : CutsAt ampersand rest run inner)
      (name after : List ℕ) (d : CutsAt semicolon inner name after)
      (others : (new : List ℕ) → Along place written new after → Decided SomeExpansion) where
    reference_or_none : (o : Option ℕ) → reference_value name ≡ o → Decided SomeExpansion
    reference_or_none None e = inr (along_unknown place written made rest run inner along c name after d e)
    reference_or_none (Some ch) e = others _ (along_next place written made rest run inner along c name after d _ ch e refl)

  shorter : (rest run inner name after : List ℕ) → CutsAt ampersand rest run inner → CutsAt semicolon inner name after
      → length after < length rest
  shorter rest run inner name after c d =
      omega (
        arith,
        ap length c.bytes_are,
        length-append run (ampersand ∷ inner),
        ap length d.bytes_are,
        length-append name (semicolon ∷ after),
      )

  abbrev FromThere : List ℕ → Type 0
  FromThere rest = (made : List ℕ) → Along place written made rest → Decided SomeExpansion

  expansion_from : (rest : List ℕ) → ((after : List ℕ) → length after < length rest → FromThere after) → FromThere rest
  expansion_from rest others made along = elim (cut_or_none ampersand rest) [
    | inr plain ↦ inl (_, along_end place written made rest _ along plain refl)
    | inl c ↦ elim (cut_or_none semicolon c.1) [
      | inr unended ↦ inr (along_unended place written made rest c.0 c.1 along c.2 unended)
      | inl d ↦
          let less = shorter rest c.0 c.1 d.0 d.1 c.2 d.2 in
          reference_or_none made rest c.0 c.1 along c.2 d.0 d.1 d.2 (λ new. others d.1 less new) (reference_value d.0) refl
    ]
  ]

  pub expansion_or_none : Decided SomeExpansion
  expansion_or_none = by_length FromThere expansion_from written [] (along_start place written [] refl)
