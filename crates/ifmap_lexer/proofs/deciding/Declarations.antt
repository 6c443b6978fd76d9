-- Whether a declaration stands at the front of bytes.
use Rattle.std.proofs.Common.{ℕ, List, [], ◌∷◌, map, refl, inl, inr}
use Rattle.std.specs.Prelude.{codes}
use Rattle.std.specs.Char.{to_ascii_uppercase}
use Rattle.ifmap_lemmas.specs.Deciding.{Decided, begins_or_not, decided_either, same_or_not}
use Rattle.ifmap_elem.specs.Chars.{is_white}
use Rattle.ifmap_elem.specs.Tokens.{TakesDeclaration, TakesSetting}
use Rattle.ifmap_lexer.specs.Cutting.{Cuts}
use Rattle.ifmap_lexer.specs.Settings.{IsEncoding, IsXmlVersion, IsYesOrNo, SetsTo, StartsNotWhite, TakesWhereSet}
use Rattle.ifmap_lexer.proofs.SettingLaws.{not_spaced, not_named, not_given, setting_found, taken_with, not_allowed, not_set, no_version}
use Rattle.ifmap_lexer.proofs.SettingLaws.{no_end, declaration_found}
use Rattle.ifmap_lexer.proofs.deciding.Runs.{cut_of}
use Rattle.ifmap_lexer.proofs.deciding.Values.{quoted_or_none}

module _ (name : List ℕ) (starts : StartsNotWhite name) (bytes : List ℕ) where
  abbrev SomeSetting : Type 0
  SomeSetting = (written : List ℕ) × (rest : List ℕ) × SetsTo name bytes written rest

  none_set : ((w r : List ℕ) → SetsTo name bytes w r → ⊥) → SomeSetting → ⊥
  none_set none s = none s.0 s.1 s.2

  setting_after : (white inner : List ℕ) → Cuts is_white bytes white inner → Decided SomeSetting
  setting_after [] inner c = inr (none_set (not_spaced name starts bytes [] inner c refl))
  setting_after (b ∷ bs) inner c = elim (begins_or_not name inner) [
    | inr none ↦ inr (none_set (not_named name starts bytes (b ∷ bs) inner c (λ r e. none (r, e))))
    | inl n ↦ elim (quoted_or_none n.0) [
      | inr none ↦ inr (none_set (not_given name starts bytes (b ∷ bs) inner c n.0 n.1 (λ w r q. none (w, r, q))))
      | inl q ↦ inl (q.0, q.1, setting_found name starts bytes (b ∷ bs) inner c n.0 n.1 q.0 q.1 (λ e. cc) q.2)
    ]
  ]

  setting_or_none : Decided SomeSetting
  setting_or_none = let c = cut_of is_white bytes in setting_after c.0 c.1 c.2

  module _ (Allows : List ℕ → Type 0) (allows : (w : List ℕ) → Decided (Allows w)) where
    allowed_or_none : Decided ((rest : List ℕ) × TakesSetting name Allows bytes rest)
    allowed_or_none = elim setting_or_none [
      | inr none ↦ inr (λ t. not_set name starts Allows bytes (λ w r s. none (w, r, s)) t.0 t.1)
      | inl s ↦ elim (allows s.0) [
        | inl a ↦ inl (s.1, taken_with name starts Allows bytes s.0 s.1 s.2 a)
        | inr fails ↦ inr (λ t. not_allowed name starts Allows bytes s.0 s.1 s.2 fails t.0 t.1)
      ]
    ]

    where_set : (rest : List ℕ) × TakesWhereSet name Allows bytes rest
    where_set = elim allowed_or_none [
      | inl t ↦ (t.0, inl t.1)
      | inr none ↦ (bytes, inr (refl, λ r t. none (r, t)))
    ]

version_or_not : (v : List ℕ) → Decided (IsXmlVersion v)
version_or_not v = same_or_not v (codes "1.0")

encoding_or_not : (v : List ℕ) → Decided (IsEncoding v)
encoding_or_not v = same_or_not (map to_ascii_uppercase v) (codes "UTF-8")

alone_or_not : (v : List ℕ) → Decided (IsYesOrNo v)
alone_or_not v = decided_either (same_or_not v (codes "yes")) (same_or_not v (codes "no"))

abbrev pub SomeDeclaration : List ℕ → Type 0
SomeDeclaration bytes = (rest : List ℕ) × TakesDeclaration bytes rest

pub declaration_or_none : (bytes : List ℕ) → Decided (SomeDeclaration bytes)
declaration_or_none bytes = elim (begins_or_not (codes "<?xml") bytes) [
  | inr none ↦ inr (λ d. none (d.1.first, d.1.bytes_are))
  | inl b ↦ elim (allowed_or_none (codes "version") refl b.0 IsXmlVersion version_or_not) [
    | inr none ↦ inr (λ d. no_version bytes b.0 b.1 (λ r t. none (r, t)) d.0 d.1)
    | inl v ↦
        let enc = where_set (codes "encoding") refl v.0 IsEncoding encoding_or_not in
        let alone = where_set (codes "standalone") refl enc.0 IsYesOrNo alone_or_not in
        let c = cut_of is_white alone.0 in
        elim (begins_or_not (codes "?>") c.1) [
          | inr none ↦ inr (λ d. no_end bytes b.0 b.1 v.0 enc.0 alone.0 c.0 c.1 v.1 enc.1 alone.1 c.2 (λ r e. none (r, e)) d.0 d.1)
          | inl end ↦ inl (end.0, declaration_found bytes b.0 b.1 v.0 enc.0 alone.0 c.0 c.1 v.1 enc.1 alone.1 c.2 end.0 end.1)
        ]
  ]
]
