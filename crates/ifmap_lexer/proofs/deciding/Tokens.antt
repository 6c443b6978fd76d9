-- Whether a token stands at the front of bytes, by its kind.
use Rattle.std.proofs.Common.{◌≡◌, ℕ, List, [], ◌∷◌, refl, arith, ◌⊎◌, inl, inr}
use Rattle.std.specs.Prelude.{codes}
use Rattle.std.specs.List.{list_all}
use Rattle.ifmap_lemmas.specs.Deciding.{Decided, begins_or_not}
use Rattle.ifmap_elem.specs.Chars.{is_white, less_than}
use Rattle.ifmap_elem.specs.Values.{line_ends}
use Rattle.ifmap_elem.specs.declared.tokens.Token.TheVariants.{Declaration, Comment, Start, Empty, End, Section, Characters}
use Rattle.ifmap_lexer.specs.Cutting.{Cuts, is_but}
use Rattle.ifmap_elem.specs.Kinds.{Stands, kind_at}
use Rattle.ifmap_elem.specs.declared.tokens.TokenKind.{TokenKind}
use Rattle.ifmap_elem.specs.declared.tokens.TokenKind.TheVariants as kinds
use Rattle.ifmap_elem.specs.declared.escaping.TextPlace.TheVariants.{Content}
use Rattle.ifmap_lexer.specs.There.{SomeToken}
use Rattle.ifmap_lexer.proofs.TokenLaws.{of_kind, of_no_kind, no_declaration, no_comment_begins, no_dashes, no_comment_end}
use Rattle.ifmap_lexer.proofs.TokenLaws.{no_comment_characters, comment_found, no_section_begins, no_brackets, no_section_characters}
use Rattle.ifmap_lexer.proofs.TokenLaws.{section_found, no_end_begins, end_name, no_end_end, end_found, some_tag, no_tag_end}
use Rattle.ifmap_lexer.proofs.TokenLaws.{start_found, empty_found, no_own, no_text_end, no_text_characters, some_text, text_found}
use Rattle.ifmap_lexer.proofs.deciding.Declarations.{declaration_or_none}
use Rattle.ifmap_lexer.proofs.deciding.Names.{name_or_none}
use Rattle.ifmap_lexer.proofs.deciding.Runs.{characters_or_not, cut_of, lacks_or_not, word_or_none}
use Rattle.ifmap_lexer.proofs.deciding.Tags.{tag_or_none}
use Rattle.ifmap_lexer.proofs.deciding.Values.{expansion_or_none}

-- a token stands there, or none of the kind
abbrev StandsOrNone : TokenKind → List ℕ → Type 0
StandsOrNone kind bytes = SomeToken bytes ⊎ (Stands kind bytes → ⊥)

declaration_stands : (bytes : List ℕ) → StandsOrNone kinds.Declaration bytes
declaration_stands bytes = elim (declaration_or_none bytes) [
  | inl d ↦ inl (Declaration, d.0, d.1)
  | inr none ↦ inr (no_declaration bytes (λ r t. none (r, t)))
]

comment_stands : (bytes : List ℕ) → StandsOrNone kinds.Comment bytes
comment_stands bytes = elim (begins_or_not (codes "<!--") bytes) [
  | inr none ↦ inr (no_comment_begins bytes (λ r e. none (r, e)))
  | inl b ↦ elim (word_or_none (codes "--") b.0 (omega arith)) [
    | inr lacks ↦ inr (no_dashes bytes b.0 b.1 lacks)
    | inl w ↦ elim (begins_or_not (codes ">") w.1) [
      | inr none ↦ inr (no_comment_end bytes b.0 b.1 w.0 w.1 w.2 (λ r e. none (r, e)))
      | inl end ↦ elim (characters_or_not w.0) [
        | inr fails ↦ inr (no_comment_characters bytes b.0 b.1 w.0 w.1 w.2 fails)
        | inl f ↦ inl (Comment, end.0, comment_found bytes b.0 b.1 w.0 w.1 w.2 end.0 end.1 f)
      ]
    ]
  ]
]

section_stands : (bytes : List ℕ) → StandsOrNone kinds.Section bytes
section_stands bytes = elim (begins_or_not (codes "<![CDATA[") bytes) [
  | inr none ↦ inr (no_section_begins bytes (λ r e. none (r, e)))
  | inl b ↦ elim (word_or_none (codes "]]>") b.0 (omega arith)) [
    | inr lacks ↦ inr (no_brackets bytes b.0 b.1 lacks)
    | inl w ↦ elim (characters_or_not w.0) [
      | inr fails ↦ inr (no_section_characters bytes b.0 b.1 w.0 w.1 w.2 fails)
      | inl f ↦ inl (Section (line_ends w.0), w.1, section_found bytes b.0 b.1 w.0 w.1 w.2 (line_ends w.0) f refl)
    ]
  ]
]

end_stands : (bytes : List ℕ) → StandsOrNone kinds.End bytes
end_stands bytes = elim (begins_or_not (codes "</") bytes) [
  | inr none ↦ inr (no_end_begins bytes (λ r e. none (r, e)))
  | inl b ↦ elim (name_or_none b.0) [
    | inr none ↦ inr (λ s. none (end_name bytes b.0 b.1 s))
    | inl n ↦
        let c = cut_of is_white n.1 in
        elim (begins_or_not (codes ">") c.1) [
          | inr none ↦ inr (no_end_end bytes b.0 b.1 n.0 n.1 c.0 c.1 (n.2, n.3, n.4) c.2 (λ r e. none (r, e)))
          | inl end ↦ inl (End n.0, end.0, end_found bytes b.0 b.1 n.0 n.1 c.0 c.1 (n.2, n.3, n.4) c.2 end.0 end.1)
        ]
  ]
]

tag_stands : (bytes : List ℕ) → StandsOrNone kinds.Tag bytes
tag_stands bytes = elim (tag_or_none bytes) [
  | inr none ↦ inr (λ s. none (some_tag bytes s))
  | inl t ↦ elim (begins_or_not (codes ">") t.1) [
    | inl b ↦ inl (Start t.0, b.0, start_found bytes t.0 t.1 b.0 t.2 b.1)
    | inr one ↦ elim (begins_or_not (codes "/>") t.1) [
      | inl b ↦ inl (Empty t.0, b.0, empty_found bytes t.0 t.1 b.0 t.2 b.1)
      | inr two ↦ inr (no_tag_end bytes t.0 t.1 t.2 t.3 (λ r e. one (r, e)) (λ r e. two (r, e)))
    ]
  ]
]

text_before : (bytes own rest : List ℕ) → Cuts (is_but less_than) bytes own rest → StandsOrNone kinds.Text bytes
text_before bytes [] rest c = inr (no_own bytes [] rest c refl)
text_before bytes (b ∷ bs) rest c = elim (lacks_or_not (codes "]]>") (b ∷ bs)) [
  | inr fails ↦ inr (no_text_end bytes (b ∷ bs) rest c fails)
  | inl lacks ↦ elim (characters_or_not (b ∷ bs)) [
    | inr fails ↦ inr (no_text_characters bytes (b ∷ bs) rest c fails)
    | inl f ↦ elim (expansion_or_none Content (b ∷ bs)) [
      | inr none ↦ inr (λ s. none (some_text bytes (b ∷ bs) rest c s))
      | inl x ↦
          let blank = list_all is_white (b ∷ bs) in
          inl (Characters blank x.0, rest, text_found bytes (b ∷ bs) rest c (λ e. cc) lacks f blank refl x.0 x.1)
    ]
  ]
]

text_stands : (bytes : List ℕ) → StandsOrNone kinds.Text bytes
text_stands bytes = let c = cut_of (is_but less_than) bytes in text_before bytes c.0 c.1 c.2

by_kind : (kind : TokenKind) (bytes : List ℕ) → kind ≡ kind_at bytes → StandsOrNone kind bytes → Decided (SomeToken bytes)
by_kind kind bytes e (inl t) = inl t
by_kind kind bytes e (inr none) = inr (λ t. none (of_kind kind bytes e t))

by_first : (kind : TokenKind) (bytes : List ℕ) → kind ≡ kind_at bytes → Decided (SomeToken bytes)
by_first kinds.Nothing bytes e = inr (of_no_kind bytes e)
by_first kinds.Text bytes e = by_kind kinds.Text bytes e (text_stands bytes)
by_first kinds.Declaration bytes e = by_kind kinds.Declaration bytes e (declaration_stands bytes)
by_first kinds.End bytes e = by_kind kinds.End bytes e (end_stands bytes)
by_first kinds.Tag bytes e = by_kind kinds.Tag bytes e (tag_stands bytes)
by_first kinds.Comment bytes e = by_kind kinds.Comment bytes e (comment_stands bytes)
by_first kinds.Section bytes e = by_kind kinds.Section bytes e (section_stands bytes)

pub token_or_none : (bytes : List ℕ) → Decided (SomeToken bytes)
token_or_none bytes = by_first (kind_at bytes) bytes refl
