-- What a document begins with: none is empty, and none begins with a byte that is neither `<` nor white space.
-- The first token of such bytes is a text that is not white space alone, and a document has no such text outside its root.
use Rattle.std.proofs.Common.{◌≡◌, ◌≢◌, refl, ap, ◌∙◌, sym, subst, ℕ, Bool, true, false, ◌&&◌, ◌==◌, List, [], ◌∷◌, ◌++◌}
use Rattle.std.specs.Prelude.{if◌then◌else◌}
use Rattle.std.specs.List.{list_all}
use Rattle.ifmap_elem.specs.Chars.{is_white}
use Rattle.ifmap_elem.specs.Document as piece
use Rattle.ifmap_elem.specs.Document.{IsDocument, Nothing, Pieces, heading, tokens_of}
use Rattle.ifmap_elem.specs.Spells.{Spells, without_byte_order_mark}
use Rattle.ifmap_elem.specs.Tokens.{TakesToken}
use Rattle.ifmap_elem.specs.Kinds.{kind_of, kind_of_markup}
use Rattle.ifmap_elem.specs.declared.tokens.TokenKind.TheVariants as kinds
use Rattle.ifmap_elem.specs.laws.OneToken.{kind_is, no_token}
use Rattle.ifmap_elem.specs.laws.Roots.{BeginsWithRoot, root_begins}
use Rattle.ifmap_elem.specs.declared.readings.Reading.{Reading}
use Rattle.ifmap_elem.specs.declared.tokens.Token.{Token}
use Rattle.ifmap_elem.specs.declared.tokens.Token.TheVariants.{Declaration, Comment, Start, Empty, End, Section, Characters}
use Rattle.ifmap_lemmas.specs.Items.{To}

-- a text that is not white space alone
abbrev IsSolid : Token → Type 0
IsSolid Declaration = ⊥
IsSolid Comment = ⊥
IsSolid (Start tag) = ⊥
IsSolid (Empty tag) = ⊥
IsSolid (End name) = ⊥
IsSolid (Section text) = ⊥
IsSolid (Characters blank text) = blank ≡ false

-- the first of the tokens is such a text
abbrev BeginsSolid : List Token → Type 0
BeginsSolid [] = ⊥
BeginsSolid (t ∷ ts) = IsSolid t

no_solid_root : (c : Pieces) (r : Reading) → BeginsWithRoot c r → BeginsSolid (tokens_of c) → ⊥
no_solid_root Nothing r h s = h
no_solid_root (piece.Comment after) r h s = s
no_solid_root (piece.Characters blank text after) r h s = let q : true ≡ false = sym h.0 ∙ s in cc
no_solid_root (piece.Section text after) r h s = h
no_solid_root (piece.Empty tag after) r h s = s
no_solid_root (piece.Start tag inside after) r h s = s

no_solid_document : (ts : List Token) (r : Reading) → IsDocument ts r → BeginsSolid ts → ⊥
no_solid_document ts r d s = at d.declared (subst BeginsSolid d.tokens_are s)
  where
    at : (b : Bool) → BeginsSolid (heading b ++ tokens_of d.pieces) → ⊥
    at true q = q
    at false q = no_solid_root d.pieces r (root_begins d.pieces r d.rooted) q

some_tokens : (c : Pieces) (r : Reading) → BeginsWithRoot c r → [] ≡ tokens_of c → ⊥
some_tokens Nothing r h e = h
some_tokens (piece.Comment after) r h e = let q : [] ≡ Comment ∷ tokens_of after = e in cc
some_tokens (piece.Characters blank text after) r h e = let q : [] ≡ Characters blank text ∷ tokens_of after = e in cc
some_tokens (piece.Section text after) r h e = h
some_tokens (piece.Empty tag after) r h e = let q : [] ≡ Empty tag ∷ tokens_of after = e in cc
some_tokens (piece.Start tag inside after) r h e =
    let q : [] ≡ Start tag ∷ (tokens_of inside ++ (End tag.name ∷ tokens_of after)) = e in cc

no_empty_document : (r : Reading) → IsDocument [] r → ⊥
no_empty_document r d = at d.declared d.tokens_are
  where
    at : (b : Bool) → [] ≡ heading b ++ tokens_of d.pieces → ⊥
    at true e = let q : [] ≡ Declaration ∷ tokens_of d.pieces = e in cc
    at false e = some_tokens d.pieces r (root_begins d.pieces r d.rooted) e

-- no bytes spell nothing
pub nothing_spelled : (r : Reading) → Spells [] r → ⊥
nothing_spelled r s = at s.tokens s.lexed s.document
  where
    at : (ts : List Token) → To TakesToken [] ts [] → IsDocument ts r → ⊥
    at [] l d = no_empty_document r d
    at (t ∷ ts) l d = no_token [] t l.0 refl l.1

module _ (b : ℕ) (bs : List ℕ) (no_tag : (b == 0x3C) ≡ false) (black : is_white b ≡ false) where
  black_front : (own rest : List ℕ) → own ≢ [] → b ∷ bs ≡ own ++ rest → list_all is_white own ≡ false
  black_front [] rest some e = absurd (some refl)
  black_front (o ∷ os) rest some e =
      let head : b ≡ o = cc in ap (λ t. t && list_all is_white os) (ap is_white (sym head) ∙ black)

  solid_token : (t : Token) (rest : List ℕ) → TakesToken (b ∷ bs) t rest → IsSolid t
  solid_token t rest l = by t l (ap (λ x. if x then kind_of_markup bs else kinds.Text) (sym no_tag) ∙ kind_is (b ∷ bs) t rest l)
    where
      by : (u : Token) → TakesToken (b ∷ bs) u rest → kinds.Text ≡ kind_of u → IsSolid u
      by Declaration m e = cc
      by Comment m e = cc
      by (Start tag) m e = cc
      by (Empty tag) m e = cc
      by (End name) m e = cc
      by (Section text) m e = cc
      by (Characters blank text) m e = m.blank_is ∙ black_front m.own rest m.some m.bytes_are

  -- bytes that begin with such a byte spell nothing
  pub black_spelled : without_byte_order_mark (b ∷ bs) ≡ b ∷ bs → (r : Reading) → Spells (b ∷ bs) r → ⊥
  black_spelled plain r s = at s.tokens (subst (λ (x : List ℕ). To TakesToken x s.tokens []) plain s.lexed) s.document
    where
      at : (ts : List Token) → To TakesToken (b ∷ bs) ts [] → IsDocument ts r → ⊥
      at [] l d = let q : b ∷ bs ≡ [] = l in cc
      at (t ∷ ts) l d = no_solid_document (t ∷ ts) r d (solid_token t l.0 l.1)
