-- A root by the cases of its first piece, which is how a reader meets it; and that this is what `IsRoot` says.
use Rattle.std.specs.Prelude.{◌≡◌, true, List, [], ◌∷◌, refl}
use Rattle.std.proofs.Common.{◌∙◌, ap, sym, subst, inl, inr}
use Rattle.ifmap_elem.specs.declared.elements.Element.{Element}
use Rattle.ifmap_elem.specs.declared.readings.Declared.{Declared}
use Rattle.ifmap_elem.specs.declared.readings.Reading.{Reading}
use Rattle.ifmap_elem.specs.declared.tokens.Tag.{Tag}
use Rattle.ifmap_elem.specs.Document as piece
use Rattle.ifmap_elem.specs.Document.{Pieces, Nothing, chain_pieces, ContentItem, Inner, Run, AreItems, IsElement, IsMargin, IsRoot}
use Rattle.ifmap_elem.specs.InScope.{IsElementPiece}
use Rattle.ifmap_elem.specs.Scopes.{root_scope, scope_within}

-- from the first piece on: what a comment and white space leave is a root, and after an element a margin stands
abbrev pub BeginsWithRoot : Pieces → Reading → Type 0
BeginsWithRoot Nothing r = ⊥
BeginsWithRoot (piece.Comment after) r = BeginsWithRoot after r
BeginsWithRoot (piece.Characters blank text after) r = (blank ≡ true) × BeginsWithRoot after r
BeginsWithRoot (piece.Section text after) r = ⊥
BeginsWithRoot (piece.Empty tag after) r = IsElement root_scope tag [] r.root r.declared × IsMargin after
BeginsWithRoot (piece.Start tag inside after) r =
    (inner : List ContentItem) × AreItems (scope_within root_scope tag) inside inner × IsElement root_scope tag inner r.root r.declared
    × IsMargin after

pub chained_nothing : (c : Pieces) → chain_pieces c Nothing ≡ c
chained_nothing Nothing = refl
chained_nothing (piece.Comment after) = ap piece.Comment (chained_nothing after)
chained_nothing (piece.Characters blank text after) = ap (piece.Characters blank text) (chained_nothing after)
chained_nothing (piece.Section text after) = ap (piece.Section text) (chained_nothing after)
chained_nothing (piece.Empty tag after) = ap (piece.Empty tag) (chained_nothing after)
chained_nothing (piece.Start tag inside after) = ap (piece.Start tag inside) (chained_nothing after)

-- pieces that mean nothing are comments
no_items : (c d : Pieces) → AreItems root_scope c [] → IsMargin d → IsMargin (chain_pieces c d)
no_items Nothing d m h = h
no_items (piece.Comment after) d m h = no_items after d m h
no_items (piece.Characters blank text after) d m h = let e : [] ≡ Run text ∷ m.0 = m.1 in cc
no_items (piece.Section text after) d m h = let e : [] ≡ Run text ∷ m.0 = m.1 in cc
no_items (piece.Empty tag after) d m h = let e : [] ≡ Inner m.0 m.1 ∷ m.2 = m.3 in cc
no_items (piece.Start tag inside after) d m h = let e : [] ≡ Inner m.1 m.2 ∷ m.3 = m.4 in cc

-- one element, and a margin
element_begins : (c d : Pieces) (e : Element) (declared : List Declared) → AreItems root_scope c (Inner e declared ∷ []) → IsMargin d
    → BeginsWithRoot (chain_pieces c d) (record { root = e; declared = declared })
element_begins Nothing d e declared m h = let wrong : Inner e declared ∷ [] ≡ [] = m in cc
element_begins (piece.Comment after) d e declared m h = element_begins after d e declared m h
element_begins (piece.Characters blank text after) d e declared m h = let wrong : Inner e declared ∷ [] ≡ Run text ∷ m.0 = m.1 in cc
element_begins (piece.Section text after) d e declared m h = let wrong : Inner e declared ∷ [] ≡ Run text ∷ m.0 = m.1 in cc
element_begins (piece.Empty tag after) d e declared m h =
    let one : Inner e declared ∷ [] ≡ Inner m.0 m.1 ∷ m.2 = m.3 in
    let same : m.0 ≡ e = cc in
    let told : m.1 ≡ declared = cc in
    let last : m.2 ≡ [] = cc in (
      subst (λ (x : Element). IsElement root_scope tag [] x declared) same
          (subst (λ (x : List Declared). IsElement root_scope tag [] m.0 x) told m.4),
      no_items after d (subst (λ (is : List ContentItem). AreItems root_scope after is) last m.5) h,
    )
element_begins (piece.Start tag inside after) d e declared m h =
    let one : Inner e declared ∷ [] ≡ Inner m.1 m.2 ∷ m.3 = m.4 in
    let same : m.1 ≡ e = cc in
    let told : m.2 ≡ declared = cc in
    let last : m.3 ≡ [] = cc in (
      m.0,
      m.5,
      subst (λ (x : Element). IsElement root_scope tag m.0 x declared) same
          (subst (λ (x : List Declared). IsElement root_scope tag m.0 m.1 x) told m.6),
      no_items after d (subst (λ (is : List ContentItem). AreItems root_scope after is) last m.7) h,
    )

-- a margin before it
margin_begins : (c d : Pieces) (r : Reading) → IsMargin c → BeginsWithRoot d r → BeginsWithRoot (chain_pieces c d) r
margin_begins Nothing d r m h = h
margin_begins (piece.Comment after) d r m h = margin_begins after d r m h
margin_begins (piece.Characters blank text after) d r m h = (m.0, margin_begins after d r m.1 h)
margin_begins (piece.Section text after) d r m h = absurd m
margin_begins (piece.Empty tag after) d r m h = absurd m
margin_begins (piece.Start tag inside after) d r m h = absurd m

pub root_begins : (c : Pieces) (r : Reading) → IsRoot c r → BeginsWithRoot c r
root_begins c r h =
    subst (λ (d : Pieces). BeginsWithRoot d r) (sym h.pieces_are)
    (margin_begins h.before (chain_pieces h.element h.after) r h.margin_before
    (element_begins h.element h.after r.root r.declared h.means h.margin_after))

-- the root of pieces between margins, with its tag and what stands in it
pub record HasRoot (pieces : Pieces) (r : Reading) : Type 0 where
  pub before : Pieces
  pub element : Pieces
  pub tag : Tag
  pub inside : Pieces
  pub after : Pieces
  pub items : List ContentItem
  pub pieces_are : pieces ≡ chain_pieces before element
  pub margin : IsMargin before
  pub is_piece : IsElementPiece element tag inside after
  pub inside_are : AreItems (scope_within root_scope tag) inside items
  pub is_element : IsElement root_scope tag items r.root r.declared
  pub margin_after : IsMargin after

-- after one more piece of the margin
with_margin : (wrap : Pieces → Pieces) → ((c d : Pieces) → chain_pieces (wrap c) d ≡ wrap (chain_pieces c d))
    → ((c : Pieces) → IsMargin c → IsMargin (wrap c)) → (after : Pieces) (r : Reading) → HasRoot after r → HasRoot (wrap after) r
with_margin wrap chains stays after r p = record {
  before = wrap p.before;
  element = p.element;
  tag = p.tag;
  inside = p.inside;
  after = p.after;
  items = p.items;
  pieces_are = ap wrap p.pieces_are ∙ sym (chains p.before p.element);
  margin = stays p.before p.margin;
  is_piece = p.is_piece;
  inside_are = p.inside_are;
  is_element = p.is_element;
  margin_after = p.margin_after;
}

pub root_of : (pieces : Pieces) (r : Reading) → BeginsWithRoot pieces r → HasRoot pieces r
root_of Nothing r h = absurd h
root_of (piece.Comment after) r h = with_margin piece.Comment (λ c q. refl) (λ c m. m) after r (root_of after r h)
root_of (piece.Characters blank text after) r h =
    with_margin (piece.Characters blank text) (λ c q. refl) (λ c m. (h.0, m)) after r (root_of after r h.1)
root_of (piece.Section text after) r h = absurd h
root_of (piece.Empty tag after) r h = record {
  before = Nothing;
  element = piece.Empty tag after;
  tag = tag;
  inside = Nothing;
  after = after;
  items = [];
  pieces_are = refl;
  margin = tt;
  is_piece = inr (refl, refl);
  inside_are = refl;
  is_element = h.0;
  margin_after = h.1;
}
root_of (piece.Start tag inside after) r h = record {
  before = Nothing;
  element = piece.Start tag inside after;
  tag = tag;
  inside = inside;
  after = after;
  items = h.0;
  pieces_are = refl;
  margin = tt;
  is_piece = inl refl;
  inside_are = h.1;
  is_element = h.2;
  margin_after = h.3;
}

pub begins_root : (c : Pieces) (r : Reading) → BeginsWithRoot c r → IsRoot c r
begins_root c r h =
    let root = root_of c r h in
    elim root.is_piece [
      | inl start ↦ record {
        before = root.before;
        element = piece.Start root.tag root.inside Nothing;
        after = root.after;
        pieces_are = root.pieces_are ∙ ap (chain_pieces root.before) start;
        margin_before = root.margin;
        means = (root.items, r.root, r.declared, [], refl, root.inside_are, root.is_element, refl);
        margin_after = root.margin_after;
      }
      | inr empty ↦
          let none : root.items ≡ [] =
          subst (λ (d : Pieces). AreItems (scope_within root_scope root.tag) d root.items) empty.1 root.inside_are in record {
            before = root.before;
            element = piece.Empty root.tag Nothing;
            after = root.after;
            pieces_are = root.pieces_are ∙ ap (chain_pieces root.before) empty.0;
            margin_before = root.margin;
            means = (
              r.root,
              r.declared,
              [],
              refl,
              subst (λ (is : List ContentItem). IsElement root_scope root.tag is r.root r.declared) none root.is_element,
              refl,
            );
            margin_after = root.margin_after;
          }
    ]
