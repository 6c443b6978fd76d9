-- What outlines stand for, level by level.
use Rattle.std.proofs.Common.{◌≡◌, List, ℕ, map, ap, sym, ◌∙◌, Bor}
use Rattle.ifmap_elem.specs.Outlines.{label_name, outline_element, outline_element_of, outline_child, outline_child_of}
use Rattle.ifmap_elem.specs.declared.elements.Child.{Child}
use Rattle.ifmap_elem.specs.declared.elements.Child as child
use Rattle.ifmap_elem.specs.declared.elements.Element.{Element}
use Rattle.ifmap_elem.specs.declared.outlines.Piece.{fold-roll-Piece}
use Rattle.ifmap_elem.specs.declared.outlines.Piece as piece
use Rattle.ifmap_elem.specs.declared.outlines.Piece.TheOpen.{Piece-F}
use Rattle.ifmap_elem.specs.declared.outlines.Piece.TheVariants.{rolls-Text, rolls-Shared, rolls-Outline}
use Rattle.ifmap_elem.specs.declared.outlines.Outline.{Outline, fold_out-Outline}

-- an outline stands for an element of its name and its attributes, in which its pieces stand
pub outlined_is : (o : Outline) → outline_element o ≡ record {
  name = label_name o.label;
  attributes = o.attributes;
  children = map outline_child o.pieces;
}
outlined_is o = fold_out-Outline Child Element outline_child_of outline_element_of o

at_piece : (p : Piece-F piece.Piece Outline) → outline_child (piece.roll-Piece p) ≡ outline_child_of
    (piece.map-Piece piece.Piece Outline Child Element outline_child outline_element p)
at_piece p = fold-roll-Piece Child Element outline_child_of outline_element_of p

pub outlined_text : (t : Bor (List ℕ)) → outline_child (piece.Text t) ≡ child.Text t.now
outlined_text t = ap outline_child (sym (rolls-Text t)) ∙ at_piece (Piece-F.Text t)

pub outlined_shared : (e : Bor Element) → outline_child (piece.Shared e) ≡ child.Element e.now
outlined_shared e = ap outline_child (sym (rolls-Shared e)) ∙ at_piece (Piece-F.Shared e)

pub outlined_inside : (o : Outline) → outline_child (piece.Outline o) ≡ child.Element (outline_element o)
outlined_inside o = ap outline_child (sym (rolls-Outline o)) ∙ at_piece (Piece-F.Outline o)
