-- Pieces of outlines, printed one after another.
use Rattle.std.proofs.Common.{◌≡◌, ◌≢◌, ℕ, ◌≤◌, List, map, take, length, ap, sym, ◌∙◌, subst}
use Rattle.std.proofs.lemmas.List.{take_all, length-map}
use Rattle.std.proofs.lemmas.List.Folds.{flat_map-map}
use Rattle.std.specs.List.{flat_map}
use Rattle.ifmap_elem.specs.Arranged.{arrange, arrange_child}
use Rattle.ifmap_elem.specs.Canonical.{child_bytes, element_bytes}
use Rattle.ifmap_elem.specs.Namespaces.{spaces_of, spaces_of_child}
use Rattle.ifmap_elem.specs.Outlines.{outline_child}
use Rattle.ifmap_elem.specs.printer.Pieces.{Adds}
use Rattle.ifmap_elem.specs.declared.elements.Child.{Child}
use Rattle.ifmap_elem.specs.declared.elements.Element.{Element}
use Rattle.ifmap_elem.specs.declared.outlines.Piece.{Piece}
use Rattle.ifmap_elem.proofs.PieceLaws.{adds_as}

abbrev Spaces : Type 0
Spaces = List (List ℕ)

abbrev pub spaces_in : Child → Spaces
spaces_in c = spaces_of_child (arrange_child c)

abbrev pub bytes_in : List (List ℕ × List ℕ) → Child → List ℕ
bytes_in rows c = child_bytes rows (arrange_child c)

pub some_outlined : (ps : List Piece) → length ps ≢ 0 → length (map outline_child ps) ≢ 0
some_outlined ps some e = some (sym (length-map ps outline_child) ∙ e)

-- all pieces, as the children that they stand for
pub all_outlined : (ps : List Piece) (i : ℕ) (a b : Spaces) (s t : List ℕ) → length ps ≤ i
    → Adds a (flat_map (λ p. spaces_in (outline_child p)) (take i ps)) b
    (λ rows. flat_map (λ p. bytes_in rows (outline_child p)) (take i ps)) s t
    → Adds a (flat_map spaces_in (map outline_child ps)) b (λ rows. flat_map (bytes_in rows) (map outline_child ps)) s t
all_outlined ps i a b s t l h =
    let all = take_all i ps l in
    adds_as a b (flat_map (λ p. spaces_in (outline_child p)) (take i ps)) (flat_map spaces_in (map outline_child ps))
    (λ rows. flat_map (λ p. bytes_in rows (outline_child p)) (take i ps)) (λ rows. flat_map (bytes_in rows) (map outline_child ps)) s t
    (ap (flat_map (λ p. spaces_in (outline_child p))) all ∙ sym (flat_map-map spaces_in outline_child ps))
    (λ rows. ap (flat_map (λ p. bytes_in rows (outline_child p))) all ∙ sym (flat_map-map (bytes_in rows) outline_child ps)) h

-- an element, as what else it is
pub adds_element_as : (e f : Element) (a b : Spaces) (s t : List ℕ) → e ≡ f
    → Adds a (spaces_of (arrange f)) b (λ rows. element_bytes rows (arrange f)) s t
    → Adds a (spaces_of (arrange e)) b (λ rows. element_bytes rows (arrange e)) s t
adds_element_as e f a b s t is h =
    subst (λ (x : Element). Adds a (spaces_of (arrange x)) b (λ rows. element_bytes rows (arrange x)) s t) (sym is) h
