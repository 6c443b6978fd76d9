-- Pieces that are put after others.
use Rattle.std.proofs.Common.{◌≡◌, ◌∙◌, ℕ, ◌+◌, ◌<◌, List, [], ◌∷◌, ◌++◌, map, length, get_or, take, ap, sym}
use Rattle.std.proofs.lemmas.List.{map-append, take_more}
use Rattle.ifmap_elem.specs.Outlines.{outline_child}
use Rattle.ifmap_elem.specs.declared.elements.Child.{Child}
use Rattle.ifmap_elem.specs.declared.elements.Child as the
use Rattle.ifmap_elem.specs.declared.elements.Element.{Element}
use Rattle.ifmap_elem.specs.declared.outlines.Piece.{Piece}
use Rattle.ifmap_elem.specs.Building.{as_children}

-- what pieces stand for, where one is put after them
pub piece_put_after : (pieces more : List Piece) (piece : Piece) (made : Child) → outline_child piece ≡ made → more ≡ pieces ++ piece ∷ []
    → map outline_child more ≡ map outline_child pieces ++ made ∷ []
piece_put_after pieces more piece made is pushed =
    ap (map outline_child) pushed ∙ map-append outline_child pieces (piece ∷ [])
    ∙ ap (λ c. map outline_child pieces ++ c ∷ []) is

-- an element more of a list of elements
one_more : {X : Type 0} (f : X → Element) (xs : List X) (i : ℕ) (x : X) → i < length xs → x ≡ get_or xs i x
    → as_children (map f (take (i + 1) xs)) ≡ as_children (map f (take i xs)) ++ the.Element (f x) ∷ []
one_more f xs i x low there =
    ap (λ l. as_children (map f l)) (take_more xs i x low)
    ∙ ap as_children (map-append f (take i xs) (get_or xs i x ∷ []))
    ∙ map-append the.Element (map f (take i xs)) (f (get_or xs i x) ∷ [])
    ∙ ap (λ y. as_children (map f (take i xs)) ++ the.Element (f y) ∷ []) (sym there)

-- as many pieces as members, one after another
pub put_next : {X : Type 0} (f : X → Element) (xs : List X) (i : ℕ) (x : X) (pieces more : List Piece) (piece : Piece) → i < length xs
    → x ≡ get_or xs i x → outline_child piece ≡ the.Element (f x) → more ≡ pieces ++ piece ∷ []
    → map outline_child pieces ≡ as_children (map f (take i xs)) → map outline_child more ≡ as_children (map f (take (i + 1) xs))
put_next f xs i x pieces more piece low there is pushed before =
    piece_put_after pieces more piece (the.Element (f x)) is pushed ∙ ap (λ cs. cs ++ the.Element (f x) ∷ []) before
    ∙ sym (one_more f xs i x low there)
