-- A list of bytes spells at most one element, with one list of declarations.
use Rattle.std.proofs.Common.{◌≡◌, ℕ, Bool, true, false, List, [], ◌∷◌, ◌++◌, refl, ap, sym, ◌∙◌, subst, append_assoc}
use Rattle.std.specs.Prelude.{Some}
use Rattle.ifmap_lemmas.specs.Items.{To, one_list}
use Rattle.ifmap_elem.specs.declared.elements.Attribute.{Attribute}
use Rattle.ifmap_elem.specs.declared.elements.Name.{Name}
use Rattle.ifmap_elem.specs.declared.elements.Element.{Element}
use Rattle.ifmap_elem.specs.declared.readings.Declared.{Declared}
use Rattle.ifmap_elem.specs.declared.readings.Reading.{Reading}
use Rattle.ifmap_elem.specs.declared.tokens.Assignment.{Assignment}
use Rattle.ifmap_elem.specs.declared.tokens.Tag.{Tag}
use Rattle.ifmap_elem.specs.declared.tokens.Token.{Token}
use Rattle.ifmap_elem.specs.declared.tokens.Token.TheVariants.{Declaration, Start, End}
use Rattle.ifmap_elem.specs.Tokens.{TakesToken}
use Rattle.ifmap_elem.specs.Places.{is_end}
use Rattle.ifmap_elem.specs.Scopes.{Scope, root_scope, scope_within, plain_assignments, IsAttribute, AreAttributes, NamesElement}
use Rattle.ifmap_elem.specs.Document as piece
use Rattle.ifmap_elem.specs.Document.{Pieces, Nothing, tokens_of, ContentItem, Inner, Run, IsElement, AreItems, heading, IsDocument}
use Rattle.ifmap_elem.specs.laws.Roots.{BeginsWithRoot, root_begins}
use Rattle.ifmap_elem.specs.Spells.{Spells, without_byte_order_mark}
use Rattle.ifmap_elem.specs.laws.OneToken.{one_token, no_token}

-- pieces has ended here: an end tag stands here, or nothing
abbrev pub EndsPieces : List Token → Type 0
EndsPieces [] = Unit {0}
EndsPieces (t ∷ ts) = is_end t ≡ true

nothing_is : (d : Pieces) (r s : List Token) → EndsPieces r → r ≡ tokens_of d ++ s → (Nothing ≡ d) × (r ≡ s)
nothing_is Nothing r s h e = (refl, e)
nothing_is (piece.Comment after) r s h e = let wrong : false ≡ true = subst EndsPieces e h in cc
nothing_is (piece.Characters blank text after) r s h e = let wrong : false ≡ true = subst EndsPieces e h in cc
nothing_is (piece.Section text after) r s h e = let wrong : false ≡ true = subst EndsPieces e h in cc
nothing_is (piece.Empty tag after) r s h e = let wrong : false ≡ true = subst EndsPieces e h in cc
nothing_is (piece.Start tag inside after) r s h e = let wrong : false ≡ true = subst EndsPieces e h in cc

branch_seam : (tag : Tag) (inside after : Pieces) (r : List Token)
    → tokens_of (piece.Start tag inside after) ++ r ≡ Start tag ∷ (tokens_of inside ++ (End tag.name ∷ (tokens_of after ++ r)))
branch_seam tag inside after r = ap (λ ts. Start tag ∷ ts) (append_assoc (tokens_of inside) (End tag.name ∷ tokens_of after) r)

-- tokens are those of one pieces
pub one_content : (c d : Pieces) (r s : List Token) → EndsPieces r → EndsPieces s → tokens_of c ++ r ≡ tokens_of d ++ s → (c ≡ d) × (r ≡ s)
one_content Nothing d r s h k e = nothing_is d r s h e
one_content c Nothing r s h k e = let both = nothing_is c s r k (sym e) in (sym both.0, sym both.1)
one_content (piece.Comment a) (piece.Comment b) r s h k e =
    let tail : tokens_of a ++ r ≡ tokens_of b ++ s = cc in
    let both = one_content a b r s h k tail in
    (ap piece.Comment both.0, both.1)
one_content (piece.Characters x t a) (piece.Characters y u b) r s h k e =
    let tail : tokens_of a ++ r ≡ tokens_of b ++ s = cc in
    let flag : x ≡ y = cc in
    let text : t ≡ u = cc in
    let both = one_content a b r s h k tail in
    let after : a ≡ b = both.0 in
    (cc, both.1)
one_content (piece.Section t a) (piece.Section u b) r s h k e =
    let tail : tokens_of a ++ r ≡ tokens_of b ++ s = cc in
    let text : t ≡ u = cc in
    let both = one_content a b r s h k tail in
    let after : a ≡ b = both.0 in
    (cc, both.1)
one_content (piece.Empty t a) (piece.Empty u b) r s h k e =
    let tail : tokens_of a ++ r ≡ tokens_of b ++ s = cc in
    let tag : t ≡ u = cc in
    let both = one_content a b r s h k tail in
    let after : a ≡ b = both.0 in
    (cc, both.1)
one_content (piece.Start t i a) (piece.Start u j b) r s h k e =
    let f : Start t ∷ (tokens_of i ++ (End t.name ∷ (tokens_of a ++ r))) ≡ Start u ∷ (tokens_of j ++ (End u.name ∷ (tokens_of b ++ s)))
    = sym (branch_seam t i a r) ∙ e ∙ branch_seam u j b s in
    let tag : t ≡ u = cc in
    let inner : tokens_of i ++ (End t.name ∷ (tokens_of a ++ r)) ≡ tokens_of j ++ (End u.name ∷ (tokens_of b ++ s)) = cc in
    let first = one_content i j (End t.name ∷ (tokens_of a ++ r)) (End u.name ∷ (tokens_of b ++ s)) refl refl inner in
    let inside : i ≡ j = first.0 in
    let rest : End t.name ∷ (tokens_of a ++ r) ≡ End u.name ∷ (tokens_of b ++ s) = first.1 in
    let tail : tokens_of a ++ r ≡ tokens_of b ++ s = cc in
    let both = one_content a b r s h k tail in
    let after : a ≡ b = both.0 in
    (cc, both.1)
one_content c d r s h k e = cc

-- a tag names one element

pub one_attribute : (scope : Scope) (a : Assignment) (t u : Attribute) → IsAttribute scope a t → IsAttribute scope a u → t ≡ u
one_attribute scope a t u l m =
    let found : Some t.name.space ≡ Some u.name.space = sym l.space_is ∙ m.space_is in
    let space : t.name.space ≡ u.name.space = cc in
    let local = l.local_is ∙ sym m.local_is in
    let value = l.value_is ∙ sym m.value_is in
    λ i. record { name = record { space = space i; local = local i }; value = value i }

pub one_list_of_attributes : (scope : Scope) (as' : List Assignment) (ts us : List Attribute) → AreAttributes scope as' ts
    → AreAttributes scope as' us → ts ≡ us
one_list_of_attributes scope [] [] [] l m = refl
one_list_of_attributes scope [] (t ∷ ts) us l m = absurd l
one_list_of_attributes scope [] [] (u ∷ us) l m = absurd m
one_list_of_attributes scope (a ∷ as') [] us l m = absurd l
one_list_of_attributes scope (a ∷ as') (t ∷ ts) [] l m = absurd m
one_list_of_attributes scope (a ∷ as') (t ∷ ts) (u ∷ us) l m =
    let head : t ≡ u = one_attribute scope a t u l.0 m.0 in
    let tail : ts ≡ us = one_list_of_attributes scope as' ts us l.1 m.1 in
    cc

pub one_name : (outer : Scope) (tag : Tag) (n o : Name) (as' bs : List Attribute) → NamesElement outer tag n as'
    → NamesElement outer tag o bs → (n ≡ o) × (as' ≡ bs)
one_name outer tag n o as' bs l m =
    let found : Some n.space ≡ Some o.space = sym l.space_is ∙ m.space_is in
    let space : n.space ≡ o.space = cc in
    let local = l.local_is ∙ sym m.local_is in (
      λ i. record { space = space i; local = local i },
      one_list_of_attributes (scope_within outer tag)
          (plain_assignments tag) as' bs l.attributes_are m.attributes_are,
    )

one_element : (outer : Scope) (tag : Tag) (items : List ContentItem) (e f : Element) (d c : List Declared) → IsElement outer tag items e d
    → IsElement outer tag items f c → (e ≡ f) × (d ≡ c)
one_element outer tag items e f d c l m =
    let named = one_name outer tag e.name f.name e.attributes f.attributes l.named m.named in
    let children = l.children_are ∙ sym m.children_are in
    (λ i. record { name = named.0 i; attributes = named.1 i; children = children i }, l.declared_are ∙ sym m.declared_are)

inner_items : (outer : Scope) (tag : Tag) (i j : List ContentItem) (e f : Element) (d c : List Declared) (x y k l : List ContentItem) → i
    ≡ j → x ≡ y
    → k ≡ Inner e d ∷ x → l ≡ Inner f c ∷ y
    → IsElement outer tag i e d → IsElement outer tag j f c → k ≡ l
inner_items outer tag i j e f d c x y k l inner after p q r s =
    let both = one_element outer tag j e f d c (subst (λ (z : List ContentItem). IsElement outer tag z e d) inner r) s in
    let element : e ≡ f = both.0 in
    let declared : d ≡ c = both.1 in
    cc

pub one_meaning : (scope : Scope) (c : Pieces) (i j : List ContentItem) → AreItems scope c i → AreItems scope c j → i ≡ j
one_meaning scope Nothing i j l m = l ∙ sym m
one_meaning scope (piece.Comment after) i j l m = one_meaning scope after i j l m
one_meaning scope (piece.Characters blank text after) i j l m =
    l.1 ∙ ap (λ items. Run text ∷ items) (one_meaning scope after l.0 m.0 l.2 m.2) ∙ sym m.1
one_meaning scope (piece.Section text after) i j l m =
    l.1 ∙ ap (λ items. Run text ∷ items) (one_meaning scope after l.0 m.0 l.2 m.2) ∙ sym m.1
one_meaning scope (piece.Empty tag after) i j l m =
    inner_items scope tag [] [] l.0 m.0 l.1 m.1 l.2 m.2 i j refl (one_meaning scope after l.2 m.2 l.5 m.5) l.3 m.3 l.4 m.4
one_meaning scope (piece.Start tag inside after) i j l m =
    inner_items scope tag l.0 m.0 l.1 m.1 l.2 m.2 l.3 m.3 i j (one_meaning (scope_within scope tag) inside l.0 m.0 l.5 m.5)
    (one_meaning scope after l.3 m.3 l.7 m.7) l.4 m.4 l.6 m.6

same_reading : (tag : Tag) (items : List ContentItem) (r s : Reading) → IsElement root_scope tag items r.root r.declared
    → IsElement root_scope tag items s.root s.declared → r ≡ s
same_reading tag items r s l m =
    let both = one_element root_scope tag items r.root s.root r.declared s.declared l m in
    λ i. record { root = both.0 i; declared = both.1 i }

pub one_root : (c : Pieces) (r s : Reading) → BeginsWithRoot c r → BeginsWithRoot c s → r ≡ s
one_root Nothing r s l m = absurd l
one_root (piece.Comment after) r s l m = one_root after r s l m
one_root (piece.Characters blank text after) r s l m = one_root after r s l.1 m.1
one_root (piece.Section text after) r s l m = absurd l
one_root (piece.Empty tag after) r s l m = same_reading tag [] r s l.0 m.0
one_root (piece.Start tag inside after) r s l m =
    let inner = one_meaning (scope_within root_scope tag) inside l.0 m.0 l.1 m.1 in
    same_reading tag m.0 r s (subst (λ (items : List ContentItem). IsElement root_scope tag items r.root r.declared) inner l.2) m.2

-- no pieces begin with a declaration
pub no_declaration_begins : (c : Pieces) (ts : List Token) → Declaration ∷ ts ≡ tokens_of c → ⊥
no_declaration_begins Nothing ts e = cc
no_declaration_begins (piece.Comment after) ts e = cc
no_declaration_begins (piece.Characters blank text after) ts e = cc
no_declaration_begins (piece.Section text after) ts e = cc
no_declaration_begins (piece.Empty tag after) ts e = cc
no_declaration_begins (piece.Start tag inside after) ts e = cc

pub one_heading : (a b : Bool) (c d : Pieces) → heading a ++ tokens_of c ≡ heading b ++ tokens_of d → tokens_of c ≡ tokens_of d
one_heading true true c d e = cc
one_heading true false c d e = absurd (no_declaration_begins d (tokens_of c) e)
one_heading false true c d e = absurd (no_declaration_begins c (tokens_of d) (sym e))
one_heading false false c d e = e

pub one_document : (ts : List Token) (r s : Reading) → IsDocument ts r → IsDocument ts s → r ≡ s
one_document ts r s l m =
    let tokens = one_heading l.declared m.declared l.pieces m.pieces (sym l.tokens_are ∙ m.tokens_are) in
    let pieces = (one_content l.pieces m.pieces [] [] tt tt (ap (λ us. us ++ []) tokens)).0 in
    one_root m.pieces r s (subst (λ (c : Pieces). BeginsWithRoot c r) pieces (root_begins l.pieces r l.rooted))
    (root_begins m.pieces s m.rooted)

pub one_lexing : (bytes : List ℕ) (ts us : List Token) → To TakesToken bytes ts [] → To TakesToken bytes us [] → ts ≡ us
one_lexing bytes ts us l m =
    (one_list TakesToken (λ (end : List ℕ). end ≡ []) no_token one_token bytes ts us [] [] refl refl l m).0

pub one_reading : (bytes : List ℕ) (r s : Reading) → Spells bytes r → Spells bytes s → r ≡ s
one_reading bytes r s l m =
    let tokens = one_lexing (without_byte_order_mark bytes) l.tokens m.tokens l.lexed m.lexed in
    one_document m.tokens r s (subst (λ (ts : List Token). IsDocument ts r) tokens l.document) m.document
