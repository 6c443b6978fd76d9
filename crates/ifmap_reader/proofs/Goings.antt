-- How a document goes on after each token.
-- For each place and token: what goes on after the token goes on before it with the token in front, and the other way (`Follows`), or
-- nothing does. Within an element this is `Contents`; here come the places before the root, after it and at the start, by the cases of
-- the first piece.
use Rattle.std.proofs.Common.{◌≡◌, ℕ, Bool, true, false, List, [], ◌∷◌, ◌++◌, refl, ap, sym, ◌∙◌, subst, ◌⊎◌, inl, inr}
use Rattle.std.specs.Prelude.{◌↔◌}
use Rattle.ifmap_elem.specs.declared.elements.Attribute.{Attribute}
use Rattle.ifmap_elem.specs.declared.elements.Element.{Element}
use Rattle.ifmap_elem.specs.declared.elements.Name.{Name}
use Rattle.ifmap_elem.specs.declared.readings.Declared.{Declared}
use Rattle.ifmap_elem.specs.declared.readings.Reading.{Reading}
use Rattle.ifmap_elem.specs.declared.tokens.Qualified.{Qualified}
use Rattle.ifmap_elem.specs.declared.tokens.Tag.{Tag}
use Rattle.ifmap_elem.specs.declared.tokens.Token.{Token}
use Rattle.ifmap_elem.specs.declared.tokens.Token.TheVariants.{Declaration, Comment, Start, Empty, End, Section, Characters}
use Rattle.ifmap_elem.specs.Scopes.{Scope, root_scope, bindings, NamesElement}
use Rattle.ifmap_elem.specs.Document as piece
use Rattle.ifmap_elem.specs.Document.{Pieces, Nothing, tokens_of, IsElement, AreItems, IsMargin, IsRoot, heading}
use Rattle.ifmap_elem.specs.laws.OneReading.{no_declaration_begins}
use Rattle.ifmap_elem.specs.laws.Roots.{BeginsWithRoot, root_begins, begins_root}
use Rattle.ifmap_reader.specs.declared.open_elements.OpenElement.{OpenElement}
use Rattle.ifmap_reader.specs.OpenElements.{Closes, scope_of, with_inner, with_characters, written_name}
use Rattle.ifmap_reader.specs.AllowedTags.{OpensElement}
use Rattle.ifmap_reader.specs.Progress.{AtStart, Within, AfterRoot, EndsDocument, BeginsRoot, Closing, IsDocumentFrom, Follows, IsCharacterData, after_element}
use Rattle.ifmap_reader.proofs.Items.{opened_closes, closes_opened}
use Rattle.ifmap_reader.proofs.Contents.{ends_comment, ends_words, no_declaration, no_other_end, ends_here, ends_empty, ends_start, start_named, empty_named}

-- within an element
pub inner_comment : (f : OpenElement) (fs : List OpenElement) → Follows (Within (f ∷ fs)) Comment (Within (f ∷ fs))
inner_comment f [] ts r = ends_comment _ f ts _
inner_comment f (g ∷ gs) ts r = ends_comment _ f ts _

pub inner_words : (f : OpenElement) (fs : List OpenElement) (t : Token) (blank : Bool) (text : List ℕ) → IsCharacterData blank text t
    → Follows (Within (f ∷ fs)) t (Within (with_characters f text ∷ fs))
inner_words f [] t blank text w ts r = ends_words _ f ts _ t blank text w
inner_words f (g ∷ gs) t blank text w ts r = ends_words _ f ts _ t blank text w

pub inner_start : (f : OpenElement) (fs : List OpenElement) (tag : Tag) (new : OpenElement) → OpensElement (scope_of (f ∷ fs)) tag new
    → Follows (Within (f ∷ fs)) (Start tag) (Within (new ∷ (f ∷ fs)))
inner_start f [] tag new o ts r = ends_start _ f ts _ tag new o
inner_start f (g ∷ gs) tag new o ts r = ends_start _ f ts _ tag new o

pub inner_empty : (f : OpenElement) (fs : List OpenElement) (tag : Tag) (new : OpenElement) → OpensElement (scope_of (f ∷ fs)) tag new
    → (e : Element) (d : List Declared) → Closes new [] e d → Follows (Within (f ∷ fs)) (Empty tag) (Within (with_inner f e d ∷ fs))
inner_empty f [] tag new o e d k ts r = ends_empty _ f ts _ tag new o e d k
inner_empty f (g ∷ gs) tag new o e d k ts r = ends_empty _ f ts _ tag new o e d k

pub inner_end : (f : OpenElement) (fs : List OpenElement) (name : Qualified) (e : Element) (d : List Declared) → name ≡ written_name f
    → Closes f [] e d → Follows (Within (f ∷ fs)) (End name) (after_element fs e d)
inner_end f [] name e d is c ts r = ends_here _ f ts _ name e d is c
inner_end f (g ∷ gs) name e d is c ts r = ends_here _ f ts _ name e d is c

pub inner_declaration : (f : OpenElement) (fs : List OpenElement) (ts : List Token) (r : Reading)
    → IsDocumentFrom (Within (f ∷ fs)) (Declaration ∷ ts) r → ⊥
inner_declaration f [] ts r = no_declaration _ f ts _
inner_declaration f (g ∷ gs) ts r = no_declaration _ f ts _

pub inner_other_end : (f : OpenElement) (fs : List OpenElement) (name : Qualified) → (name ≡ written_name f → ⊥)
    → (ts : List Token) (r : Reading) → IsDocumentFrom (Within (f ∷ fs)) (End name ∷ ts) r → ⊥
inner_other_end f [] name other ts r = no_other_end _ f ts _ name other
inner_other_end f (g ∷ gs) name other ts r = no_other_end _ f ts _ name other

-- at the root
root_comment_off : (c : Pieces) (ts : List Token) (r : Reading) → Comment ∷ ts ≡ tokens_of c → BeginsWithRoot c r → BeginsRoot ts r
root_comment_off (piece.Comment after) ts r is h = record { pieces = after; tokens_are = cc; rooted = h }
root_comment_off Nothing ts r is h = absurd h
root_comment_off (piece.Characters blank text after) ts r is h = cc
root_comment_off (piece.Section text after) ts r is h = absurd h
root_comment_off (piece.Empty tag after) ts r is h = cc
root_comment_off (piece.Start tag inside after) ts r is h = cc

pub root_comment : Follows (Within []) Comment (Within [])
root_comment ts r = (
  λ x. root_comment_off x.pieces ts r x.tokens_are x.rooted,
  λ x. record { pieces = piece.Comment x.pieces; tokens_are = ap (λ us. Comment ∷ us) x.tokens_are; rooted = x.rooted },
)

root_blank_off : (text : List ℕ) (c : Pieces) (ts : List Token) (r : Reading) → Characters true text ∷ ts ≡ tokens_of c
    → BeginsWithRoot c r → BeginsRoot ts r
root_blank_off text (piece.Characters blank more after) ts r is h = record { pieces = after; tokens_are = cc; rooted = h.1 }
root_blank_off text Nothing ts r is h = absurd h
root_blank_off text (piece.Comment after) ts r is h = cc
root_blank_off text (piece.Section more after) ts r is h = absurd h
root_blank_off text (piece.Empty tag after) ts r is h = cc
root_blank_off text (piece.Start tag inside after) ts r is h = cc

pub root_blank : (text : List ℕ) → Follows (Within []) (Characters true text) (Within [])
root_blank text ts r = (
  λ x. root_blank_off text x.pieces ts r x.tokens_are x.rooted,
  λ x. record {
    pieces = piece.Characters true text x.pieces;
    tokens_are = ap
        (λ us. Characters true text ∷ us) x.tokens_are;
    rooted = (refl, x.rooted);
  },
)

-- a token that stands nowhere outside the root
abbrev pub IsInner : Token → Type 0
IsInner Declaration = Unit {0}
IsInner Comment = ⊥
IsInner (Start tag) = ⊥
IsInner (Empty tag) = ⊥
IsInner (End name) = Unit {0}
IsInner (Section text) = Unit {0}
IsInner (Characters blank text) = blank ≡ false

no_root_off : (c : Pieces) (t : Token) (ts : List Token) (r : Reading) → IsInner t → t ∷ ts ≡ tokens_of c → BeginsWithRoot c r → ⊥
no_root_off Nothing t ts r i is h = h
no_root_off (piece.Comment after) t ts r i is h = let e : t ≡ Comment = cc in subst IsInner e i
no_root_off (piece.Characters blank text after) t ts r i is h =
    let e : t ≡ Characters blank text = cc in
    let f : blank ≡ false = subst IsInner e i in
    let g : blank ≡ true = h.0 in cc
no_root_off (piece.Section text after) t ts r i is h = h
no_root_off (piece.Empty tag after) t ts r i is h = let e : t ≡ Empty tag = cc in subst IsInner e i
no_root_off (piece.Start tag inside after) t ts r i is h = let e : t ≡ Start tag = cc in subst IsInner e i

pub no_root : (t : Token) → IsInner t → (ts : List Token) (r : Reading) → IsDocumentFrom (Within []) (t ∷ ts) r → ⊥
no_root t i ts r x = no_root_off x.pieces t ts r i x.tokens_are x.rooted

module _ (tag : Tag) (new : OpenElement) (o : OpensElement root_scope tag new) where
  root_start_off : (c : Pieces) (ts : List Token) (r : Reading) → Start tag ∷ ts ≡ tokens_of c → BeginsWithRoot c r → Closing new [] ts r
  root_start_off (piece.Start other inside after) ts r is h =
      let same : other ≡ tag = cc in
      let tail : ts ≡ tokens_of inside ++ (End other.name ∷ tokens_of after) = cc in
      record {
        inside = inside;
        rest = tokens_of after;
        items = h.0;
        element = r.root;
        declared = r.declared;
        tokens_are =
            tail ∙ ap (λ (n : Qualified). tokens_of inside ++ (End n ∷ tokens_of after)) (ap (λ (u : Tag). u.name) same ∙ o.name_is);
        means = subst (λ (s : Scope). AreItems s inside h.0) (ap (λ (u : Tag). bindings u ++ root_scope) same
            ∙ ap (λ bs. bs ++ root_scope) (sym o.bindings_are)) h.1;
        closes = opened_closes root_scope tag new o h.0 r.root r.declared
            (subst (λ (u : Tag). IsElement root_scope u h.0 r.root r.declared) same h.2);
        goes_on = record { after = after; tokens_are = refl; margin = h.3; same = refl };
      }
  root_start_off Nothing ts r is h = absurd h
  root_start_off (piece.Comment after) ts r is h = cc
  root_start_off (piece.Characters blank text after) ts r is h = cc
  root_start_off (piece.Section text after) ts r is h = absurd h
  root_start_off (piece.Empty other after) ts r is h = cc

  root_start_on : (ts : List Token) (r : Reading) → Closing new [] ts r → BeginsRoot (Start tag ∷ ts) r
  root_start_on ts r x =
      let y = x.goes_on in
      record {
        pieces = piece.Start tag x.inside y.after;
        tokens_are = ap (λ us. Start tag ∷ us) (x.tokens_are ∙ ap (λ us. tokens_of x.inside ++ (End (written_name new) ∷ us)) y.tokens_are
            ∙ ap (λ (n : Qualified). tokens_of x.inside ++ (End n ∷ tokens_of y.after)) (sym o.name_is));
        rooted = (
          x.items,
          subst (λ (s : Scope). AreItems s x.inside x.items) (ap (λ bs. bs ++ root_scope) o.bindings_are) x.means,
          subst (λ (s : Reading). IsElement root_scope tag x.items s.root s.declared) y.same
              (closes_opened root_scope tag new o x.items x.element x.declared x.closes),
          y.margin,
        );
      }

  pub root_start : Follows (Within []) (Start tag) (Within (new ∷ []))
  root_start ts r = (λ x. root_start_off x.pieces ts r x.tokens_are x.rooted, root_start_on ts r)

  module _ (e : Element) (d : List Declared) (k : Closes new [] e d) where
    root_empty_off : (c : Pieces) (ts : List Token) (r : Reading) → Empty tag ∷ ts ≡ tokens_of c → BeginsWithRoot c r
        → EndsDocument (record { root = e; declared = d }) ts r
    root_empty_off (piece.Empty other after) ts r is h =
        let same : other ≡ tag = cc in
        let made = opened_closes root_scope tag new o [] r.root r.declared
        (subst (λ (u : Tag). IsElement root_scope u [] r.root r.declared) same h.0) in
        let root = k.element_is ∙ sym made.element_is in
        let told = k.declared_is ∙ sym made.declared_is in
        record { after = after; tokens_are = cc; margin = h.1; same = λ i. record { root = root i; declared = told i } }
    root_empty_off Nothing ts r is h = absurd h
    root_empty_off (piece.Comment after) ts r is h = cc
    root_empty_off (piece.Characters blank text after) ts r is h = cc
    root_empty_off (piece.Section text after) ts r is h = absurd h
    root_empty_off (piece.Start other inside after) ts r is h = cc

    pub root_empty : Follows (Within []) (Empty tag) (AfterRoot (record { root = e; declared = d }))
    root_empty ts r = (
      λ x. root_empty_off x.pieces ts r x.tokens_are x.rooted,
      λ y. record {
        pieces = piece.Empty tag y.after;
        tokens_are = ap (λ us. Empty tag ∷ us) y.tokens_are;
        rooted = (
          subst (λ (s : Reading). IsElement root_scope tag [] s.root s.declared) y.same
              (closes_opened root_scope tag new o [] e d k),
          y.margin,
        );
      },
    )

-- a tag that is not allowed
abbrev pub NoName : Scope → Tag → Type 0
NoName scope tag = (name : Name) (attributes : List Attribute) → NamesElement scope tag name attributes → ⊥

root_named : (tag : Tag) → NoName root_scope tag → (c : Pieces) (ts : List Token) (r : Reading)
    → (Start tag ∷ ts ≡ tokens_of c) ⊎ (Empty tag ∷ ts ≡ tokens_of c) → BeginsWithRoot c r → ⊥
root_named tag none Nothing ts r is h = h
root_named tag none (piece.Comment after) ts r is h = elim is [ inl k ↦ cc | inr k ↦ cc ]
root_named tag none (piece.Characters blank text after) ts r is h = elim is [ inl k ↦ cc | inr k ↦ cc ]
root_named tag none (piece.Section text after) ts r is h = h
root_named tag none (piece.Empty other after) ts r is h =
    let same : other ≡ tag = elim is [ inl k ↦ cc | inr k ↦ cc ] in
    none r.root.name r.root.attributes (subst (λ (u : Tag). NamesElement root_scope u r.root.name r.root.attributes) same h.0.named)
root_named tag none (piece.Start other inside after) ts r is h =
    let same : other ≡ tag = elim is [ inl k ↦ cc | inr k ↦ cc ] in
    none r.root.name r.root.attributes (subst (λ (u : Tag). NamesElement root_scope u r.root.name r.root.attributes) same h.2.named)

pub no_start : (fs : List OpenElement) (tag : Tag) → NoName (scope_of fs) tag → (ts : List Token) (r : Reading)
    → IsDocumentFrom (Within fs) (Start tag ∷ ts) r → ⊥
no_start [] tag none ts r x = root_named tag none x.pieces ts r (inl x.tokens_are) x.rooted
no_start (f ∷ []) tag none ts r x = start_named _ f ts _ tag none x
no_start (f ∷ (g ∷ gs)) tag none ts r x = start_named _ f ts _ tag none x

pub no_empty : (fs : List OpenElement) (tag : Tag) → NoName (scope_of fs) tag → (ts : List Token) (r : Reading)
    → IsDocumentFrom (Within fs) (Empty tag ∷ ts) r → ⊥
no_empty [] tag none ts r x = root_named tag none x.pieces ts r (inr x.tokens_are) x.rooted
no_empty (f ∷ []) tag none ts r x = empty_named _ f ts _ tag none x
no_empty (f ∷ (g ∷ gs)) tag none ts r x = empty_named _ f ts _ tag none x

-- after the root
margin_off : (root : Reading) (t : Token) (c : Pieces) (ts : List Token) (r : Reading) → t ∷ ts ≡ tokens_of c → IsMargin c → root ≡ r
    → EndsDocument root ts r × (IsInner t → ⊥)
margin_off root t (piece.Comment after) ts r is h s =
    let e : t ≡ Comment = cc in (record { after = after; tokens_are = cc; margin = h; same = s }, λ i. subst IsInner e i)
margin_off root t (piece.Characters blank text after) ts r is h s =
    let e : t ≡ Characters blank text = cc in (
      record { after = after; tokens_are = cc; margin = h.1; same = s },
      λ i. let f : blank ≡ false = subst IsInner e i in let g :
          blank ≡ true = h.0 in cc,
    )
margin_off root t Nothing ts r is h s = cc
margin_off root t (piece.Section text after) ts r is h s = absurd h
margin_off root t (piece.Empty tag after) ts r is h s = absurd h
margin_off root t (piece.Start tag inside after) ts r is h s = absurd h

pub after_root_comment : (root : Reading) → Follows (AfterRoot root) Comment (AfterRoot root)
after_root_comment root ts r = (
  λ x. (margin_off root Comment x.after ts r x.tokens_are x.margin x.same).0,
  λ x. record { after = piece.Comment x.after; tokens_are = ap (λ us. Comment ∷ us) x.tokens_are; margin = x.margin; same = x.same },
)

pub after_root_blank : (root : Reading) (text : List ℕ) → Follows (AfterRoot root) (Characters true text) (AfterRoot root)
after_root_blank root text ts r = (
  λ x. (margin_off root (Characters true text) x.after ts r x.tokens_are x.margin x.same).0,
  λ x. record {
    after = piece.Characters true text x.after;
    tokens_are = ap
        (λ us. Characters true text ∷ us) x.tokens_are;
    margin = (refl, x.margin);
    same = x.same;
  },
)

pub nothing_after_root : (root : Reading) (t : Token) → IsInner t → (ts : List Token) (r : Reading)
    → IsDocumentFrom (AfterRoot root) (t ∷ ts) r → ⊥
nothing_after_root root t i ts r x = (margin_off root t x.after ts r x.tokens_are x.margin x.same).1 i

no_tag : (tag : Tag) (c : Pieces) (ts : List Token) → (Start tag ∷ ts ≡ tokens_of c) ⊎ (Empty tag ∷ ts ≡ tokens_of c) → IsMargin c → ⊥
no_tag tag Nothing ts is h = elim is [ inl k ↦ cc | inr k ↦ cc ]
no_tag tag (piece.Comment after) ts is h = elim is [ inl k ↦ cc | inr k ↦ cc ]
no_tag tag (piece.Characters blank text after) ts is h = elim is [ inl k ↦ cc | inr k ↦ cc ]
no_tag tag (piece.Section text after) ts is h = h
no_tag tag (piece.Empty other after) ts is h = h
no_tag tag (piece.Start other inside after) ts is h = h

pub no_second_root : (root : Reading) (tag : Tag) (ts : List Token) (r : Reading)
    → ((IsDocumentFrom (AfterRoot root) (Start tag ∷ ts) r → ⊥) × (IsDocumentFrom (AfterRoot root) (Empty tag ∷ ts) r → ⊥))
no_second_root root tag ts r =
    (λ x. no_tag tag x.after ts (inl x.tokens_are) x.margin, λ x. no_tag tag x.after ts (inr x.tokens_are) x.margin)

-- at the start
declaration_off : (declared : Bool) (c : Pieces) (ts : List Token) (r : Reading) → Declaration ∷ ts ≡ heading declared ++ tokens_of c
    → IsRoot c r → BeginsRoot ts r
declaration_off true c ts r is h = record { pieces = c; tokens_are = cc; rooted = root_begins c r h }
declaration_off false c ts r is h = absurd (no_declaration_begins c ts is)

pub start_declaration : Follows AtStart Declaration (Within [])
start_declaration ts r = (
  λ x. declaration_off x.declared x.pieces ts r x.tokens_are x.rooted,
  λ x. record {
    declared = true;
    pieces = x.pieces;
    tokens_are = ap
        (λ us. Declaration ∷ us) x.tokens_are;
    rooted = begins_root x.pieces r x.rooted;
  },
)

abbrev pub IsOther : Token → Type 0
IsOther t = t ≡ Declaration → ⊥

other_off : (t : Token) → IsOther t → (declared : Bool) (c : Pieces) (ts : List Token) (r : Reading)
    → t ∷ ts ≡ heading declared ++ tokens_of c → IsRoot c r → BeginsRoot (t ∷ ts) r
other_off t other true c ts r is h = let e : t ≡ Declaration = cc in absurd (other e)
other_off t other false c ts r is h = record { pieces = c; tokens_are = is; rooted = root_begins c r h }

-- but for a declaration the start is before the root
pub start_other : (t : Token) → IsOther t → (ts : List Token) (r : Reading)
    → IsDocumentFrom AtStart (t ∷ ts) r ↔ IsDocumentFrom (Within []) (t ∷ ts) r
start_other t other ts r = (
  λ x. other_off t other x.declared x.pieces ts r x.tokens_are x.rooted,
  λ x. record { declared = false; pieces = x.pieces; tokens_are = x.tokens_are; rooted = begins_root x.pieces r x.rooted },
)

-- without a token nothing goes on but after the root
empty_root : (c : Pieces) (r : Reading) → [] ≡ tokens_of c → BeginsWithRoot c r → ⊥
empty_root Nothing r is h = h
empty_root (piece.Comment after) r is h = cc
empty_root (piece.Characters blank text after) r is h = cc
empty_root (piece.Section text after) r is h = h
empty_root (piece.Empty tag after) r is h = cc
empty_root (piece.Start tag inside after) r is h = cc

empty_document : (declared : Bool) (c : Pieces) (r : Reading) → [] ≡ heading declared ++ tokens_of c → IsRoot c r → ⊥
empty_document true c r is h = cc
empty_document false c r is h = empty_root c r is (root_begins c r h)

pub no_tokens_start : (r : Reading) → IsDocumentFrom AtStart [] r → ⊥
no_tokens_start r x = empty_document x.declared x.pieces r x.tokens_are x.rooted

pub some_tokens : (ts us : List Token) (t : Token) → [] ≡ ts ++ (t ∷ us) → ⊥
some_tokens [] us t e = cc
some_tokens (x ∷ xs) us t e = cc

pub no_tokens : (fs : List OpenElement) (r : Reading) → IsDocumentFrom (Within fs) [] r → ⊥
no_tokens [] r x = empty_root x.pieces r x.tokens_are x.rooted
no_tokens (f ∷ []) r x = some_tokens (tokens_of x.inside) x.rest (End (written_name f)) x.tokens_are
no_tokens (f ∷ (g ∷ gs)) r x = some_tokens (tokens_of x.inside) x.rest (End (written_name f)) x.tokens_are

pub after_root_ends : (root : Reading) → IsDocumentFrom (AfterRoot root) [] root
after_root_ends root = record { after = Nothing; tokens_are = refl; margin = tt; same = refl }
