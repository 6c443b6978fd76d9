-- What an open element goes on with, by the next token.
-- `EndsElement` says that tokens are the rest of an open element's pieces, its end tag and then something. For each token an equivalence
-- between `EndsElement` before it and after it: one direction takes the first piece off (`.._off`), the other puts it back (`.._on`).
-- Cases in which the first token is another are closed by `cc`.
use Rattle.std.proofs.Common.{◌≡◌, ℕ, Bool, List, [], ◌∷◌, ◌++◌, refl, ap, sym, inl, inr, ◌∙◌, subst, append_assoc}
use Rattle.std.specs.Prelude.{◌↔◌}
use Rattle.ifmap_elem.specs.declared.elements.Element.{Element}
use Rattle.ifmap_elem.specs.declared.readings.Declared.{Declared}
use Rattle.ifmap_elem.specs.declared.tokens.Qualified.{Qualified}
use Rattle.ifmap_elem.specs.declared.tokens.Tag.{Tag}
use Rattle.ifmap_elem.specs.declared.tokens.Token.{Token}
use Rattle.ifmap_elem.specs.declared.tokens.Token.TheVariants.{Declaration, Comment, Start, Empty, End, Section, Characters}
use Rattle.ifmap_elem.specs.declared.elements.Attribute.{Attribute}
use Rattle.ifmap_elem.specs.declared.elements.Name.{Name}
use Rattle.ifmap_elem.specs.Scopes.{Scope, bindings, NamesElement}
use Rattle.ifmap_elem.specs.Document as piece
use Rattle.ifmap_elem.specs.Document.{Pieces, Nothing, tokens_of, ContentItem, Inner, Run, IsElement, AreItems}
use Rattle.ifmap_reader.specs.declared.open_elements.OpenElement.{OpenElement}
use Rattle.ifmap_reader.specs.OpenElements.{Closes, with_inner, with_characters, written_name}
use Rattle.ifmap_reader.specs.AllowedTags.{OpensElement}
use Rattle.ifmap_reader.specs.Progress.{EndsElement, IsCharacterData}
use Rattle.ifmap_reader.proofs.Items.{words_close, close_words, inner_closes, closes_inner, opened_closes, closes_opened}

module _ (scope : Scope) (f : OpenElement) (ts : List Token) (Then : Element → List Declared → List Token → Type 0) where
  -- a comment
  comment_off : (c : Pieces) (rest : List Token) (items : List ContentItem) (e : Element) (d : List Declared)
      → Comment ∷ ts ≡ tokens_of c ++ (End (written_name f) ∷ rest)
      → AreItems scope c items → Closes f items e d → Then e d rest → EndsElement scope f ts Then
  comment_off (piece.Comment after) rest items e d is m c t =
      record { inside = after; rest = rest; items = items; element = e; declared = d; tokens_are = cc; means = m; closes = c; goes_on = t }
  comment_off Nothing rest items e d is m c t = cc
  comment_off (piece.Characters blank text after) rest items e d is m c t = cc
  comment_off (piece.Section text after) rest items e d is m c t = cc
  comment_off (piece.Empty tag after) rest items e d is m c t = cc
  comment_off (piece.Start tag inside after) rest items e d is m c t = cc

  pub ends_comment : EndsElement scope f (Comment ∷ ts) Then ↔ EndsElement scope f ts Then
  ends_comment = (
    λ x. comment_off x.inside x.rest x.items x.element x.declared x.tokens_are x.means x.closes x.goes_on,
    λ x. record {
      inside = piece.Comment x.inside;
      rest = x.rest;
      items = x.items;
      element = x.element;
      declared = x.declared;
      tokens_are = ap (λ us. Comment ∷ us) x.tokens_are;
      means = x.means;
      closes = x.closes;
      goes_on = x.goes_on;
    },
  )

  -- a text
  text_off : (text more : List ℕ) (after : Pieces) (rest : List Token) (items : List ContentItem) (e : Element)
      (d : List Declared) → text ≡ more → ts ≡ tokens_of after ++ (End (written_name f) ∷ rest)
      → ((others : List ContentItem) × (items ≡ Run more ∷ others) × AreItems scope after others) → Closes f items e d
      → Then e d rest → EndsElement scope (with_characters f text) ts Then
  text_off text more after rest items e d same is m c th = record {
    inside = after;
    rest = rest;
    items = m.0;
    element = e;
    declared = d;
    tokens_are = is;
    means = m.2;
    closes = words_close f text m.0 e d (subst (λ (is : List ContentItem). Closes f is e d)
        (m.1 ∙ ap (λ (u : List ℕ). Run u ∷ m.0) (sym same)) c);
    goes_on = th;
  }

  words_off : (t : Token) (blank : Bool) (text : List ℕ) → IsCharacterData blank text t
      → (c : Pieces) (rest : List Token) (items : List ContentItem) (e : Element) (d : List Declared)
      → t ∷ ts ≡ tokens_of c ++ (End (written_name f) ∷ rest)
      → AreItems scope c items → Closes f items e d → Then e d rest → EndsElement scope (with_characters f text) ts Then
  words_off t blank text w Nothing rest items e d is m c th = elim w [ inl k ↦ cc | inr k ↦ let h = k.1 in cc ]
  words_off t blank text w (piece.Comment after) rest items e d is m c th = elim w [ inl k ↦ cc | inr k ↦ let h = k.1 in cc ]
  words_off t blank text w (piece.Characters b more after) rest items e d is m c th =
      text_off text more after rest items e d (elim w [ inl k ↦ cc | inr k ↦ let h = k.1 in cc ]) (cc) m c th
  words_off t blank text w (piece.Section more after) rest items e d is m c th =
      text_off text more after rest items e d (elim w [ inl k ↦ cc | inr k ↦ let h = k.1 in cc ]) (cc) m c th
  words_off t blank text w (piece.Empty tag after) rest items e d is m c th = elim w [ inl k ↦ cc | inr k ↦ let h = k.1 in cc ]
  words_off t blank text w (piece.Start tag inside after) rest items e d is m c th = elim w [ inl k ↦ cc | inr k ↦ let h = k.1 in cc ]

  words_on : (t : Token) (blank : Bool) (text : List ℕ) → IsCharacterData blank text t
      → EndsElement scope (with_characters f text) ts Then → EndsElement scope f (t ∷ ts) Then
  words_on t blank text w x = elim w [
    | inl k ↦ record {
      inside = piece.Characters blank text x.inside;
      rest = x.rest;
      items = Run text ∷ x.items;
      element = x.element;
      declared = x.declared;
      tokens_are = ap (λ (u : Token). u ∷ ts) k ∙ ap (λ us. Characters blank text ∷ us) x.tokens_are;
      means = (x.items, refl, x.means);
      closes = close_words f text x.items x.element x.declared x.closes;
      goes_on = x.goes_on;
    }
    | inr k ↦ record {
      inside = piece.Section text x.inside;
      rest = x.rest;
      items = Run text ∷ x.items;
      element = x.element;
      declared = x.declared;
      tokens_are = ap (λ (u : Token). u ∷ ts) k.1 ∙ ap (λ us. Section text ∷ us) x.tokens_are;
      means = (x.items, refl, x.means);
      closes = close_words f text x.items x.element x.declared x.closes;
      goes_on = x.goes_on;
    }
  ]

  pub ends_words : (t : Token) (blank : Bool) (text : List ℕ) → IsCharacterData blank text t
      → EndsElement scope f (t ∷ ts) Then ↔ EndsElement scope (with_characters f text) ts Then
  ends_words t blank text w = (
    λ x. words_off t blank text w x.inside x.rest x.items x.element x.declared
        x.tokens_are x.means x.closes x.goes_on,
    words_on t blank text w,
  )

  -- a declaration
  declaration_off : (c : Pieces) (rest : List Token) → Declaration ∷ ts ≡ tokens_of c ++ (End (written_name f) ∷ rest) → ⊥
  declaration_off (piece.Comment after) rest is = cc
  declaration_off Nothing rest is = cc
  declaration_off (piece.Characters blank text after) rest is = cc
  declaration_off (piece.Section text after) rest is = cc
  declaration_off (piece.Empty tag after) rest is = cc
  declaration_off (piece.Start tag inside after) rest is = cc

  pub no_declaration : EndsElement scope f (Declaration ∷ ts) Then → ⊥
  no_declaration x = declaration_off x.inside x.rest x.tokens_are

  -- an end tag
  end_off : (name : Qualified) (c : Pieces) (rest : List Token) (items : List ContentItem) (e : Element)
      (d : List Declared) → End name ∷ ts ≡ tokens_of c ++ (End (written_name f) ∷ rest)
      → AreItems scope c items → Closes f items e d → Then e d rest → (name ≡ written_name f) × Closes f [] e d × Then e d ts
  end_off name Nothing rest items e d is m c t =
      let same : ts ≡ rest = cc in
      (cc, subst (λ (is : List ContentItem). Closes f is e d) m c, subst (λ (us : List Token). Then e d us) (sym same) t)
  end_off name (piece.Comment after) rest items e d is m c t = cc
  end_off name (piece.Characters blank text after) rest items e d is m c t = cc
  end_off name (piece.Section text after) rest items e d is m c t = cc
  end_off name (piece.Empty tag after) rest items e d is m c t = cc
  end_off name (piece.Start tag inside after) rest items e d is m c t = cc

  -- the end tag of another name
  pub no_other_end : (name : Qualified) → (name ≡ written_name f → ⊥) → EndsElement scope f (End name ∷ ts) Then → ⊥
  no_other_end name other x = other (end_off name x.inside x.rest x.items x.element x.declared x.tokens_are x.means x.closes x.goes_on).0

  pub ends_here : (name : Qualified) (e : Element) (d : List Declared) → name ≡ written_name f → Closes f [] e d
      → EndsElement scope f (End name ∷ ts) Then ↔ Then e d ts
  ends_here name e d is c = (
    λ x.
        let h = end_off name x.inside x.rest x.items x.element x.declared x.tokens_are x.means x.closes x.goes_on in
        let same : x.element ≡ e = h.1.element_is ∙ sym c.element_is in
        let told : x.declared ≡ d = h.1.declared_is ∙ sym c.declared_is in
        subst (λ (y : Element). Then y d ts) same (subst (λ (y : List Declared). Then x.element y ts) told h.2),
    λ t. record {
      inside = Nothing;
      rest = ts;
      items = [];
      element = e;
      declared = d;
      tokens_are = ap (λ (n : Qualified). End n ∷ ts) is;
      means = refl;
      closes = c;
      goes_on = t;
    },
  )

  -- a tag
  module _ (tag : Tag) (new : OpenElement) (o : OpensElement scope tag new) where
    empty_off : (c : Pieces) (rest : List Token) (items : List ContentItem) (e : Element) (d : List Declared)
        → Empty tag ∷ ts ≡ tokens_of c ++ (End (written_name f) ∷ rest)
        → AreItems scope c items → Closes f items e d → Then e d rest → (inner : Element) (below : List Declared)
        → Closes new [] inner below → EndsElement scope (with_inner f inner below) ts Then
    empty_off (piece.Empty other after) rest items e d is m c t inner below k =
        let same : other ≡ tag = cc in
        let made : IsElement scope tag [] m.0 m.1 = subst (λ (u : Tag). IsElement scope u [] m.0 m.1) same m.4 in
        let h = opened_closes scope tag new o [] m.0 m.1 made in
        record {
          inside = after;
          rest = rest;
          items = m.2;
          element = e;
          declared = d;
          tokens_are = cc;
          means = m.5;
          closes = (inner_closes f inner below m.2 e d (subst (λ (is : List ContentItem). Closes f is e d)
              (m.3 ∙ ap (λ (y : Element). Inner y m.1 ∷ m.2) (h.element_is ∙ sym k.element_is)
              ∙ ap (λ (y : List Declared). Inner inner y ∷ m.2) (h.declared_is ∙ sym k.declared_is)) c));
          goes_on = t;
        }
    empty_off Nothing rest items e d is m c t inner below k = cc
    empty_off (piece.Comment after) rest items e d is m c t inner below k = cc
    empty_off (piece.Characters blank text after) rest items e d is m c t inner below k = cc
    empty_off (piece.Section text after) rest items e d is m c t inner below k = cc
    empty_off (piece.Start other inside after) rest items e d is m c t inner below k = cc

    pub ends_empty : (inner : Element) (below : List Declared) → Closes new [] inner below
        → EndsElement scope f (Empty tag ∷ ts) Then ↔ EndsElement scope (with_inner f inner below) ts Then
    ends_empty inner below k = (
      λ x. empty_off x.inside x.rest x.items x.element x.declared x.tokens_are x.means x.closes x.goes_on inner below k,
      λ x. record {
        inside = piece.Empty tag x.inside;
        rest = x.rest;
        items = Inner inner below ∷ x.items;
        element = x.element;
        declared = x.declared;
        tokens_are = ap (λ us. Empty tag ∷ us) x.tokens_are;
        means = (inner, below, x.items, refl, closes_opened scope tag new o [] inner below k, x.means);
        closes = closes_inner f inner below x.items x.element x.declared x.closes;
        goes_on = x.goes_on;
      },
    )

    branch_off : (c : Pieces) (rest : List Token) (items : List ContentItem) (e : Element) (d : List Declared)
        → Start tag ∷ ts ≡ tokens_of c ++ (End (written_name f) ∷ rest)
        → AreItems scope c items → Closes f items e d → Then e d rest
        → EndsElement (new.bindings ++ scope) new ts
        (λ inner below rest. EndsElement scope (with_inner f inner below) rest Then)
    branch_off (piece.Start other inside after) rest items e d is m c t =
        let same : other ≡ tag = cc in
        let tail : ts ≡ (tokens_of inside ++ (End other.name ∷ tokens_of after)) ++ (End (written_name f) ∷ rest) = cc in
        record {
          inside = inside;
          rest = tokens_of after ++ (End (written_name f) ∷ rest);
          items = m.0;
          element = m.1;
          declared = m.2;
          tokens_are = tail ∙ append_assoc (tokens_of inside) (End other.name ∷ tokens_of after) (End (written_name f) ∷ rest)
              ∙ ap (λ (n : Qualified). tokens_of inside ++ (End n ∷ (tokens_of after
              ++ (End (written_name f) ∷ rest)))) (ap (λ (u : Tag). u.name) same ∙ o.name_is);
          means = subst (λ (s : Scope). AreItems s inside m.0) (ap (λ (u : Tag). bindings u ++ scope) same
              ∙ ap (λ bs. bs ++ scope) (sym o.bindings_are)) m.5;
          closes = opened_closes scope tag new o m.0 m.1 m.2 (subst (λ (u : Tag). IsElement scope u m.0 m.1 m.2) same m.6);
          goes_on = record {
            inside = after;
            rest = rest;
            items = m.3;
            element = e;
            declared = d;
            tokens_are = refl;
            means = m.7;
            closes = inner_closes f m.1 m.2 m.3 e d (subst (λ (is : List ContentItem). Closes f is e d) m.4 c);
            goes_on = t;
          };
        }
    branch_off Nothing rest items e d is m c t = cc
    branch_off (piece.Comment after) rest items e d is m c t = cc
    branch_off (piece.Characters blank text after) rest items e d is m c t = cc
    branch_off (piece.Section text after) rest items e d is m c t = cc
    branch_off (piece.Empty other after) rest items e d is m c t = cc

    branch_on : EndsElement (new.bindings ++ scope) new ts
        (λ inner below rest. EndsElement scope (with_inner f inner below) rest Then) → EndsElement scope f (Start tag ∷ ts) Then
    branch_on x =
        let y = x.goes_on in
        record {
          inside = piece.Start tag x.inside y.inside;
          rest = y.rest;
          items = Inner x.element x.declared ∷ y.items;
          element = y.element;
          declared = y.declared;
          tokens_are = ap (λ us. Start tag ∷ us) (x.tokens_are ∙ ap (λ us. tokens_of x.inside ++ (End (written_name new) ∷ us)) y.tokens_are
              ∙ ap (λ (n : Qualified). tokens_of x.inside ++ (End n ∷ (tokens_of y.inside ++ (End (written_name f)
              ∷ y.rest)))) (sym o.name_is)
              ∙ sym (append_assoc (tokens_of x.inside) (End tag.name ∷ tokens_of y.inside) (End (written_name f) ∷ y.rest)));
          means = (
            x.items,
            x.element,
            x.declared,
            y.items,
            refl,
            subst (λ (s : Scope). AreItems s x.inside x.items) (ap (λ bs. bs ++ scope) o.bindings_are) x.means,
            closes_opened scope tag new o x.items x.element x.declared x.closes,
            y.means,
          );
          closes = closes_inner f x.element x.declared y.items y.element y.declared y.closes;
          goes_on = y.goes_on;
        }

    pub ends_start : EndsElement scope f (Start tag ∷ ts) Then ↔ EndsElement (new.bindings ++ scope) new ts (λ inner below rest.
        EndsElement scope (with_inner f inner below) rest Then)
    ends_start = (λ x. branch_off x.inside x.rest x.items x.element x.declared x.tokens_are x.means x.closes x.goes_on, branch_on)

-- a tag that is not allowed
module _ (scope : Scope) (f : OpenElement) (ts : List Token) (Then : Element → List Declared → List Token → Type 0)
    (tag : Tag) (none : (name : Name) (attributes : List Attribute) → NamesElement scope tag name attributes → ⊥) where
  start_off : (c : Pieces) (rest : List Token) (items : List ContentItem)
      → Start tag ∷ ts ≡ tokens_of c ++ (End (written_name f) ∷ rest) → AreItems scope c items → ⊥
  start_off (piece.Start other inside after) rest items is m =
      let same : other ≡ tag = cc in
      none m.1.name m.1.attributes (subst (λ (u : Tag). NamesElement scope u m.1.name m.1.attributes) same m.6.named)
  start_off Nothing rest items is m = cc
  start_off (piece.Comment after) rest items is m = cc
  start_off (piece.Characters blank text after) rest items is m = cc
  start_off (piece.Section text after) rest items is m = cc
  start_off (piece.Empty other after) rest items is m = cc

  pub start_named : EndsElement scope f (Start tag ∷ ts) Then → ⊥
  start_named x = start_off x.inside x.rest x.items x.tokens_are x.means

  leaf_off : (c : Pieces) (rest : List Token) (items : List ContentItem)
      → Empty tag ∷ ts ≡ tokens_of c ++ (End (written_name f) ∷ rest) → AreItems scope c items → ⊥
  leaf_off (piece.Empty other after) rest items is m =
      let same : other ≡ tag = cc in
      none m.0.name m.0.attributes (subst (λ (u : Tag). NamesElement scope u m.0.name m.0.attributes) same m.4.named)
  leaf_off Nothing rest items is m = cc
  leaf_off (piece.Comment after) rest items is m = cc
  leaf_off (piece.Characters blank text after) rest items is m = cc
  leaf_off (piece.Section text after) rest items is m = cc
  leaf_off (piece.Start other inside after) rest items is m = cc

  pub empty_named : EndsElement scope f (Empty tag ∷ ts) Then → ⊥
  empty_named x = leaf_off x.inside x.rest x.items x.tokens_are x.means
