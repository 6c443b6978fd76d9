-- The elements that paths name in what is spelled are those that have scopes in the bytes, by the same indexes.
-- From a child element of an element to its item (`item_of`), from that item, whose index counts the children before it, to its
-- place among all items (`place_of`), and from there to its piece (`piece_of`); an induction over the path goes from tag to tag.
-- The other way is `child_there`.
use Rattle.std.proofs.Common.{◌≡◌, ℕ, zero, suc, Bool, true, false, List, [], ◌∷◌, ◌++◌, length, map, refl, ap, sym, ◌∙◌, subst, append_assoc, ◌⊎◌, inl, inr}
use Rattle.std.specs.Prelude.{filter, Some, None}
use Rattle.std.specs.List.{list_any, slice_get}
use Rattle.std.proofs.lemmas.Bool.{cases_Bool}
use Rattle.std.proofs.lemmas.List.{append-nil}
use Rattle.std.proofs.lemmas.List.Elements.{filter-append}
use Rattle.ifmap_elem.specs.declared.elements.Child as the
use Rattle.ifmap_elem.specs.declared.elements.Child.{out-Child}
use Rattle.ifmap_elem.specs.declared.elements.Child.TheOpen.{Child-F}
use Rattle.ifmap_elem.specs.declared.elements.Element.{Element}
use Rattle.ifmap_elem.specs.declared.readings.Declared.{Declared}
use Rattle.ifmap_elem.specs.declared.readings.Reading.{Reading}
use Rattle.ifmap_elem.specs.declared.tokens.Tag.{Tag}
use Rattle.ifmap_elem.specs.Document as piece
use Rattle.ifmap_elem.specs.Document.{Pieces, Nothing, chain_pieces, ContentItem, Inner, Run, is_inner, put_before, join_runs, is_child, children_among, child_of, IsElement, AreItems}
use Rattle.ifmap_elem.specs.InScope.{IsElementPiece, IsChildAt, LeadsTo, NamesElementAt, ResolvedIn, NamedHaveScopes, ScopesAreNamed}
use Rattle.ifmap_elem.specs.Scopes.{Scope, root_scope, scope_within, NamesElement}
use Rattle.ifmap_elem.specs.Spells.{Spells}
use Rattle.ifmap_elem.specs.laws.ArrangedLaws.{one_element, out_element}
use Rattle.ifmap_elem.specs.laws.FitLaws.{out_text}
use Rattle.ifmap_elem.specs.laws.Resolving.{child_there, joined_both, root_led}
use Rattle.ifmap_elem.specs.laws.Roots.{root_begins, root_of}

-- from a child element to its item

pub record IsElementAt (items : List ContentItem) (index : ℕ) (e : Element) : Type 0 where
  pub before : List ContentItem
  pub declared : List Declared
  pub after : List ContentItem
  pub items_are : items ≡ before ++ (Inner e declared ∷ after)
  pub index_is : index ≡ length before

pub no_text : (text : List ℕ) (e : Element) → the.Text text ≡ the.Element e → ⊥
no_text text e h = let wrong : Child-F.Text text ≡ Child-F.Element e = sym (out_text text) ∙ ap out-Child h ∙ out_element e in cc

item_of : (items : List ContentItem) (index : ℕ) (e : Element) → slice_get (map child_of items) index ≡ Some (the.Element e)
    → IsElementAt items index e
item_of [] index e h = let wrong : None ≡ Some (the.Element e) = h in cc
item_of (Inner f d ∷ items) zero e h =
    let same : the.Element f ≡ the.Element e = cc in
    record {
      before = [];
      declared = d;
      after = items;
      items_are = ap (λ (x : Element). Inner x d ∷ items) (one_element f e same);
      index_is = refl;
    }
item_of (Run text ∷ items) zero e h = let wrong : the.Text text ≡ the.Element e = cc in absurd (no_text text e wrong)
item_of (item ∷ items) (suc index) e h =
    let rest = item_of items index e h in
    record {
      before = item ∷ rest.before;
      declared = rest.declared;
      after = rest.after;
      items_are = ap (λ (is : List ContentItem). item ∷ is) rest.items_are;
      index_is = ap suc rest.index_is;
    }

element_at : (before : List ContentItem) (e : Element) (d : List Declared) (after : List ContentItem)
    → slice_get (map child_of (before ++ (Inner e d ∷ after))) (length before) ≡ Some (the.Element e)
element_at [] e d after = refl
element_at (item ∷ before) e d after = element_at before e d after

-- texts alone

abbrev AreRuns : List ContentItem → Type 0
AreRuns [] = Unit {0}
AreRuns (Inner e d ∷ items) = ⊥
AreRuns (Run text ∷ items) = AreRuns items

runs_put : (text : List ℕ) (items : List ContentItem) → AreRuns items → AreRuns (put_before text items)
runs_put text [] h = tt
runs_put text (Inner e d ∷ items) h = absurd h
runs_put text (Run more ∷ items) h = h

runs_joined : (items : List ContentItem) → AreRuns items → AreRuns (join_runs items)
runs_joined [] h = tt
runs_joined (Inner e d ∷ items) h = absurd h
runs_joined (Run text ∷ items) h = runs_put text (join_runs items) (runs_joined items h)

runs_among : (p : ContentItem → Bool) (items : List ContentItem) → AreRuns items → AreRuns (filter p items)
runs_among p [] h = tt
runs_among p (Inner e d ∷ items) h = absurd h
runs_among p (Run text ∷ items) h = elim (cases_Bool (p (Run text))) [
  | inl is ↦ rw is (runs_among p items h)
  | inr is ↦ rw is (runs_among p items h)
]

runs_after : (runs : List ContentItem) (text : List ℕ) → AreRuns runs → AreRuns (runs ++ (Run text ∷ []))
runs_after [] text h = tt
runs_after (Inner e d ∷ runs) text h = absurd h
runs_after (Run more ∷ runs) text h = runs_after runs text h

no_inner : (before : List ContentItem) (e : Element) (d : List Declared) (after : List ContentItem)
    → AreRuns (before ++ (Inner e d ∷ after)) → ⊥
no_inner [] e d after h = h
no_inner (Inner f c ∷ before) e d after h = h
no_inner (Run text ∷ before) e d after h = no_inner before e d after h

-- from a child's item to its place among all items

-- after texts and an element's item, the other item is the same or comes later
abbrev IsSameOrLater : (runs : List ContentItem) (f : Element) (c : List Declared) (rest before : List ContentItem) (e : Element)
    (d : List Declared)
    (after : List ContentItem) → Type 0
IsSameOrLater runs f c rest before e d after =
    ((before ≡ runs) × (f ≡ e) × (c ≡ d))
    ⊎ ((more : List ContentItem) × (before ≡ runs ++ (Inner f c ∷ more)) × (rest ≡ more ++ (Inner e d ∷ after)))

is_later : (runs : List ContentItem) (f : Element) (c : List Declared) (rest before : List ContentItem) (e : Element) (d : List Declared)
    (after : List ContentItem) → AreRuns runs
    → runs ++ (Inner f c ∷ rest) ≡ before ++ (Inner e d ∷ after) → IsSameOrLater runs f c rest before e d after
is_later [] f c rest [] e d after h is =
    let element : f ≡ e = cc in
    let declared : c ≡ d = cc in
    inl (refl, element, declared)
is_later [] f c rest (item ∷ before) e d after h is =
    let first : item ≡ Inner f c = cc in
    let others : rest ≡ before ++ (Inner e d ∷ after) = cc in
    inr (before, ap (λ (i : ContentItem). i ∷ before) first, others)
is_later (Inner g b ∷ runs) f c rest before e d after h is = absurd h
is_later (Run text ∷ runs) f c rest [] e d after h is = let wrong : Run text ≡ Inner e d = cc in cc
is_later (Run text ∷ runs) f c rest (item ∷ before) e d after h is =
    let first : item ≡ Run text = cc in
    let others : runs ++ (Inner f c ∷ rest) ≡ before ++ (Inner e d ∷ after) = cc in
    elim (is_later runs f c rest before e d after h others) [
      | inl k ↦ inl (let head : before ≡ runs = k.0 in cc, k.1, k.2)
      | inr k ↦ inr (k.0, let tail : before ≡ runs ++ (Inner f c ∷ k.0) = k.1 in cc, k.2)
    ]

pub record IsPlace (runs items before : List ContentItem) (e : Element) (d : List Declared) : Type 0 where
  pub first : List ContentItem
  pub others : List ContentItem
  pub items_are : items ≡ first ++ (Inner e d ∷ others)
  pub before_is : before ≡ filter (is_child true) (join_runs (runs ++ first))

place_of : (runs : List ContentItem) (items before : List ContentItem) (e : Element) (d : List Declared) (after : List ContentItem)
    → AreRuns runs
    → filter (is_child true) (join_runs (runs ++ items)) ≡ before ++ (Inner e d ∷ after) → IsPlace runs items before e d
place_of runs [] before e d after h is =
    absurd (no_inner before e d after
    (subst AreRuns is (runs_among (is_child true) (join_runs (runs ++ []))
    (runs_joined (runs ++ []) (subst AreRuns (sym (append-nil runs)) h)))))
place_of runs (Run text ∷ items) before e d after h is =
    let moved : (rest : List ContentItem) → (runs ++ (Run text ∷ [])) ++ rest ≡ runs ++ (Run text ∷ rest) = λ rest. append_assoc runs
    (Run text ∷ []) rest in
    let p = place_of (runs ++ (Run text ∷ [])) items before e d after (runs_after runs text h)
    (ap (λ (is : List ContentItem). filter (is_child true) (join_runs is)) (moved items) ∙ is) in
    record {
      first = Run text ∷ p.first;
      others = p.others;
      items_are = ap (λ (is : List ContentItem). Run text ∷ is) p.items_are;
      before_is = p.before_is ∙ ap (λ (is : List ContentItem). filter (is_child true) (join_runs is)) (moved p.first);
    }
place_of runs (Inner f c ∷ items) before e d after h is =
    elim (is_later among f c (filter (is_child true) (join_runs items)) before e d after
    (runs_among (is_child true) (join_runs runs) (runs_joined runs h)) (sym (parts items) ∙ is)) [
      | inl k ↦ record {
        first = [];
        others = items;
        items_are = (λ i. Inner (k.1 i) (k.2 i) ∷ items);
        before_is = k.0 ∙ ap (λ (is : List ContentItem). filter (is_child true) (join_runs is)) (sym (append-nil runs));
      }
      | inr k ↦
          let p = place_of [] items k.0 e d after tt k.2 in
          record {
            first = Inner f c ∷ p.first;
            others = p.others;
            items_are = ap (λ (is : List ContentItem). Inner f c ∷ is) p.items_are;
            before_is = k.1 ∙ ap (λ (is : List ContentItem). among ++ (Inner f c ∷ is)) p.before_is ∙ sym (parts p.first);
          }
    ]
  where
    among : List ContentItem
    among = filter (is_child true) (join_runs runs)

    parts : (rest : List ContentItem) → filter (is_child true) (join_runs (runs ++ (Inner f c ∷ rest))) ≡ filter (is_child true)
        (join_runs runs) ++ (Inner f c ∷ filter (is_child true) (join_runs rest))
    parts rest =
        ap (filter (is_child true)) (joined_both runs f c rest)
        ∙ filter-append (is_child true) (join_runs runs) (Inner f c ∷ join_runs rest)

-- from an item to its piece

pub record IsPiece (scope : Scope) (inside : Pieces) (first : List ContentItem) (e : Element) (d : List Declared) : Type 0 where
  pub before : Pieces
  pub element : Pieces
  pub after : Pieces
  pub tag : Tag
  pub within : Pieces
  pub inner : List ContentItem
  pub inside_is : inside ≡ chain_pieces before element
  pub is_piece : IsElementPiece element tag within after
  pub mean : AreItems scope before first
  pub inner_are : AreItems (scope_within scope tag) within inner
  pub is_element : IsElement scope tag inner e d

-- after one more piece
with_piece : (wrap : Pieces → Pieces) → ((c d : Pieces) → chain_pieces (wrap c) d ≡ wrap (chain_pieces c d))
    → (scope : Scope) (inside : Pieces) (first more : List ContentItem) (e : Element) (d : List Declared)
    → ((c : Pieces) → AreItems scope c first → AreItems scope (wrap c) more)
    → IsPiece scope inside first e d → IsPiece scope (wrap inside) more e d
with_piece wrap chains scope inside first more e d means p = record {
  before = wrap p.before;
  element = p.element;
  after = p.after;
  tag = p.tag;
  within = p.within;
  inner = p.inner;
  inside_is = ap wrap p.inside_is ∙ sym (chains p.before p.element);
  is_piece = p.is_piece;
  mean = means p.before p.mean;
  inner_are = p.inner_are;
  is_element = p.is_element;
}

piece_of : (scope : Scope) (inside : Pieces) (items first : List ContentItem) (e : Element) (d : List Declared) (others : List ContentItem)
    → AreItems scope inside items
    → items ≡ first ++ (Inner e d ∷ others) → IsPiece scope inside first e d
piece_of scope Nothing items [] e d others m is = let wrong : [] ≡ Inner e d ∷ others = sym m ∙ is in cc
piece_of scope Nothing items (item ∷ first) e d others m is = let wrong : [] ≡ item ∷ (first ++ (Inner e d ∷ others)) = sym m ∙ is in cc
piece_of scope (piece.Comment after) items first e d others m is =
    with_piece piece.Comment (λ c q. refl) scope after first first e d (λ c t. t) (piece_of scope after items first e d others m is)
piece_of scope (piece.Characters blank text after) items [] e d others m is =
    let wrong : Run text ∷ m.0 ≡ Inner e d ∷ others = sym m.1 ∙ is in cc
piece_of scope (piece.Characters blank text after) items (item ∷ first) e d others m is =
    let both : Run text ∷ m.0 ≡ item ∷ (first ++ (Inner e d ∷ others)) = sym m.1 ∙ is in
    let head : item ≡ Run text = cc in
    let tail : m.0 ≡ first ++ (Inner e d ∷ others) = cc in
    with_piece (piece.Characters blank text) (λ c q. refl) scope after first (item ∷ first) e d
    (λ c t. (first, ap (λ (i : ContentItem). i ∷ first) head, t)) (piece_of scope after m.0 first e d others m.2 tail)
piece_of scope (piece.Section text after) items [] e d others m is = let wrong : Run text ∷ m.0 ≡ Inner e d ∷ others = sym m.1 ∙ is in cc
piece_of scope (piece.Section text after) items (item ∷ first) e d others m is =
    let both : Run text ∷ m.0 ≡ item ∷ (first ++ (Inner e d ∷ others)) = sym m.1 ∙ is in
    let head : item ≡ Run text = cc in
    let tail : m.0 ≡ first ++ (Inner e d ∷ others) = cc in
    with_piece (piece.Section text) (λ c q. refl) scope after first (item ∷ first) e d
    (λ c t. (first, ap (λ (i : ContentItem). i ∷ first) head, t)) (piece_of scope after m.0 first e d others m.2 tail)
piece_of scope (piece.Empty tag after) items [] e d others m is =
    let both : Inner m.0 m.1 ∷ m.2 ≡ Inner e d ∷ others = sym m.3 ∙ is in
    let same : m.0 ≡ e = cc in
    let told : m.1 ≡ d = cc in
    record {
      before = Nothing;
      element = piece.Empty tag after;
      after = after;
      tag = tag;
      within = Nothing;
      inner = [];
      inside_is = refl;
      is_piece = inr (refl, refl);
      mean = refl;
      inner_are = refl;
      is_element =
          subst (λ (x : Element). IsElement scope tag [] x d) same (subst (λ (x : List Declared). IsElement scope tag [] m.0 x) told m.4);
    }
piece_of scope (piece.Empty tag after) items (item ∷ first) e d others m is =
    let both : Inner m.0 m.1 ∷ m.2 ≡ item ∷ (first ++ (Inner e d ∷ others)) = sym m.3 ∙ is in
    let head : item ≡ Inner m.0 m.1 = cc in
    let tail : m.2 ≡ first ++ (Inner e d ∷ others) = cc in
    with_piece (piece.Empty tag) (λ c q. refl) scope after first (item ∷ first) e d
    (λ c t. (m.0, m.1, first, ap (λ (i : ContentItem). i ∷ first) head, m.4, t)) (piece_of scope after m.2 first e d others m.5 tail)
piece_of scope (piece.Start tag within after) items [] e d others m is =
    let both : Inner m.1 m.2 ∷ m.3 ≡ Inner e d ∷ others = sym m.4 ∙ is in
    let same : m.1 ≡ e = cc in
    let told : m.2 ≡ d = cc in
    record {
      before = Nothing;
      element = piece.Start tag within after;
      after = after;
      tag = tag;
      within = within;
      inner = m.0;
      inside_is = refl;
      is_piece = inl refl;
      mean = refl;
      inner_are = m.5;
      is_element =
          subst (λ (x : Element). IsElement scope tag m.0 x d) same (subst (λ (x : List Declared). IsElement scope tag m.0 m.1 x) told m.6);
    }
piece_of scope (piece.Start tag within after) items (item ∷ first) e d others m is =
    let both : Inner m.1 m.2 ∷ m.3 ≡ item ∷ (first ++ (Inner e d ∷ others)) = sym m.4 ∙ is in
    let head : item ≡ Inner m.1 m.2 = cc in
    let tail : m.3 ≡ first ++ (Inner e d ∷ others) = cc in
    with_piece (piece.Start tag within) (λ c q. refl) scope after first (item ∷ first) e d
    (λ c t. (m.0, m.1, m.2, first, ap (λ (i : ContentItem). i ∷ first) head, m.5, m.6, t))
    (piece_of scope after m.3 first e d others m.7 tail)

-- beside an element among the children white space is none
among_both : (items before : List ContentItem) (e : Element) (d : List Declared) (after : List ContentItem)
    → children_among items ≡ before ++ (Inner e d ∷ after)
    → filter (is_child true) (join_runs items) ≡ before ++ (Inner e d ∷ after)
among_both items before e d after is = elim (cases_Bool (list_any is_inner items)) [
  | inl some ↦ ap (λ (b : Bool). filter (is_child b) (join_runs items)) (sym some) ∙ is
  | inr none ↦ absurd (no_inner before e d after (subst AreRuns is
      (runs_among (is_child (list_any is_inner items)) (join_runs items) (runs_joined items (are_runs items none)))))
]
  where
    are_runs : (items : List ContentItem) → list_any is_inner items ≡ false → AreRuns items
    are_runs [] h = tt
    are_runs (Inner f c ∷ items) h = let wrong : true ≡ false = h in cc
    are_runs (Run text ∷ items) h = are_runs items h

-- the child with an index, and its piece
pub record IsChild (scope : Scope) (inside : Pieces) (index : ℕ) (e : Element) : Type 0 where
  pub child : Tag
  pub within : Pieces
  pub inner : List ContentItem
  pub declared : List Declared
  pub is_there : IsChildAt scope inside index child within
  pub inner_are : AreItems (scope_within scope child) within inner
  pub is_element : IsElement scope child inner e declared

child_at : (scope : Scope) (inside : Pieces) (items : List ContentItem) (index : ℕ) (e : Element) → AreItems scope inside items
    → slice_get (map child_of (children_among items)) index ≡ Some (the.Element e)
    → IsChild scope inside index e
child_at scope inside items index e m h =
    let i = item_of (children_among items) index e h in
    let p = place_of [] items i.before e i.declared i.after tt (among_both items i.before e i.declared i.after i.items_are) in
    let q = piece_of scope inside items p.first e i.declared p.others m p.items_are in
    record {
      child = q.tag;
      within = q.within;
      inner = q.inner;
      declared = i.declared;
      is_there = record {
        before = q.before;
        element = q.element;
        after = q.after;
        items = p.first;
        inside_is = q.inside_is;
        is_element = q.is_piece;
        mean = q.mean;
        index_is = i.index_is ∙ ap length p.before_is;
      };
      inner_are = q.inner_are;
      is_element = q.is_element;
    }

-- from tag to tag

leads_there : (path : List ℕ) (outer : Scope) (tag : Tag) (inside : Pieces) (items : List ContentItem) (root e : Element)
    (declared : List Declared) → IsElement outer tag items root declared
    → AreItems (scope_within outer tag) inside items → NamesElementAt root path e
    → (scope : Scope) × LeadsTo outer tag inside path scope × ResolvedIn scope e
leads_there [] outer tag inside items root e declared h m is = (
  scope_within outer tag,
  refl,
  record {
    outer = outer;
    tag = tag;
    scope_is = refl;
    named = subst (λ (x : Element). NamesElement outer tag x.name x.attributes) (sym is) h.named;
  },
)
leads_there (index ∷ path) outer tag inside items root e declared h m is =
    let c = child_at (scope_within outer tag) inside items index is.0 m
    (ap (λ (cs : List the.Child). slice_get cs index) (sym h.children_are) ∙ is.1) in
    let l = leads_there path (scope_within outer tag) c.child c.within c.inner is.0 e c.declared c.is_element c.inner_are is.2 in
    (l.0, (c.child, c.within, c.is_there, l.1), l.2)

named_there : (path : List ℕ) (outer : Scope) (tag : Tag) (inside : Pieces) (items : List ContentItem) (root : Element)
    (declared : List Declared) (scope : Scope) → IsElement outer tag items root declared
    → AreItems (scope_within outer tag) inside items → LeadsTo outer tag inside path scope
    → (e : Element) × NamesElementAt root path e × ResolvedIn scope e
named_there [] outer tag inside items root declared scope h m l = (
  root,
  refl,
  record { outer = outer; tag = tag; scope_is = l; named = h.named },
)
named_there (index ∷ path) outer tag inside items root declared scope h m l =
    let t = child_there (scope_within outer tag) inside items index l.0 l.1 m l.2 in
    let n = named_there path (scope_within outer tag) l.0 l.1 t.inner t.element t.declared scope t.is_element t.inside_are l.3 in
    let at : slice_get root.children index ≡ Some (the.Element t.element) =
    (λ i. slice_get ((h.children_are ∙ ap (map child_of) t.children_are) i) (t.index_is i))
    ∙ element_at t.before t.element t.declared t.after
    in (n.0, (t.element, at, n.1), n.2)

-- from the bytes

pub named_have_scopes : (bytes : List ℕ) (r : Reading) → Spells bytes r → NamedHaveScopes bytes r
named_have_scopes bytes r s path e h =
    let root = root_of s.document.pieces r (root_begins s.document.pieces r s.document.rooted) in
    let l = leads_there path root_scope root.tag root.inside root.items r.root e r.declared root.is_element root.inside_are h in (
      l.0,
      record {
        tokens = s.tokens;
        declared = s.document.declared;
        before = root.before;
        element = root.element;
        tag = root.tag;
        inside = root.inside;
        after = root.after;
        lexed = s.lexed;
        tokens_are = s.document.tokens_are ∙ ap (λ (q : Pieces). piece.heading s.document.declared ++ piece.tokens_of q) root.pieces_are;
        margin = root.margin;
        is_element = root.is_piece;
        leads = l.1;
      },
      l.2,
    )

pub scopes_are_named : (bytes : List ℕ) (r : Reading) → Spells bytes r → ScopesAreNamed bytes r
scopes_are_named bytes r s path scope h =
    let root = root_led bytes r s path scope h in
    named_there path root_scope h.tag h.inside root.0 r.root r.declared scope root.1 root.2 h.leads
