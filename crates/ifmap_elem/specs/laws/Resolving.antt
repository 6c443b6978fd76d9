-- The declarations that are read bind a prefix at an element as the element's own scope does.
-- The declarations at a path are those of the element's tag, and then those at the rest of the path in the child that the first index
-- names (`below_at`). That child is found among the items (`child_there`), so an induction over the path goes from tag to tag
-- (`resolves`), each of which adds its bindings to the scope; that they come in another order does not matter, as they differ.
use Rattle.std.proofs.Common.{◌≡◌, ℕ, ◌+◌, ◌<◌, Bool, true, false, cond, List, [], ◌∷◌, ◌++◌, length, map, reverse, refl, ap, sym, ◌∙◌, subst, append_assoc, arith, inl, inr}
use Rattle.std.specs.Prelude.{◌==◌, codes, filter, Some, None}
use Rattle.std.specs.List.{list_any, starts_with}
use Rattle.std.specs.Str.{bytes_eq}
use Rattle.std.proofs.lemmas.Bool.{cases_Bool}
use Rattle.std.proofs.lemmas.List.{append-nil, map-append, reverse-append}
use Rattle.std.proofs.lemmas.List.Elements.{filter-append}
use Rattle.ifmap_lemmas.specs.Numbers.{is_other}
use Rattle.ifmap_lemmas.specs.Texts.{eq_tells}
use Rattle.ifmap_lemmas.specs.Branches.{number_itself}
use Rattle.ifmap_elem.specs.declared.elements.Element.{Element}
use Rattle.ifmap_elem.specs.declared.readings.Declared.{Declared}
use Rattle.ifmap_elem.specs.declared.readings.Reading.{Reading}
use Rattle.ifmap_elem.specs.declared.tokens.Tag.{Tag}
use Rattle.ifmap_elem.specs.declared.tokens.Token.{Token}
use Rattle.ifmap_elem.specs.Document as piece
use Rattle.ifmap_elem.specs.Document.{Pieces, Nothing, chain_pieces, tokens_of, heading, ContentItem, Inner, Run, is_inner, put_before, join_runs, is_child, children_among, declared_here, declared_below, from_above, IsElement, AreItems, IsMargin}
use Rattle.ifmap_elem.specs.InScope.{binding_told, declared_at, is_listed, listed_space, IsElementPiece, children_before, IsChildAt, LeadsTo, HasScope, ResolvesAsDeclared}
use Rattle.ifmap_elem.specs.Scopes.{Binding, Scope, bindings, prefix_space, root_scope, scope_within}
use Rattle.ifmap_elem.specs.Spells.{Spells}
use Rattle.ifmap_elem.specs.laws.OneReading.{one_lexing, one_heading, one_content, one_meaning}
use Rattle.ifmap_elem.specs.laws.Roots.{BeginsWithRoot, root_begins}
use Rattle.ifmap_elem.specs.laws.ScopeLaws.{bound_within, bound_reversed}

-- declarations at a path

abbrev stands : List ℕ → Declared → Bool
stands path d = starts_with ◌==◌ path d.path

abbrev at : List ℕ → List Declared → List Declared
at path declared = filter (stands path) declared

at_both : (path : List ℕ) (ds es : List Declared) → at path (ds ++ es) ≡ at path ds ++ at path es
at_both path ds es = filter-append (stands path) ds es

at_here : (path : List ℕ) (bs : List Binding) → at path (declared_here bs) ≡ declared_here bs
at_here path [] = refl
at_here path (b ∷ bs) = ap (λ ds. record { path = []; prefix = b.prefix; space = b.space } ∷ ds) (at_here path bs)

told_here : (bs : List Binding) → map binding_told (declared_here bs) ≡ bs
told_here [] = refl
told_here (b ∷ bs) = ap (λ cs. b ∷ cs) (told_here bs)

-- a declaration in the child with that index, or in another
in_child : (i : ℕ) (q : List ℕ) (ds : List Declared) → at (i ∷ q) (map (from_above i) ds) ≡ map (from_above i) (at q ds)
in_child i q [] = refl
in_child i q (d ∷ ds) =
    let first : (i == i) ≡ true = number_itself i in
    elim (cases_Bool (stands q d)) [
      | inl e ↦ rw (first, e) (ap (λ l. from_above i d ∷ l) (in_child i q ds))
      | inr e ↦ rw (first, e) (in_child i q ds)
    ]

in_other : (i j : ℕ) (q : List ℕ) (ds : List Declared) → (j == i) ≡ false → at (i ∷ q) (map (from_above j) ds) ≡ []
in_other i j q [] e = refl
in_other i j q (d ∷ ds) e = rw e (in_other i j q ds e)

in_none : (i : ℕ) (ds : List Declared) → at [] (map (from_above i) ds) ≡ []
in_none i [] = refl
in_none i (d ∷ ds) = in_none i ds

below_none : (i : ℕ) (items : List ContentItem) → at [] (declared_below i items) ≡ []
below_none i [] = refl
below_none i (Inner e d ∷ items) =
    at_both [] (map (from_above i) d) (declared_below (i + 1) items) ∙ ap (λ l. l ++ at [] (declared_below (i + 1) items)) (in_none i d)
    ∙ below_none (i + 1) items
below_none i (Run text ∷ items) = below_none (i + 1) items

below_other : (i j : ℕ) (q : List ℕ) (items : List ContentItem) → i < j → at (i ∷ q) (declared_below j items) ≡ []
below_other i j q [] l = refl
below_other i j q (Inner e d ∷ items) l =
    at_both (i ∷ q) (map (from_above j) d) (declared_below (j + 1) items)
    ∙ ap (λ k. k ++ at (i ∷ q) (declared_below (j + 1) items)) (in_other i j q d (is_other j i (λ e. omega (arith, e, l))))
    ∙ below_other i (j + 1) q items (omega (arith, l))
below_other i j q (Run text ∷ items) l = below_other i (j + 1) q items (omega (arith, l))

below_at : (j : ℕ) (q : List ℕ) (xs : List ContentItem) (e : Element) (d : List Declared) (ys : List ContentItem) (i : ℕ) → i
    ≡ j + length xs
    → at (i ∷ q) (declared_below j (xs ++ (Inner e d ∷ ys))) ≡ map (from_above i) (at q d)
below_at j q [] e d ys i is =
    let same : j ≡ i = omega (arith, is) in
    at_both (i ∷ q) (map (from_above j) d) (declared_below (j + 1) ys)
    ∙ ap (λ k. at (i ∷ q) (map (from_above j) d) ++ k) (below_other i (j + 1) q ys (omega (arith, is)))
    ∙ append-nil (at (i ∷ q) (map (from_above j) d)) ∙ ap (λ (n : ℕ). at (i ∷ q) (map (from_above n) d)) same ∙ in_child i q d
below_at j q (Inner f c ∷ xs) e d ys i is =
    at_both (i ∷ q) (map (from_above j) c) (declared_below (j + 1) (xs ++ (Inner e d ∷ ys)))
    ∙ ap (λ k. k ++ at (i ∷ q) (declared_below (j + 1) (xs ++ (Inner e d ∷ ys))))
    (in_other i j q c (is_other j i (λ h. omega (arith, is, h))))
    ∙ below_at (j + 1) q xs e d ys i (omega (arith, is))
below_at j q (Run text ∷ xs) e d ys i is = below_at (j + 1) q xs e d ys i (omega (arith, is))

told_above : (i : ℕ) (ds : List Declared) → map binding_told (map (from_above i) ds) ≡ map binding_told ds
told_above i [] = refl
told_above i (d ∷ ds) = ap (λ bs. binding_told d ∷ bs) (told_above i ds)

-- children among items

pub joined_both : (xs : List ContentItem) (e : Element) (d : List Declared) (ys : List ContentItem)
    → join_runs (xs ++ (Inner e d ∷ ys)) ≡ join_runs xs ++ (Inner e d ∷ join_runs ys)
joined_both [] e d ys = refl
joined_both (Inner f c ∷ xs) e d ys = ap (λ l. Inner f c ∷ l) (joined_both xs e d ys)
joined_both (Run text ∷ xs) e d ys = ap (put_before text) (joined_both xs e d ys) ∙ before text (join_runs xs)
  where
    before : (text : List ℕ) (zs : List ContentItem) → put_before text
        (zs ++ (Inner e d ∷ join_runs ys)) ≡ put_before text zs ++ (Inner e d ∷ join_runs ys)
    before text [] = refl
    before text (Inner f c ∷ zs) = refl
    before text (Run more ∷ zs) = refl

some_inner : (xs : List ContentItem) (e : Element) (d : List Declared) (ys : List ContentItem) → list_any is_inner (xs ++ (Inner e d ∷ ys))
    ≡ true
some_inner [] e d ys = refl
some_inner (Inner f c ∷ xs) e d ys = refl
some_inner (Run text ∷ xs) e d ys = some_inner xs e d ys

children_there : (xs : List ContentItem) (e : Element) (d : List Declared) (ys : List ContentItem)
    → children_among (xs ++ (Inner e d ∷ ys)) ≡ filter (is_child true) (join_runs xs) ++ (Inner e d ∷ filter (is_child true) (join_runs ys))
children_there xs e d ys =
    (λ i. filter (is_child (some_inner xs e d ys i)) (joined_both xs e d ys i))
    ∙ filter-append (is_child true) (join_runs xs) (Inner e d ∷ join_runs ys)

-- the items of pieces after one another

parted : (scope : Scope) (c d : Pieces) (items : List ContentItem) → AreItems scope (chain_pieces c d) items
    → (xs : List ContentItem) × (ys : List ContentItem) × (items ≡ xs ++ ys) × AreItems scope c xs × AreItems scope d ys
parted scope Nothing d items m = ([], items, refl, refl, m)
parted scope (piece.Comment after) d items m = parted scope after d items m
parted scope (piece.Characters blank text after) d items m =
    let p = parted scope after d m.0 m.2 in (Run text ∷ p.0, p.1, m.1 ∙ ap (λ l. Run text ∷ l) p.2, (p.0, refl, p.3), p.4)
parted scope (piece.Section text after) d items m =
    let p = parted scope after d m.0 m.2 in (Run text ∷ p.0, p.1, m.1 ∙ ap (λ l. Run text ∷ l) p.2, (p.0, refl, p.3), p.4)
parted scope (piece.Empty tag after) d items m =
    let p = parted scope after d m.2 m.5 in (
      Inner m.0 m.1 ∷ p.0,
      p.1,
      m.3
          ∙ ap (λ l. Inner m.0 m.1 ∷ l) p.2,
      (m.0, m.1, p.0, refl, m.4, p.3),
      p.4,
    )
parted scope (piece.Start tag inside after) d items m =
    let p = parted scope after d m.3 m.7 in (
      Inner m.1 m.2 ∷ p.0,
      p.1,
      m.4 ∙ ap (λ l. Inner m.1 m.2 ∷ l) p.2,
      (m.0, m.1, m.2, p.0, refl, m.5, m.6, p.3),
      p.4,
    )

-- the first item of an element's piece
pub record BeginsWithItem (scope : Scope) (tag : Tag) (inside : Pieces) (items : List ContentItem) : Type 0 where
  pub inner : List ContentItem
  pub element : Element
  pub declared : List Declared
  pub others : List ContentItem
  pub items_are : items ≡ Inner element declared ∷ others
  pub inside_are : AreItems (scope_within scope tag) inside inner
  pub is_element : IsElement scope tag inner element declared

first_of : (scope : Scope) (pieces : Pieces) (tag : Tag) (inside after : Pieces) (items : List ContentItem)
    → IsElementPiece pieces tag inside after → AreItems scope pieces items → BeginsWithItem scope tag inside items
first_of scope pieces tag inside after items is m = elim is [
  | inl e ↦ started (subst (λ (p : Pieces). AreItems scope p items) e m)
  | inr e ↦ emptied e.1 (subst (λ (p : Pieces). AreItems scope p items) e.0 m)
]
  where
    started : AreItems scope (piece.Start tag inside after) items → BeginsWithItem scope tag inside items
    started h = record { inner = h.0; element = h.1; declared = h.2; others = h.3; items_are = h.4; inside_are = h.5; is_element = h.6 }

    emptied : inside ≡ Nothing → AreItems scope (piece.Empty tag after) items → BeginsWithItem scope tag inside items
    emptied none h = record {
      inner = [];
      element = h.0;
      declared = h.1;
      others = h.2;
      items_are = h.3;
      inside_are = subst (λ (p : Pieces). AreItems (scope_within scope tag) p []) (sym none) refl;
      is_element = h.4;
    }

-- the child with that index, among the children of an element
pub record IsThere (scope : Scope) (child : Tag) (within : Pieces) (items : List ContentItem) (index : ℕ) : Type 0 where
  pub inner : List ContentItem
  pub element : Element
  pub declared : List Declared
  pub before : List ContentItem
  pub after : List ContentItem
  pub children_are : children_among items ≡ before ++ (Inner element declared ∷ after)
  pub index_is : index ≡ length before
  pub inside_are : AreItems (scope_within scope child) within inner
  pub is_element : IsElement scope child inner element declared

pub child_there : (scope : Scope) (inside : Pieces) (items : List ContentItem) (index : ℕ) (child : Tag) (within : Pieces)
    → AreItems scope inside items → IsChildAt scope inside index child within
    → IsThere scope child within items index
child_there scope inside items index child within m c =
    let p = parted scope c.before c.element items (subst (λ (q : Pieces). AreItems scope q items) c.inside_is m) in
    let f = first_of scope c.element child within c.after p.1 c.is_element p.4 in
    let same : p.0 ≡ c.items = one_meaning scope c.before p.0 c.items p.3 c.mean in
    record {
      inner = f.inner;
      element = f.element;
      declared = f.declared;
      before = filter (is_child true) (join_runs p.0);
      after = filter (is_child true) (join_runs f.others);
      children_are = ap children_among (p.2 ∙ ap (λ l. p.0 ++ l) f.items_are) ∙ children_there p.0 f.element f.declared f.others;
      index_is = c.index_is ∙ ap children_before (sym same);
      inside_are = f.inside_are;
      is_element = f.is_element;
    }

-- from tag to tag

module _ (outer : Scope) (tag : Tag) (items : List ContentItem) (e : Element) (declared : List Declared)
    (h : IsElement outer tag items e declared) where
  declared_there : declared_at [] declared ≡ reverse (bindings tag)
  declared_there =
      ap (λ ds. reverse (map binding_told (at [] ds))) h.declared_are
      ∙ ap (λ ds. reverse (map binding_told ds)) (at_both [] (declared_here (bindings tag)) (declared_below 0 (children_among items))
      ∙ (λ i. at_here [] (bindings tag) i ++ below_none 0 (children_among items) i) ∙ append-nil (declared_here (bindings tag)))
      ∙ ap reverse (told_here (bindings tag))

  declared_in : (index : ℕ) (path : List ℕ) (scope : Scope) (child : Tag) (within : Pieces) (t : IsThere scope child within items index)
      → declared_at (index ∷ path) declared ≡ declared_at path t.declared ++ reverse (bindings tag)
  declared_in index path scope child within t =
      ap (λ ds. reverse (map binding_told (at (index ∷ path) ds))) h.declared_are
      ∙ ap (λ ds. reverse (map binding_told ds)) (at_both (index ∷ path) (declared_here (bindings tag))
      (declared_below 0 (children_among items))
      ∙ (λ i. at_here (index ∷ path) (bindings tag) i ++ below i))
      ∙ ap reverse (map-append binding_told (declared_here (bindings tag)) (map (from_above index) (at path t.declared))
      ∙ (λ i. told_here (bindings tag) i ++ told_above index (at path t.declared) i))
      ∙ reverse-append (bindings tag) (map binding_told (at path t.declared))
    where
      below : at (index ∷ path) (declared_below 0 (children_among items)) ≡ map (from_above index) (at path t.declared)
      below =
          ap (λ is. at (index ∷ path) (declared_below 0 is)) t.children_are
          ∙ below_at 0 path t.before t.element t.declared t.after index (let i = t.index_is in omega (arith, i))

  own_bound : (p : List ℕ) → prefix_space (reverse (bindings tag) ++ outer) p ≡ prefix_space (scope_within outer tag) p
  own_bound p = bound_reversed (bindings tag) outer p h.named.binds_once

resolves : (path : List ℕ) (outer : Scope) (tag : Tag) (inside : Pieces) (items : List ContentItem) (e : Element) (declared : List Declared)
    (scope : Scope) → IsElement outer tag items e declared
    → AreItems (scope_within outer tag) inside items → LeadsTo outer tag inside path scope → (p : List ℕ)
    → prefix_space (declared_at path declared ++ outer) p ≡ prefix_space scope p
resolves [] outer tag inside items e declared scope h m l p =
    ap (λ s. prefix_space (s ++ outer) p) (declared_there outer tag items e declared h) ∙ own_bound outer tag items e declared h p
    ∙ ap (λ (s : Scope). prefix_space s p) (sym l)
resolves (index ∷ path) outer tag inside items e declared scope h m l p =
    let t = child_there (scope_within outer tag) inside items index l.0 l.1 m l.2 in
    ap (λ s. prefix_space (s ++ outer) p) (declared_in outer tag items e declared h index path (scope_within outer tag) l.0 l.1 t)
    ∙ ap (λ s. prefix_space s p) (append_assoc (declared_at path t.declared) (reverse (bindings tag)) outer)
    ∙ bound_within (declared_at path t.declared) (reverse (bindings tag) ++ outer) (scope_within outer tag) p
    (own_bound outer tag items e declared h p)
    ∙ resolves path (scope_within outer tag) l.0 l.1 t.inner t.element t.declared scope t.is_element t.inside_are l.3 p

-- what is bound at the root is not listed
root_unlisted : (s : Scope) (p : List ℕ) → is_listed p ≡ true → prefix_space (s ++ root_scope) p ≡ prefix_space s p
root_unlisted (b ∷ bs) p e = ap (λ o. cond (bytes_eq b.prefix p) (Some b.space) o) (root_unlisted bs p e)
root_unlisted [] p e = at_root p e
  where
    at_root : (p : List ℕ) → is_listed p ≡ true → prefix_space root_scope p ≡ None
    at_root p e = elim (cases_Bool (bytes_eq (codes "xml") p)) [
      | inl f ↦ let wrong : false ≡ true = subst (λ q. is_listed q ≡ true) (sym (eq_tells (codes "xml") p f)) e in cc
      | inr f ↦ elim (cases_Bool (bytes_eq [] p)) [
        | inl g ↦ let wrong : false ≡ true = subst (λ q. is_listed q ≡ true) (sym (eq_tells [] p g)) e in cc
        | inr g ↦ rw (f, g) refl
      ]
    ]

listed_alike : (s t : Scope) (p : List ℕ) → prefix_space (s ++ root_scope) p ≡ prefix_space t p → listed_space s p ≡ listed_space t p
listed_alike s t p e = elim (cases_Bool (is_listed p)) [
  | inl is ↦ rw is (sym (root_unlisted s p is) ∙ e)
  | inr is ↦ rw is refl
]

-- after a margin the element of the document
after_margin : (c d : Pieces) (r : Reading) → IsMargin c → BeginsWithRoot (chain_pieces c d) r → BeginsWithRoot d r
after_margin Nothing d r m h = h
after_margin (piece.Comment after) d r m h = after_margin after d r m h
after_margin (piece.Characters blank text after) d r m h = after_margin after d r m.1 h.1
after_margin (piece.Section text after) d r m h = absurd m
after_margin (piece.Empty tag after) d r m h = absurd m
after_margin (piece.Start tag inside after) d r m h = absurd m

root_there : (pieces : Pieces) (tag : Tag) (inside after : Pieces) (r : Reading) → IsElementPiece pieces tag inside after
    → BeginsWithRoot pieces r
    → (items : List ContentItem) × IsElement root_scope tag items r.root r.declared × AreItems (scope_within root_scope tag) inside items
root_there pieces tag inside after r is b = elim is [
  | inl e ↦ let h : BeginsWithRoot (piece.Start tag inside after) r = subst (λ (q : Pieces). BeginsWithRoot q r) e b in (h.0, h.2, h.1)
  | inr e ↦
      let h : BeginsWithRoot (piece.Empty tag after) r = subst (λ (q : Pieces). BeginsWithRoot q r) e.0 b in
      ([], h.0, subst (λ (q : Pieces). AreItems (scope_within root_scope tag) q []) (sym e.1) refl)
]

-- where a path in the bytes leads from is the root of their one reading
pub root_led : (bytes : List ℕ) (r : Reading) → Spells bytes r → (path : List ℕ) (scope : Scope) (h : HasScope bytes path scope)
    → (items : List ContentItem) × IsElement root_scope h.tag items r.root r.declared
    × AreItems (scope_within root_scope h.tag) h.inside items
root_led bytes r s path scope h =
    let tokens = one_lexing _ s.tokens h.tokens s.lexed h.lexed in
    let heads = one_heading s.document.declared h.declared s.document.pieces (chain_pieces h.before h.element)
    (sym s.document.tokens_are ∙ tokens ∙ h.tokens_are) in
    let pieces = (one_content s.document.pieces (chain_pieces h.before h.element) [] [] tt tt
    (ap (λ (ts : List Token). ts ++ []) heads)).0 in
    let begins = after_margin h.before h.element r h.margin (subst (λ (q : Pieces). BeginsWithRoot q r) pieces
    (root_begins s.document.pieces r s.document.rooted)) in
    root_there h.element h.tag h.inside h.after r h.is_element begins

pub resolves_as_declared : (bytes : List ℕ) (r : Reading) → Spells bytes r → ResolvesAsDeclared bytes r
resolves_as_declared bytes r s path scope h prefix =
    let root = root_led bytes r s path scope h in
    listed_alike (declared_at path r.declared) scope prefix (resolves path root_scope h.tag h.inside root.0 r.root r.declared scope root.1
    root.2 h.leads prefix)
