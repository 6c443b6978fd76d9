-- Printed children and printed elements are tokens that mean them.
-- 1. Pieces in a row have the tokens of both and mean the items of both.
-- 2. Items that fit as children are joined and dropped nowhere: they are the children among themselves (`kept_all`).
-- 3. Children that are taken one by one, each with a tag after a text, are taken in a row (`ChildTaken`).
-- 4. An element over such children is taken as one piece that means it, with the declarations in its tag (`ElementTaken`).
-- 5. By induction over elements, each child that fits is taken where all namespaces in it resolve (`child_taken`).
use Rattle.std.proofs.Common.{◌≡◌, ◌≢◌, ℕ, ◌+◌, Bool, true, false, not, List, [], ◌∷◌, ◌++◌, map, length, refl, ap, sym, ◌∙◌, subst, arith, append_assoc}
use Rattle.std.specs.Prelude.{◌==◌, codes, filter}
use Rattle.std.specs.List.{AllByRecursion, flat_map, concat, list_all, list_any}
use Rattle.std.proofs.lemmas.Bool.{false_from_ne_true}
use Rattle.std.proofs.lemmas.List.{append-nil}
use Rattle.std.proofs.lemmas.List.Folds.{flat_map-map}
use Rattle.ifmap_lemmas.specs.Items.{To}
use Rattle.ifmap_elem.specs.declared.elements.Attribute.{Attribute}
use Rattle.ifmap_elem.specs.declared.elements.Child.{Child, out-Child}
use Rattle.ifmap_elem.specs.declared.elements.Child as the
use Rattle.ifmap_elem.specs.declared.elements.Child.TheOpen.{Child-F}
use Rattle.ifmap_elem.specs.declared.elements.Element.{Element}
use Rattle.ifmap_elem.specs.declared.readings.Declared.{Declared}
use Rattle.ifmap_elem.specs.declared.tokens.Tag.{Tag}
use Rattle.ifmap_elem.specs.declared.tokens.Token.{Token}
use Rattle.ifmap_elem.specs.declared.tokens.Token.TheVariants.{Comment, Start, Empty, End, Section, Characters}
use Rattle.ifmap_elem.specs.Folds.{at_element, at_child_element, at_child_text, Each, each_child}
use Rattle.ifmap_elem.specs.Chars.{IsCharacters, is_white}
use Rattle.ifmap_elem.specs.Scopes.{Scope, AllDiffer, IsBinding, root_scope, scope_within}
use Rattle.ifmap_elem.specs.Tokens.{TakesToken, TakesTag, TakesText, EndsText}
use Rattle.ifmap_elem.specs.Document as piece
use Rattle.ifmap_elem.specs.Document.{Pieces, Nothing, tokens_of, ContentItem, Inner, Run, is_inner, join_runs, put_before, is_child, children_among, child_of, declared_here, declared_below, from_above, IsElement, AreItems, IsRoot, chain_pieces}
use Rattle.ifmap_elem.specs.laws.Roots.{chained_nothing}
use Rattle.ifmap_elem.specs.Escapes.{text_bytes}
use Rattle.ifmap_elem.specs.Fit.{IsFit, IsFitAlone, IsFitAttribute, AreFitChildren, HasCharacters, IsNotBlank, AreApart, is_element}
use Rattle.ifmap_elem.specs.Namespaces.{spaces_of, spaces_of_child, child_spaces, element_spaces}
use Rattle.ifmap_elem.specs.Canonical.{printed_name, declaration_bytes, attribute_bytes, after_attributes_bytes, element_of_parts, child_piece, element_piece, child_bytes, element_bytes}
use Rattle.ifmap_lemmas.specs.Numbers.{is_other}
use Rattle.ifmap_lemmas.specs.Members.{all_of_test, all_both}
use Rattle.ifmap_elem.specs.laws.NamespaceLaws.{PrefixRows}
use Rattle.ifmap_elem.specs.laws.PrintedTags.{row_binding, printed_tag, qualify_name, Resolves, FitsIn, FitRow, tag_taken, end_taken, text_taken, bindings_are, names_element}
use Rattle.ifmap_elem.specs.laws.FitLaws.{out_text, elements_of_child, elements_in, fit_parts}
use Rattle.ifmap_lemmas.specs.Lists.{concat_map}
use Rattle.ifmap_lemmas.specs.Runs.{to_both}
use Rattle.ifmap_elem.specs.laws.ArrangedLaws.{out_element}

-- contents after one another

tokens_chained : (c d : Pieces) → tokens_of (chain_pieces c d) ≡ tokens_of c ++ tokens_of d
tokens_chained Nothing d = refl
tokens_chained (piece.Comment after) d = ap (λ l. Comment ∷ l) (tokens_chained after d)
tokens_chained (piece.Characters blank text after) d = ap (λ l. Characters blank text ∷ l) (tokens_chained after d)
tokens_chained (piece.Section text after) d = ap (λ l. Section text ∷ l) (tokens_chained after d)
tokens_chained (piece.Empty tag after) d = ap (λ l. Empty tag ∷ l) (tokens_chained after d)
tokens_chained (piece.Start tag inside after) d =
    ap (λ l. Start tag ∷ (tokens_of inside ++ (End tag.name ∷ l))) (tokens_chained after d)
    ∙ ap (λ l. Start tag ∷ l) (sym (append_assoc (tokens_of inside) (End tag.name ∷ tokens_of after) (tokens_of d)))

means_chained : (scope : Scope) (c d : Pieces) (i j : List ContentItem) → AreItems scope c i → AreItems scope d j
    → AreItems scope (chain_pieces c d) (i ++ j)
means_chained scope Nothing d i j l m = subst (λ (x : List ContentItem). AreItems scope d (x ++ j)) (sym l) m
means_chained scope (piece.Comment after) d i j l m = means_chained scope after d i j l m
means_chained scope (piece.Characters blank text after) d i j l m =
    (l.0 ++ j, ap (λ x. x ++ j) l.1, means_chained scope after d l.0 j l.2 m)
means_chained scope (piece.Section text after) d i j l m = (l.0 ++ j, ap (λ x. x ++ j) l.1, means_chained scope after d l.0 j l.2 m)
means_chained scope (piece.Empty tag after) d i j l m =
    (l.0, l.1, l.2 ++ j, ap (λ x. x ++ j) l.3, l.4, means_chained scope after d l.2 j l.5 m)
means_chained scope (piece.Start tag inside after) d i j l m =
    (l.0, l.1, l.2, l.3 ++ j, ap (λ x. x ++ j) l.4, l.5, l.6, means_chained scope after d l.3 j l.7 m)

-- items that are children already

abbrev pub item_child : ContentItem → Child-F Child Element
item_child (Inner e declared) = Child-F.Element e
item_child (Run text) = Child-F.Text text

joined_apart : (items : List ContentItem) → AreApart (map item_child items) → join_runs items ≡ items
joined_apart [] a = refl
joined_apart (Inner e d ∷ items) a = ap (λ l. Inner e d ∷ l) (joined_apart items a)
joined_apart (Run t ∷ []) a = refl
joined_apart (Run t ∷ (Inner e d ∷ items)) a = ap (put_before t) (joined_apart (Inner e d ∷ items) a)
joined_apart (Run t ∷ (Run u ∷ items)) a = absurd a

some_length : (text : List ℕ) → text ≢ [] → not (length text == 0) ≡ true
some_length [] some = absurd (some refl)
some_length (b ∷ bs) some = ap not (is_other (length (b ∷ bs)) 0 (λ e. omega arith))

keeps : (beside : Bool) (item : ContentItem) → HasCharacters (item_child item) → (beside ≡ true → IsNotBlank (item_child item))
    → is_child beside item ≡ true
keeps beside (Inner e d) h b = refl
keeps true (Run t) h b = ap not (false_from_ne_true (list_all is_white t) (λ e. b refl (all_of_test is_white t e)))
keeps false (Run t) h b = some_length t h.0

all_kept : (beside : Bool) (items : List ContentItem) → AllByRecursion HasCharacters (map item_child items)
    → (beside ≡ true → AllByRecursion IsNotBlank (map item_child items))
    → filter (is_child beside) items ≡ items
all_kept beside [] h b = refl
all_kept beside (item ∷ items) h b =
    rw (keeps beside item h.0 (λ e. (b e).0)) (ap (λ l. item ∷ l) (all_kept beside items h.1 (λ e. (b e).1)))

any_inner : (items : List ContentItem) → list_any is_inner items ≡ list_any is_element (map item_child items)
any_inner [] = refl
any_inner (Inner e d ∷ items) = refl
any_inner (Run t ∷ items) = any_inner items

kept_all : (items : List ContentItem) → AreFitChildren (map item_child items) → children_among items ≡ items
kept_all items f =
    ap (filter (is_child (list_any is_inner items))) (joined_apart items f.apart)
    ∙ all_kept (list_any is_inner items) items f.texts (λ e. f.beside (sym (any_inner items) ∙ e))

-- children

-- an element begins with a tag
abbrev pub Begins : ContentItem → List ℕ → Type 0
Begins (Inner e declared) bytes = (rest : List ℕ) → EndsText (bytes ++ rest)
Begins (Run text) bytes = Unit {0}

-- after a text stands a tag
abbrev pub MayFollow : ContentItem → List ℕ → Type 0
MayFollow (Inner e declared) rest = Unit {0}
MayFollow (Run text) rest = EndsText rest

-- no declaration stands in an element
abbrev pub IsBare : ContentItem → Type 0
IsBare (Inner e declared) = declared ≡ []
IsBare (Run text) = Unit {0}

none_below : (index : ℕ) (items : List ContentItem) → AllByRecursion IsBare items → declared_below index items ≡ []
none_below index [] f = refl
none_below index (Inner e d ∷ items) f = (λ i. map (from_above index) (f.0 i) ++ none_below (index + 1) items f.1 i)
none_below index (Run text ∷ items) f = none_below (index + 1) items f.1

-- the printed child is tokens that mean it
pub record ChildTaken (prefixes : PrefixRows) (scope : Scope) (c : Child) : Type 0 where
  pub pieces : Pieces
  pub item : ContentItem
  pub lexed : (rest : List ℕ) → MayFollow item rest → To TakesToken (child_bytes prefixes c ++ rest) (tokens_of pieces) rest
  pub means : AreItems scope pieces (item ∷ [])
  pub is_child : child_of item ≡ c
  pub opened : item_child item ≡ out-Child c
  pub begins : Begins item (child_bytes prefixes c)
  pub bare : IsBare item

module _ (prefixes : PrefixRows) (scope : Scope) where
  abbrev items_of : (cs : List Child) → Each (ChildTaken prefixes scope) cs → List ContentItem
  items_of [] each = []
  items_of (c ∷ cs) each = each.0.item ∷ items_of cs each.1

  abbrev contents_of : (cs : List Child) → Each (ChildTaken prefixes scope) cs → Pieces
  contents_of [] each = Nothing
  contents_of (c ∷ cs) each = chain_pieces each.0.pieces (contents_of cs each.1)

  apart_tail : (x : Child-F Child Element) (xs : List (Child-F Child Element)) → AreApart (x ∷ xs) → AreApart xs
  apart_tail (Child-F.Element e) xs a = a
  apart_tail (Child-F.Text t) [] a = tt
  apart_tail (Child-F.Text t) (Child-F.Element e ∷ others) a = a
  apart_tail (Child-F.Text t) (Child-F.Text u ∷ others) a = absurd a

  follow_inner : (text : List ℕ) (item : ContentItem) (others : List (Child-F Child Element)) (bytes : List ℕ) → Begins item bytes
      → AreApart (Child-F.Text text ∷ (item_child item ∷ others))
      → (rest : List ℕ) → EndsText (bytes ++ rest)
  follow_inner text (Inner e d) others bytes b apart rest = b rest
  follow_inner text (Run t) others bytes b apart rest = absurd apart

  follows : (item : ContentItem) (cs : List Child) (each : Each (ChildTaken prefixes scope) cs) (rest : List ℕ) → EndsText rest
      → AreApart (item_child item ∷ map item_child (items_of cs each))
      → MayFollow item (flat_map (child_bytes prefixes) cs ++ rest)
  follows (Inner e d) cs each rest ends apart = tt
  follows (Run t) [] each rest ends apart = ends
  follows (Run t) (c ∷ cs) each rest ends apart =
      subst EndsText (sym (append_assoc (child_bytes prefixes c) (flat_map (child_bytes prefixes) cs) rest))
      (follow_inner t each.0.item (map item_child (items_of cs each.1)) (child_bytes prefixes c) each.0.begins apart
      (flat_map (child_bytes prefixes) cs ++ rest))

  children_lexed : (cs : List Child) (each : Each (ChildTaken prefixes scope) cs) (rest : List ℕ) → EndsText rest
      → AreApart (map item_child (items_of cs each))
      → To TakesToken (flat_map (child_bytes prefixes) cs ++ rest) (tokens_of (contents_of cs each)) rest
  children_lexed [] each rest ends apart = refl
  children_lexed (c ∷ cs) each rest ends apart =
      let remaining : List ℕ = flat_map (child_bytes prefixes) cs ++ rest in
      subst (λ (ts : List Token). To TakesToken ((child_bytes prefixes c ++ flat_map (child_bytes prefixes) cs) ++ rest) ts rest)
      (sym (tokens_chained each.0.pieces (contents_of cs each.1)))
      (subst (λ (b : List ℕ). To TakesToken b (tokens_of each.0.pieces ++ tokens_of (contents_of cs each.1)) rest)
      (sym (append_assoc (child_bytes prefixes c) (flat_map (child_bytes prefixes) cs) rest))
      (to_both TakesToken (child_bytes prefixes c ++ remaining) (tokens_of each.0.pieces) remaining (tokens_of (contents_of cs each.1)) rest
      (each.0.lexed remaining (follows each.0.item cs each.1 rest ends apart))
      (children_lexed cs each.1 rest ends (apart_tail (item_child each.0.item) (map item_child (items_of cs each.1)) apart))))

  children_mean : (cs : List Child) (each : Each (ChildTaken prefixes scope) cs) → AreItems scope (contents_of cs each) (items_of cs each)
  children_mean [] each = refl
  children_mean (c ∷ cs) each =
      means_chained scope each.0.pieces (contents_of cs each.1) (each.0.item ∷ []) (items_of cs each.1) each.0.means
      (children_mean cs each.1)

  children_are : (cs : List Child) (each : Each (ChildTaken prefixes scope) cs) → map child_of (items_of cs each) ≡ cs
  children_are [] each = refl
  children_are (c ∷ cs) each = (λ i. each.0.is_child i ∷ children_are cs each.1 i)

  items_bare : (cs : List Child) (each : Each (ChildTaken prefixes scope) cs) → AllByRecursion IsBare (items_of cs each)
  items_bare [] each = tt
  items_bare (c ∷ cs) each = (each.0.bare, items_bare cs each.1)

  children_opened : (cs : List Child) (each : Each (ChildTaken prefixes scope) cs) → map item_child (items_of cs each) ≡ map out-Child cs
  children_opened [] each = refl
  children_opened (c ∷ cs) each = (λ i. each.0.opened i ∷ children_opened cs each.1 i)

-- elements

-- the pieces are one element, which means this
abbrev pub IsOne : Scope → Pieces → Element → List Declared → Type 0
IsOne outer Nothing e d = ⊥
IsOne outer (piece.Comment after) e d = ⊥
IsOne outer (piece.Characters blank text after) e d = ⊥
IsOne outer (piece.Section text after) e d = ⊥
IsOne outer (piece.Empty tag after) e d = IsElement outer tag [] e d × (after ≡ Nothing)
IsOne outer (piece.Start tag inside after) e d =
    (inner : List ContentItem) × AreItems (scope_within outer tag) inside inner × IsElement outer tag inner e d × (after ≡ Nothing)

one_means : (outer : Scope) (c : Pieces) (e : Element) (d : List Declared) → IsOne outer c e d → AreItems outer c (Inner e d ∷ [])
one_means outer Nothing e d h = absurd h
one_means outer (piece.Comment after) e d h = absurd h
one_means outer (piece.Characters blank text after) e d h = absurd h
one_means outer (piece.Section text after) e d h = absurd h
one_means outer (piece.Empty tag after) e d h = (e, d, [], refl, h.0, subst (λ (a : Pieces). AreItems outer a []) (sym h.1) refl)
one_means outer (piece.Start tag inside after) e d h =
    (h.0, e, d, [], refl, h.1, h.2, subst (λ (a : Pieces). AreItems outer a []) (sym h.3) refl)

pub one_is_root : (c : Pieces) (e : Element) (d : List Declared) → IsOne root_scope c e d → IsRoot c (record { root = e; declared = d })
one_is_root c e d h = record {
  before = Nothing;
  element = c;
  after = Nothing;
  pieces_are = sym (chained_nothing c);
  margin_before = tt;
  means = one_means root_scope c e d h;
  margin_after = tt;
}

-- the printed element is tokens that mean it, with these declarations
pub record ElementTaken (outer : Scope) (bytes : List ℕ) (e : Element) (declared : List Declared) : Type 0 where
  pub pieces : Pieces
  pub lexed : (rest : List ℕ) → To TakesToken (bytes ++ rest) (tokens_of pieces) rest
  pub one : IsOne outer pieces e declared
  pub begins : (rest : List ℕ) → EndsText (bytes ++ rest)

tag_seam : (n d a c rest : List ℕ) → (codes "<" ++ (n ++ (d ++ (a ++ c)))) ++ rest ≡ codes "<" ++ (n ++ (d ++ (a ++ (c ++ rest))))
tag_seam n d a c rest = simp append_assoc

content_seam : (f n rest : List ℕ) → (codes ">" ++ (f ++ (codes "</" ++ (n ++ codes ">")))) ++ rest ≡ codes ">" ++ (f ++ (codes
    "</" ++ (n ++ (codes ">" ++ rest))))
content_seam f n rest = simp append_assoc

module _ (prefixes declared : PrefixRows) (outer : Scope) (e : Element) (fit : IsFitAlone e) (rows : AllByRecursion FitRow declared)
    (binds : AllByRecursion IsBinding (map row_binding declared))
    (once : AllDiffer (map (λ b. b.prefix) (map row_binding declared)))
    (named : Resolves prefixes (map row_binding declared ++ outer) e.name.space)
    (fits : AllByRecursion (FitsIn prefixes (map row_binding declared ++ outer)) e.attributes) where
  abbrev within_it : Scope
  within_it = map row_binding declared ++ outer

  abbrev its_tag : Tag
  its_tag = printed_tag prefixes declared e.name e.attributes

  abbrev its_start : List ℕ → List ℕ
  its_start end = codes "<" ++ (printed_name prefixes e.name ++ (flat_map declaration_bytes declared ++ (flat_map
      (attribute_bytes prefixes) e.attributes ++ end)))

  start_taken : (end : List ℕ) → TakesTag (its_start end) its_tag end
  start_taken end = tag_taken prefixes declared within_it e.name e.attributes end fit.name named rows fits

  its_children : (items : List ContentItem) → map child_of items ≡ e.children → map item_child items ≡ map out-Child e.children
      → AllByRecursion IsBare items → IsElement outer its_tag items e (declared_here (map row_binding declared))
  its_children items are opened bare = record {
    named = names_element prefixes declared outer e.name e.attributes binds once named fits fit.names_differ;
    children_are = sym are ∙ ap (map child_of) (sym (kept_all items (subst AreFitChildren (sym opened) fit.children)));
    declared_are =
        sym (append-nil (declared_here (map row_binding declared)))
        ∙ ap (λ l. declared_here (map row_binding declared) ++ l)
        (sym (ap (declared_below 0) (kept_all items (subst AreFitChildren (sym opened) fit.children)) ∙ none_below 0 items bare))
        ∙ ap (λ l. declared_here l ++ declared_below 0 (children_among items))
        (sym (bindings_are prefixes declared within_it e.name e.attributes fits));
  }

  abbrev its_bytes : List Child → List ℕ
  its_bytes cs = element_of_parts prefixes declared e.name e.attributes (map (child_bytes prefixes) cs)

  taken_by : (cs : List Child) → cs ≡ e.children → Each (ChildTaken prefixes within_it) cs
      → ElementTaken outer (its_bytes cs) e (declared_here (map row_binding declared))
  taken_by [] is each = record {
    pieces = piece.Empty its_tag Nothing;
    lexed = λ rest. (
      rest,
      subst (λ (b : List ℕ). TakesTag b its_tag (codes "/>" ++ rest))
          (sym (tag_seam (printed_name prefixes e.name) (flat_map declaration_bytes declared)
          (flat_map (attribute_bytes prefixes) e.attributes) (codes "/>") rest)) (start_taken (codes "/>" ++ rest)),
      refl,
    );
    one = (its_children [] is (ap (map out-Child) is) tt, refl);
    begins = λ rest. refl;
  }
  taken_by (c ∷ cs) is each = record {
    pieces = piece.Start its_tag (contents_of prefixes within_it (c ∷ cs) each) Nothing;
    lexed = λ rest. (
      flat_map (child_bytes prefixes) (c ∷ cs) ++ (codes "</" ++ (printed_name prefixes e.name ++ (codes ">" ++ rest))),
      subst (λ (b : List ℕ). TakesTag b its_tag (codes ">" ++ (flat_map (child_bytes prefixes)
          (c ∷ cs) ++ (codes "</" ++ (printed_name prefixes e.name ++ (codes ">" ++ rest)))))) (sym (seam rest))
          (start_taken (codes ">" ++ (flat_map (child_bytes prefixes)
          (c ∷ cs) ++ (codes "</" ++ (printed_name prefixes e.name ++ (codes ">" ++ rest)))))),
      to_both TakesToken (flat_map (child_bytes prefixes) (c ∷ cs) ++ (codes "</" ++ (printed_name prefixes e.name ++ (codes
          ">" ++ rest)))) (tokens_of (contents_of prefixes within_it (c ∷ cs) each))
          (codes "</" ++ (printed_name prefixes e.name ++ (codes ">" ++ rest))) (End (qualify_name prefixes e.name) ∷ []) rest
          (children_lexed prefixes within_it (c ∷ cs) each (codes "</" ++ (printed_name prefixes e.name ++ (codes ">" ++ rest))) refl apart)
          (rest, end_taken prefixes within_it e.name rest fit.name named, refl),
    );
    one = (
      items_of prefixes within_it (c ∷ cs) each,
      subst (λ (s : Scope). AreItems s (contents_of prefixes within_it (c ∷ cs) each) (items_of prefixes within_it (c ∷ cs) each))
          (sym within) (children_mean prefixes within_it (c ∷ cs) each),
      its_children (items_of prefixes within_it (c ∷ cs) each) (children_are prefixes within_it (c ∷ cs) each ∙ is) children_out
          (items_bare prefixes within_it (c ∷ cs) each),
      refl,
    );
    begins = λ rest. refl;
  }
    where
      children_out : map item_child (items_of prefixes within_it (c ∷ cs) each) ≡ map out-Child e.children
      children_out = children_opened prefixes within_it (c ∷ cs) each ∙ ap (map out-Child) is

      apart : AreApart (map item_child (items_of prefixes within_it (c ∷ cs) each))
      apart = subst AreApart (sym children_out) fit.children.apart

      within : scope_within outer its_tag ≡ within_it
      within = ap (λ l. l ++ outer) (bindings_are prefixes declared within_it e.name e.attributes fits)

      seam : (rest : List ℕ) → its_bytes (c ∷ cs) ++ rest ≡ its_start
          (codes ">" ++ (flat_map (child_bytes prefixes) (c ∷ cs) ++ (codes "</" ++ (printed_name prefixes e.name ++ (codes ">" ++ rest)))))
      seam rest =
          tag_seam (printed_name prefixes e.name) (flat_map declaration_bytes declared) (flat_map (attribute_bytes prefixes) e.attributes)
          (after_attributes_bytes (printed_name prefixes e.name) (map (child_bytes prefixes) (c ∷ cs))) rest
          ∙ ap its_start (content_seam (concat (map (child_bytes prefixes) (c ∷ cs))) (printed_name prefixes e.name) rest
          ∙ ap (λ f. codes ">" ++ (f ++ (codes "</" ++ (printed_name prefixes e.name ++ (codes ">" ++ rest)))))
          (concat_map (child_bytes prefixes) (c ∷ cs)))

  pub tagged_taken : Each (ChildTaken prefixes within_it) e.children
      → ElementTaken outer (its_bytes e.children) e (declared_here (map row_binding declared))
  tagged_taken each = taken_by e.children refl each

-- all in an element

abbrev pub space_of_attribute : Attribute → List ℕ
space_of_attribute a = a.name.space

pub spaces_is : (e : Element) → spaces_of e ≡ e.name.space ∷ (map space_of_attribute e.attributes ++ flat_map spaces_of_child e.children)
spaces_is e =
    at_element (List (List ℕ)) (List (List ℕ)) child_spaces element_spaces e
    ∙ ap (λ l. e.name.space ∷ (map space_of_attribute e.attributes ++ l))
    (flat_map-map (λ (s : List (List ℕ)). s) spaces_of_child e.children)

module _ (prefixes : PrefixRows) (scope : Scope) where
  abbrev TakesChild : Child → Type 0
  TakesChild c = AllByRecursion IsFitAlone (elements_of_child c) → HasCharacters (out-Child c)
      → AllByRecursion (Resolves prefixes scope) (spaces_of_child c) → ChildTaken prefixes scope c

  abbrev TakesElement : Element → Type 0
  TakesElement e = IsFit e → AllByRecursion (Resolves prefixes scope) (spaces_of e) → ElementTaken scope (element_bytes prefixes e) e []

  in_element : (e : Element) → TakesElement e → TakesChild (the.Element e)
  in_element e takes fit some resolved =
      let bytes : child_bytes prefixes (the.Element e) ≡ element_bytes prefixes e = at_child_element (List ℕ) (List ℕ)
      (child_piece prefixes) (element_piece prefixes) e in
      let spaces : spaces_of_child (the.Element e) ≡ spaces_of e = at_child_element (List (List ℕ))
      (List (List ℕ)) child_spaces element_spaces e in
      let t : ElementTaken scope (element_bytes prefixes e) e [] =
      takes (subst (AllByRecursion IsFitAlone) (elements_in e) fit) (subst (AllByRecursion (Resolves prefixes scope)) spaces resolved) in
      record {
        pieces = t.pieces;
        item = Inner e [];
        lexed = λ rest none. subst (λ (b : List ℕ). To TakesToken (b ++ rest) (tokens_of t.pieces) rest) (sym bytes) (t.lexed rest);
        means = one_means scope t.pieces e [] t.one;
        is_child = refl;
        opened = sym (out_element e);
        begins = λ rest. subst (λ (b : List ℕ). EndsText (b ++ rest)) (sym bytes) (t.begins rest);
        bare = refl;
      }

  in_text : (t : List ℕ) → TakesChild (the.Text t)
  in_text t fit some resolved =
      let bytes : child_bytes prefixes (the.Text t) ≡ text_bytes t = at_child_text (List ℕ) (List ℕ) (child_piece prefixes)
      (element_piece prefixes) t in
      let h : (t ≢ []) × IsCharacters t = subst HasCharacters (out_text t) some in
      record {
        pieces = piece.Characters (list_all is_white (text_bytes t)) t Nothing;
        item = Run t;
        lexed = λ rest ends. (
          rest,
          subst (λ (b : List ℕ). TakesText (b ++ rest) (list_all is_white (text_bytes t)) t rest) (sym bytes)
              (text_taken t rest h.0 h.1 ends),
          refl,
        );
        means = ([], refl, refl);
        is_child = refl;
        opened = sym (out_text t);
        begins = tt;
        bare = tt;
      }

  give_each : (cs : List Child) → Each TakesChild cs → AllByRecursion IsFitAlone (flat_map elements_of_child cs)
      → AllByRecursion HasCharacters (map out-Child cs)
      → AllByRecursion (Resolves prefixes scope) (flat_map spaces_of_child cs) → Each (ChildTaken prefixes scope) cs
  give_each [] each fit some resolved = tt
  give_each (c ∷ cs) each fit some resolved =
      let f = all_both IsFitAlone (elements_of_child c) (flat_map elements_of_child cs) fit in
      let r = all_both (Resolves prefixes scope) (spaces_of_child c) (flat_map spaces_of_child cs) resolved in
      (each.0 f.0 some.0 r.0, give_each cs each.1 f.1 some.1 r.1)

  pub fits_in : (attributes : List Attribute) → AllByRecursion IsFitAttribute attributes
      → AllByRecursion (Resolves prefixes scope) (map space_of_attribute attributes) → AllByRecursion (FitsIn prefixes scope) attributes
  fits_in [] f r = tt
  fits_in (a ∷ attributes) f r = (record { fit = f.0; resolved = r.0 }, fits_in attributes f.1 r.1)

  in_children : (e : Element) → Each TakesChild e.children → TakesElement e
  in_children e each fit resolved =
      let parts = fit_parts e fit in
      let r : AllByRecursion (Resolves prefixes scope) (e.name.space ∷
      (map space_of_attribute e.attributes ++ flat_map spaces_of_child e.children)) = subst (AllByRecursion (Resolves prefixes scope))
      (spaces_is e) resolved in
      let s = all_both (Resolves prefixes scope) (map space_of_attribute e.attributes) (flat_map spaces_of_child e.children) r.1 in
      subst (λ (b : List ℕ). ElementTaken scope b e []) (sym (at_element (List ℕ) (List ℕ) (child_piece prefixes)
      (element_piece prefixes) e))
      (tagged_taken prefixes [] scope e parts.0 tt tt tt r.0 (fits_in e.attributes parts.0.attributes s.0)
      (give_each e.children each parts.1 parts.0.children.texts s.1))

  pub child_taken : (c : Child) → TakesChild c
  child_taken = each_child TakesChild TakesElement in_element in_text in_children

  pub children_taken : (cs : List Child) → AllByRecursion IsFitAlone (flat_map elements_of_child cs)
      → AllByRecursion HasCharacters (map out-Child cs)
      → AllByRecursion (Resolves prefixes scope) (flat_map spaces_of_child cs) → Each (ChildTaken prefixes scope) cs
  children_taken cs = give_each cs (all_taken cs)
    where
      all_taken : (cs : List Child) → Each TakesChild cs
      all_taken [] = tt
      all_taken (c ∷ cs) = (child_taken c, all_taken cs)
