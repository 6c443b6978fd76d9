-- Pieces that are printed one after another, while namespaces are numbered.
-- Plan: (1) lists of namespaces that begin with one another; (2) a namespace that has its number keeps it, whatever is numbered
-- later (`numbered_stays`, `prefix_final`); (3) pieces: none, one and then another, bytes and then a piece, the same piece
-- otherwise said; (4) many pieces, one after another; (5) the pieces of an element: its name, an attribute, its content.
use Rattle.std.proofs.Common.{◌≡◌, ◌≢◌, ℕ, ◌+◌, ◌<◌, ◌≤◌, List, [], ◌∷◌, ◌++◌, map, take, length, get_or, Bool, true, Option, None, refl, ap, sym, ◌∙◌, subst, inl, inr, Bor, append_assoc}
use Rattle.std.proofs.lemmas.List.{take_all, append-nil}
use Rattle.std.proofs.lemmas.Bool.{cases_Bool}
use Rattle.std.specs.Prelude.{codes}
use Rattle.std.specs.List.{flat_map}
use Rattle.std.specs.Map.{lookup}
use Rattle.std.specs.Option.{is_some}
use Rattle.std.specs.Str.{bytes_eq}
use Rattle.ifmap_elem.specs.Folds.{at_child_element, at_child_text}
use Rattle.ifmap_elem.specs.Arranged.{arrange, arrange_child, sort_attributes}
use Rattle.ifmap_elem.specs.Canonical.{after_prefix, printed_name, declaration_bytes, written_bytes, attribute_bytes, after_attributes_bytes, child_piece, element_piece, child_bytes, element_bytes}
use Rattle.ifmap_elem.specs.Escapes.{text_bytes, value_bytes}
use Rattle.ifmap_elem.specs.Namespaces.{spaces_of, spaces_of_child, child_spaces, element_spaces, numbered_prefixes, name_prefixes, AddsSpaces, IsFront}
use Rattle.ifmap_elem.specs.printer.Pieces.{AreFinal, IsNumbered, Adds}
use Rattle.ifmap_elem.specs.Scopes.{xml_space}
use Rattle.ifmap_elem.specs.declared.elements.Name.{Name}
use Rattle.ifmap_elem.specs.declared.elements.Attribute.{Attribute}
use Rattle.ifmap_elem.specs.declared.elements.Child.{Child}
use Rattle.ifmap_elem.specs.declared.elements.Child as the
use Rattle.ifmap_elem.specs.declared.elements.Element.{Element}
use Rattle.ifmap_elem.specs.laws.ArrangedLaws.{arranged_in, arranged_text}
use Rattle.ifmap_elem.specs.laws.NamespaceLaws.{adds_none, adds_both}
use Rattle.ifmap_lemmas.specs.Texts.{eq_itself}
use Rattle.ifmap_lemmas.specs.Absent.{none_where_not_some}
use Rattle.ifmap_lemmas.specs.Runs.{flat_map-next}
use Rattle.ifmap_lemmas.specs.Joined.{joined_twice}
use Rattle.ifmap_elem.proofs.PrintedLaws.{content_written, element_is, root_printed, referred_attributes}
use Rattle.ifmap_elem.proofs.SpaceLaws.{spaces_arranged, adds_element, referred_spaces}
use Rattle.ifmap_elem.specs.laws.PrintedElements.{space_of_attribute}
use Rattle.std.proofs.lemmas.List.Concat.{flat_map_single}

abbrev Spaces : Type 0
Spaces = List (List ℕ)

abbrev PrefixRows : Type 0
PrefixRows = List (List ℕ × List ℕ)

pub front_same : (xs : Spaces) → IsFront xs xs
front_same xs = ([], sym (append-nil xs))

pub front_both : (a b c : Spaces) → IsFront a b → IsFront b c → IsFront a c
front_both a b c h k = (h.0 ++ k.0, k.1 ∙ ap (λ l. l ++ k.0) h.1 ∙ append_assoc a h.0 k.0)

pub final_before : (b c final : Spaces) → IsFront b c → AreFinal c final → AreFinal b final
final_before b c final h f = record { begins = front_both b c final h f.begins; none_bare = f.none_bare }

row_stays : (p : List ℕ → Bool) (letter : List ℕ) (n : ℕ) (xs ys : Spaces) → is_some (lookup p (numbered_prefixes letter n xs)) ≡ true
    → lookup p (numbered_prefixes letter n (xs ++ ys)) ≡ lookup p (numbered_prefixes letter n xs)
row_stays p letter n [] ys some = cc
row_stays p letter n (x ∷ xs) ys some = elim (cases_Bool (p x)) [
  | inl e ↦ rw e refl
  | inr e ↦ rw e (row_stays p letter (n + 1) xs ys (rw e at some))
]

-- a prefix stays the same when more namespaces are numbered
pub prefix_stays : (s : List ℕ) (xs ys : Spaces) → is_some (lookup (bytes_eq s) (name_prefixes xs)) ≡ true
    → lookup (bytes_eq s) (name_prefixes (xs ++ ys)) ≡ lookup (bytes_eq s) (name_prefixes xs)
prefix_stays s xs ys some = elim (cases_Bool (bytes_eq s xml_space)) [
  | inl e ↦ rw e refl
  | inr e ↦ rw e (row_stays (bytes_eq s) (codes "n") 1 xs ys (rw e at some))
]

-- what has no prefix in the end has none before
none_before : (s : List ℕ) (xs ys : Spaces) → lookup (bytes_eq s) (name_prefixes (xs ++ ys)) ≡ None
    → lookup (bytes_eq s) (name_prefixes xs) ≡ None
none_before s xs ys none = elim (cases_Bool (is_some (lookup (bytes_eq s) (name_prefixes xs)))) [
  | inl e ↦ sym (prefix_stays s xs ys e) ∙ none
  | inr e ↦ none_where_not_some (lookup (bytes_eq s) (name_prefixes xs)) e
]

pub numbered_stays : (xs final : Spaces) (s : List ℕ) → IsNumbered xs s → AreFinal xs final
    → lookup (bytes_eq s) (name_prefixes final) ≡ lookup (bytes_eq s) (name_prefixes xs)
numbered_stays xs final s (inl e) f =
    let bare : lookup (bytes_eq []) (name_prefixes xs) ≡ None = none_before [] xs f.begins.0
    (ap (λ l. lookup (bytes_eq []) (name_prefixes l)) (sym f.begins.1) ∙ f.none_bare) in
    subst (λ t. lookup (bytes_eq t) (name_prefixes final) ≡ lookup (bytes_eq t) (name_prefixes xs)) (sym e) (f.none_bare ∙ sym bare)
numbered_stays xs final s (inr some) f = ap (λ l. lookup (bytes_eq s) (name_prefixes l)) f.begins.1 ∙ prefix_stays s xs f.begins.0 some

-- the prefix of a namespace that is numbered is its prefix in the end
pub prefix_final : (xs : Spaces) (s : List ℕ) (prefix : Option (List ℕ)) → IsNumbered xs s → prefix ≡ lookup (bytes_eq s) (name_prefixes xs)
    → (final : Spaces) → AreFinal xs final → prefix ≡ lookup (bytes_eq s) (name_prefixes final)
prefix_final xs s prefix n is final f = is ∙ sym (numbered_stays xs final s n f)

pub numbered_later : (xs ys : Spaces) (s : List ℕ) → IsFront xs ys → IsNumbered xs s → IsNumbered ys s
numbered_later xs ys s h (inl e) = inl e
numbered_later xs ys s h (inr some) =
    inr (subst (λ l. is_some (lookup (bytes_eq s) (name_prefixes l)) ≡ true) (sym h.1) (ap is_some (prefix_stays s xs h.0 some) ∙ some))

row_new : (letter : List ℕ) (n : ℕ) (xs : Spaces) (s : List ℕ)
    → is_some (lookup (bytes_eq s) (numbered_prefixes letter n (xs ++ s ∷ []))) ≡ true
row_new letter n [] s = let e = eq_itself s in rw e refl
row_new letter n (x ∷ xs) s = elim (cases_Bool (bytes_eq s x)) [
  | inl e ↦ rw e refl
  | inr e ↦ rw e (row_new letter (n + 1) xs s)
]

prefix_new : (xs : Spaces) (s : List ℕ) → is_some (lookup (bytes_eq s) (name_prefixes (xs ++ s ∷ []))) ≡ true
prefix_new xs s = elim (cases_Bool (bytes_eq s xml_space)) [
  | inl e ↦ rw e refl
  | inr e ↦ rw e (row_new (codes "n") 1 xs s)
]

pub numbered_new : (xs ys : Spaces) (s : List ℕ) → ys ≡ xs ++ s ∷ [] → IsNumbered ys s
numbered_new xs ys s is = inr (subst (λ l. is_some (lookup (bytes_eq s) (name_prefixes l)) ≡ true) (sym is) (prefix_new xs s))

-- nothing
pub adds_no_piece : (a : Spaces) (s : List ℕ) → Adds a [] a (λ rows. []) s s
adds_no_piece a s = record { added = adds_none a; extends = front_same a; written = λ final f. sym (append-nil s) }

-- one piece and then another
pub adds_two : (a b c xs ys : Spaces) (p q : PrefixRows → List ℕ) (s t u : List ℕ) → Adds a xs b p s t → Adds b ys c q t u
    → Adds a (xs ++ ys) c (λ rows. p rows ++ q rows) s u
adds_two a b c xs ys p q s t u h k = record {
  added = adds_both a b c xs ys h.added k.added;
  extends = front_both a b c h.extends k.extends;
  written = λ final f. k.written final f ∙ ap (λ l. l ++ q (name_prefixes final)) (h.written final (final_before b c final k.extends f))
      ∙ append_assoc s (p (name_prefixes final)) (q (name_prefixes final));
}

-- bytes and then a piece
adds_before : (a b xs : Spaces) (x : List ℕ) (p : PrefixRows → List ℕ) (s t u : List ℕ) → t ≡ s ++ x → Adds a xs b p t u
    → Adds a xs b (λ rows. x ++ p rows) s u
adds_before a b xs x p s t u is h = record {
  added = h.added;
  extends = h.extends;
  written = λ final f. h.written final f ∙ ap (λ l. l ++ p (name_prefixes final)) is ∙ append_assoc s x (p (name_prefixes final));
}

-- the same piece, otherwise said
pub adds_as : (a b xs ys : Spaces) (p q : PrefixRows → List ℕ) (s t : List ℕ) → xs ≡ ys → ((rows : PrefixRows) → p rows ≡ q rows)
    → Adds a xs b p s t
    → Adds a ys b q s t
adds_as a b xs ys p q s t e f h = record {
  added = subst (λ l. AddsSpaces a l b) e h.added;
  extends = h.extends;
  written = λ final g. h.written final g ∙ ap (λ l. s ++ l) (f (name_prefixes final));
}

-- one piece more
pub pieces_next : {X : Type 0} (f : X → Spaces) (g : PrefixRows → X → List ℕ) (xs : List X) (i : ℕ) (x : X) (a b c : Spaces)
    (s t u : List ℕ)
    → i < length xs → x ≡ get_or xs i x
    → Adds a (flat_map f (take i xs)) b (λ rows. flat_map (g rows) (take i xs)) s t → Adds b (f x) c (λ rows. g rows x) t u
    → Adds a (flat_map f (take (i + 1) xs)) c (λ rows. flat_map (g rows) (take (i + 1) xs)) s u
pieces_next f g xs i x a b c s t u l is h k =
    adds_as a c (flat_map f (take i xs) ++ f x) (flat_map f (take (i + 1) xs)) (λ rows. flat_map (g rows) (take i xs) ++ g rows x)
    (λ rows. flat_map (g rows) (take (i + 1) xs)) s u
    (flat_map-next f xs i x l is) (λ rows. flat_map-next (g rows) xs i x l is)
    (adds_two a b c (flat_map f (take i xs)) (f x) (λ rows. flat_map (g rows) (take i xs)) (λ rows. g rows x) s t u h k)

-- all pieces, each of one namespace
pub pieces_all : {X : Type 0} (f : X → List ℕ) (g : PrefixRows → X → List ℕ) (xs ys : List X) (i : ℕ) (a b : Spaces) (s t : List ℕ)
    → length xs ≤ i → xs ≡ ys
    → Adds a (flat_map (λ x. f x ∷ []) (take i xs)) b (λ rows. flat_map (g rows) (take i xs)) s t
    → Adds a (map f ys) b (λ rows. flat_map (g rows) ys) s t
pieces_all f g xs ys i a b s t l e h =
    let all = take_all i xs l ∙ e in
    adds_as a b (flat_map (λ x. f x ∷ []) (take i xs)) (map f ys) (λ rows. flat_map (g rows) (take i xs)) (λ rows. flat_map (g rows) ys) s t
    (ap (flat_map (λ x. f x ∷ [])) all ∙ flat_map_single f ys) (λ rows. ap (flat_map (g rows)) all) h

pub pieces_referred : (rs ss : List (Bor Attribute)) (attributes : List Attribute) (i : ℕ) (a b : Spaces) (s t : List ℕ) → length rs ≤ i
    → rs ≡ ss → map (λ (r : Bor Attribute). r.now) ss ≡ attributes
    → Adds a (flat_map (λ (r : Bor Attribute). r.now.name.space ∷ []) (take i rs)) b
    (λ rows. flat_map (λ (r : Bor Attribute). attribute_bytes rows r.now) (take i rs)) s t
    → Adds a (map space_of_attribute attributes) b (λ rows. flat_map (attribute_bytes rows) attributes) s t
pieces_referred rs ss attributes i a b s t l e f h =
    adds_as a b (map (λ (r : Bor Attribute). r.now.name.space) ss) (map space_of_attribute attributes)
    (λ rows. flat_map (λ (r : Bor Attribute). attribute_bytes rows r.now) ss) (λ rows. flat_map (attribute_bytes rows) attributes) s t
    (referred_spaces ss ∙ ap (map space_of_attribute) f) (λ rows. referred_attributes rows ss ∙ ap (flat_map (attribute_bytes rows)) f)
    (pieces_all (λ (r : Bor Attribute). r.now.name.space) (λ rows (r : Bor Attribute). attribute_bytes rows r.now) rs ss i a b s t l e h)

pub piece_name : (a b : Spaces) (name : Name) (prefix : Option (List ℕ)) (s t : List ℕ) → AddsSpaces a (name.space ∷ []) b → IsFront a b
    → IsNumbered b name.space
    → prefix ≡ lookup (bytes_eq name.space) (name_prefixes b) → t ≡ s ++ after_prefix prefix name.local
    → Adds a (name.space ∷ []) b (λ rows. printed_name rows name) s t
piece_name a b name prefix s t h k n p is = record {
  added = h;
  extends = k;
  written = λ final f. is ∙ ap (λ x. s ++ after_prefix x name.local) (p ∙ sym (numbered_stays b final name.space n f));
}

pub piece_attribute : (attribute : Attribute) (a b : Spaces) (s t u v w x : List ℕ) → t ≡ s ++ codes " "
    → Adds a (attribute.name.space ∷ []) b (λ rows. printed_name rows attribute.name) t u
    → v ≡ u ++ codes "=\"" → w ≡ v ++ value_bytes attribute.value → x ≡ w ++ codes "\""
    → Adds a (attribute.name.space ∷ []) b (λ rows. attribute_bytes rows attribute) s x
piece_attribute attribute a b s t u v w x p h q r z = record {
  added = h.added;
  extends = h.extends;
  written = λ final f.
      joined_twice s t x (codes " ") _ p
      (joined_twice t u x (printed_name (name_prefixes final) attribute.name) _ (h.written final f)
      (joined_twice u v x (codes "=\"") _ q (joined_twice v w x (value_bytes attribute.value) (codes "\"") r z)));
}

pub piece_content : (f : Child → Spaces) (g : PrefixRows → Child → List ℕ) (children : List Child) (name : Name) (prefix : Option (List ℕ))
    (a b : Spaces) (s t u v w x : List ℕ) → length children ≢ 0
    → t ≡ s ++ codes ">" → Adds a (flat_map f children) b (λ rows. flat_map (g rows) children) t u → v ≡ u ++ codes "</"
    → ((final : Spaces) → AreFinal a final → prefix ≡ lookup (bytes_eq name.space) (name_prefixes final))
    → w ≡ v ++ after_prefix prefix name.local → x ≡ w ++ codes ">"
    → Adds a (flat_map f children) b (λ rows. after_attributes_bytes (printed_name rows name) (map (g rows) children)) s x
piece_content f g children name prefix a b s t u v w x some p h q e r z = record {
  added = h.added;
  extends = h.extends;
  written = λ final fin.
      content_written (g (name_prefixes final)) children (printed_name (name_prefixes final) name) s t u v w x some p
      (h.written final fin) q
      (r ∙ ap (λ o. v ++ after_prefix o name.local) (e final (final_before a b final h.extends fin))) z;
}

pub piece_no_content : (f : Child → Spaces) (g : PrefixRows → Child → List ℕ) (children : List Child) (name : Name) (a : Spaces)
    (s t : List ℕ)
    → children ≡ [] → t ≡ s ++ codes "/>"
    → Adds a (flat_map f children) a (λ rows. after_attributes_bytes (printed_name rows name) (map (g rows) children)) s t
piece_no_content f g children name a s t none is =
    subst (λ (cs : List Child). Adds a (flat_map f cs) a (λ rows. after_attributes_bytes (printed_name rows name) (map (g rows) cs)) s t)
    (sym none)
    (record { added = adds_none a; extends = front_same a; written = λ final fin. is })

pub piece_element : (e : Element) (a b c d : Spaces) (s t u v w : List ℕ) → t ≡ s ++ codes "<"
    → Adds a (e.name.space ∷ []) b (λ rows. printed_name rows e.name) t u
    → Adds b (map space_of_attribute (sort_attributes e.attributes)) c (λ rows. flat_map (attribute_bytes rows) (sort_attributes
    e.attributes)) u v
    → Adds c (flat_map (λ x. spaces_of_child (arrange_child x)) e.children) d
    (λ rows. after_attributes_bytes (printed_name rows e.name) (map (λ x. child_bytes rows (arrange_child x)) e.children)) v w
    → Adds a (spaces_of (arrange e)) d (λ rows. element_bytes rows (arrange e)) s w
piece_element e a b c d s t u v w is name attributes content =
    adds_as a d (e.name.space ∷ (map space_of_attribute (sort_attributes e.attributes) ++ flat_map
    (λ x. spaces_of_child (arrange_child x)) e.children)) (spaces_of (arrange e))
    (λ rows. codes "<" ++ (printed_name rows e.name ++ (flat_map (attribute_bytes rows)
    (sort_attributes e.attributes) ++ after_attributes_bytes (printed_name rows e.name)
    (map (λ x. child_bytes rows (arrange_child x)) e.children))))
    (λ rows. element_bytes rows (arrange e)) s w (sym (spaces_arranged e)) (λ rows. sym (element_is rows e))
    (adds_before a d _ (codes "<") _ s t w is (adds_two a b d _ _ _ _ t u w name (adds_two b c d _ _ _ _ u v w attributes content)))

pub piece_child : (e : Element) (child : Child) (a b : Spaces) (s t : List ℕ) → child ≡ the.Element e
    → Adds a (spaces_of (arrange e)) b (λ rows. element_bytes rows (arrange e)) s t
    → Adds a (spaces_of_child (arrange_child child)) b (λ rows. child_bytes rows (arrange_child child)) s t
piece_child e child a b s t is h =
    adds_as a b (spaces_of (arrange e)) (spaces_of_child (arrange_child child)) (λ rows. element_bytes rows (arrange e))
    (λ rows. child_bytes rows (arrange_child child)) s t
    (sym (ap (λ x. spaces_of_child (arrange_child x)) is ∙ ap spaces_of_child (arranged_in e)
    ∙ at_child_element Spaces Spaces child_spaces element_spaces (arrange e)))
    (λ rows. sym (ap (λ x. child_bytes rows (arrange_child x)) is ∙ ap (child_bytes rows) (arranged_in e)
    ∙ at_child_element (List ℕ) (List ℕ) (child_piece rows) (element_piece rows) (arrange e))) h

pub piece_text : (text : List ℕ) (child : Child) (a : Spaces) (s t : List ℕ) → child ≡ the.Text text → t ≡ s ++ text_bytes text
    → Adds a (spaces_of_child (arrange_child child)) a (λ rows. child_bytes rows (arrange_child child)) s t
piece_text text child a s t is e =
    adds_as a a [] (spaces_of_child (arrange_child child)) (λ rows. text_bytes text) (λ rows. child_bytes rows (arrange_child child)) s t
    (sym (ap (λ x. spaces_of_child (arrange_child x)) is ∙ ap spaces_of_child (arranged_text text)
    ∙ at_child_text Spaces Spaces child_spaces element_spaces text))
    (λ rows. sym (ap (λ x. child_bytes rows (arrange_child x)) is ∙ ap (child_bytes rows) (arranged_text text)
    ∙ at_child_text (List ℕ) (List ℕ) (child_piece rows) (element_piece rows) text))
    (record { added = adds_none a; extends = front_same a; written = λ final f. e })

-- the root, whose attributes and content are printed first and stand after its declarations
pub piece_root : (element : Element) (given first a b all listed : Spaces) (prefix : Option (List ℕ)) (i j k inside s t u v w x : List ℕ)
    → first ≡ [] → AddsSpaces first (element.name.space ∷ []) a → i ≡ []
    → Adds a (map space_of_attribute (sort_attributes element.attributes)) b
    (λ rows. flat_map (attribute_bytes rows) (sort_attributes element.attributes)) i j
    → Adds b (flat_map (λ c. spaces_of_child (arrange_child c)) element.children) all
    (λ rows. after_attributes_bytes (printed_name rows element.name)
    (map (λ c. child_bytes rows (arrange_child c)) element.children)) j k
    → lookup (bytes_eq []) (name_prefixes all) ≡ None → prefix ≡ lookup (bytes_eq element.name.space) (name_prefixes all) → listed ≡ all
    → inside ≡ k
    → s ≡ [] → t ≡ s ++ codes "<" → u ≡ t ++ after_prefix prefix element.name.local
    → v ≡ u ++ flat_map declaration_bytes (numbered_prefixes (codes "n") 1 listed)
    → w ≡ v ++ flat_map declaration_bytes (numbered_prefixes (codes "f") 1 given) → x ≡ w ++ inside → x ≡ written_bytes element given
piece_root element given first a b all listed prefix i j k inside s t u v w x none name empty attributes content bare named are is new p q
    r z after =
    let final : AreFinal all all = record { begins = front_same all; none_bare = bare } in
    let tag = flat_map (attribute_bytes (name_prefixes all)) (sort_attributes element.attributes) in
    let rest = after_attributes_bytes (printed_name (name_prefixes all) element.name)
    (map (λ c. child_bytes (name_prefixes all) (arrange_child c)) element.children) in
    let printed : k ≡ tag ++ rest =
    joined_twice i j k tag rest (attributes.written all (final_before b all all content.extends final)) (content.written all final)
    ∙ ap (λ l. l ++ (tag ++ rest)) empty in
    root_printed element given all t u v w (w ++ tag) x (adds_element element first a b all name attributes.added content.added [] none)
    (p ∙ ap (λ l. l ++ codes "<") new) (q ∙ ap (λ o. t ++ after_prefix o element.name.local) named)
    (r ∙ ap (λ (l : Spaces). u ++ flat_map declaration_bytes (numbered_prefixes (codes "n") 1 l)) are) z refl
    (after ∙ ap (λ l. w ++ l) (is ∙ printed) ∙ sym (append_assoc w tag rest))
