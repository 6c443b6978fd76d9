-- The canonical bytes of an element that fits spell the element with its attributes in order, and tell elements apart.
use Rattle.std.proofs.Common.{◌≡◌, ◌↔◌, ℕ, Bool, false, IsTrue, List, [], ◌∷◌, ◌++◌, map, refl, ap, sym, ◌∙◌, subst, arith}
use Rattle.std.specs.Prelude.{Result, Ok, Err, IfOk}
use Rattle.std.specs.List.{AllByRecursion, flat_map}
use Rattle.std.proofs.lemmas.List.{append-nil}
use Rattle.ifmap_lemmas.specs.Items.{To}
use Rattle.ifmap_elem.specs.declared.elements.Attribute.{Attribute}
use Rattle.ifmap_elem.specs.declared.elements.Child.{Child}
use Rattle.ifmap_elem.specs.declared.elements.Child as the
use Rattle.ifmap_elem.specs.declared.elements.Element.{Element}
use Rattle.ifmap_elem.specs.declared.readings.Declared.{Declared}
use Rattle.ifmap_elem.specs.declared.readings.Reading.{Reading}
use Rattle.std.proofs.lemmas.Simd.{map-map}
use Rattle.std.specs.Str.{byte}
use Rattle.ifmap_elem.specs.Folds.{at_child_element, at_child_text, Each, by_children}
use Rattle.ifmap_elem.specs.Arranged.{arrange, IsSame}
use Rattle.ifmap_elem.specs.Canonical.{root_bytes, written_bytes, canonical_bytes, root_declarations, written_reading, canonical_reading}
use Rattle.ifmap_elem.specs.Document.{tokens_of, declared_here}
use Rattle.ifmap_elem.specs.Fit.{IsFit, IsFitAlone, IsFitAttribute, IsNamespace, IsDeclarable}
use Rattle.ifmap_elem.specs.Namespaces.{spaces_of, spaces_of_child, child_spaces, element_spaces, namespaces, name_prefixes}
use Rattle.ifmap_elem.specs.Scopes.{Scope, Binding, IsBinding, root_scope}
use Rattle.ifmap_elem.specs.Spells.{Spells, without_byte_order_mark}
use Rattle.ifmap_elem.specs.Tokens.{TakesToken}
use Rattle.ifmap_elem.specs.laws.FitLaws.{elements_of_child, elements_in, fit_parts, fit_arranged}
use Rattle.ifmap_lemmas.specs.Members.{all_both, both_all}
use Rattle.ifmap_elem.specs.laws.OneReading.{one_reading}
use Rattle.ifmap_elem.specs.laws.NamespaceLaws.{PrefixRows, Texts}
use Rattle.ifmap_elem.specs.laws.PrintedTags.{row_binding, Resolves, FitRow}
use Rattle.ifmap_elem.specs.laws.PrintedScopes.{n_letter, f_letter, numbered_prefix_rows, with_numbered_prefixes, root_outermost, rows_outermost, all_resolved, are_declared, rows_fit, rows_are_bindings, prefixes_differ, both_differ}
use Rattle.ifmap_elem.specs.laws.PrintedElements.{ElementTaken, tagged_taken, children_taken, fits_in, spaces_is, one_is_root, space_of_attribute}

-- all namespaces of an element that fits can be declared

abbrev HasNamespaces : Child → Type 0
HasNamespaces c = AllByRecursion IsFitAlone (elements_of_child c) → AllByRecursion IsNamespace (spaces_of_child c)

attribute_spaces : (attributes : List Attribute) → AllByRecursion IsFitAttribute attributes
    → AllByRecursion IsNamespace (map space_of_attribute attributes)
attribute_spaces [] f = tt
attribute_spaces (a ∷ attributes) f = (f.0.name.space, attribute_spaces attributes f.1)

children_spaces : (cs : List Child) → Each HasNamespaces cs → AllByRecursion IsFitAlone (flat_map elements_of_child cs)
    → AllByRecursion IsNamespace (flat_map spaces_of_child cs)
children_spaces [] each f = tt
children_spaces (c ∷ cs) each f =
    let parts = all_both IsFitAlone (elements_of_child c) (flat_map elements_of_child cs) f in
    both_all IsNamespace (spaces_of_child c) (flat_map spaces_of_child cs) (each.0 parts.0) (children_spaces cs each.1 parts.1)

fit_spaces : (e : Element) → IsFit e → AllByRecursion IsNamespace (spaces_of e)
fit_spaces = by_children HasNamespaces (λ e. IsFit e → AllByRecursion IsNamespace (spaces_of e)) in_element in_text in_children
  where
    in_element : (e : Element) → (IsFit e → AllByRecursion IsNamespace (spaces_of e)) → HasNamespaces (the.Element e)
    in_element e q f =
        subst (AllByRecursion IsNamespace) (sym (at_child_element (List (List ℕ)) (List (List ℕ)) child_spaces element_spaces e))
        (q (subst (AllByRecursion IsFitAlone) (elements_in e) f))

    in_text : (t : List ℕ) → HasNamespaces (the.Text t)
    in_text t f = subst (AllByRecursion IsNamespace) (sym (at_child_text (List (List ℕ)) (List (List ℕ)) child_spaces element_spaces t)) tt

    in_children : (e : Element) → Each HasNamespaces e.children → IsFit e → AllByRecursion IsNamespace (spaces_of e)
    in_children e each f =
        let parts = fit_parts e f in
        let h : AllByRecursion IsNamespace (e.name.space ∷ (map space_of_attribute e.attributes ++ flat_map spaces_of_child e.children)) = (
          parts.0.name.space,
          both_all IsNamespace (map space_of_attribute e.attributes) (flat_map spaces_of_child e.children)
              (attribute_spaces e.attributes parts.0.attributes) (children_spaces e.children each parts.1),
        ) in
        subst (AllByRecursion IsNamespace) (sym (spaces_is e)) h

-- the root

abbrev its_rows : Element → Texts → PrefixRows
its_rows e given = numbered_prefix_rows (byte "n") 1 (namespaces e) ++ numbered_prefix_rows (byte "f") 1 given

rows_seam : (rows more : PrefixRows) (scope : Scope) → map row_binding
    (rows ++ more) ++ scope ≡ map row_binding rows ++ (map row_binding more ++ scope)
rows_seam [] more scope = refl
rows_seam (row ∷ rows) more scope = ap (λ l. row_binding row ∷ l) (rows_seam rows more scope)

bindings_both : (rows more : PrefixRows) → AllByRecursion IsBinding (map row_binding rows) → AllByRecursion IsBinding (map row_binding more)
    → AllByRecursion IsBinding (map row_binding (rows ++ more))
bindings_both [] more f g = g
bindings_both (row ∷ rows) more f g = (f.0, bindings_both rows more f.1 g)

root_taken : (e : Element) (given : Texts) → IsFit e → AllByRecursion IsDeclarable given
    → ElementTaken root_scope (root_bytes (numbered_prefix_rows (byte "f") 1 given) e) e (declared_here (map row_binding (its_rows e
    given)))
root_taken e given fit can =
    let prefixes : PrefixRows = name_prefixes (namespaces e) in
    let scope : Scope = map row_binding (its_rows e given) ++ root_scope in
    let parts = fit_parts e fit in
    let spaces : AllByRecursion IsDeclarable (namespaces e) = are_declared (spaces_of e) (fit_spaces e fit) in
    let more : Scope = with_numbered_prefixes (byte "f") 1 given root_scope in
    let all : AllByRecursion (Resolves prefixes scope) (spaces_of e) =
    subst (λ (s : Scope). AllByRecursion (Resolves prefixes s) (spaces_of e))
    (sym (rows_seam (numbered_prefix_rows (byte "n") 1 (namespaces e)) (numbered_prefix_rows (byte "f") 1 given) root_scope))
    (all_resolved (spaces_of e) more (rows_outermost (byte "f") 1 given root_scope f_letter root_outermost)) in
    let r : AllByRecursion (Resolves prefixes scope) (e.name.space ∷
    (map space_of_attribute e.attributes ++ flat_map spaces_of_child e.children)) = subst (AllByRecursion (Resolves prefixes scope))
    (spaces_is e) all in
    let s = all_both (Resolves prefixes scope) (map space_of_attribute e.attributes) (flat_map spaces_of_child e.children) r.1 in
    tagged_taken prefixes (its_rows e given) root_scope e parts.0
    (both_all FitRow (numbered_prefix_rows (byte "n") 1 (namespaces e)) (numbered_prefix_rows (byte "f") 1 given)
    (rows_fit (byte "n") n_letter 1 (namespaces e) spaces) (rows_fit (byte "f") f_letter 1 given can))
    (bindings_both (numbered_prefix_rows (byte "n") 1 (namespaces e)) (numbered_prefix_rows (byte "f") 1 given)
    (rows_are_bindings (byte "n") n_letter 1 (namespaces e) spaces) (rows_are_bindings (byte "f") f_letter 1 given can))
    (both_differ (byte "n") (byte "f") 1 1 (namespaces e) given (λ q. absurd (omega arith))
    (prefixes_differ (byte "n") n_letter 1 (namespaces e)) (prefixes_differ (byte "f") f_letter 1 given))
    r.0 (fits_in prefixes scope e.attributes parts.0.attributes s.0)
    (children_taken prefixes scope e.children parts.1 parts.0.children.texts s.1)

taken_spells : (e : Element) (bytes : List ℕ) (declared : List Declared) → without_byte_order_mark bytes ≡ bytes
    → ElementTaken root_scope bytes e declared
    → Spells bytes (record { root = e; declared = declared })
taken_spells e bytes declared marked t = record {
  tokens = tokens_of t.pieces;
  lexed = subst (λ (b : List ℕ). To TakesToken b (tokens_of t.pieces) []) (append-nil bytes ∙ sym marked) (t.lexed []);
  document = record { declared = false; pieces = t.pieces; tokens_are = refl; rooted = one_is_root t.pieces e declared t.one };
}

-- the element as it stands, printed as a root, is spelled by its bytes, with the declarations of its rows
pub root_spelled : (e : Element) (given : Texts) → IsFit e → AllByRecursion IsDeclarable given
    → Spells (root_bytes (numbered_prefix_rows (byte "f") 1 given) e) (record { root = e; declared = root_declarations (its_rows e given) })
root_spelled e given fit can =
    subst (λ (d : List Declared). Spells (root_bytes (numbered_prefix_rows (byte "f") 1 given) e) (record { root = e; declared = d }))
    (map-map (λ (b : Binding). record { path = []; prefix = b.prefix; space = b.space }) row_binding (its_rows e given))
    (taken_spells e (root_bytes (numbered_prefix_rows (byte "f") 1 given) e) (declared_here (map row_binding (its_rows e given))) refl
    (root_taken e given fit can))

pub written_spelled : (e : Element) (given : Texts) → IsFit e → AllByRecursion IsDeclarable given
    → Spells (written_bytes e given) (written_reading e given)
written_spelled e given fit can = root_spelled (arrange e) given (fit_arranged e fit) can

pub canonical_spelled : (e : Element) → IsFit e → Spells (canonical_bytes e) (canonical_reading e)
canonical_spelled e fit = written_spelled e [] fit tt

-- elements that fit are printed alike just where they are the same but for the order of attributes
pub alike_when_same : (a b : Element) → IsSame a b → canonical_bytes a ≡ canonical_bytes b
alike_when_same a b same = ap (root_bytes []) same

pub same_when_alike : (a b : Element) → IsFit a → IsFit b → canonical_bytes a ≡ canonical_bytes b → IsSame a b
same_when_alike a b fit also alike =
    let mine : Spells (canonical_bytes b) (canonical_reading a) = subst (λ (bytes : List ℕ). Spells bytes (canonical_reading a)) alike
    (canonical_spelled a fit) in
    ap (λ (r : Reading). r.root) (one_reading (canonical_bytes b) (canonical_reading a) (canonical_reading b) mine
    (canonical_spelled b also))

-- what tells whether two elements are the same tells it of their canonical bytes
pub tells_apart : (a b : Element) (r : Bool) → (IsTrue r ↔ IsSame a b) → IsFit a → IsFit b
    → (IsTrue r ↔ (canonical_bytes a ≡ canonical_bytes b))
tells_apart a b r h fit also = (λ t. alike_when_same a b (h.0 t), λ e. h.1 (same_when_alike a b fit also e))

-- what was printed, where there was memory
pub written_if_ok : {E : Type 0} (r : Result (List ℕ) E) (e : Element) (given : Texts) → IfOk r (λ bytes. bytes ≡ written_bytes e given)
    → IsFit e → AllByRecursion IsDeclarable given
    → IfOk r (λ bytes. Spells bytes (written_reading e given))
written_if_ok (Ok bytes) e given is fit can =
    subst (λ (b : List ℕ). Spells b (written_reading e given)) (sym is) (written_spelled e given fit can)
written_if_ok (Err error) e given is fit can = tt
