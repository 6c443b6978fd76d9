-- Open elements by what they make on closing: text and inner elements move from the items that are to come into the open element.
use Rattle.std.proofs.Common.{◌≡◌, ℕ, ◌+◌, suc, Bool, true, false, not, cond, ◌||◌, List, [], ◌∷◌, ◌++◌, length, map, refl, ap, sym, ◌∙◌, subst, append_assoc, length-append, arith}
use Rattle.std.specs.Prelude.{◌==◌, filter}
use Rattle.std.specs.List.{list_any}
use Rattle.std.proofs.lemmas.List.{append-nil}
use Rattle.ifmap_elem.specs.declared.elements.Child.{Child}
use Rattle.ifmap_elem.specs.declared.elements.Child as the
use Rattle.ifmap_elem.specs.declared.elements.Element.{Element}
use Rattle.ifmap_elem.specs.declared.readings.Declared.{Declared}
use Rattle.ifmap_elem.specs.declared.tokens.Tag.{Tag}
use Rattle.ifmap_elem.specs.Scopes.{Scope, bindings, NamesElement}
use Rattle.ifmap_elem.specs.Document.{ContentItem, Inner, Run, is_inner, put_before, join_runs, is_child, children_among, child_of, declared_here, declared_below, from_above, IsElement}
use Rattle.ifmap_lemmas.specs.Numbers.{is_other}
use Rattle.ifmap_elem.specs.laws.OneReading.{one_name}
use Rattle.ifmap_reader.specs.declared.open_elements.OpenElement.{OpenElement}
use Rattle.ifmap_reader.specs.OpenElements.{Closes, has_children, children_to_come, is_child_text, text_child, with_inner, with_characters}
use Rattle.ifmap_reader.specs.AllowedTags.{OpensElement}

put_twice : (a b : List ℕ) (xs : List ContentItem) → put_before a (put_before b xs) ≡ put_before (a ++ b) xs
put_twice a b [] = refl
put_twice a b (Run more ∷ xs) = ap (λ (t : List ℕ). Run t ∷ xs) (sym (append_assoc a b more))
put_twice a b (Inner e d ∷ xs) = refl

-- an empty text in front is no child
put_nothing : (b : Bool) (xs : List ContentItem) → filter (is_child b) (put_before [] xs) ≡ filter (is_child b) xs
put_nothing true [] = refl
put_nothing false [] = refl
put_nothing b (Run more ∷ xs) = refl
put_nothing true (Inner e d ∷ xs) = refl
put_nothing false (Inner e d ∷ xs) = refl

-- what an open element closes to where nothing more is to come
pub closed_of : (f : OpenElement) → (e : Element) × ((d : List Declared) × Closes f [] e d)
closed_of f = (_, (_, record { element_is = refl; declared_is = refl }))

-- text
kept_words : (f : OpenElement) (text : List ℕ) (items : List ContentItem)
    → children_to_come f (Run text ∷ items) ≡ children_to_come (with_characters f text) items
kept_words f text items = ap (filter (is_child (has_children f || list_any is_inner items))) (put_twice f.text text (join_runs items))

module _ (f : OpenElement) (e : Element) (declared : List Declared) where
  closes_by : (g : OpenElement) (is js : List ContentItem) → f.name ≡ g.name → f.attributes ≡ g.attributes → f.bindings ≡ g.bindings
      → f.children ++ map child_of (children_to_come f is) ≡ g.children ++ map child_of (children_to_come g js)
      → f.below ++ declared_below (length f.children) (children_to_come f is) ≡ g.below ++ declared_below (length g.children)
      (children_to_come g js)
      → Closes f is e declared → Closes g js e declared
  closes_by g is js name attributes bound children below c =
      record {
        element_is = c.element_is ∙ (λ i. record { name = name i; attributes = attributes i; children = children i });
        declared_is = c.declared_is ∙ (λ i. declared_here (bound i) ++ below i);
      }

pub words_close : (f : OpenElement) (text : List ℕ) (items : List ContentItem) (e : Element) (declared : List Declared)
    → Closes f (Run text ∷ items) e declared → Closes (with_characters f text) items e declared
words_close f text items e declared =
    closes_by f e declared (with_characters f text) (Run text ∷ items) items refl refl refl
    (ap (λ k. f.children ++ map child_of k) (kept_words f text items))
    (ap (λ k. f.below ++ declared_below (length f.children) k) (kept_words f text items))

pub close_words : (f : OpenElement) (text : List ℕ) (items : List ContentItem) (e : Element) (declared : List Declared)
    → Closes (with_characters f text) items e declared → Closes f (Run text ∷ items) e declared
close_words f text items e declared =
    closes_by (with_characters f text) e declared f items (Run text ∷ items) refl refl refl
    (ap (λ k. f.children ++ map child_of k) (sym (kept_words f text items)))
    (ap (λ k. f.below ++ declared_below (length f.children) k) (sym (kept_words f text items)))

-- an element
beside_all : (b c : Bool) → (b || (true || c)) ≡ true
beside_all true c = refl
beside_all false c = refl

is_some : (n : ℕ) → not (suc n == 0) ≡ true
is_some n = ap not (is_other (suc n) 0 (λ e. omega arith))

some_last : (cs ds : List Child) (c : Child) → not (length (cs ++ ds ++ c ∷ []) == 0) ≡ true
some_last [] [] c = refl
some_last [] (d ∷ ds) c = is_some (length (ds ++ c ∷ []))
some_last (b ∷ cs) ds c = is_some (length (cs ++ ds ++ c ∷ []))

module _ (fc : List Child) (fb : List Declared) (text : List ℕ) (e : Element) (d : List Declared) (ys : List ContentItem) where
  inner_children : (b : Bool) → fc ++ map child_of (cond b (Run text ∷ (Inner e d ∷ ys))
      (Inner e d ∷ ys)) ≡ (fc ++ (cond b (the.Text text ∷ []) []) ++ the.Element e ∷ []) ++ map child_of ys
  inner_children true = sym (append_assoc (fc ++ the.Text text ∷ []) (the.Element e ∷ []) (map child_of ys)
      ∙ append_assoc fc (the.Text text ∷ []) (the.Element e ∷ map child_of ys))
  inner_children false = sym (append_assoc (fc ++ []) (the.Element e ∷ []) (map child_of ys)
      ∙ ap (λ cs. cs ++ (the.Element e ∷ map child_of ys)) (append-nil fc))

  one_more : (cs : List Child) (c : Child) → length (cs ++ c ∷ []) ≡ length cs + 1
  one_more cs c = length-append cs (c ∷ [])

  inner_below : (b : Bool) → fb ++ declared_below (length fc) (cond b (Run text ∷ (Inner e d ∷ ys)) (Inner e d ∷ ys))
      ≡ (fb ++ map (from_above (length (fc ++ (cond b (the.Text text ∷ []) [])))) d) ++ declared_below
      (length (fc ++ (cond b (the.Text text ∷ []) []) ++ the.Element e ∷ [])) ys
  inner_below true =
      let first : length (fc ++ the.Text text ∷ []) ≡ length fc + 1 = one_more fc (the.Text text) in
      let second : length (fc ++ the.Text text ∷ [] ++ the.Element e ∷ []) ≡ length (fc ++ the.Text text ∷ []) + 1 = one_more
      (fc ++ the.Text text ∷ []) (the.Element e) in
      sym (append_assoc fb _ _ ∙ (λ i. fb ++ (map (from_above (first i)) d ++ declared_below
      ((second ∙ ap (λ (n : ℕ). n + 1) first) i) ys)))
  inner_below false =
      let first : length (fc ++ []) ≡ length fc = ap length (append-nil fc) in
      let second : length (fc ++ [] ++ the.Element e ∷ []) ≡ length (fc ++ []) + 1 = one_more (fc ++ []) (the.Element e) in
      sym (append_assoc fb _ _ ∙ (λ i. fb ++ (map (from_above (first i)) d ++ declared_below
      ((second ∙ ap (λ (n : ℕ). n + 1) first) i) ys)))

module _ (f : OpenElement) (inner : Element) (below : List Declared) (items : List ContentItem) where
  kept_before : children_to_come f (Inner inner below ∷ items) ≡ cond (is_child_text true f.text)
      (Run f.text ∷ (Inner inner below ∷ filter (is_child true) (join_runs items)))
      (Inner inner below ∷ filter (is_child true) (join_runs items))
  kept_before = ap (λ (b : Bool). filter (is_child b) (Run f.text ∷ (Inner inner below ∷ join_runs items)))
      (beside_all (has_children f) (list_any is_inner items))

  kept_after : children_to_come (with_inner f inner below) items ≡ filter (is_child true) (join_runs items)
  kept_after =
      ap (λ (b : Bool). filter (is_child (b || list_any is_inner items)) (put_before [] (join_runs items)))
      (some_last f.children (text_child true f.text) (the.Element inner))
      ∙ put_nothing true (join_runs items)

  children_same : f.children ++ map child_of (children_to_come f
      (Inner inner below ∷ items)) ≡ (with_inner f inner below).children ++ map child_of (children_to_come (with_inner f inner below) items)
  children_same =
      ap (λ k. f.children ++ map child_of k) kept_before ∙ inner_children f.children f.below f.text inner below
      (filter (is_child true) (join_runs items)) (is_child_text true f.text)
      ∙ ap (λ k. (with_inner f inner below).children ++ map child_of k) (sym kept_after)

  below_same : f.below ++ declared_below (length f.children) (children_to_come f (Inner inner below ∷ items))
      ≡ (with_inner f inner below).below ++ declared_below (length (with_inner f inner below).children)
      (children_to_come (with_inner f inner below) items)
  below_same =
      ap (λ k. f.below ++ declared_below (length f.children) k) kept_before
      ∙ inner_below f.children f.below f.text inner below (filter (is_child true) (join_runs items)) (is_child_text true f.text)
      ∙ ap (λ k. (with_inner f inner below).below ++ declared_below (length (with_inner f inner below).children) k) (sym kept_after)

  pub inner_closes : (e : Element) (declared : List Declared) → Closes f (Inner inner below ∷ items) e declared
      → Closes (with_inner f inner below) items e declared
  inner_closes e declared =
      closes_by f e declared (with_inner f inner below) (Inner inner below ∷ items) items refl refl refl children_same below_same

  pub closes_inner : (e : Element) (declared : List Declared) → Closes (with_inner f inner below) items e declared
      → Closes f (Inner inner below ∷ items) e declared
  closes_inner e declared =
      closes_by (with_inner f inner below) e declared f items (Inner inner below ∷ items) refl refl refl (sym children_same)
      (sym below_same)

-- an element that has just opened
kept_new : (cs : List Child) (text : List ℕ) (items : List ContentItem) → cs ≡ [] → text ≡ []
    → filter (is_child (not (length cs == 0) || list_any is_inner items)) (put_before text (join_runs items)) ≡ children_among items
kept_new cs text items no_children no_text =
    (λ i. filter (is_child (not (length (no_children i) == 0) || list_any is_inner items)) (put_before (no_text i) (join_runs items)))
    ∙ put_nothing (list_any is_inner items) (join_runs items)

module _ (outer : Scope) (tag : Tag) (f : OpenElement) (o : OpensElement outer tag f) (items : List ContentItem) (e : Element)
    (declared : List Declared) where
  kept_all : children_to_come f items ≡ children_among items
  kept_all = kept_new f.children f.text items o.no_children o.no_text

  children_new : f.children ++ map child_of (children_to_come f items) ≡ map child_of (children_among items)
  children_new = λ i. o.no_children i ++ map child_of (kept_all i)

  declared_new : declared_here f.bindings ++ (f.below ++ declared_below (length f.children) (children_to_come f items)) ≡ declared_here
      (bindings tag) ++ declared_below 0 (children_among items)
  declared_new = λ i. declared_here (o.bindings_are i) ++ (o.none_below i ++ declared_below (length (o.no_children i)) (kept_all i))

  pub closes_opened : Closes f items e declared → IsElement outer tag items e declared
  closes_opened c = record {
    named = subst (λ (y : Element). NamesElement outer tag y.name y.attributes) (sym c.element_is) o.named;
    children_are = ap (λ (y : Element). y.children) c.element_is ∙ children_new;
    declared_are = c.declared_is ∙ declared_new;
  }

  pub opened_closes : IsElement outer tag items e declared → Closes f items e declared
  opened_closes h =
      let n = one_name outer tag e.name f.name e.attributes f.attributes h.named o.named in
      let children = h.children_are ∙ sym children_new in
      record {
        element_is = λ i. record { name = n.0 i; attributes = n.1 i; children = children i };
        declared_is = h.declared_are
            ∙ sym declared_new;
      }
