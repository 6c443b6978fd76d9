-- The bindings that assignments make, one assignment at a time.
-- Plan: (1) the table of prefixes and the rows of what is declared, with one more; (2) what is said of all bindings is said of the
-- last and of one in the middle; (3) the bindings so far and those of the assignments that are left are all of them
-- (`Binding-so-far`), at first and at the end; (4) one more, at an index of the code's list; (5) whether it may be made, by
-- tests in turn.
use Rattle.std.proofs.Common.{◌≡◌, ◌≢◌, ℕ, ◌+◌, ◌<◌, Bool, true, false, not, cond, drop, length, get_or, drop-cons, add-one, List, [], ◌∷◌, ◌++◌, map, refl, ap, sym, ◌∙◌, subst, append_assoc, inl, inr}
use Rattle.std.specs.Prelude.{Some, None, Ok, Err, Option, ◌↔◌, IsTrue, codes}
use Rattle.std.specs.List.{AllByRecursion, filter_map}
use Rattle.std.specs.Ordering.{nat_cmp, is_eq}
use Rattle.std.specs.Cmp.Lexicographic.{slice_cmp, texts_ties}
use Rattle.std.specs.Str.{bytes_eq}
use Rattle.std.proofs.lemmas.Bool.{cases_Bool, false_from_ne_true}
use Rattle.std.proofs.lemmas.List.{append-nil, map-append}
use Rattle.ifmap_elem.specs.declared.readings.Declared.{Declared}
use Rattle.ifmap_elem.specs.declared.tokens.Assignment.{Assignment}
use Rattle.ifmap_elem.specs.Document.{declared_here}
use Rattle.ifmap_elem.specs.Scopes.{Binding, IsBinding, AllDiffer, binding_of, prefix_space, xml_space, xmlns_space}
use Rattle.ifmap_lemmas.specs.Texts.{eq_tells, eq_itself}
use Rattle.ifmap_reader.specs.declared.errors.TokenRefusal.{TokenRefusal}
use Rattle.ifmap_reader.specs.declared.errors.TokenRefusal.TheVariants.{NotAllowed, TooDeep, NoMemory}
use Rattle.ifmap_reader.specs.AllowedTags.{Binds, AnswersBindings, MayBind}
use Rattle.ifmap_elem.specs.InScope.{binding_told}
use Rattle.ifmap_elem.specs.laws.ScopeLaws.{bound_outer}
use Rattle.ifmap_lemmas.specs.Members.{all_last}
use Rattle.ifmap_lemmas.specs.Joined.{all_middle}
use Rattle.ifmap_lemmas.specs.Branches.{fails_where_false}

bound_other : (bs : List Binding) (b : Binding) (q : List ℕ) → bytes_eq b.prefix q ≡ false
    → prefix_space (bs ++ b ∷ []) q ≡ prefix_space bs q
bound_other [] b q e = rw e refl
bound_other (x ∷ xs) b q e = ap (λ o. cond (bytes_eq x.prefix q) (Some x.space) o) (bound_other xs b q e)

bound_last : (bs : List Binding) (b : Binding) (q : List ℕ) → prefix_space bs b.prefix ≡ None
    → prefix_space (bs ++ b ∷ []) q ≡ cond (bytes_eq b.prefix q) (Some b.space) (prefix_space bs q)
bound_last bs b q none = elim (cases_Bool (bytes_eq b.prefix q)) [
  | inl e ↦
      let same : b.prefix ≡ q = eq_tells b.prefix q e in
      bound_outer bs (b ∷ []) q (subst (λ p. prefix_space bs p ≡ None) same none) ∙ (rw e refl)
  | inr e ↦ bound_other bs b q e ∙ (rw e refl)
]

-- the table of prefixes, and the rows, with one more
pub spaces_more : (old new : List ℕ → Option (List ℕ)) (rows after : List Declared) (row : Declared) (key space : List ℕ)
    → ((q : List ℕ) → old q ≡ prefix_space (map binding_told rows) q)
    → ((q : List ℕ) → new q ≡ cond (is_eq (slice_cmp nat_cmp key q)) (Some space) (old q)) → key ≡ row.prefix → space ≡ row.space
    → after ≡ rows ++ row ∷ [] → prefix_space (map binding_told rows) row.prefix ≡ None
    → (q : List ℕ) → new q ≡ prefix_space (map binding_told after) q
spaces_more old new rows after row key space was now k s more none q =
    now q ∙ (λ i. cond (is_eq (slice_cmp nat_cmp (k i) q)) (Some (s i)) (was q i))
    ∙ ap (λ b. cond b (Some row.space) (prefix_space (map binding_told rows) q)) (sym (texts_ties row.prefix q))
    ∙ sym (bound_last (map binding_told rows) (binding_told row) q none)
    ∙ ap (λ bs. prefix_space bs q) (sym (ap (map binding_told) more ∙ map-append binding_told rows (row ∷ [])))

pub rows_more : (rows after : List Declared) (path prefix space : List ℕ) → rows ≡ declared_here (map binding_told rows)
    → after ≡ rows ++ record { path = path; prefix = prefix; space = space } ∷ [] → path ≡ []
    → after ≡ declared_here (map binding_told after)
rows_more rows after path prefix space was more none =
    let made : after ≡ rows ++ record { path = []; prefix = prefix; space = space } ∷ [] = more
    ∙ ap (λ (p : List ℕ). rows ++ record { path = p; prefix = prefix; space = space } ∷ []) none in
    made ∙ ap (λ ds. ds ++ record { path = []; prefix = prefix; space = space } ∷ []) was
    ∙ sym (ap declared_here (ap (map binding_told) made ∙ map-append binding_told rows
    (record { path = []; prefix = prefix; space = space } ∷ []))
    ∙ map-append (λ (b : Binding). let d : Declared = record { path = []; prefix = b.prefix; space = b.space } in d)
    (map binding_told rows) (record { prefix = prefix; space = space } ∷ []))

abbrev prefix_of : Binding → List ℕ
prefix_of b = b.prefix

all_mapped : (x : Binding) (xs : List Binding) (b : Binding) → AllByRecursion (λ p. x.prefix ≢ p) (map prefix_of xs) → x.prefix ≢ b.prefix
    → AllByRecursion (λ p. x.prefix ≢ p) (map prefix_of (xs ++ b ∷ []))
all_mapped x [] b h p = (p, tt)
all_mapped x (y ∷ ys) b h p = (h.0, all_mapped x ys b h.1 p)

mapped_middle : (x : Binding) (xs : List Binding) (b : Binding) (ys : List Binding)
    → AllByRecursion (λ p. x.prefix ≢ p) (map prefix_of (xs ++ b ∷ ys)) → x.prefix ≢ b.prefix
mapped_middle x [] b ys h = h.0
mapped_middle x (z ∷ zs) b ys h = mapped_middle x zs b ys h.1

none_parts : (x : Binding) (xs : List Binding) (p : List ℕ) → prefix_space (x ∷ xs) p ≡ None → (x.prefix ≢ p) × (prefix_space xs p ≡ None)
none_parts x xs p none = elim (cases_Bool (bytes_eq x.prefix p)) [
  | inl e ↦ let k : Some x.space ≡ None = rw e at none in cc
  | inr e ↦ (
    λ same. let k : bytes_eq x.prefix p ≡ true = subst (λ q. bytes_eq x.prefix q ≡ true) same
        (eq_itself x.prefix) in cc,
    rw e at none,
  )
]

differ_last : (xs : List Binding) (b : Binding) → AllDiffer (map prefix_of xs) → prefix_space xs b.prefix ≡ None
    → AllDiffer (map prefix_of (xs ++ b ∷ []))
differ_last [] b d none = (tt, tt)
differ_last (x ∷ xs) b d none = let h = none_parts x xs b.prefix none in (all_mapped x xs b d.0 h.0, differ_last xs b d.1 h.1)

differ_none : (xs : List Binding) (b : Binding) (ys : List Binding) → AllDiffer (map prefix_of (xs ++ b ∷ ys))
    → prefix_space xs b.prefix ≡ None
differ_none [] b ys d = refl
differ_none (x ∷ xs) b ys d =
    let other = mapped_middle x xs b ys d.0 in
    let e : bytes_eq x.prefix b.prefix ≡ false = false_from_ne_true (bytes_eq x.prefix b.prefix)
    (λ t. other (eq_tells x.prefix b.prefix t)) in
    rw e (differ_none xs b ys d.1)

abbrev Made : List Assignment → List Binding
Made assignments = filter_map binding_of assignments

taken_none : (a : Assignment) (as' : List Assignment) → binding_of a ≡ None → Made (a ∷ as') ≡ Made as'
taken_none a as' e = rw e refl

taken_some : (a : Assignment) (as' : List Assignment) (b : Binding) → binding_of a ≡ Some b → Made (a ∷ as') ≡ b ∷ Made as'
taken_some a as' b e = rw e refl

-- what the bindings so far and those of the assignments that are left are for all of them
pub record Binding-so-far (all : List Binding) (made : List Binding) (left : List Assignment) : Type 0 where
  pub whole : all ≡ made ++ filter_map binding_of left
  pub may : MayBind made

module _ (all : List Binding) (a : Assignment) (left : List Assignment) (old : List Binding) (at : Binding-so-far all old (a ∷ left)) where
  next_by : (o : Option Binding) (new : List Binding) → binding_of a ≡ o → Binds old o (Ok new) → Binding-so-far all new left
  next_by None new e h = record {
    whole = at.whole ∙ ap (λ bs. old ++ bs) (taken_none a left e)
        ∙ ap (λ bs. bs ++ Made left) (sym h);
    may = subst MayBind (sym h) at.may;
  }
  next_by (Some b) new e h = record {
    whole = at.whole ∙ ap (λ bs. old ++ bs) (taken_some a left b e) ∙ sym (append_assoc old (b ∷ []) (Made left))
        ∙ ap (λ bs. bs ++ Made left) (sym h.2);
    may = subst MayBind (sym h.2) (record {
      binds = all_last IsBinding old b at.may.binds h.0;
      binds_once = differ_last old b
          at.may.binds_once h.1;
    });
  }

  pub binding_next : (new : List Binding) → Binds old (binding_of a) (Ok new) → Binding-so-far all new left
  binding_next new h = next_by (binding_of a) new refl h

  refused_by : (o : Option Binding) (error : TokenRefusal) → binding_of a ≡ o → Binds old o (Err error) → error ≡ NotAllowed
      → MayBind all → ⊥
  refused_by None NotAllowed e h n m = h
  refused_by (Some b) NotAllowed e h n m =
      let is : all ≡ old ++ b ∷ Made left = at.whole ∙ ap (λ bs. old ++ bs) (taken_some a left b e) in
      let k = subst MayBind is m in
      h (all_middle IsBinding old b (Made left) k.binds) (differ_none old b (Made left) k.binds_once)
  refused_by o TooDeep e h n m = cc
  refused_by o NoMemory e h n m = cc

  pub binding_refused : (assignments : List Assignment) → all ≡ filter_map binding_of assignments → (error : TokenRefusal)
      → Binds old (binding_of a) (Err error) → AnswersBindings assignments (Err error)
  binding_refused assignments is NotAllowed h = λ m. refused_by (binding_of a) NotAllowed refl h refl (subst MayBind (sym is) m)
  binding_refused assignments is TooDeep h = no_depth (binding_of a) h
    where
      no_depth : (o : Option Binding) → Binds old o (Err TooDeep) → ⊥
      no_depth None h = h
      no_depth (Some b) h = h
  binding_refused assignments is NoMemory h = tt

pub binding_first : (assignments : List Assignment) (made : List Binding) → made ≡ []
    → Binding-so-far (filter_map binding_of assignments) made assignments
binding_first assignments made none =
    record { whole = ap (λ bs. bs ++ Made assignments) (sym none); may = subst MayBind (sym none) (record { binds = tt; binds_once = tt }) }

pub binding_done : (all made : List Binding) (left : List Assignment) → left ≡ [] → Binding-so-far all made left
    → (made ≡ all) × MayBind made
binding_done all made left none at = (sym (at.whole ∙ ap (λ (ls : List Assignment). made ++ Made ls) none ∙ append-nil made), at.may)

-- of the code's list, at an index
pub at_item : (all made : List Binding) (assignments : List Assignment) (i : ℕ) (a : Assignment) → i < length assignments
    → a ≡ get_or assignments i a → Binding-so-far all made (drop i assignments)
    → Binding-so-far all made (a ∷ drop (i + 1) assignments)
at_item all made assignments i a l is at =
    subst (λ (as' : List Assignment). Binding-so-far all made as')
    (drop-cons assignments i a l ∙ ap (λ (n : ℕ). get_or assignments i a ∷ drop n assignments) (sym (add-one i))
    ∙ ap (λ (b : Assignment). b ∷ drop (i + 1) assignments) (sym is)) at

-- whether a binding may be made, by tests in turn
module _ (p s : List ℕ) where
  pub not_xmlns : (b : Bool) → (IsTrue b ↔ (p ≡ codes "xmlns")) → b ≡ true → IsBinding (record { prefix = p; space = s }) → ⊥
  not_xmlns b t e h = h.no_xmlns (t.0 e)

  pub not_xmlns_space : (b : Bool) → (IsTrue b ↔ (s ≡ xmlns_space)) → b ≡ true → IsBinding (record { prefix = p; space = s }) → ⊥
  not_xmlns_space b t e h = h.no_xmlns_space (t.0 e)

  module _ (b c : Bool) (t : IsTrue b ↔ (p ≡ codes "xmlns")) (u : IsTrue c ↔ (s ≡ xmlns_space)) (e : b ≡ false) (f : c ≡ false) where
    pub xml_binds : (d x : Bool) → (IsTrue d ↔ (p ≡ codes "xml")) → d ≡ true → (IsTrue x ↔ (s ≡ xml_space))
        → IsTrue x ↔ IsBinding (record { prefix = p; space = s })
    xml_binds d x v is w = (
      λ h. record {
        no_xmlns = fails_where_false b (p ≡ codes "xmlns") t e;
        no_xmlns_space = fails_where_false c (s ≡ xmlns_space) u f;
        xml_alone = (λ _. w.0 h, λ _. v.0 is);
        some_space = λ _ none. let k : xml_space ≡ [] = sym (w.0 h) ∙ none in cc;
      },
      λ h. w.1 (h.xml_alone.0 (v.0 is)),
    )

    module _ (d : Bool) (v : IsTrue d ↔ (p ≡ codes "xml")) (g : d ≡ false) where
      pub not_xml_space : (x : Bool) → (IsTrue x ↔ (s ≡ xml_space)) → x ≡ true → IsBinding (record { prefix = p; space = s }) → ⊥
      not_xml_space x w is h = fails_where_false d (p ≡ codes "xml") v g (h.xml_alone.1 (w.0 is))

      module _ (x : Bool) (w : IsTrue x ↔ (s ≡ xml_space)) (k : x ≡ false) where
        binds_where : (p ≢ [] → s ≢ []) → IsBinding (record { prefix = p; space = s })
        binds_where some = record {
          no_xmlns = fails_where_false b (p ≡ codes "xmlns") t e;
          no_xmlns_space = fails_where_false c (s ≡ xmlns_space) u f;
          xml_alone = (λ q. absurd (fails_where_false d (p ≡ codes "xml") v g q), λ q. absurd (fails_where_false x (s ≡ xml_space) w k q));
          some_space = some;
        }

        pub default_binds : (y : Bool) → (IsTrue y ↔ (p ≡ [])) → y ≡ true → IsBinding (record { prefix = p; space = s })
        default_binds y m is = binds_where (λ some. absurd (some (m.0 is)))

        pub prefix_binds : (y z : Bool) → (IsTrue y ↔ (p ≡ [])) → y ≡ false → (IsTrue z ↔ (s ≡ []))
            → IsTrue (not z) ↔ IsBinding (record { prefix = p; space = s })
        prefix_binds y true m is o =
            (λ h. let k : false ≡ true = h in cc, λ h. absurd (h.some_space (fails_where_false y (p ≡ []) m is) (o.0 refl)))
        prefix_binds y false m is o = (λ _. binds_where (λ _ none. let k : false ≡ true = o.1 none in cc), λ _. refl)
