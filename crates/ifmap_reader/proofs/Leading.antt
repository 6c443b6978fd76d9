-- What one more token makes of where a reader stands.
-- For each place and token one lemma that the token leads to the new place (`Leads`), and one that it is refused. What documents it goes
-- on to comes from `Goings`; levels, counts and links are sums. The lemmas that end in `_in_code` say the same of the code's list of open
-- elements, whose last is the innermost.
use Rattle.std.proofs.Common.{◌≡◌, ℕ, ◌+◌, ◌<◌, ◌≤◌, Bool, true, false, max, List, [], ◌∷◌, ◌++◌, length, reverse, refl, ap, sym, ◌∙◌, subst, arith, inl, inr}
use Rattle.std.specs.Prelude.{Ok, Err, Result}
use Rattle.std.proofs.lemmas.List.{length-reverse}
use Rattle.ifmap_lemmas.specs.Joined.{last_first}
use Rattle.ifmap_elem.specs.declared.elements.Element.{Element}
use Rattle.ifmap_elem.specs.declared.readings.Declared.{Declared}
use Rattle.ifmap_elem.specs.declared.readings.Reading.{Reading}
use Rattle.ifmap_elem.specs.declared.tokens.Qualified.{Qualified}
use Rattle.ifmap_elem.specs.declared.tokens.Tag.{Tag}
use Rattle.ifmap_elem.specs.declared.tokens.Token.{Token}
use Rattle.ifmap_elem.specs.declared.tokens.Token.TheVariants.{Declaration, Comment, Start, Empty, End, Section, Characters}
use Rattle.ifmap_elem.specs.Places.{is_start, is_end, Opens}
use Rattle.ifmap_reader.specs.declared.errors.TokenRefusal.{TokenRefusal}
use Rattle.ifmap_reader.specs.declared.errors.TokenRefusal.TheVariants.{NotAllowed, TooDeep, NoMemory}
use Rattle.ifmap_reader.specs.declared.open_elements.OpenElement.{OpenElement}
use Rattle.ifmap_reader.specs.declared.progress.DocumentProgress.{DocumentProgress}
use Rattle.ifmap_reader.specs.Depths.{levels}
use Rattle.ifmap_reader.specs.OpenElements.{AreLinked, Closes, CountsBindings, scope_of, with_characters, written_name}
use Rattle.ifmap_reader.specs.AllowedTags.{OpensElement, TagAnswer}
use Rattle.ifmap_reader.specs.Progress.{Where, AtStart, Within, AfterRoot, IsDocumentFrom, Follows, IsCharacterData, IsLinked, is_margin, Leads, Passes, TokenAnswer, after_element, open_in, depth_read, one_if, where_is}
use Rattle.ifmap_reader.proofs.Goings.{inner_comment, inner_words, inner_start, inner_empty, inner_end, inner_declaration, inner_other_end, root_comment, root_blank, IsInner, no_root, root_start, root_empty, no_start, no_empty, after_root_comment, after_root_blank, nothing_after_root, no_second_root, start_declaration, IsOther, start_other}
use Rattle.ifmap_reader.proofs.Items.{closed_of}
use Rattle.ifmap_reader.proofs.Levels.{children_nesting, after_element_fits, after_element_deep}

-- a token that opens and ends nothing
still : (depth : ℕ) (old : Where) (t : Token) (new : Where) → Follows old t new → depth_read old ≡ depth_read new → open_in old
    ≡ open_in new
    → is_start t ≡ false → is_end t ≡ false → (Opens t → ⊥)
    → (IsLinked old → IsLinked new) → Leads depth old t new
still depth old t new follows deep count starts ends opens linked = record {
  follows = follows;
  fits = λ h. omega (arith, deep, h);
  counts = (λ i. count i + one_if (starts i)) ∙ ap (λ (b : Bool). open_in new + one_if b) (sym ends);
  within = λ o. absurd (opens o);
  linked = linked;
}

pub comment_leads : (depth : ℕ) (fs : List OpenElement) → Leads depth (Within fs) Comment (Within fs)
comment_leads depth [] = still depth (Within []) Comment (Within []) root_comment refl refl refl refl (λ o. o) (λ l. l)
comment_leads depth (f ∷ fs) =
    still depth (Within (f ∷ fs)) Comment (Within (f ∷ fs)) (inner_comment f fs) refl refl refl refl (λ o. o) (λ l. l)

pub declaration_leads : (depth : ℕ) → Leads depth AtStart Declaration (Within [])
declaration_leads depth = still depth AtStart Declaration (Within []) start_declaration refl refl refl refl (λ o. o) (λ l. l)

-- texts
words_lead : (depth : ℕ) (f : OpenElement) (fs : List OpenElement) (t : Token) (blank : Bool) (text : List ℕ)
    → IsCharacterData blank text t → Leads depth (Within (f ∷ fs)) t (Within (with_characters f text ∷ fs))
words_lead depth f fs t blank text w = elim w [
  | inl e ↦ subst (λ (u : Token). Leads depth (Within (f ∷ fs)) u (Within (with_characters f text ∷ fs))) (sym e)
      (still depth (Within (f ∷ fs)) (Characters blank text) (Within (with_characters f text ∷ fs))
      (inner_words f fs (Characters blank text) blank text (inl refl)) refl refl refl refl (λ o. o) (λ l. l))
  | inr e ↦ subst (λ (u : Token). Leads depth (Within (f ∷ fs)) u (Within (with_characters f text ∷ fs))) (sym e.1)
      (still depth (Within (f ∷ fs)) (Section text) (Within (with_characters f text ∷ fs))
      (inner_words f fs (Section text) blank text (inr (e.0, refl))) refl refl refl refl (λ o. o) (λ l. l))
]

pub words_lead_in_code : (depth : ℕ) (old mid new : List OpenElement) (f g : OpenElement) (t : Token) (blank : Bool) (text : List ℕ)
    → IsCharacterData blank text t → old ≡ mid ++ f ∷ [] → new ≡ mid ++ g ∷ [] → g ≡ with_characters f text
    → Leads depth (Within (reverse old)) t (Within (reverse new))
words_lead_in_code depth old mid new f g t blank text w is made added =
    subst (λ (fs : List OpenElement). Leads depth (Within fs) t (Within (reverse new))) (sym (last_first old mid f is))
    (subst (λ (fs : List OpenElement). Leads depth (Within (f ∷ reverse mid)) t (Within fs))
    (sym (last_first new mid g made ∙ ap (λ (h : OpenElement). h ∷ reverse mid) added))
    (words_lead depth f (reverse mid) t blank text w))

pub blank_leads_in_code : (depth : ℕ) (old new : List OpenElement) (t : Token) (blank : Bool) (text : List ℕ) → IsCharacterData blank text t
    → old ≡ [] → new ≡ [] → blank ≡ true → Leads depth (Within (reverse old)) t (Within (reverse new))
blank_leads_in_code depth old new t blank text w none left b =
    subst (λ (fs : List OpenElement). Leads depth (Within (reverse fs)) t (Within (reverse new))) (sym none)
    (subst (λ (fs : List OpenElement). Leads depth (Within []) t (Within (reverse fs))) (sym left)
    (elim w [
      | inl e ↦ subst (λ (u : Token). Leads depth (Within []) u (Within [])) (sym (e ∙ ap (λ c. Characters c text) b))
          (still depth (Within []) (Characters true text) (Within []) (root_blank text) refl refl refl refl (λ o. o) (λ l. l))
      | inr e ↦ let h : blank ≡ false = e.0 in cc
    ]))

pub words_refused : (old : List OpenElement) (t : Token) (blank : Bool) (text : List ℕ) → IsCharacterData blank text t → old ≡ []
    → blank ≡ false → (ts : List Token) (r : Reading) → IsDocumentFrom (Within (reverse old)) (t ∷ ts) r → ⊥
words_refused old t blank text w none b ts r x =
    no_root t (elim w [ inl e ↦ subst IsInner (sym e) b | inr e ↦ subst IsInner (sym e.1) tt ]) ts r
    (subst (λ (fs : List OpenElement). IsDocumentFrom (Within (reverse fs)) (t ∷ ts) r) none x)

-- tags
pub tag_follows : (fs : List OpenElement) (tag : Tag) (new : OpenElement) → OpensElement (scope_of fs) tag new
    → Follows (Within fs) (Start tag) (Within (new ∷ fs))
tag_follows [] tag new o = root_start tag new o
tag_follows (f ∷ fs) tag new o = inner_start f fs tag new o

pub empty_follows : (fs : List OpenElement) (tag : Tag) (new : OpenElement) → OpensElement (scope_of fs) tag new
    → (e : Element) (d : List Declared) → Closes new [] e d → Follows (Within fs) (Empty tag) (after_element fs e d)
empty_follows [] tag new o e d k = root_empty tag new o e d k
empty_follows (f ∷ fs) tag new o e d k = inner_empty f fs tag new o e d k

none_deep : (cs : List _) → cs ≡ [] → children_nesting cs ≡ 0
none_deep cs e = ap children_nesting e

new_levels : (scope : _) (tag : Tag) (new : OpenElement) (fs : List OpenElement) → OpensElement scope tag new
    → levels (new ∷ fs) ≡ max (length fs + 1) (levels fs)
new_levels scope tag new fs o = let h = none_deep new.children o.no_children in omega (arith, h)

start_leads : (depth : ℕ) (fs : List OpenElement) (tag : Tag) (new : OpenElement) → OpensElement (scope_of fs) tag new
    → CountsBindings new.bindings new.declaring fs → length fs < depth → Leads depth (Within fs) (Start tag) (Within (new ∷ fs))
start_leads depth fs tag new o reaches l = record {
  follows = tag_follows fs tag new o;
  fits = λ h. let k = new_levels (scope_of fs) tag new fs o in omega (arith, h, k, l);
  counts = omega arith;
  within = λ _. l;
  linked = λ h. (reaches, h);
}

linked_after : (fs : List OpenElement) (e : Element) (d : List Declared) → AreLinked fs → IsLinked (after_element fs e d)
linked_after [] e d h = tt
linked_after (f ∷ fs) e d h = h

open_after_element : (fs : List OpenElement) (e : Element) (d : List Declared) → open_in (after_element fs e d) ≡ length fs
open_after_element [] e d = refl
open_after_element (f ∷ fs) e d = refl

empty_leads : (depth : ℕ) (fs : List OpenElement) (tag : Tag) (new : OpenElement) → OpensElement (scope_of fs) tag new
    → (e : Element) (d : List Declared) → Closes new [] e d → length fs < depth → Leads depth (Within fs) (Empty tag) (after_element fs e d)
empty_leads depth fs tag new o e d k l = record {
  follows = empty_follows fs tag new o e d k;
  fits = λ h. after_element_fits depth new fs e d k (let n = new_levels (scope_of fs) tag new fs o in omega (arith, h, n, l));
  counts = let h = open_after_element fs e d in omega (arith, h);
  within = λ _. l;
  linked = linked_after fs e d;
}

start_passes : (depth : ℕ) (fs : List OpenElement) (tag : Tag) (new : OpenElement) → OpensElement (scope_of fs) tag new
    → depth ≤ length fs → Passes depth (Within fs) (Start tag)
start_passes depth fs tag new o l = record {
  opens = tt;
  level_is = l;
  new = Within (new ∷ fs);
  follows = tag_follows fs tag new o;
  deeper = let k = new_levels (scope_of fs) tag new fs o in omega (arith, k, l);
}

-- of the code's list, whose last is the innermost
pub start_leads_in_code : (depth : ℕ) (old new : List OpenElement) (tag : Tag) (f : OpenElement)
    → OpensElement (scope_of (reverse old)) tag f
    → CountsBindings f.bindings f.declaring (reverse old) → length old < depth → new ≡ old ++ f ∷ []
    → Leads depth (Within (reverse old)) (Start tag) (Within (reverse new))
start_leads_in_code depth old new tag f o reaches l is =
    subst (λ (fs : List OpenElement). Leads depth (Within (reverse old)) (Start tag) (Within fs)) (sym (last_first new old f is))
    (start_leads depth (reverse old) tag f o reaches (let h = length-reverse old in omega (arith, h, l)))

pub start_too_deep : (depth : ℕ) (old : List OpenElement) (tag : Tag) (f : OpenElement) → OpensElement (scope_of (reverse old)) tag f
    → depth ≤ length old → Passes depth (Within (reverse old)) (Start tag)
start_too_deep depth old tag f o l = start_passes depth (reverse old) tag f o (let h = length-reverse old in omega (arith, h, l))

pub empty_leads_in_code : (depth : ℕ) (old : List OpenElement) (tag : Tag) (f : OpenElement) (e : Element) (d : List Declared) (new : Where)
    → OpensElement (scope_of (reverse old)) tag f → Closes f [] e d → length old < depth
    → new ≡ after_element (reverse old) e d → Leads depth (Within (reverse old)) (Empty tag) new
empty_leads_in_code depth old tag f e d new o k l is =
    subst (λ (w : Where). Leads depth (Within (reverse old)) (Empty tag) w) (sym is)
    (empty_leads depth (reverse old) tag f o e d k (let h = length-reverse old in omega (arith, h, l)))

pub empty_too_deep : (depth : ℕ) (old : List OpenElement) (tag : Tag) (f : OpenElement) → OpensElement (scope_of (reverse old)) tag f
    → depth ≤ length old → Passes depth (Within (reverse old)) (Empty tag)
empty_too_deep depth old tag f o l =
    let made = closed_of f in
    record {
      opens = tt;
      level_is = let h = length-reverse old in omega (arith, h, l);
      new = after_element (reverse old) made.0 made.1.0;
      follows = empty_follows (reverse old) tag f o made.0 made.1.0 made.1.1;
      deeper = let h = length-reverse old in let k = after_element_deep f (reverse old) made.0 made.1.0 made.1.1 in omega (arith, h, k, l);
    }

end_leads : (depth : ℕ) (f : OpenElement) (fs : List OpenElement) (name : Qualified) (e : Element) (d : List Declared)
    → name ≡ written_name f → Closes f [] e d → Leads depth (Within (f ∷ fs)) (End name) (after_element fs e d)
end_leads depth f fs name e d is c = record {
  follows = inner_end f fs name e d is c;
  fits = after_element_fits depth f fs e d c;
  counts = let h = open_after_element fs e d in omega (arith, h);
  within = λ o. absurd o;
  linked = λ h. linked_after fs e d h.1;
}

pub end_leads_in_code : (depth : ℕ) (old mid : List OpenElement) (f : OpenElement) (name : Qualified) (e : Element) (d : List Declared)
    (new : Where) → old ≡ mid ++ f ∷ [] → name ≡ written_name f → Closes f [] e d → new ≡ after_element (reverse mid) e d
    → Leads depth (Within (reverse old)) (End name) new
end_leads_in_code depth old mid f name e d new is same c made =
    subst (λ (fs : List OpenElement). Leads depth (Within fs) (End name) new) (sym (last_first old mid f is))
    (subst (λ (w : Where). Leads depth (Within (f ∷ reverse mid)) (End name) w) (sym made)
    (end_leads depth f (reverse mid) name e d same c))

pub other_end : (old mid : List OpenElement) (f : OpenElement) (name : Qualified) → old ≡ mid ++ f ∷ [] → (name ≡ written_name f → ⊥)
    → (ts : List Token) (r : Reading) → IsDocumentFrom (Within (reverse old)) (End name ∷ ts) r → ⊥
other_end old mid f name is other ts r x =
    inner_other_end f (reverse mid) name other ts r (subst (λ (fs : List OpenElement). IsDocumentFrom (Within fs) (End name ∷ ts) r)
    (last_first old mid f is) x)

pub no_end : (old : List OpenElement) (name : Qualified) → old ≡ [] → (ts : List Token) (r : Reading)
    → IsDocumentFrom (Within (reverse old)) (End name ∷ ts) r → ⊥
no_end old name none ts r x =
    no_root (End name) tt ts r (subst (λ (fs : List OpenElement). IsDocumentFrom (Within (reverse fs)) (End name ∷ ts) r) none x)

pub declaration_refused : (fs : List OpenElement) (ts : List Token) (r : Reading) → IsDocumentFrom (Within fs) (Declaration ∷ ts) r → ⊥
declaration_refused [] ts r x = no_root Declaration tt ts r x
declaration_refused (f ∷ fs) ts r x = inner_declaration f fs ts r x

-- a refusal by a tag's names
pub start_refused : (depth : ℕ) (fs : List OpenElement) (tag : Tag) (error : TokenRefusal) → TagAnswer fs tag (Err error)
    → TokenAnswer depth (Within fs) (Start tag) (Err error)
start_refused depth fs tag NotAllowed h = no_start fs tag h
start_refused depth fs tag TooDeep h = absurd h
start_refused depth fs tag NoMemory h = tt

pub empty_refused : (depth : ℕ) (fs : List OpenElement) (tag : Tag) (error : TokenRefusal) → TagAnswer fs tag (Err error)
    → TokenAnswer depth (Within fs) (Empty tag) (Err error)
empty_refused depth fs tag NotAllowed h = no_empty fs tag h
empty_refused depth fs tag TooDeep h = absurd h
empty_refused depth fs tag NoMemory h = tt

-- after the root
pub margin_leads : (depth : ℕ) (root : Reading) (t : Token) → is_margin t ≡ true → Leads depth (AfterRoot root) t (AfterRoot root)
margin_leads depth root Comment m =
    still depth (AfterRoot root) Comment (AfterRoot root) (after_root_comment root) refl refl refl refl (λ o. o) (λ l. l)
margin_leads depth root (Characters true text) m =
    still depth (AfterRoot root) (Characters true text) (AfterRoot root) (after_root_blank root text) refl refl refl refl (λ o. o) (λ l. l)
margin_leads depth root Declaration m = cc
margin_leads depth root (Start tag) m = cc
margin_leads depth root (Empty tag) m = cc
margin_leads depth root (End name) m = cc
margin_leads depth root (Section text) m = cc
margin_leads depth root (Characters false text) m = cc

pub no_margin : (root : Reading) (t : Token) → is_margin t ≡ false → (ts : List Token) (r : Reading)
    → IsDocumentFrom (AfterRoot root) (t ∷ ts) r → ⊥
no_margin root Declaration m = nothing_after_root root Declaration tt
no_margin root Comment m = cc
no_margin root (Start tag) m = λ ts r. (no_second_root root tag ts r).0
no_margin root (Empty tag) m = λ ts r. (no_second_root root tag ts r).1
no_margin root (End name) m = nothing_after_root root (End name) tt
no_margin root (Section text) m = nothing_after_root root (Section text) tt
no_margin root (Characters true text) m = cc
no_margin root (Characters false text) m = nothing_after_root root (Characters false text) refl

-- but for a declaration the start is before the root
module _ (depth : ℕ) (t : Token) (other : IsOther t) where
  from_start : (new : Where) → Leads depth (Within []) t new → Leads depth AtStart t new
  from_start new l = record {
    follows = λ ts r. let e = start_other t other ts r in let k = l.follows ts r in (λ x. k.0 (e.0 x), λ x. e.1 (k.1 x));
    fits = l.fits;
    counts = l.counts;
    within = l.within;
    linked = λ _. l.linked tt;
  }

  answers_from_start : (result : Result DocumentProgress TokenRefusal) → TokenAnswer depth (Within []) t result
      → TokenAnswer depth AtStart t result
  answers_from_start (Ok new) h = from_start (where_is new) h
  answers_from_start (Err NotAllowed) h = λ ts r x. h ts r ((start_other t other ts r).0 x)
  answers_from_start (Err TooDeep) h = record {
    opens = h.opens;
    level_is = h.level_is;
    new = h.new;
    deeper = h.deeper;
    follows = λ ts r. let e = start_other t other ts r in let k = h.follows ts r in (λ x. k.0 (e.0 x), λ x. e.1 (k.1 x));
  }
  answers_from_start (Err NoMemory) h = tt

  pub answers_at_start : (s : Where) (fs : List OpenElement) (result : Result DocumentProgress TokenRefusal) → s ≡ AtStart → fs ≡ []
      → TokenAnswer depth (Within (reverse fs)) t result → TokenAnswer depth s t result
  answers_at_start s fs result is none h =
      subst (λ (w : Where). TokenAnswer depth w t result) (sym is)
      (answers_from_start result (subst (λ (gs : List OpenElement). TokenAnswer depth (Within (reverse gs)) t result) none h))

pub declaration_at_start : (depth : ℕ) (s : Where) (t : Token) (new : List OpenElement) → s ≡ AtStart → t ≡ Declaration → new ≡ []
    → Leads depth s t (Within (reverse new))
declaration_at_start depth s t new is same none =
    subst (λ (w : Where). Leads depth w t (Within (reverse new))) (sym is)
    (subst (λ (u : Token). Leads depth AtStart u (Within (reverse new))) (sym same)
    (subst (λ (fs : List OpenElement). Leads depth AtStart Declaration (Within (reverse fs))) (sym none) (declaration_leads depth)))
