-- How the body of an envelope and the element in a body are found.
-- 1. White space at the front ends where the first other part stands.
-- 2. The one element in a body.
-- 3. The body, after a header or none.
-- 4. What stands at an index.
-- 5. White space at the front, as the code finds it.
use Rattle.std.proofs.Common.{◌≡◌, ◌∙◌, ℕ, ◌+◌, ◌<◌, ◌≤◌, suc, Bool, true, false, not, cond, List, [], ◌∷◌, ◌++◌, None, Some, codes, length, get_or, take, drop, inl, inr, refl, ap, arith, subst, sym, append_assoc}
use Rattle.std.specs.Prelude.{◌&&◌, option_map}
use Rattle.std.specs.List.{list_all, position, position_or_len, slice_get}
use Rattle.std.specs.Str.{bytes_eq}
use Rattle.std.proofs.lemmas.Bool.{and_parts, both_ways}
use Rattle.std.proofs.lemmas.List.{drop-map, take-append-drop, length-append, length-take-le, length-map}
use Rattle.std.proofs.lemmas.Option.{slice_get-map, slice_get_read}
use Rattle.std.proofs.lemmas.List.Sums.{prefix_len-le-length}
use Rattle.std.proofs.Math.Seq.{drop-append_seam, drop-append-add}
use Rattle.ifmap_elem.specs.declared.elements.Child as the
use Rattle.ifmap_elem.specs.declared.elements.Child.{Child, out-Child}
use Rattle.ifmap_elem.specs.declared.elements.Child.TheOpen.{Child-F}
use Rattle.ifmap_elem.specs.declared.elements.Element.{Element}
use Rattle.ifmap_elem.specs.declared.elements.Name.{Name}
use Rattle.ifmap_lemmas.specs.Positions.{at_place, no_place, place_is}
use Rattle.ifmap_elem.specs.WhiteSpace.{is_blank_part}
use Rattle.ifmap_forms.specs.Tables.{Part, parts_in}
use Rattle.ifmap_lemmas.specs.Texts.{eq_itself, eq_tells}
use Rattle.ifmap_elem.specs.Fit.{is_element}
use Rattle.ifmap_envelopes.specs.Envelopes.{IsOnlyElement, IsBodyAt, IsPartAt, blank_front, envelope_name, is_first, is_last_part, is_part_named, is_solid_part}
use Rattle.ifmap_elem.specs.Chars.{is_white}
use Rattle.ifmap_envelopes.proofs.Alone.{at_header, AreBlank, part_of, text_of, no_element, after_text}
use Rattle.ifmap_elem.specs.laws.ArrangedLaws.{out_element}
use Rattle.ifmap_elem.specs.Building.{is_name}

-- ---- names

pub is_name_tells : (n m : Name) → is_name n m ≡ true → n ≡ m
is_name_tells n m e =
    let parts = and_parts (bytes_eq n.space m.space) (bytes_eq n.local m.local) e in
    let spaces = eq_tells n.space m.space parts.0 in
    let locals = eq_tells n.local m.local parts.1 in
    λ i. record { space = spaces i; local = locals i }

pub names_itself : (n m : Name) → n ≡ m → is_name n m ≡ true
names_itself n m e =
    subst (λ (m : Name). is_name n m ≡ true) e
    ((λ i. eq_itself n.space i && bytes_eq n.local n.local) ∙ eq_itself n.local)

-- ---- 1. white space at the front

blank_step : (t : Bool) (part : Part) (parts : List Part) (n : ℕ) → is_blank_part part ≡ t → AreBlank (take n parts)
    → AreBlank (take (cond t (1 + n) 0) (part ∷ parts))
blank_step true part parts n white blank =
    let one : 1 + n ≡ suc n = omega arith in
    let whole : list_all is_blank_part (take (1 + n) (part ∷ parts)) ≡ (is_blank_part part && list_all is_blank_part (take n parts)) =
    ap (λ k. list_all is_blank_part (take k (part ∷ parts))) one in
    whole ∙ (λ i. white i && blank i)
blank_step false part parts n white blank = refl

front_is_blank : (parts : List Part) → AreBlank (take (blank_front parts) parts)
front_is_blank [] = refl
front_is_blank (part ∷ parts) = blank_step (is_blank_part part) part parts (blank_front parts) refl (front_is_blank parts)

-- blank parts before an element are the whole front
pub front_of : (before after : List Part) (e : Element) → AreBlank before
    → blank_front (before ++ (part_of e ∷ after)) ≡ length before
front_of [] after e blank = refl
front_of (Child-F.Element g ∷ before) after e blank = absurd (no_element g before blank)
front_of (Child-F.Text t ∷ before) after e blank =
    let white = (and_parts (list_all is_white t) (list_all is_blank_part before) blank).0 in
    let next = front_of before after e (after_text t before blank) in
    (λ i. cond (white i) (1 + next i) 0) ∙ (let one : 1 + length before ≡ length (text_of t ∷ before) = omega arith in one)

-- ---- 2. the one element in a body

module _ (p : Part → Bool) where
  -- what passes at the front of some parts, and white space after it
  pub open_last : (rest : List Part) → is_last_part p rest ≡ true
      → (part : Part) × (after : List Part) × (rest ≡ part ∷ after) × (p part ≡ true) × AreBlank after
  open_last [] h = let wrong : false ≡ true = h in cc
  open_last (part ∷ after) h =
      let parts = and_parts (p part) (list_all is_blank_part after) h in
      (part, after, refl, parts.0, parts.1)

  pub close_last : (part : Part) (after : List Part) → p part ≡ true → AreBlank after → is_last_part p (part ∷ after) ≡ true
  close_last part after h blank = λ i. h i && blank i

element_there : (part : Part) → is_element part ≡ true → (e : Element) × (part ≡ part_of e)
element_there (Child-F.Element e) h = (e, refl)
element_there (Child-F.Text t) h = let wrong : false ≡ true = h in cc

pub element_named : (local : List ℕ) (part : Part) → is_part_named local part ≡ true
    → (e : Element) × (part ≡ part_of e) × (e.name ≡ envelope_name local)
element_named local (Child-F.Element e) h = (e, refl, is_name_tells e.name (envelope_name local) h)
element_named local (Child-F.Text t) h = let wrong : false ≡ true = h in cc

module _ (parts : List Part) (index : ℕ) (is : index ≡ blank_front parts) where
  within : index ≤ length parts
  within = let low : blank_front parts ≤ length parts = prefix_len-le-length is_blank_part parts in omega (arith, is, low)

  front_blank : AreBlank (take index parts)
  front_blank = subst (λ (n : ℕ). AreBlank (take n parts)) (sym is) (front_is_blank parts)

  pub alone_there : is_last_part is_element (drop index parts) ≡ true → (e : Element) × IsOnlyElement parts index e
  alone_there h =
      let o = open_last is_element (drop index parts) h in
      let e = element_there o.0 o.3 in (
        e.0,
        record {
          before = take index parts;
          after = o.1;
          parts_are = sym (take-append-drop index parts) ∙ ap (λ (ps : List Part). take index parts ++ ps)
              (o.2 ∙ ap (λ (part : Part). part ∷ o.1) e.1);
          blank_before = front_blank;
          blank_after = o.4;
          index_is = sym (length-take-le index parts within);
        },
      )

  pub none_alone : is_last_part is_element (drop index parts) ≡ false → (j : ℕ) (e : Element) → IsOnlyElement parts j e → ⊥
  none_alone h j e a =
      let there : index ≡ length a.before =
      is ∙ (ap blank_front a.parts_are ∙ front_of a.before a.after e a.blank_before) in
      let rest : drop index parts ≡ part_of e ∷ a.after =
      (λ i. drop (there i) (a.parts_are i)) ∙ drop-append_seam a.before (part_of e ∷ a.after) in
      let passes : is_last_part is_element (drop index parts) ≡ true =
      ap (is_last_part is_element) rest ∙ close_last is_element (part_of e) a.after refl a.blank_after in
      let wrong : false ≡ true = sym h ∙ passes in
      cc

-- ---- 3. the body

abbrev pub is_body : Part → Bool
is_body = is_part_named (codes "Body")

abbrev pub is_header : Part → Bool
is_header = is_part_named (codes "Header")

module _ (parts : List Part) (first : ℕ) (is : first ≡ blank_front parts) where
  pub body_first : is_last_part is_body (drop first parts) ≡ true → (body : Element) × IsBodyAt parts first body
  body_first h =
      let o = open_last is_body (drop first parts) h in
      let e = element_named (codes "Body") o.0 o.3 in (
        e.0,
        record {
          before = take first parts;
          after = o.1;
          parts_are = sym (take-append-drop first parts) ∙ ap (λ (ps : List Part). take first parts ++ ps)
              (o.2 ∙ ap (λ (part : Part). part ∷ o.1) e.1);
          header = inl (front_blank parts first is);
          blank = o.4;
          named = e.2;
          index_is = sym (length-take-le first parts (within parts first is));
        },
      )

  -- what begins at the front: a header and the parts after it
  pub record IsHeaded (header : Element) (rest : List Part) : Type 0 where
    pub parts_are : parts ≡ take first parts ++ (part_of header ∷ rest)
    pub named : header.name ≡ envelope_name (codes "Header")

  pub header_stands_first : is_first is_header (drop first parts) ≡ true → (header : Element) × (rest : List Part) × IsHeaded header rest
  header_stands_first h = from (drop first parts) refl h
    where
      from : (left : List Part) → drop first parts ≡ left → is_first is_header left ≡ true
          → (header : Element) × (rest : List Part) × IsHeaded header rest
      from [] e h = let wrong : false ≡ true = h in cc
      from (part ∷ rest) e h =
          let n = element_named (codes "Header") part h in (
            n.0,
            rest,
            record {
              parts_are = sym (take-append-drop first parts)
                  ∙ ap (λ (ps : List Part). take first parts ++ ps) (e ∙ ap (λ (p : Part). p ∷ rest) n.1);
              named = n.2;
            },
          )

  front_length : length (take first parts) ≡ first
  front_length = length-take-le first parts (within parts first is)

  module _ (header : Element) (rest : List Part) (head : IsHeaded header rest) where
    past_front : (n : ℕ) → drop (first + suc n) parts ≡ drop n rest
    past_front n =
        (λ i. drop (sym front_length i + suc n) (head.parts_are i))
        ∙ drop-append-add (take first parts) (part_of header ∷ rest) (suc n)

    pub after_header : drop (first + 1) parts ≡ rest
    after_header = (let one : first + 1 ≡ first + suc 0 = refl in ap (λ n. drop n parts) one) ∙ past_front 0

    pub after_blank : (k : ℕ) → drop (first + 1 + k) parts ≡ drop k rest
    after_blank k = (let one : first + 1 + k ≡ first + suc k = omega arith in ap (λ n. drop n parts) one) ∙ past_front k

    pub body_after : (index : ℕ) → index ≡ first + 1 + blank_front rest → is_last_part is_body (drop index parts) ≡ true
        → (body : Element) × IsBodyAt parts index body
    body_after index at h =
        let k = blank_front rest in
        let left : drop index parts ≡ drop k rest = ap (λ n. drop n parts) at ∙ after_blank k in
        let o = open_last is_body (drop k rest) (sym (ap (is_last_part is_body) left) ∙ h) in
        let e = element_named (codes "Body") o.0 o.3 in
        let low : k ≤ length rest = prefix_len-le-length is_blank_part rest in
        let before : List Part = take first parts ++ (part_of header ∷ take k rest) in
        let split : rest ≡ take k rest ++ (part_of e.0 ∷ o.1) =
        sym (take-append-drop k rest) ∙ ap (λ (ps : List Part). take k rest ++ ps)
        (o.2 ∙ ap (λ (part : Part). part ∷ o.1) e.1) in (
          e.0,
          record {
            before = before;
            after = o.1;
            parts_are = head.parts_are ∙ ap (λ (ps : List Part). take first parts ++ (part_of header ∷ ps)) split
                ∙ sym (append_assoc (take first parts) (part_of header ∷ take k rest) (part_of e.0 ∷ o.1));
            header = inr (
              first,
              header,
              head.named,
              record {
                before = take first parts;
                after = take k rest;
                parts_are = refl;
                blank_before = front_blank parts first is;
                blank_after = front_is_blank rest;
                index_is = sym front_length;
              },
            );
            blank = o.4;
            named = e.2;
            index_is =
                let front = front_length in
                let back : length (take k rest) ≡ k = length-take-le k rest low in
                let both = length-append (take first parts) (part_of header ∷ take k rest) in
                omega (arith, at, front, back, both);
          },
        )

  -- a body beside which no header stands is the first
  body_is_first : (j : ℕ) (body : Element) (b : IsBodyAt parts j body) → AreBlank b.before → is_last_part is_body (drop first parts) ≡ true
  body_is_first j body b blank =
      let there : first ≡ length b.before = is ∙ (ap blank_front b.parts_are ∙ front_of b.before b.after body blank) in
      let rest : drop first parts ≡ part_of body ∷ b.after =
      (λ i. drop (there i) (b.parts_are i)) ∙ drop-append_seam b.before (part_of body ∷ b.after) in
      ap (is_last_part is_body) rest
      ∙ close_last is_body (part_of body) b.after (names_itself body.name (envelope_name (codes "Body")) b.named)
      b.blank

  -- where a header stands before a body, it is the first
  pub record HasHeader (b_after : List Part) (body : Element) : Type 0 where
    pub header : Element
    pub between : List Part
    pub blank : AreBlank between
    pub named : header.name ≡ envelope_name (codes "Header")
    pub rest_is : drop first parts ≡ part_of header ∷ (between ++ (part_of body ∷ b_after))
    pub parts_are : parts ≡ take first parts ++ (part_of header ∷ (between ++ (part_of body ∷ b_after)))

  has_header : (j : ℕ) (body : Element) (b : IsBodyAt parts j body) (index : ℕ) (header : Element)
      → header.name ≡ envelope_name (codes "Header") → IsOnlyElement b.before index header → HasHeader b.after body
  has_header j body b index header named h =
      let split : parts ≡ h.before ++ (part_of header ∷ (h.after ++ (part_of body ∷ b.after))) =
      b.parts_are ∙ at_header b.before b.after index header body h in
      let there : first ≡ length h.before =
      is ∙ (ap blank_front split ∙ front_of h.before (h.after ++ (part_of body ∷ b.after)) header h.blank_before) in
      let rest : drop first parts ≡ part_of header ∷ (h.after ++ (part_of body ∷ b.after)) =
      (λ i. drop (there i) (split i)) ∙ drop-append_seam h.before (part_of header ∷ (h.after ++ (part_of body ∷ b.after))) in
      record {
        header = header;
        between = h.after;
        blank = h.blank_after;
        named = named;
        rest_is = rest;
        parts_are = sym (take-append-drop first parts) ∙ ap (λ (ps : List Part). take first parts ++ ps) rest;
      }

  starts_headed : (after : List Part) (body : Element) → HasHeader after body → is_first is_header (drop first parts) ≡ true
  starts_headed after body h =
      ap (is_first is_header) h.rest_is ∙ names_itself h.header.name (envelope_name (codes "Header")) h.named

  pub no_body_first : is_last_part is_body (drop first parts) ≡ false → is_first is_header (drop first parts) ≡ false → (j : ℕ)
      (body : Element)
      → IsBodyAt parts j body → ⊥
  no_body_first f g j body b = elim b.header [
    | inl blank ↦ both_ways (is_last_part is_body (drop first parts)) f (body_is_first j body b blank)
    | inr h ↦ both_ways (is_first is_header (drop first parts)) g
        (starts_headed b.after body (has_header j body b h.0 h.1 h.2 h.3))
  ]

  pub no_body_after : is_last_part is_body (drop first parts) ≡ false → (index : ℕ)
      → index ≡ first + 1 + blank_front (drop (first + 1) parts) → is_last_part is_body (drop index parts) ≡ false → (j : ℕ)
      (body : Element)
      → IsBodyAt parts j body → ⊥
  no_body_after f index at g j body b = elim b.header [
    | inl blank ↦ both_ways (is_last_part is_body (drop first parts)) f (body_is_first j body b blank)
    | inr h ↦ no_later (has_header j body b h.0 h.1 h.2 h.3)
  ]
    where
      no_later : HasHeader b.after body → ⊥
      no_later h =
          let rest : List Part = h.between ++ (part_of body ∷ b.after) in
          let head : IsHeaded h.header rest = record { parts_are = h.parts_are; named = h.named } in
          let k : blank_front (drop (first + 1) parts) ≡ length h.between =
          ap blank_front (after_header h.header rest head) ∙ front_of h.between b.after body h.blank in
          let left : drop index parts ≡ part_of body ∷ b.after =
          ap (λ n. drop n parts) (at ∙ ap (λ n. first + 1 + n) k) ∙ after_blank h.header rest head (length h.between)
          ∙ drop-append_seam h.between (part_of body ∷ b.after) in
          both_ways (is_last_part is_body (drop index parts)) g
          (ap (is_last_part is_body) left
          ∙ close_last is_body (part_of body) b.after (names_itself body.name (envelope_name (codes "Body")) b.named) b.blank)

-- ---- 4. what stands at an index

seam : (before : List Part) (part : Part) (after : List Part) → slice_get (before ++ (part ∷ after)) (length before) ≡ Some part
seam [] part after = refl
seam (p ∷ before) part after = seam before part after

stands : (parts before after : List Part) (index : ℕ) (e : Element) → parts ≡ before ++ (part_of e ∷ after) → index ≡ length before
    → IsPartAt parts index e
stands parts before after index e is at = (λ i. slice_get (is i) (at i)) ∙ seam before (part_of e) after

pub body_stands : (parts : List Part) (index : ℕ) (body : Element) → IsBodyAt parts index body → IsPartAt parts index body
body_stands parts index body b = stands parts b.before b.after index body b.parts_are b.index_is

pub alone_stands : (parts : List Part) (index : ℕ) (e : Element) → IsOnlyElement parts index e → IsPartAt parts index e
alone_stands parts index e a = stands parts a.before a.after index e a.parts_are a.index_is

one_part : (parts : List Part) (index : ℕ) (e f : Element) → IsPartAt parts index e → IsPartAt parts index f → e ≡ f
one_part parts index e f a b =
    let same : Some (part_of e) ≡ Some (part_of f) = sym a ∙ b in
    let parts_same : part_of e ≡ part_of f = cc in
    cc

-- an element of which a property tells by the parts beside it, and which is taken where it stands
module _ (IsThere : List Part → ℕ → Element → Type 0)
    (place : (parts : List Part) (index : ℕ) (e : Element) → IsThere parts index e → IsPartAt parts index e) where
  taken_there : (parts : List Part) (index : ℕ) (e : Element) → ((f : Element) × IsThere parts index f) → IsPartAt parts index e
      → IsThere parts index e
  taken_there parts index e b there =
      subst (λ (f : Element). IsThere parts index f) (one_part parts index b.0 e (place parts index b.0 b.1) there) b.1

  -- the children as a slice, and as they are held
  module _ {sliced children : List Child} (slice_is : sliced ≡ children) where
    pub none_sliced : ((index : ℕ) (e : Element) → IsThere (parts_in sliced) index e → ⊥) → (index : ℕ) (e : Element)
        → IsThere (parts_in children) index e → ⊥
    none_sliced none index e a = none index e (subst (λ (cs : List Child). IsThere (parts_in cs) index e) (sym slice_is) a)

    module _ {held : List Child} (held_are : held ≡ children) (index : ℕ) (there : (f : Element) × IsThere (parts_in sliced) index f) where
      pub none_held : ((e : Element) → IsPartAt (parts_in held) index e → ⊥) → (i : ℕ) (e : Element)
          → IsThere (parts_in children) i e → ⊥
      none_held none i e a =
          none there.0
          (subst (λ (cs : List Child). IsPartAt (parts_in cs) index there.0) (slice_is ∙ sym held_are)
          (place (parts_in sliced) index there.0 there.1))

      pub found_held : (e : Element) → IsPartAt (parts_in held) index e → IsThere (parts_in children) index e
      found_held e at =
          subst (λ (cs : List Child). IsThere (parts_in cs) index e) slice_is
          (taken_there (parts_in sliced) index e there
          (subst (λ (cs : List Child). IsPartAt (parts_in cs) index e) (sym (slice_is ∙ sym held_are)) at))

-- a child that is taken out

module _ (cs : List Child) (index : ℕ) where
  module _ (child : Child) (low : index < length cs) (is : child ≡ get_or cs index child) where
    taken : slice_get (parts_in cs) index ≡ Some (out-Child child)
    taken = slice_get-map out-Child cs index ∙ ap (option_map out-Child) (slice_get_read cs (length cs) index child refl low is)

    pub element_taken : (e : Element) → child ≡ the.Element e → IsPartAt (parts_in cs) index e
    element_taken e named = taken ∙ ap (λ (part : Part). Some part) (ap out-Child named ∙ out_element e)

-- ---- 5. white space, as the code finds it

front_step : (t : Bool) (n m : ℕ) → n ≡ m → cond (not (not t)) (1 + n) 0 ≡ cond t (1 + m) 0
front_step true n m e = ap (λ k. 1 + k) e
front_step false n m e = refl

abbrev is_solid_child : Child → Bool
is_solid_child c = is_solid_part (out-Child c)

solid_places : (cs : List Child) → position_or_len is_solid_child cs ≡ blank_front (parts_in cs)
solid_places [] = refl
solid_places (c ∷ cs) =
    front_step (is_blank_part (out-Child c)) (position_or_len is_solid_child cs) (blank_front (parts_in cs)) (solid_places cs)

module _ (cs : List Child) where
  pub solid_found : (index : ℕ) → at_place index ≡ position (λ (c : Child). is_solid_part (out-Child c)) cs
      → index ≡ blank_front (parts_in cs)
  solid_found index h = sym (place_is is_solid_child cs index h) ∙ solid_places cs

  pub no_solid : None ≡ position (λ (c : Child). is_solid_part (out-Child c)) cs → length cs ≡ blank_front (parts_in cs)
  no_solid h = sym (no_place is_solid_child cs h) ∙ solid_places cs

  pub front_within : (index : ℕ) → index ≡ blank_front (parts_in cs) → index ≤ length cs
  front_within index is =
      let low = prefix_len-le-length is_blank_part (parts_in cs) in
      let same = length-map cs out-Child in
      omega (arith, is, low, same)

  pub parts_from : (left : List Child) (start : ℕ) → left ≡ drop start cs → parts_in left ≡ drop start (parts_in cs)
  parts_from left start is = ap parts_in is ∙ sym (drop-map out-Child start cs)
