-- What one more token makes of where a reader stands: it leads on, opens a level too many, or nothing goes on with it.
use Rattle.std.proofs.Common.{ℕ, Bool, false, List, [], ◌∷◌, ◌++◌, length, reverse, refl, subst, ◌⊎◌, inl, inr}
use Rattle.std.proofs.lemmas.Bool.{cases_Bool, cases_lt}
use Rattle.std.proofs.lemmas.List.{reverse-reverse}
use Rattle.ifmap_lemmas.specs.Deciding.{last_or_none}
use Rattle.ifmap_elem.specs.declared.readings.Reading.{Reading}
use Rattle.ifmap_elem.specs.declared.tokens.Qualified.{Qualified}
use Rattle.ifmap_elem.specs.declared.tokens.Tag.{Tag}
use Rattle.ifmap_elem.specs.declared.tokens.Token.{Token}
use Rattle.ifmap_elem.specs.declared.tokens.Token.TheVariants.{Declaration, Comment, Start, Empty, End, Section, Characters}
use Rattle.ifmap_reader.specs.declared.open_elements.OpenElement.{OpenElement}
use Rattle.ifmap_reader.specs.OpenElements.{with_characters, written_name}
use Rattle.ifmap_reader.specs.Progress.{Where, AtStart, Within, AfterRoot, IsDocumentFrom, IsCharacterData, is_margin, Leads, Passes, after_element}
use Rattle.ifmap_reader.proofs.Goings.{IsOther, no_start, no_empty, start_other}
use Rattle.ifmap_reader.proofs.Items.{closed_of}
use Rattle.ifmap_reader.proofs.Leading.{comment_leads, declaration_leads, words_lead_in_code, blank_leads_in_code, words_refused, start_leads_in_code, start_too_deep, empty_leads_in_code, empty_too_deep, end_leads_in_code, other_end, no_end, declaration_refused, margin_leads, no_margin}
use Rattle.ifmap_reader.proofs.deciding.Tags.{element_or_none, qualified_or_other}

module _ (depth : ℕ) where
  abbrev pub Goes : Where → Token → Type 0
  Goes w t =
      ((new : Where) × Leads depth w t new) ⊎ (Passes depth w t ⊎ ((ts : List Token) (r : Reading) → IsDocumentFrom w (t ∷ ts) r → ⊥))

  -- within some open elements, the innermost last
  start_goes : (old : List OpenElement) (tag : Tag) → Goes (Within (reverse old)) (Start tag)
  start_goes old tag = elim (element_or_none (reverse old) tag) [
    | inr none ↦ inr (inr (no_start (reverse old) tag none))
    | inl o ↦ elim (cases_lt (length old) depth) [
      | inl l ↦ inl (Within (reverse (old ++ o.0 ∷ [])), start_leads_in_code depth old (old ++ o.0 ∷ []) tag o.0 o.1 o.2 l refl)
      | inr g ↦ inr (inl (start_too_deep depth old tag o.0 o.1 g))
    ]
  ]

  empty_goes : (old : List OpenElement) (tag : Tag) → Goes (Within (reverse old)) (Empty tag)
  empty_goes old tag = elim (element_or_none (reverse old) tag) [
    | inr none ↦ inr (inr (no_empty (reverse old) tag none))
    | inl o ↦ elim (cases_lt (length old) depth) [
      | inl l ↦
          let k = closed_of o.0 in
          inl (after_element (reverse old) k.0 k.1.0, empty_leads_in_code depth old tag o.0 k.0 k.1.0 _ o.1 k.1.1 l refl)
      | inr g ↦ inr (inl (empty_too_deep depth old tag o.0 o.1 g))
    ]
  ]

  end_goes : (old : List OpenElement) (name : Qualified) → Goes (Within (reverse old)) (End name)
  end_goes old name = elim (last_or_none old) [
    | inr none ↦ inr (inr (no_end old name none))
    | inl l ↦ elim (qualified_or_other name (written_name l.1)) [
      | inr other ↦ inr (inr (other_end old l.0 l.1 name l.2 other))
      | inl same ↦
          let k = closed_of l.1 in
          inl (after_element (reverse l.0) k.0 k.1.0, end_leads_in_code depth old l.0 l.1 name k.0 k.1.0 _ l.2 same k.1.1 refl)
    ]
  ]

  data_goes : (old : List OpenElement) (t : Token) (blank : Bool) (text : List ℕ) → IsCharacterData blank text t
      → Goes (Within (reverse old)) t
  data_goes old t blank text w = elim (last_or_none old) [
    | inl l ↦
        let new = l.0 ++ with_characters l.1 text ∷ [] in
        inl (Within (reverse new), words_lead_in_code depth old l.0 new l.1 (with_characters l.1 text) t blank text w l.2 refl refl)
    | inr none ↦ elim (cases_Bool blank) [
      | inl b ↦ inl (Within (reverse []), blank_leads_in_code depth old [] t blank text w none refl b)
      | inr b ↦ inr (inr (words_refused old t blank text w none b))
    ]
  ]

  open_goes : (old : List OpenElement) (t : Token) → Goes (Within (reverse old)) t
  open_goes old Declaration = inr (inr (declaration_refused (reverse old)))
  open_goes old Comment = inl (Within (reverse old), comment_leads depth (reverse old))
  open_goes old (Start tag) = start_goes old tag
  open_goes old (Empty tag) = empty_goes old tag
  open_goes old (End name) = end_goes old name
  open_goes old (Section text) = data_goes old (Section text) false text (inr (refl, refl))
  open_goes old (Characters blank text) = data_goes old (Characters blank text) blank text (inl refl)

  -- but for a declaration the start is before the root
  from_start : (t : Token) → IsOther t → Goes (Within []) t → Goes AtStart t
  from_start t other (inl l) = inl (
    l.0,
    record {
      follows = λ ts r. let e = start_other t other ts r in let k = l.1.follows ts r in (λ x. k.0 (e.0 x), λ x. e.1 (k.1 x));
      fits = l.1.fits;
      linked = λ _. l.1.linked tt;
      counts = l.1.counts;
      within = l.1.within;
    },
  )
  from_start t other (inr (inl p)) = inr (inl (record {
    opens = p.opens;
    level_is = p.level_is;
    new = p.new;
    follows = λ ts r. let e = start_other t other ts r in let k = p.follows ts r in (λ x. k.0 (e.0 x), λ x. e.1 (k.1 x));
    deeper = p.deeper;
  }))
  from_start t other (inr (inr none)) = inr (inr (λ ts r x. none ts r ((start_other t other ts r).0 x)))

  start_or_declaration : (t : Token) → Goes AtStart t
  start_or_declaration Declaration = inl (Within [], declaration_leads depth)
  start_or_declaration Comment = from_start Comment (λ e. cc) (open_goes [] Comment)
  start_or_declaration (Start tag) = from_start (Start tag) (λ e. cc) (open_goes [] (Start tag))
  start_or_declaration (Empty tag) = from_start (Empty tag) (λ e. cc) (open_goes [] (Empty tag))
  start_or_declaration (End name) = from_start (End name) (λ e. cc) (open_goes [] (End name))
  start_or_declaration (Section text) = from_start (Section text) (λ e. cc) (open_goes [] (Section text))
  start_or_declaration (Characters blank text) = from_start (Characters blank text) (λ e. cc) (open_goes [] (Characters blank text))

  pub goes : (w : Where) (t : Token) → Goes w t
  goes AtStart t = start_or_declaration t
  goes (Within fs) t = subst (λ (gs : List OpenElement). Goes (Within gs) t) (reverse-reverse fs) (open_goes (reverse fs) t)
  goes (AfterRoot root) t = elim (cases_Bool (is_margin t)) [
    | inl m ↦ inl (AfterRoot root, margin_leads depth root t m)
    | inr m ↦ inr (inr (no_margin root t m))
  ]
