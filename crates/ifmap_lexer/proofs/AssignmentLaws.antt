-- Assignments that are read are those that stand there.
-- Plan: (1) an assignment is a name, an equals sign and a value between quotes, and what is read of it is what stands there;
-- (2) assignments in a row: what goes on from what is left (`AreReadSoFar`), at first, one more, and at the end of the tag;
-- (3) where a tag ends, told by its next byte; (4) whole tags.
use Rattle.std.proofs.Common.{◌≡◌, ◌≢◌, ℕ, ◌<◌, Bool, true, false, List, [], ◌∷◌, ◌++◌, length, refl, ap, sym, ◌∙◌, subst, arith}
use Rattle.std.proofs.Common.{length-append, inl, inr}
use Rattle.std.specs.Prelude.{◌==◌}
use Rattle.std.proofs.lemmas.Bool.{or_cases}
use Rattle.std.specs.Str.{byte}
use Rattle.ifmap_lemmas.specs.Items.{To, to_last}
use Rattle.ifmap_elem.specs.Chars.{AllAre, IsCharacters, is_white, equals_sign, greater_than, less_than}
use Rattle.ifmap_elem.specs.Names.{name_bytes}
use Rattle.ifmap_elem.specs.Tokens.{TakesAssignment, TakesQuoted, TakesTag}
use Rattle.ifmap_elem.specs.Values.{IsValue}
use Rattle.ifmap_elem.specs.declared.tokens.Assignment.{Assignment}
use Rattle.ifmap_elem.specs.declared.tokens.Qualified.{Qualified}
use Rattle.ifmap_elem.specs.declared.tokens.Tag.{Tag}
use Rattle.ifmap_lemmas.specs.Cuts.{Stops, one_cut}
use Rattle.ifmap_lemmas.specs.Numbers.{equal_numbers}
use Rattle.ifmap_elem.specs.laws.NameBytes.{name_cut, white_stops_at_name, is_name_byte}
use Rattle.ifmap_elem.specs.laws.OneToken.{EndsTag, one_assignment, one_quoted, quoted_stops, assigned_stops}
use Rattle.ifmap_lexer.specs.Cutting.{Cuts, is_but}
use Rattle.ifmap_lexer.specs.Tags.{ClosesTag, IsAtEnd, TakesAssignments}
use Rattle.ifmap_lexer.specs.There.{IsGiven, NameAt, SomeAssignment, SomeAssignments, SomeGiven, SomeName, SomeTag}

abbrev pub SomeValue : List ℕ → Type 0
SomeValue written = (value : List ℕ) × IsValue written value

pub value_meant : (written text : List ℕ) → text ≡ written → SomeGiven written → SomeValue text
value_meant written text e s = (s.0, subst (λ (x : List ℕ). IsValue x s.0) (sym e) s.3)

module _ (bytes white inner : List ℕ) (c : Cuts is_white bytes white inner) where
  white_and_inner : (a : Assignment) (r : List ℕ) (t : TakesAssignment bytes a r)
      → (white ≡ t.white) × (inner ≡ name_bytes a.name ++ t.after)
  white_and_inner a r t = one_cut is_white white t.white inner (name_bytes a.name ++ t.after) c.passes t.is_white c.stops
      (white_stops_at_name a.name t.after t.is_name) (sym c.bytes_are ∙ t.bytes_are)

  pub no_white : white ≡ [] → SomeAssignment bytes → ⊥
  no_white e s = s.2.some_white (sym (white_and_inner s.0 s.1 s.2).0 ∙ e)

  pub some_name : SomeAssignment bytes → SomeName inner
  some_name s = let t = s.2 in (s.0.name, t.after, t.is_name, (white_and_inner s.0 s.1 t).1, quoted_stops t.after t.written s.1 t.given)

  module _ (name : Qualified) (after : List ℕ) (n : NameAt inner name after) where
    named : (a : Assignment) (r : List ℕ) (t : TakesAssignment bytes a r) → (name ≡ a.name) × (after ≡ t.after)
    named a r t = name_cut name a.name after t.after n.0 t.is_name n.2 (quoted_stops t.after t.written r t.given)
        (sym n.1 ∙ (white_and_inner a r t).1)

    pub no_value : ((w r : List ℕ) → TakesQuoted after w r → ⊥) → SomeAssignment bytes → ⊥
    no_value none s = none s.2.written s.1 (subst (λ (x : List ℕ). TakesQuoted x s.2.written s.1) (sym (named s.0 s.1 s.2).1) s.2.given)

    module _ (written rest : List ℕ) (q : TakesQuoted after written rest) where
      pub some_value : SomeAssignment bytes
          → (value : List ℕ) × IsCharacters written × AllAre (is_but less_than) written × IsValue written value
      some_value s =
          let t = s.2 in
          let same : written ≡ t.written =
          (one_quoted after written t.written rest s.1 q
          (subst (λ (x : List ℕ). TakesQuoted x t.written s.1) (sym (named s.0 s.1 t).1) t.given)).0 in (
            s.0.value,
            subst IsCharacters (sym same) t.characters,
            subst (AllAre (is_but less_than)) (sym same) t.no_tag,
            subst
                (λ (x : List ℕ). IsValue x s.0.value) (sym same) t.means,
          )

      pub assignment_found : (value : List ℕ) → white ≢ [] → IsGiven written value
          → TakesAssignment bytes (record { name = name; value = value }) rest
      assignment_found value some g = record {
        white = white;
        after = after;
        written = written;
        bytes_are = c.bytes_are ∙ ap (λ x. white ++ x) n.1;
        is_white = c.passes;
        some_white = some;
        is_name = n.0;
        given = q;
        characters = g.0;
        no_tag = g.1;
        means = g.2;
      }

      pub is_shorter : length rest < length bytes
      is_shorter =
          let end : List ℕ = q.quote ∷ rest in
          let value : List ℕ = q.quote ∷ (written ++ end) in
          let sign : List ℕ = equals_sign ∷ (q.after ++ value) in
          omega (
            arith,
            ap length c.bytes_are,
            length-append white inner,
            ap length n.1,
            length-append (name_bytes name) after,
            ap length
                q.bytes_are,
            length-append q.before sign,
            length-append q.after value,
            length-append written end,
          )

-- assignments in a row

pub closes_ends : (end : List ℕ) → ClosesTag end → EndsTag end
closes_ends [] h = h
closes_ends (b ∷ bs) h =
    elim (or_cases (b == greater_than) (b == byte "/") h) [
      | inl e ↦ subst (λ (n : ℕ). (is_white n ≡ false) × (is_name_byte n ≡ false)) (sym (equal_numbers b greater_than e)) (refl, refl)
      | inr e ↦ subst (λ (n : ℕ). (is_white n ≡ false) × (is_name_byte n ≡ false)) (sym (equal_numbers b (byte "/") e)) (refl, refl)
    ]

closes_stops : (end : List ℕ) → ClosesTag end → Stops is_white end
closes_stops [] h = tt
closes_stops (b ∷ bs) h = (closes_ends (b ∷ bs) h).0

-- how a read of assignments goes on from what is left
pub record AreReadSoFar (bytes : List ℕ) (made : List Assignment) (rest : List ℕ) : Type 0 where
  pub so_far : To TakesAssignment bytes made rest
  pub ahead : SomeAssignments bytes → SomeAssignments rest

pub goes_on_start : (bytes : List ℕ) (made : List Assignment) → made ≡ [] → AreReadSoFar bytes made bytes
goes_on_start bytes made e =
    record { so_far = subst (λ (m : List Assignment). To TakesAssignment bytes m bytes) (sym e) refl; ahead = λ s. s }

module _ (rest : List ℕ) (open_still : IsAtEnd rest → ⊥) where
  pub some_first : SomeAssignments rest → SomeAssignment rest
  some_first s = first s.0 s.2.assigned
    where
      first : (xs : List Assignment) → To TakesAssignment rest xs (s.2.white ++ s.1) → SomeAssignment rest
      first [] l = absurd (open_still (s.2.white, s.1, l, s.2.is_white, s.2.closes))
      first (x ∷ xs) l = (x, l.0, l.1)

  others_after : (a : Assignment) (after : List ℕ) → TakesAssignment rest a after → SomeAssignments rest → SomeAssignments after
  others_after a after takes s = first s.0 s.2.assigned
    where
      first : (xs : List Assignment) → To TakesAssignment rest xs (s.2.white ++ s.1) → SomeAssignments after
      first [] l = absurd (open_still (s.2.white, s.1, l, s.2.is_white, s.2.closes))
      first (x ∷ xs) l =
          let both = one_assignment rest a x after l.0 takes l.1 in (
            xs,
            s.1,
            record {
              white = s.2.white;
              assigned = subst (λ (m : List ℕ). To TakesAssignment m xs (s.2.white ++ s.1)) (sym both.1) l.2;
              is_white = s.2.is_white;
              closes = s.2.closes;
            },
          )

  pub goes_on_next : (bytes : List ℕ) (made new : List Assignment) (a : Assignment) (after : List ℕ) → AreReadSoFar bytes made rest
      → TakesAssignment rest a after → new ≡ made ++ a ∷ [] → AreReadSoFar bytes new after
  goes_on_next bytes made new a after g takes e = record {
    so_far = subst (λ (m : List Assignment). To TakesAssignment bytes m after) (sym e)
        (to_last TakesAssignment bytes made rest a after g.so_far takes);
    ahead = λ s. others_after a after takes (g.ahead s);
  }

pub goes_on_end : (bytes : List ℕ) (made : List Assignment) (rest white end : List ℕ) → AreReadSoFar bytes made rest → IsAtEnd rest
    → Cuts is_white rest white end → TakesAssignments bytes made end
goes_on_end bytes made rest white end g at c =
    let both = one_cut is_white white at.0 end at.1 c.passes at.3 c.stops (closes_stops at.1 at.4) (sym c.bytes_are ∙ at.2) in
    record {
      white = white;
      assigned = subst (To TakesAssignment bytes made) c.bytes_are g.so_far;
      is_white = c.passes;
      closes = subst ClosesTag (sym both.1) at.4;
    }

pub tells_end : (bytes white end : List ℕ) (b : Bool) → Cuts is_white bytes white end → (b ≡ true → ClosesTag end)
    × (ClosesTag end → b ≡ true) → (b ≡ true → IsAtEnd bytes) × (IsAtEnd bytes → b ≡ true)
tells_end bytes white end b c t = (
  (λ h. (white, end, c.bytes_are, c.passes, t.0 h)),
  (λ at. t.1 (subst ClosesTag
      (sym (one_cut is_white white at.0 end at.1 c.passes at.3 c.stops (closes_stops at.1 at.4) (sym c.bytes_are ∙ at.2)).1) at.4)),
)

-- tags

module _ (bytes inner : List ℕ) (e : bytes ≡ less_than ∷ inner) where
  inside : (tag : Tag) (end : List ℕ) (t : TakesTag bytes tag end) → inner ≡ name_bytes tag.name ++ t.after
  inside tag end t = let both : less_than ∷ inner ≡ less_than ∷ (name_bytes tag.name ++ t.after) = sym e ∙ t.bytes_are in cc

  stops : (tag : Tag) (end : List ℕ) (t : TakesTag bytes tag end) → ClosesTag end → Stops is_name_byte t.after
  stops tag end t closes = assigned_stops t.after tag.assignments t.white end t.is_white (closes_ends end closes) t.assigned

  pub tag_name : SomeTag bytes → SomeName inner
  tag_name s = (s.0.name, s.2.after, s.2.is_name, inside s.0 s.1 s.2, stops s.0 s.1 s.2 s.3)

  module _ (name : Qualified) (after : List ℕ) (n : NameAt inner name after) where
    pub tag_assignments : SomeTag bytes → SomeAssignments after
    tag_assignments s =
        let t = s.2 in
        let same : after ≡ t.after =
        (name_cut name s.0.name after t.after n.0 t.is_name n.2 (stops s.0 s.1 t s.3) (sym n.1 ∙ inside s.0 s.1 t)).1 in (
          s.0.assignments,
          s.1,
          record {
            white = t.white;
            assigned = subst (λ (x : List ℕ). To TakesAssignment x s.0.assignments (t.white ++ s.1)) (sym same) t.assigned;
            is_white = t.is_white;
            closes = s.3;
          },
        )

    pub tag_found : (assignments : List Assignment) (end : List ℕ) → TakesAssignments after assignments end
        → TakesTag bytes (record { name = name; assignments = assignments }) end × ClosesTag end
    tag_found assignments end t = (
      record {
        after = after;
        white = t.white;
        bytes_are = e ∙ ap (λ x. less_than ∷ x) n.1;
        is_name = n.0;
        assigned = t.assigned;
        is_white = t.is_white;
      },
      t.closes,
    )
