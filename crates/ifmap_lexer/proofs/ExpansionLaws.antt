-- Written characters and what they mean, part by part.
use Rattle.std.proofs.Common.{◌≡◌, ◌≢◌, ℕ, true, false, List, [], ◌∷◌, ◌++◌, refl, ap, sym, ◌∙◌, subst, append_assoc}
use Rattle.std.specs.Prelude.{Option, Some, None, encode_utf8}
use Rattle.std.specs.List.{flat_map}
use Rattle.std.proofs.lemmas.List.{append-nil}
use Rattle.ifmap_lemmas.specs.Emptiness.{first_there}
use Rattle.ifmap_lemmas.specs.Items.{To}
use Rattle.ifmap_elem.specs.Chars.{AllAre, ampersand, semicolon}
use Rattle.ifmap_elem.specs.Values.{ValuePart, Plain, Reference, TakesPart, EndsRun, SpellsOut, reference_value}
use Rattle.ifmap_lemmas.specs.Cuts.{one_cut}
use Rattle.ifmap_elem.specs.laws.OneToken.{one_part}
use Rattle.ifmap_lexer.specs.Cutting.{CutsAt, is_but}
use Rattle.ifmap_lexer.specs.Runs.{part_in}
use Rattle.ifmap_elem.specs.declared.escaping.TextPlace.{TextPlace}
use Rattle.ifmap_elem.specs.declared.escaping.TextPlace.TheVariants.{Value, Content}

empty_run : (place : TextPlace) → part_in place (Plain []) ≡ []
empty_run Content = refl
empty_run Value = refl

character_in : (place : TextPlace) (c : ℕ) → part_in place (Reference c) ≡ encode_utf8 c
character_in Content c = refl
character_in Value c = refl

no_run : (run rest tail : List ℕ) → run ≢ [] → AllAre (is_but ampersand) run → ampersand ∷ tail ≡ run ++ rest → ⊥
no_run [] rest tail some f e = some refl
no_run (b ∷ bs) rest tail some f e =
    let head : b ≡ ampersand = cc in
    let wrong : false ≡ true = subst (λ (n : ℕ). is_but ampersand n ≡ true) head f.0 in
    cc

module _ (place : TextPlace) where
  abbrev SpellsIn : List ℕ → List ℕ → Type 0
  SpellsIn written text = SpellsOut (part_in place) written text

  run_found : (run after u : List ℕ) → AllAre (is_but ampersand) run → EndsRun after → SpellsIn after u
      → SpellsIn (run ++ after) (part_in place (Plain run) ++ u)
  run_found [] after u f ends x = subst (SpellsIn after) (sym (ap (λ y. y ++ u) (empty_run place))) x
  run_found (b ∷ bs) after u f ends x = record {
    parts = Plain (b ∷ bs) ∷ x.parts;
    taken = (after, (refl, first_there b bs, f, ends), x.taken);
    text_is = ap (λ y. part_in place (Plain (b ∷ bs)) ++ y) x.text_is;
  }

  reference_found : (name beyond u : List ℕ) (c : ℕ) → AllAre (is_but semicolon) name → reference_value name ≡ Some c → SpellsIn beyond u
      → SpellsIn (ampersand ∷ (name ++ (semicolon ∷ beyond))) (encode_utf8 c ++ u)
  reference_found name beyond u c f e x =
      subst (λ (y : List ℕ). SpellsIn (ampersand ∷ (name ++ (semicolon ∷ beyond))) (y ++ u)) (character_in place c) (record {
        parts = Reference c ∷ x.parts;
        taken = (beyond, (name, refl, f, e), x.taken);
        text_is = ap (λ y. part_in place (Reference c) ++ y) x.text_is;
      })

  run_ahead : (run after : List ℕ) → AllAre (is_but ampersand) run → EndsRun after → (t : List ℕ) → SpellsIn (run ++ after) t → (u : List ℕ)
      × SpellsIn after u
  run_ahead [] after f ends t x = (t, x)
  run_ahead (b ∷ bs) after f ends t x = first x.parts x.taken
    where
      first : (parts : List ValuePart) → To TakesPart ((b ∷ bs) ++ after) parts [] → (u : List ℕ) × SpellsIn after u
      first [] l = absurd (first_there b (bs ++ after) l)
      first (p ∷ ps) l =
          let both = one_part ((b ∷ bs) ++ after) (Plain (b ∷ bs)) p after l.0 (refl, first_there b bs, f, ends) l.1 in (
            flat_map (part_in place) ps,
            record
                { parts = ps; taken = subst (λ (m : List ℕ). To TakesPart m ps []) (sym both.1) l.2; text_is = refl },
          )

  abbrev Refers : List ℕ → List ℕ → Type 0
  Refers name beyond = (c : ℕ) × (reference_value name ≡ Some c) × ((u : List ℕ) × SpellsIn beyond u)

  reference_ahead : (name beyond : List ℕ) → AllAre (is_but semicolon) name → (t : List ℕ)
      → SpellsIn (ampersand ∷ (name ++ (semicolon ∷ beyond))) t
      → Refers name beyond
  reference_ahead name beyond f t x = first x.parts x.taken
    where
      refers : (p : ValuePart) (ps : List ValuePart) (mid : List ℕ) → TakesPart (ampersand ∷ (name ++ (semicolon ∷ beyond))) p mid
          → To TakesPart mid ps []
          → Refers name beyond
      refers (Plain run) ps mid l m = absurd (no_run run mid (name ++ (semicolon ∷ beyond)) l.1 l.2 l.0)
      refers (Reference c) ps mid l m =
          let e : ampersand ∷ (name ++ (semicolon ∷ beyond)) ≡ ampersand ∷ (l.0 ++ (semicolon ∷ mid)) = l.1 in
          let tail : name ++ (semicolon ∷ beyond) ≡ l.0 ++ (semicolon ∷ mid) = cc in
          let both = one_cut (is_but semicolon) name l.0 (semicolon ∷ beyond) (semicolon ∷ mid) f l.2 refl refl tail in
          let after : semicolon ∷ beyond ≡ semicolon ∷ mid = both.1 in
          let same : mid ≡ beyond = cc in (
            c,
            ap reference_value both.0
                ∙ l.3,
            (
              flat_map (part_in place) ps,
              record
                  { parts = ps; taken = subst (λ (b : List ℕ). To TakesPart b ps []) same m; text_is = refl },
            ),
          )

      first : (parts : List ValuePart) → To TakesPart (ampersand ∷ (name ++ (semicolon ∷ beyond))) parts [] → Refers name beyond
      first [] l = absurd (first_there ampersand (name ++ (semicolon ∷ beyond)) l)
      first (p ∷ ps) l = refers p ps l.0 l.1 l.2

  no_reference : (after : List ℕ) → AllAre (is_but semicolon) after → (t : List ℕ) → SpellsIn (ampersand ∷ after) t → ⊥
  no_reference after f t x = first x.parts x.taken
    where
      inside : (name rest : List ℕ) (bs : List ℕ) → AllAre (is_but semicolon) bs → bs ≡ name ++ (semicolon ∷ rest) → ⊥
      inside [] rest [] g e = cc
      inside [] rest (b ∷ bs) g e =
          let head : b ≡ semicolon = cc in
          let wrong : false ≡ true = subst (λ (n : ℕ). is_but semicolon n ≡ true) head g.0 in
          cc
      inside (n ∷ ns) rest [] g e = cc
      inside (n ∷ ns) rest (b ∷ bs) g e = let tail : bs ≡ ns ++ (semicolon ∷ rest) = cc in inside ns rest bs g.1 tail

      refers : (p : ValuePart) (mid : List ℕ) → TakesPart (ampersand ∷ after) p mid → ⊥
      refers (Plain run) mid l = no_run run mid after l.1 l.2 l.0
      refers (Reference c) mid l =
          let e : ampersand ∷ after ≡ ampersand ∷ (l.0 ++ (semicolon ∷ mid)) = l.1 in
          let tail : after ≡ l.0 ++ (semicolon ∷ mid) = cc in
          inside l.0 mid after f tail

      first : (parts : List ValuePart) → To TakesPart (ampersand ∷ after) parts [] → ⊥
      first [] l = first_there ampersand after l
      first (p ∷ ps) l = refers p l.0 l.1

  -- how a reading goes on: what is left means what is missing
  pub record Along (written made rest : List ℕ) : Type 0 where
    pub found : (u : List ℕ) → SpellsIn rest u → SpellsIn written (made ++ u)
    pub ahead : (t : List ℕ) → SpellsIn written t → (u : List ℕ) × SpellsIn rest u

  pub along_start : (written made : List ℕ) → made ≡ [] → Along written made written
  along_start written made e = record {
    found = λ u x. subst (λ (m : List ℕ). SpellsIn written (m ++ u)) (sym e) x;
    ahead = λ t x. (t, x);
  }

  module _ (written made rest run after : List ℕ) (along : Along written made rest) (c : CutsAt ampersand rest run after) where
    reference_left : (t : List ℕ) → SpellsIn written t → (u : List ℕ) × SpellsIn (ampersand ∷ after) u
    reference_left t x =
        let a = along.ahead t x in
        run_ahead run (ampersand ∷ after) c.passes refl a.0 (subst (λ (b : List ℕ). SpellsIn b a.0) c.bytes_are a.1)

    pub along_unended : AllAre (is_but semicolon) after → (t : List ℕ) × SpellsIn written t → ⊥
    along_unended f s = let r = reference_left s.0 s.1 in no_reference after f r.0 r.1

    module _ (name beyond : List ℕ) (d : CutsAt semicolon after name beyond) where
      referred_left : (t : List ℕ) → SpellsIn written t → Refers name beyond
      referred_left t x =
          let r = reference_left t x in
          reference_ahead name beyond d.passes r.0 (subst (λ (b : List ℕ). SpellsIn (ampersand ∷ b) r.0) d.bytes_are r.1)

      pub along_unknown : reference_value name ≡ None → (t : List ℕ) × SpellsIn written t → ⊥
      along_unknown e s =
          let r = referred_left s.0 s.1 in
          let wrong : ◌≡◌ {A = Option ℕ} None (Some r.0) = sym e ∙ r.1 in
          cc

      pub along_next : (new : List ℕ) (ch : ℕ) → reference_value name ≡ Some ch
          → new ≡ (made ++ part_in place (Plain run)) ++ encode_utf8 ch
          → Along written new beyond
      along_next new ch e is = record {
        found = λ u x.
            let whole : rest ≡ run ++ (ampersand ∷ (name ++ (semicolon ∷ beyond))) =
            c.bytes_are ∙ ap (λ b. run ++ (ampersand ∷ b)) d.bytes_are in
            let m = run_found run (ampersand ∷ (name ++ (semicolon ∷ beyond))) (encode_utf8 ch ++ u) c.passes refl
            (reference_found name beyond u ch d.passes e x) in
            let all = along.found (part_in place (Plain run) ++ (encode_utf8 ch ++ u))
            (subst (λ (b : List ℕ). SpellsIn b (part_in place (Plain run) ++ (encode_utf8 ch ++ u))) (sym whole) m) in
            let joined : made ++ (part_in place (Plain run) ++ (encode_utf8 ch ++ u)) ≡ new ++ u
            = sym (ap (λ x. x ++ u) is ∙ append_assoc (made ++ part_in place (Plain run)) (encode_utf8 ch) u
            ∙ append_assoc made (part_in place (Plain run)) (encode_utf8 ch ++ u)) in
            subst (SpellsIn written) joined all;
        ahead = λ t x. (referred_left t x).2;
      }

  pub along_end : (written made rest text : List ℕ) → Along written made rest → AllAre (is_but ampersand) rest → text ≡ made
      ++ part_in place (Plain rest) → SpellsIn written text
  along_end written made rest text along f e =
      let nothing : SpellsIn [] [] = record { parts = []; taken = refl; text_is = refl } in
      let m = run_found rest [] [] f tt nothing in
      let n : SpellsIn rest (part_in place (Plain rest)) =
      subst (λ (b : List ℕ). SpellsIn b (part_in place (Plain rest))) (append-nil rest)
      (subst (SpellsIn (rest ++ [])) (append-nil (part_in place (Plain rest))) m) in
      subst (SpellsIn written) (sym e) (along.found (part_in place (Plain rest)) n)
