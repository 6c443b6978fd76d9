-- Readers that go from child to child and gather what each of them is.
-- 1. What is found of the rest of a list is, after what was made, what is found of the whole (`IsRestAfter`): how this starts, goes
--    further, stops and ends.
-- 2. One child among elements, and one among identifiers: where it is found to be this, what is found of the others comes after it; where
--    it has a defect, that is the defect of all.
-- 3. The same of a child as the code has it, and the turns of a loop along children.
use Rattle.std.specs.Prelude.{◌≡◌, ℕ, ◌+◌, Bool, true, false, List, [], ◌∷◌, ◌++◌, Option, None, Some, Result, Ok, Err, refl}
use Rattle.std.specs.List.{list_all}
use Rattle.std.proofs.Common.{◌∙◌, inl, inr, ap, sym, subst, append_assoc, append-nil}
use Rattle.ifmap_elem.specs.Chars.{is_white}
use Rattle.ifmap_elem.specs.declared.elements.Child as the
use Rattle.ifmap_elem.specs.declared.elements.Child.{Child, out-Child}
use Rattle.ifmap_elem.specs.declared.elements.Child.TheOpen.{Child-F}
use Rattle.ifmap_elem.specs.declared.elements.Element.{Element}
use Rattle.ifmap_elem.specs.laws.FitLaws.{out_text}
use Rattle.ifmap_ident.specs.declared.codes.Code.{Code}
use Rattle.ifmap_ident.specs.declared.codes.Code.TheVariants.{Failure}
use Rattle.ifmap_ident.specs.declared.identifiers.Identifier.{Identifier}
use Rattle.ifmap_forms.specs.declared.errors.FormError.{FormError}
use Rattle.ifmap_forms.specs.declared.errors.FormError.TheVariants.{Named, NoMemory}
use Rattle.ifmap_forms.specs.Answers.{IsChecked, IsCheckRefusal}
use Rattle.ifmap_forms.specs.Checks.{Check, check_then, need, pass}
use Rattle.ifmap_forms.specs.Items.{identifier_check, identifiers_check, may_follow}
use Rattle.ifmap_forms.specs.Tables.{Part, each_element, parts_in}
use Rattle.ifmap_elem.specs.laws.ArrangedLaws.{out_element}

module _ {X : Type 0} where
  -- what is there, as a list
  abbrev pub option_list : Option X → List X
  option_list None = []
  option_list (Some x) = x ∷ []

  abbrev pub ok_list : List X → Result (List X) Code
  ok_list xs = Ok xs

  abbrev pub err_list : Code → Result (List X) Code
  err_list code = Err code

  -- these, and then what is found
  abbrev pub after_made : List X → Result (List X) Code → Result (List X) Code
  after_made made (Ok xs) = Ok (made ++ xs)
  after_made made (Err code) = Err code

  -- what a check finds in the rest is, after what was made, what the check of the whole finds
  pub record IsRestAfter (whole rest : Check (List X)) (made : List X) : Type 0 where
    pub goes : (found : Result (List X) Code) → rest found → whole (after_made made found)

  after_none : (found : Result (List X) Code) → after_made [] found ≡ found
  after_none (Ok xs) = refl
  after_none (Err code) = refl

  after_more : (made more : List X) (found : Result (List X) Code) → after_made (made ++ more) found ≡ after_made made
      (after_made more found)
  after_more made more (Ok xs) = ap ok_list (append_assoc made more xs)
  after_more made more (Err code) = refl

  pub starts : (check : Check (List X)) → IsRestAfter check check []
  starts check = record { goes = λ found f. subst check (sym (after_none found)) f }

  pub goes_further : (whole rest next : Check (List X)) (made more : List X) → IsRestAfter whole rest made
      → ((found : Result (List X) Code) → next found → rest (after_made more found)) → IsRestAfter whole next (made ++ more)
  goes_further whole rest next made more g step = record {
    goes = λ found f. subst whole (sym (after_more made more found)) (g.goes (after_made more found) (step found f));
  }

  pub stops : (whole rest : Check (List X)) (made : List X) → IsRestAfter whole rest made → (error : FormError) → IsCheckRefusal rest error
      → IsCheckRefusal whole error
  stops whole rest made g (Named code) f = g.goes (err_list code) f
  stops whole rest made g NoMemory f = tt

  pub ends : (whole rest : Check (List X)) (made : List X) → IsRestAfter whole rest made → rest (Ok []) → whole (Ok made)
  ends whole rest made g f = subst (λ xs. whole (Ok xs)) (append-nil made) (g.goes (ok_list []) f)

-- ---- one child

module _ {X : Type 0} where
  -- an element that means one thing, or white space
  abbrev pub part_check : (Element → Check X) → Part → Check (Option X)
  part_check one (Child-F.Element e) = check_then (one e) (λ x. pass (Some x))
  part_check one (Child-F.Text text) = need (list_all is_white text) Failure (pass None)

  abbrev pub one_found : Option X → Result (Option X) Code
  one_found o = Ok o

  abbrev pub one_refused : Code → Result (Option X) Code
  one_refused code = Err code

  -- a child that is passed over adds nothing
  past : (b : Bool) (code : Code) (found : Result (List X) Code) (check : Check (List X)) (o : Option X)
      → need b code (pass {X = Option X} None) (one_found o) → check found → need b code check (after_made (option_list o) found)
  past true code found check None is f = subst check (sym (after_none found)) f
  past true code found check (Some x) is f = let wrong : one_found (Some x) ≡ one_found None = is in cc
  past false code found check o is f = let wrong : one_found o ≡ one_refused code = is in cc

  refusal_passes : (b : Bool) (code : Code) (check : Check (List X)) (c : Code)
      → need b code (pass {X = Option X} None) (one_refused c) → need b code check (err_list c)
  refusal_passes true code check c is = let wrong : one_refused c ≡ one_found None = is in cc
  refusal_passes false code check c is = let same : one_refused c ≡ one_refused code = is in let e : c ≡ code = cc in ap err_list e

module _ {X : Type 0} (one : ℕ → Element → Check X) (index : ℕ) (parts : List Part) where
  rest_of : Check (List X)
  rest_of = each_element one (index + 1) parts

  -- where a child is found to be this, what is found of the others comes after it
  pub part_goes_on : (part : Part) (o : Option X) → part_check (one index) part (one_found o) → (found : Result (List X) Code)
      → each_element one (index + 1) parts found → each_element one index (part ∷ parts) (after_made (option_list o) found)
  part_goes_on (Child-F.Element e) None is found f = let wrong : one_found None ≡ one_found (Some is.0) = is.2 in cc
  part_goes_on (Child-F.Element e) (Some x) is (Ok xs) f =
      let same : one_found (Some x) ≡ one_found (Some is.0) = is.2 in
      let e : x ≡ is.0 = cc in
      (is.0, is.1, (xs, f, ap ok_list (λ i. e i ∷ xs)))
  part_goes_on (Child-F.Element e) (Some x) is (Err code) f = inr (is.0, is.1, inl f)
  part_goes_on (Child-F.Text text) o is found f =
      past (list_all is_white text) Failure found (each_element one (index + 1) parts) o is f

  -- where it is found to be nothing, that is so of all
  pub part_stops : (part : Part) (error : FormError) → IsCheckRefusal (part_check (one index) part) error
      → IsCheckRefusal (each_element one index (part ∷ parts)) error
  part_stops part NoMemory is = tt
  part_stops (Child-F.Element e) (Named code) is = elim is [
    | inl f ↦ inl f
    | inr f ↦ let wrong : one_refused code ≡ one_found (Some f.0) = f.2 in cc
  ]
  part_stops (Child-F.Text text) (Named code) is =
      refusal_passes (list_all is_white text) Failure (each_element one (index + 1) parts) code is

-- ---- one identifier

-- an element that is an identifier which may follow these
abbrev pub following_check : ℕ → List Identifier → Element → Check Identifier
following_check most before e = check_then (identifier_check e) (λ i. need (may_follow most before i) Failure (pass i))

module _ (most : ℕ) (before : List Identifier) (parts : List Part) where
  abbrev identifier_found : Identifier → Result Identifier Code
  identifier_found i = Ok i

  abbrev identifier_refused : Code → Result Identifier Code
  identifier_refused code = Err code

  -- what a test lets pass is what was checked
  let_pass : (b : Bool) (code : Code) (i j : Identifier) → need b code (pass i) (identifier_found j) → (b ≡ true) × (j ≡ i)
  let_pass true code i j is = let same : identifier_found j ≡ identifier_found i = is in (refl, cc)
  let_pass false code i j is = let wrong : identifier_found j ≡ identifier_refused code = is in cc

  refuses : (b : Bool) (code c : Code) (i : Identifier) → need b code (pass i) (identifier_refused c) → (b ≡ false) × (c ≡ code)
  refuses true code c i is = let wrong : identifier_refused c ≡ identifier_found i = is in cc
  refuses false code c i is = let same : identifier_refused c ≡ identifier_refused code = is in (refl, cc)

  passes_on : (b : Bool) (code : Code) (check : Check (List Identifier)) (found : Result (List Identifier) Code) → b ≡ true → check found
      → need b code check found
  passes_on true code check found is f = f
  passes_on false code check found is f = cc

  fails_there : (b : Bool) (code c : Code) (check : Check (List Identifier)) → b ≡ false → c ≡ code → need b code check (err_list c)
  fails_there true code c check is same = cc
  fails_there false code c check is same = ap err_list same

  -- the others, after one that was found
  abbrev others_after : Identifier → Check (List Identifier)
  others_after i = check_then (identifiers_check most (before ++ i ∷ []) parts) (λ others. pass (i ∷ others))

  later : (i : Identifier) (found : Result (List Identifier) Code) → identifiers_check most (before ++ i ∷ []) parts found
      → others_after i (after_made (i ∷ []) found)
  later i (Ok others) f = (others, f, refl)
  later i (Err code) f = inl f

  joins_others : (e : Element) (i : Identifier) → identifier_check e (identifier_found i) → may_follow most before i ≡ true
      → (found : Result (List Identifier) Code) → others_after i (after_made (i ∷ []) found)
      → identifiers_check most before (Child-F.Element e ∷ parts) (after_made (i ∷ []) found)
  joins_others e i is may (Ok others) f =
      (i, is, passes_on (may_follow most before i) Failure (others_after i) (after_made (i ∷ []) (ok_list others)) may f)
  joins_others e i is may (Err code) f = inr (i, is, passes_on (may_follow most before i) Failure (others_after i) (err_list code) may f)

  -- where an identifier is found there, what is found of the others comes after it
  pub place_goes_on : (part : Part) (o : Option Identifier) → part_check (following_check most before) part (one_found o)
      → (found : Result (List Identifier) Code) → identifiers_check most (before ++ option_list o) parts found
      → identifiers_check most before (part ∷ parts) (after_made (option_list o) found)
  place_goes_on (Child-F.Element e) None is found f = let wrong : one_found {X = Identifier} None ≡ one_found (Some is.0) = is.2 in cc
  place_goes_on (Child-F.Element e) (Some i) is found f =
      let same : one_found (Some i) ≡ one_found (Some is.0) = is.2 in
      let was : i ≡ is.0 = cc in
      let passed = let_pass (may_follow most before is.1.0) Failure is.1.0 is.0 is.1.2 in
      let first : is.1.0 ≡ i = sym passed.1 ∙ sym was in
      joins_others e i (subst (λ j. identifier_check e (identifier_found j)) first is.1.1)
      (subst (λ j. may_follow most before j ≡ true) first passed.0) found (later i found f)
  place_goes_on (Child-F.Text text) o is found f =
      past (list_all is_white text) Failure found (identifiers_check most before parts) o is (by_part o is f)
    where
      by_part : (o : Option Identifier) → need (list_all is_white text) Failure (pass {X = Option Identifier} None) (one_found o)
          → identifiers_check most (before ++ option_list o) parts found → identifiers_check most before parts found
      by_part None is f = subst (λ b. identifiers_check most b parts found) (append-nil before) f
      by_part (Some i) is f = absurd (none (list_all is_white text) i is)
        where
          none : (b : Bool) (i : Identifier) → need b Failure (pass {X = Option Identifier} None) (one_found (Some i)) → ⊥
          none true i is = let wrong : one_found (Some i) ≡ one_found None = is in cc
          none false i is = let wrong : one_found (Some i) ≡ one_refused Failure = is in cc

  refused_on : (e : Element) (code : Code) → following_check most before e (identifier_refused code)
      → identifiers_check most before (Child-F.Element e ∷ parts) (err_list code)
  refused_on e code is = elim is [
    | inl f ↦ inl f
    | inr f ↦
        let there = refuses (may_follow most before f.0) Failure code f.0 f.2 in
        inr (f.0, f.1, fails_there (may_follow most before f.0) Failure code (others_after f.0) there.0 there.1)
  ]

  -- where none is found there, none are found in all
  pub place_stops : (part : Part) (error : FormError) → IsCheckRefusal (part_check (following_check most before) part) error
      → IsCheckRefusal (identifiers_check most before (part ∷ parts)) error
  place_stops part NoMemory is = tt
  place_stops (Child-F.Element e) (Named code) is = elim is [
    | inl f ↦ refused_on e code f
    | inr f ↦ let wrong : one_refused {X = Identifier} code ≡ one_found (Some f.0) = f.2 in cc
  ]
  place_stops (Child-F.Text text) (Named code) is =
      refusal_passes (list_all is_white text) Failure (identifiers_check most before parts) code is

-- ---- one child, as the code has it

module _ {X : Type 0} (one : Element → Check X) (child : Child) where
  module _ (e : Element) (is : child ≡ the.Element e) where
    child_is : out-Child child ≡ Child-F.Element e
    child_is = ap out-Child is ∙ out_element e

    pub part_found : (x : X) → one e (Ok x) → part_check one (out-Child child) (one_found (Some x))
    part_found x f = subst (λ (part : Part). part_check one part (one_found (Some x))) (sym child_is) (x, f, refl)

    at_element : (error : FormError) → IsCheckRefusal (one e) error → IsCheckRefusal (part_check one (Child-F.Element e)) error
    at_element (Named code) f = inl f
    at_element NoMemory f = tt

    pub part_refused : (error : FormError) → IsCheckRefusal (one e) error → IsCheckRefusal (part_check one (out-Child child)) error
    part_refused error f = subst (λ (part : Part). IsCheckRefusal (part_check one part) error) (sym child_is) (at_element error f)

  module _ (text : List ℕ) (is : child ≡ the.Text text) where
    text_opened : out-Child child ≡ Child-F.Text text
    text_opened = ap out-Child is ∙ out_text text

    pub part_passed : list_all is_white text ≡ true → part_check one (out-Child child) (one_found None)
    part_passed white = subst (λ (part : Part). part_check one part (one_found None)) (sym text_opened)
        (subst (λ (b : Bool). need b Failure (pass {X = Option X} None) (one_found None)) (sym white) refl)

    pub part_is_text : list_all is_white text ≡ false → part_check one (out-Child child) (one_refused Failure)
    part_is_text solid = subst (λ (part : Part). part_check one part (one_refused Failure)) (sym text_opened)
        (subst (λ (b : Bool). need b Failure (pass {X = Option X} None) (one_refused Failure)) (sym solid) refl)

    -- the answer to the text is that to the child
    pub text_answers_part : (r : Result (Option X) FormError)
        → IsChecked {X = Option X} (need (list_all is_white text) Failure (pass {X = Option X} None)) r
        → IsChecked (part_check one (out-Child child)) r
    text_answers_part r f = subst (λ (part : Part). IsChecked (part_check one part) r) (sym text_opened) f

-- ---- the turns of a loop along children

module _ {X : Type 0} (whole : Check (List X)) where
  pub begins : (made : List X) → made ≡ [] → IsRestAfter whole whole made
  begins made none = subst (λ (m : List X). IsRestAfter whole whole m) (sym none) (starts whole)

  module _ (one : ℕ → Element → Check X) (index : ℕ) (left : List Child) (made : List X)
      (g : IsRestAfter whole (each_element one index (parts_in left)) made) where
    module _ (child : Child) (others : List Child) (is : left ≡ child ∷ others) where
      parts_are : parts_in left ≡ out-Child child ∷ parts_in others
      parts_are = ap parts_in is

      pub elements_further : (o : Option X) (more : List X) → part_check (one index) (out-Child child) (one_found o)
          → more ≡ made ++ option_list o → IsRestAfter whole (each_element one (index + 1) (parts_in others)) more
      elements_further o more f same =
          subst (λ (m : List X). IsRestAfter whole (each_element one (index + 1) (parts_in others)) m) (sym same)
          (goes_further whole (each_element one index (parts_in left)) (each_element one (index + 1) (parts_in others)) made
          (option_list o) g
          (λ found r. subst (λ (ps : List Part). each_element one index ps (after_made (option_list o) found)) (sym parts_are)
          (part_goes_on one index (parts_in others) (out-Child child) o f found r)))

      pub elements_stop : (error : FormError) → IsCheckRefusal (part_check (one index) (out-Child child)) error → IsCheckRefusal whole error
      elements_stop error f =
          stops whole (each_element one index (parts_in left)) made g error
          (subst (λ (ps : List Part). IsCheckRefusal (each_element one index ps) error) (sym parts_are)
          (part_stops one index (parts_in others) (out-Child child) error f))

    pub elements_end : left ≡ [] → whole (ok_list made)
    elements_end none =
        ends whole (each_element one index (parts_in left)) made g
        (subst (λ (cs : List Child). each_element one index (parts_in cs) (ok_list [])) (sym none) refl)

module _ (whole : Check (List Identifier)) (most : ℕ) where
  pub identifiers_begin : (parts : List Part) (made : List Identifier) → made ≡ []
      → IsRestAfter (identifiers_check most [] parts) (identifiers_check most made parts) made
  identifiers_begin parts made none =
      subst (λ (m : List Identifier). IsRestAfter (identifiers_check most [] parts) (identifiers_check most m parts) m) (sym none)
      (starts (identifiers_check most [] parts))

  module _ (left : List Child) (made : List Identifier) (g : IsRestAfter whole (identifiers_check most made (parts_in left)) made) where
    module _ (child : Child) (others : List Child) (is : left ≡ child ∷ others) where
      places_are : parts_in left ≡ out-Child child ∷ parts_in others
      places_are = ap parts_in is

      pub identifiers_further : (o : Option Identifier) (more : List Identifier)
          → part_check (following_check most made) (out-Child child) (one_found o) → more ≡ made ++ option_list o
          → IsRestAfter whole (identifiers_check most more (parts_in others)) more
      identifiers_further o more f same =
          subst (λ (m : List Identifier). IsRestAfter whole (identifiers_check most m (parts_in others)) m) (sym same)
          (goes_further whole (identifiers_check most made (parts_in left))
          (identifiers_check most (made ++ option_list o) (parts_in others)) made
          (option_list o) g
          (λ found r. subst (λ (ps : List Part). identifiers_check most made ps (after_made (option_list o) found)) (sym places_are)
          (place_goes_on most made (parts_in others) (out-Child child) o f found r)))

      pub identifiers_stop : (error : FormError) → IsCheckRefusal (part_check (following_check most made) (out-Child child)) error
          → IsCheckRefusal whole error
      identifiers_stop error f =
          stops whole (identifiers_check most made (parts_in left)) made g error
          (subst (λ (ps : List Part). IsCheckRefusal (identifiers_check most made ps) error) (sym places_are)
          (place_stops most made (parts_in others) (out-Child child) error f))

    pub identifiers_end : left ≡ [] → whole (ok_list made)
    identifiers_end none =
        ends whole (identifiers_check most made (parts_in left)) made g
        (subst (λ (cs : List Child). identifiers_check most made (parts_in cs) (ok_list [])) (sym none) refl)
