-- A request that a body means is within its bounds.
-- 1. What checks find, taken apart.
-- 2. Values of attributes.
-- 3. How deep parts nest.
-- 4. Metadata.
-- 5. Operations and requests.
-- 6. Bodies.
use Rattle.std.proofs.Common.{◌≡◌, ◌⊎◌, ◌∙◌, ◌++◌, ◌+◌, ◌<◌, ◌≤◌, ◌^◌, ◌&&◌, ℕ, suc, min, Bool, true, false, List, [], ◌∷◌, Option, None}
use Rattle.std.proofs.Common.{Some, IfSome, Ok, length, map, refl, ap, sym, subst, inl, inr, arith}
use Rattle.std.specs.Prelude.{if◌then◌else◌, nat_le, nat_lt}
use Rattle.std.specs.List.{AllByRecursion, list_all}
use Rattle.std.specs.Str.{bytes_eq}
use Rattle.std.proofs.lemmas.Bool.{and_parts}
use Rattle.std.proofs.lemmas.Bool.Decides.{nat_tests}
use Rattle.ifmap_elem.specs.Chars.{is_white}
use Rattle.ifmap_elem.specs.Folds.{at_child_element, at_element, each_child}
use Rattle.ifmap_elem.specs.Nesting.{child_levels, child_nesting, element_levels, greatest_of, nesting}
use Rattle.ifmap_elem.specs.declared.elements.Child as the
use Rattle.ifmap_elem.specs.declared.elements.Child.{Child, out-Child}
use Rattle.ifmap_elem.specs.declared.elements.Child.TheOpen.{Child-F}
use Rattle.ifmap_elem.specs.declared.elements.Element.{Element}
use Rattle.ifmap_elem.specs.laws.FitLaws.{nesting_arranged, out_text}
use Rattle.ifmap_requests.specs.ifmap_envelopes.Envelopes.{IsEnvelope}
use Rattle.ifmap_ident.specs.ifmap_reader.declared.scoping.Scope.{Scope}
use Rattle.ifmap_ident.specs.declared.codes.Code.{Code}
use Rattle.ifmap_ident.specs.declared.codes.Code.TheVariants.{Failure, InvalidSchemaVersion}
use Rattle.ifmap_ident.specs.declared.identifiers.Identifier.{Identifier}
use Rattle.ifmap_ident.specs.declared.items.Item.{Item}
use Rattle.ifmap_ident.specs.Parts.{has_only, value_of}
use Rattle.ifmap_meta.specs.declared.metadata.Metadata.{Metadata}
use Rattle.ifmap_meta.specs.Stamps.{content_of}
use Rattle.ifmap_requests.specs.ifmap_forms.Checks.{Check, check_if, check_then, err_value, fail, need, need_some, ok_value, pass}
use Rattle.ifmap_requests.specs.ifmap_forms.Items.{from_list, is_list, item_of, list_if_there, list_check}
use Rattle.ifmap_requests.specs.ifmap_forms.Scopes.{Scopes, scopes_below}
use Rattle.ifmap_requests.specs.ifmap_forms.Tables.{Both, ElementForm, Part, AttributeTable, table_with, both, each_element, form_check, form_or, no_attributes, parts_in}
use Rattle.ifmap_requests.specs.ifmap_forms.Tables.{element_parts}
use Rattle.ifmap_requests.specs.ifmap_forms.Values.{greatest_size, longest_name, session_field, usual_size}
use Rattle.ifmap_requests.specs.ifmap_forms.Values.{Field, depth_field, field_check, name_field, number_of_digits, read_depth}
use Rattle.ifmap_requests.specs.ifmap_forms.Values.{read_name, read_size, size_field}
use Rattle.ifmap_requests.specs.declared.publish_ops.PublishOp.{PublishOp}
use Rattle.ifmap_requests.specs.declared.requests.Request.{Request}
use Rattle.ifmap_requests.specs.declared.requests.SubscribeOp.{SubscribeOp}
use Rattle.ifmap_requests.specs.Means.{Means, scopes_from}
use Rattle.ifmap_requests.specs.Published.{metadata_check, published_check}
use Rattle.ifmap_requests.specs.RequestForms.{after_depth, after_links, after_size, links_field}
use Rattle.ifmap_requests.specs.RequestForms.{SearchValues, delete_form, delete_from_form, end_form, end_from_form, end_session_form, end_session_of}
use Rattle.ifmap_requests.specs.ifmap_envelopes.Spaces.{ifmap_space}
use Rattle.ifmap_requests.specs.RequestForms.{from_end_session, from_poll, from_purge, from_renewal, from_search, from_subscribe}
use Rattle.ifmap_requests.specs.RequestForms.{named_request_check, new_session_form, new_session_of, notify_form, notify_of}
use Rattle.ifmap_requests.specs.RequestForms.{other_request_check, poll_form, poll_of, publish_form, publish_of, publish_op_check}
use Rattle.ifmap_requests.specs.RequestForms.{purge_form, purge_of, renew_form, renewal_of, request_check, search_attributes, search_form}
use Rattle.ifmap_requests.specs.RequestForms.{search_from, search_of, subscribe_form, subscribe_of, subscribe_op_check}
use Rattle.ifmap_requests.specs.RequestForms.{subscription_form, subscription_from_form, update_form, update_from_form}
use Rattle.ifmap_writing.specs.Bounds.{IsBounded, IsBoundedMetadata, IsBoundedName, IsBoundedPublish, IsBoundedSearch, IsBoundedSubscribe}
use Rattle.ifmap_elem.specs.laws.ArrangedLaws.{out_element}
use Rattle.ifmap_elem.specs.Building.{is_name}

-- ---- (1) checks taken apart

module _ {X : Type 0} where
  needed_holds : (b : Bool) (code : Code) (check : Check X) (x : X) → need b code check (ok_value x) → (b ≡ true) × check (ok_value x)
  needed_holds true code check x h = (refl, h)
  needed_holds false code check x h = let wrong : ok_value x ≡ err_value code = h in cc

  either_found : (b : Bool) (one other : Check X) (x : X) → check_if b one other (ok_value x) → one (ok_value x) ⊎ other (ok_value x)
  either_found true one other x h = inl h
  either_found false one other x h = inr h

  same_ok_values : (x y : X) → ok_value x ≡ ok_value y → x ≡ y
  same_ok_values x y h = cc

module _ {X Y : Type 0} where
  some_found : (code : Code) (o : Option X) (check : X → Check Y) (y : Y) → need_some code o check (ok_value y)
      → (x : X) × (o ≡ Some x) × check x (ok_value y)
  some_found code None check y h = let wrong : ok_value y ≡ err_value code = h in cc
  some_found code (Some x) check y h = (x, refl, h)

module _ {X A C : Type 0} (form : ElementForm A C) (make : A → C → X) (scopes : Scopes) (e : Element) (x : X) where
  -- what a form found was made of
  pub record Parts : Type 0 where
    pub first : A
    pub others : C
    pub attributes : form.attributes.reads (scopes []) e (ok_value first)
    pub content : form.content scopes (element_parts e) (ok_value others)
    pub made : x ≡ make first others

  form_parts : form_check form make scopes e (ok_value x) → Parts
  form_parts h =
      let r = h.1 in
      let inner = needed_holds (has_only (form.passed_over ++ form.attributes.locals) e) Failure
      (check_then (form.content scopes (element_parts e)) (λ c. pass (both r.0 c))) h.0 r.2 in
      let is : h.0 ≡ both r.0 inner.1.0 = same_ok_values h.0 (both r.0 inner.1.0) inner.1.2 in
      record {
        first = r.0;
        others = inner.1.0;
        attributes = r.1;
        content = inner.1.1;
        made = same_ok_values x (make h.0.first h.0.others) h.2 ∙ ap (λ (b : Both A C). make b.first b.others) is;
      }

module _ {X Y : Type 0} (field : Field X) (table : AttributeTable Y) (scope : Scope) (e : Element) (b : Both X Y) where
  beside_parts : (table_with field table).reads scope e (ok_value b)
      → field_check field scope e (ok_value b.first) × table.reads scope e (ok_value b.others)
  beside_parts h =
      let is : both h.0 h.2.0 ≡ b = sym (same_ok_values b (both h.0 h.2.0) h.2.2) in (
        subst (λ (c : Both X Y). field_check field scope e (ok_value c.first)) is h.1,
        subst (λ (c : Both X Y). table.reads scope e (ok_value c.others)) is h.2.1,
      )

-- ---- (2) values

name_bounded : (o : Option (List ℕ)) (name : List ℕ) → read_name o (ok_value name) → IsBoundedName name
name_bounded None name h = let wrong : ok_value name ≡ err_value Failure = h in cc
name_bounded (Some text) name h =
    let found = needed_holds (nat_le 1 (length text) && nat_le (length text) longest_name) Failure (pass text) name h in
    let tests = and_parts (nat_le 1 (length text)) (nat_le (length text) longest_name) found.0 in
    let low = tests.0 in
    let high = tests.1 in
    let some : 1 ≤ length text = grind (arith, nat_tests) in
    let few : length text ≤ longest_name = grind (arith, nat_tests) in
    subst IsBoundedName (sym (same_ok_values name text found.1)) (record { some = some; few = few })

depth_bounded : (o : Option (List ℕ)) (n : ℕ) → read_depth o (ok_value n) → n < 2 ^ 32
depth_bounded None n h = let is : n ≡ 0 = same_ok_values n 0 h in omega (arith, is)
depth_bounded (Some text) n h =
    let found = some_found Failure (number_of_digits text) (λ m. need (nat_lt m (2 ^ 32)) Failure (pass m)) n h in
    let tested = needed_holds (nat_lt found.0 (2 ^ 32)) Failure (pass found.0) n found.2 in
    let test = tested.0 in
    let is : n ≡ found.0 = same_ok_values n found.0 tested.1 in
    let low : found.0 < 2 ^ 32 = grind (arith, nat_tests) in
    subst (λ (m : ℕ). m < 2 ^ 32) (sym is) low

size_bounded : (o : Option (List ℕ)) (n : ℕ) → read_size o (ok_value n) → n ≤ greatest_size
size_bounded None n h = let is : n ≡ usual_size = same_ok_values n usual_size h in omega (arith, is)
size_bounded (Some text) n h =
    let found = some_found Failure (number_of_digits text) (λ m. pass (min m greatest_size)) n h in
    let is : n ≡ min found.0 greatest_size = same_ok_values n (min found.0 greatest_size) found.2 in
    omega (arith, is)

search_bounded : (scope : Scope) (e : Element) (v : SearchValues) → search_attributes.reads scope e (ok_value v)
    → (v.others.first < 2 ^ 32) × (v.others.others.first ≤ greatest_size)
search_bounded scope e v h =
    let first = beside_parts links_field after_links scope e v h in
    let second = beside_parts depth_field after_depth scope e v.others first.1 in
    let third = beside_parts size_field after_size scope e v.others.others second.1 in (
      depth_bounded (value_of depth_field.local e) v.others.first second.0,
      size_bounded (value_of size_field.local e) v.others.others.first third.0,
    )

-- ---- (3) how deep parts nest

abbrev IsLow : ℕ → Part → Type 0
IsLow n (Child-F.Element e) = nesting e ≤ n
IsLow n (Child-F.Text text) = Unit {0}

abbrev AreLow : ℕ → List Part → Type 0
AreLow n parts = AllByRecursion (IsLow n) parts

module _ (n : ℕ) where
  child_low : (c : Child) → child_nesting c ≤ n → IsLow n (out-Child c)
  child_low = each_child (λ c. child_nesting c ≤ n → IsLow n (out-Child c)) (λ e. Unit {0}) in_element in_text (λ e each. tt)
    where
      in_element : (e : Element) → Unit {0} → child_nesting (the.Element e) ≤ n → IsLow n (out-Child (the.Element e))
      in_element e none low =
          subst (IsLow n) (sym (out_element e)) (subst (λ (k : ℕ). k ≤ n) (at_child_element ℕ ℕ child_levels element_levels e) low)

      in_text : (t : List ℕ) → child_nesting (the.Text t) ≤ n → IsLow n (out-Child (the.Text t))
      in_text t low = subst (IsLow n) (sym (out_text t)) tt

  children_low : (cs : List Child) → greatest_of (map child_nesting cs) ≤ n → AreLow n (parts_in cs)
  children_low [] low = tt
  children_low (c ∷ cs) low =
      (child_low c (omega (arith, low)), children_low cs (omega (arith, low)))

  pub parts_low : (e : Element) → nesting e ≤ suc n → AreLow n (element_parts e)
  parts_low e low =
      let is : nesting e ≡ suc (greatest_of (map child_nesting e.children)) = at_element ℕ ℕ child_levels element_levels e in
      children_low e.children (omega (arith, is, low))

  middle_low : (before : List Part) (e : Element) (after : List Part) → AreLow n (before ++ (Child-F.Element e ∷ after)) → nesting e ≤ n
  middle_low [] e after low = low.0
  middle_low (part ∷ before) e after low = middle_low before e after low.1

  chosen_low : (b : Bool) (one other : List Part) → AreLow n one → AreLow n other → AreLow n (if b then one else other)
  chosen_low true one other low more = low
  chosen_low false one other low more = more

  from_low : (parts : List Part) → AreLow n parts → AreLow n (from_list parts)
  from_low [] low = tt
  from_low (part ∷ parts) low = chosen_low (is_list part) (part ∷ parts) (from_list parts) low (from_low parts low.1)

-- each of elements that nest so deep at most
module _ {X : Type 0} (n : ℕ) (one : ℕ → Element → Check X) (P : X → Type 0)
    (gives : (index : ℕ) (e : Element) (x : X) → nesting e ≤ n → one index e (ok_value x) → P x) where
  each_given : (parts : List Part) (index : ℕ) (xs : List X) → AreLow n parts → each_element one index parts (ok_value xs)
      → AllByRecursion P xs
  each_given [] index xs low h = subst (AllByRecursion P) (sym (same_ok_values xs [] h)) tt
  each_given (Child-F.Element e ∷ parts) index xs low h =
      subst (AllByRecursion P) (sym (same_ok_values xs (h.0 ∷ h.2.0) h.2.2))
      (gives index e h.0 low.0 h.1, each_given parts (index + 1) h.2.0 low.1 h.2.1)
  each_given (Child-F.Text text ∷ parts) index xs low h =
      each_given parts (index + 1) xs low.1 (needed_holds (list_all is_white text) Failure (each_element one (index + 1) parts) xs h).1

-- ---- (4) metadata

content_nests : (e : Element) → nesting (content_of e) ≡ nesting e
content_nests e =
    at_element ℕ ℕ child_levels element_levels (content_of e) ∙ sym (at_element ℕ ℕ child_levels element_levels e)

metadata_bounded : (index : ℕ) (e : Element) (m : Metadata) → nesting e ≤ 59 → metadata_check e (ok_value m) → IsBoundedMetadata m
metadata_bounded index e m low made =
    let is : nesting m.element ≡ nesting e = ap nesting made.element ∙ nesting_arranged (content_of e) ∙ content_nests e in
    omega (arith, is, low)

list_bounded : (e : Element) (elements : List Metadata) → nesting e ≤ 60 → list_check metadata_check e (ok_value elements)
    → AllByRecursion IsBoundedMetadata elements
list_bounded e elements low h =
    each_given 59 (λ index inner. metadata_check inner) IsBoundedMetadata metadata_bounded (element_parts e) 0 elements (parts_low 59 e low)
    (needed_holds (has_only [] e) Failure (each_element (λ index inner. metadata_check inner) 0 (element_parts e)) elements h).1

abbrev AreBounded : Option (List Metadata) → Type 0
AreBounded list = IfSome list (λ elements. AllByRecursion IsBoundedMetadata elements)

list_at_bounded : (parts : List Part) (list : Option (List Metadata)) → AreLow 60 parts → list_if_there metadata_check parts (ok_value list)
    → AreBounded list
list_at_bounded [] list low h = subst AreBounded (sym (same_ok_values list None h)) tt
list_at_bounded (Child-F.Element e ∷ after) list low h =
    let found = needed_holds (list_all _ after) Failure (pass (Some h.0)) list h.2 in
    subst AreBounded (sym (same_ok_values list (Some h.0) found.1)) (list_bounded e h.0 low.0 h.1)
list_at_bounded (Child-F.Text text ∷ after) list low h = let wrong : ok_value list ≡ err_value Failure = h in cc

published_bounded : (parts : List Part) (b : Both Item (List Metadata)) → AreLow 60 parts → published_check parts (ok_value b)
    → AllByRecursion IsBoundedMetadata b.others
published_bounded parts b low h =
    let list = h.2.0 in
    let at = list_at_bounded (from_list parts) list (from_low 60 parts low) h.2.1 in
    let item = some_found Failure (item_of h.0) (λ item. need_some Failure list (λ elements. pass (both item elements))) b h.2.2 in
    let elements = some_found Failure list (λ elements. pass (both item.0 elements)) b item.2 in
    let is : both item.0 elements.0 ≡ b = sym (same_ok_values b (both item.0 elements.0) elements.2) in
    subst (λ (c : Both Item (List Metadata)). AllByRecursion IsBoundedMetadata c.others) is (subst AreBounded elements.1 at)

-- ---- (5) operations and requests

publish_bounded : (scopes : Scopes) (e : Element) (op : PublishOp) → nesting e ≤ 61 → publish_op_check scopes e (ok_value op)
    → IsBoundedPublish op
publish_bounded scopes e op low h = elim
    (either_found (is_name e.name update_form.name) (form_check update_form update_from_form scopes e) _ op
    h) [
      | inl found ↦
          let p = form_parts update_form update_from_form scopes e op found in
          subst IsBoundedPublish (sym p.made) (published_bounded (element_parts e) p.others (parts_low 60 e low) p.content)
      | inr later ↦ elim (either_found (is_name e.name notify_form.name) (form_check notify_form notify_of scopes e) _ op later) [
        | inl found ↦
            let p = form_parts notify_form notify_of scopes e op found in
            subst IsBoundedPublish (sym p.made) (published_bounded (element_parts e) p.others (parts_low 60 e low) p.content)
        | inr last ↦ elim
            (either_found (is_name e.name delete_form.name) (form_check delete_form delete_from_form scopes e) (fail Failure) op
            last) [
              | inl found ↦ let p = form_parts delete_form delete_from_form scopes e op found in subst IsBoundedPublish (sym p.made) tt
              | inr wrong ↦ let apart : ok_value op ≡ err_value Failure = wrong in cc
            ]
      ]
    ]

bounded_of : (start : Identifier) (v : SearchValues) → (v.others.first < 2 ^ 32) × (v.others.others.first ≤ greatest_size)
    → IsBoundedSearch (search_from start v)
bounded_of start v b = record { depth = b.0; size = b.1 }

subscribe_bounded : (scopes : Scopes) (e : Element) (op : SubscribeOp) → subscribe_op_check scopes e (ok_value op) → IsBoundedSubscribe op
subscribe_bounded scopes e op h =
    elim (either_found (is_name e.name subscription_form.name) (form_check subscription_form subscription_from_form scopes e) _ op h) [
      | inl found ↦
          let p = form_parts subscription_form subscription_from_form scopes e op found in
          let a = beside_parts name_field search_attributes (scopes []) e p.first p.attributes in
          subst IsBoundedSubscribe (sym p.made) (
            name_bounded (value_of name_field.local e) p.first.first a.0,
            bounded_of p.others p.first.others (search_bounded (scopes []) e p.first.others a.1),
          )
      | inr later ↦
          elim (either_found (is_name e.name end_form.name) (form_check end_form end_from_form scopes e) (fail Failure) op later) [
            | inl found ↦
                let p = form_parts end_form end_from_form scopes e op found in
                let a = beside_parts name_field no_attributes (scopes []) e p.first p.attributes in
                subst IsBoundedSubscribe (sym p.made) (name_bounded (value_of name_field.local e) p.first.first a.0)
            | inr wrong ↦ let apart : ok_value op ≡ err_value Failure = wrong in cc
          ]
    ]

module _ (scopes : Scopes) (e : Element) (r : Request) where
  -- a form whose requests have no bounds, or another
  free : {A C : Type 0} (form : ElementForm A C) (make : A → C → Request) (other : Check Request) → ((a : A) (c : C) → IsBounded (make a c))
      → (other (ok_value r) → IsBounded r) → form_or form make scopes e other (ok_value r) → IsBounded r
  free form make other own later h = elim (either_found (is_name e.name form.name) (form_check form make scopes e) other r h) [
    | inl found ↦ let p = form_parts form make scopes e r found in subst IsBounded (sym p.made) (own p.first p.others)
    | inr rest ↦ later rest
  ]

  none_bounded : fail Failure (ok_value r) → IsBounded r
  none_bounded h = let wrong : ok_value r ≡ err_value Failure = h in cc

  purge_bounded : from_purge scopes e (ok_value r) → IsBounded r
  purge_bounded = free purge_form purge_of (fail Failure) (λ a c. tt) none_bounded

  subscribes_bounded : from_subscribe scopes e (ok_value r) → IsBounded r
  subscribes_bounded h = elim (either_found (is_name e.name subscribe_form.name) (form_check subscribe_form subscribe_of scopes e)
      (from_purge scopes e) r h) [
        | inl found ↦
            let p = form_parts subscribe_form subscribe_of scopes e r found in
            subst IsBounded (sym p.made)
            (each_given (nesting e) (λ index inner. subscribe_op_check (scopes_below scopes index) inner) IsBoundedSubscribe
            (λ index inner op low found. subscribe_bounded (scopes_below scopes index) inner op found) (element_parts e) 0 p.others
            (parts_low (nesting e) e (omega arith)) p.content)
        | inr rest ↦ purge_bounded rest
      ]

  searches_bounded : from_search scopes e (ok_value r) → IsBounded r
  searches_bounded h = elim (either_found (is_name e.name search_form.name) (form_check search_form search_of scopes e)
      (from_subscribe scopes e) r h) [
        | inl found ↦
            let p = form_parts search_form search_of scopes e r found in
            let a = beside_parts session_field search_attributes (scopes []) e p.first p.attributes in
            subst IsBounded (sym p.made) (bounded_of p.others p.first.others (search_bounded (scopes []) e p.first.others a.1))
        | inr rest ↦ subscribes_bounded rest
      ]

  other_bounded : other_request_check scopes e (ok_value r) → IsBounded r
  other_bounded =
      free new_session_form new_session_of (from_renewal scopes e) (λ a c. tt)
      (free renew_form renewal_of (from_end_session scopes e) (λ a c. tt)
      (free end_session_form end_session_of (from_poll scopes e) (λ a c. tt)
      (free poll_form poll_of (from_search scopes e) (λ a c. tt) searches_bounded)))

  request_bounded : nesting e ≤ 62 → request_check scopes e (ok_value r) → IsBounded r
  request_bounded low h =
      let named = (needed_holds (bytes_eq e.name.space ifmap_space) InvalidSchemaVersion (named_request_check scopes e) r h).1 in
      elim (either_found (is_name e.name publish_form.name) (form_check publish_form publish_of scopes e) (other_request_check scopes e) r
      named) [
        | inl found ↦
            let p = form_parts publish_form publish_of scopes e r found in
            subst IsBounded (sym p.made)
            (each_given 61 (λ index inner. publish_op_check (scopes_below scopes index) inner) IsBoundedPublish
            (λ index inner op low found. publish_bounded (scopes_below scopes index) inner op low found) (element_parts e) 0 p.others
            (parts_low 61 e low) p.content)
        | inr rest ↦ other_bounded rest
      ]

-- ---- (6) bodies

inner_low : (root : Element) (path : List ℕ) (inner : Element) → IsEnvelope root path inner → nesting root ≤ 64 → nesting inner ≤ 62
inner_low root path inner is low =
    let body = middle_low 63 is.body_at.before is.body is.body_at.after
    (subst (AreLow 63) is.body_at.parts_are (parts_low 63 root low)) in
    middle_low 62 is.alone.before inner is.alone.after (subst (AreLow 62) is.alone.parts_are (parts_low 62 is.body body))

-- a request that a body means is within its bounds
pub meant_bounded : (bytes : List ℕ) (r : Request) → Means bytes (Ok r) → IsBounded r
meant_bounded bytes r m =
    request_bounded (scopes_from m.reading m.path) m.inner r
    (inner_low m.reading.root m.path m.inner m.envelope.envelope m.envelope.shallow) m.checked
