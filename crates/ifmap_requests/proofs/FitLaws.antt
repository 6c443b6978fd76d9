-- Each request that a body means is fit.
-- 1. What checks give, for what is composed of checks: it is enough to know it of the smallest ones.
-- 2. Attributes, 3. identifiers and items, 4. metadata.
-- 5. Operations and requests: each is one more form in a chain. 6. Bodies.
use Rattle.std.proofs.Common.{◌≡◌, ◌≤◌, ◌+◌, ◌++◌, ℕ, Bool, true, false, List, [], ◌∷◌, Option, None, Some, IfSome, Ok, codes}
use Rattle.std.proofs.Common.{length, refl, arith, subst, sym}
use Rattle.std.specs.Prelude.{◌&&◌, nat_le}
use Rattle.std.specs.List.{AllByRecursion, list_all}
use Rattle.std.specs.Str.{bytes_eq}
use Rattle.std.specs.declared.cmp.Ordering.{Ordering}
use Rattle.std.specs.declared.cmp.Ordering.TheVariants.{Less, Equal, Greater}
use Rattle.ifmap_lemmas.specs.Texts.{slice_cmp-turn}
use Rattle.ifmap_elem.specs.Chars.{IsCharacters, is_white}
use Rattle.ifmap_elem.specs.Fit.{IsFit}
use Rattle.ifmap_elem.specs.Nesting.{nesting}
use Rattle.ifmap_elem.specs.Spells.{Spells}
use Rattle.ifmap_elem.specs.declared.elements.Child.TheOpen.{Child-F}
use Rattle.ifmap_elem.specs.declared.elements.Element.{Element}
use Rattle.ifmap_elem.specs.declared.readings.Reading.{Reading}
use Rattle.ifmap_ident.specs.ifmap_reader.declared.scoping.Scope.{Scope}
use Rattle.ifmap_ident.specs.declared.codes.Code.{Code}
use Rattle.ifmap_ident.specs.declared.codes.Code.TheVariants.{Failure, InvalidSchemaVersion}
use Rattle.ifmap_ident.specs.declared.identifiers.Identifier.{Identifier}
use Rattle.ifmap_ident.specs.declared.items.Item.{Item}
use Rattle.ifmap_ident.specs.Canon.{IsIdentifier}
use Rattle.ifmap_ident.specs.Identifiers.{identifier_bytes, identifier_order}
use Rattle.ifmap_ident.specs.Items.{IsCanonItem, ordered_pair}
use Rattle.ifmap_ident.specs.Parts.{has_only, value_of}
use Rattle.ifmap_meta.specs.declared.metadata.Metadata.{Metadata}
use Rattle.ifmap_meta.specs.Whole.{IsMadeOf, IsMetadata, level_limit}
use Rattle.ifmap_forms.specs.Checks.{Check, check_if, check_then, err_value, fail, need, need_some, ok_value, pass}
use Rattle.ifmap_forms.specs.Items.{before_list, from_list, identifier_check, identifiers_check, item_content, item_of, list_if_there, list_check}
use Rattle.ifmap_forms.specs.Items.{may_follow, start_content}
use Rattle.ifmap_forms.specs.Scopes.{Scopes, scopes_below}
use Rattle.ifmap_forms.specs.Tables.{Both, ContentCheck, ElementForm, OneText, Part, AttributeTable, table_with, both, each_element, form_check, form_or}
use Rattle.ifmap_elem.specs.WhiteSpace.{is_blank_part}
use Rattle.ifmap_elem.specs.Building.{is_name}
use Rattle.ifmap_forms.specs.Tables.{list_of, no_attributes, no_children, element_parts, read_form, only_member}
use Rattle.ifmap_forms.specs.ifmap_filter.declared.filters.Filter.{Filter}
use Rattle.ifmap_ident.specs.declared.kinds.Kind.{Kind}
use Rattle.ifmap_forms.specs.Values.{greatest_limit, least_limit, longest_name, publisher_field, session_field}
use Rattle.ifmap_forms.specs.Values.{depth_field, filter_check, filter_field, kinds_field, size_field, Field, field_check, limit_field}
use Rattle.ifmap_forms.specs.Values.{name_field, number_of_digits, text_field, within_range}
use Rattle.ifmap_requests.specs.declared.requests.Request.{Request}
use Rattle.ifmap_requests.specs.Fit.{IsFitLimit, IsFitOp, IsFitRequest, IsFitSearch, IsFitSubscribeOp, MayBeFitFilter}
use Rattle.ifmap_requests.specs.FitFilters.{IsFitFilter}
use Rattle.ifmap_requests.specs.Means.{Means, scopes_from}
use Rattle.ifmap_requests.specs.Published.{metadata_check, published_content, published_from}
use Rattle.ifmap_requests.specs.RequestForms.{after_depth, after_links, after_size, links_field, result_field}
use Rattle.ifmap_requests.specs.RequestForms.{SearchValues, search_from, delete_form, delete_from_form, end_form, end_from_form}
use Rattle.ifmap_envelopes.specs.Spaces.{ifmap_space}
use Rattle.ifmap_requests.specs.RequestForms.{from_end_session, from_poll, from_purge, from_renewal, from_search, from_subscribe}
use Rattle.ifmap_requests.specs.RequestForms.{end_session_form, end_session_of, named_request_check, new_session_form}
use Rattle.ifmap_requests.specs.RequestForms.{new_session_of, notify_form, notify_of, other_request_check, poll_form, poll_of, publish_form}
use Rattle.ifmap_requests.specs.RequestForms.{publish_of, publish_op_check, purge_form, purge_of, renew_form, renewal_of}
use Rattle.ifmap_requests.specs.RequestForms.{request_check, search_attributes, search_form, search_of, session_attribute}
use Rattle.ifmap_requests.specs.RequestForms.{subscribe_form, subscribe_of, subscribe_op_check, subscription_form, subscription_from_form}
use Rattle.ifmap_requests.specs.RequestForms.{update_form, update_from_form}
use Rattle.ifmap_requests.proofs.FilterLaws.{AreFitDeclared, IsFitScope, filter_fit, scopes_fit}
use Rattle.ifmap_requests.proofs.Sound.{AreSound, IsSound, before_sound, from_sound, inner_sound, parts_sound, value_fit}

-- ---- 1. what checks give

module _ {X : Type 0} where
  -- each value that the check finds is such
  abbrev Gives : Check X → (X → Type 0) → Type 0
  Gives check P = (x : X) → check (Ok x) → P x

module _ {X : Type 0} (P : X → Type 0) where
  pass_gives : (x : X) → P x → Gives (pass x) P
  pass_gives x p y e = let same : ok_value y ≡ ok_value x = e in let is : y ≡ x = cc in subst P (sym is) p

  fail_gives : (code : Code) → Gives (fail code) P
  fail_gives code y e = let wrong : ok_value y ≡ err_value code = e in cc

  need_gives : (b : Bool) (code : Code) (check : Check X) → Gives check P → Gives (need b code check) P
  need_gives true code check g = g
  need_gives false code check g = fail_gives code

  if_gives : (b : Bool) (one other : Check X) → Gives one P → Gives other P → Gives (check_if b one other) P
  if_gives true one other g h = g
  if_gives false one other g h = h

module _ {X Y : Type 0} (P : X → Type 0) (Q : Y → Type 0) where
  then_gives : (first : Check X) (second : X → Check Y) → Gives first P → ((x : X) → P x → Gives (second x) Q)
      → Gives (check_then first second) Q
  then_gives first second g h y f = h f.0 (g f.0 f.1) y f.2

  some_gives : (code : Code) (o : Option X) (check : X → Check Y) → IfSome o P → ((x : X) → P x → Gives (check x) Q)
      → Gives (need_some code o check) Q
  some_gives code None check p h = fail_gives Q code
  some_gives code (Some x) check p h = h x p

-- ---- 2. attributes

-- each namespace in scope, at each path, is one that a document can have
abbrev AreFitScopes : Scopes → Type 0
AreFitScopes scopes = (path : List ℕ) → IsFitScope (scopes path)

-- each value of the attribute whose text is of characters is such
abbrev FieldGives : {X : Type 0} → Field X → (X → Type 0) → Type 0
FieldGives field P =
    (scope : Scope) (text : Option (List ℕ)) → IsFitScope scope → IfSome text IsCharacters → Gives (field.reads scope text) P

abbrev TableGives : {X : Type 0} → AttributeTable X → (X → Type 0) → Type 0
TableGives table P = (scope : Scope) (e : Element) → IsFitScope scope → IsSound level_limit e → Gives (table.reads scope e) P

abbrev ContentGives : {X : Type 0} → ContentCheck X → (X → Type 0) → Type 0
ContentGives content P =
    (scopes : Scopes) (parts : List Part) → AreFitScopes scopes → AreSound level_limit parts → Gives (content scopes parts) P

abbrev Any : {X : Type 0} → X → Type 0
Any x = Unit {0}

abbrev AreBoth : {X Y : Type 0} → (X → Type 0) → (Y → Type 0) → Both X Y → Type 0
AreBoth P Q b = P b.first × Q b.others

module _ {X Y : Type 0} (P : X → Type 0) (Q : Y → Type 0) (field : Field X) (table : AttributeTable Y) where
  beside_gives : FieldGives field P → TableGives table Q → TableGives (table_with field table) (AreBoth P Q)
  beside_gives f t scope e fit s =
      then_gives P (AreBoth P Q) (field_check field scope e) (λ x. check_then (table.reads scope e) (λ y. pass (both x y)))
      (f scope (value_of field.local e) fit (value_fit field.local e s.fit))
      (λ x p. then_gives Q (AreBoth P Q) (table.reads scope e) (λ y. pass (both x y)) (t scope e fit s)
      (λ y q. pass_gives (AreBoth P Q) (both x y) (p, q)))

-- of any value nothing need be known
any_field : {X : Type 0} (field : Field X) → FieldGives field Any
any_field field scope text fit is x f = tt

any_table : {X : Type 0} (table : AttributeTable X) → TableGives table Any
any_table table scope e fit s x f = tt

any_content : {X : Type 0} (content : ContentCheck X) → ContentGives content Any
any_content content scopes parts fit s x f = tt

text_gives : (local : List ℕ) → FieldGives (text_field local) IsCharacters
text_gives local scope None fit is = fail_gives IsCharacters Failure
text_gives local scope (Some text) fit is = pass_gives IsCharacters text is

name_gives : FieldGives name_field IsCharacters
name_gives scope None fit is = fail_gives IsCharacters Failure
name_gives scope (Some text) fit is =
    need_gives IsCharacters (nat_le 1 (length text) && nat_le (length text) longest_name) Failure (pass text)
    (pass_gives IsCharacters text is)

limit_within : (n : ℕ) → IsFitLimit (Some (within_range least_limit greatest_limit n))
limit_within n = (omega arith, omega arith)

any_number : (o : Option ℕ) → IfSome o Any
any_number None = tt
any_number (Some n) = tt

limit_gives : FieldGives limit_field IsFitLimit
limit_gives scope None fit is = pass_gives IsFitLimit None tt
limit_gives scope (Some text) fit is =
    some_gives Any IsFitLimit Failure (number_of_digits text) (λ n. pass (Some (within_range least_limit greatest_limit n)))
    (any_number (number_of_digits text))
    (λ n any. pass_gives IsFitLimit (Some (within_range least_limit greatest_limit n)) (limit_within n))

filter_gives : (local : List ℕ) → FieldGives (filter_field local) MayBeFitFilter
filter_gives local scope None fit is = pass_gives MayBeFitFilter None tt
filter_gives local scope (Some text) fit is =
    then_gives IsFitFilter MayBeFitFilter (filter_check scope text) (λ filter. pass (Some filter))
    (λ filter w. filter_fit scope fit text filter is w) (λ filter f. pass_gives MayBeFitFilter (Some filter) f)

-- ---- forms

module _ {X A C : Type 0} (P : A → Type 0) (Q : C → Type 0) (R : X → Type 0) (form : ElementForm A C) (make : A → C → X) where
  form_gives : TableGives form.attributes P → ContentGives form.content Q → ((a : A) (c : C) → P a → Q c → R (make a c))
      → (scopes : Scopes) (e : Element) → AreFitScopes scopes → IsSound level_limit e → Gives (form_check form make scopes e) R
  form_gives t s r scopes e fit sound =
      then_gives (AreBoth P Q) R (read_form form scopes e) (λ x. pass (make x.first x.others))
      (then_gives P (AreBoth P Q) (form.attributes.reads (scopes []) e)
      (λ a. need (has_only (form.passed_over ++ form.attributes.locals) e) Failure
      (check_then (form.content scopes (element_parts e)) (λ c. pass (both a c))))
      (t (scopes []) e (fit []) sound)
      (λ a p. need_gives (AreBoth P Q) (has_only (form.passed_over ++ form.attributes.locals) e) Failure
      (check_then (form.content scopes (element_parts e)) (λ c. pass (both a c)))
      (then_gives Q (AreBoth P Q) (form.content scopes (element_parts e)) (λ c. pass (both a c))
      (s scopes (element_parts e) fit (parts_sound level_limit e sound))
      (λ c q. pass_gives (AreBoth P Q) (both a c) (p, q)))))
      (λ x pq. pass_gives R (make x.first x.others) (r x.first x.others pq.0 pq.1))

  or_gives : TableGives form.attributes P → ContentGives form.content Q → ((a : A) (c : C) → P a → Q c → R (make a c))
      → (scopes : Scopes) (e : Element) → AreFitScopes scopes → IsSound level_limit e → (other : Check X) → Gives other R
      → Gives (form_or form make scopes e other) R
  or_gives t s r scopes e fit sound other g =
      if_gives R (is_name e.name form.name) (form_check form make scopes e) other (form_gives t s r scopes e fit sound) g

module _ {X : Type 0} (P : X → Type 0) (one : ℕ → Element → Check X)
    (g : (index : ℕ) (e : Element) → IsSound level_limit e → Gives (one index e) P) where
  each_gives : (index : ℕ) (parts : List Part) → AreSound level_limit parts → Gives (each_element one index parts) (AllByRecursion P)
  each_gives index [] s = pass_gives (AllByRecursion P) [] tt
  each_gives index (Child-F.Element e ∷ parts) s =
      then_gives P (AllByRecursion P) (one index e)
      (λ x. check_then (each_element one (index + 1) parts) (λ xs. pass (x ∷ xs))) (g index e s.0)
      (λ x p. then_gives (AllByRecursion P) (AllByRecursion P) (each_element one (index + 1) parts) (λ xs. pass (x ∷ xs))
      (each_gives (index + 1) parts s.1) (λ xs q. pass_gives (AllByRecursion P) (x ∷ xs) (p, q)))
  each_gives index (Child-F.Text text ∷ parts) s =
      need_gives (AllByRecursion P) (list_all is_white text) Failure (each_element one (index + 1) parts)
      (each_gives (index + 1) parts s.1)

-- ---- 3. identifiers and items

abbrev AreIdentifiers : List Identifier → Type 0
AreIdentifiers identifiers = AllByRecursion IsIdentifier identifiers

identifier_gives : (e : Element) → IsSound level_limit e → Gives (identifier_check e) IsIdentifier
identifier_gives e s i f = record { element = e; fit = s.fit; canon = f }

identifiers_gives : (most : ℕ) (before : List Identifier) (parts : List Part) → AreSound level_limit parts
    → Gives (identifiers_check most before parts) AreIdentifiers
identifiers_gives most before [] s = pass_gives AreIdentifiers [] tt
identifiers_gives most before (Child-F.Element e ∷ parts) s =
    then_gives IsIdentifier AreIdentifiers (identifier_check e)
    (λ i. need (may_follow most before i) Failure
    (check_then (identifiers_check most (before ++ i ∷ []) parts) (λ others. pass (i ∷ others))))
    (identifier_gives e s.0)
    (λ i p. need_gives AreIdentifiers (may_follow most before i) Failure
    (check_then (identifiers_check most (before ++ i ∷ []) parts) (λ others. pass (i ∷ others)))
    (then_gives AreIdentifiers AreIdentifiers (identifiers_check most (before ++ i ∷ []) parts) (λ others. pass (i ∷ others))
    (identifiers_gives most (before ++ i ∷ []) parts s.1) (λ others q. pass_gives AreIdentifiers (i ∷ others) (p, q))))
identifiers_gives most before (Child-F.Text text ∷ parts) s =
    need_gives AreIdentifiers (list_all is_white text) Failure (identifiers_check most before parts)
    (identifiers_gives most before parts s.1)

ordered_fit : (o : Ordering) (a b : Identifier) → identifier_order a b ≡ o → IsIdentifier a → IsIdentifier b
    → IfSome (ordered_pair o a b) IsCanonItem
ordered_fit Less a b is p q = record { ordered = is; identifiers = (p, (q, tt)) }
ordered_fit Equal a b is p q = tt
ordered_fit Greater a b is p q =
    record { ordered = slice_cmp-turn (identifier_bytes a) (identifier_bytes b) (sym is); identifiers = (q, (p, tt)) }

item_fit : (identifiers : List Identifier) → AreIdentifiers identifiers → IfSome (item_of identifiers) IsCanonItem
item_fit [] s = tt
item_fit (a ∷ []) s = record { ordered = tt; identifiers = (s.0, tt) }
item_fit (a ∷ (b ∷ [])) s = ordered_fit (identifier_order a b) a b refl s.0 s.1.0
item_fit (a ∷ (b ∷ (c ∷ more))) s = tt

only_fit : (identifiers : List Identifier) → AreIdentifiers identifiers → IfSome (only_member identifiers) IsIdentifier
only_fit [] s = tt
only_fit (a ∷ []) s = s.0
only_fit (a ∷ (b ∷ more)) s = tt

start_gives : ContentGives start_content IsIdentifier
start_gives scopes parts fit s =
    then_gives AreIdentifiers IsIdentifier (identifiers_check 1 [] parts)
    (λ identifiers. need_some Failure (only_member identifiers) (λ i. pass i)) (identifiers_gives 1 [] parts s)
    (λ identifiers p. some_gives IsIdentifier IsIdentifier Failure (only_member identifiers) (λ i. pass i) (only_fit identifiers p)
    (λ i q. pass_gives IsIdentifier i q))

item_gives : ContentGives item_content IsCanonItem
item_gives scopes parts fit s =
    then_gives AreIdentifiers IsCanonItem (identifiers_check 2 [] parts)
    (λ identifiers. need_some Failure (item_of identifiers) (λ item. pass item)) (identifiers_gives 2 [] parts s)
    (λ identifiers p. some_gives IsCanonItem IsCanonItem Failure (item_of identifiers) (λ item. pass item) (item_fit identifiers p)
    (λ item q. pass_gives IsCanonItem item q))

-- ---- 4. metadata

-- what is made of an element that a document can have, of so many levels, can be published
abbrev MakesMetadata : Type 0
MakesMetadata = (e : Element) (metadata : Metadata) → IsFit e → nesting e ≤ level_limit → IsMadeOf e metadata → IsMetadata metadata

abbrev AreMetadata : List Metadata → Type 0
AreMetadata elements = AllByRecursion IsMetadata elements

abbrev MayBeMetadata : Option (List Metadata) → Type 0
MayBeMetadata list = IfSome list AreMetadata

abbrev ArePublished : Both Item (List Metadata) → Type 0
ArePublished = AreBoth IsCanonItem AreMetadata

module _ (made : MakesMetadata) where
  metadata_gives : (e : Element) → IsSound level_limit e → Gives (metadata_check e) IsMetadata
  metadata_gives e s metadata f = made e metadata s.fit s.levels f

  list_gives : (e : Element) → IsSound level_limit e → Gives (list_check metadata_check e) AreMetadata
  list_gives e s =
      need_gives AreMetadata (has_only [] e) Failure (each_element (λ index inner. metadata_check inner) 0 (element_parts e))
      (each_gives IsMetadata (λ index inner. metadata_check inner) (λ index inner sound. metadata_gives inner sound) 0 (element_parts e)
      (parts_sound level_limit e s))

  list_at_gives : (parts : List Part) → AreSound level_limit parts → Gives (list_if_there metadata_check parts) MayBeMetadata
  list_at_gives [] s = pass_gives MayBeMetadata None tt
  list_at_gives (Child-F.Element e ∷ after) s =
      then_gives AreMetadata MayBeMetadata (list_check metadata_check e)
      (λ xs. need (list_all is_blank_part after) Failure (pass (Some xs))) (list_gives e s.0)
      (λ xs p. need_gives MayBeMetadata (list_all is_blank_part after) Failure (pass (Some xs)) (pass_gives MayBeMetadata (Some xs) p))
  list_at_gives (Child-F.Text text ∷ after) s = fail_gives MayBeMetadata Failure

  from_gives : (identifiers : List Identifier) (list : Option (List Metadata)) → AreIdentifiers identifiers → MayBeMetadata list
      → Gives (published_from identifiers list) ArePublished
  from_gives identifiers list p q =
      some_gives IsCanonItem ArePublished Failure (item_of identifiers)
      (λ item. need_some Failure list (λ elements. pass (both item elements))) (item_fit identifiers p)
      (λ item r. some_gives AreMetadata ArePublished Failure list (λ elements. pass (both item elements)) q
      (λ elements u. pass_gives ArePublished (both item elements) (r, u)))

  published_gives : ContentGives published_content ArePublished
  published_gives scopes parts fit s =
      then_gives AreIdentifiers ArePublished (identifiers_check 2 [] (before_list parts))
      (λ identifiers. check_then (list_if_there metadata_check (from_list parts)) (λ list. published_from identifiers list))
      (identifiers_gives 2 [] (before_list parts) (before_sound level_limit parts s))
      (λ identifiers p. then_gives MayBeMetadata ArePublished (list_if_there metadata_check (from_list parts))
      (λ list. published_from identifiers list) (list_at_gives (from_list parts) (from_sound level_limit parts s))
      (λ list q. from_gives identifiers list p q))

  -- ---- 5. operations and requests

  abbrev HasFilter : Both (Option Filter) (Unit {0}) → Type 0
  HasFilter = AreBoth MayBeFitFilter Any

  delete_table_gives : TableGives delete_form.attributes HasFilter
  delete_table_gives =
      beside_gives MayBeFitFilter Any (filter_field (codes "filter")) no_attributes (filter_gives (codes "filter"))
      (any_table no_attributes)

  publish_op_gives : (scopes : Scopes) (e : Element) → AreFitScopes scopes → IsSound level_limit e
      → Gives (publish_op_check scopes e) IsFitOp
  publish_op_gives scopes e f s =
      or_gives Any ArePublished IsFitOp update_form update_from_form (any_table update_form.attributes) published_gives (λ a c p q. q)
      scopes
      e f s (form_or notify_form notify_of scopes e (form_or delete_form delete_from_form scopes e (fail Failure)))
      (or_gives Any ArePublished IsFitOp notify_form notify_of (any_table notify_form.attributes) published_gives (λ a c p q. q) scopes
      e f s (form_or delete_form delete_from_form scopes e (fail Failure))
      (or_gives HasFilter IsCanonItem IsFitOp delete_form delete_from_form delete_table_gives item_gives (λ a c p q. (q, p.0)) scopes e f s
      (fail Failure) (fail_gives IsFitOp Failure)))

  abbrev HasName : {Y : Type 0} → Both (List ℕ) Y → Type 0
  HasName a = IsCharacters a.first × Unit {0}

  -- the filters of a search, among its attributes
  abbrev AfterLinks : Both ℕ (Both ℕ (Both (Option Filter) (Both (List Kind) (Unit {0})))) → Type 0
  AfterLinks = AreBoth Any (AreBoth Any (AreBoth MayBeFitFilter Any))

  abbrev HasFilters : SearchValues → Type 0
  HasFilters = AreBoth MayBeFitFilter AfterLinks

  search_attributes_give : TableGives search_attributes HasFilters
  search_attributes_give =
      beside_gives MayBeFitFilter AfterLinks links_field after_links (filter_gives links_field.local)
      (beside_gives Any (AreBoth Any (AreBoth MayBeFitFilter Any)) depth_field after_depth (any_field depth_field)
      (beside_gives Any (AreBoth MayBeFitFilter Any) size_field after_size (any_field size_field)
      (beside_gives MayBeFitFilter Any result_field (table_with kinds_field no_attributes) (filter_gives result_field.local)
      (any_table (table_with kinds_field no_attributes)))))

  search_fit : (start : Identifier) (values : SearchValues) → IsIdentifier start → HasFilters values
      → IsFitSearch (search_from start values)
  search_fit start values p q = record { start = p; match_links = q.0; result_filter = q.1.1.1.0 }

  abbrev HasSearch : Both (List ℕ) SearchValues → Type 0
  HasSearch = AreBoth IsCharacters HasFilters

  subscribe_op_gives : (scopes : Scopes) (e : Element) → AreFitScopes scopes → IsSound level_limit e
      → Gives (subscribe_op_check scopes e) IsFitSubscribeOp
  subscribe_op_gives scopes e f s =
      or_gives HasSearch IsIdentifier IsFitSubscribeOp subscription_form subscription_from_form
      (beside_gives IsCharacters HasFilters name_field search_attributes name_gives search_attributes_give) start_gives
      (λ a c p q. (p.0, search_fit c a.others q p.1)) scopes e f s (form_or end_form end_from_form scopes e (fail Failure))
      (or_gives HasName Any IsFitSubscribeOp end_form end_from_form
      (beside_gives IsCharacters Any name_field no_attributes name_gives (any_table no_attributes)) (any_content no_children)
      (λ a c p q. p.0) scopes e f s (fail Failure) (fail_gives IsFitSubscribeOp Failure))

  session_gives : TableGives session_attribute HasName
  session_gives =
      beside_gives IsCharacters Any session_field no_attributes (text_gives session_field.local) (any_table no_attributes)

  publish_ops_give : ContentGives (list_of publish_op_check) (AllByRecursion IsFitOp)
  publish_ops_give scopes parts f s =
      each_gives IsFitOp (λ index e. publish_op_check (scopes_below scopes index) e)
      (λ index e sound. publish_op_gives (scopes_below scopes index) e (λ path. f (index ∷ path)) sound) 0 parts s

  subscribe_ops_give : ContentGives (list_of subscribe_op_check) (AllByRecursion IsFitSubscribeOp)
  subscribe_ops_give scopes parts f s =
      each_gives IsFitSubscribeOp (λ index e. subscribe_op_check (scopes_below scopes index) e)
      (λ index e sound. subscribe_op_gives (scopes_below scopes index) e (λ path. f (index ∷ path)) sound) 0 parts s

  abbrev HasLimit : Both (Option ℕ) (Unit {0}) → Type 0
  HasLimit a = IsFitLimit a.first × Unit {0}

  abbrev HasTexts : Both (List ℕ) OneText → Type 0
  HasTexts a = IsCharacters a.first × HasName a.others

  limit_table_gives : TableGives new_session_form.attributes HasLimit
  limit_table_gives = beside_gives IsFitLimit Any limit_field no_attributes limit_gives (any_table no_attributes)

  search_table_gives : TableGives search_form.attributes HasSearch
  search_table_gives =
      beside_gives IsCharacters HasFilters session_field search_attributes (text_gives session_field.local) search_attributes_give

  purge_table_gives : TableGives purge_form.attributes HasTexts
  purge_table_gives =
      beside_gives IsCharacters HasName session_field (table_with publisher_field no_attributes) (text_gives session_field.local)
      (beside_gives IsCharacters Any publisher_field no_attributes (text_gives publisher_field.local) (any_table no_attributes))

  module _ (scopes : Scopes) (e : Element) (f : AreFitScopes scopes) (s : IsSound level_limit e) where
    purge_gives : Gives (from_purge scopes e) IsFitRequest
    purge_gives =
        or_gives HasTexts Any IsFitRequest purge_form purge_of purge_table_gives (any_content no_children) (λ a c p q. (p.0, p.1.0))
        scopes e f s (fail Failure) (fail_gives IsFitRequest Failure)

    subscribe_gives : Gives (from_subscribe scopes e) IsFitRequest
    subscribe_gives =
        or_gives HasName (AllByRecursion IsFitSubscribeOp) IsFitRequest subscribe_form subscribe_of session_gives subscribe_ops_give
        (λ a c p q. (p.0, q)) scopes e f s (from_purge scopes e) purge_gives

    search_gives : Gives (from_search scopes e) IsFitRequest
    search_gives =
        or_gives HasSearch IsIdentifier IsFitRequest search_form search_of search_table_gives start_gives
        (λ a c p q. (p.0, search_fit c a.others q p.1)) scopes e f s (from_subscribe scopes e) subscribe_gives

    poll_gives : Gives (from_poll scopes e) IsFitRequest
    poll_gives =
        or_gives HasName Any IsFitRequest poll_form poll_of session_gives (any_content no_children) (λ a c p q. p.0) scopes e f s
        (from_search scopes e) search_gives

    end_gives : Gives (from_end_session scopes e) IsFitRequest
    end_gives =
        or_gives HasName Any IsFitRequest end_session_form end_session_of session_gives (any_content no_children) (λ a c p q. p.0)
        scopes e f s (from_poll scopes e) poll_gives

    renewal_gives : Gives (from_renewal scopes e) IsFitRequest
    renewal_gives =
        or_gives HasName Any IsFitRequest renew_form renewal_of session_gives (any_content no_children) (λ a c p q. p.0) scopes e f s
        (from_end_session scopes e) end_gives

    other_gives : Gives (other_request_check scopes e) IsFitRequest
    other_gives =
        or_gives HasLimit Any IsFitRequest new_session_form new_session_of limit_table_gives (any_content no_children) (λ a c p q. p.0)
        scopes e f s (from_renewal scopes e) renewal_gives

    named_gives : Gives (named_request_check scopes e) IsFitRequest
    named_gives =
        or_gives HasName (AllByRecursion IsFitOp) IsFitRequest publish_form publish_of session_gives publish_ops_give
        (λ a c p q. (p.0, q)) scopes e f s (other_request_check scopes e) other_gives

    request_gives : Gives (request_check scopes e) IsFitRequest
    request_gives =
        need_gives IsFitRequest (bytes_eq e.name.space ifmap_space) InvalidSchemaVersion (named_request_check scopes e) named_gives

  -- ---- 6. bodies

  -- what bytes spell is fit, and so is what they declare
  abbrev pub SpellFit : Type 0
  SpellFit = (bytes : List ℕ) (reading : Reading) → Spells bytes reading → IsFit reading.root

  abbrev pub DeclareFit : Type 0
  DeclareFit = (bytes : List ℕ) (reading : Reading) → Spells bytes reading → AreFitDeclared reading.declared

  pub meaning_fit : SpellFit → DeclareFit → (bytes : List ℕ) (request : Request) → Means bytes (Ok request) → IsFitRequest request
  meaning_fit fits declares bytes request m =
      let root : IsSound level_limit m.reading.root =
      record { fit = fits bytes m.reading m.envelope.spelled; levels = m.envelope.shallow } in
      let inner = inner_sound level_limit m.reading.root m.path m.inner m.envelope.envelope root in
      let scopes = scopes_fit m.reading.declared (declares bytes m.reading m.envelope.spelled) m.path in
      request_gives (scopes_from m.reading m.path) m.inner scopes inner request m.checked
