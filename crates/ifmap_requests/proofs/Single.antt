-- Each check of a request finds one thing at most.
-- 1. Each attribute; filters by the law of their crate.
-- 2. Metadata, by their definition.
-- 3. What is published, over what it is made of.
-- 4. Operations and requests: each is one more form in a chain.
use Rattle.std.proofs.Common.{◌≡◌, ◌⊎◌, ◌∙◌, ℕ, true, false, List, [], ◌∷◌, Option, None, Some, Result, Ok, Err, codes, length, min}
use Rattle.std.proofs.Common.{inl, inr, refl, ap, arith, subst, sym}
use Rattle.std.specs.Prelude.{IsSome, ◌&&◌, nat_le}
use Rattle.std.specs.List.{list_all}
use Rattle.std.specs.Str.{bytes_eq}
use Rattle.ifmap_elem.specs.Chars.{is_white}
use Rattle.ifmap_elem.specs.declared.elements.Element.{Element}
use Rattle.ifmap_ident.specs.ifmap_reader.declared.scoping.Scope.{Scope}
use Rattle.ifmap_forms.specs.ifmap_filter.declared.filters.Filter.{Filter}
use Rattle.ifmap_forms.specs.ifmap_filter.Laws.{OneFilter}
use Rattle.ifmap_forms.specs.ifmap_filter.Texts.{WritesFilter}
use Rattle.ifmap_ident.specs.declared.codes.Code.{Code}
use Rattle.ifmap_ident.specs.declared.codes.Code.TheVariants.{AccessDenied, Failure, InvalidIdentifier, InvalidIdentifierType}
use Rattle.ifmap_ident.specs.declared.codes.Code.TheVariants.{IdentifierTooLong, InvalidMetadata, InvalidSchemaVersion, InvalidSessionID}
use Rattle.ifmap_ident.specs.declared.codes.Code.TheVariants.{MetadataTooLong, SearchResultsTooBig, PollResultsTooBig, SystemError}
use Rattle.ifmap_meta.specs.declared.metadata.Cardinality.{Cardinality}
use Rattle.ifmap_meta.specs.declared.metadata.Metadata.{Metadata}
use Rattle.ifmap_meta.specs.Cardinality.{cardinality_of}
use Rattle.ifmap_meta.specs.Whole.{IsMadeOf}
use Rattle.ifmap_forms.specs.CheckLaws.{fail_single, if_single, need_single, pass_single, some_single, then_single, word_check_single}
use Rattle.ifmap_forms.specs.Checks.{IsSingle, check_if, check_then, fail, need_some, pass}
use Rattle.ifmap_forms.specs.Items.{before_list, from_list, identifier_check, identifiers_check, item_of, list_if_there}
use Rattle.ifmap_forms.specs.Scopes.{Scopes, scopes_below}
use Rattle.ifmap_forms.specs.SingleLaws.{OneOfTable, OneOfContent, beside_single, or_single, each_single, read_text_single, list_at_single}
use Rattle.ifmap_forms.specs.SingleLaws.{no_attributes_single, no_children_single, identifiers_single, start_single, item_single}
use Rattle.ifmap_forms.specs.Tables.{table_with, both, form_or, list_of, no_attributes}
use Rattle.ifmap_forms.specs.Values.{greatest_limit, greatest_size, least_limit, longest_name, publisher_field, session_field, usual_size}
use Rattle.ifmap_forms.specs.Values.{FilterDefect, depth_field, filter_check, filter_field, kinds_field, lifetime_field, limit_field}
use Rattle.ifmap_lemmas.specs.Separated.{comma_parts}
use Rattle.ifmap_forms.specs.Values.{name_field, size_field, kind_named, kinds_check, number_of_digits, piece_check, read_depth}
use Rattle.ifmap_forms.specs.Values.{read_filter, read_kinds, read_lifetime, read_limit, read_name, read_size, trim_white, within_range}
use Rattle.ifmap_requests.specs.Published.{MetadataDefect, metadata_check, published_content, published_from}
use Rattle.ifmap_envelopes.specs.Spaces.{ifmap_space}
use Rattle.ifmap_requests.specs.RequestForms.{after_depth, after_links, after_size, links_field, result_field}
use Rattle.ifmap_requests.specs.RequestForms.{delete_form, delete_from_form, end_form, end_from_form, end_session_form, end_session_of}
use Rattle.ifmap_requests.specs.RequestForms.{from_end_session, from_poll, from_purge, from_renewal, from_search, from_subscribe}
use Rattle.ifmap_requests.specs.RequestForms.{named_request_check, new_session_form, new_session_of, notify_form, notify_of}
use Rattle.ifmap_requests.specs.RequestForms.{other_request_check, poll_form, poll_of, publish_form, publish_of, publish_op_check}
use Rattle.ifmap_requests.specs.RequestForms.{purge_form, purge_of, renew_form, renewal_of, request_check}
use Rattle.ifmap_requests.specs.RequestForms.{search_attributes, search_form, search_of, session_attribute, subscribe_form}
use Rattle.ifmap_requests.specs.RequestForms.{subscribe_of, subscribe_op_check, subscription_form, subscription_from_form, update_form, update_from_form}

-- ---- 1. values

abbrev filter_found : Filter → Result Filter Code
filter_found filter = Ok filter

abbrev filter_refused : Code → Result Filter Code
filter_refused code = Err code

read_name_single : (scope : Scope) (text : Option (List ℕ)) → IsSingle (read_name text)
read_name_single scope None = fail_single Failure
read_name_single scope (Some text) =
    need_single (nat_le 1 (length text) && nat_le (length text) longest_name) Failure (pass text) (pass_single text)

read_limit_single : (scope : Scope) (text : Option (List ℕ)) → IsSingle (read_limit text)
read_limit_single scope None = pass_single None
read_limit_single scope (Some text) =
    some_single Failure (number_of_digits text) (λ n. pass (Some (within_range least_limit greatest_limit n)))
    (λ n. pass_single (Some (within_range least_limit greatest_limit n)))

read_depth_single : (scope : Scope) (text : Option (List ℕ)) → IsSingle (read_depth text)
read_depth_single scope None = pass_single 0
read_depth_single scope (Some text) = word_check_single text

read_size_single : (scope : Scope) (text : Option (List ℕ)) → IsSingle (read_size text)
read_size_single scope None = pass_single usual_size
read_size_single scope (Some text) =
    some_single Failure (number_of_digits text) (λ n. pass (min n greatest_size)) (λ n. pass_single (min n greatest_size))

read_lifetime_single : (scope : Scope) (text : Option (List ℕ)) → IsSingle (read_lifetime text)
read_lifetime_single scope None = pass_single false
read_lifetime_single scope (Some text) =
    if_single (bytes_eq text (codes "session")) (pass false) (check_if (bytes_eq text (codes "forever")) (pass true) (fail Failure))
    (pass_single false)
    (if_single (bytes_eq text (codes "forever")) (pass true) (fail Failure) (pass_single true) (fail_single Failure))

kinds_single : (pieces : List (List ℕ)) → IsSingle (kinds_check pieces)
kinds_single [] = pass_single []
kinds_single (piece ∷ pieces) =
    then_single (piece_check piece) (λ kind. check_then (kinds_check pieces) (λ others. pass (kind ∷ others)))
    (some_single InvalidIdentifierType (kind_named (trim_white piece)) (λ kind. pass kind) (λ kind. pass_single kind))
    (λ kind. then_single (kinds_check pieces) (λ others. pass (kind ∷ others)) (kinds_single pieces)
    (λ others. pass_single (kind ∷ others)))

read_kinds_single : (scope : Scope) (text : Option (List ℕ)) → IsSingle (read_kinds text)
read_kinds_single scope None = pass_single []
read_kinds_single scope (Some text) =
    if_single (list_all is_white text) (pass []) (kinds_check (comma_parts text)) (pass_single []) (kinds_single (comma_parts text))

-- a text that is no filter is Failure and nothing else
defect_is_failure : (code : Code) (scope : Scope) (text : List ℕ) → FilterDefect code scope text → code ≡ Failure
defect_is_failure Failure scope text d = refl
defect_is_failure AccessDenied scope text d = absurd d
defect_is_failure InvalidIdentifier scope text d = absurd d
defect_is_failure InvalidIdentifierType scope text d = absurd d
defect_is_failure IdentifierTooLong scope text d = absurd d
defect_is_failure InvalidMetadata scope text d = absurd d
defect_is_failure InvalidSchemaVersion scope text d = absurd d
defect_is_failure InvalidSessionID scope text d = absurd d
defect_is_failure MetadataTooLong scope text d = absurd d
defect_is_failure SearchResultsTooBig scope text d = absurd d
defect_is_failure PollResultsTooBig scope text d = absurd d
defect_is_failure SystemError scope text d = absurd d

module _ (one_filter : OneFilter) where
  filter_and_defect : (scope : Scope) (text : List ℕ) (filter : Filter) (code : Code) → WritesFilter text scope filter
      → FilterDefect code scope text → ⊥
  filter_and_defect scope text filter code w d =
      let none : FilterDefect Failure scope text =
      subst (λ (c : Code). FilterDefect c scope text) (defect_is_failure code scope text d) d in
      none filter w

  filter_single : (scope : Scope) (text : List ℕ) → IsSingle (filter_check scope text)
  filter_single scope text (Ok f) (Ok g) a b = ap filter_found (one_filter text scope f g a b)
  filter_single scope text (Ok f) (Err d) a b = absurd (filter_and_defect scope text f d a b)
  filter_single scope text (Err c) (Ok g) a b = absurd (filter_and_defect scope text g c b a)
  filter_single scope text (Err c) (Err d) a b =
      ap filter_refused (defect_is_failure c scope text a ∙ sym (defect_is_failure d scope text b))

  pub read_filter_single : (scope : Scope) (text : Option (List ℕ)) → IsSingle (read_filter scope text)
  read_filter_single scope None = pass_single None
  read_filter_single scope (Some text) =
      then_single (filter_check scope text) (λ filter. pass (Some filter)) (filter_single scope text)
      (λ filter. pass_single (Some filter))

-- ---- 2. metadata

-- metadata have no code but two
metadata_codes : (code : Code) (e : Element) → MetadataDefect code e → (code ≡ InvalidMetadata) ⊎ (code ≡ MetadataTooLong)
metadata_codes InvalidMetadata e d = inl refl
metadata_codes MetadataTooLong e d = inr refl
metadata_codes AccessDenied e d = absurd d
metadata_codes Failure e d = absurd d
metadata_codes InvalidIdentifier e d = absurd d
metadata_codes InvalidIdentifierType e d = absurd d
metadata_codes IdentifierTooLong e d = absurd d
metadata_codes InvalidSchemaVersion e d = absurd d
metadata_codes InvalidSessionID e d = absurd d
metadata_codes SearchResultsTooBig e d = absurd d
metadata_codes PollResultsTooBig e d = absurd d
metadata_codes SystemError e d = absurd d

-- an element that can be published is made in one way
one_metadata : (e : Element) (m n : Metadata) → IsMadeOf e m → IsMadeOf e n → m ≡ n
one_metadata e m n a b =
    let elements : m.element ≡ n.element = a.element ∙ sym b.element in
    let said : Some m.cardinality ≡ Some n.cardinality = sym a.cardinality ∙ b.cardinality in
    let cardinalities : m.cardinality ≡ n.cardinality = cc in
    λ i. record { element = elements i; cardinality = cardinalities i }

abbrev metadata_found : Metadata → Result Metadata Code
metadata_found metadata = Ok metadata

abbrev metadata_refused : Code → Result Metadata Code
metadata_refused code = Err code

-- the two causes do not stand together, and neither stands beside metadata
invalid_has_none : (e : Element) (m : Metadata) → cardinality_of e ≡ None → IsMadeOf e m → ⊥
invalid_has_none e m none made = let wrong : None ≡ Some m.cardinality = sym none ∙ made.cardinality in cc

defect_has_none : (e : Element) (m : Metadata) (code : Code) → MetadataDefect code e → IsMadeOf e m → ⊥
defect_has_none e m code d made = elim (metadata_codes code e d) [
  | inl same ↦
      let none : MetadataDefect InvalidMetadata e = subst (λ (c : Code). MetadataDefect c e) same d in
      invalid_has_none e m none made
  | inr same ↦
      let long : MetadataDefect MetadataTooLong e = subst (λ (c : Code). MetadataDefect c e) same d in
      omega (arith, long.1, made.size)
]

one_defect : (e : Element) (c d : Code) → MetadataDefect c e → MetadataDefect d e → c ≡ d
one_defect e c d p q = elim (metadata_codes c e p) [
  | inl invalid ↦ elim (metadata_codes d e q) [
    | inl same ↦ invalid ∙ sym same
    | inr long ↦ absurd (apart (subst (λ (c : Code). MetadataDefect c e) invalid p) (subst (λ (d : Code). MetadataDefect d e) long q))
  ]
  | inr long ↦ elim (metadata_codes d e q) [
    | inl invalid ↦ absurd (apart (subst (λ (d : Code). MetadataDefect d e) invalid q) (subst (λ (c : Code). MetadataDefect c e) long p))
    | inr same ↦ long ∙ sym same
  ]
]
  where
    apart : MetadataDefect InvalidMetadata e → MetadataDefect MetadataTooLong e → ⊥
    apart none long =
        let wrong : false ≡ true = subst (λ (o : Option Cardinality). IsSome o) none long.0 in
        cc

metadata_single : (e : Element) → IsSingle (metadata_check e)
metadata_single e (Ok m) (Ok n) a b = ap metadata_found (one_metadata e m n a b)
metadata_single e (Ok m) (Err d) a b = absurd (defect_has_none e m d b a)
metadata_single e (Err c) (Ok n) a b = absurd (defect_has_none e n c a b)
metadata_single e (Err c) (Err d) a b = ap metadata_refused (one_defect e c d a b)

-- ---- 3. what is published

module _ (identifier_one : (e : Element) → IsSingle (identifier_check e)) where
  published_single : OneOfContent published_content
  published_single scopes parts =
      then_single (identifiers_check 2 [] (before_list parts))
      (λ identifiers. check_then (list_if_there metadata_check (from_list parts)) (λ list. published_from identifiers list))
      (identifiers_single identifier_one 2 [] (before_list parts))
      (λ identifiers. then_single (list_if_there metadata_check (from_list parts)) (λ list. published_from identifiers list)
      (list_at_single metadata_check metadata_single (from_list parts))
      (λ list. some_single Failure (item_of identifiers) (λ item. need_some Failure list (λ elements. pass (both item elements)))
      (λ item. some_single Failure list (λ elements. pass (both item elements)) (λ elements. pass_single (both item elements)))))

-- ---- 4. operations and requests

module _ (identifier_one : (e : Element) → IsSingle (identifier_check e)) (one_filter : OneFilter) where
  search_attributes_single : OneOfTable search_attributes
  search_attributes_single =
      beside_single links_field after_links (read_filter_single one_filter)
      (beside_single depth_field after_depth read_depth_single
      (beside_single size_field after_size read_size_single
      (beside_single result_field (table_with kinds_field no_attributes) (read_filter_single one_filter)
      (beside_single kinds_field no_attributes read_kinds_single no_attributes_single))))

  publish_op_single : (scopes : Scopes) (e : Element) → IsSingle (publish_op_check scopes e)
  publish_op_single scopes e =
      or_single update_form update_from_form (beside_single lifetime_field no_attributes read_lifetime_single no_attributes_single)
      (published_single identifier_one) scopes e
      (form_or notify_form notify_of scopes e (form_or delete_form delete_from_form scopes e (fail Failure)))
      (or_single notify_form notify_of no_attributes_single (published_single identifier_one) scopes e
      (form_or delete_form delete_from_form scopes e (fail Failure))
      (or_single delete_form delete_from_form
      (beside_single (filter_field (codes "filter")) no_attributes (read_filter_single one_filter) no_attributes_single)
      (item_single identifier_one) scopes e (fail Failure) (fail_single Failure)))

  subscribe_op_single : (scopes : Scopes) (e : Element) → IsSingle (subscribe_op_check scopes e)
  subscribe_op_single scopes e =
      or_single subscription_form subscription_from_form
      (beside_single name_field search_attributes read_name_single search_attributes_single) (start_single identifier_one) scopes e
      (form_or end_form end_from_form scopes e (fail Failure))
      (or_single end_form end_from_form (beside_single name_field no_attributes read_name_single no_attributes_single) no_children_single
      scopes e (fail Failure) (fail_single Failure))

  ops_single : OneOfContent (list_of publish_op_check)
  ops_single scopes parts =
      each_single (λ index e. publish_op_check (scopes_below scopes index) e) (λ index e. publish_op_single (scopes_below scopes index) e)
      0 parts

  subscriptions_single : OneOfContent (list_of subscribe_op_check)
  subscriptions_single scopes parts =
      each_single (λ index e. subscribe_op_check (scopes_below scopes index) e)
      (λ index e. subscribe_op_single (scopes_below scopes index) e) 0 parts

  limit_single : OneOfTable (table_with limit_field no_attributes)
  limit_single = beside_single limit_field no_attributes read_limit_single no_attributes_single

  session_single : OneOfTable session_attribute
  session_single = beside_single session_field no_attributes read_text_single no_attributes_single

  purge_single : OneOfTable (table_with session_field (table_with publisher_field no_attributes))
  purge_single =
      beside_single session_field (table_with publisher_field no_attributes) read_text_single
      (beside_single publisher_field no_attributes read_text_single no_attributes_single)

  module _ (scopes : Scopes) (e : Element) where
    purges : IsSingle (from_purge scopes e)
    purges = or_single purge_form purge_of purge_single no_children_single scopes e (fail Failure) (fail_single Failure)

    subscribes : IsSingle (from_subscribe scopes e)
    subscribes = or_single subscribe_form subscribe_of session_single subscriptions_single scopes e (from_purge scopes e) purges

    searches : IsSingle (from_search scopes e)
    searches =
        or_single search_form search_of (beside_single session_field search_attributes read_text_single search_attributes_single)
        (start_single identifier_one) scopes e (from_subscribe scopes e) subscribes

    polls : IsSingle (from_poll scopes e)
    polls = or_single poll_form poll_of session_single no_children_single scopes e (from_search scopes e) searches

    ends : IsSingle (from_end_session scopes e)
    ends = or_single end_session_form end_session_of session_single no_children_single scopes e (from_poll scopes e) polls

    renews : IsSingle (from_renewal scopes e)
    renews = or_single renew_form renewal_of session_single no_children_single scopes e (from_end_session scopes e) ends

    others : IsSingle (other_request_check scopes e)
    others = or_single new_session_form new_session_of limit_single no_children_single scopes e (from_renewal scopes e) renews

    named_single : IsSingle (named_request_check scopes e)
    named_single = or_single publish_form publish_of session_single ops_single scopes e (other_request_check scopes e) others

  pub request_single : (scopes : Scopes) (e : Element) → IsSingle (request_check scopes e)
  request_single scopes e =
      need_single (bytes_eq e.name.space ifmap_space) InvalidSchemaVersion (named_request_check scopes e) (named_single scopes e)
