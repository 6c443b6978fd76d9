-- Each check of a request finds something, in elements that a document can have.
-- 1. Identifiers by the laws of their crates.
-- 2. Tables, lists of children and forms, by the laws of their crate: the premise is handed on to what they are made of.
-- 3. Each attribute; filters by the law of their crate.
-- 4. Metadata: the cardinality and the size are computed.
-- 5. Identifiers and lists as children.
-- 6. Operations and requests: each is one more form in a chain.
use Rattle.std.proofs.Common.{◌≡◌, ◌⊎◌, ◌<◌, ◌≤◌, ℕ, true, false, List, [], ◌∷◌, Option, None, Some, IfSome, Ok}
use Rattle.std.proofs.Common.{Err, codes, length, min, inl, inr, refl, arith}
use Rattle.std.specs.Prelude.{◌&&◌, nat_le}
use Rattle.std.specs.List.{list_all}
use Rattle.std.specs.Str.{bytes_eq}
use Rattle.std.proofs.lemmas.Bool.{cases_lt}
use Rattle.ifmap_elem.specs.Arranged.{arrange}
use Rattle.ifmap_elem.specs.Chars.{IsCharacters, is_white}
use Rattle.ifmap_elem.specs.Fit.{IsFit}
use Rattle.ifmap_elem.specs.Nesting.{nesting}
use Rattle.ifmap_elem.specs.declared.elements.Element.{Element}
use Rattle.ifmap_ident.specs.ifmap_reader.declared.scoping.Scope.{Scope}
use Rattle.ifmap_forms.specs.ifmap_filter.declared.filters.Filter.{Filter}
use Rattle.ifmap_forms.specs.ifmap_filter.Laws.{FilterOrStop, StopsWhereNone}
use Rattle.ifmap_forms.specs.ifmap_filter.Texts.{StopsAt, WritesFilter}
use Rattle.ifmap_ident.specs.declared.codes.Code.TheVariants.{Failure, InvalidIdentifierType}
use Rattle.ifmap_ident.specs.declared.codes.Code.TheVariants.{InvalidMetadata, InvalidSchemaVersion, MetadataTooLong}
use Rattle.ifmap_ident.specs.Parts.{value_of}
use Rattle.ifmap_meta.specs.declared.metadata.Cardinality.{Cardinality}
use Rattle.ifmap_meta.specs.Cardinality.{cardinality_of}
use Rattle.ifmap_meta.specs.Keys.{content_bytes}
use Rattle.ifmap_meta.specs.Stamps.{content_of}
use Rattle.ifmap_meta.specs.Whole.{content_limit}
use Rattle.ifmap_forms.specs.CheckLaws.{fail_done, if_done, need_done, pass_done, some_done, then_done, word_check_done}
use Rattle.ifmap_forms.specs.Checks.{Check, IsConclusive, check_if, check_then, fail, need_some, pass}
use Rattle.ifmap_forms.specs.DoneLaws.{beside_done, each_done, list_at_done, no_attributes_done, no_children_done, or_done, read_text_done}
use Rattle.ifmap_forms.specs.Items.{before_list, from_list, identifier_check, identifiers_check, item_content, item_of, list_if_there}
use Rattle.ifmap_forms.specs.Items.{start_content}
use Rattle.ifmap_forms.specs.Scopes.{Scopes, scopes_below}
use Rattle.ifmap_forms.specs.Tables.{AttributeTable, ContentCheck, ElementForm, Part, both, element_parts, form_or, list_of}
use Rattle.ifmap_forms.specs.Tables.{no_attributes, no_children, only_member, table_with}
use Rattle.ifmap_forms.specs.Values.{greatest_limit, greatest_size, least_limit, longest_name, publisher_field, session_field, usual_size}
use Rattle.ifmap_forms.specs.Values.{Field, depth_field, filter_check, filter_field, kind_named, kinds_check, kinds_field}
use Rattle.ifmap_lemmas.specs.Separated.{comma_parts}
use Rattle.ifmap_forms.specs.Values.{lifetime_field, limit_field, name_field, number_of_digits, piece_check, size_field, text_field}
use Rattle.ifmap_forms.specs.Values.{trim_white, within_range}
use Rattle.ifmap_forms.specs.IdentifierLaws.{identifiers_done}
use Rattle.ifmap_requests.specs.Published.{metadata_check, published_content, published_from}
use Rattle.ifmap_envelopes.specs.Spaces.{ifmap_space}
use Rattle.ifmap_requests.specs.RequestForms.{after_depth, after_links, after_size, links_field, result_field}
use Rattle.ifmap_requests.specs.RequestForms.{delete_form, delete_from_form, end_form, end_from_form, end_session_form, end_session_of}
use Rattle.ifmap_requests.specs.RequestForms.{from_end_session, from_poll, from_purge, from_renewal, from_search, from_subscribe}
use Rattle.ifmap_requests.specs.RequestForms.{named_request_check, new_session_form, new_session_of, notify_form, notify_of}
use Rattle.ifmap_requests.specs.RequestForms.{other_request_check, poll_form, poll_of, publish_form, publish_of, publish_op_check}
use Rattle.ifmap_requests.specs.RequestForms.{purge_form, purge_of, renew_form, renewal_of, request_check}
use Rattle.ifmap_requests.specs.RequestForms.{search_attributes, search_form, search_of, session_attribute, subscribe_form}
use Rattle.ifmap_requests.specs.RequestForms.{subscribe_of, subscribe_op_check, subscription_form, subscription_from_form, update_form, update_from_form}
use Rattle.ifmap_requests.proofs.Sound.{AreSound, IsSound, parts_sound, value_fit}
use Rattle.ifmap_elem.specs.laws.CharacterLaws.{characters_are_utf8}

-- ---- 2. tables, children, forms

abbrev FieldDone : {X : Type 0} → Field X → Type 0
FieldDone field = (scope : Scope) (text : Option (List ℕ)) → IfSome text IsCharacters → IsConclusive (field.reads scope text)

abbrev TableDone : {X : Type 0} → AttributeTable X → Type 0
TableDone table = (scope : Scope) (e : Element) → IsFit e → IsConclusive (table.reads scope e)

module _ {X Y : Type 0} (field : Field X) (table : AttributeTable Y) where
  fit_table_done : FieldDone field → TableDone table → TableDone (table_with field table)
  fit_table_done f t scope e fit =
      beside_done field table scope e (f scope (value_of field.local e) (value_fit field.local e fit)) (t scope e fit)

fit_no_attributes_done : TableDone no_attributes
fit_no_attributes_done scope e fit = no_attributes_done scope e

module _ (most : ℕ) where
  abbrev ContentDone : {X : Type 0} → ContentCheck X → Type 0
  ContentDone content = (scopes : Scopes) (parts : List Part) → AreSound most parts → IsConclusive (content scopes parts)

  abbrev ElementDone : {X : Type 0} → (Element → Check X) → Type 0
  ElementDone check = (e : Element) → IsSound most e → IsConclusive (check e)

  module _ {X A C : Type 0} (form : ElementForm A C) (make : A → C → X) where
    sound_or_done : TableDone form.attributes → ContentDone form.content → (scopes : Scopes) (e : Element) → IsSound most e
        → (other : Check X) → IsConclusive other → IsConclusive (form_or form make scopes e other)
    sound_or_done t s scopes e sound other done =
        or_done form make scopes e (t (scopes []) e sound.fit) (s scopes (element_parts e) (parts_sound most e sound)) other done

  sound_no_children_done : ContentDone no_children
  sound_no_children_done scopes parts sound = no_children_done scopes parts

-- ---- 3. values

text_done : (local : List ℕ) → FieldDone (text_field local)
text_done local scope text is = read_text_done scope text

name_done : FieldDone name_field
name_done scope None is = fail_done Failure
name_done scope (Some text) is =
    need_done (nat_le 1 (length text) && nat_le (length text) longest_name) Failure (pass text) (pass_done text)

limit_done : FieldDone limit_field
limit_done scope None is = pass_done None
limit_done scope (Some text) is =
    some_done Failure (number_of_digits text) (λ n. pass (Some (within_range least_limit greatest_limit n)))
    (λ n. pass_done (Some (within_range least_limit greatest_limit n)))

depth_done : FieldDone depth_field
depth_done scope None is = pass_done 0
depth_done scope (Some text) is = word_check_done text

size_done : FieldDone size_field
size_done scope None is = pass_done usual_size
size_done scope (Some text) is =
    some_done Failure (number_of_digits text) (λ n. pass (min n greatest_size)) (λ n. pass_done (min n greatest_size))

lifetime_done : FieldDone lifetime_field
lifetime_done scope None is = pass_done false
lifetime_done scope (Some text) is =
    if_done (bytes_eq text (codes "session")) (pass false) (check_if (bytes_eq text (codes "forever")) (pass true) (fail Failure))
    (pass_done false)
    (if_done (bytes_eq text (codes "forever")) (pass true) (fail Failure) (pass_done true) (fail_done Failure))

pieces_done : (pieces : List (List ℕ)) → IsConclusive (kinds_check pieces)
pieces_done [] = pass_done []
pieces_done (piece ∷ pieces) =
    then_done (piece_check piece) (λ kind. check_then (kinds_check pieces) (λ others. pass (kind ∷ others)))
    (λ kind found. then_done (kinds_check pieces) (λ others. pass (kind ∷ others)) (λ others got. pass_done (kind ∷ others))
    (pieces_done pieces))
    (some_done InvalidIdentifierType (kind_named (trim_white piece)) (λ kind. pass kind) (λ kind. pass_done kind))

kinds_done : FieldDone kinds_field
kinds_done scope None is = pass_done []
kinds_done scope (Some text) is =
    if_done (list_all is_white text) (pass []) (kinds_check (comma_parts text)) (pass_done []) (pieces_done (comma_parts text))

module _ (decided : FilterOrStop) (apart : StopsWhereNone) where
  filter_found : (scope : Scope) (text : List ℕ) → ((filter : Filter) × WritesFilter text scope filter) ⊎ ((at : ℕ) × StopsAt text scope at)
      → IsConclusive (filter_check scope text)
  filter_found scope text (inl w) = (Ok w.0, w.1)
  filter_found scope text (inr stops) = (Err Failure, apart text scope stops.0 stops.1)

  filter_done : (local : List ℕ) → FieldDone (filter_field local)
  filter_done local scope None is = pass_done None
  filter_done local scope (Some text) is =
      then_done (filter_check scope text) (λ filter. pass (Some filter)) (λ filter found. pass_done (Some filter))
      (filter_found scope text (decided text scope (characters_are_utf8 text is)))

-- ---- 4. metadata

made_of : (e : Element) (cardinality : Cardinality) → cardinality_of e ≡ Some cardinality
    → (length (content_bytes e) ≤ content_limit) ⊎ (content_limit < length (content_bytes e)) → IsConclusive (metadata_check e)
made_of e cardinality is (inl low) = (
  Ok (record { element = arrange (content_of e); cardinality = cardinality }),
  record { element = refl; cardinality = is; size = low },
)
made_of e cardinality is (inr high) = (Err MetadataTooLong, (rw is refl, high))

metadata_by : (e : Element) (o : Option Cardinality) → cardinality_of e ≡ o → IsConclusive (metadata_check e)
metadata_by e None is = (Err InvalidMetadata, is)
metadata_by e (Some cardinality) is = made_of e cardinality is (elim (cases_lt content_limit (length (content_bytes e))) [
  | inl high ↦ inr high
  | inr low ↦ inl low
])

metadata_done : (e : Element) → IsConclusive (metadata_check e)
metadata_done e = metadata_by e (cardinality_of e) refl

-- ---- 5. children

module _ (most : ℕ) (identifier : (e : Element) → IsConclusive (identifier_check e)) where
  start_done : ContentDone most start_content
  start_done scopes parts sound =
      then_done (identifiers_check 1 [] parts) (λ identifiers. need_some Failure (only_member identifiers) (λ i. pass i))
      (λ identifiers found. some_done Failure (only_member identifiers) (λ i. pass i) (λ i. pass_done i))
      (identifiers_done identifier 1 [] parts)

  item_done : ContentDone most item_content
  item_done scopes parts sound =
      then_done (identifiers_check 2 [] parts) (λ identifiers. need_some Failure (item_of identifiers) (λ item. pass item))
      (λ identifiers found. some_done Failure (item_of identifiers) (λ item. pass item) (λ item. pass_done item))
      (identifiers_done identifier 2 [] parts)

  published_done : ContentDone most published_content
  published_done scopes parts sound =
      then_done (identifiers_check 2 [] (before_list parts))
      (λ identifiers. check_then (list_if_there metadata_check (from_list parts)) (λ list. published_from identifiers list))
      (λ identifiers found. then_done (list_if_there metadata_check (from_list parts)) (λ list. published_from identifiers list)
      (λ list got. some_done Failure (item_of identifiers)
      (λ item. need_some Failure list (λ elements. pass (both item elements)))
      (λ item. some_done Failure list (λ elements. pass (both item elements)) (λ elements. pass_done (both item elements))))
      (list_at_done metadata_check metadata_done (from_list parts)))
      (identifiers_done identifier 2 [] (before_list parts))

-- ---- 6. operations and requests

module _ (identifier : (e : Element) → IsConclusive (identifier_check e)) (decided : FilterOrStop) (apart : StopsWhereNone) where
  search_attributes_done : TableDone search_attributes
  search_attributes_done =
      fit_table_done links_field after_links (filter_done decided apart links_field.local)
      (fit_table_done depth_field after_depth depth_done
      (fit_table_done size_field after_size size_done
      (fit_table_done result_field (table_with kinds_field no_attributes) (filter_done decided apart result_field.local)
      (fit_table_done kinds_field no_attributes kinds_done fit_no_attributes_done))))

  session_done : TableDone session_attribute
  session_done = fit_table_done session_field no_attributes (text_done session_field.local) fit_no_attributes_done

  purge_done : TableDone purge_form.attributes
  purge_done =
      fit_table_done session_field (table_with publisher_field no_attributes) (text_done session_field.local)
      (fit_table_done publisher_field no_attributes (text_done publisher_field.local) fit_no_attributes_done)

  module _ (most : ℕ) where
    publish_op_done : (scopes : Scopes) → ElementDone most (publish_op_check scopes)
    publish_op_done scopes e sound =
        sound_or_done most update_form update_from_form (fit_table_done lifetime_field no_attributes lifetime_done fit_no_attributes_done)
        (published_done most identifier) scopes e sound
        (form_or notify_form notify_of scopes e (form_or delete_form delete_from_form scopes e (fail Failure)))
        (sound_or_done most notify_form notify_of fit_no_attributes_done (published_done most identifier) scopes e sound
        (form_or delete_form delete_from_form scopes e (fail Failure))
        (sound_or_done most delete_form delete_from_form
        (fit_table_done (filter_field (codes "filter")) no_attributes (filter_done decided apart (codes "filter")) fit_no_attributes_done)
        (item_done most identifier) scopes e sound (fail Failure) (fail_done Failure)))

    subscribe_op_done : (scopes : Scopes) → ElementDone most (subscribe_op_check scopes)
    subscribe_op_done scopes e sound =
        sound_or_done most subscription_form subscription_from_form
        (fit_table_done name_field search_attributes name_done search_attributes_done) (start_done most identifier) scopes e sound
        (form_or end_form end_from_form scopes e (fail Failure))
        (sound_or_done most end_form end_from_form (fit_table_done name_field no_attributes name_done fit_no_attributes_done)
        (sound_no_children_done most) scopes e sound (fail Failure) (fail_done Failure))

    publish_ops_done : ContentDone most (list_of publish_op_check)
    publish_ops_done scopes parts sound =
        each_done (IsSound most) (λ index e. publish_op_check (scopes_below scopes index) e)
        (λ index e s. publish_op_done (scopes_below scopes index) e s) 0 parts sound

    subscribe_ops_done : ContentDone most (list_of subscribe_op_check)
    subscribe_ops_done scopes parts sound =
        each_done (IsSound most) (λ index e. subscribe_op_check (scopes_below scopes index) e)
        (λ index e s. subscribe_op_done (scopes_below scopes index) e s) 0 parts sound

    module _ (scopes : Scopes) (e : Element) (sound : IsSound most e) where
      purges : IsConclusive (from_purge scopes e)
      purges =
          sound_or_done most purge_form purge_of purge_done (sound_no_children_done most) scopes e sound (fail Failure) (fail_done Failure)

      subscribes : IsConclusive (from_subscribe scopes e)
      subscribes =
          sound_or_done most subscribe_form subscribe_of session_done subscribe_ops_done scopes e sound (from_purge scopes e) purges

      searches : IsConclusive (from_search scopes e)
      searches =
          sound_or_done most search_form search_of
          (fit_table_done session_field search_attributes (text_done session_field.local) search_attributes_done)
          (start_done most identifier) scopes e sound (from_subscribe scopes e) subscribes

      polls : IsConclusive (from_poll scopes e)
      polls = sound_or_done most poll_form poll_of session_done (sound_no_children_done most) scopes e sound (from_search scopes e) searches

      ends : IsConclusive (from_end_session scopes e)
      ends =
          sound_or_done most end_session_form end_session_of session_done (sound_no_children_done most) scopes e sound
          (from_poll scopes e) polls

      renews : IsConclusive (from_renewal scopes e)
      renews =
          sound_or_done most renew_form renewal_of session_done (sound_no_children_done most) scopes e sound
          (from_end_session scopes e) ends

      others : IsConclusive (other_request_check scopes e)
      others =
          sound_or_done most new_session_form new_session_of (fit_table_done limit_field no_attributes limit_done fit_no_attributes_done)
          (sound_no_children_done most) scopes e sound (from_renewal scopes e) renews

      named_done : IsConclusive (named_request_check scopes e)
      named_done =
          sound_or_done most publish_form publish_of session_done publish_ops_done scopes e sound (other_request_check scopes e) others

  pub request_done : (scopes : Scopes) (e : Element) → IsFit e → IsConclusive (request_check scopes e)
  request_done scopes e fit =
      need_done (bytes_eq e.name.space ifmap_space) InvalidSchemaVersion (named_request_check scopes e)
      (named_done (nesting e) scopes e (record { fit = fit; levels = omega arith }))
