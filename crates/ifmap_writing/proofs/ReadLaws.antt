-- What is written of a request is read back as that request.
-- 1. Attributes.
-- 2. Identifiers as children.
-- 3. What is published.
-- 4. Searches.
-- 5. Operations.
-- 6. Requests.
use Rattle.std.proofs.Common.{◌≡◌, ◌∙◌, ◌+◌, ◌≤◌, ℕ, true, false, List, [], ◌∷◌, Option, None, Some, IfSome}
use Rattle.std.proofs.Common.{codes, map, refl, sym, subst}
use Rattle.std.specs.List.{AllByRecursion}
use Rattle.ifmap_elem.specs.Building.{bare_name, is_bare, as_children}
use Rattle.ifmap_elem.specs.declared.elements.Child.{Child}
use Rattle.ifmap_elem.specs.declared.elements.Child.TheOpen.{Child-F}
use Rattle.ifmap_elem.specs.declared.elements.Element.{Element}
use Rattle.ifmap_elem.specs.declared.elements.Name.{Name}
use Rattle.ifmap_elem.specs.laws.ChildElements.{as_parts, parts_are}
use Rattle.ifmap_ident.specs.ifmap_reader.declared.scoping.Scope.{Scope}
use Rattle.ifmap_filter.specs.declared.filters.Filter.{Filter}
use Rattle.ifmap_filter.specs.Printing.{filter_text}
use Rattle.ifmap_filter.specs.Texts.{WritesFilter}
use Rattle.ifmap_ident.specs.declared.codes.Code.TheVariants.{Failure}
use Rattle.ifmap_ident.specs.declared.identifiers.Identifier.{Identifier}
use Rattle.ifmap_ident.specs.declared.identifiers.Identifier.TheVariants.{AccessRequest, Device, Identity, IpV4, IpV6, MacAddress}
use Rattle.ifmap_ident.specs.declared.items.Item.{Item}
use Rattle.ifmap_ident.specs.declared.items.Item.TheVariants.{One, Pair}
use Rattle.ifmap_ident.specs.Canon.{IsCanon, IsIdentifier}
use Rattle.ifmap_ident.specs.Identifiers.{identifier_element}
use Rattle.ifmap_ident.specs.Items.{IsCanonItem, identifiers_of}
use Rattle.ifmap_ident.specs.Parts.{has_only}
use Rattle.ifmap_meta.specs.declared.metadata.Metadata.{Metadata}
use Rattle.ifmap_meta.specs.Whole.{IsMadeOf, IsMetadata}
use Rattle.ifmap_search.specs.declared.searches.Search as search
use Rattle.ifmap_requests.specs.ifmap_forms.AnswerLaws.{found_alone, found_beside, found_form}
use Rattle.ifmap_requests.specs.ifmap_forms.Checks.{Check, need_some, ok_value, pass}
use Rattle.ifmap_requests.specs.ifmap_forms.Items.{before_list, from_list, identifiers_check, item_check, list_if_there, list_check}
use Rattle.ifmap_requests.specs.ifmap_forms.Items.{start_check}
use Rattle.ifmap_requests.specs.ifmap_forms.Scopes.{Scopes, scopes_below}
use Rattle.ifmap_requests.specs.ifmap_forms.Tables.{Part, both, each_element, list_of, parts_in}
use Rattle.ifmap_requests.specs.ifmap_forms.Values.{greatest_limit, least_limit, publisher_field, session_field}
use Rattle.ifmap_requests.specs.ifmap_forms.Values.{Field, depth_field, field_check, filter_field, kinds_field, lifetime_field, limit_field, name_field}
use Rattle.ifmap_requests.specs.ifmap_forms.Values.{read_filter, size_field}
use Rattle.ifmap_requests.specs.declared.publish_ops.PublishOp.{PublishOp}
use Rattle.ifmap_requests.specs.declared.publish_ops.PublishOp.TheVariants as publish
use Rattle.ifmap_requests.specs.declared.requests.Request.{Request}
use Rattle.ifmap_requests.specs.declared.requests.Request.TheVariants.{NewSession, RenewSession, EndSession, Publish, Search, Subscribe}
use Rattle.ifmap_requests.specs.declared.requests.Request.TheVariants.{Poll, PurgePublisher}
use Rattle.ifmap_requests.specs.declared.requests.SubscribeOp.{SubscribeOp}
use Rattle.ifmap_requests.specs.declared.requests.SubscribeOp.TheVariants as subscribe
use Rattle.ifmap_requests.specs.Published.{metadata_check, published_check}
use Rattle.ifmap_requests.specs.RequestForms.{links_field, result_field}
use Rattle.ifmap_requests.specs.RequestForms.{SearchValues, delete_form, delete_from_form, end_form, end_from_form, end_session_form, end_session_of}
use Rattle.ifmap_requests.specs.RequestForms.{new_session_form, new_session_of, notify_form, notify_of, poll_form, poll_of, publish_form}
use Rattle.ifmap_requests.specs.RequestForms.{publish_of, publish_op_check, purge_form, purge_of, renew_form, renewal_of}
use Rattle.ifmap_requests.specs.RequestForms.{request_check, search_attributes, search_form, search_of, subscribe_form}
use Rattle.ifmap_requests.specs.RequestForms.{subscribe_of, subscribe_op_check, subscription_form, subscription_from_form, update_form, update_from_form}
use Rattle.ifmap_requests.specs.Fit.{IsFitLimit, IsFitOp, IsFitRequest, IsFitSubscribeOp}
use Rattle.ifmap_requests.specs.ifmap_forms.IdentifierLaws.{identifiers_back, item_of_identifiers}
use Rattle.ifmap_writing.specs.Attributes.{NamedValue, attributes_of, values_of_filter, filter_value, kinds_value, values_of_lifetime, lifetime_value}
use Rattle.ifmap_writing.specs.Attributes.{values_of_limit, limit_value, values_of_name, number_value, values_of_purge, values_of_search, values_of_session}
use Rattle.ifmap_writing.specs.Attributes.{values_of_subscription}
use Rattle.ifmap_writing.specs.Bounds.{IsBounded, IsBoundedSearch, IsBoundedSubscribe}
use Rattle.ifmap_writing.specs.RequestElements.{element_in, identifier_children, item_children, list_element, publish_element}
use Rattle.ifmap_writing.specs.RequestElements.{published_children, subscribe_element}
use Rattle.ifmap_writing.proofs.AttributeLaws.{only_values, or_none, value_named, value_found}
use Rattle.ifmap_writing.proofs.ValueLaws.{depth_back, kinds_back, lifetime_back, limit_back, name_back, size_back}
use Rattle.ifmap_writing.proofs.WrittenLaws.{published_are, published_elements}

-- ---- (1) what filters are read back

-- in this scope the filter that is printed in these prefixes is read back
abbrev pub IsReadIn : List (List ℕ) → Option Filter → Scope → Type 0
IsReadIn spaces filter scope = IfSome filter (λ f. WritesFilter (filter_text spaces f) scope f)

pub record AreReadIn (spaces : List (List ℕ)) (s : search.Search) (scope : Scope) : Type 0 where
  pub match_links : IsReadIn spaces s.match_links scope
  pub result_filter : IsReadIn spaces s.result_filter scope

abbrev pub IsReadPublish : List (List ℕ) → PublishOp → Scope → Type 0
IsReadPublish spaces (publish.Update item elements forever) scope = Unit {0}
IsReadPublish spaces (publish.Notify item elements) scope = Unit {0}
IsReadPublish spaces (publish.Delete item filter) scope = IsReadIn spaces filter scope

abbrev pub IsReadSubscribe : List (List ℕ) → SubscribeOp → Scope → Type 0
IsReadSubscribe spaces (subscribe.Update name s) scope = AreReadIn spaces s scope
IsReadSubscribe spaces (subscribe.Delete name) scope = Unit {0}

abbrev pub ArePublishRead : List (List ℕ) → List PublishOp → Scope → Type 0
ArePublishRead spaces ops scope = AllByRecursion (λ op. IsReadPublish spaces op scope) ops

abbrev pub AreSubscribeRead : List (List ℕ) → List SubscribeOp → Scope → Type 0
AreSubscribeRead spaces ops scope = AllByRecursion (λ op. IsReadSubscribe spaces op scope) ops

abbrev pub IsReadRequest : List (List ℕ) → Request → Scopes → Type 0
IsReadRequest spaces (NewSession limit) scopes = Unit {0}
IsReadRequest spaces (RenewSession session) scopes = Unit {0}
IsReadRequest spaces (EndSession session) scopes = Unit {0}
IsReadRequest spaces (Publish session ops) scopes = (path : List ℕ) → ArePublishRead spaces ops (scopes path)
IsReadRequest spaces (Search session s) scopes = AreReadIn spaces s (scopes [])
IsReadRequest spaces (Subscribe session ops) scopes = (path : List ℕ) → AreSubscribeRead spaces ops (scopes path)
IsReadRequest spaces (Poll session) scopes = Unit {0}
IsReadRequest spaces (PurgePublisher session publisher) scopes = Unit {0}

-- what the attributes of a search say
abbrev search_values : search.Search → SearchValues
search_values s = both s.match_links (both s.max_depth (both s.max_size (both s.result_filter (both s.terminal tt))))

-- ---- (1) attributes

-- an element of a name whose attributes are named values
abbrev with_values : Name → List NamedValue → List Child → Element
with_values name values children = record { name = name; attributes = attributes_of values; children = children }

-- the attribute is read back where its value is
field_back : {X : Type 0} (field : Field X) (scope : Scope) (name : Name) (values : List NamedValue) (children : List Child)
    (value : Option (List ℕ)) (x : X) → value_named field.local values ≡ value → field.reads scope value (ok_value x)
    → field_check field scope (with_values name values children) (ok_value x)
field_back field scope name values children value x is f =
    subst (λ (o : Option (List ℕ)). field.reads scope o (ok_value x)) (sym (value_found field.local values ∙ is)) f

filter_back : (spaces : List (List ℕ)) (scope : Scope) (filter : Option Filter) → IsReadIn spaces filter scope
    → read_filter scope (filter_value spaces filter) (ok_value filter)
filter_back spaces scope None w = refl
filter_back spaces scope (Some filter) w = (filter, w, refl)

-- ---- (2) identifiers

not_list : (i : Identifier) → is_bare (codes "metadata") (identifier_element i).name ≡ false
not_list (AccessRequest name domain) = refl
not_list (Device name) = refl
not_list (Identity name kind other domain) = refl
not_list (IpV4 value domain) = refl
not_list (IpV6 value domain) = refl
not_list (MacAddress value domain) = refl

abbrev identifier_parts : List Identifier → List Part
identifier_parts is = as_parts (map identifier_element is)

module _ (canon : (i : Identifier) → IsIdentifier i → IsCanon (identifier_element i) i) where
  start_back : (i : Identifier) → IsIdentifier i → start_check (parts_in (identifier_children (i ∷ []))) (ok_value i)
  start_back i f =
      subst (λ (parts : List Part). start_check parts (ok_value i)) (sym (parts_are (identifier_element i ∷ [])))
      (i ∷ [], (i, canon i f, ([], refl, refl)), refl)

  item_back : (item : Item) → IsCanonItem item → item_check (parts_in (item_children item)) (ok_value item)
  item_back item f =
      subst (λ (parts : List Part). item_check parts (ok_value item)) (sym (parts_are (map identifier_element (identifiers_of item)))) (
        identifiers_of item,
        identifiers_back canon item f,
        subst (λ (o : Option Item). need_some Failure o (λ (x : Item). pass x) (ok_value item)) (sym (item_of_identifiers item f)) refl,
      )

-- ---- (3) what is published

-- elements in a list
module _ {X : Type 0} (check : ℕ → Element → Check X) (write : X → Element) where
  each_back : (xs : List X) (index : ℕ) → ((i : ℕ) → AllByRecursion (λ x. check i (write x) (ok_value x)) xs)
      → each_element check index (as_parts (map write xs)) (ok_value xs)
  each_back [] index f = refl
  each_back (x ∷ xs) index f = (x, (f index).0, (xs, each_back xs (index + 1) (λ i. (f i).1), refl))

module _ (canon : (i : Identifier) → IsIdentifier i → IsCanon (identifier_element i) i)
    (made : (m : Metadata) → IsMetadata m → IsMadeOf m.element m) where
  metadata_back : (elements : List Metadata) → AllByRecursion IsMetadata elements
      → list_check metadata_check (list_element elements) (ok_value elements)
  metadata_back elements f =
      subst (λ (parts : List Part). each_element (λ index inner. metadata_check inner) 0 parts (ok_value elements))
      (sym (parts_are (map (λ (m : Metadata). m.element) elements)))
      (each_back (λ index inner. metadata_check inner) (λ (m : Metadata). m.element) elements 0 (λ i. each elements f))
    where
      each : (elements : List Metadata) → AllByRecursion IsMetadata elements
          → AllByRecursion (λ (m : Metadata). metadata_check m.element (ok_value m)) elements
      each [] f = tt
      each (m ∷ elements) f = (made m f.0, each elements f.1)

  list_part : List Metadata → Part
  list_part elements = Child-F.Element (list_element elements)

  -- the parts before the list are the identifiers
  before_back : (item : Item) (elements : List Metadata)
      → before_list (as_parts (published_elements item elements)) ≡ identifier_parts (identifiers_of item)
  before_back (One a) elements = rw (not_list a) refl
  before_back (Pair a b) elements = rw (not_list a, not_list b) refl

  from_back : (item : Item) (elements : List Metadata)
      → from_list (as_parts (published_elements item elements)) ≡ Child-F.Element (list_element elements) ∷ []
  from_back (One a) elements = rw (not_list a) refl
  from_back (Pair a b) elements = rw (not_list a, not_list b) refl

  published_parts_back : (item : Item) (elements : List Metadata) → IsCanonItem item → AllByRecursion IsMetadata elements
      → published_check (as_parts (published_elements item elements)) (ok_value (both item elements))
  published_parts_back item elements i f = (
    identifiers_of item,
    subst (λ (parts : List Part). identifiers_check 2 [] parts (ok_value (identifiers_of item))) (sym (before_back item elements))
        (identifiers_back canon item i),
    (
      Some elements,
      subst (λ (parts : List Part). list_if_there metadata_check parts (ok_value (Some elements))) (sym (from_back item elements))
          (elements, metadata_back elements f, refl),
      subst (λ (o : Option Item). need_some Failure o (λ (x : Item). need_some Failure (Some elements) (λ es. pass (both x es)))
          (ok_value (both item elements))) (sym (item_of_identifiers item i)) refl,
    ),
  )

  published_back : (item : Item) (elements : List Metadata) → IsCanonItem item → AllByRecursion IsMetadata elements
      → published_check (parts_in (published_children item elements)) (ok_value (both item elements))
  published_back item elements i f =
      subst (λ (children : List Child). published_check (parts_in children) (ok_value (both item elements)))
      (sym (published_are item elements))
      (subst (λ (parts : List Part). published_check parts (ok_value (both item elements)))
      (sym (parts_are (published_elements item elements)))
      (published_parts_back item elements i f))

  -- ---- (4) searches

  -- the attributes of a search, where its values are among these
  search_back : (spaces : List (List ℕ)) (scope : Scope) (name : Name) (values : List NamedValue) (children : List Child)
      (s : search.Search)
      → AreReadIn spaces s scope → IsBoundedSearch s
      → value_named (codes "match-links") values ≡ filter_value spaces s.match_links
      → value_named (codes "max-depth") values ≡ number_value s.max_depth
      → value_named (codes "max-size") values ≡ number_value s.max_size
      → value_named (codes "result-filter") values ≡ filter_value spaces s.result_filter
      → value_named (codes "terminal-identifier-type") values ≡ kinds_value s.terminal
      → search_attributes.reads scope (with_values name values children) (ok_value (search_values s))
  search_back spaces scope name values children s w bounds links depth size result terminal = (
    s.match_links,
    field_back links_field scope name values children (filter_value spaces s.match_links) s.match_links links
        (filter_back spaces scope s.match_links w.match_links),
    (
      both s.max_depth (both s.max_size (both s.result_filter (both s.terminal tt))),
      (
        s.max_depth,
        field_back depth_field scope name values children (number_value s.max_depth) s.max_depth depth
            (depth_back s.max_depth bounds.depth),
        (
          both s.max_size (both s.result_filter (both s.terminal tt)),
          (
            s.max_size,
            field_back size_field scope name values children (number_value s.max_size) s.max_size size (size_back s.max_size bounds.size),
            (
              both s.result_filter (both s.terminal tt),
              (
                s.result_filter,
                field_back result_field scope name values children (filter_value spaces s.result_filter)
                    s.result_filter result (filter_back spaces scope s.result_filter w.result_filter),
                (
                  both s.terminal tt,
                  (
                    s.terminal,
                    field_back kinds_field scope name values children (kinds_value s.terminal) s.terminal terminal (kinds_back s.terminal),
                    (tt, refl, refl),
                  ),
                  refl,
                ),
              ),
              refl,
            ),
          ),
          refl,
        ),
      ),
      refl,
    ),
  )

  -- ---- (5) operations

  module _ (spaces : List (List ℕ)) where
    publish_back : (scopes : Scopes) (op : PublishOp) → IsFitOp op → IsReadPublish spaces op (scopes [])
        → publish_op_check scopes (publish_element spaces op) (ok_value op)
    publish_back scopes (publish.Update item elements forever) f w =
        let e : Element = publish_element spaces (publish.Update item elements forever) in
        found_form update_form update_from_form scopes e (both forever tt)
        (found_alone lifetime_field (scopes []) e forever
        (field_back lifetime_field (scopes []) (bare_name (codes "update")) (values_of_lifetime forever) (published_children item elements)
        (lifetime_value forever) forever (or_none (lifetime_value forever)) (lifetime_back forever)))
        (both item elements) (only_values (codes "lifetime" ∷ []) (values_of_lifetime forever) refl) (published_back item elements f.0 f.1)
    publish_back scopes (publish.Notify item elements) f w =
        found_form notify_form notify_of scopes (publish_element spaces (publish.Notify item elements)) tt refl (both item elements) refl
        (published_back item elements f.0 f.1)
    publish_back scopes (publish.Delete item filter) f w =
        let e : Element = publish_element spaces (publish.Delete item filter) in
        found_form delete_form delete_from_form scopes e (both filter tt)
        (found_alone (filter_field (codes "filter")) (scopes []) e filter
        (field_back (filter_field (codes "filter")) (scopes []) (bare_name (codes "delete")) (values_of_filter spaces filter)
        (item_children item) (filter_value spaces filter) filter (or_none (filter_value spaces filter))
        (filter_back spaces (scopes []) filter w)))
        item (only_values (codes "filter" ∷ []) (values_of_filter spaces filter) refl) (item_back canon item f.0)

    subscribe_back : (scopes : Scopes) (op : SubscribeOp) → IsFitSubscribeOp op → IsBoundedSubscribe op
        → IsReadSubscribe spaces op (scopes []) → subscribe_op_check scopes (subscribe_element spaces op) (ok_value op)
    subscribe_back scopes (subscribe.Update name s) f within w =
        let values : List NamedValue = values_of_subscription spaces name s in
        let children : List Child = identifier_children (s.start ∷ []) in
        let e : Element = subscribe_element spaces (subscribe.Update name s) in
        found_form subscription_form subscription_from_form scopes e (both name (search_values s))
        (found_beside name_field search_attributes (scopes []) e name (search_values s)
        (field_back name_field (scopes []) (bare_name (codes "update")) values children (Some name) name refl
        (name_back name within.0.some within.0.few))
        (search_back spaces (scopes []) (bare_name (codes "update")) values children s w within.1
        (or_none (filter_value spaces s.match_links)) refl refl (or_none (filter_value spaces s.result_filter))
        (or_none (kinds_value s.terminal))))
        s.start (only_values subscription_form.attributes.locals values refl) (start_back canon s.start f.1.start)
    subscribe_back scopes (subscribe.Delete name) f within w =
        let e : Element = subscribe_element spaces (subscribe.Delete name) in
        found_form end_form end_from_form scopes e (both name tt)
        (found_alone name_field (scopes []) e name
        (field_back name_field (scopes []) (bare_name (codes "delete")) (values_of_name name) [] (Some name) name refl
        (name_back name within.some within.few)))
        tt (only_values (codes "name" ∷ []) (values_of_name name) refl) refl

    -- ---- (6) requests

    -- the id of a session, read from values that have it
    session_back : (scope : Scope) (name : Name) (values : List NamedValue) (children : List Child) (session : List ℕ)
        → value_named (codes "session-id") values ≡ Some session
        → field_check session_field scope (with_values name values children) (ok_value session)
    session_back scope name values children session is =
        field_back session_field scope name values children (Some session) session is refl

    alone_back : (scope : Scope) (name : Name) (children : List Child) (session : List ℕ)
        → renew_form.attributes.reads scope (with_values name (values_of_session session) children) (ok_value (both session tt))
    alone_back scope name children session =
        found_alone session_field scope (with_values name (values_of_session session) children) session
        (session_back scope name (values_of_session session) children session refl)

    only_session : (session : List ℕ) (name : Name) (children : List Child)
        → has_only (codes "validation" ∷ (codes "session-id" ∷ [])) (with_values name (values_of_session session) children) ≡ true
    only_session session name children = only_values (codes "validation" ∷ (codes "session-id" ∷ [])) (values_of_session session) refl

    publishes_back : (scopes : Scopes) (ops : List PublishOp) → AllByRecursion IsFitOp ops
        → ((path : List ℕ) → ArePublishRead spaces ops (scopes path))
        → list_of publish_op_check scopes (parts_in (as_children (map (publish_element spaces) ops))) (ok_value ops)
    publishes_back scopes ops f w =
        subst (λ (parts : List Part). list_of publish_op_check scopes parts (ok_value ops))
        (sym (parts_are (map (publish_element spaces) ops)))
        (each_back (λ index e. publish_op_check (scopes_below scopes index) e) (publish_element spaces) ops 0
        (λ index. each index ops f (w (index ∷ []))))
      where
        each : (index : ℕ) (ops : List PublishOp) → AllByRecursion IsFitOp ops
            → ArePublishRead spaces ops (scopes (index ∷ []))
            → AllByRecursion (λ op. publish_op_check (scopes_below scopes index) (publish_element spaces op) (ok_value op)) ops
        each index [] f w = tt
        each index (op ∷ ops) f w = (publish_back (scopes_below scopes index) op f.0 w.0, each index ops f.1 w.1)

    subscribes_back : (scopes : Scopes) (ops : List SubscribeOp) → AllByRecursion IsFitSubscribeOp ops
        → AllByRecursion IsBoundedSubscribe ops → ((path : List ℕ) → AreSubscribeRead spaces ops (scopes path))
        → list_of subscribe_op_check scopes (parts_in (as_children (map (subscribe_element spaces) ops))) (ok_value ops)
    subscribes_back scopes ops f within w =
        subst (λ (parts : List Part). list_of subscribe_op_check scopes parts (ok_value ops))
        (sym (parts_are (map (subscribe_element spaces) ops)))
        (each_back (λ index e. subscribe_op_check (scopes_below scopes index) e) (subscribe_element spaces) ops 0
        (λ index. each index ops f within (w (index ∷ []))))
      where
        each : (index : ℕ) (ops : List SubscribeOp) → AllByRecursion IsFitSubscribeOp ops → AllByRecursion IsBoundedSubscribe ops
            → AreSubscribeRead spaces ops (scopes (index ∷ []))
            → AllByRecursion (λ op. subscribe_op_check (scopes_below scopes index) (subscribe_element spaces op) (ok_value op)) ops
        each index [] f within w = tt
        each index (op ∷ ops) f within w =
            (subscribe_back (scopes_below scopes index) op f.0 within.0 w.0, each index ops f.1 within.1 w.1)

    limit_bounds : (limit : Option ℕ) → IsFitLimit limit → (n : ℕ) → limit ≡ Some n → (least_limit ≤ n) × (n ≤ greatest_limit)
    limit_bounds None f n is = let wrong : None ≡ Some n = is in cc
    limit_bounds (Some m) f n is = let same : m ≡ n = cc in subst (λ (k : ℕ). (least_limit ≤ k) × (k ≤ greatest_limit)) same f

    -- the element of a request means it, in scopes in which its filters are read back
    pub request_back : (scopes : Scopes) (r : Request) → IsFitRequest r → IsBounded r → IsReadRequest spaces r scopes
        → request_check scopes (element_in spaces r) (ok_value r)
    request_back scopes (NewSession limit) f within w =
        let e : Element = element_in spaces (NewSession limit) in
        found_form new_session_form new_session_of scopes e (both limit tt)
        (found_alone limit_field (scopes []) e limit
        (field_back limit_field (scopes []) e.name (values_of_limit limit) [] (limit_value limit) limit (or_none (limit_value limit))
        (limit_back limit (limit_bounds limit f))))
        tt (only_values (codes "validation" ∷ (codes "max-poll-result-size" ∷ [])) (values_of_limit limit) refl) refl
    request_back scopes (RenewSession session) f within w =
        let e : Element = element_in spaces (RenewSession session) in
        found_form renew_form renewal_of scopes e (both session tt) (alone_back (scopes []) e.name [] session) tt
        (only_session session e.name []) refl
    request_back scopes (EndSession session) f within w =
        let e : Element = element_in spaces (EndSession session) in
        found_form end_session_form end_session_of scopes e (both session tt) (alone_back (scopes []) e.name [] session) tt
        (only_session session e.name []) refl
    request_back scopes (Publish session ops) f within w =
        let e : Element = element_in spaces (Publish session ops) in
        found_form publish_form publish_of scopes e (both session tt) (alone_back (scopes []) e.name e.children session) ops
        (only_session session e.name e.children) (publishes_back scopes ops f.1 w)
    request_back scopes (Search session s) f within w =
        let e : Element = element_in spaces (Search session s) in
        let values : List NamedValue = values_of_search spaces session s in
        found_form search_form search_of scopes e (both session (search_values s))
        (found_beside session_field search_attributes (scopes []) e session (search_values s)
        (session_back (scopes []) e.name values e.children session refl)
        (search_back spaces (scopes []) e.name values e.children s w within (or_none (filter_value spaces s.match_links)) refl refl
        (or_none (filter_value spaces s.result_filter)) (or_none (kinds_value s.terminal))))
        s.start (only_values (codes "validation" ∷ search_form.attributes.locals) values refl) (start_back canon s.start f.1.start)
    request_back scopes (Subscribe session ops) f within w =
        let e : Element = element_in spaces (Subscribe session ops) in
        found_form subscribe_form subscribe_of scopes e (both session tt) (alone_back (scopes []) e.name e.children session) ops
        (only_session session e.name e.children) (subscribes_back scopes ops f.1 within w)
    request_back scopes (Poll session) f within w =
        let e : Element = element_in spaces (Poll session) in
        found_form poll_form poll_of scopes e (both session tt) (alone_back (scopes []) e.name [] session) tt
        (only_session session e.name []) refl
    request_back scopes (PurgePublisher session publisher) f within w =
        let e : Element = element_in spaces (PurgePublisher session publisher) in
        let values : List NamedValue = values_of_purge session publisher in
        found_form purge_form purge_of scopes e (both session (both publisher tt)) (
          session,
          session_back (scopes []) e.name values [] session refl,
          (
            both publisher tt,
            found_alone publisher_field (scopes []) e publisher
                (field_back publisher_field (scopes []) e.name values [] (Some publisher) publisher refl refl),
            refl,
          ),
        )
        tt (only_values (codes "validation" ∷ (codes "session-id" ∷ (codes "ifmap-publisher-id" ∷ []))) values refl) refl
