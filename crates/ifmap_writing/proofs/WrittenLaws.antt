-- What is written of a request that is fit and within its bounds is sound.
-- 1. Names, and then values.
-- 2. Rows of attributes.
-- 3. Identifiers and metadata.
-- 4. Operations.
-- 5. Requests.
-- 6. The envelope, and the namespaces that it declares.
use Rattle.std.proofs.Common.{◌≡◌, ◌≤◌, ℕ, Bool, true, false, List, [], ◌∷◌, Option, None, Some, IfSome, codes, map, refl, sym, subst}
use Rattle.std.proofs.Common.{arith}
use Rattle.std.proofs.lemmas.Bool.Decides.{not_from_Decides}
use Rattle.std.proofs.lemmas.Slice.Eq.{bytes_eq-Decides}
use Rattle.std.specs.List.{AllByRecursion, flat_map}
use Rattle.ifmap_lemmas.specs.Members.{both_all}
use Rattle.ifmap_elem.specs.Arranged.{arrange}
use Rattle.ifmap_elem.specs.Building.{bare_name, as_children}
use Rattle.ifmap_elem.specs.Chars.{IsCharacters}
use Rattle.ifmap_elem.specs.Fit.{IsDeclarable, IsFit, IsFitName, IsNamespace}
use Rattle.ifmap_elem.specs.Nesting.{nesting}
use Rattle.ifmap_elem.specs.Scopes.{xmlns_space}
use Rattle.ifmap_elem.specs.declared.elements.Child.{Child}
use Rattle.ifmap_elem.specs.declared.elements.Element.{Element}
use Rattle.ifmap_elem.specs.laws.PrintedScopes.{are_declared}
use Rattle.ifmap_elem.specs.laws.FitLaws.{no_namespace}
use Rattle.ifmap_elem.specs.laws.CharacterLaws.{numeral_characters}
use Rattle.ifmap_elem.specs.laws.GoodElements.{IsGood, good_within}
use Rattle.ifmap_requests.specs.ifmap_envelopes.Envelopes.{element_around, envelope_name, in_envelope}
use Rattle.ifmap_filter.specs.declared.filters.Filter.{Filter}
use Rattle.ifmap_filter.specs.Spaces.{filter_spaces}
use Rattle.ifmap_ident.specs.declared.identifiers.Identifier.{Identifier}
use Rattle.ifmap_ident.specs.declared.items.Item.{Item}
use Rattle.ifmap_ident.specs.declared.items.Item.TheVariants.{One, Pair}
use Rattle.ifmap_ident.specs.declared.kinds.Kind.{Kind}
use Rattle.ifmap_ident.specs.declared.kinds.Kind.TheVariants as kind
use Rattle.ifmap_ident.specs.Canon.{IsIdentifier}
use Rattle.ifmap_ident.specs.Identifiers.{identifier_element}
use Rattle.ifmap_ident.specs.Items.{IsCanonItem, identifiers_of}
use Rattle.ifmap_ident.specs.Kinds.{kind_name}
use Rattle.ifmap_meta.specs.declared.metadata.Metadata.{Metadata}
use Rattle.ifmap_meta.specs.Whole.{IsMetadata}
use Rattle.ifmap_search.specs.declared.searches.Search as search
use Rattle.ifmap_requests.specs.declared.publish_ops.PublishOp.{PublishOp}
use Rattle.ifmap_requests.specs.declared.publish_ops.PublishOp.TheVariants as publish
use Rattle.ifmap_requests.specs.declared.requests.Request.{Request}
use Rattle.ifmap_requests.specs.declared.requests.Request.TheVariants.{NewSession, RenewSession, EndSession, Publish, Search, Subscribe}
use Rattle.ifmap_requests.specs.declared.requests.Request.TheVariants.{Poll, PurgePublisher}
use Rattle.ifmap_requests.specs.declared.requests.SubscribeOp.{SubscribeOp}
use Rattle.ifmap_requests.specs.declared.requests.SubscribeOp.TheVariants as subscribe
use Rattle.ifmap_requests.specs.ifmap_envelopes.Spaces.{envelope_space, ifmap_space}
use Rattle.ifmap_requests.specs.Fit.{IsFitOp, IsFitRequest, IsFitSearch, IsFitSubscribeOp, MayBeFitFilter}
use Rattle.ifmap_requests.specs.FitFilters.{IsFitFilter}
use Rattle.ifmap_writing.specs.Attributes.{NamedValue, values_of_filter, filter_value, kinds_value, values_of_lifetime, lifetime_value, values_of_limit}
use Rattle.ifmap_writing.specs.Attributes.{limit_value, values_of_name, values_of_purge, values_of_search, values_of_session, values_of_subscription}
use Rattle.ifmap_writing.specs.Bounds.{IsBounded, IsBoundedMetadata, IsBoundedPublish}
use Rattle.ifmap_writing.specs.RequestElements.{asking_element, element_in, list_element, part_element}
use Rattle.ifmap_writing.specs.RequestElements.{publish_element, published_children, request_element, subscribe_element}
use Rattle.ifmap_writing.specs.RequestSpaces.{optional_filter, publish_filters, request_filters, request_spaces, search_filters}
use Rattle.ifmap_writing.specs.RequestSpaces.{subscribe_filters}
use Rattle.ifmap_writing.proofs.CharacterLaws.{joined_characters, plain_characters}
use Rattle.ifmap_writing.proofs.FilterLaws.{filter_characters, filter_namespaces}
use Rattle.ifmap_writing.proofs.AttributeLaws.{is_plain_local, plain_fits}
use Rattle.ifmap_writing.proofs.SoundLaws.{AreFitValues, sound_whole}

-- ---- (1) names

bare_fits : (local : List ℕ) → is_plain_local local ≡ true → IsFitName (bare_name local)
bare_fits local plain = record { space = no_namespace; local = (plain_fits local plain).0 }

asking_fits : (local : List ℕ) → is_plain_local local ≡ true → IsFitName (record { space = ifmap_space; local = local })
asking_fits local plain = record {
  space = record {
    characters = plain_characters ifmap_space refl refl;
    not_reserved = not_from_Decides _ (bytes_eq-Decides ifmap_space xmlns_space) refl;
  };
  local = (plain_fits local plain).0;
}

envelope_fits : (local : List ℕ) → is_plain_local local ≡ true → IsFitName (envelope_name local)
envelope_fits local plain = record {
  space = record {
    characters = plain_characters envelope_space refl refl;
    not_reserved = not_from_Decides _ (bytes_eq-Decides envelope_space xmlns_space) refl;
  };
  local = (plain_fits local plain).0;
}

-- ---- (2) values

limit_fits : (limit : Option ℕ) → IfSome (limit_value limit) IsCharacters
limit_fits None = tt
limit_fits (Some n) = numeral_characters n

lifetime_fits : (forever : Bool) → IfSome (lifetime_value forever) IsCharacters
lifetime_fits true = plain_characters (codes "forever") refl refl
lifetime_fits false = tt

filter_fits : (spaces : List (List ℕ)) (filter : Option Filter) → MayBeFitFilter filter → IfSome (filter_value spaces filter) IsCharacters
filter_fits spaces None f = tt
filter_fits spaces (Some filter) f = filter_characters spaces filter f

kind_characters : (k : Kind) → IsCharacters (kind_name k)
kind_characters kind.AccessRequest = plain_characters (codes "access-request") refl refl
kind_characters kind.Device = plain_characters (codes "device") refl refl
kind_characters kind.Identity = plain_characters (codes "identity") refl refl
kind_characters kind.IpAddress = plain_characters (codes "ip-address") refl refl
kind_characters kind.MacAddress = plain_characters (codes "mac-address") refl refl

each_kind : (kinds : List Kind) → AllByRecursion (λ k. IsCharacters (kind_name k)) kinds
each_kind [] = tt
each_kind (k ∷ kinds) = (kind_characters k, each_kind kinds)

kinds_fit : (kinds : List Kind) → IfSome (kinds_value kinds) IsCharacters
kinds_fit [] = tt
kinds_fit (k ∷ kinds) =
    joined_characters (codes ",") kind_name (plain_characters (codes ",") refl refl) (k ∷ kinds) (each_kind (k ∷ kinds))

-- ---- (3) named values

no_values : AreFitValues []
no_values = record { rise = refl; plain = refl; values = tt }

session_fit : (session : List ℕ) → IsCharacters session → AreFitValues (values_of_session session)
session_fit session s = record { rise = refl; plain = refl; values = (s, tt) }

search_fit : (spaces : List (List ℕ)) (session : List ℕ) (s : search.Search) → IsCharacters session → IsFitSearch s
    → AreFitValues (values_of_search spaces session s)
search_fit spaces session s c f = record {
  rise = refl;
  plain = refl;
  values = (
    filter_fits spaces s.match_links f.match_links,
    (
      numeral_characters s.max_depth,
      (numeral_characters s.max_size, (filter_fits spaces s.result_filter f.result_filter, (c, (kinds_fit s.terminal, tt)))),
    ),
  );
}

subscription_fit : (spaces : List (List ℕ)) (name : List ℕ) (s : search.Search) → IsCharacters name → IsFitSearch s
    → AreFitValues (values_of_subscription spaces name s)
subscription_fit spaces name s c f = record {
  rise = refl;
  plain = refl;
  values = (
    filter_fits spaces s.match_links f.match_links,
    (
      numeral_characters s.max_depth,
      (numeral_characters s.max_size, (c, (filter_fits spaces s.result_filter f.result_filter, (kinds_fit s.terminal, tt)))),
    ),
  );
}

-- ---- (4) identifiers and metadata

-- the elements of what is published
abbrev pub published_elements : Item → List Metadata → List Element
published_elements (One a) elements = identifier_element a ∷ (list_element elements ∷ [])
published_elements (Pair a b) elements = identifier_element a ∷ (identifier_element b ∷ (list_element elements ∷ []))

pub published_are : (item : Item) (elements : List Metadata)
    → published_children item elements ≡ as_children (published_elements item elements)
published_are (One a) elements = refl
published_are (Pair a b) elements = refl

list_sound : (elements : List Metadata) → AllByRecursion IsMetadata elements → AllByRecursion IsBoundedMetadata elements
    → IsGood 60 (list_element elements)
list_sound elements f within =
    sound_whole 59 (bare_name (codes "metadata")) [] (map (λ (m : Metadata). m.element) elements) (bare_fits (codes "metadata") refl)
    no_values (each elements f within)
  where
    each : (elements : List Metadata) → AllByRecursion IsMetadata elements → AllByRecursion IsBoundedMetadata elements
        → AllByRecursion (IsGood 59) (map (λ (m : Metadata). m.element) elements)
    each [] f within = tt
    each (m ∷ elements) f within =
        (record { fit = f.0.sent.fit; arranged = f.0.sent.arranged; within = within.0 }, each elements f.1 within.1)

module _ (fits : (i : Identifier) → IsIdentifier i → IsFit (identifier_element i))
    (arranged : (i : Identifier) → arrange (identifier_element i) ≡ identifier_element i)
    (levels : (i : Identifier) → nesting (identifier_element i) ≤ 2) where
  identifier_sound : (i : Identifier) → IsIdentifier i → IsGood 60 (identifier_element i)
  identifier_sound i f =
      good_within 2 60 (identifier_element i) (omega arith) (record { fit = fits i f; arranged = arranged i; within = levels i })

  identifiers_sound : (is : List Identifier) → AllByRecursion IsIdentifier is → AllByRecursion (IsGood 60) (map identifier_element is)
  identifiers_sound [] f = tt
  identifiers_sound (i ∷ is) f = (identifier_sound i f.0, identifiers_sound is f.1)

  published_sound : (item : Item) (elements : List Metadata) → IsCanonItem item → AllByRecursion IsMetadata elements
      → AllByRecursion IsBoundedMetadata elements → AllByRecursion (IsGood 60) (published_elements item elements)
  published_sound (One a) elements item f within = (identifier_sound a item.identifiers.0, (list_sound elements f within, tt))
  published_sound (Pair a b) elements item f within = (
    identifier_sound a item.identifiers.0,
    (identifier_sound b item.identifiers.1.0, (list_sound elements f within, tt)),
  )

  -- ---- (5) operations

  -- an operation that publishes
  carrier_sound : (local : List ℕ) (values : List NamedValue) (item : Item) (elements : List Metadata) → is_plain_local local ≡ true
      → AreFitValues values → IsCanonItem item → AllByRecursion IsMetadata elements → AllByRecursion IsBoundedMetadata elements
      → IsGood 61 (part_element local values (published_children item elements))
  carrier_sound local values item elements plain r i f within =
      subst (λ (children : List Child). IsGood 61 (part_element local values children)) (sym (published_are item elements))
      (sound_whole 60 (bare_name local) values (published_elements item elements) (bare_fits local plain) r
      (published_sound item elements i f within))

  publish_sound : (spaces : List (List ℕ)) (op : PublishOp) → IsFitOp op → IsBoundedPublish op → IsGood 61 (publish_element spaces op)
  publish_sound spaces (publish.Update item elements forever) f within =
      carrier_sound (codes "update") (values_of_lifetime forever) item elements refl
      (record { rise = refl; plain = refl; values = (lifetime_fits forever, tt) }) f.0 f.1 within
  publish_sound spaces (publish.Notify item elements) f within =
      carrier_sound (codes "notify") [] item elements refl no_values f.0 f.1 within
  publish_sound spaces (publish.Delete item filter) f within =
      sound_whole 60 (bare_name (codes "delete")) (values_of_filter spaces filter) (map identifier_element (identifiers_of item))
      (bare_fits (codes "delete") refl) (record { rise = refl; plain = refl; values = (filter_fits spaces filter f.1, tt) })
      (identifiers_sound (identifiers_of item) f.0.identifiers)

  subscribe_sound : (spaces : List (List ℕ)) (op : SubscribeOp) → IsFitSubscribeOp op → IsGood 61 (subscribe_element spaces op)
  subscribe_sound spaces (subscribe.Update name s) f =
      sound_whole 60 (bare_name (codes "update")) (values_of_subscription spaces name s) (identifier_element s.start ∷ [])
      (bare_fits (codes "update") refl) (subscription_fit spaces name s f.0 f.1) (identifier_sound s.start f.1.start, tt)
  subscribe_sound spaces (subscribe.Delete name) f =
      sound_whole 60 (bare_name (codes "delete")) (values_of_name name) [] (bare_fits (codes "delete") refl)
      (record { rise = refl; plain = refl; values = (f, tt) }) tt

  publishes_sound : (spaces : List (List ℕ)) (ops : List PublishOp) → AllByRecursion IsFitOp ops → AllByRecursion IsBoundedPublish ops
      → AllByRecursion (IsGood 61) (map (publish_element spaces) ops)
  publishes_sound spaces [] f within = tt
  publishes_sound spaces (op ∷ ops) f within = (publish_sound spaces op f.0 within.0, publishes_sound spaces ops f.1 within.1)

  subscribes_sound : (spaces : List (List ℕ)) (ops : List SubscribeOp) → AllByRecursion IsFitSubscribeOp ops
      → AllByRecursion (IsGood 61) (map (subscribe_element spaces) ops)
  subscribes_sound spaces [] f = tt
  subscribes_sound spaces (op ∷ ops) f = (subscribe_sound spaces op f.0, subscribes_sound spaces ops f.1)

  -- ---- (6) requests

  asking_sound : (local : List ℕ) (values : List NamedValue) (es : List Element) → is_plain_local local ≡ true → AreFitValues values
      → AllByRecursion (IsGood 61) es → IsGood 62 (asking_element local values (as_children es))
  asking_sound local values es plain r f =
      sound_whole 61 (record { space = ifmap_space; local = local }) values es (asking_fits local plain) r f

  element_sound : (spaces : List (List ℕ)) (r : Request) → IsFitRequest r → IsBounded r → IsGood 62 (element_in spaces r)
  element_sound spaces (NewSession limit) f within =
      asking_sound (codes "newSession") (values_of_limit limit) [] refl
      (record { rise = refl; plain = refl; values = (limit_fits limit, tt) }) tt
  element_sound spaces (RenewSession session) f within =
      asking_sound (codes "renewSession") (values_of_session session) [] refl (session_fit session f) tt
  element_sound spaces (EndSession session) f within =
      asking_sound (codes "endSession") (values_of_session session) [] refl (session_fit session f) tt
  element_sound spaces (Publish session ops) f within =
      asking_sound (codes "publish") (values_of_session session) (map (publish_element spaces) ops) refl (session_fit session f.0)
      (publishes_sound spaces ops f.1 within)
  element_sound spaces (Search session s) f within =
      asking_sound (codes "search") (values_of_search spaces session s) (identifier_element s.start ∷ []) refl
      (search_fit spaces session s f.0 f.1)
      (good_within 60 61 (identifier_element s.start) (omega arith) (identifier_sound s.start f.1.start), tt)
  element_sound spaces (Subscribe session ops) f within =
      asking_sound (codes "subscribe") (values_of_session session) (map (subscribe_element spaces) ops) refl (session_fit session f.0)
      (subscribes_sound spaces ops f.1)
  element_sound spaces (Poll session) f within =
      asking_sound (codes "poll") (values_of_session session) [] refl (session_fit session f) tt
  element_sound spaces (PurgePublisher session publisher) f within =
      asking_sound (codes "purgePublisher") (values_of_purge session publisher) [] refl
      (record { rise = refl; plain = refl; values = (f.1, (f.0, tt)) }) tt

  -- ---- (7) the envelope

  pub envelope_sound : (r : Request) → IsFitRequest r → IsBounded r → IsGood 64 (in_envelope (request_element r))
  envelope_sound r f within =
      let inner = element_sound (request_spaces r) r f within in
      let body : Element = element_around (envelope_name (codes "Body")) (request_element r) in
      let b = sound_whole 62 (envelope_name (codes "Body")) [] (request_element r ∷ []) (envelope_fits (codes "Body") refl) no_values
      (inner, tt) in
      sound_whole 63 (envelope_name (codes "Envelope")) [] (body ∷ []) (envelope_fits (codes "Envelope") refl) no_values (b, tt)

-- the namespaces of a request's filters

each_namespaces : (filters : List Filter) → AllByRecursion IsFitFilter filters → AllByRecursion IsNamespace (flat_map filter_spaces filters)
each_namespaces [] f = tt
each_namespaces (filter ∷ filters) f =
    both_all IsNamespace (filter_spaces filter) (flat_map filter_spaces filters) (filter_namespaces filter f.0)
    (each_namespaces filters f.1)

optional_fits : (filter : Option Filter) → MayBeFitFilter filter → AllByRecursion IsFitFilter (optional_filter filter)
optional_fits None f = tt
optional_fits (Some filter) f = (f, tt)

search_fits : (s : search.Search) → IsFitSearch s → AllByRecursion IsFitFilter (search_filters s)
search_fits s f =
    both_all IsFitFilter (optional_filter s.match_links) (optional_filter s.result_filter) (optional_fits s.match_links f.match_links)
    (optional_fits s.result_filter f.result_filter)

publish_fits : (op : PublishOp) → IsFitOp op → AllByRecursion IsFitFilter (publish_filters op)
publish_fits (publish.Update item elements forever) f = tt
publish_fits (publish.Notify item elements) f = tt
publish_fits (publish.Delete item filter) f = optional_fits filter f.1

subscribe_fits : (op : SubscribeOp) → IsFitSubscribeOp op → AllByRecursion IsFitFilter (subscribe_filters op)
subscribe_fits (subscribe.Update name s) f = search_fits s f.1
subscribe_fits (subscribe.Delete name) f = tt

all_fit : {X : Type 0} (Fits : X → Type 0) (filters : X → List Filter) → ((x : X) → Fits x → AllByRecursion IsFitFilter (filters x))
    → (xs : List X) → AllByRecursion Fits xs → AllByRecursion IsFitFilter (flat_map filters xs)
all_fit Fits filters one [] f = tt
all_fit Fits filters one (x ∷ xs) f =
    both_all IsFitFilter (filters x) (flat_map filters xs) (one x f.0) (all_fit Fits filters one xs f.1)

pub filters_fit : (r : Request) → IsFitRequest r → AllByRecursion IsFitFilter (request_filters r)
filters_fit (NewSession limit) f = tt
filters_fit (RenewSession session) f = tt
filters_fit (EndSession session) f = tt
filters_fit (Publish session ops) f = all_fit IsFitOp publish_filters publish_fits ops f.1
filters_fit (Search session s) f = search_fits s f.1
filters_fit (Subscribe session ops) f = all_fit IsFitSubscribeOp subscribe_filters subscribe_fits ops f.1
filters_fit (Poll session) f = tt
filters_fit (PurgePublisher session publisher) f = tt

pub spaces_declarable : (r : Request) → IsFitRequest r → AllByRecursion IsDeclarable (request_spaces r)
spaces_declarable r f = are_declared (flat_map filter_spaces (request_filters r)) (each_namespaces (request_filters r) (filters_fit r f))
