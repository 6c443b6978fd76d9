-- Requests as elements and as bytes: IF-MAP binding for SOAP, version 2.2, section 3.
use Rattle.std.specs.Prelude.{ℕ, List, [], ◌∷◌, ◌++◌, codes, map}
use Rattle.ifmap_elem.specs.Building.{as_children, bare_element}
use Rattle.ifmap_elem.specs.Canonical.{written_bytes}
use Rattle.ifmap_elem.specs.declared.elements.Child as the
use Rattle.ifmap_elem.specs.declared.elements.Child.{Child}
use Rattle.ifmap_elem.specs.declared.elements.Element.{Element}
use Rattle.ifmap_requests.specs.ifmap_envelopes.Envelopes.{in_envelope}
use Rattle.ifmap_ident.specs.declared.identifiers.Identifier.{Identifier}
use Rattle.ifmap_ident.specs.declared.items.Item.{Item}
use Rattle.ifmap_ident.specs.Identifiers.{identifier_element}
use Rattle.ifmap_ident.specs.Items.{identifiers_of}
use Rattle.ifmap_meta.specs.declared.metadata.Metadata.{Metadata}
use Rattle.ifmap_requests.specs.declared.publish_ops.PublishOp.{PublishOp}
use Rattle.ifmap_requests.specs.declared.publish_ops.PublishOp.TheVariants as publish
use Rattle.ifmap_requests.specs.declared.requests.Request.{Request}
use Rattle.ifmap_requests.specs.declared.requests.Request.TheVariants.{NewSession, RenewSession, EndSession, Publish, Search, Subscribe}
use Rattle.ifmap_requests.specs.declared.requests.Request.TheVariants.{Poll, PurgePublisher}
use Rattle.ifmap_requests.specs.declared.requests.SubscribeOp.{SubscribeOp}
use Rattle.ifmap_requests.specs.declared.requests.SubscribeOp.TheVariants as subscribe
use Rattle.ifmap_requests.specs.ifmap_envelopes.Spaces.{ifmap_space}
use Rattle.ifmap_writing.specs.Attributes.{NamedValue, attributes_of, values_of_filter, values_of_lifetime, values_of_limit, values_of_name, values_of_purge, values_of_search}
use Rattle.ifmap_writing.specs.Attributes.{values_of_session, values_of_subscription}
use Rattle.ifmap_writing.specs.RequestSpaces.{request_spaces}

-- an element in no namespace with these attributes and children
abbrev pub part_element : List ℕ → List NamedValue → List Child → Element
part_element local values children = bare_element local (attributes_of values) children

-- ---- what operations carry

abbrev pub identifier_children : List Identifier → List Child
identifier_children identifiers = as_children (map identifier_element identifiers)

-- the identifiers of an item, the smaller first
abbrev pub item_children : Item → List Child
item_children item = identifier_children (identifiers_of item)

-- the list of metadata
abbrev pub list_element : List Metadata → Element
list_element elements = part_element (codes "metadata") [] (as_children (map (λ metadata. metadata.element) elements))

-- the identifiers of an item, and then the list
abbrev pub published_children : Item → List Metadata → List Child
published_children item elements = item_children item ++ the.Element (list_element elements) ∷ []

-- ---- operations

abbrev pub publish_element : List (List ℕ) → PublishOp → Element
publish_element spaces (publish.Update item elements forever) =
    part_element (codes "update") (values_of_lifetime forever) (published_children item elements)
publish_element spaces (publish.Notify item elements) = part_element (codes "notify") [] (published_children item elements)
publish_element spaces (publish.Delete item filter) = part_element (codes "delete") (values_of_filter spaces filter) (item_children item)

abbrev pub subscribe_element : List (List ℕ) → SubscribeOp → Element
subscribe_element spaces (subscribe.Update name search) =
    part_element (codes "update") (values_of_subscription spaces name search) (identifier_children (search.start ∷ []))
subscribe_element spaces (subscribe.Delete name) = part_element (codes "delete") (values_of_name name) []

-- ---- requests

-- an element in the namespace of requests
abbrev pub asking_element : List ℕ → List NamedValue → List Child → Element
asking_element local values children =
    record { name = record { space = ifmap_space; local = local }; attributes = attributes_of values; children = children }

-- the element of a request, whose filters name these namespaces by the prefixes `f1`, `f2` and so on
abbrev pub element_in : List (List ℕ) → Request → Element
element_in spaces (NewSession limit) = asking_element (codes "newSession") (values_of_limit limit) []
element_in spaces (RenewSession session) = asking_element (codes "renewSession") (values_of_session session) []
element_in spaces (EndSession session) = asking_element (codes "endSession") (values_of_session session) []
element_in spaces (Publish session ops) =
    asking_element (codes "publish") (values_of_session session) (as_children (map (publish_element spaces) ops))
element_in spaces (Search session search) =
    asking_element (codes "search") (values_of_search spaces session search) (identifier_children (search.start ∷ []))
element_in spaces (Subscribe session ops) =
    asking_element (codes "subscribe") (values_of_session session) (as_children (map (subscribe_element spaces) ops))
element_in spaces (Poll session) = asking_element (codes "poll") (values_of_session session) []
element_in spaces (PurgePublisher session publisher) = asking_element (codes "purgePublisher") (values_of_purge session publisher) []

-- the element of a request, whose filters name the request's own namespaces
abbrev pub request_element : Request → Element
request_element request = element_in (request_spaces request) request

-- ---- bytes

-- a request as it is sent: its envelope in canonical form, which also declares `f1`, `f2` and so on for the filters' namespaces
unfoldable pub request_bytes : Request → List ℕ
request_bytes request = written_bytes (in_envelope (request_element request)) (request_spaces request)
