-- The namespaces of a request's filters, which its envelope declares.
use Rattle.std.specs.Prelude.{ℕ, List, [], ◌∷◌, ◌++◌, Option, None, Some, IfSome}
use Rattle.std.specs.List.{AllByRecursion, flat_map}
use Rattle.ifmap_elem.specs.Namespaces.{declared_among}
use Rattle.ifmap_filter.specs.declared.filters.Filter.{Filter}
use Rattle.ifmap_filter.specs.Spaces.{HasSpaces, filter_spaces}
use Rattle.ifmap_search.specs.declared.searches.Search as the
use Rattle.ifmap_requests.specs.declared.publish_ops.PublishOp.{PublishOp}
use Rattle.ifmap_requests.specs.declared.publish_ops.PublishOp.TheVariants as publish
use Rattle.ifmap_requests.specs.declared.requests.Request.{Request}
use Rattle.ifmap_requests.specs.declared.requests.Request.TheVariants.{NewSession, RenewSession, EndSession, Publish, Search, Subscribe}
use Rattle.ifmap_requests.specs.declared.requests.Request.TheVariants.{Poll, PurgePublisher}
use Rattle.ifmap_requests.specs.declared.requests.SubscribeOp.{SubscribeOp}
use Rattle.ifmap_requests.specs.declared.requests.SubscribeOp.TheVariants as subscribe

-- ---- the filters of a request, in the order of the document

abbrev pub optional_filter : Option Filter → List Filter
optional_filter None = []
optional_filter (Some filter) = filter ∷ []

abbrev pub search_filters : the.Search → List Filter
search_filters search = optional_filter search.match_links ++ optional_filter search.result_filter

abbrev pub publish_filters : PublishOp → List Filter
publish_filters (publish.Update item elements forever) = []
publish_filters (publish.Notify item elements) = []
publish_filters (publish.Delete item filter) = optional_filter filter

abbrev pub subscribe_filters : SubscribeOp → List Filter
subscribe_filters (subscribe.Update name search) = search_filters search
subscribe_filters (subscribe.Delete name) = []

abbrev pub request_filters : Request → List Filter
request_filters (NewSession limit) = []
request_filters (RenewSession session) = []
request_filters (EndSession session) = []
request_filters (Publish session ops) = flat_map publish_filters ops
request_filters (Search session search) = search_filters search
request_filters (Subscribe session ops) = flat_map subscribe_filters ops
request_filters (Poll session) = []
request_filters (PurgePublisher session publisher) = []

-- the namespaces of these filters, each once, in the order of their first occurrence, but for none and that of `xml`
abbrev pub request_spaces : Request → List (List ℕ)
request_spaces request = declared_among (flat_map filter_spaces (request_filters request))

-- ---- which namespaces serve to print them

abbrev pub ServeFilter : List (List ℕ) → Option Filter → Type 0
ServeFilter spaces filter = IfSome filter (HasSpaces spaces)

pub record ServeSearch (spaces : List (List ℕ)) (search : the.Search) : Type 0 where
  pub match_links : ServeFilter spaces search.match_links
  pub result_filter : ServeFilter spaces search.result_filter

abbrev pub ServePublish : List (List ℕ) → PublishOp → Type 0
ServePublish spaces (publish.Update item elements forever) = Unit {0}
ServePublish spaces (publish.Notify item elements) = Unit {0}
ServePublish spaces (publish.Delete item filter) = ServeFilter spaces filter

abbrev pub ServeSubscribe : List (List ℕ) → SubscribeOp → Type 0
ServeSubscribe spaces (subscribe.Update name search) = ServeSearch spaces search
ServeSubscribe spaces (subscribe.Delete name) = Unit {0}

abbrev pub ServeRequest : List (List ℕ) → Request → Type 0
ServeRequest spaces (NewSession limit) = Unit {0}
ServeRequest spaces (RenewSession session) = Unit {0}
ServeRequest spaces (EndSession session) = Unit {0}
ServeRequest spaces (Publish session ops) = AllByRecursion (ServePublish spaces) ops
ServeRequest spaces (Search session search) = ServeSearch spaces search
ServeRequest spaces (Subscribe session ops) = AllByRecursion (ServeSubscribe spaces) ops
ServeRequest spaces (Poll session) = Unit {0}
ServeRequest spaces (PurgePublisher session publisher) = Unit {0}
