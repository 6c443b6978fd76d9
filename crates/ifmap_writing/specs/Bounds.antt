-- Bounds of requests that can be read: how long names are, how far walks go, how large results are, and how deep elements nest. A request
-- that a body means is within them.
use Rattle.std.specs.Prelude.{ℕ, ◌≤◌, ◌<◌, ◌^◌, List, length}
use Rattle.std.specs.List.{AllByRecursion}
use Rattle.ifmap_elem.specs.Nesting.{nesting}
use Rattle.ifmap_meta.specs.declared.metadata.Metadata.{Metadata}
use Rattle.ifmap_search.specs.declared.searches.Search as the
use Rattle.ifmap_requests.specs.ifmap_forms.Values.{greatest_size, longest_name}
use Rattle.ifmap_requests.specs.declared.publish_ops.PublishOp.{PublishOp}
use Rattle.ifmap_requests.specs.declared.publish_ops.PublishOp.TheVariants as publish
use Rattle.ifmap_requests.specs.declared.requests.Request.{Request}
use Rattle.ifmap_requests.specs.declared.requests.Request.TheVariants.{NewSession, RenewSession, EndSession, Publish, Search, Subscribe}
use Rattle.ifmap_requests.specs.declared.requests.Request.TheVariants.{Poll, PurgePublisher}
use Rattle.ifmap_requests.specs.declared.requests.SubscribeOp.{SubscribeOp}
use Rattle.ifmap_requests.specs.declared.requests.SubscribeOp.TheVariants as subscribe

-- the name of a subscription
pub record IsBoundedName (name : List ℕ) : Type 0 where
  pub some : 1 ≤ length name
  pub few : length name ≤ longest_name

pub record IsBoundedSearch (search : the.Search) : Type 0 where
  pub depth : search.max_depth < 2 ^ 32
  pub size : search.max_size ≤ greatest_size

-- how many levels an element of metadata can have: five stand round it, the envelope, its body, the request, the operation and the list
abbrev pub metadata_levels : ℕ
metadata_levels = 59

abbrev pub IsBoundedMetadata : Metadata → Type 0
IsBoundedMetadata metadata = nesting metadata.element ≤ metadata_levels

abbrev pub IsBoundedPublish : PublishOp → Type 0
IsBoundedPublish (publish.Update item elements forever) = AllByRecursion IsBoundedMetadata elements
IsBoundedPublish (publish.Notify item elements) = AllByRecursion IsBoundedMetadata elements
IsBoundedPublish (publish.Delete item filter) = Unit {0}

abbrev pub IsBoundedSubscribe : SubscribeOp → Type 0
IsBoundedSubscribe (subscribe.Update name search) = IsBoundedName name × IsBoundedSearch search
IsBoundedSubscribe (subscribe.Delete name) = IsBoundedName name

abbrev pub IsBounded : Request → Type 0
IsBounded (NewSession limit) = Unit {0}
IsBounded (RenewSession session) = Unit {0}
IsBounded (EndSession session) = Unit {0}
IsBounded (Publish session ops) = AllByRecursion IsBoundedPublish ops
IsBounded (Search session search) = IsBoundedSearch search
IsBounded (Subscribe session ops) = AllByRecursion IsBoundedSubscribe ops
IsBounded (Poll session) = Unit {0}
IsBounded (PurgePublisher session publisher) = Unit {0}
