-- Requests that are fit: each text in them is one that a document can have, each identifier and item is one that elements of a
-- document are, what they publish can be published, their filters are fit, and a limit is within its range.
use Rattle.std.specs.Prelude.{ℕ, ◌≤◌, Option, IfSome}
use Rattle.std.specs.List.{AllByRecursion}
use Rattle.ifmap_elem.specs.Chars.{IsCharacters}
use Rattle.ifmap_forms.specs.ifmap_filter.declared.filters.Filter.{Filter}
use Rattle.ifmap_forms.specs.Values.{greatest_limit, least_limit}
use Rattle.ifmap_ident.specs.Canon.{IsIdentifier}
use Rattle.ifmap_ident.specs.Items.{IsCanonItem}
use Rattle.ifmap_meta.specs.Whole.{IsMetadata}
use Rattle.ifmap_search.specs.declared.searches.Search as the
use Rattle.ifmap_requests.specs.FitFilters.{IsFitFilter}
use Rattle.ifmap_requests.specs.declared.publish_ops.PublishOp.{PublishOp}
use Rattle.ifmap_requests.specs.declared.publish_ops.PublishOp.TheVariants as publish
use Rattle.ifmap_requests.specs.declared.requests.Request.{Request}
use Rattle.ifmap_requests.specs.declared.requests.Request.TheVariants.{NewSession, RenewSession, EndSession, Publish, Search, Subscribe}
use Rattle.ifmap_requests.specs.declared.requests.Request.TheVariants.{Poll, PurgePublisher}
use Rattle.ifmap_requests.specs.declared.requests.SubscribeOp.{SubscribeOp}
use Rattle.ifmap_requests.specs.declared.requests.SubscribeOp.TheVariants as subscribe

-- how large a poll's result may be, where it is said
abbrev pub IsFitLimit : Option ℕ → Type 0
IsFitLimit limit = IfSome limit (λ n. (least_limit ≤ n) × (n ≤ greatest_limit))

-- a filter, where there is one
abbrev pub MayBeFitFilter : Option Filter → Type 0
MayBeFitFilter filter = IfSome filter IsFitFilter

abbrev pub IsFitOp : PublishOp → Type 0
IsFitOp (publish.Update item elements forever) = IsCanonItem item × AllByRecursion IsMetadata elements
IsFitOp (publish.Notify item elements) = IsCanonItem item × AllByRecursion IsMetadata elements
IsFitOp (publish.Delete item filter) = IsCanonItem item × MayBeFitFilter filter

-- it starts from an identifier that an element is, and its filters are fit
pub record IsFitSearch (search : the.Search) : Type 0 where
  pub start : IsIdentifier search.start
  pub match_links : MayBeFitFilter search.match_links
  pub result_filter : MayBeFitFilter search.result_filter

abbrev pub IsFitSubscribeOp : SubscribeOp → Type 0
IsFitSubscribeOp (subscribe.Update name search) = IsCharacters name × IsFitSearch search
IsFitSubscribeOp (subscribe.Delete name) = IsCharacters name

abbrev pub IsFitRequest : Request → Type 0
IsFitRequest (NewSession limit) = IsFitLimit limit
IsFitRequest (RenewSession session) = IsCharacters session
IsFitRequest (EndSession session) = IsCharacters session
IsFitRequest (Publish session ops) = IsCharacters session × AllByRecursion IsFitOp ops
IsFitRequest (Search session search) = IsCharacters session × IsFitSearch search
IsFitRequest (Subscribe session ops) = IsCharacters session × AllByRecursion IsFitSubscribeOp ops
IsFitRequest (Poll session) = IsCharacters session
IsFitRequest (PurgePublisher session publisher) = IsCharacters session × IsCharacters publisher
