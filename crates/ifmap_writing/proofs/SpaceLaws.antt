-- The namespaces of a request's filters, gathered filter by filter, and that they serve to print each of them.
use Rattle.std.proofs.Common.{◌≡◌, ℕ, ◌+◌, ◌<◌, List, [], ◌∷◌, ◌++◌, Option, None, Some, take, get_or, length, refl, ap, sym, ◌∙◌, subst}
use Rattle.std.specs.List.{AllByRecursion, flat_map}
use Rattle.std.proofs.lemmas.Grind.{flat_map-append}
use Rattle.std.proofs.lemmas.List.{append-nil, take_more}
use Rattle.ifmap_lemmas.specs.Members.{all_both}
use Rattle.ifmap_elem.specs.Namespaces.{declared_among, AddsSpaces}
use Rattle.ifmap_elem.specs.laws.NamespaceLaws.{adds_both, adds_none}
use Rattle.ifmap_filter.specs.declared.filters.Filter.{Filter}
use Rattle.ifmap_filter.specs.Spaces.{HasSpaces, ListedServeEach, filter_spaces}
use Rattle.ifmap_search.specs.declared.searches.Search as the
use Rattle.ifmap_requests.specs.declared.publish_ops.PublishOp.{PublishOp}
use Rattle.ifmap_requests.specs.declared.publish_ops.PublishOp.TheVariants as publish
use Rattle.ifmap_requests.specs.declared.requests.Request.{Request}
use Rattle.ifmap_requests.specs.declared.requests.Request.TheVariants.{NewSession, RenewSession, EndSession, Publish, Search, Subscribe}
use Rattle.ifmap_requests.specs.declared.requests.Request.TheVariants.{Poll, PurgePublisher}
use Rattle.ifmap_requests.specs.declared.requests.SubscribeOp.{SubscribeOp}
use Rattle.ifmap_requests.specs.declared.requests.SubscribeOp.TheVariants as subscribe
use Rattle.ifmap_writing.specs.RequestSpaces.{ServeFilter, ServePublish, ServeRequest, ServeSearch, ServeSubscribe, optional_filter}
use Rattle.ifmap_writing.specs.RequestSpaces.{publish_filters, request_filters, request_spaces, search_filters, subscribe_filters}

abbrev Texts : Type 0
Texts = List (List ℕ)

-- ---- gathered

pub none_added : (spaces : Texts) → AddsSpaces spaces (flat_map filter_spaces []) spaces
none_added spaces = adds_none spaces

pub one_added : (spaces all : Texts) (filter : Filter) → AddsSpaces spaces (filter_spaces filter) all
    → AddsSpaces spaces (flat_map filter_spaces (optional_filter (Some filter))) all
one_added spaces all filter added = subst (λ (l : Texts). AddsSpaces spaces l all) (sym (append-nil (filter_spaces filter))) added

pub search_added : (search : the.Search) (spaces mid all : Texts)
    → AddsSpaces spaces (flat_map filter_spaces (optional_filter search.match_links)) mid
    → AddsSpaces mid (flat_map filter_spaces (optional_filter search.result_filter)) all
    → AddsSpaces spaces (flat_map filter_spaces (search_filters search)) all
search_added search spaces mid all one other =
    subst (λ (l : Texts). AddsSpaces spaces l all)
    (sym (flat_map-append filter_spaces (optional_filter search.match_links) (optional_filter search.result_filter)))
    (adds_both spaces mid all (flat_map filter_spaces (optional_filter search.match_links))
    (flat_map filter_spaces (optional_filter search.result_filter)) one other)

pub all_listed : (these all : Texts) → AddsSpaces [] these all → all ≡ declared_among these
all_listed these all added = added [] refl

module _ {X : Type 0} (filters : X → List Filter) where
  abbrev these_spaces : List X → Texts
  these_spaces xs = flat_map filter_spaces (flat_map filters xs)

  spaces_last : (xs : List X) (x : X) → these_spaces (xs ++ x ∷ []) ≡ these_spaces xs ++ flat_map filter_spaces (filters x)
  spaces_last xs x =
      ap (flat_map filter_spaces) (flat_map-append filters xs (x ∷ []) ∙ ap (λ l. flat_map filters xs ++ l) (append-nil (filters x)))
      ∙ flat_map-append filter_spaces (flat_map filters xs) (filters x)

  pub more_added : (xs : List X) (i : ℕ) (x : X) (now new : Texts) → i < length xs → x ≡ get_or xs i x
      → AddsSpaces [] (these_spaces (take i xs)) now → AddsSpaces now (flat_map filter_spaces (filters x)) new
      → AddsSpaces [] (these_spaces (take (i + 1) xs)) new
  more_added xs i x now new here is was added =
      let more : take (i + 1) xs ≡ take i xs ++ x ∷ [] = take_more xs i x here ∙ ap (λ z. take i xs ++ z ∷ []) (sym is) in
      subst (λ (l : Texts). AddsSpaces [] l new) (sym (ap these_spaces more ∙ spaces_last (take i xs) x))
      (adds_both [] now new (these_spaces (take i xs)) (flat_map filter_spaces (filters x)) was added)

-- ---- they serve

module _ (spaces : Texts) where
  optional_served : (filter : Option Filter) → AllByRecursion (HasSpaces spaces) (optional_filter filter) → ServeFilter spaces filter
  optional_served None f = tt
  optional_served (Some filter) f = f.0

  search_served : (search : the.Search) → AllByRecursion (HasSpaces spaces) (search_filters search) → ServeSearch spaces search
  search_served search f =
      let parts = all_both (HasSpaces spaces) (optional_filter search.match_links) (optional_filter search.result_filter) f in
      record { match_links = optional_served search.match_links parts.0; result_filter = optional_served search.result_filter parts.1 }

  publish_served : (op : PublishOp) → AllByRecursion (HasSpaces spaces) (publish_filters op) → ServePublish spaces op
  publish_served (publish.Update item elements forever) f = tt
  publish_served (publish.Notify item elements) f = tt
  publish_served (publish.Delete item filter) f = optional_served filter f

  subscribe_served : (op : SubscribeOp) → AllByRecursion (HasSpaces spaces) (subscribe_filters op) → ServeSubscribe spaces op
  subscribe_served (subscribe.Update name search) f = search_served search f
  subscribe_served (subscribe.Delete name) f = tt

  each_served : {X : Type 0} (filters : X → List Filter) (Serve : X → Type 0)
      → ((x : X) → AllByRecursion (HasSpaces spaces) (filters x) → Serve x) → (xs : List X)
      → AllByRecursion (HasSpaces spaces) (flat_map filters xs) → AllByRecursion Serve xs
  each_served filters Serve one [] f = tt
  each_served filters Serve one (x ∷ xs) f =
      let parts = all_both (HasSpaces spaces) (filters x) (flat_map filters xs) f in
      (one x parts.0, each_served filters Serve one xs parts.1)

  pub request_served : (request : Request) → AllByRecursion (HasSpaces spaces) (request_filters request) → ServeRequest spaces request
  request_served (NewSession limit) f = tt
  request_served (RenewSession session) f = tt
  request_served (EndSession session) f = tt
  request_served (Publish session ops) f = each_served publish_filters (ServePublish spaces) publish_served ops f
  request_served (Search session search) f = search_served search f
  request_served (Subscribe session ops) f = each_served subscribe_filters (ServeSubscribe spaces) subscribe_served ops f
  request_served (Poll session) f = tt
  request_served (PurgePublisher session publisher) f = tt

-- a request's own namespaces serve it
pub own_serve : ListedServeEach → (request : Request) (spaces : Texts) → spaces ≡ request_spaces request → ServeRequest spaces request
own_serve each request spaces is =
    subst (λ (s : Texts). ServeRequest s request) (sym is)
    (request_served (request_spaces request) request (each (request_filters request)))
