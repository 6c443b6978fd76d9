-- The requests of a drill.
use Rattle.std.specs.Prelude.{ℕ, ◌*◌, ◌%◌, List, [], ◌∷◌, codes, None, false, slice_get, unwrap_or}
use Rattle.rand_pcg.specs.Lcg.{Lcg}
use Rattle.ifmap_ident.specs.declared.items.Item.{Item}
use Rattle.ifmap_requests.specs.declared.publish_ops.PublishOp.{PublishOp}
use Rattle.ifmap_requests.specs.declared.publish_ops.PublishOp.TheVariants as publish
use Rattle.ifmap_requests.specs.declared.requests.Request.{Request}
use Rattle.ifmap_requests.specs.declared.requests.Request.TheVariants as the_request
use Rattle.ifmap_requests.specs.declared.requests.SubscribeOp.{SubscribeOp}
use Rattle.ifmap_requests.specs.declared.requests.SubscribeOp.TheVariants as subscribe
use Rattle.ifmap_search.specs.declared.searches.Search.{Search as AnySearch}
use Rattle.ifmap_drill.specs.declared.tasks.Task.{Task}
use Rattle.ifmap_drill.specs.declared.tasks.Task.TheVariants.{Begin, Subscribe, Update, Delete, Search, Poll, Renew}
use Rattle.ifmap_drill.specs.Extent.{address_distance, client_count, largest_result, subscription_depth}
use Rattle.ifmap_drill.specs.Parts.{address, draw_ends, link_metadata, link_of}
use Rattle.ifmap_drill.specs.Tasks.{task_at}

-- a search for what is within so many links of the client's own address, with no filter, that no kind of identifier ends
abbrev pub drill_search : ℕ → ℕ → AnySearch
drill_search client depth = record {
  start = address (client * address_distance);
  match_links = None;
  max_depth = depth;
  max_size = largest_result;
  result_filter = None;
  terminal = [];
}

-- that a link carries the drill's element, for as long as the session lives; and that it carries nothing
abbrev pub update_of : Item → PublishOp
update_of link = publish.Update link (link_metadata ∷ []) false

abbrev pub delete_of : Item → PublishOp
delete_of link = publish.Delete link None

-- a subscription to what is within so many links
abbrev pub subscription_of : ℕ → SubscribeOp
subscription_of client = subscribe.Update (codes "s") (drill_search client subscription_depth)

-- what a client with this number asks in its session, and the generator after the draws that it takes
abbrev pub request_by : Task → ℕ → List ℕ → Lcg → Request × Lcg
request_by Begin client session draws = (the_request.NewSession None, draws)
request_by Subscribe client session draws = (the_request.Subscribe session (subscription_of client ∷ []), draws)
request_by Update client session draws =
    (the_request.Publish session (update_of (link_of (draw_ends draws).0) ∷ []), (draw_ends draws).1)
request_by Delete client session draws =
    (the_request.Publish session (delete_of (link_of (draw_ends draws).0) ∷ []), (draw_ends draws).1)
request_by Search client session draws = (the_request.Search session (drill_search client 1), draws)
request_by Poll client session draws = (the_request.Poll session, draws)
request_by Renew client session draws = (the_request.RenewSession session, draws)

-- the id of a client's session, where it was given one
abbrev pub session_of : ℕ → List (List ℕ) → List ℕ
session_of client ids = unwrap_or (slice_get ids client) []

-- what event i asks, for the client whose number is the last digit of i, and the generator after its draws
abbrev pub request_at : ℕ → List (List ℕ) → Lcg → Request × Lcg
request_at i ids draws =
    request_by (task_at i) (i % client_count) (session_of (i % client_count) ids) draws
