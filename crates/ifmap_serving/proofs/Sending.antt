-- A core, what it is asked and what it answers can cross threads: each part of them can, from the bottom up.
-- The modules named below `proofs` of other crates (`TheSendSync`, `TheKnot`) are made by the compiler: it writes there that a type can
-- cross, and they stand nowhere else.
-- Most types have two lemmas, as they are owned and as a field of another, by search along the lemmas of what they are made of.
-- A ruleset `X_parts` is the list for an X.
use denote.Param.Send.{IsSend, IsSync, sendable}
use Rattle.std.proofs.Crossing.{crosses}
use Rattle.ifmap_elem.proofs.elements.Child.TheLaws.TheKnot as elements
use Rattle.ifmap_filter.proofs.filters.Predicate.TheLaws.TheKnot as filters
use Rattle.ifmap_desks.specs.ifmap_search.contracts.results.Entry as the_entry
use Rattle.ifmap_desks.specs.ifmap_search.contracts.results.PollItem as the_item
use Rattle.ifmap_desks.specs.ifmap_search.contracts.searches.Search as the_search
use Rattle.ifmap_desks.specs.ifmap_replies.contracts.replies.Reply as the_reply
use Rattle.ifmap_meta.specs.contracts.metadata.Metadata as the_metadata
use Rattle.ifmap_ident.specs.contracts.identifiers.Identifier as the_identifier
use Rattle.ifmap_desks.specs.ifmap_requests.contracts.publish_ops.PublishOp as the_publish
use Rattle.ifmap_desks.specs.ifmap_requests.contracts.requests.SubscribeOp as the_subscribe
use Rattle.ifmap_desks.specs.ifmap_requests.contracts.requests.Request as the_request
use Rattle.ifmap_desks.specs.ifmap_machine.contracts.events.Answer as the_answer
use Rattle.ifmap_desks.specs.ifmap_machine.contracts.events.Ask as the_ask
use Rattle.ifmap_desks.specs.ifmap_machine.contracts.events.Event as the_event
use Rattle.ifmap_desks.specs.ifmap_session.contracts.sessions.Sessions as the_sessions
use Rattle.ifmap_desks.specs.ifmap_region.contracts.region.Region as the_region
use Rattle.ifmap_desks.specs.ifmap_delta.contracts.subscriptions.Subscription as the_subscription
use Rattle.ifmap_desks.specs.ifmap_standing.contracts.standing.Standing as the_standing
use Rattle.ifmap_graph.specs.contracts.ends.ItemEnds as the_ends
use Rattle.ifmap_graph.specs.ifmap_view.contracts.rows.Row as the_row
use Rattle.ifmap_graph.specs.ifmap_view.contracts.views.LinkSeen as the_link
use Rattle.ifmap_graph.specs.ifmap_rows.contracts.index.WordRow as the_word_row
use Rattle.ifmap_graph.specs.ifmap_rows.contracts.rows.Rows as the_rows
use Rattle.ifmap_graph.specs.contracts.shared.SharedRows as the_shared
use Rattle.ifmap_graph.specs.contracts.spares.Spare as the_spare
use Rattle.ifmap_graph.specs.contracts.row_lists.RowList as the_list
use Rattle.ifmap_graph.specs.contracts.stocks.Stock as the_stock
use Rattle.ifmap_graph.specs.contracts.shelves.Shelf as the_shelf
use Rattle.ifmap_graph.specs.contracts.shelves.Shelves as the_shelves
use Rattle.ifmap_graph.specs.contracts.graph.Graph as the_graph
use Rattle.ifmap_desks.specs.ifmap_changes.contracts.parts.Parts as the_parts
use Rattle.ifmap_desks.specs.ifmap_core.contracts.machine.Core as the_core
use Rattle.ifmap_desks.specs.contracts.machine.CoreMachine as the_machine
use Rattle.ifmap_desks.specs.contracts.events.FitEvent as the_fit
use Rattle.ifmap_pool.proofs.pools.Pool.TheSendSync as Pool
use Rattle.slab.proofs.Slab.TheSendSync as Slab
use Rattle.std.proofs.collections.BTreeMap.TheSendSync as Tree
use Rattle.ifmap_ident.proofs.items.Item.TheSendSync as Item
use Rattle.ifmap_graph.proofs.sided.Sided.TheSendSync as Sided

ruleset plain = (crosses, sendable)

ruleset elemental = (elements.crosses, plain)

pub entry_send : IsSend the_entry.the_row
entry_send = search elemental depth 60 fits 20000

pub entry_field : IsSend (the_entry.the_field).row
entry_field = search elemental depth 60 fits 20000

ruleset item_parts = (entry_send, entry_field, plain)

pub item_send : IsSend the_item.the_row
item_send = search item_parts depth 60 fits 20000

pub item_field : IsSend (the_item.the_field).row
item_field = search item_parts depth 60 fits 20000

pub search_send : IsSend the_search.the_row
search_send = search (filters.crosses, plain) depth 60 fits 20000

pub search_field : IsSend (the_search.the_field).row
search_field = search (filters.crosses, plain) depth 60 fits 20000

ruleset reply_parts = (item_send, item_field, item_parts)

pub reply_send : IsSend the_reply.the_row
reply_send = search reply_parts depth 60 fits 20000

pub reply_field : IsSend (the_reply.the_field).row
reply_field = search reply_parts depth 60 fits 20000

pub metadata_send : IsSend the_metadata.the_row
metadata_send = search elemental depth 60 fits 20000

pub metadata_field : IsSend (the_metadata.the_field).row
metadata_field = search elemental depth 60 fits 20000

pub identifier_send : IsSend the_identifier.the_row
identifier_send = search plain depth 60 fits 20000

pub identifier_field : IsSend (the_identifier.the_field).row
identifier_field = search plain depth 60 fits 20000

ruleset publish_parts = (metadata_send, metadata_field, identifier_send, identifier_field, filters.crosses, elemental)

pub publish_send : IsSend the_publish.the_row
publish_send = search publish_parts depth 60 fits 20000

pub publish_field : IsSend (the_publish.the_field).row
publish_field = search publish_parts depth 60 fits 20000

ruleset subscribe_parts = (search_send, search_field, plain)

pub subscribe_send : IsSend the_subscribe.the_row
subscribe_send = search subscribe_parts depth 60 fits 20000

pub subscribe_field : IsSend (the_subscribe.the_field).row
subscribe_field = search subscribe_parts depth 60 fits 20000

ruleset request_parts = (publish_send, publish_field, subscribe_send, subscribe_field, subscribe_parts)

pub request_send : IsSend the_request.the_row
request_send = search request_parts depth 60 fits 20000

pub request_field : IsSend (the_request.the_field).row
request_field = search request_parts depth 60 fits 20000

pub answer_send : IsSend the_answer.the_row
answer_send = search (reply_send, reply_field, plain) depth 60 fits 20000

pub answer_field : IsSend (the_answer.the_field).row
answer_field = search (reply_send, reply_field, plain) depth 60 fits 20000

pub ask_send : IsSend the_ask.the_row
ask_send = search (request_send, request_field, plain) depth 60 fits 20000

pub ask_field : IsSend (the_ask.the_field).row
ask_field = search (request_send, request_field, plain) depth 60 fits 20000

pub event_send : IsSend the_event.the_row
event_send = search (ask_send, ask_field, plain) depth 60 fits 20000

pub event_field : IsSend (the_event.the_field).row
event_field = search (ask_send, ask_field, plain) depth 60 fits 20000

pub sessions_send : IsSend the_sessions.the_row
sessions_send = search (item_send, item_field, plain) depth 60 fits 20000

pub sessions_field : IsSend (the_sessions.the_field).row
sessions_field = search (item_send, item_field, plain) depth 60 fits 20000

pub region_send : IsSend the_region.the_row
region_send = search plain depth 60 fits 20000

pub region_field : IsSend (the_region.the_field).row
region_field = search plain depth 60 fits 20000

pub subscription_send : IsSend the_subscription.the_row
subscription_send = search (region_send, region_field, subscribe_parts) depth 60 fits 20000

pub subscription_field : IsSend (the_subscription.the_field).row
subscription_field = search (region_send, region_field, subscribe_parts) depth 60 fits 20000

pub standing_send : IsSend the_standing.the_row
standing_send = search (subscription_send, subscription_field, plain) depth 60 fits 20000

pub standing_field : IsSend (the_standing.the_field).row
standing_field = search (subscription_send, subscription_field, plain) depth 60 fits 20000

pub ends_send : IsSend the_ends.the_row
ends_send = search plain depth 60 fits 20000

pub ends_field : IsSend (the_ends.the_field).row
ends_field = search plain depth 60 fits 20000

pub row_send : IsSend the_row.the_row
row_send = search elemental depth 60 fits 20000

pub row_field : IsSend (the_row.the_field).row
row_field = search elemental depth 60 fits 20000

pub link_send : IsSend the_link.the_row
link_send = search plain depth 60 fits 20000

pub link_field : IsSend (the_link.the_field).row
link_field = search plain depth 60 fits 20000

pub worded_send : IsSend the_word_row.the_row
worded_send = search (row_send, plain) depth 60 fits 20000

pub rows_send : IsSend the_rows.the_row
rows_send = search (row_send, worded_send, plain) depth 60 fits 20000

pub row_sync : IsSync the_row.the_row
row_sync = search elemental depth 60 fits 20000

pub worded_sync : IsSync the_word_row.the_row
worded_sync = search (row_sync, plain) depth 60 fits 20000

pub rows_sync : IsSync the_rows.the_row
rows_sync = search (row_sync, worded_sync, plain) depth 60 fits 20000

pub shared_send : IsSend the_shared.the_row
shared_send = search (rows_send, rows_sync, plain) depth 60 fits 20000

pub spare_send : IsSend the_spare.the_row
spare_send = search (shared_send, row_send, plain) depth 60 fits 20000

pub list_send : IsSend the_list.the_row
list_send = search (shared_send, spare_send, plain) depth 60 fits 20000

pub stock_send : IsSend the_stock.the_row
stock_send = search (list_send, plain) depth 60 fits 20000

pub shelf_send : IsSend the_shelf.the_row
shelf_send = search (ends_send, ends_field, stock_send, plain) depth 60 fits 20000

pub shelf_field : IsSend (the_shelf.the_field).row
shelf_field = search (ends_send, ends_field, stock_send, plain) depth 60 fits 20000

ruleset shelves_parts = (shelf_send, shelf_field, Item.the_send, Tree.the_send, Slab.the_send, plain)

pub shelves_send : IsSend the_shelves.the_row
shelves_send = search shelves_parts depth 60 fits 20000

pub shelves_field : IsSend (the_shelves.the_field).row
shelves_field = search shelves_parts depth 60 fits 20000

ruleset graph_parts = (
  identifier_send,
  identifier_field,
  link_send,
  link_field,
  shelves_send,
  shelves_field,
  Pool.the_send,
  Sided.the_send,
  plain,
)

pub graph_send : IsSend the_graph.the_row
graph_send = search graph_parts depth 60 fits 20000

pub graph_field : IsSend (the_graph.the_field).row
graph_field = search graph_parts depth 60 fits 20000

ruleset core_parts = (graph_send, graph_field, sessions_send, sessions_field, standing_send, standing_field, plain)

pub parts_send : IsSend the_parts.the_row
parts_send = search core_parts depth 60 fits 20000

pub parts_field : IsSend (the_parts.the_field).row
parts_field = search core_parts depth 60 fits 20000

pub core_send : IsSend the_core.the_row
core_send = search (parts_send, parts_field, plain) depth 60 fits 20000

pub core_field : IsSend (the_core.the_field).row
core_field = search (parts_send, parts_field, plain) depth 60 fits 20000

pub machine_send : IsSend the_machine.the_row
machine_send = search (core_send, core_field, plain) depth 60 fits 20000

pub machine_field : IsSend (the_machine.the_field).row
machine_field = search (core_send, core_field, plain) depth 60 fits 20000

pub fit_send : IsSend the_fit.the_row
fit_send = search (event_send, event_field, plain) depth 60 fits 20000

pub fit_field : IsSend (the_fit.the_field).row
fit_field = search (event_send, event_field, plain) depth 60 fits 20000
