-- The table of requests: IF-MAP binding for SOAP, version 2.2, section 3.
-- 1. The operations of a publish: the form of each, what is made of it, and which one an element is by its name.
-- 2. Searches: the attributes in the table's order, and the search that they and an identifier make.
-- 3. The operations of a subscribe, in the same way.
-- 4. Requests but for a publish, each by its form, with the session as its first attribute.
-- 5. The request that an element means by its name and namespace, or the code of its first defect (`request_check`).
use Rattle.std.specs.Prelude.{ℕ, Bool, if◌then◌else◌, List, [], ◌∷◌, codes, Option, None, Some}
use Rattle.std.specs.Str.{bytes_eq}
use Rattle.ifmap_elem.specs.Building.{is_bare}
use Rattle.ifmap_elem.specs.declared.elements.Element.{Element}
use Rattle.ifmap_elem.specs.declared.elements.Name.{Name}
use Rattle.ifmap_forms.specs.ifmap_filter.declared.filters.Filter.{Filter}
use Rattle.ifmap_ident.specs.declared.codes.Code.TheVariants.{Failure, InvalidSchemaVersion}
use Rattle.ifmap_ident.specs.declared.identifiers.Identifier.{Identifier}
use Rattle.ifmap_ident.specs.declared.items.Item.{Item}
use Rattle.ifmap_ident.specs.declared.kinds.Kind.{Kind}
use Rattle.ifmap_meta.specs.declared.metadata.Metadata.{Metadata}
use Rattle.ifmap_search.specs.declared.searches.Search.{Search}
use Rattle.ifmap_ident.specs.ifmap_reader.declared.scoping.Scope.{Scope}
use Rattle.ifmap_ident.specs.Parts.{has_only}
use Rattle.ifmap_requests.specs.declared.searching.Bounds.{Bounds}
use Rattle.ifmap_envelopes.specs.Spaces.{ifmap_space}
use Rattle.ifmap_forms.specs.Checks.{Check, check_then, fail, need, pass}
use Rattle.ifmap_forms.specs.Items.{item_content, start_check, start_content}
use Rattle.ifmap_forms.specs.Scopes.{Scopes}
use Rattle.ifmap_forms.specs.Tables.{Both, ContentCheck, ElementForm, OneText, AttributeTable, bare_form, table_with, both, form_or, list_of, no_attributes}
use Rattle.ifmap_forms.specs.Tables.{no_children, element_parts}
use Rattle.ifmap_forms.specs.Values.{Field, depth_field, filter_field, kinds_field, lifetime_field, limit_field, name_field, size_field}
use Rattle.ifmap_forms.specs.Values.{publisher_field, session_field}
use Rattle.ifmap_requests.specs.declared.asking.RequestName.{RequestName}
use Rattle.ifmap_requests.specs.declared.asking.RequestName.TheVariants as asking
use Rattle.ifmap_requests.specs.declared.operations.Operation.{Operation}
use Rattle.ifmap_requests.specs.declared.operations.Operation.TheVariants as operation
use Rattle.ifmap_requests.specs.declared.publish_ops.PublishOp.{PublishOp}
use Rattle.ifmap_requests.specs.declared.publish_ops.PublishOp.TheVariants as publish
use Rattle.ifmap_requests.specs.declared.requests.Request.{Request}
use Rattle.ifmap_requests.specs.declared.requests.Request.TheVariants as request
use Rattle.ifmap_requests.specs.declared.requests.SubscribeOp.{SubscribeOp}
use Rattle.ifmap_requests.specs.declared.requests.SubscribeOp.TheVariants as subscribe
use Rattle.ifmap_requests.specs.Published.{published_content}

-- ---- the operations of a publish

abbrev pub update_form : ElementForm (Both Bool (Unit {0})) (Both Item (List Metadata))
update_form = bare_form (codes "update") (table_with lifetime_field no_attributes) published_content

abbrev pub notify_form : ElementForm (Unit {0}) (Both Item (List Metadata))
notify_form = bare_form (codes "notify") no_attributes published_content

abbrev pub delete_form : ElementForm (Both (Option Filter) (Unit {0})) Item
delete_form = bare_form (codes "delete") (table_with (filter_field (codes "filter")) no_attributes) item_content

abbrev pub update_from_form : Both Bool (Unit {0}) → Both Item (List Metadata) → PublishOp
update_from_form a published = publish.Update published.first published.others a.first

abbrev pub notify_of : Unit {0} → Both Item (List Metadata) → PublishOp
notify_of none published = publish.Notify published.first published.others

abbrev pub delete_from_form : Both (Option Filter) (Unit {0}) → Item → PublishOp
delete_from_form a item = publish.Delete item a.first

-- the operation that is so named
abbrev pub operation_of : Name → Option Operation
operation_of name =
    if is_bare (codes "update") name then Some operation.Update else if is_bare (codes "notify") name then Some operation.Notify
    else if is_bare (codes "delete") name then Some operation.Delete else None

abbrev pub publish_op_check : Scopes → Element → Check PublishOp
publish_op_check scopes e =
    form_or update_form update_from_form scopes e (form_or notify_form notify_of scopes e (form_or delete_form delete_from_form scopes e
    (fail Failure)))

-- ---- searches

-- what the attributes of a search say, in the table's order
abbrev pub SearchValues : Type 0
SearchValues = Both (Option Filter) (Both ℕ (Both ℕ (Both (Option Filter) (Both (List Kind) (Unit {0})))))

abbrev pub links_field : Field (Option Filter)
links_field = filter_field (codes "match-links")

abbrev pub result_field : Field (Option Filter)
result_field = filter_field (codes "result-filter")

-- the attributes of a search, and of these those that come after its size, its depth and the filter of its links
abbrev pub after_size : AttributeTable (Both (Option Filter) (Both (List Kind) (Unit {0})))
after_size = table_with result_field (table_with kinds_field no_attributes)

abbrev pub after_depth : AttributeTable (Both ℕ (Both (Option Filter) (Both (List Kind) (Unit {0}))))
after_depth = table_with size_field after_size

abbrev pub after_links : AttributeTable (Both ℕ (Both ℕ (Both (Option Filter) (Both (List Kind) (Unit {0})))))
after_links = table_with depth_field after_depth

abbrev pub search_attributes : AttributeTable SearchValues
search_attributes = table_with links_field after_links

abbrev pub search_from : Identifier → SearchValues → Search
search_from start values =
    record {
      start = start;
      match_links = values.first;
      max_depth = values.others.first;
      max_size = values.others.others.first;
      result_filter = values.others.others.others.first;
      terminal = values.others.others.others.others.first;
    }

-- a search: its attributes, then those that an element may have, then its start
abbrev pub search_check : List (List ℕ) → Scope → Element → Check Search
search_check locals scope e =
    check_then (search_attributes.reads scope e)
    (λ values. need (has_only locals e) Failure
    (check_then (start_check (element_parts e)) (λ start. pass (search_from start values))))

-- the values of what the code keeps of the attributes
abbrev pub values_of : Bounds → SearchValues
values_of bounds =
    both bounds.match_links (both bounds.max_depth (both bounds.max_size (both bounds.result_filter (both bounds.terminal tt))))

-- ---- the operations of a subscribe

abbrev pub subscription_form : ElementForm (Both (List ℕ) SearchValues) Identifier
subscription_form = bare_form (codes "update") (table_with name_field search_attributes) start_content

abbrev pub end_form : ElementForm (Both (List ℕ) (Unit {0})) (Unit {0})
end_form = bare_form (codes "delete") (table_with name_field no_attributes) no_children

abbrev pub subscription_from_form : Both (List ℕ) SearchValues → Identifier → SubscribeOp
subscription_from_form a start = subscribe.Update a.first (search_from start a.others)

abbrev pub end_from_form : Both (List ℕ) (Unit {0}) → Unit {0} → SubscribeOp
end_from_form a none = subscribe.Delete a.first

abbrev pub subscribe_op_check : Scopes → Element → Check SubscribeOp
subscribe_op_check scopes e =
    form_or subscription_form subscription_from_form scopes e (form_or end_form end_from_form scopes e (fail Failure))

-- ---- requests

-- the names of requests but for a publish
abbrev pub asking_name : RequestName → List ℕ
asking_name asking.NewSession = codes "newSession"
asking_name asking.RenewSession = codes "renewSession"
asking_name asking.EndSession = codes "endSession"
asking_name asking.Poll = codes "poll"
asking_name asking.Search = codes "search"
asking_name asking.Subscribe = codes "subscribe"
asking_name asking.PurgePublisher = codes "purgePublisher"

module _ {A C : Type 0} where
  -- a form of a request, beside whose attributes `validation` is passed over
  abbrev pub asking_form : List ℕ → AttributeTable A → ContentCheck C → ElementForm A C
  asking_form local attributes content =
      record {
        name = record { space = ifmap_space; local = local };
        passed_over = codes "validation" ∷ [];
        attributes = attributes;
        content = content;
      }

abbrev pub session_attribute : AttributeTable OneText
session_attribute = table_with session_field no_attributes

abbrev pub new_session_form : ElementForm (Both (Option ℕ) (Unit {0})) (Unit {0})
new_session_form = asking_form (asking_name asking.NewSession) (table_with limit_field no_attributes) no_children

abbrev pub renew_form : ElementForm OneText (Unit {0})
renew_form = asking_form (asking_name asking.RenewSession) session_attribute no_children

abbrev pub end_session_form : ElementForm OneText (Unit {0})
end_session_form = asking_form (asking_name asking.EndSession) session_attribute no_children

abbrev pub poll_form : ElementForm OneText (Unit {0})
poll_form = asking_form (asking_name asking.Poll) session_attribute no_children

abbrev pub publish_form : ElementForm OneText (List PublishOp)
publish_form = asking_form (codes "publish") session_attribute (list_of publish_op_check)

abbrev pub search_form : ElementForm (Both (List ℕ) SearchValues) Identifier
search_form = asking_form (asking_name asking.Search) (table_with session_field search_attributes) start_content

abbrev pub subscribe_form : ElementForm OneText (List SubscribeOp)
subscribe_form = asking_form (asking_name asking.Subscribe) session_attribute (list_of subscribe_op_check)

abbrev pub purge_form : ElementForm (Both (List ℕ) OneText) (Unit {0})
purge_form =
    asking_form (asking_name asking.PurgePublisher) (table_with session_field (table_with publisher_field no_attributes)) no_children

-- what the request of that session carries
abbrev pub session_alone : List ℕ → Both OneText (Unit {0})
session_alone session = both (both session tt) tt

abbrev pub new_session_of : Both (Option ℕ) (Unit {0}) → Unit {0} → Request
new_session_of a none = request.NewSession a.first

abbrev pub renewal_of : OneText → Unit {0} → Request
renewal_of a none = request.RenewSession a.first

abbrev pub end_session_of : OneText → Unit {0} → Request
end_session_of a none = request.EndSession a.first

abbrev pub publish_of : OneText → List PublishOp → Request
publish_of a ops = request.Publish a.first ops

abbrev pub search_of : Both (List ℕ) SearchValues → Identifier → Request
search_of a start = request.Search a.first (search_from start a.others)

abbrev pub subscribe_of : OneText → List SubscribeOp → Request
subscribe_of a ops = request.Subscribe a.first ops

abbrev pub poll_of : OneText → Unit {0} → Request
poll_of a none = request.Poll a.first

abbrev pub purge_of : Both (List ℕ) OneText → Unit {0} → Request
purge_of a none = request.PurgePublisher a.first a.others.first

-- the chain of forms by which a request that is no publish is told, from each form on
abbrev pub from_purge : Scopes → Element → Check Request
from_purge scopes e = form_or purge_form purge_of scopes e (fail Failure)

abbrev pub from_subscribe : Scopes → Element → Check Request
from_subscribe scopes e = form_or subscribe_form subscribe_of scopes e (from_purge scopes e)

abbrev pub from_search : Scopes → Element → Check Request
from_search scopes e = form_or search_form search_of scopes e (from_subscribe scopes e)

abbrev pub from_poll : Scopes → Element → Check Request
from_poll scopes e = form_or poll_form poll_of scopes e (from_search scopes e)

abbrev pub from_end_session : Scopes → Element → Check Request
from_end_session scopes e = form_or end_session_form end_session_of scopes e (from_poll scopes e)

abbrev pub from_renewal : Scopes → Element → Check Request
from_renewal scopes e = form_or renew_form renewal_of scopes e (from_end_session scopes e)

-- the request of an element by its name, where it is no publish
abbrev pub other_request_check : Scopes → Element → Check Request
other_request_check scopes e = form_or new_session_form new_session_of scopes e (from_renewal scopes e)

-- the request of an element in the namespace of requests, by its name
abbrev pub named_request_check : Scopes → Element → Check Request
named_request_check scopes e = form_or publish_form publish_of scopes e (other_request_check scopes e)

-- the request that an element means, where its scopes are these, or the code of its first defect in the order of the document;
-- another namespace comes before all others
abbrev pub request_check : Scopes → Element → Check Request
request_check scopes e = need (bytes_eq e.name.space ifmap_space) InvalidSchemaVersion (named_request_check scopes e)
