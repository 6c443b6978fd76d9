-- What subscriptions are told of a change of the graph.
use Rattle.std.specs.Prelude.{ℕ, Bool, true, false, List, [], map}
use Rattle.std.specs.List.{zip}
use Rattle.ifmap_machine.specs.State as machine
use Rattle.ifmap_machine.specs.Telling.{is_too_big, told_to}
use Rattle.ifmap_delta.specs.ifmap_plans.declared.plans.Note.{Note}
use Rattle.ifmap_delta.specs.ifmap_search.declared.results.Entry.{Entry}
use Rattle.ifmap_delta.specs.ifmap_search.declared.results.PollItem.{PollItem}
use Rattle.ifmap_delta.specs.ifmap_search.declared.results.PollItem.TheVariants as the_item
use Rattle.ifmap_standing.specs.declared.telling.Cause.{Cause}
use Rattle.ifmap_standing.specs.declared.telling.Cause.TheVariants.{Deleted, Updated, Notified}
use Rattle.ifmap_standing.specs.declared.telling.News.{News}
use Rattle.ifmap_view.specs.declared.attachments.Attachment.{Attachment}

-- the item that tells entries, by why they are told
abbrev pub item_by_cause : Cause → List ℕ → List Entry → PollItem
item_by_cause Deleted name = the_item.Delete name
item_by_cause Updated name = the_item.Update name
item_by_cause Notified name = the_item.Notify name

module _ (before after : List Attachment) (notes : List Note) where
  -- what the machine tells to one, and whether its result is too big now
  abbrev pub news_of : machine.Standing → News
  news_of x = record { items = told_to before after notes x; is_too_big = is_too_big after x.search }

  -- one that is skipped is told nothing
  abbrev pub news_where : Bool → machine.Standing → News
  news_where true x = record { items = []; is_too_big = false }
  news_where false x = news_of x

  -- and each of a list
  abbrev pub news_of_each : List Bool → List machine.Standing → List News
  news_of_each skipped standing = map (λ p. news_where p.0 p.1) (zip skipped standing)
