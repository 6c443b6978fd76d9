-- What a subscribe makes of a session's subscriptions and of its queue.
use Rattle.std.specs.Prelude.{ℕ, ◌==◌, ◌&&◌, nat_le, Bool, List, [], ◌∷◌, ◌++◌, filter, length, not, Option, None, Some, option_and_then}
use Rattle.std.specs.Prelude.{if◌then◌else◌}
use Rattle.std.specs.List.{list_any}
use Rattle.ifmap_folds.specs.ifmap_fresh.Fresh.{fresh}
use Rattle.ifmap_machine.specs.State.{Standing, standing_in, standing_order}
use Rattle.ifmap_machine.specs.Telling.{is_too_big, too_big_item}
use Rattle.ifmap_folds.specs.ifmap_plans.Placing.{put}
use Rattle.ifmap_publish.specs.ifmap_requests.declared.requests.SubscribeOp.{SubscribeOp}
use Rattle.ifmap_publish.specs.ifmap_requests.declared.requests.SubscribeOp.TheVariants.{Update, Delete}
use Rattle.ifmap_replies.specs.ifmap_search.declared.results.PollItem.{PollItem}
use Rattle.ifmap_replies.specs.ifmap_search.declared.results.PollItem.TheVariants as the_item
use Rattle.ifmap_replies.specs.ifmap_search.declared.searches.Search.{Search}
use Rattle.ifmap_session.specs.Sessions.{is_named, is_same_text}
use Rattle.ifmap_publish.specs.ifmap_view.declared.attachments.Attachment.{Attachment}

-- how many subscriptions a session may keep
abbrev pub most_names : ℕ
most_names = 1000

-- what is to be told to a session, and the subscriptions of all
pub record Told : Type 0 where
  pub queue : List PollItem
  pub standing : List Standing

-- a subscription is that of a session under a name
abbrev pub is_of_name : ℕ → List ℕ → Standing → Bool
is_of_name serial name x = x.serial == serial && is_same_text x.name name

-- nothing of a name is to be told, and its subscription stands no longer
abbrev pub drop_name : ℕ → List ℕ → Told → Told
drop_name serial name t = record {
  queue = filter (λ item. not (is_named name item)) t.queue;
  standing = filter (λ x. not (is_of_name serial name x)) t.standing;
}

-- a session keeps so many subscriptions as it may, and none of that name
abbrev pub is_full_for : ℕ → List ℕ → List Standing → Bool
is_full_for serial name standing =
    nat_le most_names (length (standing_in serial standing)) && not (list_any (is_of_name serial name) standing)

-- a subscription begins: its result is to be told and it stands, or that its result is too big
abbrev pub begin_name : List Attachment → ℕ → List ℕ → Search → Told → Told
begin_name rows serial name search t =
    if is_too_big rows search
    then record t { queue = t.queue ++ too_big_item name rows search ∷ [] }
    else record {
      queue = t.queue ++ the_item.Search name (fresh rows search) ∷ [];
      standing = put standing_order (record { serial = serial; name = name; search = search }) t.standing;
    }

-- one operation; none where there is no room for a new name
abbrev pub subscribe_op : List Attachment → ℕ → SubscribeOp → Told → Option Told
subscribe_op rows serial (Update name search) t =
    if is_full_for serial name t.standing then None else Some (begin_name rows serial name search (drop_name serial name t))
subscribe_op rows serial (Delete name) t = Some (drop_name serial name t)

-- operations from left to right, all or none
abbrev pub subscribe_ops : List Attachment → ℕ → List SubscribeOp → Told → Option Told
subscribe_ops rows serial [] t = Some t
subscribe_ops rows serial (op ∷ ops) t = option_and_then (subscribe_ops rows serial ops) (subscribe_op rows serial op t)
