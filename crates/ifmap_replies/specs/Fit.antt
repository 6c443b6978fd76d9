-- Replies that are fit: each text in them is one that a document can have, each item is one of identifiers that elements of a document
-- are, and each element is one that a client can send.
use Rattle.std.specs.Prelude.{ℕ, ◌<◌, ◌^◌, List, Option, IfSome}
use Rattle.std.specs.List.{AllByRecursion}
use Rattle.ifmap_elem.specs.Chars.{IsCharacters}
use Rattle.ifmap_ident.specs.Items.{IsCanonItem}
use Rattle.ifmap_meta.specs.Whole.{IsSent}
use Rattle.ifmap_search.specs.declared.results.Entry.{Entry}
use Rattle.ifmap_search.specs.declared.results.PollItem.{PollItem}
use Rattle.ifmap_search.specs.declared.results.PollItem.TheVariants as poll
use Rattle.ifmap_replies.specs.declared.replies.Reply.{Reply}
use Rattle.ifmap_replies.specs.declared.replies.Reply.TheVariants as reply

pub record IsFitEntry (entry : Entry) : Type 0 where
  pub item : IsCanonItem entry.item
  pub element : IsSent entry.element

abbrev pub AreFitEntries : List Entry → Type 0
AreFitEntries entries = AllByRecursion IsFitEntry entries

-- the name of a subscription, where there is one
abbrev pub IsFitSubscriptionName : Option (List ℕ) → Type 0
IsFitSubscriptionName name = IfSome name IsCharacters

abbrev pub IsFitPollItem : PollItem → Type 0
IsFitPollItem (poll.Search name entries) = IsCharacters name × AreFitEntries entries
IsFitPollItem (poll.Update name entries) = IsCharacters name × AreFitEntries entries
IsFitPollItem (poll.Delete name entries) = IsCharacters name × AreFitEntries entries
IsFitPollItem (poll.Notify name entries) = IsCharacters name × AreFitEntries entries
IsFitPollItem (poll.Error name code note) = IsFitSubscriptionName name × IsCharacters note

-- a number as its type holds it
abbrev pub IsWord : ℕ → Type 0
IsWord n = n < 2 ^ 32

abbrev pub IsFitReply : Reply → Type 0
IsFitReply (reply.NewSession session publisher limit) = IsCharacters session × IsCharacters publisher × IsWord limit
IsFitReply reply.Renewed = Unit {0}
IsFitReply reply.Ended = Unit {0}
IsFitReply reply.Published = Unit {0}
IsFitReply reply.Subscribed = Unit {0}
IsFitReply reply.Purged = Unit {0}
IsFitReply (reply.Found entries) = AreFitEntries entries
IsFitReply (reply.Polled items) = AllByRecursion IsFitPollItem items
IsFitReply (reply.Error code note) = IsCharacters note
