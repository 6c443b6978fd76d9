-- The elements of replies, and their bytes: the results of the IF-MAP binding for SOAP, version 2.2, section 3, each in a response in an
-- envelope of SOAP 1.2 (part 1, section 5).
use Rattle.std.specs.Prelude.{ℕ, List, [], ◌∷◌, ◌++◌, codes, map, Option, None, Some}
use Rattle.ifmap_lemmas.specs.Numerals.{numeral}
use Rattle.ifmap_elem.specs.Building.{as_children, bare_attribute, bare_element}
use Rattle.ifmap_elem.specs.Canonical.{canonical_bytes}
use Rattle.ifmap_elem.specs.declared.elements.Attribute.{Attribute}
use Rattle.ifmap_elem.specs.declared.elements.Child.{Child}
use Rattle.ifmap_elem.specs.declared.elements.Child as the
use Rattle.ifmap_elem.specs.declared.elements.Element.{Element}
use Rattle.ifmap_elem.specs.declared.elements.Name.{Name}
use Rattle.ifmap_ident.specs.Codes.{code_name}
use Rattle.ifmap_ident.specs.Identifiers.{identifier_element}
use Rattle.ifmap_ident.specs.Items.{identifiers_of}
use Rattle.ifmap_ident.specs.declared.codes.Code.{Code}
use Rattle.ifmap_search.specs.declared.results.Entry.{Entry}
use Rattle.ifmap_search.specs.declared.results.PollItem.{PollItem}
use Rattle.ifmap_search.specs.declared.results.PollItem.TheVariants as poll
use Rattle.ifmap_envelopes.specs.Envelopes.{element_around, in_envelope}
use Rattle.ifmap_envelopes.specs.Spaces.{ifmap_space}
use Rattle.ifmap_replies.specs.declared.replies.Reply.{Reply}
use Rattle.ifmap_replies.specs.declared.replies.Reply.TheVariants as reply
use Rattle.ifmap_replies.specs.declared.runs.Run.{Run}
use Rattle.ifmap_replies.specs.Runs.{runs_of}

abbrev pub response_name : Name
response_name = record { space = ifmap_space; local = codes "response" }

-- ---- entries

-- `resultItem`: the identifiers of an item in their order, and then `metadata` with the elements
abbrev pub run_element : Run → Element
run_element run =
    bare_element (codes "resultItem") []
    (as_children (map identifier_element (identifiers_of run.item)
    ++ bare_element (codes "metadata") [] (as_children run.elements) ∷ []))

-- one `resultItem` for consecutive entries on one item
abbrev pub entry_children : List Entry → List Child
entry_children entries = as_children (map run_element (runs_of entries))

-- ---- errors

-- an empty text is no child
abbrev pub text_children : List ℕ → List Child
text_children [] = []
text_children (b ∷ bs) = the.Text (b ∷ bs) ∷ []

abbrev pub name_attribute : List ℕ → Attribute
name_attribute name = bare_attribute (codes "name") name

-- the attribute of a name, where there is one
abbrev pub name_attributes : Option (List ℕ) → List Attribute
name_attributes None = []
name_attributes (Some name) = name_attribute name ∷ []

-- `errorResult`, with the note of the error as its text
abbrev pub error_element : Code → Option (List ℕ) → List ℕ → Element
error_element code name note =
    bare_element (codes "errorResult") (bare_attribute (codes "errorCode") (code_name code) ∷ name_attributes name)
    (the.Element (bare_element (codes "errorString") [] (text_children note)) ∷ [])

-- ---- what a poll is told

-- a result under the name of a subscription
abbrev pub told_element : List ℕ → List ℕ → List Entry → Element
told_element local name entries = bare_element local (name_attribute name ∷ []) (entry_children entries)

abbrev pub poll_element : PollItem → Element
poll_element (poll.Search name entries) = told_element (codes "searchResult") name entries
poll_element (poll.Update name entries) = told_element (codes "updateResult") name entries
poll_element (poll.Delete name entries) = told_element (codes "deleteResult") name entries
poll_element (poll.Notify name entries) = told_element (codes "notifyResult") name entries
poll_element (poll.Error name code note) = error_element code name note

-- ---- replies

abbrev pub new_session_element : List ℕ → List ℕ → ℕ → Element
new_session_element session publisher limit =
    bare_element (codes "newSessionResult")
    (bare_attribute (codes "ifmap-publisher-id") publisher
    ∷ (bare_attribute (codes "max-poll-result-size") (numeral limit)
    ∷ (bare_attribute (codes "session-id") session ∷ [])))
    []

-- a result without attributes
abbrev pub plain_element : List ℕ → List Child → Element
plain_element local children = bare_element local [] children

abbrev pub result_element : Reply → Element
result_element (reply.NewSession session publisher limit) = new_session_element session publisher limit
result_element reply.Renewed = plain_element (codes "renewSessionResult") []
result_element reply.Ended = plain_element (codes "endSessionResult") []
result_element reply.Published = plain_element (codes "publishReceived") []
result_element reply.Subscribed = plain_element (codes "subscribeReceived") []
result_element reply.Purged = plain_element (codes "purgePublisherReceived") []
result_element (reply.Found entries) = plain_element (codes "searchResult") (entry_children entries)
result_element (reply.Polled items) = plain_element (codes "pollResult") (as_children (map poll_element items))
result_element (reply.Error code note) = error_element code None note

-- the whole envelope of a reply
abbrev pub reply_element : Reply → Element
reply_element r = in_envelope (element_around response_name (result_element r))

-- a reply as it is sent: the canonical bytes of its envelope
unfoldable pub reply_bytes : Reply → List ℕ
reply_bytes r = canonical_bytes (reply_element r)
