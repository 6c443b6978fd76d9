-- The table of results: IF-MAP binding for SOAP, version 2.2, section 3. No attribute in them is read by a scope.
-- 1. Entries on one item: one identifier or two, and then the elements of `metadata` or nothing (`run_check`).
-- 2. The note of an error, an element of text alone.
-- 3. What a poll is told: entries of a kind under the name of a subscription, or an error (`poll_check`).
-- 4. Results: the form of each kind, what is made of it, and the reply that an element means by its name.
use Rattle.std.specs.Prelude.{ℕ, Bool, true, false, List, [], ◌∷◌, codes, Option, None, Some}
use Rattle.std.specs.List.{find, list_all}
use Rattle.ifmap_elem.specs.Arranged.{arrange}
use Rattle.ifmap_elem.specs.Building.{is_bare, is_name}
use Rattle.ifmap_elem.specs.declared.elements.Child.TheOpen.{Child-F}
use Rattle.ifmap_elem.specs.declared.elements.Element.{Element}
use Rattle.ifmap_elem.specs.declared.elements.Name.{Name}
use Rattle.ifmap_forms.specs.ifmap_filter.Holding.{text_among}
use Rattle.ifmap_ident.specs.declared.codes.Code.{Code}
use Rattle.ifmap_ident.specs.declared.codes.Code.TheVariants.{Failure}
use Rattle.ifmap_ident.specs.declared.identifiers.Identifier.{Identifier}
use Rattle.ifmap_ident.specs.Parts.{has_only}
use Rattle.ifmap_search.specs.declared.results.Entry.{Entry}
use Rattle.ifmap_search.specs.declared.results.PollItem.{PollItem}
use Rattle.ifmap_search.specs.declared.results.PollItem.TheVariants as poll
use Rattle.ifmap_forms.specs.Checks.{Check, check_then, need, need_some, pass}
use Rattle.ifmap_forms.specs.Items.{before_list, from_list, identifiers_check, item_of, list_if_there}
use Rattle.ifmap_forms.specs.Scopes.{Scopes}
use Rattle.ifmap_forms.specs.Tables.{Both, ContentCheck, ElementForm, OneText, Part, bare_form, table_with, form_check, members_check, no_attributes}
use Rattle.ifmap_forms.specs.Tables.{no_children, element_parts, only_member}
use Rattle.ifmap_forms.specs.Values.{publisher_field, session_field, text_field}
use Rattle.ifmap_replies.specs.declared.kinds.EntriesKind.{EntriesKind}
use Rattle.ifmap_replies.specs.declared.kinds.EntriesKind.TheVariants as entries
use Rattle.ifmap_replies.specs.declared.kinds.PollKind.{PollKind}
use Rattle.ifmap_replies.specs.declared.kinds.PollKind.TheVariants as told
use Rattle.ifmap_replies.specs.declared.kinds.ResultKind.{ResultKind}
use Rattle.ifmap_replies.specs.declared.kinds.ResultKind.TheVariants as result
use Rattle.ifmap_replies.specs.declared.replies.Reply.{Reply}
use Rattle.ifmap_replies.specs.declared.replies.Reply.TheVariants as reply
use Rattle.ifmap_replies.specs.declared.runs.Run.{Run}
use Rattle.ifmap_replies.specs.Fields.{code_field, optional_field, word_field}
use Rattle.ifmap_replies.specs.Results.{response_name}
use Rattle.ifmap_replies.specs.Runs.{entries_in_runs, run_on}

-- no prefixes anywhere
abbrev pub no_scopes : Scopes
no_scopes path = record { rows = [] }

module _ {X : Type 0} where
  -- one such element alone
  abbrev pub only_check : (Element → Check X) → List Part → Check X
  only_check one parts = check_then (members_check one parts) (λ xs. need_some Failure (only_member xs) (λ x. pass x))

-- ---- entries on one item

-- any element, with its attributes in order
abbrev pub element_check : Element → Check Element
element_check e = pass (arrange e)

-- none, where there is no list
abbrev pub elements_or_none : Option (List Element) → List Element
elements_or_none None = []
elements_or_none (Some elements) = elements

abbrev pub run_from : List Identifier → Option (List Element) → Check Run
run_from identifiers list = need_some Failure (item_of identifiers) (λ item. pass (run_on item (elements_or_none list)))

-- one identifier or two different ones in either order, and then `metadata` or nothing
abbrev pub run_parts : List Part → Check Run
run_parts parts =
    check_then (identifiers_check 2 [] (before_list parts))
    (λ identifiers. check_then (list_if_there element_check (from_list parts)) (λ list. run_from identifiers list))

abbrev pub run_form : ElementForm (Unit {0}) Run
run_form = bare_form (codes "resultItem") no_attributes (λ scopes. run_parts)

abbrev pub run_made : Unit {0} → Run → Run
run_made none run = run

abbrev pub run_check : Element → Check Run
run_check e = need (is_bare (codes "resultItem") e.name) Failure (form_check run_form run_made no_scopes e)

-- the entries of any number of `resultItem`s
abbrev pub entries_check : List Part → Check (List Entry)
entries_check parts = check_then (members_check run_check parts) (λ runs. pass (entries_in_runs runs))

abbrev pub entries_content : ContentCheck (List Entry)
entries_content scopes = entries_check

-- ---- the note of an error

abbrev pub is_text : Part → Bool
is_text (Child-F.Element e) = false
is_text (Child-F.Text text) = true

-- an element `errorString` of text alone
abbrev pub note_check : Element → Check (List ℕ)
note_check e =
    need (is_bare (codes "errorString") e.name) Failure
    (need (has_only [] e) Failure
    (need (list_all is_text (element_parts e)) Failure (pass (text_among e.children))))

abbrev pub note_content : ContentCheck (List ℕ)
note_content scopes = only_check note_check

-- ---- what a poll is told

abbrev pub entries_local : EntriesKind → List ℕ
entries_local entries.Search = codes "searchResult"
entries_local entries.Update = codes "updateResult"
entries_local entries.Delete = codes "deleteResult"
entries_local entries.Notify = codes "notifyResult"

abbrev pub poll_local : PollKind → List ℕ
poll_local (told.Entries kind) = entries_local kind
poll_local told.Error = codes "errorResult"

-- all kinds of what a poll is told
abbrev pub poll_kinds : List PollKind
poll_kinds =
    told.Entries entries.Search ∷ (told.Entries entries.Update ∷ (told.Entries entries.Delete ∷ (told.Entries entries.Notify
    ∷ (told.Error ∷ []))))

abbrev pub poll_kind_of : Name → Option PollKind
poll_kind_of name = find (λ kind. is_bare (poll_local kind) name) poll_kinds

abbrev pub told_form : EntriesKind → ElementForm OneText (List Entry)
told_form kind = bare_form (entries_local kind) (table_with (text_field (codes "name")) no_attributes) entries_content

-- entries of this kind under a name
abbrev pub told_item : EntriesKind → List ℕ → List Entry → PollItem
told_item entries.Search name found = poll.Search name found
told_item entries.Update name found = poll.Update name found
told_item entries.Delete name found = poll.Delete name found
told_item entries.Notify name found = poll.Notify name found

abbrev pub told_made : EntriesKind → OneText → List Entry → PollItem
told_made kind a found = told_item kind a.first found

-- a code, and the name of a subscription where there is one
abbrev pub NamedCode : Type 0
NamedCode = Both Code (Both (Option (List ℕ)) (Unit {0}))

abbrev pub told_error_form : ElementForm NamedCode (List ℕ)
told_error_form =
    bare_form (codes "errorResult") (table_with code_field (table_with (optional_field (codes "name")) no_attributes)) note_content

abbrev pub told_error_made : NamedCode → List ℕ → PollItem
told_error_made a note = poll.Error a.others.first a.first note

abbrev pub poll_kind_check : PollKind → Element → Check PollItem
poll_kind_check (told.Entries kind) e = form_check (told_form kind) (told_made kind) no_scopes e
poll_kind_check told.Error e = form_check told_error_form told_error_made no_scopes e

-- what an element in `pollResult` means, by its name
abbrev pub poll_check : Element → Check PollItem
poll_check e = need_some Failure (poll_kind_of e.name) (λ kind. poll_kind_check kind e)

-- ---- results

abbrev pub result_local : ResultKind → List ℕ
result_local result.NewSession = codes "newSessionResult"
result_local result.Renewed = codes "renewSessionResult"
result_local result.Ended = codes "endSessionResult"
result_local result.Published = codes "publishReceived"
result_local result.Subscribed = codes "subscribeReceived"
result_local result.Purged = codes "purgePublisherReceived"
result_local result.Found = codes "searchResult"
result_local result.Polled = codes "pollResult"
result_local result.Error = codes "errorResult"

-- all kinds of results
abbrev pub result_kinds : List ResultKind
result_kinds =
    result.NewSession ∷ (result.Renewed ∷ (result.Ended ∷ (result.Published ∷ (result.Subscribed ∷ (result.Purged ∷ (result.Found
    ∷ (result.Polled ∷ (result.Error ∷ []))))))))

abbrev pub result_kind_of : Name → Option ResultKind
result_kind_of name = find (λ kind. is_bare (result_local kind) name) result_kinds

-- the publisher, how large the result of a poll may be, and the session
abbrev pub SessionValues : Type 0
SessionValues = Both (List ℕ) (Both ℕ (Both (List ℕ) (Unit {0})))

abbrev pub session_result_form : ElementForm SessionValues (Unit {0})
session_result_form =
    bare_form (result_local result.NewSession)
    (table_with publisher_field (table_with (word_field (codes "max-poll-result-size")) (table_with session_field no_attributes)))
    no_children

abbrev pub new_session_made : SessionValues → Unit {0} → Reply
new_session_made a none = reply.NewSession a.others.others.first a.first a.others.first

-- a result without attributes and children
abbrev pub plain_form : ResultKind → ElementForm (Unit {0}) (Unit {0})
plain_form kind = bare_form (result_local kind) no_attributes no_children

abbrev pub plain_made : Reply → Unit {0} → Unit {0} → Reply
plain_made answer a none = answer

abbrev pub plain_check : ResultKind → Reply → Element → Check Reply
plain_check kind answer e = form_check (plain_form kind) (plain_made answer) no_scopes e

abbrev pub found_form : ElementForm (Unit {0}) (List Entry)
found_form = bare_form (result_local result.Found) no_attributes entries_content

abbrev pub found_made : Unit {0} → List Entry → Reply
found_made a entries = reply.Found entries

abbrev pub polled_form : ElementForm (Unit {0}) (List PollItem)
polled_form = bare_form (result_local result.Polled) no_attributes (λ scopes. members_check poll_check)

abbrev pub polled_made : Unit {0} → List PollItem → Reply
polled_made a items = reply.Polled items

abbrev pub error_form : ElementForm (Both Code (Unit {0})) (List ℕ)
error_form = bare_form (result_local result.Error) (table_with code_field no_attributes) note_content

abbrev pub error_made : Both Code (Unit {0}) → List ℕ → Reply
error_made a note = reply.Error a.first note

abbrev pub result_kind_check : ResultKind → Element → Check Reply
result_kind_check result.NewSession e = form_check session_result_form new_session_made no_scopes e
result_kind_check result.Renewed e = plain_check result.Renewed reply.Renewed e
result_kind_check result.Ended e = plain_check result.Ended reply.Ended e
result_kind_check result.Published e = plain_check result.Published reply.Published e
result_kind_check result.Subscribed e = plain_check result.Subscribed reply.Subscribed e
result_kind_check result.Purged e = plain_check result.Purged reply.Purged e
result_kind_check result.Found e = form_check found_form found_made no_scopes e
result_kind_check result.Polled e = form_check polled_form polled_made no_scopes e
result_kind_check result.Error e = form_check error_form error_made no_scopes e

-- the reply that a result means, by its name
abbrev pub result_check : Element → Check Reply
result_check e = need_some Failure (result_kind_of e.name) (λ kind. result_kind_check kind e)

-- ---- responses

abbrev pub response_form : ElementForm (Unit {0}) Reply
response_form = record { name = response_name; passed_over = []; attributes = no_attributes; content = λ scopes. only_check result_check }

abbrev pub response_made : Unit {0} → Reply → Reply
response_made a answer = answer

-- the reply of a response, which holds one result alone
abbrev pub response_check : Element → Check Reply
response_check e = need (is_name e.name response_name) Failure (form_check response_form response_made no_scopes e)
