-- Each check of a reply finds something: a value or a defect. So a response has a reply or none.
-- Plan: (1) identifiers, tables of attributes, children and forms by the laws of their crates: where each of their parts finds a value
-- or a defect, so does the whole; (2) values of attributes; (3) results and responses, part by part; (4) envelopes, and so bodies
-- (`reply_or_none`).
use Rattle.std.proofs.Common.{◌⊎◌, ℕ, List, [], Option, None, Some, Result, Ok, Err, codes, inl, inr}
use Rattle.std.specs.List.{list_all}
use Rattle.ifmap_elem.specs.Arranged.{arrange}
use Rattle.ifmap_elem.specs.Building.{is_bare, is_name}
use Rattle.ifmap_elem.specs.declared.elements.Element.{Element}
use Rattle.ifmap_envelopes.specs.Envelopes.{IsEnvelope}
use Rattle.ifmap_forms.specs.ifmap_filter.Holding.{text_among}
use Rattle.ifmap_ident.specs.declared.codes.Code.{Code}
use Rattle.ifmap_ident.specs.declared.codes.Code.TheVariants.{Failure}
use Rattle.ifmap_ident.specs.Laws.{HasAnswer}
use Rattle.ifmap_ident.specs.Parts.{has_only, value_of}
use Rattle.ifmap_ident.specs.ifmap_reader.declared.scoping.Scope.{Scope}
use Rattle.ifmap_forms.specs.CheckLaws.{fail_done, need_done, pass_done, some_done, then_done, word_check_done}
use Rattle.ifmap_forms.specs.Checks.{Check, IsConclusive, check_then, need, need_some, pass}
use Rattle.ifmap_forms.specs.DoneLaws.{beside_done, list_at_done, made_done, members_done, no_attributes_done, no_children_done}
use Rattle.ifmap_forms.specs.DoneLaws.{read_text_done}
use Rattle.ifmap_forms.specs.Items.{before_list, from_list, identifier_check, identifiers_check, item_of, list_if_there}
use Rattle.ifmap_forms.specs.Tables.{AttributeTable, Part, element_parts, form_check, members_check, no_attributes, only_member, table_with}
use Rattle.ifmap_forms.specs.Values.{Field, publisher_field, session_field, text_field}
use Rattle.ifmap_forms.specs.IdentifierLaws.{identifier_done, identifiers_done}
use Rattle.ifmap_replies.specs.declared.kinds.PollKind.{PollKind}
use Rattle.ifmap_replies.specs.declared.kinds.PollKind.TheVariants as told
use Rattle.ifmap_replies.specs.declared.kinds.ResultKind.{ResultKind}
use Rattle.ifmap_replies.specs.declared.kinds.ResultKind.TheVariants as result
use Rattle.ifmap_replies.specs.declared.replies.Reply.{Reply}
use Rattle.ifmap_replies.specs.declared.replies.Reply.TheVariants as reply
use Rattle.ifmap_replies.specs.Fields.{code_field, code_of, optional_field, read_code, read_optional, read_word, word_field}
use Rattle.ifmap_replies.specs.Laws.{NoReplyWithDefect, ReplyOrNone}
use Rattle.ifmap_replies.specs.Means.{IsReplyOf}
use Rattle.ifmap_replies.specs.ResultForms.{element_check, entries_check, error_form, error_made, found_form, found_made, is_text}
use Rattle.ifmap_replies.specs.ResultForms.{session_result_form, new_session_made, no_scopes, note_check, only_check}
use Rattle.ifmap_replies.specs.ResultForms.{elements_or_none, plain_check, plain_form, plain_made, poll_check, poll_kind_check}
use Rattle.ifmap_replies.specs.ResultForms.{poll_kind_of, polled_form, polled_made, response_check, response_form, response_made}
use Rattle.ifmap_replies.specs.ResultForms.{result_check, result_kind_check, result_kind_of, run_check, run_form, run_from, run_made}
use Rattle.ifmap_replies.specs.ResultForms.{run_parts, told_error_form, told_error_made, told_form, told_made}
use Rattle.ifmap_replies.specs.Results.{response_name}
use Rattle.ifmap_replies.specs.Runs.{entries_in_runs, run_on}

-- ---- tables, and a member alone

abbrev SomeOfField : {X : Type 0} → Field X → Type 0
SomeOfField field = (scope : Scope) (text : Option (List ℕ)) → IsConclusive (field.reads scope text)

abbrev SomeOfTable : {X : Type 0} → AttributeTable X → Type 0
SomeOfTable table = (scope : Scope) (e : Element) → IsConclusive (table.reads scope e)

module _ {X Y : Type 0} (field : Field X) (table : AttributeTable Y) where
  table_done : SomeOfField field → SomeOfTable table → SomeOfTable (table_with field table)
  table_done f t scope e = beside_done field table scope e (f scope (value_of field.local e)) (t scope e)

module _ {X : Type 0} (one : Element → Check X) (s : (e : Element) → IsConclusive (one e)) where
  only_done : (parts : List Part) → IsConclusive (only_check one parts)
  only_done parts =
      then_done (members_check one parts) (λ xs. need_some Failure (only_member xs) (λ x. pass x))
      (λ xs is. some_done Failure (only_member xs) (λ x. pass x) (λ x. pass_done x)) (members_done one s parts)

-- ---- values

word_done : (scope : Scope) (text : Option (List ℕ)) → IsConclusive (read_word text)
word_done scope None = fail_done Failure
word_done scope (Some text) = word_check_done text

code_done : (scope : Scope) (text : Option (List ℕ)) → IsConclusive (read_code text)
code_done scope None = fail_done Failure
code_done scope (Some text) = some_done Failure (code_of text) (λ code. pass code) (λ code. pass_done code)

optional_done : (scope : Scope) (text : Option (List ℕ)) → IsConclusive (read_optional text)
optional_done scope text = pass_done text

-- ---- results and responses

note_done : (e : Element) → IsConclusive (note_check e)
note_done e =
    need_done (is_bare (codes "errorString") e.name) Failure
    (need (has_only [] e) Failure (need (list_all is_text (element_parts e)) Failure (pass (text_among e.children))))
    (need_done (has_only [] e) Failure (need (list_all is_text (element_parts e)) Failure (pass (text_among e.children)))
    (need_done (list_all is_text (element_parts e)) Failure (pass (text_among e.children)) (pass_done (text_among e.children))))

module _ (identifier_some : (e : Element) → IsConclusive (identifier_check e)) where
  run_parts_done : (parts : List Part) → IsConclusive (run_parts parts)
  run_parts_done parts =
      then_done (identifiers_check 2 [] (before_list parts))
      (λ identifiers. check_then (list_if_there element_check (from_list parts)) (λ list. run_from identifiers list))
      (λ identifiers is. then_done (list_if_there element_check (from_list parts)) (λ list. run_from identifiers list)
      (λ list there. some_done Failure (item_of identifiers) (λ item. pass (run_on item (elements_or_none list)))
      (λ item. pass_done (run_on item (elements_or_none list))))
      (list_at_done element_check (λ e. pass_done (arrange e)) (from_list parts)))
      (identifiers_done identifier_some 2 [] (before_list parts))

  run_done : (e : Element) → IsConclusive (run_check e)
  run_done e =
      need_done (is_bare (codes "resultItem") e.name) Failure (form_check run_form run_made no_scopes e)
      (made_done run_form run_made no_scopes e (no_attributes_done (no_scopes []) e) (run_parts_done (element_parts e)))

  entries_done : (parts : List Part) → IsConclusive (entries_check parts)
  entries_done parts =
      then_done (members_check run_check parts) (λ runs. pass (entries_in_runs runs)) (λ runs is. pass_done (entries_in_runs runs))
      (members_done run_check run_done parts)

  poll_kind_done : (kind : PollKind) (e : Element) → IsConclusive (poll_kind_check kind e)
  poll_kind_done (told.Entries kind) e =
      made_done (told_form kind) (told_made kind) no_scopes e
      (table_done (text_field (codes "name")) no_attributes read_text_done no_attributes_done (no_scopes []) e)
      (entries_done (element_parts e))
  poll_kind_done told.Error e =
      made_done told_error_form told_error_made no_scopes e
      (table_done code_field (table_with (optional_field (codes "name")) no_attributes) code_done
      (table_done (optional_field (codes "name")) no_attributes optional_done no_attributes_done) (no_scopes []) e)
      (only_done note_check note_done (element_parts e))

  poll_done : (e : Element) → IsConclusive (poll_check e)
  poll_done e = some_done Failure (poll_kind_of e.name) (λ kind. poll_kind_check kind e) (λ kind. poll_kind_done kind e)

  plain_done : (kind : ResultKind) (answer : Reply) (e : Element) → IsConclusive (plain_check kind answer e)
  plain_done kind answer e =
      made_done (plain_form kind) (plain_made answer) no_scopes e (no_attributes_done (no_scopes []) e)
      (no_children_done no_scopes (element_parts e))

  result_kind_done : (kind : ResultKind) (e : Element) → IsConclusive (result_kind_check kind e)
  result_kind_done result.NewSession e =
      made_done session_result_form new_session_made no_scopes e
      (table_done publisher_field (table_with (word_field (codes "max-poll-result-size")) (table_with session_field no_attributes))
      read_text_done
      (table_done (word_field (codes "max-poll-result-size")) (table_with session_field no_attributes) word_done
      (table_done session_field no_attributes read_text_done no_attributes_done)) (no_scopes []) e)
      (no_children_done no_scopes (element_parts e))
  result_kind_done result.Renewed e = plain_done result.Renewed reply.Renewed e
  result_kind_done result.Ended e = plain_done result.Ended reply.Ended e
  result_kind_done result.Published e = plain_done result.Published reply.Published e
  result_kind_done result.Subscribed e = plain_done result.Subscribed reply.Subscribed e
  result_kind_done result.Purged e = plain_done result.Purged reply.Purged e
  result_kind_done result.Found e =
      made_done found_form found_made no_scopes e (no_attributes_done (no_scopes []) e) (entries_done (element_parts e))
  result_kind_done result.Polled e =
      made_done polled_form polled_made no_scopes e (no_attributes_done (no_scopes []) e)
      (members_done poll_check poll_done (element_parts e))
  result_kind_done result.Error e =
      made_done error_form error_made no_scopes e (table_done code_field no_attributes code_done no_attributes_done (no_scopes []) e)
      (only_done note_check note_done (element_parts e))

  result_done : (e : Element) → IsConclusive (result_check e)
  result_done e = some_done Failure (result_kind_of e.name) (λ kind. result_kind_check kind e) (λ kind. result_kind_done kind e)

  pub response_done : (e : Element) → IsConclusive (response_check e)
  response_done e =
      need_done (is_name e.name response_name) Failure (form_check response_form response_made no_scopes e)
      (made_done response_form response_made no_scopes e (no_attributes_done (no_scopes []) e)
      (only_done result_check result_done (element_parts e)))

-- ---- envelopes

module _ (e : Element) (path : List ℕ) (response : Element) (envelope : IsEnvelope e path response) (none : NoReplyWithDefect) where
  decided : (found : Result Reply Code) → response_check response found
      → ((answer : Reply) × IsReplyOf e answer) ⊎ ((answer : Reply) → IsReplyOf e answer → ⊥)
  decided (Ok answer) f = inl (answer, record { path = path; response = response; envelope = envelope; checked = f })
  decided (Err code) f = inr (none e path response code envelope f)

pub reply_or_none : ((e : Element) → HasAnswer e) → NoReplyWithDefect → ReplyOrNone
reply_or_none answers none e path response envelope =
    let found = response_done (identifier_done answers) response in
    decided e path response envelope none found.0 found.1
