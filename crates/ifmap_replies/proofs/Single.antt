-- Each check of a reply finds one thing at most.
-- 1. Each attribute.
-- 2. Results and responses, over what they are made of.
-- 3. Elements and bodies.
use Rattle.std.proofs.Common.{◌≡◌, ℕ, List, [], Option, None, Some, Result, Ok, Err, codes, subst, sym}
use Rattle.std.specs.List.{list_all}
use Rattle.ifmap_elem.specs.Arranged.{arrange}
use Rattle.ifmap_elem.specs.Building.{is_bare, is_name}
use Rattle.ifmap_elem.specs.Spells.{Spells}
use Rattle.ifmap_elem.specs.declared.elements.Element.{Element}
use Rattle.ifmap_elem.specs.declared.readings.Reading.{Reading}
use Rattle.ifmap_envelopes.specs.Envelopes.{IsEnvelope, OneEnvelope}
use Rattle.ifmap_forms.specs.ifmap_filter.Holding.{text_among}
use Rattle.ifmap_ident.specs.declared.codes.Code.{Code}
use Rattle.ifmap_ident.specs.declared.codes.Code.TheVariants.{Failure}
use Rattle.ifmap_ident.specs.Parts.{has_only}
use Rattle.ifmap_ident.specs.ifmap_reader.declared.scoping.Scope.{Scope}
use Rattle.ifmap_forms.specs.CheckLaws.{fail_single, need_single, pass_single, some_single, then_single, word_check_single}
use Rattle.ifmap_forms.specs.Checks.{Check, IsSingle, check_then, err_value, need, need_some, ok_value, pass}
use Rattle.ifmap_forms.specs.Items.{before_list, from_list, identifier_check, identifiers_check, item_of, list_if_there}
use Rattle.ifmap_forms.specs.SingleLaws.{beside_single, made_single, each_single, read_text_single, list_at_single, no_attributes_single}
use Rattle.ifmap_forms.specs.SingleLaws.{no_children_single, identifiers_single}
use Rattle.ifmap_forms.specs.Tables.{Part, table_with, form_check, members_check, no_attributes, element_parts, only_member}
use Rattle.ifmap_forms.specs.Values.{publisher_field, session_field, text_field}
use Rattle.ifmap_replies.specs.declared.kinds.PollKind.{PollKind}
use Rattle.ifmap_replies.specs.declared.kinds.PollKind.TheVariants as told
use Rattle.ifmap_replies.specs.declared.kinds.ResultKind.{ResultKind}
use Rattle.ifmap_replies.specs.declared.kinds.ResultKind.TheVariants as result
use Rattle.ifmap_replies.specs.declared.replies.Reply.{Reply}
use Rattle.ifmap_replies.specs.declared.replies.Reply.TheVariants as reply
use Rattle.ifmap_replies.specs.Fields.{code_field, code_of, optional_field, read_code, read_optional, read_word, word_field}
use Rattle.ifmap_replies.specs.Laws.{NoReplyWithDefect, OneReplyMeaning, OneReply}
use Rattle.ifmap_replies.specs.Means.{IsReplyOf}
use Rattle.ifmap_replies.specs.ResultForms.{element_check, entries_check, error_form, error_made, found_form, found_made, is_text}
use Rattle.ifmap_replies.specs.ResultForms.{session_result_form, new_session_made, no_scopes, note_check, only_check}
use Rattle.ifmap_replies.specs.ResultForms.{elements_or_none, plain_check, plain_form, plain_made, poll_check, poll_kind_check}
use Rattle.ifmap_replies.specs.ResultForms.{poll_kind_of, polled_form, polled_made, response_check, response_form, response_made}
use Rattle.ifmap_replies.specs.ResultForms.{result_check, result_kind_check, result_kind_of, run_check, run_form, run_from, run_made}
use Rattle.ifmap_replies.specs.ResultForms.{run_parts, told_error_form, told_error_made, told_form, told_made}
use Rattle.ifmap_replies.specs.Results.{response_name}
use Rattle.ifmap_replies.specs.Runs.{entries_in_runs, run_on}

-- ---- 1. values

read_word_single : (scope : Scope) (text : Option (List ℕ)) → IsSingle (read_word text)
read_word_single scope None = fail_single Failure
read_word_single scope (Some text) = word_check_single text

read_code_single : (scope : Scope) (text : Option (List ℕ)) → IsSingle (read_code text)
read_code_single scope None = fail_single Failure
read_code_single scope (Some text) = some_single Failure (code_of text) (λ code. pass code) (λ code. pass_single code)

read_optional_single : (scope : Scope) (text : Option (List ℕ)) → IsSingle (read_optional text)
read_optional_single scope text = pass_single text

-- ---- 2. results and responses

module _ {X : Type 0} (one : Element → Check X) (s : (e : Element) → IsSingle (one e)) where
  members_single : (parts : List Part) → IsSingle (members_check one parts)
  members_single parts = each_single (λ index e. one e) (λ index e. s e) 0 parts

  only_single : (parts : List Part) → IsSingle (only_check one parts)
  only_single parts =
      then_single (members_check one parts) (λ xs. need_some Failure (only_member xs) (λ x. pass x)) (members_single parts)
      (λ xs. some_single Failure (only_member xs) (λ x. pass x) (λ x. pass_single x))

note_single : (e : Element) → IsSingle (note_check e)
note_single e =
    need_single (is_bare (codes "errorString") e.name) Failure
    (need (has_only [] e) Failure (need (list_all is_text (element_parts e)) Failure (pass (text_among e.children))))
    (need_single (has_only [] e) Failure (need (list_all is_text (element_parts e)) Failure (pass (text_among e.children)))
    (need_single (list_all is_text (element_parts e)) Failure (pass (text_among e.children)) (pass_single (text_among e.children))))

module _ (identifier_one : (e : Element) → IsSingle (identifier_check e)) where
  run_parts_single : (parts : List Part) → IsSingle (run_parts parts)
  run_parts_single parts =
      then_single (identifiers_check 2 [] (before_list parts))
      (λ identifiers. check_then (list_if_there element_check (from_list parts)) (λ list. run_from identifiers list))
      (identifiers_single identifier_one 2 [] (before_list parts))
      (λ identifiers. then_single (list_if_there element_check (from_list parts)) (λ list. run_from identifiers list)
      (list_at_single element_check (λ e. pass_single (arrange e)) (from_list parts))
      (λ list. some_single Failure (item_of identifiers) (λ item. pass (run_on item (elements_or_none list)))
      (λ item. pass_single (run_on item (elements_or_none list)))))

  run_single : (e : Element) → IsSingle (run_check e)
  run_single e =
      need_single (is_bare (codes "resultItem") e.name) Failure (form_check run_form run_made no_scopes e)
      (made_single run_form run_made no_attributes_single (λ scopes. run_parts_single) no_scopes e)

  entries_single : (parts : List Part) → IsSingle (entries_check parts)
  entries_single parts =
      then_single (members_check run_check parts) (λ runs. pass (entries_in_runs runs)) (members_single run_check run_single parts)
      (λ runs. pass_single (entries_in_runs runs))

  poll_kind_single : (kind : PollKind) (e : Element) → IsSingle (poll_kind_check kind e)
  poll_kind_single (told.Entries kind) e =
      made_single (told_form kind) (told_made kind)
      (beside_single (text_field (codes "name")) no_attributes read_text_single no_attributes_single) (λ scopes. entries_single)
      no_scopes e
  poll_kind_single told.Error e =
      made_single told_error_form told_error_made
      (beside_single code_field (table_with (optional_field (codes "name")) no_attributes) read_code_single
      (beside_single (optional_field (codes "name")) no_attributes read_optional_single no_attributes_single))
      (λ scopes. only_single note_check note_single) no_scopes e

  poll_single : (e : Element) → IsSingle (poll_check e)
  poll_single e =
      some_single Failure (poll_kind_of e.name) (λ kind. poll_kind_check kind e) (λ kind. poll_kind_single kind e)

  plain_single : (kind : ResultKind) (answer : Reply) (e : Element) → IsSingle (plain_check kind answer e)
  plain_single kind answer e =
      made_single (plain_form kind) (plain_made answer) no_attributes_single no_children_single no_scopes e

  result_kind_single : (kind : ResultKind) (e : Element) → IsSingle (result_kind_check kind e)
  result_kind_single result.NewSession e =
      made_single session_result_form new_session_made
      (beside_single publisher_field (table_with (word_field (codes "max-poll-result-size")) (table_with session_field no_attributes))
      read_text_single
      (beside_single (word_field (codes "max-poll-result-size")) (table_with session_field no_attributes) read_word_single
      (beside_single session_field no_attributes read_text_single no_attributes_single)))
      no_children_single no_scopes e
  result_kind_single result.Renewed e = plain_single result.Renewed reply.Renewed e
  result_kind_single result.Ended e = plain_single result.Ended reply.Ended e
  result_kind_single result.Published e = plain_single result.Published reply.Published e
  result_kind_single result.Subscribed e = plain_single result.Subscribed reply.Subscribed e
  result_kind_single result.Purged e = plain_single result.Purged reply.Purged e
  result_kind_single result.Found e =
      made_single found_form found_made no_attributes_single (λ scopes. entries_single) no_scopes e
  result_kind_single result.Polled e =
      made_single polled_form polled_made no_attributes_single (λ scopes. members_single poll_check poll_single) no_scopes e
  result_kind_single result.Error e =
      made_single error_form error_made (beside_single code_field no_attributes read_code_single no_attributes_single)
      (λ scopes. only_single note_check note_single) no_scopes e

  result_single : (e : Element) → IsSingle (result_check e)
  result_single e =
      some_single Failure (result_kind_of e.name) (λ kind. result_kind_check kind e) (λ kind. result_kind_single kind e)

  response_single : (e : Element) → IsSingle (response_check e)
  response_single e =
      need_single (is_name e.name response_name) Failure (form_check response_form response_made no_scopes e)
      (made_single response_form response_made no_attributes_single (λ scopes. only_single result_check result_single) no_scopes e)

-- ---- 3. elements and bodies

module _ (identifier_one : (e : Element) → IsSingle (identifier_check e)) (envelopes : OneEnvelope) where
  -- two findings in the envelopes that one element is
  found_one : (e : Element) (path route : List ℕ) (one other : Element) (r s : Result Reply Code) → IsEnvelope e path one
      → IsEnvelope e route other → response_check one r → response_check other s → r ≡ s
  found_one e path route one other r s a b p q =
      let same = envelopes e one other path route a b in
      response_single identifier_one one r s p (subst (λ (x : Element). response_check x s) (sym same.1) q)

  pub one_reply : OneReply
  one_reply e one other a b =
      let same : ok_value one ≡ ok_value other =
      found_one e a.path b.path a.response b.response (Ok one) (Ok other) a.envelope b.envelope a.checked b.checked in
      cc

  pub no_reply_with_defect : NoReplyWithDefect
  no_reply_with_defect e path response code envelope defect answer b =
      let wrong : err_value code ≡ ok_value answer =
      found_one e path b.path response b.response (Err code) (Ok answer) envelope b.envelope defect b.checked in
      cc

pub one_meaning : ((bytes : List ℕ) (one other : Reading) → Spells bytes one → Spells bytes other → one ≡ other) → OneReply →
    OneReplyMeaning
one_meaning readings replies bytes one other a b =
    replies b.reading.root one other
    (subst (λ (r : Reading). IsReplyOf r.root one) (readings bytes a.reading b.reading a.spelled b.spelled) a.reply) b.reply
