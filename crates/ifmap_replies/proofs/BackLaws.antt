-- The element of a reply that is fit means it.
-- 1. Lists of elements, and one alone.
-- 2. Values: numbers and codes.
-- 3. Entries: runs, identifiers, items.
-- 4. Results.
-- 5. Responses and envelopes.
use Rattle.std.proofs.Common.{◌≡◌, ◌∙◌, ℕ, ◌+◌, ◌<◌, ◌^◌, ◌&&◌, Bool, true, false, List, [], ◌∷◌, ◌++◌, Option, None, Some}
use Rattle.std.proofs.Common.{Ok, map, codes, refl, ap, arith, subst, sym, append-nil}
use Rattle.std.specs.Prelude.{if◌then◌else◌, nat_lt}
use Rattle.std.specs.List.{AllByRecursion, list_all}
use Rattle.std.proofs.lemmas.Bool.Decides.{nat_tests}
use Rattle.ifmap_lemmas.specs.Numerals.{numeral}
use Rattle.ifmap_elem.specs.Building.{bare_element, as_children}
use Rattle.ifmap_elem.specs.declared.elements.Child.{Child}
use Rattle.ifmap_elem.specs.declared.elements.Child as the
use Rattle.ifmap_elem.specs.declared.elements.Child.TheOpen.{Child-F}
use Rattle.ifmap_elem.specs.declared.elements.Element.{Element}
use Rattle.ifmap_elem.specs.laws.FitLaws.{out_text}
use Rattle.ifmap_envelopes.specs.Envelopes.{element_around}
use Rattle.ifmap_envelopes.specs.MakingLaws.{made_envelope}
use Rattle.ifmap_forms.specs.ifmap_filter.Holding.{own_text_of, text_among}
use Rattle.ifmap_ident.specs.declared.codes.Code.{Code}
use Rattle.ifmap_ident.specs.declared.codes.Code.TheVariants.{AccessDenied, Failure, InvalidIdentifier, InvalidIdentifierType}
use Rattle.ifmap_ident.specs.declared.codes.Code.TheVariants.{IdentifierTooLong, InvalidMetadata, InvalidSchemaVersion, InvalidSessionID}
use Rattle.ifmap_ident.specs.declared.codes.Code.TheVariants.{MetadataTooLong, SearchResultsTooBig, PollResultsTooBig, SystemError}
use Rattle.ifmap_ident.specs.declared.identifiers.Identifier.{Identifier}
use Rattle.ifmap_ident.specs.declared.identifiers.Identifier.TheVariants.{AccessRequest, Device, Identity, IpV4, IpV6, MacAddress}
use Rattle.ifmap_ident.specs.declared.items.Item.{Item}
use Rattle.ifmap_ident.specs.Canon.{IsCanon, IsIdentifier}
use Rattle.ifmap_ident.specs.Codes.{code_name}
use Rattle.ifmap_ident.specs.Identifiers.{identifier_bytes, identifier_element}
use Rattle.ifmap_ident.specs.Items.{identifiers_of, same_item}
use Rattle.ifmap_ident.specs.SameLaws.{same_item_is}
use Rattle.ifmap_meta.specs.Whole.{IsSent}
use Rattle.ifmap_search.specs.declared.results.Entry.{Entry}
use Rattle.ifmap_search.specs.declared.results.PollItem.{PollItem}
use Rattle.ifmap_search.specs.declared.results.PollItem.TheVariants as poll
use Rattle.ifmap_forms.specs.AnswerLaws.{found_after, found_form}
use Rattle.ifmap_forms.specs.Checks.{Check, need, need_some, pass}
use Rattle.ifmap_forms.specs.Items.{before_list, from_list, identifiers_check, is_list, list_if_there}
use Rattle.ifmap_forms.specs.Tables.{Part, both, each_element, form_check, members_check, parts_in, element_parts}
use Rattle.ifmap_replies.specs.declared.kinds.EntriesKind.{EntriesKind}
use Rattle.ifmap_replies.specs.declared.kinds.EntriesKind.TheVariants as entries_kind
use Rattle.ifmap_replies.specs.declared.kinds.ResultKind.{ResultKind}
use Rattle.ifmap_replies.specs.declared.kinds.ResultKind.TheVariants as result
use Rattle.ifmap_replies.specs.declared.replies.Reply.{Reply}
use Rattle.ifmap_replies.specs.declared.replies.Reply.TheVariants as reply
use Rattle.ifmap_replies.specs.declared.runs.Run.{Run}
use Rattle.ifmap_replies.specs.Fields.{code_of, read_code, read_word}
use Rattle.ifmap_replies.specs.Fit.{AreFitEntries, IsFitEntry, IsFitPollItem, IsFitReply, IsWord}
use Rattle.ifmap_replies.specs.Means.{IsReplyOf}
use Rattle.ifmap_replies.specs.ResultForms as forms
use Rattle.ifmap_replies.specs.ResultForms.{element_check, entries_check, entries_local, error_form, error_made, found_made, is_text}
use Rattle.ifmap_replies.specs.ResultForms.{session_result_form, new_session_made, no_scopes, note_check, only_check, elements_or_none}
use Rattle.ifmap_replies.specs.ResultForms.{plain_check, plain_form, plain_made, poll_check, polled_form, polled_made, response_check}
use Rattle.ifmap_replies.specs.ResultForms.{response_form, response_made, result_check, result_local, run_check, run_form, run_from}
use Rattle.ifmap_replies.specs.ResultForms.{run_made, run_parts, told_error_form, told_error_made, told_form, told_made}
use Rattle.ifmap_replies.specs.Results.{entry_children, error_element, new_session_element, poll_element}
use Rattle.ifmap_replies.specs.Results.{reply_element, response_name, result_element, run_element, text_children, told_element}
use Rattle.ifmap_replies.specs.Runs.{joined_runs, entries_in_runs, entry_on, run_on, runs_of}
use Rattle.ifmap_replies.proofs.WholeLaws.{IsFitRun, fit_runs}
use Rattle.ifmap_forms.specs.FormLaws.{number_back}
use Rattle.ifmap_forms.specs.IdentifierLaws.{identifiers_back, item_of_identifiers}
use Rattle.ifmap_elem.specs.laws.ArrangedLaws.{out_element}
use Rattle.ifmap_elem.specs.laws.ChildElements.{element_part, parts_are}

-- ---- 1. lists of elements

module _ {X : Type 0} (P : X → Type 0) (one : Element → Check X) (written : X → Element)
    (back : (x : X) → P x → one (written x) (Ok x)) where
  members_from : (index : ℕ) (xs : List X) → AllByRecursion P xs
      → each_element (λ n e. one e) index (map element_part (map written xs)) (Ok xs)
  members_from index [] f = refl
  members_from index (x ∷ xs) f = (x, back x f.0, (xs, members_from (index + 1) xs f.1, refl))

  members_back : (xs : List X) → AllByRecursion P xs → members_check one (parts_in (as_children (map written xs))) (Ok xs)
  members_back xs f =
      subst (λ (ps : List Part). members_check one ps (Ok xs)) (sym (parts_are (map written xs))) (members_from 0 xs f)

only_back : {X : Type 0} (one : Element → Check X) (e : Element) (x : X) → one e (Ok x)
    → only_check one (parts_in (the.Element e ∷ [])) (Ok x)
only_back one e x f =
    subst (λ (ps : List Part). only_check one ps (Ok x)) (λ i. sym (out_element e) i ∷ []) (x ∷ [], (x, f, ([], refl, refl)), refl)

-- ---- 2. values

word_back : (n : ℕ) → IsWord n → read_word (Some (numeral n)) (Ok n)
word_back n held =
    let small : n < 2 ^ 32 = held in
    let low : nat_lt n (2 ^ 32) ≡ true = grind (arith, nat_tests) in
    subst (λ (o : Option ℕ). need_some Failure o (λ m. need (nat_lt m (2 ^ 32)) Failure (pass m)) (Ok n)) (sym (number_back n))
    (found_after (pass n) (nat_lt n (2 ^ 32)) Failure (Ok n) low refl)

code_back : (code : Code) → code_of (code_name code) ≡ Some code
code_back AccessDenied = refl
code_back Failure = refl
code_back InvalidIdentifier = refl
code_back InvalidIdentifierType = refl
code_back IdentifierTooLong = refl
code_back InvalidMetadata = refl
code_back InvalidSchemaVersion = refl
code_back InvalidSessionID = refl
code_back MetadataTooLong = refl
code_back SearchResultsTooBig = refl
code_back PollResultsTooBig = refl
code_back SystemError = refl

read_code_back : (code : Code) → read_code (Some (code_name code)) (Ok code)
read_code_back code =
    subst (λ (o : Option Code). need_some Failure o (λ c. pass c) (Ok code)) (sym (code_back code)) refl

-- ---- 3. entries

not_a_list : (i : Identifier) → is_list (Child-F.Element (identifier_element i)) ≡ false
not_a_list (AccessRequest name domain) = refl
not_a_list (Device name) = refl
not_a_list (Identity name kind other domain) = refl
not_a_list (IpV4 value domain) = refl
not_a_list (IpV6 value domain) = refl
not_a_list (MacAddress value domain) = refl

module _ (list : Element) (named : is_list (Child-F.Element list) ≡ true) where
  abbrev parts_with : List Identifier → List Part
  parts_with is = map element_part (map identifier_element is ++ list ∷ [])

  before_back : (is : List Identifier) → before_list (parts_with is) ≡ map element_part (map identifier_element is)
  before_back [] = λ i. if named i then [] else Child-F.Element list ∷ []
  before_back (a ∷ is) =
      (λ i. if not_a_list a i then [] else Child-F.Element (identifier_element a) ∷ before_list (parts_with is))
      ∙ ap (λ ps. Child-F.Element (identifier_element a) ∷ ps) (before_back is)

  from_back : (is : List Identifier) → from_list (parts_with is) ≡ Child-F.Element list ∷ []
  from_back [] = λ i. if named i then Child-F.Element list ∷ [] else []
  from_back (a ∷ is) =
      (λ i. if not_a_list a i then Child-F.Element (identifier_element a) ∷ parts_with is else from_list (parts_with is))
      ∙ from_back is

arranged_back : (es : List Element) → AllByRecursion IsSent es → members_check element_check (parts_in (as_children es)) (Ok es)
arranged_back es f =
    subst (λ (ps : List Part). members_check element_check ps (Ok es)) (sym (parts_are es)) (from 0 es f)
  where
    from : (index : ℕ) (es : List Element) → AllByRecursion IsSent es
        → each_element (λ n e. element_check e) index (map element_part es) (Ok es)
    from index [] f = refl
    from index (e ∷ es) f = (e, ap (λ x. Ok x) (sym f.0.arranged), (es, from (index + 1) es f.1, refl))

abbrev list_element : List Element → Element
list_element es = bare_element (codes "metadata") [] (as_children es)

list_back : (es : List Element) → AllByRecursion IsSent es
    → list_if_there element_check (Child-F.Element (list_element es) ∷ []) (Ok (Some es))
list_back es f = (es, arranged_back es f, refl)

-- ---- notes and envelopes

abbrev note_element : List ℕ → Element
note_element note = bare_element (codes "errorString") [] (text_children note)

note_back : (note : List ℕ) → note_check (note_element note) (Ok note)
note_back [] = refl
note_back (b ∷ bs) =
    let text = b ∷ bs in
    let cs : List Child = the.Text text ∷ [] in
    let among : text_among cs ≡ text = ap (λ (p : Part). own_text_of p ++ []) (out_text text) ∙ append-nil text in
    found_after (pass (text_among cs)) (list_all is_text (parts_in cs)) Failure (Ok text)
    (ap (λ (p : Part). is_text p && true) (out_text text)) (ap (λ t. Ok t) (sym among))

plain_back : (kind : ResultKind) (answer : Reply)
    → plain_check kind answer (bare_element (result_local kind) [] []) (Ok answer)
plain_back kind answer =
    found_form (plain_form kind) (plain_made answer) no_scopes (bare_element (result_local kind) [] []) tt refl tt refl refl

module _ (again : (i : Identifier) → IsIdentifier i → IsCanon (identifier_element i) i)
    (apart : (one other : Identifier) → IsIdentifier one → IsIdentifier other → identifier_bytes one ≡ identifier_bytes other → one ≡ other)
  where
    -- an entry before runs is told first
    first_back : (entry : Entry) (runs : List Run) → IsFitEntry entry → AllByRecursion IsFitRun runs
        → entries_in_runs (joined_runs entry runs) ≡ entry ∷ entries_in_runs runs
    first_back entry [] e f = refl
    first_back entry (run ∷ runs) e f = joined (same_item entry.item run.item) refl
      where
        joined : (t : Bool) → same_item entry.item run.item ≡ t
            → entries_in_runs (if t
            then run_on entry.item (entry.element ∷ run.elements) ∷ runs
            else run_on entry.item (entry.element ∷ []) ∷ (run ∷ runs))
            ≡ entry ∷ entries_in_runs (run ∷ runs)
        joined true same =
            let item = same_item_is apart entry.item run.item e.item.identifiers f.0.item.identifiers same in
            λ i. entry ∷ (map (entry_on (item i)) run.elements ++ entries_in_runs runs)
        joined false other = refl

    entries_back : (entries : List Entry) → AreFitEntries entries → entries_in_runs (runs_of entries) ≡ entries
    entries_back [] f = refl
    entries_back (entry ∷ entries) f =
        first_back entry (runs_of entries) f.0 (fit_runs entries f.1) ∙ ap (λ es. entry ∷ es) (entries_back entries f.1)

    run_back : (run : Run) → IsFitRun run → run_check (run_element run) (Ok run)
    run_back run f =
        let ids = identifiers_of run.item in
        let list = list_element run.elements in
        let front : identifiers_check 2 [] (before_list (parts_with list refl ids)) (Ok ids) =
        subst (λ (ps : List Part). identifiers_check 2 [] ps (Ok ids)) (sym (before_back list refl ids))
        (identifiers_back again run.item f.item) in
        let rest : list_if_there element_check (from_list (parts_with list refl ids)) (Ok (Some run.elements)) =
        subst (λ (ps : List Part). list_if_there element_check ps (Ok (Some run.elements))) (sym (from_back list refl ids))
        (list_back run.elements f.elements) in
        let made : run_from ids (Some run.elements) (Ok run) =
        subst (λ (o : Option Item). need_some Failure o (λ item. pass (run_on item (elements_or_none (Some run.elements)))) (Ok run))
        (sym (item_of_identifiers run.item f.item)) refl in
        let parts : run_parts (element_parts (run_element run)) (Ok run) =
        subst (λ (ps : List Part). run_parts ps (Ok run)) (sym (parts_are (map identifier_element ids ++ list ∷ [])))
        (ids, front, (Some run.elements, rest, made)) in
        found_form run_form run_made no_scopes (run_element run) tt refl run refl parts

    entries_checked : (entries : List Entry) → AreFitEntries entries → entries_check (parts_in (entry_children entries)) (Ok entries)
    entries_checked entries f = (
      runs_of entries,
      members_back IsFitRun run_check run_element run_back (runs_of entries) (fit_runs entries f),
      ap (λ es. Ok es) (sym (entries_back entries f)),
    )

    -- ---- 4. results

    told_back : (kind : EntriesKind) (name : List ℕ) (entries : List Entry) → AreFitEntries entries
        → form_check (told_form kind) (told_made kind) no_scopes (told_element (entries_local kind) name entries)
        (Ok (told_made kind (both name tt) entries))
    told_back kind name entries f =
        found_form (told_form kind) (told_made kind) no_scopes (told_element (entries_local kind) name entries) (both name tt)
        (name, refl, (tt, refl, refl)) entries refl (entries_checked entries f)

    poll_back : (item : PollItem) → IsFitPollItem item → poll_check (poll_element item) (Ok item)
    poll_back (poll.Search name entries) f = told_back entries_kind.Search name entries f.1
    poll_back (poll.Update name entries) f = told_back entries_kind.Update name entries f.1
    poll_back (poll.Delete name entries) f = told_back entries_kind.Delete name entries f.1
    poll_back (poll.Notify name entries) f = told_back entries_kind.Notify name entries f.1
    poll_back (poll.Error None code note) f =
        found_form told_error_form told_error_made no_scopes (error_element code None note) (both code (both None tt))
        (code, read_code_back code, (both None tt, (None, refl, (tt, refl, refl)), refl)) note refl
        (only_back note_check (note_element note) note (note_back note))
    poll_back (poll.Error (Some name) code note) f =
        found_form told_error_form told_error_made no_scopes (error_element code (Some name) note) (both code (both (Some name) tt))
        (code, read_code_back code, (both (Some name) tt, (Some name, refl, (tt, refl, refl)), refl)) note refl
        (only_back note_check (note_element note) note (note_back note))

    result_back : (answer : Reply) → IsFitReply answer → result_check (result_element answer) (Ok answer)
    result_back (reply.NewSession session publisher limit) f =
        found_form session_result_form new_session_made no_scopes (new_session_element session publisher limit)
        (both publisher (both limit (both session tt))) (
          publisher,
          refl,
          (
            both limit (both session tt),
            (limit, word_back limit f.2, (both session tt, (session, refl, (tt, refl, refl)), refl)),
            refl,
          ),
        ) tt refl refl
    result_back reply.Renewed f = plain_back result.Renewed reply.Renewed
    result_back reply.Ended f = plain_back result.Ended reply.Ended
    result_back reply.Published f = plain_back result.Published reply.Published
    result_back reply.Subscribed f = plain_back result.Subscribed reply.Subscribed
    result_back reply.Purged f = plain_back result.Purged reply.Purged
    result_back (reply.Found entries) f =
        found_form forms.found_form found_made no_scopes (result_element (reply.Found entries)) tt refl entries refl
        (entries_checked entries f)
    result_back (reply.Polled items) f =
        found_form polled_form polled_made no_scopes (result_element (reply.Polled items)) tt refl items refl
        (members_back IsFitPollItem poll_check poll_element poll_back items f)
    result_back (reply.Error code note) f =
        found_form error_form error_made no_scopes (error_element code None note) (both code tt)
        (code, read_code_back code, (tt, refl, refl)) note refl (only_back note_check (note_element note) note (note_back note))

    -- ---- 5. responses and envelopes

    response_back : (answer : Reply) → IsFitReply answer → response_check (element_around response_name (result_element answer)) (Ok answer)
    response_back answer f =
        found_form response_form response_made no_scopes (element_around response_name (result_element answer)) tt refl answer refl
        (only_back result_check (result_element answer) answer (result_back answer f))

    pub element_back : (answer : Reply) → IsFitReply answer → IsReplyOf (reply_element answer) answer
    element_back answer f =
        let response = element_around response_name (result_element answer) in
        record {
          path = 0 ∷ (0 ∷ []);
          response = response;
          envelope = made_envelope response;
          checked = response_back answer f;
        }
