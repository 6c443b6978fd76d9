-- The element of a reply that is fit is one that a document can have, arranged, of 71 levels at most.
-- 1. Texts: codes and numerals.
-- 2. Entries, by runs.
-- 3. Results, and the envelope.
use Rattle.std.proofs.Common.{◌≡◌, ℕ, ◌+◌, ◌≤◌, Bool, true, false, List, [], ◌∷◌, ◌++◌, None, Some, map, codes, refl, arith}
use Rattle.std.specs.Prelude.{if◌then◌else◌}
use Rattle.std.specs.List.{AllByRecursion}
use Rattle.ifmap_lemmas.specs.Members.{both_all}
use Rattle.ifmap_lemmas.specs.Numerals.{numeral}
use Rattle.ifmap_elem.specs.Arranged.{arrange}
use Rattle.ifmap_elem.specs.Building.{bare_attribute, bare_element, bare_name, as_children}
use Rattle.ifmap_elem.specs.Chars.{IsCharacters}
use Rattle.ifmap_elem.specs.Fit.{IsFit, IsFitName}
use Rattle.ifmap_elem.specs.Nesting.{nesting}
use Rattle.ifmap_elem.specs.declared.elements.Attribute.{Attribute}
use Rattle.ifmap_elem.specs.declared.elements.Element.{Element}
use Rattle.ifmap_elem.specs.declared.elements.Name.{Name}
use Rattle.ifmap_envelopes.specs.Envelopes.{element_around, envelope_name}
use Rattle.ifmap_envelopes.specs.Spaces.{envelope_space, ifmap_space}
use Rattle.ifmap_ident.specs.declared.codes.Code.{Code}
use Rattle.ifmap_ident.specs.declared.identifiers.Identifier.{Identifier}
use Rattle.ifmap_ident.specs.Canon.{IsIdentifier}
use Rattle.ifmap_ident.specs.Codes.{code_name}
use Rattle.ifmap_ident.specs.Identifiers.{identifier_element}
use Rattle.ifmap_ident.specs.Items.{IsCanonItem, identifiers_of, same_item}
use Rattle.ifmap_ident.specs.CodeLaws.{code_characters}
use Rattle.ifmap_meta.specs.Whole.{IsSent}
use Rattle.ifmap_search.specs.declared.results.Entry.{Entry}
use Rattle.ifmap_search.specs.declared.results.PollItem.{PollItem}
use Rattle.ifmap_search.specs.declared.results.PollItem.TheVariants as poll
use Rattle.ifmap_replies.specs.declared.replies.Reply.{Reply}
use Rattle.ifmap_replies.specs.declared.replies.Reply.TheVariants as reply
use Rattle.ifmap_replies.specs.declared.runs.Run.{Run}
use Rattle.ifmap_replies.specs.Fit.{AreFitEntries, IsFitEntry, IsFitPollItem, IsFitReply}
use Rattle.ifmap_replies.specs.Results.{error_element, name_attribute, new_session_element, plain_element}
use Rattle.ifmap_replies.specs.Results.{poll_element, reply_element, response_name, result_element, run_element, text_children}
use Rattle.ifmap_replies.specs.Results.{told_element}
use Rattle.ifmap_replies.specs.Runs.{joined_runs, run_on, runs_of}
use Rattle.ifmap_replies.proofs.GoodLaws.{IsPlainPart, attribute_fits, bare_fits, good_text}
use Rattle.ifmap_replies.proofs.GoodLaws.{is_plain_part, plain_name, plain_space, three_differ, two_differ}
use Rattle.ifmap_elem.specs.laws.CharacterLaws.{numeral_characters}
use Rattle.ifmap_elem.specs.laws.GoodElements.{IsGood, all_within, good_within, good_elements}

-- ---- 1. texts

-- ---- 2. entries

pub record IsFitRun (run : Run) : Type 0 where
  pub item : IsCanonItem run.item
  pub elements : AllByRecursion IsSent run.elements

fit_before : (entry : Entry) (runs : List Run) → IsFitEntry entry → AllByRecursion IsFitRun runs
    → AllByRecursion IsFitRun (joined_runs entry runs)
fit_before entry [] e f = (record { item = e.item; elements = (e.element, tt) }, tt)
fit_before entry (run ∷ runs) e f = joined (same_item entry.item run.item)
  where
    joined : (b : Bool) → AllByRecursion IsFitRun (if b
        then run_on entry.item (entry.element ∷ run.elements) ∷ runs
        else run_on entry.item (entry.element ∷ []) ∷ (run ∷ runs))
    joined true = (record { item = e.item; elements = (e.element, f.0.elements) }, f.1)
    joined false = (record { item = e.item; elements = (e.element, tt) }, f)

pub fit_runs : (entries : List Entry) → AreFitEntries entries → AllByRecursion IsFitRun (runs_of entries)
fit_runs [] f = tt
fit_runs (entry ∷ entries) f = fit_before entry (runs_of entries) f.0 (fit_runs entries f.1)

sent_good : (es : List Element) → AllByRecursion IsSent es → AllByRecursion (IsGood 64) es
sent_good [] f = tt
sent_good (e ∷ es) f = (record { fit = f.0.fit; arranged = f.0.arranged; within = f.0.levels }, sent_good es f.1)

module _ (fits : (i : Identifier) → IsIdentifier i → IsFit (identifier_element i))
    (ordered : (i : Identifier) → arrange (identifier_element i) ≡ identifier_element i)
    (levels : (i : Identifier) → nesting (identifier_element i) ≤ 2) where
  identifiers_good : (is : List Identifier) → AllByRecursion IsIdentifier is → AllByRecursion (IsGood 2) (map identifier_element is)
  identifiers_good [] f = tt
  identifiers_good (i ∷ is) f = (record { fit = fits i f.0; arranged = ordered i; within = levels i }, identifiers_good is f.1)

  run_good : (run : Run) → IsFitRun run → IsGood 66 (run_element run)
  unfolding is_plain_part
  run_good run f =
      let metadata = good_elements (bare_name (codes "metadata")) [] (bare_fits (codes "metadata") refl) tt tt refl 64 run.elements
      (sent_good run.elements f.elements) in
      let list = bare_element (codes "metadata") [] (as_children run.elements) in
      good_elements (bare_name (codes "resultItem")) [] (bare_fits (codes "resultItem") refl) tt tt refl 65
      (map identifier_element (identifiers_of run.item) ++ list ∷ [])
      (both_all (IsGood 65) (map identifier_element (identifiers_of run.item)) (list ∷ [])
      (all_within 2 65 (map identifier_element (identifiers_of run.item)) (omega arith)
      (identifiers_good (identifiers_of run.item) f.item.identifiers)) (metadata, tt))

  runs_good : (runs : List Run) → AllByRecursion IsFitRun runs → AllByRecursion (IsGood 66) (map run_element runs)
  runs_good [] f = tt
  runs_good (run ∷ runs) f = (run_good run f.0, runs_good runs f.1)

  entries_good : (entries : List Entry) → AreFitEntries entries → AllByRecursion (IsGood 66) (map run_element (runs_of entries))
  entries_good entries f = runs_good (runs_of entries) (fit_runs entries f)

  -- ---- 3. results

  told_good : (local name : List ℕ) (entries : List Entry) → IsPlainPart local → IsCharacters name → AreFitEntries entries
      → IsGood 67 (told_element local name entries)
  unfolding is_plain_part
  told_good local name entries plain n f =
      good_elements (bare_name local) (name_attribute name ∷ []) (bare_fits local plain)
      (attribute_fits (codes "name") name refl refl n, tt) (tt, tt) refl 66 (map run_element (runs_of entries)) (entries_good entries f)

  abbrev note_element : List ℕ → Element
  note_element note = bare_element (codes "errorString") [] (text_children note)

  abbrev code_attribute : Code → Attribute
  code_attribute code = bare_attribute (codes "errorCode") (code_name code)

  note_good : (note : List ℕ) → IsCharacters note
      → IsGood 1 (note_element note)
  unfolding is_plain_part
  note_good note h = good_text (bare_name (codes "errorString")) (bare_fits (codes "errorString") refl) note h

  error_good : (code : Code) (note : List ℕ) → IsCharacters note → IsGood 2 (error_element code None note)
  unfolding is_plain_part
  error_good code note h =
      good_elements (bare_name (codes "errorResult")) (code_attribute code ∷ []) (bare_fits (codes "errorResult") refl)
      (attribute_fits (codes "errorCode") (code_name code) refl refl (code_characters code), tt) (tt, tt) refl 1 (note_element note ∷ [])
      (note_good note h, tt)

  named_error_good : (code : Code) (name note : List ℕ) → IsCharacters name → IsCharacters note
      → IsGood 2 (error_element code (Some name) note)
  unfolding is_plain_part
  named_error_good code name note n h =
      good_elements (bare_name (codes "errorResult")) (code_attribute code ∷ (name_attribute name ∷ []))
      (bare_fits (codes "errorResult") refl) (
        attribute_fits (codes "errorCode") (code_name code) refl refl (code_characters code),
        (attribute_fits (codes "name") name refl refl n, tt),
      ) (two_differ (codes "errorCode") (codes "name") refl) refl 1
      (note_element note ∷ []) (note_good note h, tt)

  poll_good : (item : PollItem) → IsFitPollItem item → IsGood 67 (poll_element item)
  unfolding is_plain_part
  poll_good (poll.Search name entries) f = told_good (codes "searchResult") name entries refl f.0 f.1
  poll_good (poll.Update name entries) f = told_good (codes "updateResult") name entries refl f.0 f.1
  poll_good (poll.Delete name entries) f = told_good (codes "deleteResult") name entries refl f.0 f.1
  poll_good (poll.Notify name entries) f = told_good (codes "notifyResult") name entries refl f.0 f.1
  poll_good (poll.Error None code note) f = good_within 2 67 (error_element code None note) (omega arith) (error_good code note f.1)
  poll_good (poll.Error (Some name) code note) f =
      good_within 2 67 (error_element code (Some name) note) (omega arith) (named_error_good code name note f.0 f.1)

  polls_good : (items : List PollItem) → AllByRecursion IsFitPollItem items → AllByRecursion (IsGood 67) (map poll_element items)
  polls_good [] f = tt
  polls_good (item ∷ items) f = (poll_good item f.0, polls_good items f.1)

  plain_good : (local : List ℕ) → IsPlainPart local → IsGood 68 (plain_element local [])
  plain_good local plain = good_within 1 68 (plain_element local []) (omega arith)
      (good_elements (bare_name local) [] (bare_fits local plain) tt tt refl 0 [] tt)

  session_good : (session publisher : List ℕ) (limit : ℕ) → IsCharacters session → IsCharacters publisher
      → IsGood 1 (new_session_element session publisher limit)
  unfolding is_plain_part
  session_good session publisher limit s p =
      good_elements (bare_name (codes "newSessionResult"))
      (bare_attribute (codes "ifmap-publisher-id") publisher ∷ (bare_attribute (codes "max-poll-result-size") (numeral limit)
      ∷ (bare_attribute (codes "session-id") session ∷ [])))
      (bare_fits (codes "newSessionResult") refl) (
        attribute_fits (codes "ifmap-publisher-id") publisher refl refl p,
        (
          attribute_fits (codes "max-poll-result-size") (numeral limit) refl refl (numeral_characters limit),
          (attribute_fits (codes "session-id") session refl refl s, tt),
        ),
      )
      (three_differ (codes "ifmap-publisher-id") (codes "max-poll-result-size") (codes "session-id") refl refl refl) refl 0 [] tt

  result_good : (answer : Reply) → IsFitReply answer → IsGood 68 (result_element answer)
  unfolding is_plain_part
  result_good (reply.NewSession session publisher limit) f =
      good_within 1 68 (new_session_element session publisher limit) (omega arith) (session_good session publisher limit f.0 f.1)
  result_good reply.Renewed f = plain_good (codes "renewSessionResult") refl
  result_good reply.Ended f = plain_good (codes "endSessionResult") refl
  result_good reply.Published f = plain_good (codes "publishReceived") refl
  result_good reply.Subscribed f = plain_good (codes "subscribeReceived") refl
  result_good reply.Purged f = plain_good (codes "purgePublisherReceived") refl
  result_good (reply.Found entries) f =
      good_within 67 68 (result_element (reply.Found entries)) (omega arith)
      (good_elements (bare_name (codes "searchResult")) [] (bare_fits (codes "searchResult") refl) tt tt refl 66
      (map run_element (runs_of entries)) (entries_good entries f))
  result_good (reply.Polled items) f =
      good_elements (bare_name (codes "pollResult")) [] (bare_fits (codes "pollResult") refl) tt tt refl 67
      (map poll_element items) (polls_good items f)
  result_good (reply.Error code note) f = good_within 2 68 (error_element code None note) (omega arith) (error_good code note f)

  around_good : (n : ℕ) (name : Name) (inner : Element) → IsFitName name → IsGood n inner → IsGood (n + 1) (element_around name inner)
  around_good n name inner fit g = good_elements name [] fit tt tt refl n (inner ∷ []) (g, tt)

  envelope_fits : (local : List ℕ) → IsPlainPart local → IsFitName (envelope_name local)
  envelope_fits local plain = plain_name envelope_space local (plain_space envelope_space refl refl) plain

  pub reply_good : (answer : Reply) → IsFitReply answer → IsGood 71 (reply_element answer)
  unfolding is_plain_part
  reply_good answer f =
      let response = around_good 68 response_name (result_element answer)
      (plain_name ifmap_space (codes "response") (plain_space ifmap_space refl refl) refl) (result_good answer f) in
      let body = around_good 69 (envelope_name (codes "Body")) (element_around response_name (result_element answer))
      (envelope_fits (codes "Body") refl) response in
      around_good 70 (envelope_name (codes "Envelope"))
      (element_around (envelope_name (codes "Body")) (element_around response_name (result_element answer)))
      (envelope_fits (codes "Envelope") refl) body
