-- What comes of questions, of requests and of posts.
-- 1. Each comes of the next within it: a request of its question (`as_request`), a post of a
--    request that it means (`as_post`), and a post for which nothing is asked of nothing
--    (`finds_unasked`).
-- 2. A request that is asked once: what it comes to, by its answer (`once_replied`, `once_spent`).
-- 3. What is told to a poll fits (`told_fits`), and events weigh no more than allowed (`light_by`).
-- 4. Requests as the code matches them, by copies of their parts (`request_is`, `first_is`).
-- 5. Posts that are refused unasked (`refused_post`), and a reply that is no poll's
--    (`plain_finding`).
use Rattle.std.proofs.Common.{◌≡◌, ◌≢◌, ◌⊎◌, ℕ, ◌+◌, ◌*◌, ◌≤◌, Bool, false, arith, List, [], ◌∷◌, length, Ok, Err, inl, inr, refl, sym, ap, subst, ◌∙◌}
use Rattle.ifmap_http.specs.ifmap_heads.Limits.{longest_post}
use Rattle.rand_chacha.specs.ChaCha.{ChaCha}
use Rattle.ifmap_ident.specs.declared.codes.Code.{Code}
use Rattle.ifmap_machine.specs.Events.{Event}
use Rattle.ifmap_machine.specs.ifmap_replies.declared.replies.Reply.{Reply}
use Rattle.ifmap_machine.specs.ifmap_replies.declared.replies.Reply.TheVariants as reply
use Rattle.ifmap_machine.specs.ifmap_search.declared.results.PollItem.{PollItem}
use Rattle.ifmap_machine.specs.ifmap_requests.Laws.{FitMeaning}
use Rattle.ifmap_machine.specs.ifmap_requests.Means.{Means}
use Rattle.ifmap_machine.specs.ifmap_requests.declared.errors.Refusal.TheVariants.{Named, Unreadable}
use Rattle.ifmap_machine.specs.ifmap_requests.declared.requests.Request.{Request}
use Rattle.ifmap_machine.specs.ifmap_requests.declared.requests.Request.TheVariants.{Poll as Polling}
use Rattle.ifmap_dialogue.specs.declared.desks.AskOutcome.{AskOutcome}
use Rattle.ifmap_dialogue.specs.declared.desks.AskOutcome.TheVariants as outcome
use Rattle.ifmap_dialogue.specs.declared.findings.Finding.{Finding}
use Rattle.ifmap_dialogue.specs.declared.findings.Finding.TheVariants as finding
use Rattle.ifmap_dialogue.specs.declared.polls.Poll.{Poll}
use Rattle.ifmap_dialogue.specs.Desks.{DeskSeen, DeskTakesTurns, Turn, greatest_weight, outcome_of, weight}
use Rattle.ifmap_dialogue.specs.Findings.{OwnRequest, IsFindingOf, FindsPost, FindsQuestion, FindsRequest, Posting, finding_of, own_request, posting_of, refusal_reply}
use Rattle.ifmap_dialogue.specs.Scenes.{HasFitPoll}
use Rattle.ifmap_dialogue.specs.Turns.{IsFirstPoll, Question, event_of_question, lost_event, question_of}
use Rattle.ifmap_dialogue.specs.Words.{after_random, random_word}
use Rattle.ifmap_dialogue.specs.Telling.{fits_one, tells_none}
use Rattle.ifmap_dialogue.proofs.Turning.{Waits, finds_replied, finds_spent, finds_wanting, not_heard, not_held, not_told, waits_first}

module _ {H : Type 0} (gives : ℕ → Type 0) (before after : DeskSeen H) where
  -- what comes of a question comes of the request that asks it
  pub as_request : (a : OwnRequest) (random : ℕ) (found : Finding)
      → FindsQuestion gives before after
      (record { client = a.client; request = a.request; bytes = a.bytes; random = random }) found
      → random ≡ random_word a.words → a.after ≡ after_random a.words → FindsRequest gives before after a found
  as_request a random found f word drawn = record {
    turns = f.turns;
    tells = f.tells;
    finds = λ body short means. f.finds (posting_of a body)
        (record { client = refl; bytes = short; means = means; random = word; drawn = drawn });
  }

  -- of a request nothing comes where want of memory comes before it is asked
  pub none_asked : (a : OwnRequest) → after ≡ before → a.after ≡ a.words → FindsRequest gives before after a finding.NoMemory
  none_asked a same kept = record {
    turns = [];
    tells = subst (λ (d : DeskSeen H). DeskTakesTurns before d []) (sym same) (tells_none before);
    finds = λ body short means. inl (refl, kept);
  }

  -- what comes of a request comes of a post that means it
  pub as_post : (a : OwnRequest) (body : List ℕ) (found : Finding) → FindsRequest gives before after a found → a.bytes ≡ length body
      → Means body (Ok a.request) → FindsPost gives before after (posting_of a body) found
  as_post a body found f short means = record { turns = f.turns; tells = f.tells; finds = f.finds body short means }

  -- a post for which nothing is asked
  pub finds_unasked : (p : Posting) (found : Finding) → after ≡ before → IsFindingOf gives p [] found → FindsPost gives before after p found
  finds_unasked p found same finds = record {
    turns = [];
    tells = subst (λ (d : DeskSeen H). DeskTakesTurns before d []) (sym same) (tells_none before);
    finds = finds;
  }

-- ---- a request that is asked once

module _ {H : Type 0} (gives : ℕ → Type 0) (before after : DeskSeen H) (question : Question) (event : Event) (answer : AskOutcome)
    (first : (moment : ℕ) × gives moment × (event ≡ event_of_question question false moment))
    (other : (session : List ℕ) → question.request ≢ Polling session)
    (took : (turn : Turn) × (turn.event ≡ event) × (answer ≡ outcome_of turn.asked) × DeskTakesTurns before after (turn ∷ [])) where
  waits_from_before : Waits gives before before question 0 event
  waits_from_before = waits_first gives before question event first

  is_ask : (turn : Turn) → turn.event ≡ event → turn.event.ask ≡ (event_of_question question false 0).ask
  is_ask turn asks = let (moment, given, is) = first in ap (λ (e : Event). e.ask) asks ∙ ap (λ (e : Event). e.ask) is

  pub once_replied : (the_reply : Reply) → answer ≡ outcome.Replied the_reply
      → FindsQuestion gives before after question (finding.Replied the_reply)
  once_replied the_reply is =
      let (turn, asks, went, tells) = took in
      finds_replied gives before before after question 0 event waits_from_before turn asks tells the_reply (sym went ∙ is)
      (not_told turn.event question.request turn.asked the_reply (is_ask turn asks) other (fits_one before after turn tells)
      (sym went ∙ is))

  pub once_spent : (entries : ℕ) → answer ≡ outcome.Spent entries → FindsQuestion gives before after question (finding.Spent entries)
  once_spent entries is =
      let (turn, asks, went, tells) = took in
      finds_spent gives before before after question 0 event waits_from_before turn asks tells entries (sym went ∙ is)

  pub once_wanting : answer ≡ outcome.NoMemory → FindsQuestion gives before after question finding.NoMemory
  once_wanting is =
      let (turn, asks, went, tells) = took in
      finds_wanting gives before before after question 0 event waits_from_before turn asks tells (sym went ∙ is)

  pub once_not_held : answer ≢ outcome.Held
  once_not_held is =
      let (turn, asks, went, tells) = took in
      not_held turn.event question.request turn.asked (is_ask turn asks) other (fits_one before after turn tells) (sym went ∙ is)

  pub once_not_heard : answer ≢ outcome.Heard
  once_not_heard is =
      let (turn, asks, went, tells) = took in
      not_heard turn.event question.request turn.asked (is_ask turn asks) (fits_one before after turn tells) (sym went ∙ is)

-- ---- the poll that was told something

-- its session is named by characters, since its body means it
pub told_fits : FitMeaning → (gives : ℕ → Type 0) (p : Posting) (turns : List Turn) (found : Finding) → IsFindingOf gives p turns found
    → HasFitPoll found
told_fits fit gives p turns (finding.Told the_reply poll) (puts, ends, told) = fit p.body (Polling poll.session) puts.posed.means
told_fits fit gives p turns (finding.Replied the_reply) f = tt
told_fits fit gives p turns finding.Unreadable f = tt
told_fits fit gives p turns (finding.HeldOut many) f = tt
told_fits fit gives p turns (finding.Spent entries) f = tt
told_fits fit gives p turns finding.NoMemory f = tt

-- ---- weights

-- an event of a post weighs at most as much as can be asked
pub light_by : (question : Question) (again : Bool) (moment : ℕ) (event : Event) → event ≡ event_of_question question again moment
    → question.bytes ≤ longest_post → weight event ≤ greatest_weight
light_by question again moment event is short =
    subst (λ (e : Event). weight e ≤ greatest_weight) (sym is)
    (let short_weight : 1000 + 8 * question.bytes ≤ 80_001_000 = omega (arith, short) in short_weight)

pub light_lost : (poll : Poll) (moment : ℕ) (event : Event) → event ≡ lost_event poll moment → weight event ≤ greatest_weight
light_lost poll moment event is =
    subst (λ (e : Event). weight e ≤ greatest_weight) (sym is)
    (let light : 1000 + 8 * 0 ≤ 80_001_000 = omega arith in light)

-- ---- requests as they are matched

-- what comes of a request comes of the same request
pub request_is : {H : Type 0} (gives : ℕ → Type 0) (before after : DeskSeen H) (client : List ℕ) (bytes : ℕ) (one other : Request)
    (words now : ChaCha) (found : Finding) → one ≡ other
    → FindsRequest gives before after (own_request client bytes other words now) found
    → FindsRequest gives before after (own_request client bytes one words now) found
request_is gives before after client bytes one other words now found is f =
    subst (λ (r : Request). FindsRequest gives before after (own_request client bytes r words now) found) (sym is) f

-- what comes of a poll comes of the request
pub poll_request : {H : Type 0} (gives : ℕ → Type 0) (before after : DeskSeen H) (client session : List ℕ) (bytes : ℕ)
    (words now : ChaCha) (poll : Poll) (found : Finding)
    → poll ≡ record { client = client; session = session; random = random_word words; bytes = bytes } → now ≡ after_random words
    → FindsQuestion gives before after (question_of poll) found
    → FindsRequest gives before after (own_request client bytes (Polling session) words now) found
poll_request gives before after client session bytes words now poll found is drawn f =
    as_request gives before after (own_request client bytes (Polling session) words now) (random_word words) found
    (subst (λ (p : Poll). FindsQuestion gives before after (question_of p) found) is f) refl drawn

-- the first event of a poll, by copies of its parts
pub first_is : (gives : ℕ → Type 0) (client named session copied : List ℕ) (bytes random : ℕ) (event : Event) → named ≡ client
    → copied ≡ session
    → ((moment : ℕ) × gives moment
    × (event ≡ event_of_question (record { client = named; request = Polling copied; bytes = bytes; random = random }) false moment))
    → IsFirstPoll gives (record { client = client; session = session; random = random; bytes = bytes }) event
first_is gives client named session copied bytes random event same_client same_session (moment, given, is) = (
  moment,
  given,
  is
      ∙ ap
      (λ (c : List ℕ). event_of_question (record { client = c; request = Polling copied; bytes = bytes; random = random }) false moment)
      same_client
      ∙ ap
      (λ (s : List ℕ).
      event_of_question (record { client = client; request = Polling s; bytes = bytes; random = random }) false moment) same_session,
)

-- ---- posts for which nothing is asked

-- a body that means a code
pub refused_post : {H : Type 0} (gives : ℕ → Type 0) (desk : DeskSeen H) (p : Posting) (code : Code) (found : Finding)
    → Means p.body (Err (Named code)) → p.after ≡ p.words
    → (found ≡ finding.Replied (refusal_reply code)) ⊎ (found ≡ finding.NoMemory) → FindsPost gives desk desk p found
refused_post gives desk p code found means same (inl is) =
    finds_unasked gives desk desk p found refl (subst (IsFindingOf gives p []) (sym is) (inl (code, means, (refl, same), refl)))
refused_post gives desk p code found means same (inr is) =
    finds_unasked gives desk desk p found refl (subst (IsFindingOf gives p []) (sym is) (inl (refl, same)))

-- a body that is no envelope
pub unreadable_post : {H : Type 0} (gives : ℕ → Type 0) (desk : DeskSeen H) (p : Posting) → Means p.body (Err Unreadable)
    → p.after ≡ p.words → FindsPost gives desk desk p finding.Unreadable
unreadable_post gives desk p means same = finds_unasked gives desk desk p finding.Unreadable refl (means, (refl, same))

-- want of memory before anything is asked
pub wanting_post : {H : Type 0} (gives : ℕ → Type 0) (desk : DeskSeen H) (p : Posting) → p.after ≡ p.words
    → FindsPost gives desk desk p finding.NoMemory
wanting_post gives desk p same = finds_unasked gives desk desk p finding.NoMemory refl (inl (refl, same))

-- ---- what came of a reply

-- a reply that is not what a poll is told
pub plain_finding : (the_reply : Reply) (poll : Poll) → ((items : List PollItem) → the_reply ≢ reply.Polled items)
    → finding.Replied the_reply ≡ finding_of the_reply poll
plain_finding (reply.Polled items) poll other = absurd (other items refl)
plain_finding (reply.NewSession a b c) poll other = refl
plain_finding reply.Renewed poll other = refl
plain_finding reply.Ended poll other = refl
plain_finding reply.Published poll other = refl
plain_finding reply.Subscribed poll other = refl
plain_finding reply.Purged poll other = refl
plain_finding (reply.Found entries) poll other = refl
plain_finding (reply.Error code note) poll other = refl
