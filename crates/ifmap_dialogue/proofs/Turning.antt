-- The turns of a question so far, and what they come to.
-- Plan: (1) what an answer is for: `Heard` answers no request, `Held` none but a poll, and what polls are told none but these;
-- (2) turn after turn: `Waits` says how often a question was asked and held, and by which event it is asked next; (3) it
-- holds at first (`waits_first`) and after each turn that was held; (4) a poll that was answered, or held as often as can
-- be, ends the wait.
use Rattle.std.proofs.Common.{◌≡◌, ◌≢◌, ℕ, ◌+◌, ◌<◌, Bool, true, false, List, [], ◌∷◌, ◌++◌, length, inl, inr, refl, sym, ap, subst, ◌∙◌, length-append, arith}
use Rattle.std.specs.Prelude.{All}
use Rattle.std.proofs.lemmas.List.Elements.{All-nil, All-push}
use Rattle.ifmap_hall.specs.declared.book.Asked.{Asked}
use Rattle.ifmap_hall.specs.declared.book.Asked.TheVariants as asked
use Rattle.ifmap_machine.specs.declared.events.Answer.{Answer}
use Rattle.ifmap_machine.specs.declared.events.Answer.TheVariants as answer
use Rattle.ifmap_machine.specs.declared.events.Ask.TheVariants.{Request as Asking}
use Rattle.ifmap_machine.specs.Events.{Event}
use Rattle.ifmap_machine.specs.ifmap_replies.declared.replies.Reply.{Reply}
use Rattle.ifmap_machine.specs.ifmap_replies.declared.replies.Reply.TheVariants as reply
use Rattle.ifmap_machine.specs.ifmap_requests.declared.requests.Request.{Request}
use Rattle.ifmap_machine.specs.ifmap_requests.declared.requests.Request.TheVariants.{Poll as Polling}
use Rattle.ifmap_dialogue.specs.declared.desks.AskOutcome.{AskOutcome}
use Rattle.ifmap_dialogue.specs.declared.desks.AskOutcome.TheVariants as outcome
use Rattle.ifmap_dialogue.specs.declared.findings.Finding.{Finding}
use Rattle.ifmap_dialogue.specs.declared.findings.Finding.TheVariants as finding
use Rattle.ifmap_dialogue.specs.declared.polls.Poll.{Poll}
use Rattle.ifmap_dialogue.specs.Desks.{DeskSeen, FitsAsked, DeskTakesTurns, Turn, outcome_of}
use Rattle.ifmap_dialogue.specs.Findings.{FindsQuestion, IsNotPolled, finding_of}
use Rattle.ifmap_dialogue.specs.Turns.{AllAsk, AsksByTurn, EndsIn, IsHeldTurn, Question, event_of_question, most_turns, question_of}
use Rattle.ifmap_dialogue.specs.Telling.{tells_more, tells_none}

-- ---- what an answer is for

-- `Heard` answers no request
pub not_heard : (event : Event) (request : Request) (the_asked : Asked Event Answer) → event.ask ≡ Asking request → FitsAsked event
    the_asked
    → outcome_of the_asked ≢ outcome.Heard
not_heard event request (asked.Done place (answer.Reply r)) is fits e = cc
not_heard event request (asked.Done place answer.Held) is fits e = cc
not_heard event request (asked.Done place answer.Heard) is (session, lost) e = let two = sym is ∙ lost in cc
not_heard event request (asked.Held place back) is fits e = cc
not_heard event request (asked.Spent entries back) is fits e = cc
not_heard event request (asked.NoMemory back) is fits e = cc

same_request : (one other : Request) → Asking one ≡ Asking other → one ≡ other
same_request one other e = cc

-- a request that is no poll is not held
pub not_held : (event : Event) (request : Request) (the_asked : Asked Event Answer) → event.ask ≡ Asking request
    → ((session : List ℕ) → request ≢ Polling session) → FitsAsked event the_asked → outcome_of the_asked ≢ outcome.Held
not_held event request (asked.Done place (answer.Reply r)) is other fits e = cc
not_held event request (asked.Done place answer.Held) is other (session, poll) e =
    other session (same_request request (Polling session) (sym is ∙ poll))
not_held event request (asked.Done place answer.Heard) is other fits e = cc
not_held event request (asked.Held place back) is other ((session, poll), same) e =
    other session (same_request request (Polling session) (sym is ∙ poll))
not_held event request (asked.Spent entries back) is other fits e = cc
not_held event request (asked.NoMemory back) is other fits e = cc

same_reply : (one other : Reply) → outcome.Replied one ≡ outcome.Replied other → one ≡ other
same_reply one other e = cc

-- a request that is no poll is not told what a poll is
pub not_told : (event : Event) (request : Request) (the_asked : Asked Event Answer) (the_reply : Reply) → event.ask ≡ Asking request
    → ((session : List ℕ) → request ≢ Polling session) → FitsAsked event the_asked → outcome_of the_asked ≡ outcome.Replied the_reply
    → IsNotPolled the_reply
not_told event request (asked.Done place (answer.Reply (reply.Polled items))) the_reply is other (session, poll) e =
    λ others told. other session (same_request request (Polling session) (sym is ∙ poll))
not_told event request (asked.Done place (answer.Reply (reply.NewSession a b c))) the_reply is other fits e =
    λ others told. let same = same_reply (reply.NewSession a b c) the_reply e ∙ told in cc
not_told event request (asked.Done place (answer.Reply reply.Renewed)) the_reply is other fits e =
    λ others told. let same = same_reply reply.Renewed the_reply e ∙ told in cc
not_told event request (asked.Done place (answer.Reply reply.Ended)) the_reply is other fits e =
    λ others told. let same = same_reply reply.Ended the_reply e ∙ told in cc
not_told event request (asked.Done place (answer.Reply reply.Published)) the_reply is other fits e =
    λ others told. let same = same_reply reply.Published the_reply e ∙ told in cc
not_told event request (asked.Done place (answer.Reply reply.Subscribed)) the_reply is other fits e =
    λ others told. let same = same_reply reply.Subscribed the_reply e ∙ told in cc
not_told event request (asked.Done place (answer.Reply reply.Purged)) the_reply is other fits e =
    λ others told. let same = same_reply reply.Purged the_reply e ∙ told in cc
not_told event request (asked.Done place (answer.Reply (reply.Found entries))) the_reply is other fits e =
    λ others told. let same = same_reply (reply.Found entries) the_reply e ∙ told in cc
not_told event request (asked.Done place (answer.Reply (reply.Error code note))) the_reply is other fits e =
    λ others told. let same = same_reply (reply.Error code note) the_reply e ∙ told in cc
not_told event request (asked.Done place answer.Held) the_reply is other fits e = λ others told. cc
not_told event request (asked.Done place answer.Heard) the_reply is other fits e = λ others told. cc
not_told event request (asked.Held place back) the_reply is other fits e = λ others told. cc
not_told event request (asked.Spent entries back) the_reply is other fits e = λ others told. cc
not_told event request (asked.NoMemory back) the_reply is other fits e = λ others told. cc

-- ---- turn after turn

-- some turn went before
abbrev pub is_again : List Turn → Bool
is_again [] = false
is_again (turn ∷ turns) = true

-- the event is the one by which the question is due to be asked
abbrev pub IsDue : (ℕ → Type 0) → Question → List Turn → Event → Type 0
IsDue gives question turns event = (moment : ℕ) × gives moment × (event ≡ event_of_question question (is_again turns) moment)

-- a question was asked so many times, and held each time; it is due to be asked by that event
pub record Waits {H : Type 0} (gives : ℕ → Type 0) (before now : DeskSeen H) (question : Question) (many : ℕ) (event : Event) : Type 0 where
  pub turns : List Turn
  pub tells : DeskTakesTurns before now turns
  pub many_are : length turns ≡ many
  pub few : many < most_turns
  pub held : All IsHeldTurn turns
  pub asked : AllAsk gives question turns
  pub due : IsDue gives question turns event

asked_more : (gives : ℕ → Type 0) (question : Question) (turns : List Turn) (turn : Turn) → AllAsk gives question turns
    → AsksByTurn gives question (is_again turns) turn → AllAsk gives question (turns ++ turn ∷ [])
asked_more gives question [] turn asked asks = (asks, All-nil (AsksByTurn gives question true))
asked_more gives question (t ∷ ts) turn (first, others) asks = (first, All-push (AsksByTurn gives question true) ts turn others asks)

again_after : (turns : List Turn) (turn : Turn) → is_again (turns ++ turn ∷ []) ≡ true
again_after [] turn = refl
again_after (t ∷ ts) turn = refl

-- the wait begins
pub waits_first : {H : Type 0} (gives : ℕ → Type 0) (desk : DeskSeen H) (question : Question) (event : Event)
    → ((moment : ℕ) × gives moment × (event ≡ event_of_question question false moment)) → Waits gives desk desk question 0 event
waits_first gives desk question event first = record {
  turns = [];
  tells = tells_none desk;
  many_are = refl;
  few = omega arith;
  held = All-nil IsHeldTurn;
  asked = tt;
  due = first;
}

module _ {H : Type 0} (gives : ℕ → Type 0) (before now after : DeskSeen H) (question : Question) (many : ℕ) (event : Event)
    (w : Waits gives before now question many event) (turn : Turn) (asks : turn.event ≡ event)
    (tells : DeskTakesTurns now after (turn ∷ [])) where
  pub tells_now : DeskTakesTurns before after (w.turns ++ turn ∷ [])
  tells_now = tells_more before now after w.turns (turn ∷ []) w.tells tells

  pub asked_now : AllAsk gives question (w.turns ++ turn ∷ [])
  asked_now = let (moment, given, is) = w.due in asked_more gives question w.turns turn w.asked (moment, given, asks ∙ is)

  count_now : length (w.turns ++ turn ∷ []) ≡ many + 1
  count_now = length-append w.turns (turn ∷ []) ∙ ap (λ n. n + 1) w.many_are

  -- the turn was held, and the question is due once more
  pub waits_more : (next : Event) → outcome_of turn.asked ≡ outcome.Held → many + 1 < most_turns
      → ((moment : ℕ) × gives moment × (next ≡ event_of_question question true moment)) → Waits gives before after question (many + 1) next
  waits_more next is few (moment, given, same) = record {
    turns = w.turns ++ turn ∷ [];
    tells = tells_now;
    many_are = count_now;
    few = few;
    held = All-push IsHeldTurn w.turns turn w.held is;
    asked = asked_now;
    due = (moment, given, subst (λ (again : Bool). next ≡ event_of_question question again moment) (sym (again_after w.turns turn)) same);
  }

  -- the turn was not held
  pub ends_in : (the_outcome : AskOutcome) → outcome_of turn.asked ≡ the_outcome → EndsIn the_outcome (w.turns ++ turn ∷ [])
  ends_in the_outcome is = record {
    held = w.turns;
    last = turn;
    split = refl;
    are_held = w.held;
    few = subst (λ (n : ℕ). n < most_turns) (sym w.many_are) w.few;
    answer = is;
  }

  pub finds_spent : (entries : ℕ) → outcome_of turn.asked ≡ outcome.Spent entries
      → FindsQuestion gives before after question (finding.Spent entries)
  finds_spent entries is = record {
    turns = w.turns ++ turn ∷ [];
    tells = tells_now;
    finds = λ p posed. (question, record { posed = posed; asked = asked_now }, ends_in (outcome.Spent entries) is);
  }

  pub finds_wanting : outcome_of turn.asked ≡ outcome.NoMemory → FindsQuestion gives before after question finding.NoMemory
  finds_wanting is = record {
    turns = w.turns ++ turn ∷ [];
    tells = tells_now;
    finds = λ p posed. inr (question, record { posed = posed; asked = asked_now }, inr (ends_in outcome.NoMemory is));
  }

  pub finds_unasked : outcome_of turn.asked ≡ outcome.Held → many + 1 < most_turns
      → FindsQuestion gives before after question finding.NoMemory
  finds_unasked is few = record {
    turns = w.turns ++ turn ∷ [];
    tells = tells_now;
    finds = λ p posed. inr (
      question,
      record { posed = posed; asked = asked_now },
      inl (All-push IsHeldTurn w.turns turn w.held is, subst (λ (n : ℕ). n < most_turns) (sym count_now) few),
    );
  }

  pub finds_held_out : outcome_of turn.asked ≡ outcome.Held → many + 1 ≡ most_turns
      → FindsQuestion gives before after question (finding.HeldOut (many + 1))
  finds_held_out is all = record {
    turns = w.turns ++ turn ∷ [];
    tells = tells_now;
    finds = λ p posed.
        (question, record { posed = posed; asked = asked_now }, All-push IsHeldTurn w.turns turn w.held is, count_now ∙ all, all);
  }

  pub finds_replied : (the_reply : Reply) → outcome_of turn.asked ≡ outcome.Replied the_reply → IsNotPolled the_reply
      → FindsQuestion gives before after question (finding.Replied the_reply)
  finds_replied the_reply is other = record {
    turns = w.turns ++ turn ∷ [];
    tells = tells_now;
    finds = λ p posed.
        inr (question, record { posed = posed; asked = asked_now }, ends_in (outcome.Replied the_reply) is, other);
  }

-- a poll was answered
module _ {H : Type 0} (gives : ℕ → Type 0) (before now after : DeskSeen H) (poll : Poll) (many : ℕ) (event : Event)
    (w : Waits gives before now (question_of poll) many event) (turn : Turn) (asks : turn.event ≡ event)
    (tells : DeskTakesTurns now after (turn ∷ [])) where
  finds_plain_reply : (the_reply : Reply) → outcome_of turn.asked ≡ outcome.Replied the_reply → IsNotPolled the_reply
      → FindsQuestion gives before after (question_of poll) (finding.Replied the_reply)
  finds_plain_reply = finds_replied gives before now after (question_of poll) many event w turn asks tells

  pub finds_answered : (the_reply : Reply) → outcome_of turn.asked ≡ outcome.Replied the_reply
      → FindsQuestion gives before after (question_of poll) (finding_of the_reply poll)
  finds_answered (reply.Polled items) is = record {
    turns = w.turns ++ turn ∷ [];
    tells = tells_now gives before now after (question_of poll) many event w turn asks tells;
    finds = λ p posed. (
      record { posed = posed; asked = asked_now gives before now after (question_of poll) many event w turn asks tells },
      ends_in gives before now after (question_of poll) many event w turn asks tells (outcome.Replied (reply.Polled items)) is,
      (items, refl),
    );
  }
  finds_answered (reply.NewSession a b c) is = finds_plain_reply (reply.NewSession a b c) is (λ items e. cc)
  finds_answered reply.Renewed is = finds_plain_reply reply.Renewed is (λ items e. cc)
  finds_answered reply.Ended is = finds_plain_reply reply.Ended is (λ items e. cc)
  finds_answered reply.Published is = finds_plain_reply reply.Published is (λ items e. cc)
  finds_answered reply.Subscribed is = finds_plain_reply reply.Subscribed is (λ items e. cc)
  finds_answered reply.Purged is = finds_plain_reply reply.Purged is (λ items e. cc)
  finds_answered (reply.Found entries) is = finds_plain_reply (reply.Found entries) is (λ items e. cc)
  finds_answered (reply.Error code note) is = finds_plain_reply (reply.Error code note) is (λ items e. cc)

  -- what came of the poll, as it is told apart by the reply
  pub finds_polled : (the_reply : Reply) (found : Finding) → found ≡ finding_of the_reply poll
      → outcome_of turn.asked ≡ outcome.Replied the_reply → FindsQuestion gives before after (question_of poll) found
  finds_polled the_reply found same is =
      subst (FindsQuestion gives before after (question_of poll)) (sym same) (finds_answered the_reply is)
