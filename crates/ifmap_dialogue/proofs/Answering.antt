-- What posts came to, answered over a wire at a desk.
-- Plan: (1) endings that tell of no fault (`IsQuiet`), and what a wire gains where nothing is sent; (2) a request by its answer:
-- a reply, a refusal, want of memory, words that ran out; (3) a poll: held out, or answered by what it is told; (4) the
-- desk hears of a loss exactly where an answer was not written whole; (5) `serves_post`: each post comes to one of these.
use Rattle.std.proofs.Common.{◌≡◌, ◌≢◌, ℕ, ◌≤◌, Bool, true, false, List, [], ◌∷◌, ◌++◌, Some, refl, sym, ap, subst, ◌∙◌, arith}
use Rattle.std.specs.Prelude.{Option}
use Rattle.std.proofs.KnownBytes.{Appends-nil}
use Rattle.rand_chacha.specs.ChaCha.{ChaCha}
use Rattle.ifmap_http.specs.declared.wires.Post.{Post}
use Rattle.ifmap_http.specs.declared.wires.Sent.{Sent}
use Rattle.ifmap_http.specs.declared.wires.Sent.TheVariants as sent
use Rattle.ifmap_http.specs.Wires.{WireSeen}
use Rattle.ifmap_io.specs.Causes.{Rose}
use Rattle.ifmap_dialogue.specs.declared.desks.AskOutcome.{AskOutcome}
use Rattle.ifmap_dialogue.specs.declared.desks.AskOutcome.TheVariants as outcome
use Rattle.ifmap_dialogue.specs.declared.endings.Ending.{Ending}
use Rattle.ifmap_dialogue.specs.declared.endings.Ending.TheVariants as ending
use Rattle.ifmap_dialogue.specs.declared.findings.Finding.{Finding}
use Rattle.ifmap_dialogue.specs.declared.findings.Finding.TheVariants as finding
use Rattle.ifmap_dialogue.specs.declared.polls.Poll.{Poll}
use Rattle.ifmap_machine.specs.ifmap_replies.declared.replies.Reply.{Reply}
use Rattle.ifmap_dialogue.specs.Answers.{Answers, LosesUnlessDone, end_after, ending_heard, next_after, reply_answer}
use Rattle.ifmap_dialogue.specs.Desks.{DeskSeen, DeskTakesTurns, Turn, outcome_of}
use Rattle.ifmap_dialogue.specs.Findings.{FindsPost}
use Rattle.ifmap_dialogue.specs.Scenes.{HasCauses, ServesAnswer, ServesPost, scene}
use Rattle.ifmap_dialogue.specs.Turns.{AsksLost}
use Rattle.ifmap_dialogue.specs.Wires.{GainsBytes, IsNoMemoryOutput, WritesAnswer, bare_answer}
use Rattle.ifmap_dialogue.specs.Telling.{tells_more, tells_none}

-- an ending that tells of no fault
pub record IsQuiet (due : Option Ending) : Type 0 where
  pub reads : due ≢ Some ending.ReadFault
  pub writes : due ≢ Some ending.WriteFault

pub quiet_closing : (close : Bool) → IsQuiet (end_after close)
quiet_closing false = record { reads = λ e. cc; writes = λ e. cc }
quiet_closing true = record { reads = λ e. cc; writes = λ e. cc }

pub quiet_refused : (status : ℕ) → IsQuiet (Some (ending.Refused status))
quiet_refused status = record { reads = λ e. cc; writes = λ e. cc }

pub quiet_spent : (entries : ℕ) → IsQuiet (Some (ending.Spent entries))
quiet_spent entries = record { reads = λ e. cc; writes = λ e. cc }

pub quiet_held_out : (many : ℕ) → IsQuiet (Some (ending.HeldOut many))
quiet_held_out many = record { reads = λ e. cc; writes = λ e. cc }

pub quiet_wanting : IsQuiet (Some ending.NoMemory)
quiet_wanting = record { reads = λ e. cc; writes = λ e. cc }

-- a fault of writing was counted
abbrev pub CountsWriteFault : Sent → WireSeen → WireSeen → Type 0
CountsWriteFault the_sent before after = the_sent ≡ sent.WriteFault → Rose before.write_faults after.write_faults

pub gains_none : (wire : WireSeen) → GainsBytes wire wire []
gains_none wire = record { gained = Appends-nil wire.held; rest = refl; later = omega arith }

module _ (before after : WireSeen) (output : List ℕ) (g : GainsBytes before after output) where
  reads_on : before.read_faults ≤ after.read_faults
  reads_on = let same = ap (λ (w : WireSeen). w.read_faults) g.rest in omega (arith, same)

  pub causes_quiet : (next : Option Ending) → IsQuiet next → HasCauses before after next
  causes_quiet next quiet = record {
    reads = reads_on;
    writes = g.later;
    read_fault = λ e. absurd (quiet.reads e);
    write_fault = λ e. absurd (quiet.writes e);
  }

  causes_faulty : Rose before.write_faults after.write_faults → HasCauses before after (Some ending.WriteFault)
  causes_faulty rose = record { reads = reads_on; writes = g.later; read_fault = λ e. cc; write_fault = λ e. rose }

  pub causes_after : (the_sent : Sent) (due : Option Ending) → IsQuiet due → CountsWriteFault the_sent before after
      → HasCauses before after (next_after the_sent due)
  causes_after sent.Done due quiet counts = causes_quiet due quiet
  causes_after sent.WriteFault due quiet counts = causes_faulty (counts refl)
  causes_after sent.NoMemory due quiet counts = causes_quiet (Some ending.NoMemory) quiet_wanting

  quiet_heard : (o : AskOutcome) → IsQuiet (Some (ending_heard ending.NoMemory o))
  quiet_heard (outcome.Replied reply) = quiet_wanting
  quiet_heard outcome.Heard = quiet_wanting
  quiet_heard outcome.Held = quiet_wanting
  quiet_heard (outcome.Spent entries) = record { reads = λ e. cc; writes = λ e. cc }
  quiet_heard outcome.NoMemory = quiet_wanting

  causes_heard : Rose before.write_faults after.write_faults → (o : AskOutcome)
      → HasCauses before after (Some (ending_heard ending.WriteFault o))
  causes_heard rose (outcome.Replied reply) = causes_faulty rose
  causes_heard rose outcome.Heard = causes_faulty rose
  causes_heard rose outcome.Held = causes_faulty rose
  causes_heard rose (outcome.Spent entries) =
      causes_quiet (Some (ending.Unheard entries)) (record { reads = λ e. cc; writes = λ e. cc })
  causes_heard rose outcome.NoMemory = causes_quiet (Some ending.NoMemory) quiet_wanting

  pub causes_lost : (gives : ℕ → Type 0) (poll : Poll) (close : Bool) (the_sent : Sent) (turns : List Turn) (next : Option Ending)
      → LosesUnlessDone gives poll close the_sent turns next → CountsWriteFault the_sent before after → HasCauses before after next
  causes_lost gives poll close sent.Done turns next (none, is) counts =
      subst (HasCauses before after) (sym is) (causes_quiet (end_after close) (quiet_closing close))
  causes_lost gives poll close sent.WriteFault turns next (turn, one, asks, is) counts =
      subst (HasCauses before after) (sym is) (causes_heard (counts refl) (outcome_of turn.asked))
  causes_lost gives poll close sent.NoMemory turns next (turn, one, asks, is) counts =
      subst (HasCauses before after) (sym is)
      (causes_quiet (Some (ending_heard ending.NoMemory (outcome_of turn.asked))) (quiet_heard (outcome_of turn.asked)))

module _ {H : Type 0} (gives : ℕ → Type 0) (desk : DeskSeen H) (before after : WireSeen) (words : ChaCha) (found : Finding)
    (close : Bool) where
  abbrev Serving : Option Ending → Type 0
  Serving next = ServesAnswer gives (scene desk before words) (scene desk after words)
      (record { finding = found; close = close; next = next })

  -- an answer was written, and nothing was asked
  sends_answer : (the_sent : Sent) (due next : Option Ending) (output : List ℕ) → GainsBytes before after output
      → CountsWriteFault the_sent before after → IsQuiet due → next ≡ next_after the_sent due
      → Answers gives found (record { close = close; turns = []; output = output; next = next }) → Serving next
  sends_answer the_sent due next output g counts quiet is answers = record {
    turns = [];
    output = output;
    tells = tells_none desk;
    gains = g;
    causes = subst (HasCauses before after) (sym is) (causes_after before after output g the_sent due quiet counts);
    words = refl;
    answers = answers;
  }

  pub replied_answer : (reply : Reply) → found ≡ finding.Replied reply → (the_sent : Sent) (due next : Option Ending) (output : List ℕ)
      → WritesAnswer (reply_answer reply close) the_sent output → GainsBytes before after output → CountsWriteFault the_sent before after
      → due ≡ end_after close → next ≡ next_after the_sent due → Serving next
  replied_answer reply is the_sent due next output writes g counts closes follows =
      let ends : next ≡ next_after the_sent (end_after close) = follows ∙ ap (next_after the_sent) closes in
      sends_answer the_sent (end_after close) next output g counts (quiet_closing close) ends
      (subst (λ (f : Finding). Answers gives f (record { close = close; turns = []; output = output; next = next })) (sym is)
      (refl, (the_sent, writes, ends)))

  pub unreadable_answer : found ≡ finding.Unreadable → (the_sent : Sent) (next : Option Ending) (output : List ℕ)
      → WritesAnswer (bare_answer 400) the_sent output → GainsBytes before after output → CountsWriteFault the_sent before after
      → next ≡ next_after the_sent (Some (ending.Refused 400)) → Serving next
  unreadable_answer is the_sent next output writes g counts ends =
      sends_answer the_sent (Some (ending.Refused 400)) next output g counts (quiet_refused 400) ends
      (subst (λ (f : Finding). Answers gives f (record { close = close; turns = []; output = output; next = next })) (sym is)
      (refl, (the_sent, writes, ends)))

  pub spent_answer : (entries : ℕ) → found ≡ finding.Spent entries → (the_sent : Sent) (next : Option Ending) (output : List ℕ)
      → WritesAnswer (bare_answer 507) the_sent output → GainsBytes before after output → CountsWriteFault the_sent before after
      → next ≡ next_after the_sent (Some (ending.Spent entries)) → Serving next
  spent_answer entries is the_sent next output writes g counts ends =
      sends_answer the_sent (Some (ending.Spent entries)) next output g counts (quiet_spent entries) ends
      (subst (λ (f : Finding). Answers gives f (record { close = close; turns = []; output = output; next = next })) (sym is)
      (refl, (the_sent, writes, ends)))

  pub wanting_answer : found ≡ finding.NoMemory → (output : List ℕ) → IsNoMemoryOutput output → GainsBytes before after output
      → Serving (Some ending.NoMemory)
  wanting_answer is output given g = record {
    turns = [];
    output = output;
    tells = tells_none desk;
    gains = g;
    causes = causes_quiet before after output g (Some ending.NoMemory) quiet_wanting;
    words = refl;
    answers = subst (λ (f : Finding). Answers gives f (record { close = close; turns = []; output = output; next = Some ending.NoMemory }))
        (sym is) (refl, given, refl);
  }

-- a poll was held as often as can be
pub held_out_answer : {H : Type 0} (gives : ℕ → Type 0) (desk : DeskSeen H) (wire : WireSeen) (words : ChaCha) (found : Finding)
    (close : Bool) (many : ℕ)
    → found ≡ finding.HeldOut many
    → ServesAnswer gives (scene desk wire words) (scene desk wire words)
    (record { finding = found; close = close; next = Some (ending.HeldOut many) })
held_out_answer gives desk wire words found close many is = record {
  turns = [];
  output = [];
  tells = tells_none desk;
  gains = gains_none wire;
  causes = causes_quiet wire wire [] (gains_none wire) (Some (ending.HeldOut many)) (quiet_held_out many);
  words = refl;
  answers = subst (λ (f : Finding). Answers gives f (record { close = close; turns = []; output = []; next = Some (ending.HeldOut many) }))
      (sym is) (refl, refl, refl);
}

-- what a poll is told was answered
pub told_answer : {H : Type 0} (gives : ℕ → Type 0) (one other : DeskSeen H) (before after : WireSeen) (words : ChaCha) (found : Finding)
    (reply : Reply) (poll : Poll) (close : Bool) (the_sent : Sent) (turns : List Turn) (output : List ℕ) (next : Option Ending)
    → found ≡ finding.Told reply poll → WritesAnswer (reply_answer reply close) the_sent output → GainsBytes before after output
    → CountsWriteFault the_sent before after → DeskTakesTurns one other turns → LosesUnlessDone gives poll close the_sent turns next
    → ServesAnswer gives (scene one before words) (scene other after words) (record { finding = found; close = close; next = next })
told_answer gives one other before after words found reply poll close the_sent turns output next is writes g counts tells loses = record {
  turns = turns;
  output = output;
  tells = tells;
  gains = g;
  causes = causes_lost before after output g gives poll close the_sent turns next loses counts;
  words = refl;
  answers = subst (λ (f : Finding). Answers gives f (record { close = close; turns = turns; output = output; next = next })) (sym is)
      (the_sent, writes, loses);
}

-- the desk was told nothing where the answer was written whole, and of the loss of it where it was not
module _ (gives : ℕ → Type 0) (poll : Poll) (close : Bool) (the_sent : Sent) where
  pub lost_none : (next : Option Ending) → the_sent ≡ sent.Done → next ≡ end_after close → LosesUnlessDone gives poll close the_sent [] next
  lost_none next is closes = subst (λ (s : Sent). LosesUnlessDone gives poll close s [] next) (sym is) (refl, closes)

  pub lost_by_fault : (turn : Turn) (end : Ending) → the_sent ≡ sent.WriteFault → AsksLost gives poll turn
      → end ≡ ending_heard ending.WriteFault (outcome_of turn.asked) → LosesUnlessDone gives poll close the_sent (turn ∷ []) (Some end)
  lost_by_fault turn end is asks heard =
      subst (λ (s : Sent). LosesUnlessDone gives poll close s (turn ∷ []) (Some end)) (sym is) (turn, refl, asks, ap Some heard)

  pub lost_by_want : (turn : Turn) (end : Ending) → the_sent ≡ sent.NoMemory → AsksLost gives poll turn
      → end ≡ ending_heard ending.NoMemory (outcome_of turn.asked) → LosesUnlessDone gives poll close the_sent (turn ∷ []) (Some end)
  lost_by_want turn end is asks heard =
      subst (λ (s : Sent). LosesUnlessDone gives poll close s (turn ∷ []) (Some end)) (sym is) (turn, refl, asks, ap Some heard)

-- a post was answered
pub serves_post : {H : Type 0} (gives : ℕ → Type 0) (a b c : DeskSeen H) (before after : WireSeen) (words now : ChaCha) (post : Post)
    (found : Finding) (next : Option Ending) (close : Bool) → close ≡ post.close
    → FindsPost gives a b (record { client = post.client; body = post.body; words = words; after = now }) found
    → ServesAnswer gives (scene b before now) (scene c after now) (record { finding = found; close = close; next = next })
    → ServesPost gives (scene a before words) (scene c after now) post next
serves_post gives a b c before after words now post found next close same f s = record {
  turns = f.turns ++ s.turns;
  output = s.output;
  tells = tells_more a b c f.turns s.turns f.tells s.tells;
  gains = s.gains;
  causes = s.causes;
  answers = record {
    finding = found;
    asked = f.turns;
    lost = s.turns;
    found = f.finds;
    answered = subst (λ (b : Bool). Answers gives found (record { close = b; turns = s.turns; output = s.output; next = next }))
        same s.answers;
    turns = refl;
  };
}
