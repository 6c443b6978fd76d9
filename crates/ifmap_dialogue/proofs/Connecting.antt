-- Rounds one after another, until the connection ends.
-- Plan: (1) reading leaves what was written, so what a round read and then wrote is told by both; (2) a round by how it ended:
-- a post answered, a fault of reading, a refusal; (3) whether the connection goes on: only after an answer that does not
-- close it, and never after the last post; (4) round after round: `Connects` holds at first and after each round, and
-- at the end gives what the connection promises; (5) one round as the code reads it.
use Rattle.std.proofs.Common.{◌≡◌, ◌≢◌, ℕ, ◌+◌, ◌≤◌, Bool, true, false, List, [], ◌∷◌, ◌++◌, length, None, Some, IfSome, refl, sym, ap, subst, ◌∙◌, append-nil, length-append, arith}
use Rattle.std.specs.Prelude.{Option, flat_map, IfNone, IsFalse}
use Rattle.std.specs.Io.KnownBytes.{Appends}
use Rattle.std.proofs.KnownBytes.{Appends-nil, Appends-trans}
use Rattle.std.proofs.lemmas.Bool.{eq-eqb}
use Rattle.std.proofs.lemmas.Grind.{flat_map-append}
use Rattle.rand_chacha.specs.ChaCha.{ChaCha}
use Rattle.ifmap_http.specs.declared.wires.Got.{Got}
use Rattle.ifmap_http.specs.declared.wires.Got.TheVariants as got
use Rattle.ifmap_http.specs.declared.wires.Post.{Post}
use Rattle.ifmap_http.specs.declared.wires.Sent.{Sent}
use Rattle.ifmap_http.specs.declared.wires.Sent.TheVariants as sent
use Rattle.ifmap_http.specs.Outcomes.{GetsPost}
use Rattle.ifmap_io.specs.Causes.{Rose}
use Rattle.ifmap_io.specs.Links.{LinkSide}
use Rattle.ifmap_http.specs.Wires.{WireSeen, Wired, wire_seen}
use Rattle.ifmap_dialogue.specs.declared.endings.Ending.{Ending}
use Rattle.ifmap_dialogue.specs.declared.endings.Ending.TheVariants as ending
use Rattle.ifmap_dialogue.specs.declared.findings.Finding.{Finding}
use Rattle.ifmap_dialogue.specs.declared.findings.Finding.TheVariants as finding
use Rattle.ifmap_dialogue.specs.declared.polls.Poll.{Poll}
use Rattle.ifmap_dialogue.specs.declared.desks.AskOutcome.{AskOutcome}
use Rattle.ifmap_dialogue.specs.declared.desks.AskOutcome.TheVariants as outcome
use Rattle.ifmap_dialogue.specs.Answers.{Answers, LosesUnlessDone, end_after, ending_heard, next_after}
use Rattle.ifmap_dialogue.specs.Desks.{DeskSeen, DeskTakesTurns, Turn, outcome_of}
use Rattle.ifmap_dialogue.specs.Dialogue.{AreRoundsInOrder, Serves}
use Rattle.ifmap_dialogue.specs.Rounds.{AnswersGot, IsRound, Round, WireAndWords, is_last_post, most_posts}
use Rattle.ifmap_dialogue.specs.Scenes.{HasCauses, Scene, ServesPost, ServesRound, scene, wire_standing}
use Rattle.ifmap_dialogue.specs.Wires.{GainsBytes, IsNoMemoryOutput, WritesAnswer, bare_answer}
use Rattle.ifmap_dialogue.proofs.Answering.{CountsWriteFault, IsQuiet, causes_after, causes_quiet, quiet_closing, quiet_refused, quiet_spent, quiet_wanting}
use Rattle.ifmap_dialogue.specs.Telling.{tells_more, tells_none}

-- ---- what was read of a wire

-- reading left what was written alone
pub record HasRead (before after : WireSeen) : Type 0 where
  pub reads : before.read_faults ≤ after.read_faults
  pub held : after.held ≡ before.held
  pub writes : after.write_faults ≡ before.write_faults

module _ (before mid after : WireSeen) (r : HasRead before mid) where
  joined_causes : (next : Option Ending) → next ≢ Some ending.ReadFault → HasCauses mid after next → HasCauses before after next
  joined_causes next quiet c = record {
    reads = omega (arith, r.reads, c.reads);
    writes = omega (arith, r.writes, c.writes);
    read_fault = λ e. absurd (quiet e);
    write_fault = λ e. subst (λ (n : ℕ). Rose n after.write_faults) r.writes (c.write_fault e);
  }

  joined_gains : (output : List ℕ) → Appends mid.held after.held output → Appends before.held after.held output
  joined_gains output a = subst (λ (h : Option (List ℕ)). Appends h after.held output) r.held a

  still_left : (output : List ℕ) (the_got : Got) → GainsBytes mid after output
      → IfSome before.left (λ left. GetsPost left mid.left the_got) → IfSome before.left (λ left. GetsPost left after.left the_got)
  still_left output the_got g reads =
      subst (λ (l : Option (List ℕ)). IfSome before.left (λ left. GetsPost left l the_got))
      (sym (ap (λ (w : WireSeen). w.left) g.rest)) reads

-- a post was read and answered
pub round_posted : {H : Type 0} (gives : ℕ → Type 0) (number : ℕ) (a b : DeskSeen H) (before mid after : WireSeen) (words now : ChaCha)
    (post last : Post) (next : Option Ending)
    → HasRead before mid → IfSome before.left (λ left. GetsPost left mid.left (got.Posted post))
    → last ≡ record post { close = is_last_post number post.close }
    → ServesPost gives (scene a mid words) (scene b after now) last next → next ≢ Some ending.ReadFault
    → ServesRound gives number (scene a before words) (scene b after now) next
round_posted gives number a b before mid after words now post last next r reads same served quiet =
    let s = subst (λ (p : Post). ServesPost gives (scene a mid words) (scene b after now) p next) same served in
    let x = s.answers in
    record {
      turns = s.turns;
      output = s.output;
      tells = s.tells;
      gains = joined_gains before mid after r s.output s.gains.gained;
      causes = joined_causes before mid after r next quiet s.causes;
      round = (
        got.Posted post,
        still_left before mid after r s.output (got.Posted post) s.gains reads,
        record {
          finding = x.finding;
          asked = x.asked;
          lost = x.lost;
          found = x.found;
          answered = x.answered;
          turns = x.turns;
        },
      );
    }

module _ {H : Type 0} (gives : ℕ → Type 0) (number : ℕ) (desk : DeskSeen H) (words : ChaCha) (before mid after : WireSeen)
    (r : HasRead before mid) where
  -- the post had a status, which was answered
  pub round_refused : (status : ℕ) (the_sent : Sent) (next : Option Ending) (output : List ℕ)
      → IfSome before.left (λ left. GetsPost left mid.left (got.Status status)) → WritesAnswer (bare_answer status) the_sent output
      → GainsBytes mid after output → CountsWriteFault the_sent mid after → next ≡ next_after the_sent (Some (ending.Refused status))
      → ServesRound gives number (scene desk before words) (scene desk after words) next
  round_refused status the_sent next output reads writes g counts is = record {
    turns = [];
    output = output;
    tells = tells_none desk;
    gains = joined_gains before mid after r output g.gained;
    causes = subst (HasCauses before after) (sym is)
        (joined_causes before mid after r (next_after the_sent (Some (ending.Refused status))) (unread the_sent)
        (causes_after mid after output g the_sent (Some (ending.Refused status)) (quiet_refused status) counts));
    round = (
      got.Status status,
      still_left before mid after r output (got.Status status) g reads,
      ((refl, refl), (the_sent, writes, is)),
    );
  } where
    unread : (s : Sent) → next_after s (Some (ending.Refused status)) ≢ Some ending.ReadFault
    unread sent.Done = λ e. cc
    unread sent.WriteFault = λ e. cc
    unread sent.NoMemory = λ e. cc

  -- want of memory for reading it, and that was answered
  pub round_wanting : (output : List ℕ) → IfSome before.left (λ left. GetsPost left mid.left got.NoMemory) → IsNoMemoryOutput output
      → GainsBytes mid after output → ServesRound gives number (scene desk before words) (scene desk after words) (Some ending.NoMemory)
  round_wanting output reads given g = record {
    turns = [];
    output = output;
    tells = tells_none desk;
    gains = joined_gains before mid after r output g.gained;
    causes = joined_causes before mid after r (Some ending.NoMemory) (λ e. cc)
        (causes_quiet mid after output g (Some ending.NoMemory) quiet_wanting);
    round = (got.NoMemory, still_left before mid after r output got.NoMemory g reads, ((refl, refl), given, refl));
  }

module _ {H : Type 0} (gives : ℕ → Type 0) (number : ℕ) (desk : DeskSeen H) (words : ChaCha) (before after : WireSeen)
    (r : HasRead before after) where
  appends_nothing : Appends before.held after.held []
  appends_nothing = subst (λ (h : Option (List ℕ)). Appends h after.held []) r.held (Appends-nil after.held)

  ends_at_once : (end : Ending) → end ≢ ending.WriteFault → (end ≡ ending.ReadFault → Rose before.read_faults after.read_faults)
      → HasCauses before after (Some end)
  ends_at_once end quiet rose = record {
    reads = r.reads;
    writes = omega (arith, r.writes);
    read_fault = λ e. rose (some_same end ending.ReadFault e);
    write_fault = λ e. absurd (quiet (some_same end ending.WriteFault e));
  } where
    some_same : (one other : Ending) → Some one ≡ Some other → one ≡ other
    some_same one other e = cc

  -- the connection ends with what was read, and nothing is asked or answered
  round_over : (the_got : Got) (end : Ending) → IfSome before.left (λ left. GetsPost left after.left the_got)
      → AnswersGot gives number (record {
        before = wire_standing before words;
        after = wire_standing after words;
        turns = [];
        output = [];
        next = Some end;
      }) the_got → HasCauses before after (Some end)
      → ServesRound gives number (scene desk before words) (scene desk after words) (Some end)
  round_over the_got end reads follows causes = record {
    turns = [];
    output = [];
    tells = tells_none desk;
    gains = appends_nothing;
    causes = causes;
    round = (the_got, reads, follows);
  }

  pub round_ended : IfSome before.left (λ left. GetsPost left after.left got.Ended)
      → ServesRound gives number (scene desk before words) (scene desk after words) (Some ending.Ended)
  round_ended reads =
      round_over got.Ended ending.Ended reads ((refl, refl), refl, refl) (ends_at_once ending.Ended (λ e. cc) (λ e. cc))

  pub round_truncated : IfSome before.left (λ left. GetsPost left after.left got.Truncated)
      → ServesRound gives number (scene desk before words) (scene desk after words) (Some ending.Truncated)
  round_truncated reads =
      round_over got.Truncated ending.Truncated reads ((refl, refl), refl, refl) (ends_at_once ending.Truncated (λ e. cc) (λ e. cc))

  pub round_unread : IfSome before.left (λ left. GetsPost left after.left got.ReadFault) → Rose before.read_faults after.read_faults
      → ServesRound gives number (scene desk before words) (scene desk after words) (Some ending.ReadFault)
  round_unread reads rose =
      round_over got.ReadFault ending.ReadFault reads ((refl, refl), refl, refl) (ends_at_once ending.ReadFault (λ e. cc) (λ e. rose))

-- ---- whether the connection goes on

closes_not : (close : Bool) → end_after close ≡ None → close ≡ false
closes_not false e = refl
closes_not true e = cc

delivers_not : (the_sent : Sent) (close : Bool) → None ≡ next_after the_sent (end_after close) → close ≡ false
delivers_not sent.Done close e = closes_not close (sym e)
delivers_not sent.WriteFault close e = cc
delivers_not sent.NoMemory close e = cc

never_on : (the_sent : Sent) (end : Ending) → None ≢ next_after the_sent (Some end)
never_on sent.Done end = λ e. cc
never_on sent.WriteFault end = λ e. cc
never_on sent.NoMemory end = λ e. cc

told_not : (gives : ℕ → Type 0) (poll : Poll) (close : Bool) (the_sent : Sent) (turns : List Turn)
    → LosesUnlessDone gives poll close the_sent turns None → close ≡ false
told_not gives poll close sent.Done turns (none, is) = closes_not close (sym is)
told_not gives poll close sent.WriteFault turns (turn, one, asks, is) = cc
told_not gives poll close sent.NoMemory turns (turn, one, asks, is) = cc

-- an answer after which the connection goes on is to close it not
stays_open : (gives : ℕ → Type 0) (found : Finding) (close : Bool) (turns : List Turn) (output : List ℕ)
    → Answers gives found (record { close = close; turns = turns; output = output; next = None }) → close ≡ false
stays_open gives (finding.Replied reply) close turns output (none, (the_sent, writes, is)) = delivers_not the_sent close is
stays_open gives (finding.Told reply poll) close turns output (the_sent, writes, loses) = told_not gives poll close the_sent turns loses
stays_open gives finding.Unreadable close turns output (none, (the_sent, writes, is)) = absurd (never_on the_sent (ending.Refused 400) is)
stays_open gives (finding.HeldOut many) close turns output (none, nothing, is) = cc
stays_open gives (finding.Spent entries) close turns output (none, (the_sent, writes, is)) =
    absurd (never_on the_sent (ending.Spent entries) is)
stays_open gives finding.NoMemory close turns output (none, given, is) = cc

number_not : (number : ℕ) (close : Bool) → is_last_post number close ≡ false → number ≢ most_posts
number_not number false e = λ same. let last = eq-eqb number most_posts same in let two = sym e ∙ last in cc
number_not number true e = λ same. cc

-- a post that was answered and after which the connection goes on is not the last one
pub goes_on_by : {H : Type 0} (gives : ℕ → Type 0) (number : ℕ) (a b : Scene H) (post last : Post) (next : Option Ending)
    → last ≡ record post { close = is_last_post number post.close } → ServesPost gives a b last next → next ≡ None
    → (number ≢ most_posts) × (b.wire.spent ≡ a.wire.spent)
goes_on_by gives number a b post last next same s is =
    let x = s.answers in
    let answered = subst
    (λ (n : Option Ending). Answers gives x.finding (record { close = last.close; turns = x.lost; output = s.output; next = n }))
    is x.answered in
    let open_still : last.close ≡ false = stays_open gives x.finding last.close x.lost s.output answered in
    (number_not number post.close (sym (ap (λ (p : Post). p.close) same) ∙ open_still), ap (λ (w : WireSeen). w.spent) s.gains.rest)

-- a post is never answered by a fault of reading
heard_not : (due : Ending) (o : AskOutcome) → due ≢ ending.ReadFault → Some (ending_heard due o) ≢ Some ending.ReadFault
heard_not due (outcome.Replied reply) other = λ e. other (cc)
heard_not due outcome.Heard other = λ e. other (cc)
heard_not due outcome.Held other = λ e. other (cc)
heard_not due (outcome.Spent entries) other = λ e. cc
heard_not due outcome.NoMemory other = λ e. cc

sends_not : (the_sent : Sent) (due next : Option Ending) → IsQuiet due → next ≡ next_after the_sent due → next ≢ Some ending.ReadFault
sends_not sent.Done due next quiet is = λ e. quiet.reads (sym is ∙ e)
sends_not sent.WriteFault due next quiet is = λ e. let two = sym is ∙ e in cc
sends_not sent.NoMemory due next quiet is = λ e. let two = sym is ∙ e in cc

loses_not : (gives : ℕ → Type 0) (poll : Poll) (close : Bool) (the_sent : Sent) (turns : List Turn) (next : Option Ending)
    → LosesUnlessDone gives poll close the_sent turns next → next ≢ Some ending.ReadFault
loses_not gives poll close sent.Done turns next (none, is) = λ e. (quiet_closing close).reads (sym is ∙ e)
loses_not gives poll close sent.WriteFault turns next (turn, one, asks, is) =
    λ e. heard_not ending.WriteFault (outcome_of turn.asked) (λ w. cc) (sym is ∙ e)
loses_not gives poll close sent.NoMemory turns next (turn, one, asks, is) =
    λ e. heard_not ending.NoMemory (outcome_of turn.asked) (λ w. cc) (sym is ∙ e)

answers_not : (gives : ℕ → Type 0) (found : Finding) (close : Bool) (turns : List Turn) (output : List ℕ) (next : Option Ending)
    → Answers gives found (record { close = close; turns = turns; output = output; next = next }) → next ≢ Some ending.ReadFault
answers_not gives (finding.Replied reply) close turns output next (none, (the_sent, writes, is)) =
    sends_not the_sent (end_after close) next (quiet_closing close) is
answers_not gives (finding.Told reply poll) close turns output next (the_sent, writes, loses) =
    loses_not gives poll close the_sent turns next loses
answers_not gives finding.Unreadable close turns output next (none, (the_sent, writes, is)) =
    sends_not the_sent (Some (ending.Refused 400)) next (quiet_refused 400) is
answers_not gives (finding.HeldOut many) close turns output next (none, nothing, is) = λ e. let two = sym is ∙ e in cc
answers_not gives (finding.Spent entries) close turns output next (none, (the_sent, writes, is)) =
    sends_not the_sent (Some (ending.Spent entries)) next (quiet_spent entries) is
answers_not gives finding.NoMemory close turns output next (none, given, is) = λ e. let two = sym is ∙ e in cc

pub post_not : {H : Type 0} (gives : ℕ → Type 0) (a b : Scene H) (post : Post) (next : Option Ending) → ServesPost gives a b post next
    → next ≢ Some ending.ReadFault
post_not gives a b post next s = answers_not gives s.answers.finding post.close s.answers.lost s.output next s.answers.answered

-- ---- round after round

goes_one_more : (gives : ℕ → Type 0) (number here : ℕ) (first : WireAndWords) (rounds : List Round) (r : Round)
    → AreRoundsInOrder gives number first rounds r.before → here ≡ number + length rounds → IsRound gives here r → r.next ≡ None
    → AreRoundsInOrder gives number first (rounds ++ r ∷ []) r.after
goes_one_more gives number here first [] r same at is next =
    let there : here ≡ number = omega (arith, at) in
    (same, subst (λ (n : ℕ). IsRound gives n r) there is, next, refl)
goes_one_more gives number here first (x ∷ rounds) r (begins, before, on, rest) at is next =
    let there : here ≡ number + 1 + length rounds = omega (arith, at) in
    (begins, before, on, goes_one_more gives (number + 1) here x.after rounds r rest there is next)

-- the connection is about to be served with the round of this number
pub record Connects {H : Type 0} (gives : ℕ → Type 0) (before now : Scene H) (number : ℕ) : Type 0 where
  pub rounds : List Round
  pub tells : DeskTakesTurns before.desk now.desk (flat_map (λ (r : Round). r.turns) rounds)
  pub gains : Appends before.wire.held now.wire.held (flat_map (λ (r : Round). r.output) rounds)
  pub goes_on : AreRoundsInOrder gives 1 (wire_standing before.wire before.words) rounds (wire_standing now.wire now.words)
  pub count : number ≡ 1 + length rounds
  pub few : number ≤ most_posts
  pub fresh : IsFalse now.wire.spent
  pub reads : before.wire.read_faults ≤ now.wire.read_faults
  pub writes : before.wire.write_faults ≤ now.wire.write_faults

pub connects_first : {H : Type 0} (gives : ℕ → Type 0) (before : Scene H) → IsFalse before.wire.spent → Connects gives before before 1
connects_first gives before fresh = record {
  rounds = [];
  tells = tells_none before.desk;
  gains = Appends-nil before.wire.held;
  goes_on = refl;
  count = refl;
  few = omega arith;
  fresh = fresh;
  reads = omega arith;
  writes = omega arith;
}

abbrev round_of : {H : Type 0} (gives : ℕ → Type 0) (number : ℕ) (before after : Scene H) (next : Option Ending)
    → ServesRound gives number before after next → Round
round_of gives number before after next s = record {
  before = wire_standing before.wire before.words;
  after = wire_standing after.wire after.words;
  turns = s.turns;
  output = s.output;
  next = next;
}

one_round : (r : Round) → flat_map (λ (x : Round). x.turns) (r ∷ []) ≡ r.turns
one_round r = append-nil r.turns

one_output : (r : Round) → flat_map (λ (x : Round). x.output) (r ∷ []) ≡ r.output
one_output r = append-nil r.output

module _ {H : Type 0} (gives : ℕ → Type 0) (before now after : Scene H) (number : ℕ) (next : Option Ending)
    (w : Connects gives before now number) (s : ServesRound gives number now after next) where
  abbrev this : Round
  this = round_of gives number now after next s

  all_turns : flat_map (λ (x : Round). x.turns) (w.rounds ++ this ∷ []) ≡ flat_map (λ (x : Round). x.turns) w.rounds ++ s.turns
  all_turns =
      flat_map-append (λ (x : Round). x.turns) w.rounds (this ∷ [])
      ∙ ap (λ l. flat_map (λ (x : Round). x.turns) w.rounds ++ l) (one_round this)

  all_output : flat_map (λ (x : Round). x.output) (w.rounds ++ this ∷ []) ≡ flat_map (λ (x : Round). x.output) w.rounds ++ s.output
  all_output =
      flat_map-append (λ (x : Round). x.output) w.rounds (this ∷ [])
      ∙ ap (λ l. flat_map (λ (x : Round). x.output) w.rounds ++ l) (one_output this)

  tells_all : DeskTakesTurns before.desk after.desk (flat_map (λ (x : Round). x.turns) (w.rounds ++ this ∷ []))
  tells_all =
      subst (DeskTakesTurns before.desk after.desk) (sym all_turns)
      (tells_more before.desk now.desk after.desk (flat_map (λ (x : Round). x.turns) w.rounds) s.turns w.tells s.tells)

  gains_all : Appends before.wire.held after.wire.held (flat_map (λ (x : Round). x.output) (w.rounds ++ this ∷ []))
  gains_all =
      subst (Appends before.wire.held after.wire.held) (sym all_output)
      (Appends-trans before.wire.held now.wire.held after.wire.held (flat_map (λ (x : Round). x.output) w.rounds) s.output w.gains s.gains)

  pub connects_more : next ≡ None → number ≢ most_posts → IsFalse after.wire.spent → Connects gives before after (number + 1)
  connects_more on other fresh = record {
    rounds = w.rounds ++ this ∷ [];
    tells = tells_all;
    gains = gains_all;
    goes_on = goes_one_more gives 1 number (wire_standing before.wire before.words) w.rounds this w.goes_on w.count s.round on;
    count = let l = length-append w.rounds (this ∷ []) in omega (arith, l, w.count);
    few = omega (arith, w.few, other);
    fresh = fresh;
    reads = omega (arith, w.reads, s.causes.reads);
    writes = omega (arith, w.writes, s.causes.writes);
  }

  number_is : number ≡ length w.rounds + 1
  number_is = omega (arith, w.count)

  pub serves_all : (end : Ending) → next ≡ Some end → Serves gives before after end
  serves_all end is = record {
    turns = flat_map (λ (x : Round). x.turns) (w.rounds ++ this ∷ []);
    output = flat_map (λ (x : Round). x.output) (w.rounds ++ this ∷ []);
    tells = tells_all;
    gains = gains_all;
    causes = record {
      reads = omega (arith, w.reads, s.causes.reads);
      writes = omega (arith, w.writes, s.causes.writes);
      read_fault = λ e. let rose = s.causes.read_fault (is ∙ e) in omega (arith, rose, w.reads);
      write_fault = λ e. let rose = s.causes.write_fault (is ∙ e) in omega (arith, rose, w.writes);
    };
    dialogue = record {
      rounds = w.rounds;
      final = this;
      goes_on = w.goes_on;
      few = omega (arith, w.count, w.few);
      ends = subst (λ (n : ℕ). IsRound gives n this) number_is s.round;
      ended = is;
      after = refl;
      turns_are = refl;
      output_is = refl;
    };
  }

-- ---- one round as it is read

-- reading of a wire left what was written alone
pub has_read : {L : Type 0} (left held : L → Option (List ℕ)) (reading writing : L → ℕ) (outgoing : L → LinkSide)
    → ((link : L) → outgoing link ≡ record { bytes = held link; faults = writing link }) → (old new : Wired L)
    → outgoing new.link ≡ outgoing old.link → reading old.link ≤ reading new.link
    → HasRead (wire_seen left held reading writing old) (wire_seen left held reading writing new)
has_read left held reading writing outgoing is old new same later =
    let sides = sym (is new.link) ∙ same ∙ is old.link in
    record { reads = later; held = ap (λ (s : LinkSide). s.bytes) sides; writes = ap (λ (s : LinkSide). s.faults) sides }

pub more_if_none : (next : Option Ending) (P : Type 0) → (next ≡ None → P) → IfNone next P
more_if_none None P f = f refl
more_if_none (Some end) P f = tt

-- after a refusal the connection does not go on
pub refusal_ends : (the_sent : Sent) (end : Ending) (next : Option Ending) (P : Type 0) → next ≡ next_after the_sent (Some end)
    → IfNone next P
refusal_ends the_sent end next P is = more_if_none next P (λ e. absurd (never_on the_sent end (sym e ∙ is)))
