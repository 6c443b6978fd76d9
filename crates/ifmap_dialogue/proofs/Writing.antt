-- What a wire gains when an answer is written.
use Rattle.std.proofs.Common.{◌≡◌, ℕ, Bool, List, [], ◌++◌, length, take, refl, sym, ap, subst, ◌∙◌, arith}
use Rattle.std.specs.Prelude.{Option}
use Rattle.std.specs.Io.KnownBytes.{Appends, prepend_known}
use Rattle.std.proofs.KnownBytes.{Appends-trans}
use Rattle.std.proofs.Math.Seq.{take-length}
use Rattle.ifmap_http.specs.ifmap_heads.Messages.{answer_bytes}
use Rattle.ifmap_http.specs.declared.wires.Sent.{Sent}
use Rattle.ifmap_http.specs.declared.wires.Sent.TheVariants as sent
use Rattle.ifmap_http.specs.Outcomes.{Sends}
use Rattle.ifmap_http.specs.Wires.{WireSeen, Wired, wire_seen}
use Rattle.ifmap_io.specs.Links.{LinkSide}
use Rattle.ifmap_machine.specs.ifmap_replies.Results.{reply_bytes}
use Rattle.ifmap_machine.specs.ifmap_replies.declared.replies.Reply.{Reply}
use Rattle.ifmap_dialogue.specs.Answers.{reply_answer}
use Rattle.ifmap_dialogue.specs.Wires.{GainsBytes, IsNoMemoryOutput, WritesAnswer, WritesOnce, bare_answer}
use Rattle.ifmap_io.specs.Rises.{keeps_appends}

-- what was written of a message
pub what_is_written : (old new : Option (List ℕ)) (the_sent : Sent) (message : List ℕ) → Sends old new the_sent message
    → (output : List ℕ) × WritesOnce message the_sent output × Appends old new output
what_is_written old new sent.Done message s = (message, refl, s)
what_is_written old new sent.WriteFault message (n, s) = (take n message, (n, refl), s)
what_is_written old new sent.NoMemory message s = ([], refl, keeps_appends old new s)

-- a wire by its parts
abbrev wire_of : Option (List ℕ) → Option (List ℕ) → ℕ → ℕ → Bool → WireSeen
wire_of left held reads writes spent =
    record { left = left; held = held; read_faults = reads; write_faults = writes; spent = spent }

same_wire : (one other held : Option (List ℕ)) (reads more writes : ℕ) (spent also : Bool) → one ≡ other → reads ≡ more → spent ≡ also
    → wire_of one held reads writes spent ≡ wire_of other held more writes also
same_wire one other held reads more writes spent also p q r =
    ap (λ (l : Option (List ℕ)). wire_of l held reads writes spent) p
    ∙ ap (λ (n : ℕ). wire_of other held n writes spent) q
    ∙ ap (λ (b : Bool). wire_of other held more writes b) r

module _ {L : Type 0} (left held : L → Option (List ℕ)) (reading writing : L → ℕ) (old new : Wired L) where
  -- a wire of which only the link was written to
  pub rest_of : new ≡ record old { link = new.link } → left new.link ≡ left old.link → reading new.link ≡ reading old.link
      → wire_seen left held reading writing new
      ≡ record (wire_seen left held reading writing old) { held = held new.link; write_faults = writing new.link }
  rest_of rest same_left same_reading =
      let taken : new.taken ≡ old.taken = ap (λ (w : Wired L). w.taken) rest in
      let spent : new.spent ≡ old.spent = ap (λ (w : Wired L). w.spent) rest in
      let seen : prepend_known new.taken (left new.link) ≡ prepend_known old.taken (left old.link) =
      ap (λ (bytes : List ℕ). prepend_known bytes (left new.link)) taken ∙ ap (prepend_known old.taken) same_left in
      same_wire _ _ (held new.link) _ _ (writing new.link) _ _ seen same_reading spent

-- what a link is as a source
pub same_source : {L : Type 0} (left : L → Option (List ℕ)) (reading : L → ℕ) (incoming : L → LinkSide)
    → ((link : L) → incoming link ≡ record { bytes = left link; faults = reading link }) → (old new : L) → incoming new ≡ incoming old
    → (left new ≡ left old) × (reading new ≡ reading old)
same_source left reading incoming is old new same =
    let sides = sym (is new) ∙ same ∙ is old in
    (ap (λ (s : LinkSide). s.bytes) sides, ap (λ (s : LinkSide). s.faults) sides)

pub gains_more : (a b c : WireSeen) (first then : List ℕ) → GainsBytes a b first → GainsBytes b c then → GainsBytes a c (first ++ then)
gains_more a b c first then p q = record {
  gained = Appends-trans a.held b.held c.held first then p.gained q.gained;
  rest = q.rest ∙ ap (λ (w : WireSeen). record w { held = c.held; write_faults = c.write_faults }) p.rest;
  later = omega (arith, p.later, q.later);
}

-- want of memory was answered as far as could be
pub given_up : (the_sent : Sent) (output : List ℕ) → WritesOnce (bare_answer 503) the_sent output → IsNoMemoryOutput output
given_up sent.Done output is = (length (bare_answer 503), is ∙ sym (take-length (bare_answer 503)))
given_up sent.WriteFault output is = is
given_up sent.NoMemory output is = (0, is)

-- nothing was written before want of memory was answered
pub gave_up : (a b c : WireSeen) (none output : List ℕ) → none ≡ [] → GainsBytes a b none → GainsBytes b c output → GainsBytes a c output
gave_up a b c none output is first then = gains_more a b c [] output (subst (GainsBytes a b) is first) then

-- a reply was written as its bytes
pub writes_reply : (reply : Reply) (close : Bool) (body : List ℕ) (the_sent : Sent) (before after : WireSeen) → body ≡ reply_bytes reply
    → ((output : List ℕ) × WritesAnswer (answer_bytes 200 body close) the_sent output × GainsBytes before after output)
    → (output : List ℕ) × WritesAnswer (reply_answer reply close) the_sent output × GainsBytes before after output
writes_reply reply close body the_sent before after is (output, writes, gained) =
    (output, subst (λ (b : List ℕ). WritesAnswer (answer_bytes 200 b close) the_sent output) is writes, gained)
