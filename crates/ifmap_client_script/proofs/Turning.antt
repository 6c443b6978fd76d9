-- A turn of a script, from the next line and from what was done for it.
use Rattle.std.proofs.Common.{◌≡◌, ◌⊎◌, inl, inr, refl, ap, ◌∙◌, sym, subst, ℕ, ◌+◌, List, take, drop, length}
use Rattle.std.specs.Prelude.{Option, Some, None, Result, Ok, Err}
use Rattle.std.proofs.lemmas.List.{length-take-le}
use Rattle.std.proofs.Common.{arith}
use Rattle.ifmap_io.specs.Causes.{Rose}
use Rattle.ifmap_client.specs.Lines.{OneLine}
use Rattle.ifmap_client.specs.declared.lines.Line.{Line}
use Rattle.ifmap_client_script.specs.declared.exchanges.Caller.{Caller}
use Rattle.ifmap_client_script.specs.declared.outcomes.ScriptFailure.{ScriptFailure}
use Rattle.ifmap_client_script.specs.declared.outcomes.ScriptFailure.TheVariants as failure
use Rattle.ifmap_client_script.specs.declared.scripts.NextLine.{NextLine}
use Rattle.ifmap_client_script.specs.declared.scripts.ScriptTurn.{ScriptTurn}
use Rattle.ifmap_client_script.specs.declared.scripts.ScriptTurn.TheVariants as turn
use Rattle.ifmap_client_script.specs.Deeds.{CanDo}
use Rattle.ifmap_client_script.specs.Ends.{SourceAndPorts, Ports, source_and_ports}
use Rattle.ifmap_client_script.specs.Exchanges.{HasAny, IsFrontOfPost}
use Rattle.ifmap_client_script.specs.Holding.{known_of}
use Rattle.ifmap_client_script.specs.TakenBytes.{Fetches, TakenBytes}
use Rattle.ifmap_client_script.specs.Turns.{PartlyWritten, DoesNext, IsNextLine, ReadsNext, Scripting, TakesLine, IsScriptTurn, GetsNoReply}
use Rattle.ifmap_client_script.proofs.Beginnings.{bad_at, begins_at}

-- the script with what is pending now
abbrev pub at_pending : Scripting → TakenBytes → Scripting
at_pending old pending = record { client = old.client; pending = pending; offset = old.offset; line = old.line }

module _ (caller : Caller) (left left_new : Option (List ℕ)) (faults faults_new : ℕ) (before after : Ports) (old new : Scripting)
    (pending : TakenBytes) where
  abbrev from_ends : SourceAndPorts
  from_ends = source_and_ports left faults before

  abbrev to_ends : SourceAndPorts
  to_ends = source_and_ports left_new faults_new after

  module _ (next : NextLine) (one : OneLine) (read : ReadsNext left left_new old.offset old.pending pending (Ok (Some next))) where
    is_next : IsNextLine old.offset pending.bytes next
    is_next = read.1

    takes : TakesLine from_ends to_ends old next.line
    takes = record {
      pending = pending;
      fetched = read.0;
      text = take next.place pending.bytes;
      rest = drop (next.place + 1) pending.bytes;
      begins = begins_at old.offset next.place pending.bytes is_next.end is_next.within;
      means = is_next.means;
    }

    size : length (take next.place pending.bytes) ≡ next.place
    size = let h = is_next.end.within in length-take-le next.place pending.bytes (omega arith)

    memory : ((after ≡ before)
        ⊎ (GetsNoReply caller next.line before after (known_of old.client) IsFrontOfPost HasAny
        ⊎ PartlyWritten caller next.line before after (known_of old.client)))
        → IsScriptTurn caller from_ends to_ends old new (Err failure.NoMemory)
    memory (inl same) =
        inl (record { lost = record { got = read.0.got; consumed = read.0.consumed; idle = λ e. (read.0.idle e).1 }; kept = same })
    memory (inr (inl u)) = inr (inl (record { line = next.line; takes = takes; unanswered = u }))
    memory (inr (inr c)) = inr (inr (record { line = next.line; takes = takes; cut = c }))

    pub turn_does_next : (r : Result ScriptTurn ScriptFailure) → DoesNext caller next before after (at_pending old pending) new r
        → IsScriptTurn caller from_ends to_ends old new r
    unfolding takes
    turn_does_next (Ok turn.Carried) d = record {
      line = next.line;
      takes = takes;
      carried = d.0;
      pending = d.1.pending;
      offset = d.1.offset ∙ ap (λ (n : ℕ). old.offset + n + 1) (sym size);
      line_is = d.1.line;
    }
    turn_does_next (Ok turn.Ended) d = absurd d
    turn_does_next (Err failure.BadLine) d = record {
      pending = pending;
      fetched = read.0;
      fault = bad_at old.offset next.place pending.bytes (known_of old.client) is_next.end (λ line means can.
          d.0.0 (subst (λ (l : Line). CanDo (known_of old.client) l)
          (one (take next.place pending.bytes) line next.line means is_next.means) can));
      kept = d.0.1;
    }
    turn_does_next (Err failure.ReadFault) d = absurd d.0
    turn_does_next (Err failure.WriteFault) d = (record { line = next.line; takes = takes; cut = d.0.0 }, d.0.1)
    turn_does_next (Err failure.LinkFault) d = (record { line = next.line; takes = takes; unanswered = d.0.0 }, d.0.1)
    turn_does_next (Err failure.LinkEnded) d = record { line = next.line; takes = takes; unanswered = d.0 }
    turn_does_next (Err failure.BadReply) d = record { line = next.line; takes = takes; unanswered = d.0 }
    turn_does_next (Err failure.NoMemory) d = memory d.0

module _ (caller : Caller) (left left_new : Option (List ℕ)) (faults faults_new : ℕ) (ports : Ports) (old new : Scripting)
    (pending : TakenBytes) where
  pub turned_end : ReadsNext left left_new old.offset old.pending pending (Ok None)
      → IsScriptTurn caller (source_and_ports left faults ports) (source_and_ports left_new faults_new ports) old new (Ok turn.Ended)
  turned_end read = record { fetched = subst (λ (p : TakenBytes). Fetches left left_new old.pending p) read.1 read.0; kept = refl }

  pub turned_err : (e : ScriptFailure) → ReadsNext left left_new old.offset old.pending pending (Err e)
      → (e ≡ failure.ReadFault → Rose faults faults_new)
      → IsScriptTurn caller (source_and_ports left faults ports) (source_and_ports left_new faults_new ports) old new (Err e)
  turned_err failure.BadLine read rose =
      record { pending = pending; fetched = read.0; fault = read.1 (known_of old.client); kept = refl }
  turned_err failure.ReadFault read rose =
      (record { pending = pending; fetched = read.0; awaited = read.1; kept = refl }, rose refl)
  turned_err failure.NoMemory read rose = inl (record { lost = read; kept = refl })
  turned_err failure.WriteFault read rose = absurd read
  turned_err failure.LinkFault read rose = absurd read
  turned_err failure.LinkEnded read rose = absurd read
  turned_err failure.BadReply read rose = absurd read
