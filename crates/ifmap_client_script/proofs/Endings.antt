-- A script turn by turn, from its beginning to each way to end.
-- 1. Counts of faults stay or rise over turns in a row (`later_ends`), and what has failed since a turn has failed since the beginning.
-- 2. `Reached` holds where nothing was done yet (`begin`); what is promised where nothing was (`not_begun`).
-- 3. It holds after each line that was carried out (`reaches_next`).
-- 4. Each way to end leads from it to what the script promises: `promises_done`, and the others together in `ends_with`.
-- 5. Each turn that goes on brings the end nearer (`comes_nearer`).
use Rattle.std.proofs.Common.{◌≡◌, ◌⊎◌, inl, inr, refl, ap, ◌∙◌, sym, subst, ℕ, ◌+◌, ◌-◌, ◌<◌, true, false, List, [], ◌∷◌, ◌++◌, length, length-append, arith}
use Rattle.std.specs.Prelude.{Option, Some, Err}
use Rattle.std.proofs.KnownBytes.{Appends-nil, Consumes-nil, Consumes-trans}
use Rattle.ifmap_input.specs.Scripts.{longest_script}
use Rattle.ifmap_client.specs.Lines.{IsLine}
use Rattle.ifmap_client.specs.declared.lines.Line.{Line}
use Rattle.ifmap_http.specs.Wires.{WireSeen}
use Rattle.ifmap_client_script.specs.declared.exchanges.Caller.{Caller}
use Rattle.ifmap_client_script.specs.declared.outcomes.Outcome.{Outcome}
use Rattle.ifmap_client_script.specs.declared.outcomes.Outcome.TheVariants as outcome
use Rattle.ifmap_client_script.specs.declared.outcomes.ScriptFailure.{ScriptFailure}
use Rattle.ifmap_client_script.specs.declared.outcomes.ScriptFailure.TheVariants as failure
use Rattle.ifmap_client_script.specs.Deeds.{Deed, IsDeedFor, Known, after_deed, nothing_known, request_in}
use Rattle.ifmap_client_script.specs.Ends.{ArePortsLater, SourceAndPorts, IsLaterInRun, IsLaterWire, LinkFailed, Ports}
use Rattle.ifmap_client_script.specs.Exchanges.{HasAny, HasNoReply, HasPart, IsFrontOfPost, WireFailed}
use Rattle.ifmap_client_script.specs.Holding.{known_of}
use Rattle.ifmap_client_script.specs.TakenBytes.{Fetches, TakenBytes, nothing_taken}
use Rattle.ifmap_client_script.specs.Promises.{Cutting, Did, IsCarriedOut, IsFaulty, IsPartlyDone, IsUnanswered, IsUnread, IsUnwritten, IsWholePost, PostsUnanswered, ScriptPromises, CarriesTaken, Wrote, known_after}
use Rattle.ifmap_client_script.specs.Scripts.{IsBadLine}
use Rattle.ifmap_client_script.specs.ScriptFailures.{script_outcome}
use Rattle.ifmap_client_script.specs.Turns.{IsAtFault, IsBeginning, IsCutShort, IsDue, IsIdle, IsLeft, IsOver, Scripting, TakesLine, IsScriptTurn, TurnsOn}
use Rattle.ifmap_client_script.proofs.Carrying.{exchanges_none}
use Rattle.ifmap_client_script.proofs.Progress.{known_snoc}
use Rattle.ifmap_client_script.proofs.Steps.{Fetched, cut_then, did_then, fetch, pass, posted_then, script_of, script_still}
use Rattle.ifmap_io.specs.Rises.{rose_since}

-- ---- counts that never fall

later_wire : (a b c : WireSeen) → IsLaterWire a b → IsLaterWire b c → IsLaterWire a c
later_wire a b c one other =
    let p = one.read in
    let q = one.write in
    let r = other.read in
    let s = other.write in
    record { read = omega arith; write = omega arith }

later_ports : (a b c : Ports) → ArePortsLater a b → ArePortsLater b c → ArePortsLater a c
later_ports a b c one other =
    let p = one.write in
    let q = other.write in
    record {
      write = omega arith;
      first = later_wire a.first b.first c.first one.first other.first;
      second = later_wire a.second b.second c.second one.second other.second;
    }

pub later_ends : (a b c : SourceAndPorts) → IsLaterInRun a b → IsLaterInRun b c → IsLaterInRun a c
later_ends a b c one other =
    let p = one.read in
    let q = other.read in
    record { read = omega arith; ports = later_ports a.ports b.ports c.ports one.ports other.ports }

same_wire : (a : WireSeen) → IsLaterWire a a
same_wire a = record { read = omega arith; write = omega arith }

pub same_ends : (a : SourceAndPorts) → IsLaterInRun a a
same_ends a = record {
  read = omega arith;
  ports = record { write = omega arith; first = same_wire a.ports.first; second = same_wire a.ports.second };
}

wire_failed : (a b c : WireSeen) → IsLaterWire a b → WireFailed b c → WireFailed a c
wire_failed a b c later (inl rose) = inl (rose_since a.read_faults b.read_faults c.read_faults later.read rose)
wire_failed a b c later (inr rose) = inr (rose_since a.write_faults b.write_faults c.write_faults later.write rose)

link_failed : (a b c : Ports) → ArePortsLater a b → LinkFailed b c → LinkFailed a c
link_failed a b c later (inl failed) = inl (wire_failed a.first b.first c.first later.first failed)
link_failed a b c later (inr failed) = inr (wire_failed a.second b.second c.second later.second failed)

-- ---- how far a script is

pub record Reached (caller : Caller) (before now : SourceAndPorts) (script : Scripting) : Type 0 where
  pub deeds : List Deed
  pub fetched : Fetched before.left now.left script.offset deeds script.pending
  pub known : known_of script.client ≡ known_after deeds
  pub line_is : script.line ≡ length deeds + 1
  pub did : Did caller before.ports now.ports nothing_known deeds
  pub later : IsLaterInRun before now

nothing_fetched : (left : Option (List ℕ)) → Fetched left left 0 [] nothing_taken
nothing_fetched left =
    record { taken = []; script = []; consumed = Consumes-nil left; script_is = refl; carried = refl; offset_is = omega arith }

nothing_did : (caller : Caller) (ports : Ports) → ports.first.spent ≡ false → ports.second.spent ≡ false
    → Did caller ports ports nothing_known []
nothing_did caller ports first second = record {
  wrote = Appends-nil ports.held;
  exchanged = record {
    first = exchanges_none caller ports.first ports.first first refl;
    second = exchanges_none caller ports.second ports.second second refl;
  };
}

pub begin : (caller : Caller) (before : SourceAndPorts) (script : Scripting) → IsBeginning script → before.ports.first.spent ≡ false
    → before.ports.second.spent ≡ false → Reached caller before before script
begin caller before script is first second = record {
  deeds = [];
  fetched = subst (λ (n : ℕ). Fetched before.left before.left n [] script.pending) (sym is.offset)
      (subst (λ (p : TakenBytes). Fetched before.left before.left 0 [] p) (sym is.pending) (nothing_fetched before.left));
  known = is.known;
  line_is = let l = is.line in omega arith;
  did = nothing_did caller before.ports first second;
  later = same_ends before;
}

-- nothing was begun
none_begun : (caller : Caller) (before : SourceAndPorts) → before.ports.first.spent ≡ false → before.ports.second.spent ≡ false
    → ScriptPromises caller before before outcome.NoMemory
none_begun caller before first second = inl (record {
  deeds = [];
  rest = [];
  taken = [];
  lost = [];
  script = [];
  consumed = Consumes-nil before.left;
  script_is = inl refl;
  carried = refl;
  did = nothing_did caller before.ports first second;
})

pub not_begun : (caller : Caller) (before : SourceAndPorts) → before.ports.first.spent ≡ false → before.ports.second.spent ≡ false
    → IsCarriedOut caller before before outcome.NoMemory
not_begun caller before first second = record { promises = none_begun caller before first second; later = same_ends before }

module _ (caller : Caller) (before now after : SourceAndPorts) (old : Scripting) (r : Reached caller before now old) where
  fetched_more : (pending : TakenBytes) → Fetches now.left after.left old.pending pending
      → Fetched before.left after.left old.offset r.deeds pending
  fetched_more pending more = fetch before.left now.left after.left old.offset r.deeds old.pending pending r.fetched more

  passed : (line : Line) (t : TakesLine now after old line) (d : Deed) → IsDeedFor (known_of old.client) line d
      → Fetched before.left after.left (old.offset + length t.text + 1) (r.deeds ++ d ∷ [])
      (record { bytes = t.rest; ended = t.pending.ended })
  passed line t d does =
      pass before.left after.left old.offset r.deeds t.pending t.text t.rest line d (fetched_more t.pending t.fetched) t.begins t.means
      (subst (λ (k : Known). IsDeedFor k line d) r.known does)

  taken : (offset : ℕ) (deeds : List Deed) (pending : TakenBytes) → Fetched before.left after.left offset deeds pending
      → CarriesTaken before after deeds pending.bytes offset
  taken offset deeds pending f = record {
    taken = f.taken;
    script = f.script;
    consumed = f.consumed;
    script_is = script_of pending.ended after.left f.taken f.script f.script_is;
    carried = f.carried;
    offset_is = f.offset_is;
  }

  did_still : after.ports ≡ now.ports → Did caller before.ports after.ports nothing_known r.deeds
  did_still kept = subst (λ (p : Ports). Did caller before.ports p nothing_known r.deeds) (sym kept) r.did

  -- one more line
  pub reaches_next : (new : Scripting) → IsLaterInRun now after → TurnsOn caller now after old new → Reached caller before after new
  reaches_next new later t =
      let d = t.carried.deed in
      record {
        deeds = r.deeds ++ d ∷ [];
        fetched = subst (λ (n : ℕ). Fetched before.left after.left n (r.deeds ++ d ∷ []) new.pending) (sym t.offset)
            (subst
            (λ (p : TakenBytes). Fetched before.left after.left (old.offset + length t.takes.text + 1) (r.deeds ++ d ∷ []) p)
            (sym t.pending) (passed t.line t.takes d t.carried.does));
        known = t.carried.known ∙ ap (λ (k : Known). after_deed d k) r.known ∙ sym (known_snoc r.deeds d nothing_known);
        line_is = let a = t.line_is in let b = r.line_is in let c = length-append r.deeds (d ∷ []) in omega arith;
        did = did_then caller before.ports now.ports after.ports r.deeds nothing_known d r.did
            (subst (λ (k : Known). Did caller now.ports after.ports k (d ∷ [])) r.known t.carried.did);
        later = later_ends before now after r.later later;
      }

  -- ---- the ways to end

  pub promises_done : IsOver caller now after old → ScriptPromises caller before after outcome.Done
  promises_done t =
      let f = fetched_more (record { bytes = []; ended = true }) t.fetched in
      record {
        deeds = r.deeds;
        offset = old.offset;
        takes = taken old.offset r.deeds (record { bytes = []; ended = true }) f;
        end = f.script_is.1;
        did = did_still t.kept;
      }

  faulty : IsAtFault caller now after old → IsFaulty caller before after old.line
  faulty t = record {
    deeds = r.deeds;
    rest = t.pending.bytes;
    offset = old.offset;
    takes = taken old.offset r.deeds t.pending (fetched_more t.pending t.fetched);
    fault = subst (λ (k : Known). IsBadLine old.offset k t.pending.bytes) r.known t.fault;
    line_is = r.line_is;
    did = did_still t.kept;
  }

  unread : IsDue caller now after old → IsUnread caller before after
  unread t = record {
    deeds = r.deeds;
    rest = t.pending.bytes;
    offset = old.offset;
    takes = taken old.offset r.deeds t.pending (fetched_more t.pending t.fetched);
    awaited = t.awaited;
    did = did_still t.kept;
  }

  unwritten : IsCutShort caller now after old → IsUnwritten caller before after
  unwritten t =
      let d = t.cut.deed in
      record {
        deeds = r.deeds;
        deed = d;
        rest = t.takes.rest;
        offset = old.offset + length t.takes.text + 1;
        takes = taken (old.offset + length t.takes.text + 1) (r.deeds ++ d ∷ [])
            (record { bytes = t.takes.rest; ended = t.takes.pending.ended }) (passed t.line t.takes d t.cut.does);
        wrote = cut_then caller before.ports now.ports after.ports r.deeds nothing_known d r.did
            (subst (λ (k : Known). Wrote caller now.ports after.ports k [] d) r.known t.cut.wrote);
      }

  unanswered : (IsCut : Cutting) (Has : List ℕ → Type 0) → IsLeft caller now after old IsCut Has
      → IsUnanswered caller before after IsCut Has old.line
  unanswered IsCut Has t =
      let u = t.unanswered in
      record {
        deeds = r.deeds;
        rest = t.takes.pending.bytes;
        offset = old.offset;
        sent = u.sent;
        takes = taken old.offset r.deeds t.takes.pending (fetched_more t.takes.pending t.takes.fetched);
        next = record {
          text = t.takes.text;
          after = t.takes.rest;
          request = u.request;
          begins = t.takes.begins;
          means = subst (λ (l : Line). IsLine t.takes.text l) u.line_is t.takes.means;
          named = subst (λ (k : Known). request_in k.session u.request ≡ Some u.sent) r.known u.named;
        };
        line_is = r.line_is;
        posted = posted_then caller before.ports now.ports after.ports r.deeds nothing_known IsCut Has u.sent r.did
            (subst (λ (k : Known). PostsUnanswered caller now.ports after.ports IsCut Has k [] u.sent) r.known u.posted);
      }

  lost : IsIdle caller now after old → IsPartlyDone caller before after
  lost t = record {
    deeds = r.deeds;
    rest = old.pending.bytes;
    taken = r.fetched.taken;
    lost = t.lost.got;
    script = r.fetched.script;
    consumed = Consumes-trans before.left now.left after.left r.fetched.taken t.lost.got r.fetched.consumed t.lost.consumed;
    script_is = script_still old.pending.ended now.left after.left r.fetched.taken r.fetched.script r.fetched.script_is t.lost.idle;
    carried = r.fetched.carried;
    did = did_still t.kept;
  }

  no_memory : (IsIdle caller now after old ⊎ (IsLeft caller now after old IsFrontOfPost HasAny ⊎ IsCutShort caller now after old))
      → ScriptPromises caller before after outcome.NoMemory
  no_memory (inl t) = inl (lost t)
  no_memory (inr (inl t)) = inr (inl (old.line, unanswered IsFrontOfPost HasAny t))
  no_memory (inr (inr t)) = inr (inr (unwritten t))

  ends_by : (new : Scripting) (e : ScriptFailure) → IsScriptTurn caller now after old new (Err e)
      → ScriptPromises caller before after (script_outcome e old.line)
  ends_by new failure.BadLine t = faulty t
  ends_by new failure.ReadFault t =
      (unread t.0, rose_since before.read_faults now.read_faults after.read_faults r.later.read t.1)
  ends_by new failure.WriteFault t =
      (unwritten t.0, rose_since before.ports.write_faults now.ports.write_faults after.ports.write_faults r.later.ports.write t.1)
  ends_by new failure.LinkFault t =
      ((old.line, unanswered IsFrontOfPost HasAny t.0), link_failed before.ports now.ports after.ports r.later.ports t.1)
  ends_by new failure.LinkEnded t = unanswered IsWholePost HasPart t
  ends_by new failure.BadReply t = unanswered IsWholePost HasNoReply t
  ends_by new failure.NoMemory t = no_memory t

  pub ends_with : (new : Scripting) (e : ScriptFailure) (line : ℕ) (told : Outcome) → told ≡ script_outcome e line → line ≡ old.line
      → IsScriptTurn caller now after old new (Err e) → ScriptPromises caller before after told
  ends_with new e line told is same t =
      subst (λ (o : Outcome). ScriptPromises caller before after o) (sym (is
      ∙ ap (λ (n : ℕ). script_outcome e n) same)) (ends_by new e t)

-- the next line begins later
pub comes_nearer : (caller : Caller) (now after : SourceAndPorts) (old new : Scripting) → TurnsOn caller now after old new
    → longest_script + 1 - new.offset < longest_script + 1 - old.offset
comes_nearer caller now after old new t =
    let a = t.takes.begins.ends in
    let b = t.offset in
    omega arith
