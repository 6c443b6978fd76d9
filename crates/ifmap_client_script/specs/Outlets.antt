-- What is printed and asked does to a sink and two wires, at one call. No clause of `run_script` cites this file.
use Rattle.std.specs.Prelude.{◌≡◌, ◌⊎◌, ℕ, List, Bool, true, false, IsFalse, IsTrue, Some, None, Result, Err}
use Rattle.ifmap_http.specs.ifmap_heads.Messages.{is_visible}
use Rattle.ifmap_requests.specs.declared.requests.Request.{Request}
use Rattle.ifmap_client_script.specs.declared.exchanges.Caller.{Caller}
use Rattle.ifmap_client_script.specs.declared.exchanges.ReadReply.{ReadReply}
use Rattle.ifmap_client_script.specs.declared.outcomes.ScriptFailure.{ScriptFailure}
use Rattle.ifmap_client_script.specs.declared.outcomes.ScriptFailure.TheVariants as failure
use Rattle.ifmap_client_script.specs.Deeds.{Known, is_poll, request_in}
use Rattle.ifmap_client_script.specs.Ends.{ArePortsLater, Ports}
use Rattle.ifmap_client_script.specs.Exchanges.{AsksOnWire}
use Rattle.ifmap_client_script.specs.ScriptFailures.{SendsText}

-- both wires can be asked
pub record AreUnspent (ports : Ports) : Type 0 where
  pub first : IsFalse ports.first.spent
  pub second : IsFalse ports.second.spent

-- the caller can ask: both wires can be asked, and a post can name the host
pub record CanAsk (caller : Caller) (ports : Ports) : Type 0 where
  pub unspent : AreUnspent ports
  pub visible : IsTrue (is_visible caller.host)

-- the names of the borrows of the sink and the wires
pub record Loans : Type 0 where
  pub sink : ℕ
  pub first : ℕ
  pub second : ℕ

-- the sink and the wires are the same ones
pub record AreSame (before after : Loans) : Type 0 where
  pub sink : after.sink ≡ before.sink
  pub first : after.first ≡ before.first
  pub second : after.second ≡ before.second

-- the outlets after some calls: no count of faults has fallen, and they are the same ones
pub record AreOutletsLater {O : Type 0} (seen : O → Ports) (loans : O → Loans) (before after : O) : Type 0 where
  pub ports : ArePortsLater (seen before) (seen after)
  pub same : AreSame (loans before) (loans after)

-- over which wire a request went, while the other stayed as it was: a poll over the second
abbrev pub AsksBy : Bool → Caller → Request → (before after : Ports) → Result ReadReply ScriptFailure → Type 0
AsksBy true caller sent before after result =
    (after.first ≡ before.first) × AsksOnWire caller sent before.second after.second result
AsksBy false caller sent before after result =
    (after.second ≡ before.second) × AsksOnWire caller sent before.first after.first result

-- a request went over its wire, and nothing was printed
pub record IsAsked (caller : Caller) (sent : Request) (before after : Ports) (result : Result ReadReply ScriptFailure) : Type 0 where
  pub asks : AsksBy (is_poll sent) caller sent before after result
  pub held : after.held ≡ before.held
  pub write_faults : after.write_faults ≡ before.write_faults

-- a request was sent as it is named, if it is, and there was memory
abbrev pub AsksOver : Caller → Request → Known → (before after : Ports) → Result ReadReply ScriptFailure → Type 0
AsksOver caller request known before after result =
    ((sent : Request) × (request_in known.session request ≡ Some sent) × IsAsked caller sent before after result)
    ⊎ ((after ≡ before)
    × ((result ≡ Err failure.NoMemory) ⊎ ((request_in known.session request ≡ None) × (result ≡ Err failure.BadLine))))

-- a text was printed, and the wires stayed as they were
pub record Prints (text : List ℕ) (before after : Ports) (result : Result (Unit {0}) ScriptFailure) : Type 0 where
  pub sends : SendsText before.held after.held before.write_faults after.write_faults text result
  pub first : after.first ≡ before.first
  pub second : after.second ≡ before.second
