-- Why no further line is carried out.
use Rattle.std.specs.Prelude.{◌≡◌, ℕ, List, take, Option, Some, None, Result, Ok, Err}
use Rattle.std.specs.Io.KnownBytes.{Appends, Keeps}
use Rattle.ifmap_io.specs.Causes.{Rose}
use Rattle.ifmap_client_script.specs.declared.outcomes.Outcome.{Outcome}
use Rattle.ifmap_client_script.specs.declared.outcomes.Outcome.TheVariants as outcome
use Rattle.ifmap_client_script.specs.declared.outcomes.ScriptFailure.{ScriptFailure}
use Rattle.ifmap_client_script.specs.declared.outcomes.ScriptFailure.TheVariants as failure

-- how a script ends that stops at that line
abbrev pub script_outcome : ScriptFailure → ℕ → Outcome
script_outcome failure.BadLine line = outcome.BadLine line
script_outcome failure.ReadFault line = outcome.ReadFault
script_outcome failure.WriteFault line = outcome.WriteFault
script_outcome failure.LinkFault line = outcome.LinkFault
script_outcome failure.LinkEnded line = outcome.LinkEnded line
script_outcome failure.BadReply line = outcome.BadReply line
script_outcome failure.NoMemory line = outcome.NoMemory

-- what is named, or that it names nothing
abbrev pub IsNamedOrBadLine : {X : Type 0} → Option X → Result X ScriptFailure → Type 0
IsNamedOrBadLine named (Ok x) = named ≡ Some x
IsNamedOrBadLine named (Err failure.BadLine) = named ≡ None
IsNamedOrBadLine named (Err failure.ReadFault) = ⊥
IsNamedOrBadLine named (Err failure.WriteFault) = ⊥
IsNamedOrBadLine named (Err failure.LinkFault) = ⊥
IsNamedOrBadLine named (Err failure.LinkEnded) = ⊥
IsNamedOrBadLine named (Err failure.BadReply) = ⊥
IsNamedOrBadLine named (Err failure.NoMemory) = Unit {0}

-- known bytes grow by a text, or by a front of it after a fault, which was counted
abbrev pub WritesText : Option (List ℕ) → Option (List ℕ) → ℕ → ℕ → List ℕ → Result (Unit {0}) ScriptFailure → Type 0
WritesText old new before after text (Ok _) = Appends old new text
WritesText old new before after text (Err failure.WriteFault) = ((n : ℕ) × Appends old new (take n text)) × Rose before after
WritesText old new before after text (Err failure.BadLine) = ⊥
WritesText old new before after text (Err failure.ReadFault) = ⊥
WritesText old new before after text (Err failure.LinkFault) = ⊥
WritesText old new before after text (Err failure.LinkEnded) = ⊥
WritesText old new before after text (Err failure.BadReply) = ⊥
WritesText old new before after text (Err failure.NoMemory) = ⊥

-- the same, and they stay as they were for want of memory
abbrev pub SendsText : Option (List ℕ) → Option (List ℕ) → ℕ → ℕ → List ℕ → Result (Unit {0}) ScriptFailure → Type 0
SendsText old new before after text (Ok _) = Appends old new text
SendsText old new before after text (Err failure.WriteFault) = ((n : ℕ) × Appends old new (take n text)) × Rose before after
SendsText old new before after text (Err failure.BadLine) = ⊥
SendsText old new before after text (Err failure.ReadFault) = ⊥
SendsText old new before after text (Err failure.LinkFault) = ⊥
SendsText old new before after text (Err failure.LinkEnded) = ⊥
SendsText old new before after text (Err failure.BadReply) = ⊥
SendsText old new before after text (Err failure.NoMemory) = Keeps old new
