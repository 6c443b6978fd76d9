-- Waiting for a head, be it of a post or of an answer: what was taken meanwhile, and what is then awaited of the input.
use Rattle.std.proofs.Common.{◌≡◌, ℕ, List, subst}
use Rattle.std.specs.Io.KnownBytes.{IsAtEnd}
use Rattle.std.specs.Bool.{OnFalse}
use Rattle.std.specs.Prelude.{Bool, false, Option}
use Rattle.ifmap_input.specs.Inputs.{TakesFromSource, UsesOneSide}

-- what was taken from the source since waiting began is in the input, and the source was only read
pub record HasTaken {S Side : Type 0} (left : S → Option (List ℕ)) (faults : S → ℕ) (outgoing : S → Side) (source_old source_new : S)
    (input_old input_new : List ℕ) : Type 0 where
  pub takes : TakesFromSource (left source_old) (left source_new) input_old input_new
  pub side : UsesOneSide left faults outgoing source_old source_new

module _ {X : Type 0} (awaits : List ℕ → Option (List ℕ) → X → Type 0) (awaited : X) (pending input : List ℕ) (left : Option (List ℕ))
    (same : pending ≡ input) where
  -- what the pending bytes are, whatever comes after them, is what the input holds
  pub awaits_pending : ((after : Option (List ℕ)) → awaits pending after awaited) → awaits input left awaited
  awaits_pending found = subst (λ (bytes : List ℕ). awaits bytes left awaited) same (found left)

  -- and so is what they are at the end, where a fill got nothing
  pub awaits_at_end : (before : List ℕ) (more : Bool) → more ≡ false → OnFalse more (IsAtEnd left × (input ≡ before))
      → ((after : Option (List ℕ)) → IsAtEnd after → awaits pending after awaited) → awaits input left awaited
  awaits_at_end before more none end found =
      let ended = rw none at end in subst (λ (bytes : List ℕ). awaits bytes left awaited) same (found left ended.0)
