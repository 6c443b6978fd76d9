-- What writing an answer does to a wire.
use Rattle.std.specs.Prelude.{◌≡◌, ℕ, ◌≤◌, true, List, [], take}
use Rattle.std.specs.Io.KnownBytes.{Appends}
use Rattle.ifmap_http.specs.ifmap_heads.Messages.{answer_bytes}
use Rattle.ifmap_http.specs.declared.wires.Sent.{Sent}
use Rattle.ifmap_http.specs.declared.wires.Sent.TheVariants as sent
use Rattle.ifmap_http.specs.Wires.{WireSeen}

-- a whole answer that has no body
abbrev pub bare_answer : ℕ → List ℕ
bare_answer status = answer_bytes status [] true

-- what comes of writing an answer once: all of it, or a prefix of it where writing failed, or nothing at want of memory
abbrev pub WritesOnce : List ℕ → Sent → List ℕ → Type 0
WritesOnce answer sent.Done output = output ≡ answer
WritesOnce answer sent.WriteFault output = (n : ℕ) × (output ≡ take n answer)
WritesOnce answer sent.NoMemory output = output ≡ []

-- want of memory was answered, as far as could be
abbrev pub IsNoMemoryOutput : List ℕ → Type 0
IsNoMemoryOutput output = (n : ℕ) × (output ≡ take n (bare_answer 503))

-- what comes of writing an answer: all of it, or a prefix of it where writing failed; at want of memory none of it, and that is
-- answered as far as can be
abbrev pub WritesAnswer : List ℕ → Sent → List ℕ → Type 0
WritesAnswer answer sent.Done output = output ≡ answer
WritesAnswer answer sent.WriteFault output = (n : ℕ) × (output ≡ take n answer)
WritesAnswer answer sent.NoMemory output = IsNoMemoryOutput output

-- the link gained these bytes, and nothing was read
pub record GainsBytes (before after : WireSeen) (output : List ℕ) : Type 0 where
  pub gained : Appends before.held after.held output
  pub rest : after ≡ record before { held = after.held; write_faults = after.write_faults }
  pub later : before.write_faults ≤ after.write_faults
