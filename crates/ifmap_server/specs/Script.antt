-- What the bytes of a script are as frames.
use Rattle.std.specs.Prelude.{◌≡◌, ◌≢◌, ℕ, ◌+◌, ◌≤◌, List, [], ◌∷◌, ◌++◌, length, Option, None, Some}
use Rattle.ifmap_input.specs.Scripts.{longest_script}
use Rattle.ifmap_requests.specs.Means.{Means}
use Rattle.ifmap_server.specs.Frames.{Frame, IsFrame, frame_text}

-- these bytes, of which the first stands at an offset, begin with this frame and go on with a rest, whatever the frame's meaning
pub record BeginsFrame (offset : ℕ) (bytes : List ℕ) (f : Frame) (rest : List ℕ) : Type 0 where
  pub fits : IsFrame f
  pub text : bytes ≡ frame_text f ++ rest
  pub ends : offset + length (frame_text f) ≤ longest_script

-- these bytes, from an offset on, are these frames and no more, or at the offset of a fault no frame begins; the body of each frame
-- means its meaning
abbrev pub IsScriptFrom : ℕ → List ℕ → List Frame → Option ℕ → Type 0
IsScriptFrom offset bytes (f ∷ frames) fault =
    (rest : List ℕ) × BeginsFrame offset bytes f rest × Means f.body f.meaning
    × IsScriptFrom (offset + length (frame_text f)) rest frames fault
IsScriptFrom offset bytes [] None = bytes ≡ []
IsScriptFrom offset bytes [] (Some place) =
    (place ≡ offset) × (bytes ≢ []) × ((f : Frame) (rest : List ℕ) → BeginsFrame offset bytes f rest → ⊥)

-- the bytes are these frames, up to the end or to the first fault
abbrev pub IsScript : List ℕ → List Frame → Option ℕ → Type 0
IsScript bytes frames fault = IsScriptFrom 0 bytes frames fault
