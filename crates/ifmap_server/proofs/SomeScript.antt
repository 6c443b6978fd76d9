-- Any bytes are the text of some list of frames, up to the end or to a fault.
-- The reader of a frame that is total (`read_header`) gives the one frame that can begin, and whether it does is decided by comparing.
-- Where it does, its body means something, and shorter bytes come after it; where it does not, there is an end or a fault.
use Rattle.std.proofs.Common.{◌≡◌, ℕ, ◌+◌, ◌<◌, ◌^◌, List, [], ◌∷◌, ◌++◌, length, take, drop, Option, Some, None, Err, inl, inr, arith, refl, subst, sym}
use Rattle.std.specs.List.{list_all}
use Rattle.std.proofs.lemmas.Bool.{cases_lt}
use Rattle.ifmap_lemmas.specs.Deciding.{Decided, by_length, decided_both, decided_by, decided_test, same_or_not, within_or_not}
use Rattle.ifmap_input.specs.Scripts.{longest_script}
use Rattle.ifmap_io.specs.Calendar.{last_moment}
use Rattle.ifmap_meta.specs.ClientNames.{IsClientName, is_client_byte, longest_client_name}
use Rattle.ifmap_requests.specs.declared.errors.Refusal.TheVariants.{Unreadable}
use Rattle.ifmap_requests.specs.Laws.{SomeMeaning}
use Rattle.ifmap_server.specs.declared.headers.Header.{Header}
use Rattle.ifmap_server.specs.Frames.{Frame, IsFrame, Meaning, frame_text, longest_body}
use Rattle.ifmap_server.specs.Output.{IsOutput, answers, fault_line}
use Rattle.ifmap_server.specs.Script.{BeginsFrame, IsScript, IsScriptFrom}
use Rattle.ifmap_server.specs.Turns.{frame_of}
use Rattle.ifmap_server.proofs.Scripts.{begins_shorter, header_of_frame, read_header, reads}
use Rattle.ifmap_lemmas.specs.Splits.{after}

-- ---- whether a frame begins

below_or_not : (m n : ℕ) → Decided (m < n)
below_or_not m n = elim (cases_lt m n) [ inl below ↦ inl below | inr above ↦ inr (λ below. omega (arith, above, below)) ]

client_or_not : (name : List ℕ) → Decided (IsClientName name)
client_or_not name =
    decided_by (λ p. (p.0, p.1.0, p.1.1)) (λ is. (is.0, (is.1, is.2)))
    (decided_both (within_or_not 1 (length name))
    (decided_both (within_or_not (length name) longest_client_name) (decided_test (list_all is_client_byte name))))

frame_or_not : (f : Frame) → Decided (IsFrame f)
frame_or_not f =
    decided_by (λ p. record { moment = p.0; client = p.1.0; random = p.1.1.0; body = p.1.1.1 })
    (λ is. (is.moment, (is.client, (is.random, is.body))))
    (decided_both (within_or_not f.moment last_moment)
    (decided_both (client_or_not f.client)
    (decided_both (below_or_not f.random (2 ^ 128)) (within_or_not (length f.body) longest_body))))

module _ (offset : ℕ) (bytes : List ℕ) where
  this_or_not : (f : Frame) (rest : List ℕ) → Decided (BeginsFrame offset bytes f rest)
  this_or_not f rest =
      decided_by (λ p. record { fits = p.0; text = p.1.0; ends = p.1.1 }) (λ b. (b.fits, (b.text, b.ends)))
      (decided_both (frame_or_not f)
      (decided_both (same_or_not bytes (frame_text f ++ rest)) (within_or_not (offset + length (frame_text f)) longest_script)))

  -- where a frame begins does not look at its meaning
  module _ (f : Frame) (rest : List ℕ) (b : BeginsFrame offset bytes f rest) (meaning : Meaning) where
    begins_meaning : BeginsFrame offset bytes (frame_of (header_of_frame f) f.body meaning) rest
    begins_meaning =
        let is = b.fits in
        record {
          fits = record { moment = is.moment; client = is.client; random = is.random; body = is.body };
          text = b.text;
          ends = b.ends;
        }

    -- and it is the frame that is read
    begins_read : BeginsFrame offset bytes (frame_of (read_header bytes) (take (read_header bytes).size (after 10 bytes)) meaning)
        (drop (read_header bytes).size (after 10 bytes))
    begins_read =
        let r = reads offset bytes f rest b in
        let body = take (read_header bytes).size (after 10 bytes) in
        subst (λ (left : List ℕ). BeginsFrame offset bytes (frame_of (read_header bytes) body meaning) left) (sym r.rest_is)
        (subst (λ (text : List ℕ). BeginsFrame offset bytes (frame_of (read_header bytes) text meaning) rest) (sym r.body)
        (subst (λ (h : Header). BeginsFrame offset bytes (frame_of h f.body meaning) rest) (sym r.header) begins_meaning))

  abbrev SomeBegins : Type 0
  SomeBegins = (f : Frame) × (rest : List ℕ) × BeginsFrame offset bytes f rest

  frame_begins_or_not : Decided SomeBegins
  frame_begins_or_not =
      let f = frame_of (read_header bytes) (take (read_header bytes).size (after 10 bytes)) (Err Unreadable) in
      let rest = drop (read_header bytes).size (after 10 bytes) in
      decided_by (λ b. (f, rest, b)) (λ s. begins_read s.0 s.1 s.2 (Err Unreadable)) (this_or_not f rest)

-- ---- scripts

module _ (some : SomeMeaning) where
  abbrev HasScriptFrom : ℕ → List ℕ → Type 0
  HasScriptFrom offset bytes = (frames : List Frame) × (fault : Option ℕ) × IsScriptFrom offset bytes frames fault

  abbrev HasScripts : List ℕ → Type 0
  HasScripts bytes = (offset : ℕ) → HasScriptFrom offset bytes

  module _ (bytes : List ℕ) (shorter : (rest : List ℕ) → length rest < length bytes → HasScripts rest) (offset : ℕ) where
    -- a frame, and then a script of what comes after it
    with_frame : (f : Frame) (rest : List ℕ) → BeginsFrame offset bytes f rest → HasScriptFrom offset bytes
    with_frame f rest b =
        let m = some f.body in
        let one = frame_of (header_of_frame f) f.body m.0 in
        let others = shorter rest (begins_shorter offset bytes f rest b) (offset + length (frame_text one)) in
        (one ∷ others.0, others.1, (rest, begins_meaning offset bytes f rest b m.0, m.1, others.2))

    -- no frame: the end, or a fault
    without_frame : (SomeBegins offset bytes → ⊥) → Decided (bytes ≡ []) → HasScriptFrom offset bytes
    without_frame none (inl empty) = ([], None, empty)
    without_frame none (inr left) = ([], Some offset, (refl, left, λ f rest b. none (f, rest, b)))

    script_from : Decided (SomeBegins offset bytes) → HasScriptFrom offset bytes
    script_from (inl s) = with_frame s.0 s.1 s.2
    script_from (inr none) = without_frame none (same_or_not bytes [])

  each_script : (bytes : List ℕ) → HasScripts bytes
  each_script = by_length HasScripts (λ bytes shorter offset. script_from bytes shorter offset (frame_begins_or_not offset bytes))

  pub some_script : (bytes : List ℕ) → (frames : List Frame) × (fault : Option ℕ) × IsScript bytes frames fault
  some_script bytes = each_script bytes 0

  pub some_output : (bytes : List ℕ) → (text : List ℕ) × IsOutput bytes text
  some_output bytes = let s = some_script bytes in (answers s.0 ++ fault_line s.1, (s.0, s.1, s.2, refl))
