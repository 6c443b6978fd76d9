-- Any bytes are the text of one list of frames at most, up to the end or to the first fault.
-- A reader of a frame that is total and pure (`read_header`) goes back over each frame that begins, so that one frame begins
-- at most but for its meaning (`begins_alike`); its body has one meaning. From this: bytes are one script (`script_one`), and where
-- a frame begins, each script begins with it (`script_begins`).
use Rattle.std.proofs.Common.{◌≡◌, ◌≢◌, ℕ, ◌+◌, ◌<◌, ◌≤◌, List, [], ◌∷◌, ◌++◌, length, length-append, take, drop, Option, Some, None, arith, refl, sym, ap, subst, ◌∙◌}
use Rattle.std.proofs.lemmas.List.{append_assoc, take_at, drop_at}
use Rattle.ifmap_elem.specs.Chars.{line_feed}
use Rattle.ifmap_input.specs.FirstPlaces.{HasNone}
use Rattle.ifmap_input.specs.Scripts.{longest_script}
use Rattle.ifmap_requests.specs.Laws.{OneMeaning}
use Rattle.ifmap_requests.specs.Means.{Means}
use Rattle.ifmap_server.specs.declared.headers.Header.{Header}
use Rattle.ifmap_server.specs.Frames.{Frame, IsFrame, IsHeader, Meaning, frame_text}
use Rattle.ifmap_server.specs.Script.{BeginsFrame, IsScriptFrom}
use Rattle.ifmap_server.specs.Turns.{frame_of}
use Rattle.ifmap_lemmas.specs.Splits.{without_at, before, after, before_at, after_at}
use Rattle.ifmap_lemmas.specs.Joined.{push_append}
use Rattle.ifmap_server.proofs.HeaderLines.{IsWithin, line_text, line_of, line_length, line_without, is_header, header_of_line_one, read_line}

-- the header of a frame
abbrev pub header_of_frame : Frame → Header
header_of_frame f = record { moment = f.moment; client = f.client; random = f.random; size = length f.body }

frame_within : (f : Frame) → IsFrame f → IsWithin (header_of_frame f)
frame_within f is = record { moment = is.moment; client = is.client; random = is.random; size = is.body }

-- a frame's text is a line, a newline and the body
pub frame_line : (f : Frame) → frame_text f ≡ line_text (header_of_frame f) ++ line_feed ∷ f.body
frame_line f = push_append (line_text (header_of_frame f)) line_feed f.body

pub frame_length : (f : Frame) → length (frame_text f) ≡ length (line_text (header_of_frame f)) + 1 + length f.body
frame_length f = let e = frame_line f in ap length e ∙ omega (arith, length-append (line_text (header_of_frame f)) (line_feed ∷ f.body))

-- where a frame begins, the bytes up to the first newline are its header
pub record BeginsWith (line bytes : List ℕ) (f : Frame) (rest : List ℕ) : Type 0 where
  pub header : IsHeader line (header_of_frame f)
  pub text : bytes ≡ line ++ line_feed ∷ (f.body ++ rest)
  pub size : length (frame_text f) ≡ length line + 1 + length f.body
  pub no_newline : HasNone line_feed line
  pub short : length line ≤ 96

cut_line : (a b c : List ℕ) → a ++ line_feed ∷ b ++ c ≡ a ++ line_feed ∷ (b ++ c)
cut_line a b c = append_assoc a (line_feed ∷ b) c

begins_with : (offset : ℕ) (bytes : List ℕ) (f : Frame) (rest : List ℕ) → BeginsFrame offset bytes f rest
    → BeginsWith (line_text (header_of_frame f)) bytes f rest
begins_with offset bytes f rest b =
    let w = frame_within f b.fits in
    record {
      header = is_header (header_of_frame f) w;
      text = b.text ∙ ap (λ (t : List ℕ). t ++ rest) (frame_line f) ∙ cut_line (line_text (header_of_frame f)) f.body rest;
      size = frame_length f;
      no_newline = without_at line_feed (line_text (header_of_frame f)) (line_without (header_of_frame f) w);
      short = line_length (header_of_frame f) w;
    }

pub begins_line : (offset : ℕ) (bytes : List ℕ) (f : Frame) (rest : List ℕ) → BeginsFrame offset bytes f rest
    → (line : List ℕ) × BeginsWith line bytes f rest
begins_line offset bytes f rest b = (line_text (header_of_frame f), begins_with offset bytes f rest b)

-- and where a header stands, with its body after it, its frame begins
pub line_begins : (offset : ℕ) (bytes line body rest : List ℕ) (h : Header) → bytes ≡ line ++ line_feed ∷ (body ++ rest) → IsHeader line h
    → length body ≡ h.size → offset + (length line + 1 + h.size) ≤ longest_script → (meaning : Meaning)
    → BeginsFrame offset bytes (frame_of h body meaning) rest
line_begins offset bytes line body rest h text is size ends meaning =
    let same : header_of_frame (frame_of h body meaning) ≡ h = ap (λ (n : ℕ).
    record { moment = h.moment; client = h.client; random = h.random; size = n }) size in
    let here : line ≡ line_text (header_of_frame (frame_of h body meaning)) = line_of line h is ∙ ap line_text (sym same) in
    let long = frame_length (frame_of h body meaning) in
    let as_long = ap length here in
    record {
      fits = record { moment = is.moment; client = is.client; random = is.random; body = rw size is.size };
      text = text ∙ sym (ap (λ (t : List ℕ). t ++ rest) (frame_line (frame_of h body meaning))
          ∙ cut_line (line_text (header_of_frame (frame_of h body meaning))) body rest
          ∙ ap (λ (l : List ℕ). l ++ line_feed ∷ (body ++ rest)) (sym here));
      ends = omega arith;
    }

-- ---- a frame that begins is the only one but for its meaning

pub read_header : List ℕ → Header
read_header bytes = read_line (before line_feed bytes)

-- what a reader finds is the frame's
pub record Reads (bytes : List ℕ) (f : Frame) (rest : List ℕ) : Type 0 where
  pub header : read_header bytes ≡ header_of_frame f
  pub body : take (read_header bytes).size (after line_feed bytes) ≡ f.body
  pub rest_is : drop (read_header bytes).size (after line_feed bytes) ≡ rest

read_is : (bytes : List ℕ) (f : Frame) (rest : List ℕ) → read_header bytes ≡ header_of_frame f → after line_feed bytes ≡ f.body ++ rest
    → Reads bytes f rest
read_is bytes f rest e b = record {
  header = e;
  body = rw (e, b) (take_at f.body rest (length f.body) refl);
  rest_is = rw (e, b) (drop_at f.body rest (length f.body) refl);
}

pub reads : (offset : ℕ) (bytes : List ℕ) (f : Frame) (rest : List ℕ) → BeginsFrame offset bytes f rest → Reads bytes f rest
unfolding read_header
reads offset bytes f rest b =
    let w = frame_within f b.fits in
    let line = line_text (header_of_frame f) in
    let text : bytes ≡ line ++ line_feed ∷ (f.body ++ rest) = (begins_with offset bytes f rest b).text in
    let front : before line_feed bytes ≡ line = ap (before line_feed) text ∙ before_at line_feed line (f.body ++ rest)
    (line_without (header_of_frame f) w) in
    let back : after line_feed bytes ≡ f.body ++ rest = ap (after line_feed) text
    ∙ after_at line_feed line (f.body ++ rest) (line_without (header_of_frame f) w) in
    read_is bytes f rest (ap read_line front ∙ header_of_line_one line (header_of_frame f) (is_header (header_of_frame f) w)) back

-- two frames are alike but for their meanings, and so is what comes after them
pub record AreAlike (f g : Frame) (rest others : List ℕ) : Type 0 where
  pub headers : header_of_frame f ≡ header_of_frame g
  pub bodies : f.body ≡ g.body
  pub rests : rest ≡ others

pub begins_alike : (offset : ℕ) (bytes : List ℕ) (f g : Frame) (rest others : List ℕ) → BeginsFrame offset bytes f rest
    → BeginsFrame offset bytes g others → AreAlike f g rest others
begins_alike offset bytes f g rest others a b =
    let p = reads offset bytes f rest a in
    let q = reads offset bytes g others b in
    record { headers = sym p.header ∙ q.header; bodies = sym p.body ∙ q.body; rests = sym p.rest_is ∙ q.rest_is }

same_frame : (f g : Frame) → header_of_frame f ≡ header_of_frame g → f.body ≡ g.body → f.meaning ≡ g.meaning → f ≡ g
same_frame f g h b m =
    ap (λ (x : Header). frame_of x f.body f.meaning) h ∙ ap (λ (x : List ℕ). frame_of (header_of_frame g) x f.meaning) b
    ∙ ap (λ (x : Meaning). frame_of (header_of_frame g) g.body x) m

-- ---- scripts

pub begins_shorter : (offset : ℕ) (bytes : List ℕ) (f : Frame) (rest : List ℕ) → BeginsFrame offset bytes f rest → length rest < length
    bytes
begins_shorter offset bytes f rest b =
    let text = (begins_with offset bytes f rest b).text in
    omega (arith, ap length text, length-append (line_text (header_of_frame f)) (line_feed ∷ (f.body ++ rest)), length-append f.body rest)

nothing_begins : (offset : ℕ) (bytes : List ℕ) (f : Frame) (rest : List ℕ) → bytes ≡ [] → BeginsFrame offset bytes f rest → ⊥
nothing_begins offset bytes f rest e b = let s = begins_shorter offset bytes f rest b in let l : length bytes ≡ 0 = ap length e in
    absurd (omega arith)

module _ (one : OneMeaning) where
  -- bodies have one meaning, so that one frame begins
  begins_one : (offset : ℕ) (bytes : List ℕ) (f g : Frame) (rest others : List ℕ) → BeginsFrame offset bytes f rest → Means f.body f.meaning
      → BeginsFrame offset bytes g others → Means g.body g.meaning → (f ≡ g) × (rest ≡ others)
  begins_one offset bytes f g rest others a m b n =
      let alike = begins_alike offset bytes f g rest others a b in
      let meanings = one f.body f.meaning g.meaning m (subst (λ (x : List ℕ). Means x g.meaning) (sym alike.bodies) n) in
      (same_frame f g alike.headers alike.bodies meanings, alike.rests)

  -- where a frame begins, a script begins with it
  pub script_begins : (offset : ℕ) (bytes : List ℕ) (f : Frame) (rest : List ℕ) → BeginsFrame offset bytes f rest → Means f.body f.meaning
      → (frames : List Frame) (fault : Option ℕ) → IsScriptFrom offset bytes frames fault
      → (others : List Frame) × (frames ≡ f ∷ others) × IsScriptFrom (offset + length (frame_text f)) rest others fault
  script_begins offset bytes f rest b m [] None s = absurd (nothing_begins offset bytes f rest s b)
  script_begins offset bytes f rest b m [] (Some place) s = absurd (s.2 f rest b)
  script_begins offset bytes f rest b m (g ∷ gs) fault s =
      let same = begins_one offset bytes g f s.0 rest s.1 s.2 b m in (
        gs,
        ap (λ (h : Frame). h ∷ gs) same.0,
        subst (λ (h : Frame). IsScriptFrom (offset + length (frame_text h)) rest gs fault) same.0
            (subst (λ (r : List ℕ). IsScriptFrom (offset + length (frame_text g)) r gs fault) same.1 s.3),
      )

  pub script_one : (offset : ℕ) (bytes : List ℕ) (frames others : List Frame) (fault other : Option ℕ)
      → IsScriptFrom offset bytes frames fault → IsScriptFrom offset bytes others other → (frames ≡ others) × (fault ≡ other)
  script_one offset bytes [] [] None None a b = (refl, refl)
  script_one offset bytes [] [] None (Some q) a b = absurd (b.1 a)
  script_one offset bytes [] [] (Some p) None a b = absurd (a.1 b)
  script_one offset bytes [] [] (Some p) (Some q) a b = (refl, ap Some (a.0 ∙ sym b.0))
  script_one offset bytes [] (g ∷ gs) None other a b = absurd (nothing_begins offset bytes g b.0 a b.1)
  script_one offset bytes [] (g ∷ gs) (Some p) other a b = absurd (a.2 g b.0 b.1)
  script_one offset bytes (f ∷ fs) others fault other a b =
      let begun = script_begins offset bytes f a.0 a.1 a.2 others other b in
      let rest = script_one (offset + length (frame_text f)) a.0 fs begun.0 fault other a.3 begun.2 in
      (ap (λ (l : List Frame). f ∷ l) rest.0 ∙ sym begun.1, rest.1)
