-- From the first line of what is pending to the frame that begins there, or to none.
-- Where a frame begins, the line that is there is that of its header (`its_header`, by `text_before`), so it ends where the
-- header says. From this: no frame begins where no line is, where the line is no header, where the frame is too long or cut;
-- a whole one does where its bytes are there (`frame_is_whole`). At the end: what is told of a fault, and which reads are due.
use Rattle.std.proofs.Common.{◌≡◌, ◌≢◌, ℕ, ◌+◌, ◌-◌, ◌<◌, ◌≤◌, List, [], ◌∷◌, ◌++◌, length, length-append, take, drop, replicate, Option, None, Some, IfSome, Err, inl, inr, arith, append-nil, append_assoc, refl, sym, ap, subst, ◌∙◌}
use Rattle.std.proofs.lemmas.List.{drop_all, length-drop, length-replicate, length-take-le, take-append-le}
use Rattle.std.specs.Io.KnownBytes.{IsAtEnd}
use Rattle.std.specs.Prelude.{slice_range}
use Rattle.ifmap_lemmas.specs.Joined.{long_in_front, some_in_front, none_at_end}
use Rattle.std.proofs.lemmas.List.Folds.{drop_split}
use Rattle.ifmap_elem.specs.Chars.{line_feed}
use Rattle.ifmap_input.specs.FirstPlaceLaws.{cut_at_first_place, first_after_text, first_place_is, first_place_stays, text_before}
use Rattle.ifmap_input.specs.Inputs.{TakesFromSource}
use Rattle.ifmap_input.specs.Scripts.{longest_script}
use Rattle.ifmap_requests.specs.declared.errors.Refusal.TheVariants.{Unreadable}
use Rattle.ifmap_server.specs.declared.headers.Header.{Header}
use Rattle.ifmap_server.specs.declared.replaying.TakenFrame.{TakenFrame}
use Rattle.ifmap_server.specs.Frames.{Frame, IsHeader, Meaning, frame_text}
use Rattle.ifmap_server.specs.Awaited.{AwaitsBody, HasNoLine, IsAwaited, IsHeaderLineEnd}
use Rattle.ifmap_server.specs.Script.{BeginsFrame}
use Rattle.ifmap_server.specs.Turns.{BeginsNone, IsFramed, frame_within}
use Rattle.ifmap_server.proofs.HeaderLines.{header_of_line_one, line_of, line_text}
use Rattle.ifmap_server.proofs.Scripts.{BeginsWith, begins_alike, begins_line, frame_length, header_of_frame, line_begins}

-- the bytes that a frame begins are as long as its line, the newline, the body and the rest
newline_within : (line bytes : List ℕ) (f : Frame) (rest : List ℕ) → BeginsWith line bytes f rest
    → length line + 1 + (length f.body + length rest) ≡ length bytes
newline_within line bytes f rest w =
    let e = ap length w.text in
    omega (arith, length-append line (line_feed ∷ (f.body ++ rest)), length-append f.body rest)

-- where no line is, no frame begins
pub no_line_none : (offset : ℕ) (bytes : List ℕ) → HasNoLine bytes → BeginsNone offset bytes
no_line_none offset bytes none f rest b =
    let l = begins_line offset bytes f rest b in
    let at = first_after_text line_feed bytes l.0 (f.body ++ rest) l.1.text l.1.no_newline in
    let s = l.1.short in
    none (length l.0) (omega arith) at.within at.there

-- ---- the line that is there is that of the frame

its_header : (offset : ℕ) (bytes more : List ℕ) (place : ℕ) (f : Frame) (rest : List ℕ) → IsHeaderLineEnd bytes place
    → BeginsFrame offset (bytes ++ more) f rest → IsHeader (take place bytes) (header_of_frame f)
its_header offset bytes more place f rest is b =
    let l = begins_line offset (bytes ++ more) f rest b in
    subst (λ (line : List ℕ). IsHeader line (header_of_frame f))
    (text_before line_feed bytes more l.0 (f.body ++ rest) l.1.text l.1.no_newline place is.first) l.1.header

-- where the line is no header, no frame begins, whatever follows
pub no_header_none : (offset : ℕ) (bytes more : List ℕ) (place : ℕ) → IsHeaderLineEnd bytes place
    → ((h : Header) → IsHeader (take place bytes) h → ⊥) → BeginsNone offset (bytes ++ more)
no_header_none offset bytes more place is none f rest b = none (header_of_frame f) (its_header offset bytes more place f rest is b)

-- a frame that begins with this header ends where the header says
pub ends_there : (offset : ℕ) (bytes more : List ℕ) (place : ℕ) (h : Header) (f : Frame) (rest : List ℕ) → IsHeaderLineEnd bytes place
    → IsHeader (take place bytes) h → BeginsFrame offset (bytes ++ more) f rest
    → (offset + (place + 1 + h.size) ≤ longest_script) × (place + 1 + h.size ≤ length (bytes ++ more))
ends_there offset bytes more place h f rest is header b =
    let l = begins_line offset (bytes ++ more) f rest b in
    let its = its_header offset bytes more place f rest is b in
    let same : h ≡ header_of_frame f = sym (header_of_line_one (take place bytes) h header)
    ∙ header_of_line_one (take place bytes) (header_of_frame f) its in
    let size : h.size ≡ length f.body = ap (λ (x : Header). x.size) same in
    let at = first_place_is line_feed bytes more l.0 (f.body ++ rest) l.1.text l.1.no_newline place is.first in
    let long = l.1.size in
    let ends = b.ends in
    let within = newline_within l.0 (bytes ++ more) f rest l.1 in
    (omega arith, omega arith)

pub too_long_none : (offset : ℕ) (bytes more : List ℕ) (place : ℕ) (h : Header) → IsHeaderLineEnd bytes place → IsHeader (take place bytes)
    h
    → longest_script < offset + (place + 1 + h.size) → BeginsNone offset (bytes ++ more)
too_long_none offset bytes more place h is header long f rest b = let e = ends_there offset bytes more place h f rest is header b in
    omega arith

pub too_short_none : (offset : ℕ) (bytes more : List ℕ) (place : ℕ) (h : Header) → IsHeaderLineEnd bytes place → IsHeader
    (take place bytes) h
    → length (bytes ++ more) < place + 1 + h.size → BeginsNone offset (bytes ++ more)
too_short_none offset bytes more place h is header short f rest b = let e = ends_there offset bytes more place h f rest is header b in
    omega arith

-- ---- more bytes after a line

pub line_more : (bytes more : List ℕ) (place : ℕ) → IsHeaderLineEnd bytes place → IsHeaderLineEnd (bytes ++ more) place
line_more bytes more place is = record { early = is.early; first = first_place_stays line_feed bytes more place is.first }

-- ---- the frame

-- any meaning
abbrev unread : Meaning
unread = Err Unreadable

pub is_framed : (offset : ℕ) (bytes : List ℕ) (place : ℕ) (there : TakenFrame) → IsHeaderLineEnd bytes place
    → IsHeader (take place bytes) there.header
    → there.start ≡ place + 1 → there.end ≡ there.start + there.header.size
    → there.end ≤ length bytes → offset + there.end ≤ longest_script → IsFramed offset bytes there
is_framed offset bytes place there is header start end within ends =
    let h = there.header in
    let body = slice_range bytes there.start there.end in
    let early = is.first.within in
    let long : length (take place bytes) ≡ place = length-take-le place bytes (omega arith) in
    let left = length-drop there.start bytes in
    let size : length body ≡ h.size = length-take-le (there.end - there.start) (drop there.start bytes) (omega arith) ∙ omega arith in
    let text : bytes ≡ take place bytes ++ line_feed ∷ (body ++ drop there.end bytes) =
    (cut_at_first_place line_feed bytes place is.first).0 ∙ ap (λ (b : List ℕ). take place bytes ++ line_feed ∷ b) (ap
    (λ (n : ℕ). drop n bytes) (sym start) ∙ drop_split bytes there.start there.end (omega arith)) in
    let frame : Frame = frame_within there bytes unread in
    let same : header_of_frame frame ≡ h =
    ap (λ (n : ℕ). record { moment = h.moment; client = h.client; random = h.random; size = n }) size in
    let line : length (line_text (header_of_frame frame)) ≡ place =
    ap (λ (x : Header). length (line_text x)) same ∙ ap length (sym (line_of (take place bytes) h header)) ∙ long in
    let whole = frame_length frame in
    let end : there.end ≡ length (frame_text frame) = omega arith in
    record {
      begins = λ meaning.
          line_begins offset bytes (take place bytes) body (drop there.end bytes) h text header size (omega arith) meaning;
      end = λ meaning. end;
      ends = ends;
      size = sym size;
      order = omega arith;
      within = within;
    }

-- ---- what the source has left

pub line_fault : (offset : ℕ) (left : Option (List ℕ)) (pending : List ℕ) → IfSome left
    (λ rest. (pending ≢ []) × HasNoLine (pending ++ rest)) → IfSome left
    (λ rest. (pending ++ rest ≢ []) × BeginsNone offset (pending ++ rest))
line_fault offset None pending h = tt
line_fault offset (Some rest) pending h = (some_in_front pending rest h.0, no_line_none offset (pending ++ rest) h.1)

pub header_fault : (offset : ℕ) (left : Option (List ℕ)) (pending : List ℕ) (place : ℕ) → IsHeaderLineEnd pending place
    → ((h : Header) → IsHeader (take place pending) h → ⊥) → IfSome left
    (λ rest. (pending ++ rest ≢ []) × BeginsNone offset (pending ++ rest))
header_fault offset None pending place is none = tt
header_fault offset (Some rest) pending place is none =
    let within = is.first.within in
    (long_in_front pending rest (omega arith), no_header_none offset pending rest place is none)

pub long_fault : (offset : ℕ) (left : Option (List ℕ)) (pending : List ℕ) (place : ℕ) (h : Header) → IsHeaderLineEnd pending place
    → IsHeader (take place pending) h → longest_script < offset + (place + 1 + h.size) → IfSome left
    (λ rest. (pending ++ rest ≢ []) × BeginsNone offset (pending ++ rest))
long_fault offset None pending place h is header long = tt
long_fault offset (Some rest) pending place h is header long =
    let within = is.first.within in
    (long_in_front pending rest (omega arith), too_long_none offset pending rest place h is header long)

module _ (offset : ℕ) (left_old left : Option (List ℕ)) (mid new : List ℕ) (place : ℕ) (h : Header)
    (took : TakesFromSource left_old left mid new)
    (is : IsHeaderLineEnd mid place) (header : IsHeader (take place mid) h) where
  pub short_none : length new < place + 1 + h.size → BeginsNone offset new
  short_none short =
      subst (BeginsNone offset) (sym took.grown) (too_short_none offset mid took.got place h is header (let e = ap length took.grown in
      omega arith))

  pub cut_fault : (at_end : Option (List ℕ)) → IsAtEnd at_end → length new < place + 1 + h.size → IfSome at_end
      (λ rest. (new ++ rest ≢ []) × BeginsNone offset (new ++ rest))
  cut_fault None end short = tt
  cut_fault (Some rest) end short =
      let within = is.first.within in
      let same : new ++ rest ≡ new = ap (λ (b : List ℕ). new ++ b) end ∙ append-nil new in
      let e = ap length took.grown in
      let m = length-append mid took.got in
      (long_in_front new rest (omega arith), subst (BeginsNone offset) (sym same) (short_none short))

  pub frame_is_whole : place + 1 + h.size ≤ length new → offset + (place + 1 + h.size) ≤ longest_script
      → IsFramed offset new (record { header = h; start = place + 1; end = place + 1 + h.size })
  frame_is_whole within ends =
      let early = is.first.within in
      let line : IsHeaderLineEnd new place = subst (λ (b : List ℕ). IsHeaderLineEnd b place) (sym took.grown)
      (line_more mid took.got place is) in
      let front : take place mid ≡ take place new = sym (take-append-le place mid took.got (omega arith))
      ∙ ap (take place) (sym took.grown) in
      is_framed offset new place (record { header = h; start = place + 1; end = place + 1 + h.size }) line (subst
      (λ (b : List ℕ). IsHeader b h) front header) refl refl within ends

-- ---- a read that is due

-- the body goes on with as many bytes as are missing
module _ (offset : ℕ) (left_old left : Option (List ℕ)) (mid new : List ℕ) (place : ℕ) (h : Header)
    (took : TakesFromSource left_old left mid new)
    (is : IsHeaderLineEnd mid place) (header : IsHeader (take place mid) h) where
  missing : List ℕ
  missing = replicate (place + 1 + h.size - length new) 0

  missing_length : length missing ≡ place + 1 + h.size - length new
  unfolding missing
  missing_length = length-replicate (place + 1 + h.size - length new) 0

  pub short_awaits : length new < place + 1 + h.size → offset + (place + 1 + h.size) ≤ longest_script → AwaitsBody offset new
  short_awaits short ends =
      let m = missing_length in
      let all = length-append new missing in
      let more : TakesFromSource None None mid (new ++ missing) = record {
        got = took.got ++ missing;
        consumed = tt;
        grown = ap (λ (b : List ℕ). b ++ missing) took.grown ∙ append_assoc mid took.got missing;
      } in
      let w = frame_is_whole offset None None mid (new ++ missing) place h more is header (omega arith) ends in
      record {
        frame = frame_within (record { header = h; start = place + 1; end = place + 1 + h.size }) (new ++ missing) unread;
        more = missing;
        some = λ e. let l : length missing ≡ 0 = ap length e in omega arith;
        begins = subst (BeginsFrame offset (new ++ missing) _) (drop_all (place + 1 + h.size) (new ++ missing) (omega arith))
            (w.begins unread);
      }

-- where a read is due, no frame begins yet
pub awaited_none : (offset : ℕ) (bytes : List ℕ) → IsAwaited offset bytes → BeginsNone offset bytes
awaited_none offset bytes (inl line) = no_line_none offset bytes line.none
awaited_none offset bytes (inr body) = λ f rest b.
    let on : BeginsFrame offset (bytes ++ body.more) f (rest ++ body.more) = record {
      fits = b.fits;
      text = ap (λ (x : List ℕ). x ++ body.more) b.text ∙ append_assoc (frame_text f) rest body.more;
      ends = b.ends;
    } in
    let alike = begins_alike offset (bytes ++ body.more) f body.frame (rest ++ body.more) [] on body.begins in
    body.some (none_at_end rest body.more alike.rests)
