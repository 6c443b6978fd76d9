-- A replay so far: the frames that were answered, and what they make of the frames that are left.
-- `framed` and `unframed` go from a script of what is left to one of all bytes, and back: back because bodies have one meaning. So
-- what ends in all bytes read speaks of the frames that were answered (`answers_all`, `answers_taken`, `fault_told`), and what ends
-- before speaks of each output of the bytes (`answers_part`, `part`, `fault_part`).
use Rattle.std.proofs.Common.{◌≡◌, ◌≢◌, ℕ, ◌+◌, List, [], ◌∷◌, ◌++◌, length, drop, None, Some, IfSome, refl, sym, ap, subst, ◌∙◌, append_assoc, append-nil, arith}
use Rattle.std.proofs.lemmas.Option.{IfSome_then}
use Rattle.std.specs.Prelude.{Option}
use Rattle.std.proofs.KnownBytes.{Appends-kept, Appends-nil, Appends-trans, Consumes-nil, Consumes-trans}
use Rattle.std.proofs.Math.Seq.{drop-drop}
use Rattle.std.proofs.lemmas.List.{drop_at}
use Rattle.std.specs.Io.KnownBytes.{Appends, Consumes, IsAtEnd, Keeps}
use Rattle.ifmap_lemmas.specs.Absent.{if_some_any}
use Rattle.ifmap_core.specs.ifmap_machine.State.{State}
use Rattle.ifmap_requests.specs.Laws.{OneMeaning}
use Rattle.ifmap_requests.specs.Means.{Means}
use Rattle.ifmap_server.specs.Awaited.{IsAwaited}
use Rattle.ifmap_server.specs.Frames.{Frame, frame_text}
use Rattle.ifmap_server.specs.Output.{AppendsPrefix, IsOutput, step_frame, answers, answers_from, fault_line}
use Rattle.ifmap_server.specs.Replayed.{AnswersAll, AnswersPart, AnswersTaken, AnswersUpToFault}
use Rattle.ifmap_server.specs.Script.{BeginsFrame, IsScript, IsScriptFrom}
use Rattle.ifmap_server.specs.Ends.{IsLaterMoment, SourceAndSink}
use Rattle.ifmap_server.specs.Turns.{AnswersFrame, BeginsNone, IsFaulty, IsOver, IsUnread, IsUnwritten, Replaying, replay_beginning}
use Rattle.ifmap_server.proofs.Framing.{awaited_none}
use Rattle.ifmap_server.proofs.Scripts.{script_begins, script_one}
use Rattle.ifmap_server.proofs.Pieces.{appends_prefix, keeps_prefix}

-- a script of all bytes is the frames that were answered, and then a script of what is left
abbrev Unframed : List Frame → List ℕ → Replaying → Type 0
Unframed done taken now =
    (more : List ℕ) (frames : List Frame) (fault : Option ℕ) → IsScript (taken ++ more) frames fault
    → (others : List Frame) × (frames ≡ done ++ others) × IsScriptFrom now.offset (now.pending ++ more) others fault

pub record Progress (before mid : SourceAndSink) (now : Replaying) : Type 0 where
  pub one : OneMeaning
  pub done : List Frame
  pub taken : List ℕ
  pub consumed : Consumes before.left mid.left taken
  pub framed : (more : List ℕ) (frames : List Frame) (fault : Option ℕ) → IsScriptFrom now.offset (now.pending ++ more) frames fault
      → IsScript (taken ++ more) (done ++ frames) fault
  pub unframed : Unframed done taken now
  pub place : (more : List ℕ) → drop now.offset (taken ++ more) ≡ now.pending ++ more
  pub told : (frames : List Frame) → answers (done ++ frames) ≡ answers done ++ answers_from now.state frames
  pub wrote : Appends before.held mid.held (answers done)
  pub later : IsLaterMoment before mid

pub begin : OneMeaning → (before : SourceAndSink) (now : Replaying) → now ≡ replay_beginning → Progress before before now
begin one before now is =
    subst (λ (r : Replaying). Progress before before r) (sym is) (record {
      one = one;
      done = [];
      taken = [];
      consumed = Consumes-nil before.left;
      framed = λ more frames fault script. script;
      unframed = λ more frames fault script. (frames, refl, script);
      place = λ more. refl;
      told = λ frames. refl;
      wrote = Appends-nil before.held;
      later = record { read = omega arith; write = omega arith };
    })

later_on : (before mid after : SourceAndSink) → IsLaterMoment before mid → IsLaterMoment mid after → IsLaterMoment before after
later_on before mid after first second =
    let read = first.read in
    let write = first.write in
    let more_read = second.read in
    let more_write = second.write in
    record { read = omega arith; write = omega arith }

-- ---- one more frame

four_joined : (a b c : List ℕ) → a ++ (b ++ c) ≡ a ++ (b ++ []) ++ c
four_joined a b c = ap (λ (x : List ℕ). a ++ x) (ap (λ (x : List ℕ). x ++ c) (sym (append-nil b))) ∙ sym (append_assoc a (b ++ []) c)

grown_text : (pending got more taken text rest : List ℕ) → taken ≡ pending ++ got → taken ≡ text ++ rest
    → pending ++ (got ++ more) ≡ text ++ (rest ++ more)
grown_text pending got more taken text rest grown begins =
    sym (append_assoc pending got more) ∙ ap (λ (x : List ℕ). x ++ more) (sym grown ∙ begins) ∙ append_assoc text rest more

begins_more : (offset : ℕ) (pending got more taken rest : List ℕ) (f : Frame) → taken ≡ pending ++ got → BeginsFrame offset taken f rest
    → BeginsFrame offset (pending ++ (got ++ more)) f (rest ++ more)
begins_more offset pending got more taken rest f grown begins =
    record { fits = begins.fits; text = grown_text pending got more taken (frame_text f) rest grown begins.text; ends = begins.ends }

module _ (before mid after : SourceAndSink) (now : Replaying) (p : Progress before mid now) where
  -- the frames that were answered, and these
  framed_on : (got more : List ℕ) (frames : List Frame) (fault : Option ℕ)
      → IsScriptFrom now.offset (now.pending ++ (got ++ more)) frames fault → IsScript (p.taken ++ got ++ more) (p.done ++ frames) fault
  framed_on got more frames fault script =
      subst (λ (bytes : List ℕ). IsScript bytes (p.done ++ frames) fault) (sym (append_assoc p.taken got more))
      (p.framed (got ++ more) frames fault script)

  -- a script of all bytes, and what more was taken, is the frames that were answered and then one of what is left
  unframed_on : (got more : List ℕ) (frames : List Frame) (fault : Option ℕ) → IsScript (p.taken ++ got ++ more) frames fault
      → (others : List Frame) × (frames ≡ p.done ++ others) × IsScriptFrom now.offset (now.pending ++ (got ++ more)) others fault
  unframed_on got more frames fault script =
      p.unframed (got ++ more) frames fault
      (subst (λ (bytes : List ℕ). IsScript bytes frames fault) (append_assoc p.taken got more) script)

  -- and where a frame begins with what was taken, it is the next of them
  unframed_one : (f : Frame) (got more taken rest : List ℕ) → taken ≡ now.pending ++ got → BeginsFrame now.offset taken f rest
      → Means f.body f.meaning → (frames : List Frame) (fault : Option ℕ) → IsScript (p.taken ++ got ++ more) frames fault
      → (others : List Frame) × (frames ≡ p.done ++ f ∷ others)
      × IsScriptFrom (now.offset + length (frame_text f)) (rest ++ more) others fault
  unframed_one f got more taken rest grown begins means frames fault script =
      let left = unframed_on got more frames fault script in
      let next = script_begins p.one now.offset (now.pending ++ (got ++ more)) f (rest ++ more)
      (begins_more now.offset now.pending got more taken rest f grown begins) means left.0 fault left.2 in
      (next.0, left.1 ∙ ap (λ (fs : List Frame). p.done ++ fs) next.1, next.2)

  told_one : (f : Frame) → answers (p.done ++ f ∷ []) ≡ answers p.done ++ ((step_frame now.state f).1 ++ [])
  told_one f = p.told (f ∷ [])

  placed_on : (new : Replaying) (a : AnswersFrame mid after now new) (more : List ℕ)
      → drop new.offset (p.taken ++ a.takes.got ++ more) ≡ new.pending ++ more
  placed_on new a more =
      let text = frame_text a.frame in
      let got = a.takes.got in
      ap (λ (o : ℕ). drop o (p.taken ++ got ++ more)) a.offset
      ∙ sym (drop-drop (length text) now.offset (p.taken ++ got ++ more))
      ∙ ap (λ (x : List ℕ). drop (length text) (drop now.offset x)) (append_assoc p.taken got more)
      ∙ ap (drop (length text)) (p.place (got ++ more) ∙ grown_text now.pending got more a.taken text new.pending a.takes.grown
      a.begins.text)
      ∙ drop_at text (new.pending ++ more) (length text) refl

  pub reaches_next : (new : Replaying) → AnswersFrame mid after now new → IsLaterMoment mid after → Progress before after new
  reaches_next new a later =
      let f = a.frame in
      let got = a.takes.got in
      record {
        one = p.one;
        done = p.done ++ f ∷ [];
        taken = p.taken ++ got;
        consumed = Consumes-trans before.left mid.left after.left p.taken got p.consumed a.takes.consumed;
        framed = λ more frames fault script.
            subst (λ (fs : List Frame). IsScript (p.taken ++ got ++ more) fs fault) (sym (append_assoc p.done (f ∷ []) frames))
            (framed_on got more (f ∷ frames) fault (
              new.pending ++ more,
              begins_more now.offset now.pending got more a.taken new.pending f a.takes.grown a.begins,
              a.means,
              subst (λ (o : ℕ). IsScriptFrom o (new.pending ++ more) frames fault) a.offset script,
            ));
        unframed = λ more frames fault script.
            let left = unframed_one f got more a.taken new.pending a.takes.grown a.begins a.means frames fault script in (
              left.0,
              left.1 ∙ sym (append_assoc p.done (f ∷ []) left.0),
              subst (λ (o : ℕ). IsScriptFrom o (new.pending ++ more) left.0 fault) (sym a.offset) left.2,
            );
        place = λ more. placed_on new a more;
        told = λ frames.
            ap answers (append_assoc p.done (f ∷ []) frames) ∙ p.told (f ∷ frames)
            ∙ four_joined (answers p.done) (step_frame now.state f).1 (answers_from (step_frame now.state f).0 frames)
            ∙ ap (λ (x : List ℕ). x ++ answers_from (step_frame now.state f).0 frames) (sym (told_one f))
            ∙ ap (λ (s : State). answers (p.done ++ f ∷ []) ++ answers_from s frames) (sym a.state);
        wrote = subst (Appends before.held after.held) (ap (λ (x : List ℕ). answers p.done ++ x)
            (sym (append-nil (step_frame now.state f).1)) ∙ sym (told_one f))
            (Appends-trans before.held mid.held after.held (answers p.done) (step_frame now.state f).1 p.wrote a.wrote);
        later = later_on before mid after p.later later;
      }

-- ---- what the source had left in all

-- at its end it had what was taken
all_taken : (left_old left : Option (List ℕ)) (taken : List ℕ) → Consumes left_old left taken → IsAtEnd left → IfSome left_old
    (λ bytes. taken ≡ bytes)
all_taken None left taken consumed end = tt
all_taken (Some bytes) None taken consumed end = absurd consumed
all_taken (Some bytes) (Some rest) taken consumed end = sym (consumed ∙ ap (λ (x : List ℕ). taken ++ x) end ∙ append-nil taken)

-- before its end it had what was taken and what is left
taken_and_rest : (left_old left : Option (List ℕ)) (taken : List ℕ) (P : List ℕ → Type 0) → Consumes left_old left taken → IfSome left
    (λ rest. P (taken ++ rest)) → IfSome left_old P
taken_and_rest None left taken P consumed h = tt
taken_and_rest (Some bytes) None taken P consumed h = absurd consumed
taken_and_rest (Some bytes) (Some rest) taken P consumed h = subst P (sym consumed) h

-- ---- how a replay ends

-- a prefix was written of each output of these bytes
abbrev IsPart : (before after : SourceAndSink) → List ℕ → Type 0
IsPart before after bytes = (text : List ℕ) → IsOutput bytes text → AppendsPrefix before.held after.held text

-- a read is due here, so the script ends here, or goes on with what is awaited
script_here : (offset : ℕ) (whole bytes : List ℕ) → drop offset whole ≡ bytes → IsAwaited offset bytes
    → (fault : Option ℕ) × IsScriptFrom offset bytes [] fault × IfSome fault (λ place. IsAwaited place (drop place whole))
script_here offset whole [] here awaited = (None, refl, tt)
script_here offset whole (x ∷ bytes) here awaited =
    (Some offset, (refl, (λ e. cc), awaited_none offset (x ∷ bytes) awaited), subst (IsAwaited offset) (sym here) awaited)

module _ (before mid after : SourceAndSink) (now : Replaying) (p : Progress before mid now) where
  wrote_kept : Keeps mid.held after.held → Appends before.held after.held (answers p.done)
  wrote_kept kept = Appends-kept before.held mid.held after.held (answers p.done) p.wrote kept

  same_done : answers (p.done ++ []) ≡ answers p.done
  same_done = ap answers (append-nil p.done)

  took_more : (got : List ℕ) → Consumes mid.left after.left got → Consumes before.left after.left (p.taken ++ got)
  took_more got consumed = Consumes-trans before.left mid.left after.left p.taken got p.consumed consumed

  pub answers_all : IsOver mid after now → AnswersAll before after
  answers_all o =
      let got = o.takes.got in
      let taken = p.taken ++ got in
      let consumed = took_more got o.takes.consumed in
      let script : IsScript taken (p.done ++ []) None = p.framed got [] None (sym o.takes.grown) in (
        taken,
        consumed,
        all_taken before.left after.left taken consumed o.end,
        o.end,
        (p.done ++ [], script, subst (Appends before.held after.held) (sym same_done) (wrote_kept o.kept)),
      )

  pub answers_taken : IsUnread mid after now → AnswersTaken before after
  answers_taken u =
      let got = u.takes.got in
      let here = script_here now.offset (p.taken ++ got) u.taken (p.place got ∙ sym u.takes.grown) u.awaited in
      let script = p.framed got [] here.0 (subst (λ (bytes : List ℕ). IsScriptFrom now.offset bytes [] here.0) u.takes.grown here.1) in (
        p.taken ++ got,
        took_more got u.takes.consumed,
        (p.done ++ [], here.0, script, here.2, subst (Appends before.held after.held) (sym same_done) (wrote_kept u.kept)),
      )

  -- what is written from here on
  rest_text : (frames : List Frame) (fault : Option ℕ) → answers (p.done ++ frames) ++ fault_line fault
      ≡ answers p.done ++ (answers_from now.state frames ++ fault_line fault)
  rest_text frames fault = ap (λ (x : List ℕ). x ++ fault_line fault) (p.told frames)
      ∙ append_assoc (answers p.done) (answers_from now.state frames) (fault_line fault)

  pub answers_part : IsUnwritten mid after now → AnswersPart before after
  answers_part u =
      let got = u.takes.got in
      let f = u.frame in
      let b = (step_frame now.state f).1 in
      taken_and_rest before.left after.left (p.taken ++ got) (λ bytes. IsPart before after bytes) (took_more got u.takes.consumed)
      (if_some_any after.left _ (λ more text output.
      let left = unframed_one before mid after now p f got more u.taken u.rest u.takes.grown u.begins u.means output.0 output.1
      output.2 in
      let fault = output.1 in
      let c = answers_from (step_frame now.state f).0 left.0 ++ fault_line fault in
      let is : text ≡ answers p.done ++ (b ++ c) =
      output.3 ∙ ap (λ (fs : List Frame). answers fs ++ fault_line fault) left.1 ∙ rest_text (f ∷ left.0) fault
      ∙ ap (λ (x : List ℕ). answers p.done ++ x) (append_assoc b (answers_from (step_frame now.state f).0 left.0) (fault_line fault))
      in
      appends_prefix before.held mid.held after.held (answers p.done) b c text is p.wrote u.wrote))

  -- at want of memory, or the line of a fault was not written
  pub part : Keeps mid.held after.held → AnswersPart before after
  part kept =
      taken_and_rest before.left mid.left p.taken (λ bytes. IsPart before after bytes) p.consumed
      (if_some_any mid.left _ (λ more text output.
      let left = p.unframed more output.0 output.1 output.2 in
      let fault = output.1 in
      let c = answers_from now.state left.0 ++ fault_line fault in
      let is : text ≡ answers p.done ++ c =
      output.3 ∙ ap (λ (fs : List Frame). answers fs ++ fault_line fault) left.1 ∙ rest_text left.0 fault in
      appends_prefix before.held mid.held after.held (answers p.done) [] c text is p.wrote
      (keeps_prefix mid.held after.held [] kept)))

  -- ---- a fault

  faulty_script : (f : IsFaulty mid after now) (rest : List ℕ) → (f.taken ++ rest ≢ []) × BeginsNone now.offset (f.taken ++ rest)
      → IsScript (p.taken ++ f.takes.got ++ rest) (p.done ++ []) (Some now.offset)
  faulty_script f rest h =
      let same : f.taken ++ rest ≡ now.pending ++ (f.takes.got ++ rest) =
      ap (λ (x : List ℕ). x ++ rest) f.takes.grown ∙ append_assoc now.pending f.takes.got rest in
      framed_on before mid after now p f.takes.got rest [] (Some now.offset)
      (subst (λ (bytes : List ℕ). IsScriptFrom now.offset bytes [] (Some now.offset)) same (refl, h.0, h.1))

  pub fault_told : (last : SourceAndSink) → IsFaulty mid after now → Appends after.held last.held (fault_line (Some now.offset))
      → AnswersUpToFault before last
  fault_told last f told =
      taken_and_rest before.left after.left (p.taken ++ f.takes.got)
      (λ bytes. (frames : List Frame) × (place : ℕ) × IsScript bytes frames (Some place)
      × Appends before.held last.held (answers frames ++ fault_line (Some place)))
      (took_more f.takes.got f.takes.consumed)
      (IfSome_then after.left f.fault (λ rest h. (
        p.done ++ [],
        now.offset,
        faulty_script f rest h,
        subst (λ (x : List ℕ). Appends before.held last.held (x ++ fault_line (Some now.offset))) (sym same_done)
            (Appends-trans before.held after.held last.held (answers p.done) (fault_line (Some now.offset)) (wrote_kept f.kept) told),
      )))

  pub fault_part : (last : SourceAndSink) → IsFaulty mid after now → AppendsPrefix after.held last.held (fault_line (Some now.offset))
      → AnswersPart before last
  fault_part last f told =
      taken_and_rest before.left after.left (p.taken ++ f.takes.got) (λ bytes. IsPart before last bytes)
      (took_more f.takes.got f.takes.consumed)
      (IfSome_then after.left f.fault (λ rest h text output.
      let line = fault_line (Some now.offset) in
      let bytes = p.taken ++ f.takes.got ++ rest in
      let same = script_one p.one 0 bytes output.0 (p.done ++ []) output.1 (Some now.offset) output.2 (faulty_script f rest h) in
      let is : text ≡ answers (p.done ++ []) ++ line =
      output.3 ∙ ap (λ (fs : List Frame). answers fs ++ fault_line output.1) same.0
      ∙ ap (λ (o : Option ℕ). answers (p.done ++ []) ++ fault_line o) same.1 in
      appends_prefix before.held after.held last.held (answers p.done) line [] text
      (is ∙ ap (λ (x : List ℕ). x ++ line) same_done ∙ ap (λ (x : List ℕ). answers p.done ++ x) (sym (append-nil line)))
      (wrote_kept f.kept) told))
