-- What is pending while a line is awaited.
-- Plan: (1) looking at what is pending finds a line, none yet, or one that is too long; (2) taking leaves the rest, and two
-- fetches one after the other are one; (3) one read appends what it gave, or tells the end; (4) reads until a line is
-- there: the room for a line shrinks with each (`room_shrinks`), so they end; (5) a line, by what was looked at last,
-- and no fault is told where none stands.
use Rattle.std.proofs.Common.{◌≡◌, ◌≢◌, ◌⊎◌, inl, inr, refl, ap, ◌∙◌, sym, subst, ℕ, ◌+◌, ◌-◌, ◌<◌, ◌≤◌, Bool, true, false, List, [], ◌∷◌, ◌++◌, length, append_assoc, append-nil, arith}
use Rattle.std.specs.Prelude.{Option, Some, None, Result, Ok, Err, if◌then◌else◌}
use Rattle.std.specs.Io.KnownBytes.{IsAtEnd}
use Rattle.std.proofs.KnownBytes.{Consumes-nil, Consumes-trans}
use Rattle.ifmap_lemmas.specs.Branches.{not_both_ways}
use Rattle.ifmap_input.specs.InputLaws.{takes_none}
use Rattle.ifmap_input.specs.Inputs.{TakesFromSource}
use Rattle.ifmap_client.specs.Lines.{line_limit}
use Rattle.ifmap_client_script.specs.declared.outcomes.ScriptFailure.{ScriptFailure}
use Rattle.ifmap_client_script.specs.declared.outcomes.ScriptFailure.TheVariants as failure
use Rattle.ifmap_client_script.specs.TakenBytes.{WaitsForLine, Fetches, Fills, Gathers, IsClosed, IsGathered, IsLineTooLong, NeedsMore, LooksForLine, TakenBytes, with_bytes, with_last_newline}
use Rattle.ifmap_client_script.specs.Scripts.{AwaitsLine, HasNoNewline}

-- ---- looking

below : (bytes : List ℕ) → bytes ≢ [] → length bytes - 1 < length bytes
below [] some = absurd (some refl)
below (b ∷ bytes) some = omega arith

pub too_long : (offset : ℕ) (pending : TakenBytes) → IsGathered offset pending → IsClosed pending → pending.bytes ≢ []
    → HasNoNewline pending.bytes → IsLineTooLong offset pending.bytes
too_long offset pending (inl ended) shut some plain =
    absurd (plain (length pending.bytes - 1) (below pending.bytes some) (shut ended some))
too_long offset pending (inr over) shut some plain = record {
  some = some;
  size = length pending.bytes;
  size_is = inr (refl, plain);
  long = λ within. over (record { plain = plain; within = λ s. within });
}

-- ---- taking

same_bytes : (pending : TakenBytes) → pending ≡ with_bytes pending []
same_bytes pending = ap (λ (b : List ℕ). record { bytes = b; ended = pending.ended }) (sym (append-nil pending.bytes))

pub fetches_nothing : (left : Option (List ℕ)) (pending : TakenBytes) → Fetches left left pending pending
fetches_nothing left pending = record {
  got = [];
  consumed = Consumes-nil left;
  idle = λ ended. (refl, refl);
  grown = inl (same_bytes pending);
}

module _ (left_old left_mid left_new : Option (List ℕ)) (old mid new : TakenBytes) (first : Fetches left_old left_mid old mid)
    (open_yet : mid.ended ≡ false) where
  open_before : old.ended ≡ false
  open_before = at first.grown
    where
      at : ((mid ≡ with_bytes old first.got)
          ⊎ ((mid ≡ record { bytes = with_last_newline (old.bytes ++ first.got); ended = true }) × (old.ended ≡ false) × IsAtEnd left_mid
          × HasNoNewline (old.bytes ++ first.got)))
          → old.ended ≡ false
      at (inl e) = sym (ap (λ (p : TakenBytes). p.ended) e) ∙ open_yet
      at (inr e) = e.1

  grown_first : mid ≡ with_bytes old first.got
  grown_first = at first.grown
    where
      at : ((mid ≡ with_bytes old first.got)
          ⊎ ((mid ≡ record { bytes = with_last_newline (old.bytes ++ first.got); ended = true }) × (old.ended ≡ false) × IsAtEnd left_mid
          × HasNoNewline (old.bytes ++ first.got)))
          → mid ≡ with_bytes old first.got
      at (inl e) = e
      at (inr e) = not_both_ways mid.ended (ap (λ (p : TakenBytes). p.ended) e.0) open_yet

  joined : (got : List ℕ) → mid.bytes ++ got ≡ old.bytes ++ (first.got ++ got)
  joined got =
      ap (λ (p : TakenBytes). p.bytes ++ got) grown_first ∙ append_assoc old.bytes first.got got

  pub fetches_more : Fetches left_mid left_new mid new → Fetches left_old left_new old new
  fetches_more second = record {
    got = first.got ++ second.got;
    consumed = Consumes-trans left_old left_mid left_new first.got second.got first.consumed second.consumed;
    idle = λ ended. not_both_ways old.ended ended open_before;
    grown = at second.grown;
  }
    where
      at : ((new ≡ with_bytes mid second.got)
          ⊎ ((new ≡ record { bytes = with_last_newline (mid.bytes ++ second.got); ended = true }) × (mid.ended ≡ false) × IsAtEnd left_new
          × HasNoNewline (mid.bytes ++ second.got)))
          → ((new ≡ with_bytes old (first.got ++ second.got))
          ⊎ ((new ≡ record { bytes = with_last_newline (old.bytes ++ (first.got ++ second.got)); ended = true }) × (old.ended ≡ false)
          × IsAtEnd left_new × HasNoNewline (old.bytes ++ (first.got ++ second.got))))
      at (inl e) =
          inl (e ∙ ap (λ (b : List ℕ). record { bytes = b; ended = mid.ended }) (joined second.got)
          ∙ ap (λ (t : Bool). record { bytes = old.bytes ++ (first.got ++ second.got); ended = t }) (open_yet ∙ sym open_before))
      at (inr e) =
          inr (
            e.0 ∙ ap (λ (b : List ℕ). record { bytes = with_last_newline b; ended = true }) (joined second.got),
            open_before,
            e.2,
            subst HasNoNewline (joined second.got) e.3,
          )

-- ---- one read

module _ (left_old left_new : Option (List ℕ)) (old new : TakenBytes) (bytes : List ℕ) (open_yet : old.ended ≡ false)
    (takes : TakesFromSource left_old left_new old.bytes bytes) where
  pub fills_end : HasNoNewline old.bytes → bytes ≡ old.bytes → IsAtEnd left_new
      → new ≡ record { bytes = with_last_newline bytes; ended = true } → Fills left_old left_new old new (Ok tt)
  fills_end plain same end is = (
    record {
      got = [];
      consumed = takes_none left_old left_new old.bytes bytes takes same;
      idle = λ ended. not_both_ways old.ended ended open_yet;
      grown = inr (
        is ∙ ap (λ (b : List ℕ). record { bytes = with_last_newline b; ended = true }) (same ∙ sym (append-nil old.bytes)),
        open_yet,
        end,
        subst HasNoNewline (sym (append-nil old.bytes)) plain,
      );
    },
    inl (ap (λ (p : TakenBytes). p.ended) is),
  )

  pub fills_more : length old.bytes < length bytes → new ≡ record { bytes = bytes; ended = old.ended }
      → Fills left_old left_new old new (Ok tt)
  fills_more longer is = (
    record {
      got = takes.got;
      consumed = takes.consumed;
      idle = λ ended. not_both_ways old.ended ended open_yet;
      grown = inl (is ∙ ap (λ (b : List ℕ). record { bytes = b; ended = old.ended }) takes.grown);
    },
    inr (subst (λ (p : TakenBytes). length old.bytes < length p.bytes) (sym is) longer),
  )

  pub fills_fault : bytes ≡ old.bytes → new ≡ record { bytes = bytes; ended = old.ended }
      → Fills left_old left_new old new (Err failure.ReadFault)
  fills_fault same is = (
    takes_none left_old left_new old.bytes bytes takes same,
    is ∙ ap (λ (b : List ℕ). record { bytes = b; ended = old.ended }) same,
  )

-- ---- taking until a line is there

-- how much more may be taken
abbrev pub room_for : TakenBytes → ℕ
room_for pending = if pending.ended then 0 else (line_limit + 2 - length pending.bytes)

due_short : (offset : ℕ) (bytes : List ℕ) → AwaitsLine offset bytes → length bytes ≤ line_limit
due_short offset [] due = omega arith
due_short offset (b ∷ bytes) due = (due.within (λ e. cc)).short

pub room_shrinks : (left_old left_new : Option (List ℕ)) (offset : ℕ) (old new : TakenBytes) → NeedsMore offset old
    → Fills left_old left_new old new (Ok tt) → room_for new < room_for old
room_shrinks left_old left_new offset old new waiting fills = rw waiting.open_yet (at fills.1)
  where
    short : length old.bytes ≤ line_limit
    short = due_short offset old.bytes waiting.due

    at : ((new.ended ≡ true) ⊎ (length old.bytes < length new.bytes)) → room_for new < line_limit + 2 - length old.bytes
    at (inl ended) = rw ended (let s = short in omega arith)
    at (inr longer) = by new.ended longer
      where
        by : (ended : Bool) → length old.bytes < length new.bytes
            → (if ended then 0 else (line_limit + 2 - length new.bytes)) < line_limit + 2 - length old.bytes
        by true longer = let s = short in omega arith
        by false longer = let s = short in omega arith

module _ (left_old left_mid left_new : Option (List ℕ)) (offset : ℕ) (old mid new : TakenBytes) (first : Fetches left_old left_mid old mid)
    (waiting : NeedsMore offset mid) where
  pub gathers_more : Fills left_mid left_new mid new (Ok tt) → Fetches left_old left_new old new
  gathers_more fills = fetches_more left_old left_mid left_new old mid new first waiting.open_yet fills.0

  pub gathers_err : (e : ScriptFailure) → Fills left_mid left_new mid new (Err e) → Gathers left_old left_new offset old new (Err e)
  gathers_err failure.ReadFault fills = (
    fetches_more left_old left_mid left_new old mid new first waiting.open_yet (record {
      got = [];
      consumed = fills.0;
      idle = λ ended. not_both_ways mid.ended ended waiting.open_yet;
      grown = inl (fills.1 ∙ same_bytes mid);
    }),
    subst (λ (p : TakenBytes). AwaitsLine offset p.bytes) (sym fills.1) waiting.due,
  )
  gathers_err failure.NoMemory fills = record {
    got = first.got ++ fills.0;
    consumed = Consumes-trans left_old left_mid left_new first.got fills.0 first.consumed fills.1;
    idle = λ ended. not_both_ways old.ended ended (open_before left_old left_mid left_new old mid new first waiting.open_yet);
  }
  gathers_err failure.BadLine fills = absurd fills
  gathers_err failure.WriteFault fills = absurd fills
  gathers_err failure.LinkFault fills = absurd fills
  gathers_err failure.LinkEnded fills = absurd fills
  gathers_err failure.BadReply fills = absurd fills

-- ---- a line

pub awaits_err : (left_old left_new : Option (List ℕ)) (offset : ℕ) (old new : TakenBytes) (e : ScriptFailure)
    → Gathers left_old left_new offset old new (Err e) → WaitsForLine left_old left_new offset old new (Err e)
awaits_err left_old left_new offset old new failure.ReadFault g = g
awaits_err left_old left_new offset old new failure.NoMemory g = g
awaits_err left_old left_new offset old new failure.BadLine g = absurd g
awaits_err left_old left_new offset old new failure.WriteFault g = absurd g
awaits_err left_old left_new offset old new failure.LinkFault g = absurd g
awaits_err left_old left_new offset old new failure.LinkEnded g = absurd g
awaits_err left_old left_new offset old new failure.BadReply g = absurd g

pub waits_for_line : (left_old left_new : Option (List ℕ)) (offset : ℕ) (old new : TakenBytes) (r : Result (Option ℕ) ScriptFailure)
    → Fetches left_old left_new old new → LooksForLine offset new r → WaitsForLine left_old left_new offset old new r
waits_for_line left_old left_new offset old new (Ok (Some place)) f l = (f, l.0, l.1)
waits_for_line left_old left_new offset old new (Ok None) f l = (f, l)
waits_for_line left_old left_new offset old new (Err failure.BadLine) f l = (f, l)
waits_for_line left_old left_new offset old new (Err failure.ReadFault) f l = absurd l
waits_for_line left_old left_new offset old new (Err failure.NoMemory) f l = absurd l
waits_for_line left_old left_new offset old new (Err failure.WriteFault) f l = absurd l
waits_for_line left_old left_new offset old new (Err failure.LinkFault) f l = absurd l
waits_for_line left_old left_new offset old new (Err failure.LinkEnded) f l = absurd l
waits_for_line left_old left_new offset old new (Err failure.BadReply) f l = absurd l

abbrev IsFault : Result (Option ℕ) ScriptFailure → Type 0
IsFault r = r ≡ Err failure.ReadFault

pub looks_no_fault : {P : Type 0} (offset : ℕ) (pending : TakenBytes) (r : Result (Option ℕ) ScriptFailure) → LooksForLine offset pending r
    → IsFault r → P
looks_no_fault offset pending (Ok found) l e = cc
looks_no_fault offset pending (Err failure.ReadFault) l e = absurd l
looks_no_fault offset pending (Err failure.BadLine) l e = cc
looks_no_fault offset pending (Err failure.NoMemory) l e = cc
looks_no_fault offset pending (Err failure.WriteFault) l e = cc
looks_no_fault offset pending (Err failure.LinkFault) l e = cc
looks_no_fault offset pending (Err failure.LinkEnded) l e = cc
looks_no_fault offset pending (Err failure.BadReply) l e = cc
