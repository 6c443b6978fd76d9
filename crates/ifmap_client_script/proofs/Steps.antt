-- What was taken of a script, and what was done for it, from the beginning on.
-- 1. `Fetched`: what is pending is what the deeds left of a script that was taken.
-- 2. More is taken (`fetch_more`), the last line with its newline (`fetch_last`): `fetch` is both.
-- 3. A line that is carried out is one deed more (`pass`).
-- 4. What was done for one line after the others: exchanges (`exchanged_then`), whole lines
--    (`did_then`), and a line that is cut off or breaks (`cut_then`).
-- 5. So is a request that was posted last (`posted_then`).
use Rattle.std.proofs.Common.{◌≡◌, ◌⊎◌, inl, inr, refl, ap, ◌∙◌, sym, subst, ℕ, ◌+◌, Bool, true, false, List, [], ◌∷◌, ◌++◌, length, take, append_assoc, append-nil, length-append, arith}
use Rattle.std.specs.Prelude.{Option}
use Rattle.std.specs.Io.KnownBytes.{Appends, Consumes, IsAtEnd}
use Rattle.std.proofs.KnownBytes.{Appends-trans, Consumes-trans}
use Rattle.ifmap_elem.specs.Chars.{line_feed}
use Rattle.ifmap_client.specs.Lines.{IsLine}
use Rattle.ifmap_client.specs.declared.lines.Line.{Line}
use Rattle.ifmap_requests.specs.declared.requests.Request.{Request}
use Rattle.ifmap_client_script.specs.declared.exchanges.Caller.{Caller}
use Rattle.ifmap_client_script.specs.Deeds.{Exchange, Deed, IsDeedFor, Known, after_deed, after_deeds, is_poll, nothing_known}
use Rattle.ifmap_client_script.specs.Ends.{Ports}
use Rattle.ifmap_client_script.specs.Exchanges.{HasPostedAndHeard, first_asks, second_asks}
use Rattle.ifmap_client_script.specs.TakenBytes.{Fetches, TakenBytes, with_bytes, with_last_newline}
use Rattle.ifmap_client_script.specs.Printing.{deed_text, deeds_text}
use Rattle.ifmap_client_script.specs.Promises.{BreaksExchange, Cutting, Did, HaveExchanged, PostsUnanswered, Wrote}
use Rattle.ifmap_client_script.specs.Scripts.{BeginsLine, Carries, HasNoNewline, IsTakenScript}
use Rattle.ifmap_client_script.proofs.Progress.{breaks_then, carries_more, carries_then, exchanges_then, first_asks-append, second_asks-append, written_snoc}

-- what was taken is this script so far: all of it once the source has told its end
abbrev pub Scripted : Bool → Option (List ℕ) → List ℕ → List ℕ → Type 0
Scripted false left taken script = script ≡ taken
Scripted true left taken script = IsTakenScript left taken script × IsAtEnd left

pub script_of : (ended : Bool) (left : Option (List ℕ)) (taken script : List ℕ) → Scripted ended left taken script
    → IsTakenScript left taken script
script_of false left taken script s = inl s
script_of true left taken script s = s.0

-- also where nothing was taken since
pub script_still : (ended : Bool) (left new : Option (List ℕ)) (taken script : List ℕ) → Scripted ended left taken script
    → (ended ≡ true → new ≡ left) → IsTakenScript new taken script
script_still false left new taken script s still = inl s
script_still true left new taken script s still = subst (λ (l : Option (List ℕ)). IsTakenScript l taken script) (sym (still refl)) s.0

-- what is pending is what these deeds left of a script that was taken
pub record Fetched (start left : Option (List ℕ)) (offset : ℕ) (deeds : List Deed) (pending : TakenBytes) : Type 0 where
  pub taken : List ℕ
  pub script : List ℕ
  pub consumed : Consumes start left taken
  pub script_is : Scripted pending.ended left taken script
  pub carried : Carries 0 nothing_known script deeds pending.bytes
  pub offset_is : offset + length pending.bytes ≡ length script

-- ---- taking more

-- the bytes end with those that the deeds left
carries_front : (offset : ℕ) (known : Known) (bytes : List ℕ) (deeds : List Deed) (rest : List ℕ)
    → Carries offset known bytes deeds rest
    → (front : List ℕ) × (bytes ≡ front ++ rest)
carries_front offset known bytes [] rest c = ([], c)
carries_front offset known bytes (d ∷ deeds) rest c =
    let p = carries_front (offset + length c.0 + 1) (after_deed d known) c.1 deeds rest c.6 in (
      c.0 ++ line_feed ∷ p.0,
      c.3.bytes_are ∙ ap (λ (l : List ℕ). c.0 ++ line_feed ∷ l) p.1 ∙ sym (append_assoc c.0 (line_feed ∷ p.0) rest),
    )

more_length : (offset : ℕ) (bytes script got : List ℕ) → offset + length bytes ≡ length script
    → offset + length (bytes ++ got) ≡ length (script ++ got)
more_length offset bytes script got e =
    let a = length-append bytes got in
    let b = length-append script got in
    omega arith

scripted_more : (ended : Bool) (left new : Option (List ℕ)) (taken script got : List ℕ) → Scripted ended left taken script
    → (ended ≡ true → (got ≡ []) × (new ≡ left)) → Scripted ended new (taken ++ got) (script ++ got)
scripted_more false left new taken script got s idle = ap (λ (l : List ℕ). l ++ got) s
scripted_more true left new taken script got s idle =
    let i = idle refl in
    subst (λ (l : Option (List ℕ)). Scripted true l (taken ++ got) (script ++ got)) (sym i.1)
    (subst (λ (g : List ℕ). Scripted true left (taken ++ g) (script ++ g)) (sym i.0)
    (subst (λ (t : List ℕ). Scripted true left t (script ++ [])) (sym (append-nil taken))
    (subst (λ (t : List ℕ). Scripted true left taken t) (sym (append-nil script)) s)))

module _ (start left new : Option (List ℕ)) (offset : ℕ) (deeds : List Deed) (old : TakenBytes) (f : Fetched start left offset deeds old)
    (got : List ℕ) (consumed : Consumes left new got) where
  fetch_more : (old.ended ≡ true → (got ≡ []) × (new ≡ left)) → Fetched start new offset deeds (with_bytes old got)
  fetch_more idle = record {
    taken = f.taken ++ got;
    script = f.script ++ got;
    consumed = Consumes-trans start left new f.taken got f.consumed consumed;
    script_is = scripted_more old.ended left new f.taken f.script got f.script_is idle;
    carried = carries_more 0 nothing_known f.script deeds old.bytes got f.carried;
    offset_is = more_length offset old.bytes f.script got f.offset_is;
  }

  same_script : old.ended ≡ false → f.script ≡ f.taken
  same_script open_yet = subst (λ (b : Bool). Scripted b left f.taken f.script) open_yet f.script_is

  -- a last line gets its newline
  fetch_last : (all : List ℕ) → old.bytes ++ got ≡ all → old.ended ≡ false → IsAtEnd new → HasNoNewline all
      → Fetched start new offset deeds (record { bytes = with_last_newline all; ended = true })
  fetch_last [] is open_yet end plain = record {
    taken = f.taken ++ got;
    script = f.script ++ got;
    consumed = Consumes-trans start left new f.taken got f.consumed consumed;
    script_is = (inl (ap (λ (l : List ℕ). l ++ got) (same_script open_yet)), end);
    carried = subst (λ (l : List ℕ). Carries 0 nothing_known (f.script ++ got) deeds l) is
        (carries_more 0 nothing_known f.script deeds old.bytes got f.carried);
    offset_is = ap (λ (l : List ℕ). offset + length l) (sym is) ∙ more_length offset old.bytes f.script got f.offset_is;
  }
  fetch_last (b ∷ rest) is open_yet end plain =
      let front = carries_front 0 nothing_known f.script deeds old.bytes f.carried in
      record {
        taken = f.taken ++ got;
        script = (f.script ++ got) ++ line_feed ∷ [];
        consumed = Consumes-trans start left new f.taken got f.consumed consumed;
        script_is = (
          inr (
            end,
            ap (λ (l : List ℕ). (l ++ got) ++ line_feed ∷ []) (same_script open_yet),
            (
              front.0,
              b ∷ rest,
              ap (λ (l : List ℕ). l ++ got) (sym (same_script open_yet) ∙ front.1) ∙ append_assoc front.0 old.bytes got
                  ∙ ap (λ (l : List ℕ). front.0 ++ l) is,
              λ e. cc,
              plain,
            ),
          ),
          end,
        );
        carried = carries_more 0 nothing_known (f.script ++ got) deeds (b ∷ rest) (line_feed ∷ [])
            (subst (λ (l : List ℕ). Carries 0 nothing_known (f.script ++ got) deeds l) is
            (carries_more 0 nothing_known f.script deeds old.bytes got f.carried));
        offset_is = more_length offset (b ∷ rest) (f.script ++ got) (line_feed ∷ [])
            (ap (λ (l : List ℕ). offset + length l) (sym is) ∙ more_length offset old.bytes f.script got f.offset_is);
      }

pub fetch : (start left new : Option (List ℕ)) (offset : ℕ) (deeds : List Deed) (old pending : TakenBytes)
    → Fetched start left offset deeds old → Fetches left new old pending → Fetched start new offset deeds pending
fetch start left new offset deeds old pending f more = at more.grown
  where
    at : ((pending ≡ with_bytes old more.got)
        ⊎ ((pending ≡ record { bytes = with_last_newline (old.bytes ++ more.got); ended = true }) × (old.ended ≡ false) × IsAtEnd new
        × HasNoNewline (old.bytes ++ more.got)))
        → Fetched start new offset deeds pending
    at (inl e) =
        subst (λ (p : TakenBytes). Fetched start new offset deeds p) (sym e)
        (fetch_more start left new offset deeds old f more.got more.consumed more.idle)
    at (inr e) =
        subst (λ (p : TakenBytes). Fetched start new offset deeds p) (sym e.0)
        (fetch_last start left new offset deeds old f more.got more.consumed (old.bytes ++ more.got) refl e.1 e.2 e.3)

-- ---- a line

pub pass : (start left : Option (List ℕ)) (offset : ℕ) (deeds : List Deed) (pending : TakenBytes) (text rest : List ℕ) (line : Line)
    (d : Deed) → Fetched start left offset deeds pending → BeginsLine offset pending.bytes text rest → IsLine text line
    → IsDeedFor (after_deeds deeds nothing_known) line d
    → Fetched start left (offset + length text + 1) (deeds ++ d ∷ []) (record { bytes = rest; ended = pending.ended })
pass start left offset deeds pending text rest line d f begins means does = record {
  taken = f.taken;
  script = f.script;
  consumed = f.consumed;
  script_is = f.script_is;
  carried = carries_then 0 offset nothing_known f.script deeds pending.bytes d rest f.carried (let is = f.offset_is in omega arith)
      (text, rest, line, begins, means, does, refl);
  offset_is = size;
}
  where
    size : offset + length text + 1 + length rest ≡ length f.script
    size =
        let is = f.offset_is in
        let bytes : length pending.bytes ≡ length text + length (line_feed ∷ rest) =
        ap length begins.bytes_are ∙ length-append text (line_feed ∷ rest) in
        omega arith

-- ---- what was done

module _ (caller : Caller) (before mid after : Ports) (deeds : List Deed) (known : Known) where
  exchanged_then : (more : List Deed) → HaveExchanged caller before mid deeds → HaveExchanged caller mid after more
      → HaveExchanged caller before after (deeds ++ more)
  exchanged_then more one other = record {
    first = subst (λ (l : List Exchange). HasPostedAndHeard caller l before.first after.first) (sym (first_asks-append deeds more))
        (exchanges_then caller (first_asks deeds) before.first mid.first after.first one.first (first_asks more) other.first);
    second = subst (λ (l : List Exchange). HasPostedAndHeard caller l before.second after.second) (sym (second_asks-append deeds more))
        (exchanges_then caller (second_asks deeds) before.second mid.second after.second one.second (second_asks more) other.second);
  }

  pub did_then : (d : Deed) → Did caller before mid known deeds → Did caller mid after (after_deeds deeds known) (d ∷ [])
      → Did caller before after known (deeds ++ d ∷ [])
  did_then d one other = record {
    wrote = subst (λ (t : List ℕ). Appends before.held after.held t)
        (ap (λ (t : List ℕ). deeds_text known deeds ++ t) (append-nil (deed_text (after_deeds deeds known) d))
        ∙ sym (written_snoc deeds d known))
        (Appends-trans before.held mid.held after.held (deeds_text known deeds) (deed_text (after_deeds deeds known) d ++ []) one.wrote
        other.wrote);
    exchanged = exchanged_then (d ∷ []) one.exchanged other.exchanged;
  }

  pub cut_then : (d : Deed) → Did caller before mid known deeds → Wrote caller mid after (after_deeds deeds known) [] d
      → Wrote caller before after known deeds d
  cut_then d one other = record {
    count = other.count;
    wrote = Appends-trans before.held mid.held after.held (deeds_text known deeds)
        (take other.count (deed_text (after_deeds deeds known) d)) one.wrote other.wrote;
    exchanged = exchanged_then (d ∷ []) one.exchanged other.exchanged;
  }

  broken_then : (b : Bool) (post : List ℕ) (Has : List ℕ → Type 0) → HaveExchanged caller before mid deeds
      → BreaksExchange caller mid after b [] post Has → BreaksExchange caller before after b deeds post Has
  broken_then true post Has one other = (
    subst (λ (l : List Exchange). HasPostedAndHeard caller l before.first after.first) (append-nil (first_asks deeds))
        (exchanges_then caller (first_asks deeds) before.first mid.first after.first one.first [] other.0),
    breaks_then caller (second_asks deeds) before.second mid.second after.second one.second post Has other.1,
  )
  broken_then false post Has one other = (
    breaks_then caller (first_asks deeds) before.first mid.first after.first one.first post Has other.0,
    subst (λ (l : List Exchange). HasPostedAndHeard caller l before.second after.second) (append-nil (second_asks deeds))
        (exchanges_then caller (second_asks deeds) before.second mid.second after.second one.second [] other.1),
  )

  pub posted_then : (IsCut : Cutting) (Has : List ℕ → Type 0) (sent : Request) → Did caller before mid known deeds
      → PostsUnanswered caller mid after IsCut Has (after_deeds deeds known) [] sent
      → PostsUnanswered caller before after IsCut Has known deeds sent
  posted_then IsCut Has sent one other = record {
    front = other.front;
    cut = other.cut;
    wrote = subst (λ (t : List ℕ). Appends before.held after.held t) (append-nil (deeds_text known deeds))
        (Appends-trans before.held mid.held after.held (deeds_text known deeds) [] one.wrote other.wrote);
    broken = broken_then (is_poll sent) other.front Has one.exchanged other.broken;
  }
