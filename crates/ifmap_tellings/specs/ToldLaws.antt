-- What is told a session, and whose sessions stay.
use Rattle.std.proofs.Common.{refl, arith, ℕ, ◌==◌, ◌∙◌, ◌≡◌, Option, Some, None, Bool, List, sym, true, false, inl, inr, [], ◌∷◌, map, ap}
use Rattle.std.proofs.lemmas.Bool.{cases_Bool}
use Rattle.std.specs.BTreeMap.{get}
use Rattle.std.specs.Ordering.{nat_cmp}
use Rattle.ifmap_standing.specs.ifmap_session.Sessions.{SessionTable, session_with_serial, Session}
use Rattle.ifmap_tellings.specs.Tellings.{HasSameSessions, Tellings, tell_by, tell_if, AllKept, kept_items}
use Rattle.ifmap_tellings.specs.declared.tellings.Telling.{Telling}
use Rattle.ifmap_tellings.specs.declared.tellings.Telling.TheVariants.{After, Alone}
use Rattle.ifmap_lemmas.specs.Places.{something_at}
use Rattle.ifmap_standing.specs.declared.standing.Standing.{Standing}
use Rattle.ifmap_standing.specs.Kept.{AtEach}

pub same_sessions_itself : (t : SessionTable) → HasSameSessions t t
same_sessions_itself t = record { live = refl; counter = refl; spare = λ n. omega arith; room = omega arith }

pub same_twice : (a b c : SessionTable) → HasSameSessions a b → HasSameSessions b c → HasSameSessions a c
same_twice a b c first next = record {
  live = next.live ∙ first.live;
  counter = next.counter ∙ first.counter;
  spare = λ n. omega (arith, first.spare n, next.spare n);
  room = omega (arith, first.room, next.room);
}

pub told_serial : (o : Option Telling) (s : Session) → (tell_if o s).serial ≡ s.serial
told_serial None s = refl
told_serial (Some (After items size)) s = refl
told_serial (Some (Alone error)) s = refl

pub told_limit : (o : Option Telling) (s : Session) → (tell_if o s).limit ≡ s.limit
told_limit None s = refl
told_limit (Some (After items size)) s = refl
told_limit (Some (Alone error)) s = refl

-- a session is found by its serial still once all are told
pub found_told : (tellings : Tellings) (n : ℕ) (live : List Session) (s : Session) → session_with_serial n live ≡ Some s
    → session_with_serial n (map (tell_by tellings) live) ≡ Some (tell_by tellings s)
found_told tellings n [] s e = cc
found_told tellings n (x ∷ live) s e =
    let same : ((tell_by tellings x).serial == n) ≡ (x.serial == n)
    = ap (λ k. k == n) (told_serial (get nat_cmp tellings x.serial) x) in
    elim (cases_Bool (x.serial == n)) [
      | inl hit ↦
          let it : Some x ≡ Some s = rw hit at e in
          let is : x ≡ s = cc in
          rw (same, hit) (ap (λ y. Some (tell_by tellings y)) is)
      | inr miss ↦ rw (same, miss) (found_told tellings n live s (rw miss at e))
    ]

-- what holds of each that is not gone holds of what stands in its place
pub same_kept : (P Q : Standing → Type 0) (R : ℕ → Standing → Standing → Type 0) → ((i : ℕ) (x y : Standing) → R i x y → P x → Q y)
    → (gone : List Bool) (old new : List Standing) → AtEach R old new → AllKept P gone old → AllKept Q gone new
same_kept P Q R f gone old new r k = λ i y at flag.
    let x = something_at new old i y (sym r.long) at in f i x.0 y (r.at i x.0 y x.1 at) (k i x.0 x.1 flag)

pub map_kept : {X Y : Type 0} (f : X → Y) (gone : List Bool) (xs : List X) → map f (kept_items gone xs) ≡ kept_items gone (map f xs)
map_kept f [] xs = refl
map_kept f (g ∷ gone) [] = refl
map_kept f (true ∷ gone) (x ∷ xs) = map_kept f gone xs
map_kept f (false ∷ gone) (x ∷ xs) = ap (λ ys. f x ∷ ys) (map_kept f gone xs)
