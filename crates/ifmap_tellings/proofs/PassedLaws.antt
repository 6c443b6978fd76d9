-- How far the overflowing of sessions has come, along the subscriptions (`Overflowing`): as it begins, one further, and at its end.
use Rattle.std.proofs.Common.{◌≡◌, ◌≢◌, refl, sym, ◌∙◌, ap, subst, ℕ, suc, ◌+◌, ◌≤◌, ◌||◌, false, List, ◌∷◌, length, map, drop, drop-cons, Some, inl, inr, arith}
use Rattle.std.proofs.Math.Bool.{or-false}
use Rattle.std.proofs.lemmas.Bool.{cases_eq}
use Rattle.std.proofs.lemmas.List.{drop_all}
use Rattle.std.proofs.lemmas.Option.{get_or_from_slice_get, slice_get_within}
use Rattle.std.specs.BTreeMap.{get}
use Rattle.std.specs.List.{slice_get}
use Rattle.std.specs.List.Sorted.{IsStrictlySortedBy}
use Rattle.std.specs.Option.{is_some}
use Rattle.std.specs.Ordering.{nat_cmp}
use Rattle.ifmap_lemmas.specs.Having.{Has, all_has}
use Rattle.ifmap_lemmas.specs.Mapped.{map_alike}
use Rattle.ifmap_standing.specs.ifmap_machine.Telling.{is_overfull, overflow_session}
use Rattle.ifmap_standing.specs.ifmap_session.Sessions.{Session, SessionTable, session_order, session_with_serial}
use Rattle.ifmap_standing.specs.declared.standing.Standing.{Standing}
use Rattle.ifmap_tellings.specs.declared.tellings.Telling.{Telling}
use Rattle.ifmap_tellings.specs.Tellings.{AreWide, CanTell, EachTelling, HasSameSessions, IsSized, IsWide, Tellings, is_alone, tell_by, tell_if}
use Rattle.ifmap_tellings.proofs.OverflowLaws.{overflowed_within, within_stays}
use Rattle.ifmap_tellings.proofs.RoomLaws.{found_here, tells_still}
use Rattle.ifmap_tellings.specs.ToldLaws.{same_sessions_itself, same_twice, told_limit}

-- none of these subscriptions is of a session
abbrev pub IsFree : List Standing → ℕ → Type 0
IsFree standing n = (x : Standing) → Has standing x → x.serial ≢ n

-- the subscriptions from this place on are left
pub record Overflowing (standing : List Standing) (begun now : SessionTable) (old tellings : Tellings) (at : ℕ) : Type 0 where
  pub told : (s : Session) → Has begun.live s → overflow_session (tell_by tellings s) ≡ overflow_session (tell_by old s)
  pub within : (s : Session) → Has begun.live s → IsFree (drop at standing) s.serial → is_overfull (tell_by tellings s) ≡ false
  -- who was or is to be told one error in place of all
  pub alone : (s : Session) → Has begun.live s → (is_alone (get nat_cmp tellings s.serial) || is_overfull (tell_by tellings s))
      ≡ (is_alone (get nat_cmp old s.serial) || is_overfull (tell_by old s))
  pub keys : (n : ℕ) → is_some (get nat_cmp tellings n) ≡ is_some (get nat_cmp old n)
  pub rest : EachTelling (λ n t. IsFree (drop at standing) n → CanTell now n t) tellings
  pub sized : EachTelling (λ n t. IsSized n t begun.live) tellings
  pub same : HasSameSessions begun now

pub passed_first : (standing : List Standing) (begun : SessionTable) (old : Tellings)
    → ((s : Session) → Has begun.live s → IsFree standing s.serial → is_overfull (tell_by old s) ≡ false)
    → EachTelling (λ n t. IsFree standing n → CanTell begun n t) old → EachTelling (λ n t. IsSized n t begun.live) old
    → Overflowing standing begun begun old old 0
passed_first standing begun old within rest sized = record {
  told = λ s h. refl;
  within = within;
  alone = λ s h. refl;
  keys = λ n. refl;
  rest = rest;
  sized = sized;
  same = same_sessions_itself begun;
}

module _ (standing : List Standing) (begun now : SessionTable) (old tellings : Tellings) (at : ℕ)
    (o : Overflowing standing begun now old tellings at) where
  -- where nothing is left
  module _ (end : length standing ≤ at) where
    all_free : (n : ℕ) → IsFree (drop at standing) n
    all_free n = subst (λ xs. IsFree xs n) (sym (drop_all at standing end)) (λ x h. absurd h)

    pub passed_told : map (tell_by tellings) begun.live ≡ map (λ s. overflow_session (tell_by old s)) begun.live
    passed_told = map_alike (tell_by tellings) (λ s. overflow_session (tell_by old s)) begun.live
        (λ s h. sym (within_stays (tell_by tellings s) (o.within s h (all_free s.serial))) ∙ o.told s h)

    pub passed_alone : (s : Session) → Has begun.live s
        → is_alone (get nat_cmp tellings s.serial) ≡ (is_alone (get nat_cmp old s.serial) || is_overfull (tell_by old s))
    passed_alone s h =
        sym (or-false (is_alone (get nat_cmp tellings s.serial)))
        ∙ ap (λ b. is_alone (get nat_cmp tellings s.serial) || b) (sym (o.within s h (all_free s.serial))) ∙ o.alone s h

    pub passed_can : EachTelling (CanTell now) tellings
    passed_can = λ n t e. o.rest n t e (all_free n)

  module _ (x : Standing) (here : slice_get standing at ≡ Some x) (up : IsStrictlySortedBy session_order begun.live)
      (wide : AreWide begun.live) (later : SessionTable) (after : Tellings)
      (told : (s : Session) → session_with_serial x.serial now.live ≡ Some s → tell_by after s ≡ overflow_session (tell_by tellings s))
      (alone : (s : Session) → session_with_serial x.serial now.live ≡ Some s
      → is_alone (get nat_cmp after s.serial) ≡ (is_alone (get nat_cmp tellings s.serial) || is_overfull (tell_by tellings s)))
      (key : is_some (get nat_cmp after x.serial) ≡ is_some (get nat_cmp tellings x.serial))
      (others : (n : ℕ) → n ≢ x.serial → get nat_cmp after n ≡ get nat_cmp tellings n)
      (can : (t : Telling) → get nat_cmp after x.serial ≡ Some t → CanTell later x.serial t)
      (sized : EachTelling (λ n t. IsSized n t later.live) after) (same : HasSameSessions now later) where
    place : drop at standing ≡ x ∷ drop (at + 1) standing
    place =
        let e : at + 1 ≡ suc at = omega arith in
        drop-cons standing at x (slice_get_within standing at x here)
        ∙ ap (λ y. y ∷ drop (suc at) standing) (get_or_from_slice_get standing at x x here)
        ∙ ap (λ i. x ∷ drop i standing) (sym e)

    still_free : (n : ℕ) → n ≢ x.serial → IsFree (drop (at + 1) standing) n → IsFree (drop at standing) n
    still_free n apart free = subst (λ xs. IsFree xs n) (sym place) next
      where
        next : IsFree (x ∷ drop (at + 1) standing) n
        next y (inl e) same = apart (sym same ∙ sym (ap (λ (z : Standing). z.serial) e))
        next y (inr h) same = free y h same

    here_now : (s : Session) → Has begun.live s → s.serial ≡ x.serial → session_with_serial x.serial now.live ≡ Some s
    here_now s h own = subst (λ live. session_with_serial x.serial live ≡ Some s) (sym o.same.live)
        (subst (λ n. session_with_serial n begun.live ≡ Some s) own (found_here begun.live s up h))

    told_here : (s : Session) → Has begun.live s → s.serial ≡ x.serial → tell_by after s ≡ overflow_session (tell_by tellings s)
    told_here s h own = told s (here_now s h own)

    told_there : (s : Session) → s.serial ≢ x.serial → tell_by after s ≡ tell_by tellings s
    told_there s apart = ap (λ t. tell_if t s) (others s.serial apart)

    fits : (s : Session) → Has begun.live s → is_overfull (overflow_session (tell_by tellings s)) ≡ false
    fits s h = overflowed_within (tell_by tellings s) (subst IsWide (sym (told_limit (get nat_cmp tellings s.serial) s))
        (all_has (λ (t : Session). IsWide t.limit) begun.live wide s h))

    pub passed_next : Overflowing standing begun later old after (at + 1)
    passed_next = record {
      told = λ s h. elim (cases_eq s.serial x.serial) [
        | inl own ↦ ap overflow_session (told_here s h own) ∙ within_stays (overflow_session (tell_by tellings s)) (fits s h) ∙ o.told s h
        | inr apart ↦ ap overflow_session (told_there s apart) ∙ o.told s h
      ];
      within = λ s h free. elim (cases_eq s.serial x.serial) [
        | inl own ↦ ap is_overfull (told_here s h own) ∙ fits s h
        | inr apart ↦ ap is_overfull (told_there s apart) ∙ o.within s h (still_free s.serial apart free)
      ];
      alone = λ s h. elim (cases_eq s.serial x.serial) [
        | inl own ↦
            ap (λ b. is_alone (get nat_cmp after s.serial) || b) (ap is_overfull (told_here s h own) ∙ fits s h)
            ∙ or-false (is_alone (get nat_cmp after s.serial)) ∙ alone s (here_now s h own) ∙ o.alone s h
        | inr apart ↦ ap (λ t. is_alone t || is_overfull (tell_if t s)) (others s.serial apart) ∙ o.alone s h
      ];
      keys = λ n. elim (cases_eq n x.serial) [
        | inl own ↦ subst (λ m. is_some (get nat_cmp after m) ≡ is_some (get nat_cmp old m)) (sym own) (key ∙ o.keys x.serial)
        | inr apart ↦ ap is_some (others n apart) ∙ o.keys n
      ];
      rest = λ n t e free. elim (cases_eq n x.serial) [
        | inl own ↦ subst (λ m. CanTell later m t) (sym own) (can t (ap (get nat_cmp after) (sym own) ∙ e))
        | inr apart ↦ tells_still now later n t same (o.rest n t (sym (others n apart) ∙ e) (still_free n apart free))
      ];
      sized = subst (λ live. EachTelling (λ n t. IsSized n t live) after) (same.live ∙ o.same.live) sized;
      same = same_twice begun now later o.same same;
    }
