-- The news of one change: what holds of queues before it (`queues_within`), and after they are queued (`mid_within`, `mid_can`,
-- `mid_fits`), of what sessions are told in all (`told_all`, `brought_all`), and of how many flags there are (`gone_long`).
use Rattle.std.proofs.Common.{◌≡◌, ◌≢◌, refl, sym, ◌∙◌, ap, subst, ℕ, ◌==◌, Bool, false, List, [], length, map, None}
use Rattle.std.specs.BTreeMap.{get}
use Rattle.std.specs.List.{AllByRecursion}
use Rattle.std.specs.Option.{IsSome, is_some}
use Rattle.std.specs.Ordering.{nat_cmp}
use Rattle.ifmap_lemmas.specs.Filters.{found_all}
use Rattle.ifmap_lemmas.specs.Flags.{flags_all, flags_long}
use Rattle.ifmap_lemmas.specs.Having.{Has, all_has}
use Rattle.ifmap_lemmas.specs.Mapped.{map_alike}
use Rattle.ifmap_lemmas.specs.Members.{all_of_map}
use Rattle.ifmap_standing.specs.ifmap_machine.Telling.{is_overfull, overflow_session, tell_session}
use Rattle.ifmap_standing.specs.ifmap_session.Sessions.{Session, SessionTable}
use Rattle.ifmap_standing.specs.declared.standing.Standing.{Standing}
use Rattle.ifmap_standing.specs.declared.telling.News.{News}
use Rattle.ifmap_tellings.specs.Tellings.{AddsTo, AreUntoldWithinLimits, CanTell, EachTelling, Tellings, flags_since, items_for, tell_by, tell_if}
use Rattle.ifmap_tellings.proofs.PassedLaws.{IsFree}
use Rattle.ifmap_standing.specs.ifmap_session.laws.TableLaws.{found_serial}

pub queues_within : (tellings : Tellings) (live : List Session)
    → AllByRecursion (λ s. is_overfull s ≡ false) (map (tell_by tellings) live) → AreUntoldWithinLimits tellings live
queues_within tellings live within = λ n s found none.
    let own : get nat_cmp tellings s.serial ≡ None = ap (get nat_cmp tellings) (found_serial n live s found) ∙ none in
    let each = all_of_map (λ s. is_overfull s ≡ false) (tell_by tellings) live within in
    subst (λ o. is_overfull (tell_if o s) ≡ false) own
    (found_all (λ t. is_overfull (tell_by tellings t) ≡ false) (λ (t : Session). t.serial == n) live each s found)

pub gone_long : (gone : List Bool) (news : List News) → length gone ≡ length news → length (flags_since gone news) ≡ length gone
gone_long gone news long =
    ap length (sym (flags_all (λ one. one.is_too_big) (length news) gone news refl long))
    ∙ flags_long (λ one. one.is_too_big) (length news) gone news

module _ (standing : List Standing) (news : List News) (old mid : Tellings)
    (added : (n : ℕ) → AddsTo (items_for n standing news) (get nat_cmp old n) (get nat_cmp mid n)) where
  pub mid_within : (live : List Session) → AllByRecursion (λ s. is_overfull s ≡ false) (map (tell_by old) live) → AreUntoldWithinLimits mid
      live
  mid_within live within = λ n s found none. queues_within old live within n s found ((added n).kept none)

  pub told_all : (live : List Session) → map (λ s. overflow_session (tell_by mid s)) live
      ≡ map (λ s. overflow_session (tell_session (items_for s.serial standing news) (tell_by old s))) live
  told_all live = map_alike (λ s. overflow_session (tell_by mid s))
      (λ s. overflow_session (tell_session (items_for s.serial standing news) (tell_by old s))) live
      (λ s h. ap overflow_session ((added s.serial).told s))

  pub brought_all : (new : Tellings) → ((n : ℕ) → is_some (get nat_cmp new n) ≡ is_some (get nat_cmp mid n))
      → (n : ℕ) → IsSome (get nat_cmp new n) → get nat_cmp old n ≡ None → items_for n standing news ≢ []
  brought_all new keys n some none = (added n).brought (sym (keys n) ∙ some) none

-- of sessions with no subscription nothing changes
module _ (standing : List Standing) (old mid : Tellings)
    (others : (n : ℕ) → IsFree standing n → get nat_cmp mid n ≡ get nat_cmp old n) where
  pub mid_can : (table : SessionTable) → EachTelling (CanTell table) old → EachTelling (λ n t. IsFree standing n → CanTell table n t) mid
  mid_can table can = λ n t e free. can n t (sym (others n free) ∙ e)

  pub mid_fits : (live : List Session) → AllByRecursion (λ s. is_overfull s ≡ false) (map (tell_by old) live)
      → (s : Session) → Has live s → IsFree standing s.serial → is_overfull (tell_by mid s) ≡ false
  mid_fits live within s h free =
      let each = all_of_map (λ s. is_overfull s ≡ false) (tell_by old) live within in
      ap (λ o. is_overfull (tell_if o s)) (others s.serial free)
      ∙ all_has (λ t. is_overfull (tell_by old t) ≡ false) live each s h
