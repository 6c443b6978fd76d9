-- The end of a session: its subscriptions go before the others are told, and it goes itself after that, as if it had gone first.
use Rattle.std.proofs.Common.{◌≡◌, refl, sym, ◌∙◌, ap, ℕ, ◌==◌, ◌||◌, ◌&&◌, false, not, List, [], ◌∷◌, map, inl, inr, arith}
use Rattle.std.proofs.lemmas.Bool.{cases_Bool}
use Rattle.std.proofs.lemmas.Bool.Decides.{nat_tests}
use Rattle.std.specs.List.{AllByRecursion, filter, list_any}
use Rattle.ifmap_subscribes.specs.ifmap_changes.Changes.{take_session}
use Rattle.ifmap_lemmas.specs.Filters.{all_filter}
use Rattle.ifmap_lemmas.specs.Parted.{filter_where}
use Rattle.ifmap_subscribes.specs.ifmap_machine.Ending.{drop_sessions, end_some, without_standing}
use Rattle.ifmap_subscribes.specs.ifmap_machine.State.{Standing, State}
use Rattle.ifmap_subscribes.specs.ifmap_machine.Telling.{is_overfull, is_overrun, is_too_big, overflow_session, tell_session, told_in_session}
use Rattle.ifmap_subscribes.specs.ifmap_publish.declared.who.Who.TheVariants.{Sessions}
use Rattle.ifmap_subscribes.specs.ifmap_publish.Retract.{retract}
use Rattle.ifmap_session.specs.Sessions.{Session, without_sessions}
use Rattle.ifmap_session.specs.laws.TableLaws.{is_left}

-- what makes sessions others, and keeps their serials, does so after some are gone as before
pub map_after : (serials : List ℕ) (f : Session → Session) → ((s : Session) → (f s).serial ≡ s.serial) → (live : List Session)
    → without_sessions serials (map f live) ≡ map f (without_sessions serials live)
map_after serials f keeps [] = refl
map_after serials f keeps (x ∷ live) =
    let same : is_left serials (f x) ≡ is_left serials x = ap (λ m. not (list_any (λ n. n == m) serials)) (keeps x) in
    elim (cases_Bool (is_left serials x)) [
      | inl stays ↦ rw (same, stays) (ap (λ t. f x ∷ t) (map_after serials f keeps live))
      | inr goes ↦ rw (same, goes) (map_after serials f keeps live)
    ]

overflow_keeps : (s : Session) → (overflow_session s).serial ≡ s.serial
overflow_keeps s = elim (cases_Bool (is_overfull s)) [ inl hit ↦ rw hit refl | inr miss ↦ rw miss refl ]

-- a subscription of another session is overrun whether a session is there or not
overrun_after : (n : ℕ) (live : List Session) (x : Standing) → (n == x.serial) ≡ false
    → is_overrun (without_sessions (n ∷ []) live) x ≡ is_overrun live x
overrun_after n [] x other = refl
overrun_after n (s ∷ live) x other =
    elim (cases_Bool (n == s.serial)) [
      | inl goes ↦
          let differ : (s.serial == x.serial) ≡ false = grind (arith, nat_tests, goes, other) in
          rw (goes, differ) (overrun_after n live x other)
      | inr stays ↦ rw stays (ap (λ b. (s.serial == x.serial && is_overfull s) || b) (overrun_after n live x other))
    ]

-- the others of a list of others are all
others_stay : (n : ℕ) (xs : List Standing) → AllByRecursion (λ (x : Standing). (n == x.serial) ≡ false) xs
    → without_standing (n ∷ []) xs ≡ xs
others_stay n [] h = refl
others_stay n (x ∷ xs) h = rw (h.0) (ap (λ t. x ∷ t) (others_stay n xs h.1))

others_are : (n : ℕ) (xs : List Standing) → AllByRecursion (λ (x : Standing). (n == x.serial) ≡ false) (without_standing (n ∷ []) xs)
others_are n [] = tt
others_are n (x ∷ xs) =
    elim (cases_Bool (n == x.serial)) [ inl hit ↦ rw hit (others_are n xs) | inr miss ↦ rw miss (miss, others_are n xs) ]

pub taken_is : (n : ℕ) (state : State) → drop_sessions (n ∷ []) (take_session n state) ≡ end_some (n ∷ []) state
taken_is n state =
    let after = retract (Sessions (n ∷ [])) state.graph in
    let others = without_standing (n ∷ []) state.standing in
    let told : Session → Session = λ (s : Session). tell_session (told_in_session state.graph after [] others s.serial) s in
    let fit : List Standing = filter (λ (x : Standing). not (is_too_big after x.search)) others in
    let full : List Session = map told state.sessions in
    let left : List Session = map told (without_sessions (n ∷ []) state.sessions) in
    let kept : without_sessions (n ∷ []) full ≡ left = map_after (n ∷ []) told (λ s. refl) state.sessions in
    let each : AllByRecursion (λ (x : Standing). (n == x.serial) ≡ false) fit =
    all_filter (λ (x : Standing). (n == x.serial) ≡ false) (λ (x : Standing). not (is_too_big after x.search)) others
    (others_are n state.standing) in
    let sessions : without_sessions (n ∷ []) (map overflow_session full) ≡ map overflow_session left =
    map_after (n ∷ []) overflow_session overflow_keeps full ∙ ap (map overflow_session) kept in
    let standing : without_standing (n ∷ []) (filter (λ (x : Standing). not (is_overrun full x)) fit)
    ≡ filter (λ (x : Standing). not (is_overrun left x)) fit =
    others_stay n (filter (λ (x : Standing). not (is_overrun full x)) fit)
    (all_filter (λ (x : Standing). (n == x.serial) ≡ false) (λ (x : Standing). not (is_overrun full x)) fit each)
    ∙ filter_where (λ (x : Standing). (n == x.serial) ≡ false) (λ (x : Standing). not (is_overrun full x))
    (λ (x : Standing). not (is_overrun left x))
    (λ x other. ap not (sym (overrun_after n full x other) ∙ ap (λ (ss : List Session). is_overrun ss x) kept)) fit each in
    ap (λ (ss : List Session). record state {
      graph = after;
      sessions = ss;
      standing = without_standing (n ∷ [])
          (filter (λ (x : Standing). not (is_overrun full x)) fit);
    }) sessions
    ∙ ap (λ (xs : List Standing). record state { graph = after; sessions = map overflow_session left; standing = xs }) standing
