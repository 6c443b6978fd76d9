-- The state that each completion leaves, as the parts have it (`say_leaves` and the lemmas after it), and that the parts are sound
-- (`parts_moved`, `parts_renamed`).
use Rattle.std.proofs.Common.{◌≡◌, ◌≢◌, refl, sym, ◌∙◌, ap, subst, ℕ, ◌+◌, ◌≤◌, ◌==◌, Bool, true, false, List, [], ◌∷◌, ◌++◌, length, map, Option, None, Some, inl, inr, arith, append-nil}
use Rattle.std.proofs.lemmas.Bool.{cases_Bool, eq-eqb}
use Rattle.std.proofs.lemmas.Option.{same_Some}
use Rattle.std.specs.List.{AllByRecursion}
use Rattle.std.specs.List.Sorted.{IsStrictlySortedBy}
use Rattle.std.specs.Option.{IfSome}
use Rattle.ifmap_subscribes.specs.ifmap_changes.Between.{AreOrdered, AreParts, AreWithinLimits, IsSteady, seen_now}
use Rattle.ifmap_subscribes.specs.ifmap_changes.declared.parts.Parts.{Parts}
use Rattle.ifmap_core.specs.Completions.{FitsAfter, WouldBeParts, after_former, after_completion, poll_found, rename_in}
use Rattle.ifmap_core.specs.declared.completions.Completion.{Completion}
use Rattle.ifmap_core.specs.declared.completions.Completion.TheVariants.{Say, Accept, End, Open, Rename, Poll}
use Rattle.ifmap_core.proofs.Applying.{bare_stays, fits_within, live_changed, within_renewed}
use Rattle.ifmap_core.proofs.Renamed.{all_renamed, others_few}
use Rattle.ifmap_subscribes.specs.ifmap_delta.SeenViews.{IsUpToDate}
use Rattle.ifmap_lemmas.specs.Members.{all_of_map}
use Rattle.ifmap_lemmas.specs.Numbers.{equal_numbers}
use Rattle.ifmap_subscribes.specs.ifmap_machine.declared.events.Answer.{Answer}
use Rattle.ifmap_subscribes.specs.ifmap_machine.declared.events.Answer.TheVariants as the_answer
use Rattle.ifmap_subscribes.specs.ifmap_machine.Ending.{without_standing}
use Rattle.ifmap_subscribes.specs.ifmap_machine.State.{State, standing_in}
use Rattle.ifmap_subscribes.specs.ifmap_machine.State as machine
use Rattle.ifmap_subscribes.specs.ifmap_machine.Subscribing.{Told, most_names}
use Rattle.ifmap_subscribes.specs.ifmap_replies.declared.replies.Reply.TheVariants as the_reply
use Rattle.ifmap_session.specs.ifmap_search.Sizes.{queue_size}
use Rattle.ifmap_session.specs.Sessions.{IsLive, Opening, Session, SessionTable, change, session_from, session_order, session_with_serial, with_last, without_sessions}
use Rattle.ifmap_session.specs.laws.TableLaws.{renewed_keeps}
use Rattle.ifmap_subscribes.specs.ifmap_standing.declared.standing.Standing.{Standing}
use Rattle.ifmap_subscribes.specs.ifmap_standing.Standing.{standing_of}
use Rattle.ifmap_subscribes.specs.declared.renamings.Renaming.{Renaming}
use Rattle.ifmap_subscribes.specs.Renamings.{AreRenamed, CanRenameEach, IsOfSession, rename_all, told_in_parts}

-- the state with other members
abbrev with_parts : State → ℕ → List Session → List machine.Standing → State
with_parts state counter sessions standing = record state { counter = counter; sessions = sessions; standing = standing }

module _ (state : State) (moment counter : ℕ) (live : List Session) (standing : List Standing) (m : state.moment ≡ moment)
    (s : state.sessions ≡ live) (n : state.counter ≡ counter) (t : state.standing ≡ map standing_of standing) where
  abbrev Leaves : Completion → ℕ → List Session → List machine.Standing → Answer → Type 0
  Leaves completion later sessions standing answer =
      ◌≡◌ {A = State × Answer} (after_completion completion state) (with_parts state later sessions standing, answer)

  pub say_leaves : (answer : Answer) → Leaves (Say answer) counter live (map standing_of standing) answer
  say_leaves answer = λ i. (with_parts state (n i) (s i) (t i), answer)

  pub accept_leaves : (serial later : ℕ) (answer : Answer) (sessions : List Session) → later ≡ counter
      → sessions ≡ change serial (with_last moment) live → Leaves (Accept serial answer) later sessions (map standing_of standing) answer
  accept_leaves serial later answer sessions c e =
      let number = n ∙ sym c in
      let live_is = (λ i. change serial (with_last (m i)) (s i)) ∙ sym e in
      λ i. (with_parts state (number i) (live_is i) (t i), answer)

  pub end_leaves : (serial later : ℕ) (answer : Answer) (sessions : List Session) → later ≡ counter
      → sessions ≡ without_sessions (serial ∷ []) live → AllByRecursion (λ (x : Standing). x.serial ≢ serial) standing
      → Leaves (End serial answer) later sessions (map standing_of standing) answer
  end_leaves serial later answer sessions c e bare =
      let number = n ∙ sym c in
      let live_is = ap (without_sessions (serial ∷ [])) s ∙ sym e in
      let standing_is = ap (without_standing (serial ∷ [])) t ∙ bare_stays serial standing bare in
      λ i. (with_parts state (number i) (live_is i) (standing_is i), answer)

  pub open_leaves : (former : Option ℕ) (opening : Opening) (limit : ℕ) (publisher id : List ℕ) (later : ℕ) (sessions mid : List Session)
      → id ≡ opening.id → later ≡ counter + 1 → mid ≡ after_former former live → sessions ≡ mid ++ session_from opening limit moment ∷ []
      → IfSome former (λ n. AllByRecursion (λ (x : Standing). x.serial ≢ n) standing)
      → Leaves (Open former opening limit publisher) later sessions (map standing_of standing)
      (the_answer.Reply (the_reply.NewSession id publisher limit))
  open_leaves None opening limit publisher id later sessions mid name c f e bare =
      let number = ap (λ k. k + 1) n ∙ sym c in
      let live_is = (λ i. s i ++ session_from opening limit (m i) ∷ []) ∙ ap (λ l. l ++ session_from opening limit moment ∷ []) (sym f)
      ∙ sym e in
      λ i. (with_parts state (number i) (live_is i) (t i), the_answer.Reply (the_reply.NewSession (sym name i) publisher limit))
  open_leaves (Some k) opening limit publisher id later sessions mid name c f e bare =
      let number = ap (λ k. k + 1) n ∙ sym c in
      let live_is = (λ i. without_sessions (k ∷ []) (s i) ++ session_from opening limit (m i) ∷ [])
      ∙ ap (λ l. l ++ session_from opening limit moment ∷ []) (sym f) ∙ sym e in
      let standing_is = ap (without_standing (k ∷ [])) t ∙ bare_stays k standing bare in
      λ i. (with_parts state (number i) (live_is i) (standing_is i), the_answer.Reply (the_reply.NewSession (sym name i) publisher limit))

  pub poll_leaves : (serial later : ℕ) (again : Bool) (answer : Answer) (sessions : List Session) → later ≡ counter
      → poll_found state again (session_with_serial serial state.sessions) ≡ (record state { sessions = sessions }, answer)
      → Leaves (Poll serial again) later sessions (map standing_of standing) answer
  poll_leaves serial later again answer sessions c e =
      let number = n ∙ sym c in
      e ∙ (λ i. (with_parts state (number i) sessions (t i), answer))

  pub rename_leaves : (serial later : ℕ) (renamings : List Renaming) (mid sessions : List Session) (after : List Standing) (one : Session)
      → later ≡ counter → session_with_serial serial live ≡ Some one
      → map standing_of after ≡ (rename_all serial renamings (record { queue = one.queue; standing = map standing_of standing })).standing
      → mid ≡ change serial
      (λ (x : Session). record x {
        queue = (rename_all serial renamings (record { queue = one.queue; standing = map standing_of standing })).queue;
      }) live
      → sessions ≡ change serial (with_last moment) mid
      → Leaves (Rename serial renamings) later sessions (map standing_of after) (the_answer.Reply the_reply.Subscribed)
  rename_leaves serial later renamings mid sessions after one c found stands f e =
      let number = n ∙ sym c in
      let live_is = (λ i. change serial (with_last (m i)) (change serial
      (λ (x : Session). record x { queue = (rename_all serial renamings (record { queue = one.queue; standing = t i })).queue }) (s i)))
      ∙ ap (λ l. change serial (with_last moment) l) (sym f) ∙ sym e in
      let standing_is = (λ i. (rename_all serial renamings (record { queue = one.queue; standing = t i })).standing) ∙ sym stands in
      ap (λ o. (rename_in serial renamings state o, the_answer.Reply the_reply.Subscribed))
      (ap (λ l. session_with_serial serial l) s ∙ found)
      ∙ (λ i. (with_parts state (number i) (live_is i) (standing_is i), the_answer.Reply the_reply.Subscribed))

-- ---- the parts are sound

-- with other sessions
pub parts_moved : (parts : Parts) (table : SessionTable) → WouldBeParts [] parts → AreOrdered table.live parts.standing.items
    → AreWithinLimits table.live → AreParts (record parts { sessions = table })
parts_moved parts table w ordered within = record {
  steady = subst (IsSteady parts.graph) (append-nil parts.standing.items) w.steady;
  ordered = ordered;
  kept = w.kept;
  within = within;
}

-- and after renamings
module _ (serial moment : ℕ) (renamings : List Renaming) (old new : Parts) (table : SessionTable)
    (w_ordered : AreOrdered old.sessions.live old.standing.items) (w_within : AreWithinLimits old.sessions.live)
    (rising : IsStrictlySortedBy session_order old.sessions.live)
    (session : AllByRecursion (IsOfSession serial) renamings) (fits : FitsAfter serial renamings old) (one : Session)
    (found : session_with_serial serial old.sessions.live ≡ Some one) (are : AreRenamed serial renamings old new)
    (rest : CanRenameEach serial [] new) (moved : table.live ≡ change serial (with_last moment) new.sessions.live) where
  abbrev old_told : Told
  old_told = told_in_parts old one

  stands : map standing_of new.standing.items ≡ (rename_all serial renamings old_told).standing
  stands = (are.told one found).0

  abbrev told_live : List Session
  told_live = change serial (λ (x : Session). record x { queue = (rename_all serial renamings old_told).queue }) old.sessions.live

  now_live : (n : ℕ) → IsLive n old.sessions.live → IsLive n table.live
  now_live n l =
      subst (IsLive n) (sym moved) (live_changed serial (with_last moment) (renewed_keeps moment) n new.sessions.live
      (subst (IsLive n) (sym (are.told one found).1) (live_changed serial
      (λ (x : Session). record x { queue = (rename_all serial renamings old_told).queue })
      (record { serial = λ s. refl; id = λ s. refl; client = λ s. refl }) n old.sessions.live l)))

  own_live : IsLive serial table.live
  own_live = now_live serial (rw found refl)

  few_after : (n : ℕ) → length (standing_in n (map standing_of new.standing.items)) ≤ most_names
  few_after n = elim (cases_Bool (serial == n)) [
    | inl same ↦
        let is : serial ≡ n = equal_numbers serial n same in
        subst (λ k. length (standing_in k (map standing_of new.standing.items)) ≤ most_names) is
        (subst (λ t. length (standing_in serial t) ≤ most_names) (sym stands) (fits one found).1)
    | inr other ↦
        let less = others_few serial n (λ e. not_same n e other) renamings old_told session in
        let before = w_ordered.few n in
        subst (λ t. length (standing_in n t) ≤ most_names) (sym stands) (omega (arith, less, before))
  ]
    where
      not_same : (n : ℕ) → serial ≡ n → (serial == n) ≡ false → ⊥
      not_same n e other = let yes : (serial == n) ≡ true = eq-eqb serial n e in let bad : true ≡ false = sym yes ∙ other in cc

  pub parts_renamed : AreParts (record { graph = new.graph; sessions = table; standing = new.standing })
  parts_renamed = record {
    steady = subst (IsSteady new.graph) (append-nil new.standing.items) rest.steady;
    ordered = record {
      rising = rest.ordered;
      live = all_of_map (λ (x : machine.Standing). IsLive x.serial table.live) standing_of new.standing.items
          (subst (AllByRecursion (λ (x : machine.Standing). IsLive x.serial table.live)) (sym stands)
          (all_renamed serial (λ (x : machine.Standing). IsLive x.serial table.live)
          (λ x e. subst (λ n. IsLive n table.live) (sym e) own_live) renamings old_told session
          (all_shown old.standing.items w_ordered.live)));
      few = few_after;
    };
    kept = subst (AllByRecursion (λ (x : Standing). IsUpToDate (seen_now new.graph) x.subscription)) (append-nil new.standing.items)
        rest.kept;
    within = subst AreWithinLimits (sym moved)
        (within_renewed serial moment new.sessions.live (subst AreWithinLimits (sym (are.told one found).1)
        (fits_within serial (rename_all serial renamings old_told).queue old.sessions.live rising w_within
        (λ s e. subst (λ (x : Session). queue_size (rename_all serial renamings old_told).queue ≤ x.limit) (same_Some one s (sym found ∙ e))
        (fits one found).0))));
  }
    where
      all_shown : (xs : List Standing) → AllByRecursion (λ (x : Standing). IsLive x.serial old.sessions.live) xs
          → AllByRecursion (λ (x : machine.Standing). IsLive x.serial table.live) (map standing_of xs)
      all_shown [] h = tt
      all_shown (x ∷ xs) h = (now_live x.serial h.0, all_shown xs h.1)
