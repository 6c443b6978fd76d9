-- What holds when an event begins: nothing is pending but the subscriptions of sessions that have expired (`begins_ready`), and the state
-- is the one without them (`begins_so_far`). Then which those are (`expires_none`, `expires_by`). Then a completion that can be applied
-- can once a change stays as it is (`can_settled`), and a change can stay or be taken back after more (`can_settle_later`, `can_back`).
-- Last, an event that is done at once (`done_leads`).
use Rattle.std.proofs.Common.{◌≡◌, ◌≢◌, refl, sym, ◌∙◌, ap, subst, ℕ, ◌≤◌, ◌==◌, Bool, true, false, not, List, [], ◌∷◌, ◌++◌, length, map, append-nil, Option, Some, None, inl, inr, arith}
use Rattle.ifmap_subscribes.specs.ifmap_tellings.KeptPlaces.{all_kept, none_gone}
use Rattle.std.proofs.lemmas.Bool.{cases_Bool}
use Rattle.std.proofs.lemmas.List.Kept.{IsStrictlySortedBy-filter}
use Rattle.std.proofs.lemmas.Option.{none-some}
use Rattle.std.specs.BTreeMap.{get, is_at}
use Rattle.std.specs.Map.{lookup}
use Rattle.std.specs.List.{AllByRecursion, filter, list_any}
use Rattle.std.specs.List.Sorted.{IsStrictlySortedBy}
use Rattle.std.specs.Option.{IfSome}
use Rattle.std.specs.Ordering.{nat_cmp}
use Rattle.std.specs.declared.cmp.Ordering.TheVariants.{Less}
use Rattle.ifmap_subscribes.specs.ifmap_changes.Between.{AreKept, AreParts, AreLaterParts, AreWithinLimits, Asking, CanEnd, IsSoundSoFar, IsSteady, IsWithinLimit, sessions_left, seen_now, state_now, state_at}
use Rattle.ifmap_subscribes.specs.ifmap_changes.Changes.{CanSettle, CanTakeBack, IsSettled, state_taken_from}
use Rattle.ifmap_subscribes.specs.ifmap_changes.declared.changes.Made.{Made}
use Rattle.ifmap_subscribes.specs.ifmap_changes.declared.parts.Parts.{Parts}
use Rattle.ifmap_core.specs.Completions.{CanApply, CanRename, IsStepCompletion, WouldBeParts, after_completion, starts_in}
use Rattle.ifmap_core.specs.declared.completions.Completion.{Completion}
use Rattle.ifmap_core.specs.declared.completions.Completion.TheVariants.{Say, Accept, End, Open, Rename, Poll}
use Rattle.ifmap_core.proofs.Ended.{without_none}
use Rattle.ifmap_core.proofs.Places.{all_are_kept, kept_both}
use Rattle.ifmap_core.proofs.Told.{none_told}
use Rattle.ifmap_core.proofs.LaterParts.{all_there, shares_later}
use Rattle.ifmap_subscribes.specs.ifmap_delta.SeenViews.{IsUpToDate}
use Rattle.ifmap_subscribes.specs.ifmap_delta.SameSearches.{HasSameSearch}
use Rattle.ifmap_subscribes.specs.ifmap_graph.Out.{items_changed}
use Rattle.ifmap_subscribes.specs.ifmap_graph.Seen.{KeepsNumbers, links_now, rows_now}
use Rattle.ifmap_lemmas.specs.Filters.{all_filter}
use Rattle.ifmap_lemmas.specs.Members.{all_both, all_of_map, map_of_all}
use Rattle.ifmap_lemmas.specs.Options.{is_some_of, some_is}
use Rattle.ifmap_lemmas.specs.Parted.{found_in_rest}
use Rattle.ifmap_subscribes.specs.ifmap_machine.Ending.{drop_sessions, end_sessions, end_some, expire, without_standing}
use Rattle.ifmap_subscribes.specs.ifmap_machine.declared.events.Answer.{Answer}
use Rattle.ifmap_subscribes.specs.ifmap_machine.declared.events.Ask.{Ask}
use Rattle.ifmap_subscribes.specs.ifmap_machine.Events.{Event}
use Rattle.ifmap_subscribes.specs.ifmap_machine.State as machine
use Rattle.ifmap_subscribes.specs.ifmap_machine.State.{State, standing_in}
use Rattle.ifmap_subscribes.specs.ifmap_machine.Step.{step_ask}
use Rattle.ifmap_subscribes.specs.ifmap_machine.Subscribing.{most_names}
use Rattle.ifmap_subscribes.specs.ifmap_machine.Telling.{overflow}
use Rattle.ifmap_subscribes.specs.ifmap_pool.Holdings.{key_at}
use Rattle.ifmap_subscribes.specs.ifmap_publish.declared.who.Who.TheVariants.{Sessions}
use Rattle.ifmap_session.specs.ifmap_search.Sizes.{queue_size}
use Rattle.ifmap_session.specs.Sessions.{IsLive, Session, expired_serials, is_expired, session_order, session_with_serial, without_sessions}
use Rattle.ifmap_subscribes.specs.ifmap_standing.declared.standing.Standing.{Standing}
use Rattle.ifmap_subscribes.specs.ifmap_standing.Kept.{AtEach, KeepsSame, StaysRelated}
use Rattle.ifmap_subscribes.specs.ifmap_standing.Ways.{LeadBack, Way}
use Rattle.ifmap_subscribes.specs.ifmap_standing.Standing.{standing_of}
use Rattle.ifmap_subscribes.specs.declared.renamings.Renaming.{Renaming}
use Rattle.ifmap_subscribes.specs.Renamings.{starts_by, rename_all, told_so_far, KeepsNumbered}
use Rattle.ifmap_subscribes.specs.ifmap_tellings.declared.tellings.Pending.{Pending}
use Rattle.ifmap_subscribes.specs.ifmap_tellings.Tellings.{AllKept, Tellings, is_alone, kept_items}
use Rattle.ifmap_session.specs.laws.TableLaws.{found_serial, none_expired, is_left}
use Rattle.ifmap_subscribes.specs.ifmap_tellings.ToldLaws.{same_twice, same_kept}

-- ---- an event begins

module _ (a : Asking) (parts : Parts) (pending : Pending) (sound : AreParts parts) (can : CanEnd a.ended parts.sessions.live)
    (none : (n : ℕ) → get nat_cmp pending.tellings n ≡ None)
    (gone : map standing_of (kept_items pending.gone.items parts.standing.items)
    ≡ without_standing a.ended (map standing_of parts.standing.items)) where
  -- what is not gone is of a session that stays
  stay : AllKept (λ (x : Standing). list_any (λ n. n == x.serial) a.ended ≡ false) pending.gone.items parts.standing.items
  stay =
      all_kept (λ (x : Standing). list_any (λ n. n == x.serial) a.ended ≡ false) pending.gone.items parts.standing.items
      (all_of_map (λ (m : machine.Standing). list_any (λ n. n == m.serial) a.ended ≡ false) standing_of
      (kept_items pending.gone.items parts.standing.items)
      (subst (AllByRecursion (λ (m : machine.Standing). list_any (λ n. n == m.serial) a.ended ≡ false)) (sym gone)
      (unnot (map standing_of parts.standing.items))))
    where
      unnot : (xs : List machine.Standing)
          → AllByRecursion (λ (m : machine.Standing). list_any (λ n. n == m.serial) a.ended ≡ false) (without_standing a.ended xs)
      unnot [] = tt
      unnot (x ∷ xs) = elim (cases_Bool (list_any (λ n. n == x.serial) a.ended)) [
        | inl hit ↦ rw hit (unnot xs)
        | inr miss ↦ rw miss (miss, unnot xs)
      ]

  lives : (x : Standing) → list_any (λ n. n == x.serial) a.ended ≡ false → IsLive x.serial parts.sessions.live
      → IsLive x.serial (sessions_left a parts.sessions)
  lives x stays l =
      let s = some_is (session_with_serial x.serial parts.sessions.live) l in
      let same : s.0.serial ≡ x.serial = found_serial x.serial parts.sessions.live s.0 s.1 in
      is_some_of (session_with_serial x.serial (sessions_left a parts.sessions)) s.0
      (found_in_rest (λ (t : Session). t.serial == x.serial) (is_left a.ended) parts.sessions.live s.0 s.1
      (subst (λ (n : ℕ). not (list_any (λ m. m == n) a.ended) ≡ true) (sym same) (ap not stays)))

  pub begins_ready : length pending.gone.items ≡ length parts.standing.items → IsSoundSoFar a parts pending
  begins_ready flags = record {
    ended = can;
    ordered = sound.ordered;
    flags = flags;
    kept = all_are_kept (λ x. IsUpToDate (seen_now parts.graph) x.subscription) pending.gone.items parts.standing.items sound.kept;
    live = kept_both (λ (x : Standing). list_any (λ n. n == x.serial) a.ended ≡ false)
        (λ (x : Standing). IsLive x.serial parts.sessions.live)
        (λ (x : Standing). IsLive x.serial (sessions_left a parts.sessions)) lives pending.gone.items parts.standing.items stay
        (all_are_kept (λ (x : Standing). IsLive x.serial parts.sessions.live) pending.gone.items parts.standing.items sound.ordered.live);
    queues = sound.within;
    within = subst AreWithinLimits (sym (none_told pending.tellings none (sessions_left a parts.sessions)))
        (all_filter IsWithinLimit (is_left a.ended) parts.sessions.live sound.within);
    can_tell = λ n t e. absurd (none-some t (sym (none n) ∙ e));
    sized = λ n t e. absurd (none-some t (sym (none n) ∙ e));
    alone = λ n e. let bad : false ≡ true = ap is_alone (sym (none n)) ∙ e in cc;
  }

  pub begins_so_far : state_now a parts pending ≡ drop_sessions a.ended (state_at a.ttl a.moment parts)
  begins_so_far =
      ap (λ (l : List Session). record (state_now a parts pending) { sessions = l })
      (none_told pending.tellings none (sessions_left a parts.sessions))
      ∙ ap (λ (xs : List machine.Standing). record (drop_sessions a.ended (state_at a.ttl a.moment parts)) { standing = xs }) gone

-- what is gone, where nothing was
pub begins_gone : (was gone : List Bool) (own ended : List ℕ) (list xs : List Standing) → list ≡ xs → own ≡ ended
    → map standing_of (kept_items gone list) ≡ without_standing own (map standing_of (kept_items was list))
    → AllByRecursion (λ flag. flag ≡ false) was
    → length was ≡ length xs → map standing_of (kept_items gone xs) ≡ without_standing ended (map standing_of xs)
begins_gone was gone own ended list xs same one e none long =
    subst (λ (ys : List Standing). map standing_of (kept_items gone ys) ≡ without_standing ended (map standing_of (kept_items was ys))) same
    (subst (λ (ns : List ℕ). map standing_of (kept_items gone list) ≡ without_standing ns (map standing_of (kept_items was list))) one e)
    ∙ ap (λ (ys : List Standing). without_standing ended (map standing_of ys)) (none_gone was xs none long)

-- where none have ended, nothing goes
pub none_dropped : (state : State) → drop_sessions [] state ≡ state
none_dropped state =
    ap (λ (l : List Session). record state { sessions = l; standing = without_standing [] state.standing }) (without_none state.sessions)
    ∙ ap (λ (xs : List machine.Standing). record state { standing = xs }) (all_standing state.standing)
  where
    all_standing : (xs : List machine.Standing) → without_standing [] xs ≡ xs
    all_standing [] = refl
    all_standing (x ∷ xs) = ap (λ t. x ∷ t) (all_standing xs)

-- no telling, where there are no entries
pub no_entry : (tellings : Tellings) → tellings.entries ≡ [] → (n : ℕ) → get nat_cmp tellings n ≡ None
no_entry tellings e n =
    ap (λ es. lookup (is_at (nat_cmp n)) es) e

-- ---- sessions that are expired

pub some_expired : (moment ttl : ℕ) (live : List Session) → list_any (is_expired moment ttl) live ≡ true
    → expired_serials moment ttl live ≢ []
some_expired moment ttl [] e = cc
some_expired moment ttl (x ∷ live) e =
    elim (cases_Bool (is_expired moment ttl x)) [
      | inl hit ↦ rw hit (λ bad. cc bad)
      | inr miss ↦ rw miss (some_expired moment ttl live (rw miss at e))
    ]

pub expires_none : (state : State) → list_any (is_expired state.moment state.ttl) state.sessions ≡ false → expire state ≡ state
expires_none state e = ap (λ (ns : List ℕ). end_some ns state) (none_expired state.moment state.ttl state.sessions e)

ended_some : (serials : List ℕ) → serials ≢ [] → (state : State) → overflow (end_sessions serials state) ≡ end_some serials state
ended_some [] some state = absurd (some refl)
ended_some (n ∷ ns) some state = refl

expires_some : (state : State) (serials : List ℕ) → list_any (is_expired state.moment state.ttl) state.sessions ≡ true
    → serials ≡ expired_serials state.moment state.ttl state.sessions → overflow (end_sessions serials state) ≡ expire state
expires_some state serials any is =
    ap (λ (ns : List ℕ). overflow (end_sessions ns state)) is
    ∙ ended_some (expired_serials state.moment state.ttl state.sessions) (some_expired state.moment state.ttl state.sessions any) state

-- the state once they have ended: what is theirs was taken away by a list of the same serials
pub expires_by : (state : State) (serials listed : List ℕ) → list_any (is_expired state.moment state.ttl) state.sessions ≡ true
    → serials ≡ expired_serials state.moment state.ttl state.sessions → listed ≡ serials
    → (first next : State) → first ≡ drop_sessions serials state → next ≡ state_taken_from (Sessions listed) first → next ≡ expire state
expires_by state serials listed any is same first next dropped told =
    told ∙ ap (state_taken_from (Sessions listed)) dropped
    ∙ ap (λ (ns : List ℕ). state_taken_from (Sessions ns) (drop_sessions serials state)) same
    ∙ expires_some state serials any is

serials_rise : (live : List Session) → IsStrictlySortedBy session_order live → IsStrictlySortedBy nat_cmp
    (map (λ (s : Session). s.serial) live)
unfolding IsStrictlySortedBy
serials_rise [] up = tt
serials_rise (x ∷ live) up =
    (map_of_all (λ m. nat_cmp x.serial m ≡ Less) (λ (s : Session). s.serial) live up.0, serials_rise live up.1)

pub expired_rise : (moment ttl : ℕ) (live : List Session) → IsStrictlySortedBy session_order live
    → IsStrictlySortedBy nat_cmp (expired_serials moment ttl live)
expired_rise moment ttl live up =
    serials_rise (filter (is_expired moment ttl) live) (IsStrictlySortedBy-filter session_order (is_expired moment ttl) live up)

-- ---- a change stays as it is

module _ (a : Asking) (old new : Parts) (pending : Pending) (settled : IsSettled old new) (there : KeepsNumbered old.graph new.graph)
    (same : state_now a new pending ≡ state_now a old pending) where
  live_settled : (n : ℕ) → IsLive n (sessions_left a old.sessions) → IsLive n (sessions_left a new.sessions)
  live_settled n l = rw (settled.sessions) l

  bare_settled : (n : ℕ) → AllKept (λ (x : Standing). x.serial ≢ n) pending.gone.items old.standing.items
      → AllKept (λ (x : Standing). x.serial ≢ n) pending.gone.items new.standing.items
  bare_settled n h =
      same_kept (λ (x : Standing). x.serial ≢ n) (λ (x : Standing). x.serial ≢ n) (λ _. StaysRelated HasSameSearch)
      (λ i x y s other e. other (sym s.serial ∙ e)) pending.gone.items old.standing.items new.standing.items settled.searches h

  former_settled : (former : Option ℕ) → IfSome former (λ n. AllKept (λ (x : Standing). x.serial ≢ n) pending.gone.items old.standing.items)
      → IfSome former (λ n. AllKept (λ (x : Standing). x.serial ≢ n) pending.gone.items new.standing.items)
  former_settled None h = tt
  former_settled (Some n) h = bare_settled n h

  rename_settled : (serial : ℕ) (rs : List Renaming) → IsSteady new.graph (new.standing.items ++ starts_by rs)
      → CanRename serial rs a old pending → CanRename serial rs a new pending
  rename_settled serial rs steady c =
      let here = all_both (λ (x : Standing). key_at new.graph.names x.subscription.region.start ≡ Some x.subscription.search.start)
      new.standing.items (starts_by rs) steady.numbered in
      let back : (s : Session) → session_with_serial serial (state_now a new pending).sessions ≡ Some s
      → session_with_serial serial (state_now a old pending).sessions ≡ Some s =
      λ s e. ap (λ (st : State). session_with_serial serial st.sessions) (sym same) ∙ e in
      let told : (s : Session) → told_so_far a new pending s ≡ told_so_far a old pending s =
      λ s. ap (λ (st : State). record { queue = s.queue; standing = st.standing }) same in
      record {
        live = live_settled serial c.live;
        session = c.session;
        kept = all_there old.graph new.graph there (starts_by rs) here.1 c.kept;
        places = omega (arith, c.places, settled.len, settled.capacity);
        room = rw (settled.sessions) c.room;
        within = λ s e. subst (λ t. queue_size (rename_all serial rs t).queue ≤ s.limit) (sym (told s)) (c.within s (back s e));
        few = λ s e. subst (λ t. length (standing_in serial (rename_all serial rs t).standing) ≤ most_names) (sym (told s))
            (c.few s (back s e));
      }

  pub can_settled : (completion : Completion) → IsSteady new.graph (new.standing.items ++ starts_in completion)
      → CanApply completion a old pending
      → CanApply completion a new pending
  can_settled (Say answer) steady c = tt
  can_settled (Accept serial answer) steady c = live_settled serial c
  can_settled (End serial answer) steady c = (live_settled serial c.0, bare_settled serial c.1)
  can_settled (Open former opening limit publisher) steady c =
      (rw (settled.sessions) c.0, former_settled former c.1)
  can_settled (Rename serial rs) steady c = rename_settled serial rs steady c
  can_settled (Poll serial again) steady c = live_settled serial c

-- ---- a change that was made, after more

pub can_settle_later : (made : Made) (old new : Parts) → CanSettle made old → AreLaterParts old new → CanSettle made new
can_settle_later made old new c t = record {
  waits = t.waits (items_changed made.undo.plan.changes) c.waits;
  ways = omega (arith, c.ways, t.searches.long);
}

abbrev pub WaysStay : Type 0
WaysStay =
    (before now after : List Standing) (ways : List (Option Way)) → LeadBack before ways now → AtEach (λ _. StaysRelated KeepsSame) now
    after
    → LeadBack before ways after

pub can_back : WaysStay → (made : Made) (before old new : Parts) → KeepsNumbers before.graph old.graph → CanTakeBack made before old
    → AreKept old new → CanTakeBack made before new
can_back law made before old new numbers c k = record {
  graph = k.backs made.undo (rows_now before.graph) (links_now before.graph) c.graph;
  lean = λ rest l. k.back.lean (items_changed made.undo.plan.changes ++ rest) (c.lean rest l);
  numbers = shares_later before.graph old.graph new.graph numbers k.back.numbers;
  standing = law before.standing.items old.standing.items new.standing.items made.ways c.standing k.back.standing;
  sessions = same_twice before.sessions old.sessions new.sessions c.sessions k.back.sessions;
}

-- what would be, once nothing more is to stand
pub would_be : (parts : Parts) (more : List Standing) → more ≡ [] → AreParts parts → WouldBeParts more parts
would_be parts more none p = record {
  steady = subst (λ xs. IsSteady parts.graph (parts.standing.items ++ xs)) (sym none)
      (subst (IsSteady parts.graph) (sym (append-nil parts.standing.items)) p.steady);
  ordered = p.ordered;
  kept = p.kept;
  within = p.within;
}

-- an event that is done at once
pub done_leads : (ttl moment : ℕ) (old new : Parts) (event : Event) (ask : Ask) (completion : Completion) (answer : Answer)
    → IsStepCompletion old.sessions.live event ask completion → rows_now new.graph ≡ rows_now old.graph
    → ◌≡◌ {A = State × Answer} (after_completion completion (state_at ttl moment old)) (
      record (state_at ttl moment old) {
        counter = new.sessions.counter;
        sessions = new.sessions.live;
        standing = map standing_of new.standing.items;
      },
      answer,
    )
    → ◌≡◌ {A = State × Answer} (state_at ttl moment new, answer) (step_ask (state_at ttl moment old) event ask)
done_leads ttl moment old new event ask completion answer d rows e =
    ap (λ rs. (record (state_at ttl moment new) { graph = rs }, answer)) rows ∙ sym e ∙ d.done (state_at ttl moment old) refl
