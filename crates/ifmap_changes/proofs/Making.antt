-- A change that is out is made, or given up, once subscriptions were told of it.
-- First what the calls said of the parts, as of those before (`IsOutAndTold`), and that its items are waited for (`awaits_told`). Then what
-- is seen once it is made (`Commits`), and each clause of a change that was made: what stays whole and steady (`steady_made`), that
-- the parts are later ones (`later_made`), the way back (`back_made`), what is told (`told_made`) and what is ready (`ready_made`,
-- `bare_made`). Last, what stands once it is given up (`Forgets`, `given_up`).
use Rattle.std.proofs.Common.{◌≡◌, ◌≢◌, ℕ, Option, List, [], ◌++◌, map, ap, ◌∙◌, sym, subst}
use Rattle.std.proofs.lemmas.Option.{same_Some}
use Rattle.ifmap_lemmas.specs.Filters.{all_weaker}
use Rattle.ifmap_lemmas.specs.Flags.{kept_later}
use Rattle.ifmap_lemmas.specs.Members.{map_of_all}
use Rattle.ifmap_tellings.specs.ifmap_delta.SeenViews.{IsUpToDate, SameLinks}
use Rattle.ifmap_tellings.specs.ifmap_delta.SameSearches.{HasSameSearch}
use Rattle.ifmap_tellings.specs.ifmap_machine.Telling.{overflow, overflow_session, tell, tell_session, told_in_session}
use Rattle.ifmap_graph.specs.ifmap_plans.declared.plans.Plan.{Plan}
use Rattle.ifmap_graph.specs.ifmap_plans.Plans.{AreWhole, Fits, IsAfter}
use Rattle.ifmap_graph.specs.ifmap_pool.Holdings.{key_at}
use Rattle.ifmap_tellings.specs.ifmap_session.Sessions.{IsLive, Session, SessionTable}
use Rattle.ifmap_tellings.specs.ifmap_standing.Kept.{AtEach, KeepsSame, StaysRelated}
use Rattle.ifmap_tellings.specs.ifmap_standing.Standing.{standing_of}
use Rattle.ifmap_tellings.specs.ifmap_standing.Ways.{LeadBack, Way}
use Rattle.ifmap_graph.specs.ifmap_view.declared.attachments.Attachment.{Attachment}
use Rattle.ifmap_graph.specs.ifmap_view.declared.views.LinkSeen.{LinkSeen}
use Rattle.ifmap_graph.specs.ifmap_view.Attachments.{IsGraph}
use Rattle.ifmap_ident.specs.declared.identifiers.Identifier.{Identifier}
use Rattle.ifmap_graph.specs.declared.changes.Ready.{Ready}
use Rattle.ifmap_graph.specs.declared.changes.Undo.{Undo}
use Rattle.ifmap_graph.specs.Back.{IsUndoTo, KeepsOtherBacks}
use Rattle.ifmap_graph.specs.Inside.{GraphInside, IsOwn}
use Rattle.ifmap_graph.specs.Out.{items_changed}
use Rattle.ifmap_graph.specs.Seen.{AreAwaited, AwaitsMore, BringsNoNumbers, IsLean, IsStill, KeepsNumbers, KeepsOwn, StaysLean, StaysLeanWith, StaysLeanWithout, links_next, links_now, rows_next, rows_now}
use Rattle.ifmap_tellings.specs.declared.tellings.Pending.{Pending}
use Rattle.ifmap_tellings.specs.Tellings.{AreWide, HasSameSessions, IsWide, kept_items, tell_by}
use Rattle.ifmap_changes.specs.declared.parts.Parts.{Parts}
use Rattle.ifmap_changes.specs.Between.{AreKept, AreOrdered, AreLaterPartsWith, AreWithinLimits, Asking, CanEnd, HasNoSubscriptions, IsSoundSoFar, IsSteady, IsWithinLimit, sessions_left, seen_now, state_now, starts_of}
use Rattle.ifmap_changes.specs.Changes.{CanTakeBack, IsTold, seen_next, with_next}
use Rattle.ifmap_changes.proofs.Begun.{IsOutAndTold, ready_begun, same_so_far, one_identifier}
use Rattle.ifmap_changes.proofs.Starts.{numbered_beside, numbered_more, own_beside}
use Rattle.ifmap_changes.proofs.OneGraph.{one_graph}
use Rattle.ifmap_changes.proofs.Settling.{same_ordered}
use Rattle.ifmap_changes.proofs.Steady.{numbered_still}
use Rattle.ifmap_changes.proofs.Told.{overflow_within}
use Rattle.ifmap_graph.specs.ifmap_plans.laws.OnItemLaws.{whole_after}
use Rattle.ifmap_graph.specs.NumberLaws.{awaits_these}
use Rattle.ifmap_ident.specs.SameLaws.{BytesTellIdentifiers}

-- ---- the parts, as they were called, and as of those before

module _ {ready : Ready} {wanted : Plan} {old mid to : Parts} (out : IsOutAndTold ready wanted old mid to) where
  -- the parts with the change out, before subscriptions were told and after
  abbrev first : Parts
  first = record { graph = mid.graph; sessions = old.sessions; standing = old.standing }

  abbrev last : Parts
  last = record { graph = mid.graph; sessions = to.sessions; standing = to.standing }

  first_is : mid ≡ first
  first_is = λ i. record { graph = mid.graph; sessions = out.was_sessions i; standing = out.was_standing i }

  last_is : to ≡ last
  last_is = λ i. record { graph = out.graph i; sessions = to.sessions; standing = to.standing }

  searches_stay : AtEach (λ _. StaysRelated HasSameSearch) old.standing.items to.standing.items
  searches_stay = subst (λ (p : Parts). AtEach (λ _. StaysRelated HasSameSearch) p.standing.items to.standing.items) first_is out.same

  sessions : HasSameSessions old.sessions to.sessions
  sessions = subst (λ (t : SessionTable). HasSameSessions t to.sessions) out.was_sessions out.sessions

  awaits_out : AreAwaited (items_changed wanted.changes) mid.graph
  awaits_out = awaits_these (items_changed wanted.changes) old.graph mid.graph out.begun.waits

  -- the items of the change are waited for
  pub awaits_told : AreAwaited (items_changed ready.plan.changes) to.graph
  awaits_told = subst (AreAwaited (items_changed ready.plan.changes)) (sym out.graph)
      (subst (λ (p : Plan). AreAwaited (items_changed p.changes) mid.graph) (sym out.begun.plan) awaits_out)

-- ---- the change is made

-- what was to be is
pub record Commits (plan : Plan) (old new : GraphInside) (undo : Undo) : Type 0 where
  pub rows : rows_now new ≡ rows_next old
  pub links : (v : ℕ) → links_now new v ≡ links_next old v
  pub names : new.names ≡ old.names
  pub still : IsStill new
  pub own : KeepsOwn old new
  pub waits : AwaitsMore [] old new
  pub lean : AreAwaited (items_changed plan.changes) old → StaysLean old new
  pub same : undo.plan ≡ plan
  pub back : AreAwaited (items_changed plan.changes) old → IsUndoTo undo (rows_now old) (links_now old) new

module _ {ready : Ready} {wanted : Plan} {old mid to : Parts} (out : IsOutAndTold ready wanted old mid to) {g : GraphInside} {undo : Undo}
    (commits : Commits ready.plan to.graph g undo) where
  -- the parts once it is made
  abbrev new : Parts
  new = record { graph = g; sessions = to.sessions; standing = to.standing }

  commits_wanted : Commits wanted mid.graph g undo
  commits_wanted = subst (λ p. Commits p mid.graph g undo) out.begun.plan (subst (λ h. Commits ready.plan h g undo) out.graph commits)

  sight_made : seen_next mid.graph ≡ seen_now g
  sight_made = λ i. record {
    rows = sym commits_wanted.rows i;
    id_at = λ v. key_at (sym commits_wanted.names i) v;
    links = λ v. sym (commits_wanted.links v) i;
  }

  after_now : IsAfter wanted.changes (rows_now old.graph) (rows_next mid.graph)
  after_now = subst (λ rows. IsAfter wanted.changes rows (rows_next mid.graph)) out.begun.rows out.begun.change.after

  pub numbers_made : KeepsNumbers old.graph g
  numbers_made v x e = ap (λ n. key_at n v) commits_wanted.names ∙ out.begun.numbers v x e

  whole_made : Fits (rows_now old.graph) wanted.changes → AreWhole (rows_now old.graph) → AreWhole (rows_now g)
  whole_made fits whole = subst AreWhole (sym commits_wanted.rows)
      (whole_after (rows_now old.graph) (rows_next mid.graph) wanted.changes fits after_now whole)

  pub steady_made : IsSteady old.graph old.standing.items → Fits (rows_now old.graph) wanted.changes → IsSteady g to.standing.items
  steady_made steady fits = record {
    still = commits_wanted.still;
    whole = whole_made fits steady.whole;
    own = own_beside g old.standing.items to.standing.items (searches_stay out) (λ x. commits_wanted.own x (starts_of x old.standing.items)
        (out.begun.own x (starts_of x old.standing.items) (steady.own x)));
    numbered = numbered_beside g old.standing.items to.standing.items (searches_stay out)
        (numbered_more old.graph g old.standing.items numbers_made steady.numbered);
  }

  lean_made : StaysLeanWith (items_changed undo.plan.changes) old.graph g
  lean_made rest l = subst (λ (p : Plan). IsLean (items_changed p.changes ++ rest) g) (sym commits_wanted.same)
      (commits_wanted.lean (awaits_out out) (items_changed wanted.changes ++ rest) (out.begun.lean rest l))

  pub later_made : AreLaterPartsWith (items_changed undo.plan.changes) old new
  later_made = record {
    waits = λ rest w. subst (λ (p : Plan). AreAwaited (items_changed p.changes ++ rest) g) (sym commits_wanted.same)
        (commits_wanted.waits (items_changed wanted.changes ++ rest) (out.begun.waits rest w));
    lean = lean_made;
    searches = searches_stay out;
    sessions = sessions out;
  }

  pub back_made : (ways : List (Option Way)) → LeadBack mid.standing.items ways to.standing.items
      → CanTakeBack (record { undo = undo; ways = ways }) old new
  back_made ways lead = record {
    graph = subst (λ rows. IsUndoTo undo rows (links_now old.graph) g) out.begun.rows
        (subst (λ (links : ℕ → List LinkSeen). IsUndoTo undo (rows_now mid.graph) links g) (λ i v. out.begun.links v i)
        (commits_wanted.back (awaits_out out)));
    lean = lean_made;
    numbers = λ v x y e f. same_Some y x (sym f ∙ numbers_made v x e);
    standing = subst (λ (p : Parts). LeadBack p.standing.items ways to.standing.items) (first_is out) lead;
    sessions = sessions out;
  }

  module _ {a : Asking} {before after : Pending} (same_links : SameLinks) (steady : IsSteady old.graph old.standing.items)
      (sound : IsSoundSoFar a old before) (news : IsTold a mid before ready.plan.notes to after) where
    r : IsSoundSoFar a (first out) before
    r = ready_begun ready wanted old mid.graph out.begun same_links steady a before sound

    told : IsTold a (first out) before wanted.notes (last out) after
    told =
        subst (λ p. IsTold a p before wanted.notes (last out) after) (first_is out)
        (subst (λ p. IsTold a mid before wanted.notes p after) (last_is out)
        (subst (λ (p : Plan). IsTold a mid before p.notes to after) out.begun.plan news))

    pub told_made : BytesTellIdentifiers → (rows : List Attachment) → IsGraph rows → IsAfter wanted.changes (rows_now old.graph) rows
        → state_now a new after ≡ overflow (tell rows wanted.notes (state_now a old before))
    told_made tells rows graph is =
        let one : rows_next mid.graph ≡ rows
        = one_graph tells (rows_next mid.graph) rows out.begun.next.graph graph (λ x. after_now x ∙ sym (is x))
        in let made_now : state_now a new after ≡ with_next a (last out) after
        = (λ i. record (with_next a (last out) after) { graph = commits_wanted.rows i })
        in made_now ∙ told.state
        ∙ (λ i. overflow (tell (one i) wanted.notes (same_so_far ready wanted old mid.graph out.begun a before i)))

    pub bare_made : (n : ℕ) → HasNoSubscriptions n old before → HasNoSubscriptions n new after
    bare_made n bare = kept_later (λ x. x.serial ≢ n) (λ x. x.serial ≢ n) before.gone.items after.gone.items old.standing.items
        to.standing.items r.flags (searches_stay out).long
        (λ i x y p q other e. other (sym ((searches_stay out).at i x y p q).serial ∙ e)) told.gone bare

    -- no queue is greater than its limit once all is told
    within_made : AreWithinLimits (map (tell_by after.tellings) (sessions_left a to.sessions))
    within_made =
        let some = map (tell_by before.tellings) (sessions_left a old.sessions)
        in let those = map standing_of (kept_items before.gone.items old.standing.items)
        in let tells_it : Session → Session = λ s. tell_session
        (told_in_session (rows_now mid.graph) (rows_next mid.graph) wanted.notes those s.serial) s
        in let wide : AreWide (map tells_it some)
        = map_of_all (λ (s : Session). IsWide s.limit) tells_it some
        (all_weaker IsWithinLimit (λ s. IsWide s.limit) (λ s w. w.wide) some r.within)
        in subst AreWithinLimits (sym (ap (λ s. s.sessions) told.state))
        (map_of_all IsWithinLimit overflow_session (map tells_it some)
        (all_weaker (λ (s : Session). IsWide s.limit) (λ s. IsWithinLimit (overflow_session s)) overflow_within (map tells_it some) wide))

    pub ready_made : IsSoundSoFar a new after
    ready_made = record {
      ended = subst (CanEnd a.ended) (sym (sessions out).live) r.ended;
      ordered = subst (λ live. AreOrdered live to.standing.items) (sym (sessions out).live)
          (same_ordered old.sessions.live old.standing.items to.standing.items (searches_stay out) r.ordered);
      flags = told.flags;
      kept = λ i x e f. subst (λ s. IsUpToDate s x.subscription) sight_made (told.kept i x e f);
      live = kept_later (λ x. IsLive x.serial (sessions_left a old.sessions))
          (λ x. IsLive x.serial (sessions_left a to.sessions)) before.gone.items
          after.gone.items old.standing.items to.standing.items r.flags (searches_stay out).long
          (λ i x y p q l. subst (λ live. IsLive y.serial (sessions_left a (record to.sessions { live = live }))) (sym (sessions out).live)
          (subst (λ n. IsLive n (sessions_left a old.sessions)) (sym ((searches_stay out).at i x y p q).serial) l)) told.gone r.live;
      queues = subst AreWithinLimits (sym (sessions out).live) r.queues;
      within = within_made;
      can_tell = told.can_tell;
      sized = told.sized;
      alone = told.alone;
    }

-- ---- the change is given up

-- what was to be is not
pub record Forgets (plan : Plan) (old new : GraphInside) : Type 0 where
  pub still : IsStill new
  pub rows : rows_now new ≡ rows_now old
  pub links : (v : ℕ) → links_now new v ≡ links_now old v
  pub numbers : BringsNoNumbers old new
  pub own : KeepsOwn old new
  pub lean : StaysLeanWithout (items_changed plan.changes) old new
  pub backs : KeepsOtherBacks (items_changed plan.changes) old new

module _ {ready : Ready} {wanted : Plan} {old mid to : Parts} (out : IsOutAndTold ready wanted old mid to) {g : GraphInside}
    (forgets : Forgets ready.plan to.graph g) where
  forgets_wanted : Forgets wanted mid.graph g
  forgets_wanted = subst (λ p. Forgets p mid.graph g) out.begun.plan (subst (λ h. Forgets ready.plan h g) out.graph forgets)

  pub given_up : BytesTellIdentifiers → IsSteady old.graph old.standing.items
      → AtEach (λ _. StaysRelated KeepsSame) mid.standing.items to.standing.items
      → AreKept old (record { graph = g; sessions = to.sessions; standing = to.standing })
  given_up tells steady keep =
      let begun = out.begun
      in let rows : rows_now g ≡ rows_now old.graph = forgets_wanted.rows ∙ begun.rows
      in let kept = subst (λ (p : Parts). AtEach (λ _. StaysRelated KeepsSame) p.standing.items to.standing.items) (first_is out) keep
      in let own : (x : Identifier) → IsOwn g x (starts_of x old.standing.items)
      = λ x. forgets_wanted.own x (starts_of x old.standing.items) (begun.own x (starts_of x old.standing.items) (steady.own x))
      in let numbered = numbered_still tells mid.graph g begun.now forgets_wanted.numbers old.standing.items
      (numbered_more old.graph mid.graph old.standing.items begun.numbers steady.numbered) own
      in record {
        back = record {
          steady = record {
            still = forgets_wanted.still;
            whole = subst AreWhole (sym rows) steady.whole;
            own = own_beside g old.standing.items to.standing.items (searches_stay out) own;
            numbered = numbered_beside g old.standing.items to.standing.items (searches_stay out) numbered;
          };
          rows = rows;
          links = λ v. forgets_wanted.links v ∙ begun.links v;
          numbers = λ v x y e f. one_identifier ready wanted old mid.graph begun v x y e (forgets_wanted.numbers v y f);
          lean = λ rest l. forgets_wanted.lean rest (begun.lean rest l);
          standing = kept;
          sessions = sessions out;
        };
        backs = λ u rows links b. forgets_wanted.backs u rows links (begun.waits (items_changed u.plan.changes) b.waits)
            (begun.backs u rows links b);
      }
