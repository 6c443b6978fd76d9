-- The steps of a change. What is told to each that is not gone is told to all that stand (`within_kept`), and a change that is out shows
-- what is before it and after it with one numbering (`told_within`). Then the end of a session (`ended_within`).
use Rattle.std.proofs.Common.{◌≡◌, refl, ap, sym, ◌∙◌, subst, inl, inr, ℕ, ◌≤◌, Bool, true, false, Some, List, [], ◌∷◌, map, arith}
use Rattle.std.specs.List.{AllByRecursion, zip}
use Rattle.ifmap_tellings.specs.ifmap_delta.SeenViews.{ViewSeen}
use Rattle.ifmap_graph.specs.declared.changes.Ready.{Ready}
use Rattle.ifmap_graph.specs.Seen.{rows_next, rows_now}
use Rattle.ifmap_tellings.specs.ifmap_machine.Ending.{without_standing}
use Rattle.ifmap_tellings.specs.ifmap_machine.State as machine
use Rattle.ifmap_tellings.specs.ifmap_machine.State.{State}
use Rattle.ifmap_graph.specs.ifmap_plans.declared.plans.Plan.{Plan}
use Rattle.ifmap_graph.specs.ifmap_plans.Plans.{IsAfter}
use Rattle.ifmap_tellings.specs.ifmap_publish.declared.who.Who.TheVariants.{Sessions}
use Rattle.ifmap_tellings.specs.ifmap_standing.Bounds.{IsWithinEach}
use Rattle.ifmap_tellings.specs.ifmap_standing.declared.standing.Standing.{Standing}
use Rattle.ifmap_tellings.specs.ifmap_standing.Standing.{standing_of}
use Rattle.ifmap_tellings.specs.declared.tellings.Pending.{Pending}
use Rattle.ifmap_tellings.specs.Tellings.{kept_items}
use Rattle.ifmap_graph.specs.ifmap_view.declared.attachments.Attachment.{Attachment}
use Rattle.ifmap_changes.specs.declared.parts.Parts.{Parts}
use Rattle.ifmap_changes.specs.Between.{Asking, IsSteady, seen_now, state_now}
use Rattle.ifmap_changes.specs.Bounds.{IsEndedWithin, IsPlanWithin, IsTakenWithin, IsWithinAll, IsWithinOne}
use Rattle.ifmap_changes.specs.Changes.{seen_next}
use Rattle.ifmap_changes.proofs.Begun.{IsOutAndTold}
use Rattle.ifmap_changes.proofs.OneGraph.{one_graph}
use Rattle.ifmap_changes.proofs.Starts.{numbered_more}
use Rattle.ifmap_ident.specs.SameLaws.{BytesTellIdentifiers}

module _ (old new : ViewSeen) where
  -- from more steps at the beginning
  lower_one : (x : machine.Standing) (b a c : ℕ) → b ≤ a → IsWithinOne old new x b c → IsWithinOne old new x a c
  lower_one x b a c less t = (
    t.0,
    t.1,
    record {
      numbers = t.2.numbers;
      distinct = t.2.distinct;
      among = t.2.among;
      bound = omega (arith, less, t.2.bound);
    },
  )

  lower : (xs : List machine.Standing) (b a c : ℕ) → b ≤ a → IsWithinAll old new xs b c → IsWithinAll old new xs a c
  lower [] b a c less t = omega (arith, less, t)
  lower (x ∷ xs) b a c less t = (t.0, lower_one x b a t.0 less t.1, t.2)

  -- what is gone takes no step
  within_kept : (gone : List Bool) (xs : List Standing) (a b : ℕ)
      → AllByRecursion (λ (x : Standing). old.id_at x.subscription.region.start ≡ Some x.subscription.search.start) xs
      → IsWithinEach old new (zip gone xs) a b → IsWithinAll old new (map standing_of (kept_items gone xs)) a b
  within_kept [] xs a b numbered s = s
  within_kept (g ∷ gone) [] a b numbered s = s
  within_kept (true ∷ gone) (x ∷ xs) a b numbered s =
      lower (map standing_of (kept_items gone xs)) s.0 a b s.1 (within_kept gone xs s.0 b numbered.1 s.2)
  within_kept (false ∷ gone) (x ∷ xs) a b numbered s =
      (s.0, (x.subscription.region.start, numbered.0, s.1), within_kept gone xs s.0 b numbered.1 s.2)

-- a change that is out was told to all that stand
pub told_within : {ready : Ready} {wanted : Plan} {old mid to : Parts} → IsOutAndTold ready wanted old mid to → BytesTellIdentifiers
    → IsSteady old.graph old.standing.items → (a : Asking) (before : Pending) (from till : ℕ)
    → IsWithinEach (seen_now mid.graph) (seen_next mid.graph) (zip before.gone.items mid.standing.items) from till
    → IsPlanWithin wanted (state_now a old before) from till
told_within {ready} {wanted} {old} {mid} {to} out tells steady a before from till spent = λ rows graph after.
    let g = mid.graph
    in let begun = out.begun
    in let after_now : IsAfter wanted.changes (rows_now old.graph) (rows_next g)
    = subst (λ (was : List Attachment). IsAfter wanted.changes was (rows_next g)) begun.rows begun.change.after
    in let one : rows_next g ≡ rows = one_graph tells (rows_next g) rows begun.next.graph graph (λ x. after_now x ∙ sym (after x))
    in inr (
      seen_now g,
      seen_next g,
      record { before = begun.now; after = begun.next; rows = begun.rows; next = one; numbers = λ v. refl },
      within_kept (seen_now g) (seen_next g) before.gone.items old.standing.items from till
          (numbered_more old.graph g old.standing.items begun.numbers steady.numbered)
          (subst (λ (l : List Standing). IsWithinEach (seen_now g) (seen_next g) (zip before.gone.items l) from till)
          (ap (λ v. v.items) out.was_standing) spent),
    )

-- ---- the end of a session

pub ended_none : (serial : ℕ) (state : State) (n : ℕ) → IsEndedWithin (serial ∷ []) state n n
ended_none serial state n = (n, omega arith, inl (omega arith))

-- its subscriptions are flagged, and what was to stay as long as it is taken away
pub ended_within : (a : Asking) (parts : Parts) (before flagged : Pending) (serial : ℕ) (serials : List ℕ) (from to : ℕ)
    → serials ≡ serial ∷ []
    → map standing_of (kept_items flagged.gone.items parts.standing.items)
    ≡ without_standing (serial ∷ []) (map standing_of (kept_items before.gone.items parts.standing.items))
    → IsTakenWithin (Sessions serials) (state_now a parts flagged) from to
    → IsEndedWithin (serial ∷ []) (state_now a parts before) from to
ended_within a parts before flagged serial serials from to one left spent =
    subst (λ (xs : List machine.Standing). IsTakenWithin (Sessions (serial ∷ []))
    (record (state_now a parts flagged) { standing = xs }) from to) left
    (subst (λ (ns : List ℕ). IsTakenWithin (Sessions ns) (state_now a parts flagged) from to) one spent)
