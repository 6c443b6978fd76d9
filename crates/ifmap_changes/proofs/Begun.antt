-- A change of the graph comes to be out, and is given up or made.
-- First what keeps itself (`kept_itself`, `searched_twice`, `same_itself`), and what stands where nothing came to be out
-- (`kept_seen`). Then what is waited for (`awaits_these`), and what holds of the parts with a change out (`ready_begun`,
-- `same_so_far`), also once subscriptions were told of it (`IsOutAndTold`).
use Rattle.std.proofs.Common.{◌≡◌, ℕ, Some, refl, ◌∙◌, sym, subst}
use Rattle.std.proofs.lemmas.Option.{same_Some}
use Rattle.ifmap_lemmas.specs.Filters.{all_weaker}
use Rattle.ifmap_ident.specs.declared.identifiers.Identifier.{Identifier}
use Rattle.ifmap_lemmas.specs.Places.{all_got}
use Rattle.ifmap_graph.specs.ifmap_plans.declared.plans.Plan.{Plan}
use Rattle.ifmap_graph.specs.ifmap_plans.Plans.{AreWhole}
use Rattle.ifmap_graph.specs.ifmap_pool.Holdings.{key_at}
use Rattle.ifmap_graph.specs.declared.changes.Ready.{Ready}
use Rattle.ifmap_graph.specs.Back.{KeepsBacks}
use Rattle.ifmap_graph.specs.Inside.{GraphInside}
use Rattle.ifmap_graph.specs.Seen.{IsSeenSame, IsStill}
use Rattle.ifmap_tellings.specs.declared.tellings.Pending.{Pending}
use Rattle.ifmap_changes.specs.declared.parts.Parts.{Parts}
use Rattle.ifmap_changes.specs.Between.{AreKept, Asking, HasStartNumber, IsSoundSoFar, IsSteady, seen_now, state_now, starts_of}
use Rattle.ifmap_changes.specs.Changes.{IsBegun}
use Rattle.ifmap_changes.proofs.Settling.{ready_after}
use Rattle.ifmap_tellings.specs.ifmap_standing.PlaceLaws.{kept_itself, keep_searches}
use Rattle.ifmap_tellings.specs.ToldLaws.{same_sessions_itself}
use Rattle.ifmap_tellings.specs.ifmap_delta.SeenViews.{SameLinks}
use Rattle.ifmap_tellings.specs.ifmap_delta.SameSearches.{HasSameSearch}
use Rattle.ifmap_tellings.specs.ifmap_standing.Kept.{AtEach, StaysRelated}
use Rattle.ifmap_tellings.specs.Tellings.{HasSameSessions}

-- ---- what keeps itself

-- for want of memory nothing came to be out
pub kept_seen : (old : Parts) (new : GraphInside) → IsSteady old.graph old.standing.items → IsStill new → IsSeenSame old.graph new
    → KeepsBacks old.graph new → AreKept old (record { graph = new; sessions = old.sessions; standing = old.standing })
kept_seen old new steady still same backs = record {
  back = record {
    steady = record {
      still = still;
      whole = subst AreWhole (sym same.rows) steady.whole;
      own = λ a. same.own a (starts_of a old.standing.items) (steady.own a);
      numbered = all_weaker (HasStartNumber old.graph) (HasStartNumber new) (λ x e. same.numbers x.subscription.region.start ∙ e)
          old.standing.items steady.numbered;
    };
    rows = same.rows;
    links = same.links;
    numbers = λ v a b p q. same_Some b a (sym q ∙ same.numbers v ∙ p);
    lean = same.lean;
    standing = kept_itself old.standing.items;
    sessions = same_sessions_itself old.sessions;
  };
  backs = backs;
}

-- ---- items that are waited for

-- ---- a change is out

module _ (ready : Ready) (wanted : Plan) (old : Parts) (mid : GraphInside) (begun : IsBegun ready wanted old.graph mid) where
  -- the parts with the change out
  abbrev pub begun_parts : Parts
  begun_parts = record { graph = mid; sessions = old.sessions; standing = old.standing }

  pub one_identifier : (v : ℕ) (a b : Identifier) → key_at old.graph.names v ≡ Some a → key_at mid.names v ≡ Some b → b ≡ a
  one_identifier v a b e f = same_Some b a (sym f ∙ begun.numbers v a e)

  pub ready_begun : SameLinks → IsSteady old.graph old.standing.items → (a : Asking) (pending : Pending) → IsSoundSoFar a old pending
      → IsSoundSoFar a begun_parts pending
  ready_begun links steady a pending r =
      ready_after a old begun_parts pending refl (keep_searches old.standing.items old.standing.items (kept_itself old.standing.items))
      (λ i x e f. links (seen_now old.graph) (seen_now mid) x.subscription begun.before begun.now begun.rows begun.links one_identifier
      (begun.numbers x.subscription.region.start x.subscription.search.start
      (all_got (HasStartNumber old.graph) old.standing.items i x steady.numbered e)) (r.kept i x e f)) r

  pub same_so_far : (a : Asking) (pending : Pending) → state_now a begun_parts pending ≡ state_now a old pending
  same_so_far a pending = λ i. record (state_now a old pending) { graph = begun.rows i }

-- and as calls say it, of parts with that graph
pub ready_out : (ready : Ready) (wanted : Plan) (old mid : Parts) → IsBegun ready wanted old.graph mid.graph
    → mid.sessions ≡ old.sessions → mid.standing ≡ old.standing → SameLinks → IsSteady old.graph old.standing.items
    → (a : Asking) (pending : Pending) → IsSoundSoFar a old pending → IsSoundSoFar a mid pending
ready_out ready wanted old mid begun sessions standing links steady a pending r =
    let is : begun_parts ready wanted old mid.graph begun ≡ mid
    = λ i. record { graph = mid.graph; sessions = sym sessions i; standing = sym standing i }
    in subst (λ p. IsSoundSoFar a p pending) is (ready_begun ready wanted old mid.graph begun links steady a pending r)

-- the change came to be out, and the subscriptions were told of it: the parts are the first, and then the last
pub record IsOutAndTold (ready : Ready) (wanted : Plan) (old mid to : Parts) : Type 0 where
  pub begun : IsBegun ready wanted old.graph mid.graph
  pub was_sessions : mid.sessions ≡ old.sessions
  pub was_standing : mid.standing ≡ old.standing
  pub graph : to.graph ≡ mid.graph
  pub same : AtEach (λ _. StaysRelated HasSameSearch) mid.standing.items to.standing.items
  pub sessions : HasSameSessions mid.sessions to.sessions
