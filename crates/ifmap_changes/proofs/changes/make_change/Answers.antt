use Rattle.std.proofs.Common.{◌≢◌, ◌∙◌, [], append-nil, subst, sym}
use Rattle.ifmap_lemmas.specs.Flags.{kept_later}
use Rattle.ifmap_tellings.specs.ifmap_session.Sessions.{SessionTable}
use Rattle.ifmap_tellings.specs.Tellings.{HasSameSessions}
use Rattle.ifmap_changes.specs.Between.{IsSteady}
use Rattle.ifmap_changes.proofs.Exits.{no_plan}
use Rattle.ifmap_changes.proofs.Taken.{can_settle}
use Rattle.ifmap_changes.proofs.changes.make_change.Goals as goal
use Rattle.ifmap_tellings.specs.ifmap_standing.PlaceLaws.{searched_twice}

pub settle_made-requires-clause-steady : goal.settle_made-requires-clause-steady
settle_made-requires-clause-steady g c =
    let mid = c.make_kept.new.parts
    in ([], subst (IsSteady mid.graph) (sym (append-nil mid.standing.items)) c.in_ok-made.ensures.ways.changed.steady)

pub settle_made-requires-clause-can : goal.settle_made-requires-clause-can
settle_made-requires-clause-can g c =
    can_settle c.in_ok-made.made c.args.parts.now c.make_kept.new.parts c.in_ok-made.ensures.ways.back

pub returns-clause-changed : goal.returns-clause-changed
returns-clause-changed g c =
    let made = c.in_ok-made.ensures.ways.changed
    in let mid = c.make_kept.new.parts
    in let new = c.settle_made.new.parts
    in let settled = c.settle_made.ensures.settled
    in record {
      steady = subst (IsSteady new.graph) (append-nil new.standing.items) (c.settle_made.ensures.steady []
          (subst (IsSteady mid.graph) (sym (append-nil mid.standing.items)) made.steady));
      ready = c.settle_made.ensures.ready c.args.asking.now c.make_kept.new.pending made.ready;
      later = record {
        waits = λ rest w. c.settle_made.ensures.waits rest (made.later.waits rest w);
        lean = λ rest l. c.settle_made.ensures.lean rest (made.later.lean rest l);
        searches = searched_twice c.args.parts.now.standing.items mid.standing.items new.standing.items made.later.searches
            settled.searches;
        sessions = subst (λ (t : SessionTable). HasSameSessions c.args.parts.now.sessions t) (sym settled.sessions)
            made.later.sessions;
      };
    }

pub returns-clause-tells : goal.returns-clause-tells
returns-clause-tells g c =
    let made = c.in_ok-made.ensures
    in let same = c.settle_made.ensures.settled.searches
    in let gone = c.make_kept.new.pending.gone.items
    in record {
      told = λ rows graph after.
          c.settle_made.ensures.state_now c.args.asking.now c.make_kept.new.pending ∙ made.tells.told rows graph after;
      bare = λ n bare.
          kept_later (λ x. x.serial ≢ n) (λ x. x.serial ≢ n) gone gone c.make_kept.new.parts.standing.items
          c.settle_made.new.parts.standing.items made.ways.changed.ready.flags same.long
          (λ i x y p q other e. other (sym (same.at i x y p q).serial ∙ e)) (λ i e. e) (made.tells.bare n bare);
      kept = tt;
    }

pub returns-in_err-made-clause-tells : goal.returns-in_err-made-clause-tells
returns-in_err-made-clause-tells g c = no_plan c.from_residual.result c.from_residual.ensures.0 c.in_err-made.ensures.tells.kept
