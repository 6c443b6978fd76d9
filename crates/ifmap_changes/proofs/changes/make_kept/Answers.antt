use Rattle.std.proofs.Common.{inl, arith}
use Rattle.ifmap_changes.specs.Between.{state_now}
use Rattle.ifmap_changes.specs.Bounds.{IsPlanWithin}
use Rattle.ifmap_changes.proofs.Begun.{IsOutAndTold, ready_out}
use Rattle.ifmap_changes.proofs.Exits.{no_plan}
use Rattle.ifmap_changes.proofs.Making.{Commits, awaits_told, back_made, bare_made, given_up, numbers_made, ready_made, steady_made, told_made, later_made}
use Rattle.ifmap_changes.proofs.Spending.{told_within}
use Rattle.ifmap_changes.proofs.changes.make_kept.Given as given
use Rattle.ifmap_changes.proofs.changes.make_kept.Goals as goal
use Rattle.ifmap_changes.proofs.changes.make_kept.Goals.{After-tell_parts}

-- what the two calls did
out : (g : given.Over) (c : After-tell_parts g)
    → IsOutAndTold c.in_ok-ready.ready c.args.plan c.args.parts.now c.begin_change.new.parts c.tell_parts.new.parts
out g c = record {
  begun = c.in_ok-ready.ensures.begun;
  was_sessions = c.begin_change.ensures.sessions;
  was_standing = c.begin_change.ensures.standing;
  graph = c.tell_parts.ensures.keeps.graph;
  same = c.tell_parts.ensures.keeps.same;
  sessions = c.tell_parts.ensures.sessions;
}

-- the steps, whichever way the telling ended
spent : (g : given.Over) (c : After-tell_parts g)
    → IsPlanWithin c.args.plan (state_now c.args.asking.now c.args.parts.now c.args.pending.now) c.args.steps.now c.tell_parts.new.steps
spent g c = told_within (out g c) c.bytes_tell_identifiers_apart.ensures c.requires.can.steady c.args.asking.now
    c.args.pending.now c.args.steps.now c.tell_parts.new.steps c.tell_parts.ensures.steps

pub tell_parts-requires-clause-ready : goal.tell_parts-requires-clause-ready
tell_parts-requires-clause-ready g c =
    ready_out c.in_ok-ready.ready c.args.plan c.args.parts.now c.begin_change.new.parts c.in_ok-ready.ensures.begun
    c.begin_change.ensures.sessions c.begin_change.ensures.standing c.same_links_keep_subscriptions.ensures c.requires.can.steady
    c.args.asking.now c.args.pending.now c.requires.can.ready

pub forget-requires-clause-waits : goal.forget-requires-clause-waits
forget-requires-clause-waits g c = awaits_told (out g (goal.at.forget-requires-clause-waits g c).After-tell_parts)

pub returns-in-Ok : goal.returns-in-Ok
returns-in-Ok g c =
    let place = (goal.at.returns-in-Ok g c).After-tell_parts
    in let links = c.same_links_keep_subscriptions.ensures
    in let can = c.requires.can
    in let told = c.in-Ok.ensures.told
    in let e = c.commit_kept-undo.ensures
    in let made : Commits c.in_ok-ready.ready.plan c.tell_parts.new.parts.graph c.commit_kept-undo.new.self c.commit_kept-undo.result
    = record {
      rows = e.now;
      links = e.links;
      names = e.names;
      still = e.still;
      own = e.own;
      waits = e.waits;
      lean = e.lean;
      same = e.plan;
      back = e.back;
    }
    in record {
      tells = record {
        told = told_made (out g place) made links can.steady can.ready told c.bytes_tell_identifiers_apart.ensures;
        bare = bare_made (out g place) made links can.steady can.ready told;
        kept = tt;
      };
      ways = record {
        changed = record {
          steady = steady_made (out g place) made can.steady can.fits;
          ready = ready_made (out g place) made links can.steady can.ready told;
          later = later_made (out g place) made;
        };
        back = back_made (out g place) made c.in-Ok.ways c.in-Ok.ensures.ways;
        numbers = numbers_made (out g place) made;
      };
      steps = spent g place;
    }

pub returns-in-Err-clause-tells : goal.returns-in-Err-clause-tells
returns-in-Err-clause-tells g c =
    let place = (goal.at.returns-in-Err-clause-tells g c).After-tell_parts
    in let e = c.forget.ensures
    in record {
      told = tt;
      bare = tt;
      kept = given_up (out g place) (record {
        still = e.done.still;
        rows = e.now;
        links = e.links;
        numbers = e.done.numbers;
        own = e.done.own;
        lean = e.done.lean;
        backs = e.backs;
      }) c.bytes_tell_identifiers_apart.ensures c.requires.can.steady c.in-Err.ensures.keeps.err;
    }

pub returns-in_err-ready-clause-tells : goal.returns-in_err-ready-clause-tells
returns-in_err-ready-clause-tells g c = no_plan c.from_residual.result c.from_residual.ensures.0 c.in_err-ready.ensures.kept

pub returns-in-Err-clause-steps : goal.returns-in-Err-clause-steps
returns-in-Err-clause-steps g c = spent g (goal.at.returns-in-Err-clause-steps g c).After-tell_parts

pub returns-in_err-ready-clause-steps : goal.returns-in_err-ready-clause-steps
returns-in_err-ready-clause-steps g c = λ rows graph after. inl (omega arith)
