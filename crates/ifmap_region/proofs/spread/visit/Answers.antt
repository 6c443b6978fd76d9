use Rattle.std.proofs.Common.{◌<◌, sym, ◌∙◌, refl, arith, true≢false}
use Rattle.std.proofs.lemmas.List.Sums.{sum_by-cons}
use Rattle.std.specs.Prelude.{Contains}
use Rattle.ifmap_region.proofs.Falling.{ready_scanned, charged_fewer, queue_out, queue_in}
use Rattle.ifmap_region.proofs.spread.visit.Goals as goal
use Rattle.ifmap_region.proofs.spread.visit.Goals.{else-level-basis-via-then-level-basis+else-not-is_terminal, else-level-basis-via-else-level-basis}

pub returns-in_ok-offer_neighbours-clause-falls : goal.returns-in_ok-offer_neighbours-clause-falls
returns-in_ok-offer_neighbours-clause-falls g c start rest seeds r =
    ready_scanned _ _ start _ _ (λ k v. Contains seeds (k, v)) _ _ c.args.level c.args.number (queue_out c.args.level c.args.number rest _)
    (queue_in c.args.level c.args.number rest _) (λ w e l. c.in_ok-offer_neighbours.ensures.offered w l)
    (c.in_ok-offer_neighbours.ensures.falls start c.args.level rest seeds refl c.if-level-basis.true
    (sym c.is_terminal.ensures ∙ c.if-not-is_terminal.true) r)

pub returns-in_ok-offer_neighbours-clause-charged : goal.returns-in_ok-offer_neighbours-clause-charged
returns-in_ok-offer_neighbours-clause-charged g c start before rest seeds first r ch =
    charged_fewer _ _ start _ _ first _ _ before _ _
    (omega (arith, c.offer_neighbours.ensures.steps, sum_by-cons (g.G.LinkSource.seen c.args.basis.now.graph.now).count c.args.number rest))
    (c.offer_neighbours.ensures.charged start c.args.level before _ rest seeds first refl c.if-level-basis.true
    (sym c.is_terminal.ensures ∙ c.if-not-is_terminal.true) r ch)

pub returns-in_err-offer_neighbours-clause-charged : goal.returns-in_err-offer_neighbours-clause-charged
returns-in_err-offer_neighbours-clause-charged g c start before rest seeds first r ch =
    charged_fewer _ _ start _ _ first _ _ before _ _
    (omega (arith, c.offer_neighbours.ensures.steps, sum_by-cons (g.G.LinkSource.seen c.args.basis.now.graph.now).count c.args.number rest))
    (c.offer_neighbours.ensures.charged start c.args.level before _ rest seeds first refl c.if-level-basis.true
    (sym c.is_terminal.ensures ∙ c.if-not-is_terminal.true) r ch)

pub returns-else-level-basis-clause-falls : goal.returns-else-level-basis-clause-falls
returns-else-level-basis-clause-falls g c start rest seeds r =
    ready_scanned _ _ start _ _ (λ k v. Contains seeds (k, v)) _ _ c.args.level c.args.number (queue_out c.args.level c.args.number rest _)
    (queue_in c.args.level c.args.number rest _) (λ w e l. elim c.else-level-basis.branch [
      | else-level-basis-via-then-level-basis+else-not-is_terminal b ↦
          absurd (true≢false (sym b.if-not-is_terminal.false ∙ b.is_terminal.ensures ∙ e.passable))
      | else-level-basis-via-else-level-basis b ↦ let t : c.args.level < c.args.basis.now.top = e.below in absurd
          (omega (arith, t, b.if-level-basis.false))
    ]) r

pub returns-else-level-basis-clause-charged : goal.returns-else-level-basis-clause-charged
returns-else-level-basis-clause-charged g c start before rest seeds first r ch =
    charged_fewer _ _ start _ _ first _ _ before _ _ (omega (
      arith,
      sum_by-cons (g.G.LinkSource.seen c.args.basis.now.graph.now).count
          c.args.number rest,
    )) ch
