use Rattle.std.proofs.Common.{◌<◌, ℕ, length, subst, sym, ap, ◌∙◌, arith}
use Rattle.ifmap_graph.specs.Turning.{sides_at}
use Rattle.ifmap_graph.proofs.Readying.{drops_on, drops_within, begins_dropping, drops_drafts}
use Rattle.ifmap_graph.proofs.linking.drop_drafts.Goals as goal

pub loop-way-init : goal.loop-way-init
loop-way-init c = begins_dropping c.args.links.now.items c.args.ways.now c.requires

pub drop_draft-requires : goal.drop_draft-requires
drop_draft-requires c =
    subst (λ (n : ℕ). n < length c.loop-way.links.items) (sym c.place.ensures)
    (drops_within c.args.links.now.items c.args.ways.now c.loop-way.links.items c.loop-way.way-index c.way-item.result c.requires
    c.loop-way.invariant
    c.loop-way-test.true c.way-item.is)

pub loop-way-preserved : goal.loop-way-preserved
loop-way-preserved c =
    drops_on c.args.links.now.items c.args.ways.now c.loop-way.links.items c.drop_draft.new.links.items c.loop-way.way-index
    c.way-item.result
    c.loop-way.invariant c.loop-way-test.true c.way-item.is c.drop_draft.ensures.touched.kept
    (λ v n. c.drop_draft.ensures.touched.others v (λ e. n (e ∙ c.place.ensures)))
    (ap (λ (n : ℕ). (sides_at c.drop_draft.new.links.items n).draft) (sym c.place.ensures) ∙ c.drop_draft.ensures.gone)

pub returns-clause-bare : goal.returns-clause-bare
returns-clause-bare c =
    drops_drafts c.args.links.now.items c.args.ways.now c.loop-way.links.items c.loop-way.way-index c.loop-way.invariant
    (omega (arith, c.loop-way-test.false))
