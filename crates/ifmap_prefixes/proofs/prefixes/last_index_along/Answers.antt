use Rattle.std.proofs.Common.{◌∙◌, arith, subst}
use Rattle.std.specs.Prelude.{ℕ, Option}
use Rattle.std.specs.BTreeMap.{get_by}
use Rattle.ifmap_prefixes.specs.Rows.{IsGreaterIndex, at_text}
use Rattle.ifmap_prefixes.proofs.Walking.{walks_on}
use Rattle.ifmap_prefixes.proofs.prefixes.last_index_along.Goals as goal

pub loop-depth-preserved : goal.loop-depth-preserved
loop-depth-preserved c =
    walks_on (λ p. get_by (at_text p) c.args.paths.now) c.args.path.now c.loop-depth.depth
    (let low = c.loop-depth-test.true in omega arith) c.loop-depth.found c.later_index-found.result c.loop-depth.invariant
    (subst (λ (o : Option ℕ). IsGreaterIndex c.loop-depth.found o c.later_index-found.result) (c.copied.ensures ∙ c.get.ensures.value)
    c.later_index-found.ensures)
