use Rattle.std.proofs.Common.{ap, refl, subst, sym}
use Rattle.std.specs.Prelude.{None}
use Rattle.std.specs.BTreeMap.{get_by}
use Rattle.std.specs.Option.{option_and_then}
use Rattle.ifmap_prefixes.specs.Rows.{HasLast, at_text, index_at}
use Rattle.ifmap_prefixes.proofs.Walking.{latest_is_last, none_latest, same_latest}
use Rattle.ifmap_prefixes.proofs.prefixes.Declarations.last_index.Goals as goal

pub returns-in-Some : goal.returns-in-Some
returns-in-Some c =
    latest_is_last c.args.self.now c.args.prefix.now c.args.path.now (index_at c.self.inside.last)
    (subst (HasLast (index_at c.self.inside.last)) c.self.view_is c.self.invariant) c.last_index_along.result
    (same_latest (index_at c.self.inside.last c.args.prefix.now) (λ p. get_by (at_text p) c.in-Some.paths.now) c.args.path.now
    c.last_index_along.result
    (λ p. sym (ap (option_and_then (λ indexes. get_by (at_text p) indexes)) c.in-Some.ensures.value)) c.last_index_along.ensures)

pub returns-in-None : goal.returns-in-None
returns-in-None c =
    latest_is_last c.args.self.now c.args.prefix.now c.args.path.now (index_at c.self.inside.last)
    (subst (HasLast (index_at c.self.inside.last)) c.self.view_is c.self.invariant) None
    (none_latest (index_at c.self.inside.last c.args.prefix.now) c.args.path.now None refl
    (λ p. sym (ap (option_and_then (λ indexes. get_by (at_text p) indexes)) c.in-None.ensures.value)))
