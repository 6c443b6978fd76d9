use Rattle.std.proofs.Common.{ℕ, option_map, ap, ◌∙◌}
use Rattle.std.specs.FinMap.{get, get-empty}
use Rattle.std.specs.Ordering.{nat_cmp}
use Rattle.ifmap_ident.specs.declared.identifiers.Identifier.{Identifier}
use Rattle.ifmap_graph.proofs.Beginning.{no_inside, no_own, no_still}
use Rattle.ifmap_graph.proofs.Lean.{none_lean}
use Rattle.ifmap_graph.proofs.graph.Graph.new.Goals as goal

pub invariant_of-result : goal.invariant_of-result
invariant_of-result c =
    rw c.new-2.ensures.empty
    (rw c.new-3.ensures.items
    (no_inside c.new.result (λ v. ap (λ l. get l v) c.new.ensures.live ∙ get-empty nat_cmp v) _ c.new-2.ensures.vacant))

pub returns-clause-numbers : goal.returns-clause-numbers
returns-clause-numbers c = λ v. ap (λ o. option_map (λ (x : Identifier × ℕ). x.0) o) (ap (λ l. get l v) c.new.ensures.live
    ∙ get-empty nat_cmp v)

pub returns-clause-own : goal.returns-clause-own
returns-clause-own c = rw c.new-2.ensures.empty (λ a. no_own c.new.result (λ v. ap (λ l. get l v) c.new.ensures.live
    ∙ get-empty nat_cmp v) a)

pub returns-clause-still : goal.returns-clause-still
returns-clause-still c =
    rw c.new-2.ensures.empty
    (rw c.new-3.ensures.items (no_still c.new.result (λ v. ap (λ l. get l v) c.new.ensures.live ∙ get-empty nat_cmp v)))

pub returns-clause-lean : goal.returns-clause-lean
returns-clause-lean c = rw c.new-2.ensures.empty (rw c.new-3.ensures.items (none_lean c.new.result))
