use Rattle.std.proofs.Common.{◌≡◌, ap, ◌∙◌, arith}
use Rattle.ifmap_search.specs.Sizes.{entries_size}
use Rattle.ifmap_fresh.specs.Fresh.{fresh_size}
use Rattle.ifmap_fresh.specs.Gathered.{entries_on}
use Rattle.ifmap_fresh.proofs.Collected.{entries_are}
use Rattle.ifmap_fresh.proofs.finding.fresh.Goals as goal

pub returns-then-size-search-clause-answer : goal.returns-then-size-search-clause-answer
returns-then-size-search-clause-answer g c =
    let rows = g.V.View.rows c.args.view.now
    in let search = c.args.search.now
    in let items = c.in-Ok.items.items
    in let are = entries_are c.bytes_tell_identifiers_apart.ensures rows search items c.in-Ok.ensures.graph c.in-Ok.ensures.items
    in let is : c.in-Some.size ≡ fresh_size rows search
    = c.in-Some.ensures ∙ ap (λ l. entries_size (entries_on search.result_filter rows l)) c.deref.ensures.value
    ∙ ap entries_size are
    in (is, omega (arith, is, c.if-size-search.true))

pub returns-in-Ok-entries_on-clause-answer : goal.returns-in-Ok-entries_on-clause-answer
returns-in-Ok-entries_on-clause-answer g c =
    let rows = g.V.View.rows c.args.view.now
    in let search = c.args.search.now
    in let items = c.in-Ok.items.items
    in let are = entries_are c.bytes_tell_identifiers_apart.ensures rows search items c.in-Ok.ensures.graph c.in-Ok.ensures.items
    in let is : c.in-Some.size ≡ fresh_size rows search
    = c.in-Some.ensures ∙ ap (λ l. entries_size (entries_on search.result_filter rows l)) c.deref.ensures.value ∙ ap entries_size are
    in (c.in-Ok-entries_on.ensures ∙ are, is, omega (arith, is, c.if-size-search.false))
