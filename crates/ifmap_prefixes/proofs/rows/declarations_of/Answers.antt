use Rattle.std.proofs.Common.{◌∙◌, ap, reverse}
use Rattle.ifmap_prefixes.proofs.RootRows.{scope_is}
use Rattle.ifmap_prefixes.proofs.rows.declarations_of.Goals as goal

pub returns : goal.returns
returns c =
    scope_is c.args.scope.now c.as_slice.result.now c.in_ok-declared.declared c.reverse.new.self.items
    c.as_slice.ensures c.in_ok-declared.ensures
    (c.reverse.ensures.items ∙ ap reverse c.declared.view_is)
