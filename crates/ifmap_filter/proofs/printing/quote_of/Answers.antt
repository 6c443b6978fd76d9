use Rattle.std.proofs.Common.{sym, ◌∙◌}
use Rattle.ifmap_filter.proofs.PrintLaws.{double_for_single, single_else}
use Rattle.ifmap_filter.proofs.printing.quote_of.Goals as goal

pub returns-then-has_single_quote : goal.returns-then-has_single_quote
returns-then-has_single_quote c = double_for_single c.args.value.now (sym c.has_single_quote.ensures ∙ c.if-has_single_quote.true)

pub returns-else-has_single_quote : goal.returns-else-has_single_quote
returns-else-has_single_quote c = single_else c.args.value.now (sym c.has_single_quote.ensures ∙ c.if-has_single_quote.false)
