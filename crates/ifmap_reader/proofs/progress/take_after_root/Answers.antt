use Rattle.std.proofs.Common.{sym, ◌∙◌}
use Rattle.ifmap_reader.proofs.Leading.{margin_leads, no_margin}
use Rattle.ifmap_reader.proofs.progress.take_after_root.Goals as goal

pub returns-then-not-is_margin : goal.returns-then-not-is_margin
returns-then-not-is_margin c = no_margin c.args.reading.value c.args.token (sym c.is_margin.ensures ∙ c.if-not-is_margin.true)

pub returns : goal.returns
returns c = margin_leads c.args.depth c.args.reading.value c.args.token (sym c.is_margin.ensures ∙ c.if-not-is_margin.false)
