use Rattle.std.proofs.Common.{ap, sym, decimal}
use Rattle.ifmap_lemmas.specs.Texts.{slice_cmp-same}
use Rattle.ifmap_addresses.proofs.ip_v4.number_order.Goals as goal

pub returns-then-one-other : goal.returns-then-one-other
returns-then-one-other c =
    sym (slice_cmp-same (decimal c.args.one) (decimal c.args.other) (ap decimal c.if-one-other.true))
