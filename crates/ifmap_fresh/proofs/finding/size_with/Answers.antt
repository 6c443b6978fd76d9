use Rattle.std.proofs.Common.{rules, ◌+◌, ap, ◌∙◌}
use Rattle.std.proofs.lemmas.Option.{IfSome_then}
use Rattle.ifmap_fresh.proofs.Entries.{met_size}
use Rattle.ifmap_fresh.proofs.finding.size_with.Goals as goal

pub returns-then-meets_optional : goal.returns-then-meets_optional
returns-then-meets_optional c =
    IfSome_then c.add_both.result c.add_both.ensures
    (λ sum e. e ∙ ap (λ n. c.args.size + n) (met_size c.args.own c.size.result c.args.filter.now c.args.row.now (search rules)
    (search rules)))
