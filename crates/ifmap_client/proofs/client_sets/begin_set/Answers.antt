use Rattle.std.proofs.Common.{ap, ◌∙◌}
use Rattle.ifmap_folds.specs.Folds.{with_entries}
use Rattle.ifmap_client.proofs.Following.{beginning_sets_name}
use Rattle.ifmap_client.proofs.client_sets.begin_set.Goals as goal

pub returns-clause-folded : goal.returns-clause-folded
returns-clause-folded c =
    beginning_sets_name c.args.sets.now c.insert.new.self c.args.name.now _ c.args.entries.now _ c.in_ok-insert.ensures.updates
    c.in_ok-copy.ensures (c.in_ok-add.ensures.added ∙ ap (with_entries c.args.entries.now) c.new-set.ensures)
