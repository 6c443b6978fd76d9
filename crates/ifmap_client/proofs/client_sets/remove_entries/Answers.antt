use Rattle.std.proofs.Common.{ap, ◌∙◌, Some, option_map}
use Rattle.ifmap_folds.specs.Differences.{difference}
use Rattle.ifmap_client.proofs.Following.{write_sets_name}
use Rattle.ifmap_client.proofs.client_sets.remove_entries.Goals as goal

pub returns-in-Some : goal.returns-in-Some
returns-in-Some c =
    let w = c.remove.new.self in
    write_sets_name c.args.sets.now (c.get_mut.follows.lender w) c.args.name.now c.in-Some.set.now w _ c.in-Some.ensures.value
    (c.get_mut.follows.holds w)
    (ap Some c.remove.ensures ∙ ap (option_map (λ s. difference s c.args.entries.now)) c.in-Some.ensures.value)
