use Rattle.std.proofs.Common.{ap, ◌∙◌, sym, None}
use Rattle.ifmap_client.specs.Keeping.{kept_sets, without_sets}
use Rattle.ifmap_client.proofs.Following.{update_sets_name}
use Rattle.ifmap_client.proofs.client_sets.end_sets.Goals as goal

pub returns-in-Some : goal.returns-in-Some
returns-in-Some c =
    update_sets_name c.args.sets.now c.remove.new.self c.in-Some.name None c.remove.ensures.updates
    ∙ ap (λ n. without_sets n (kept_sets c.args.sets.now)) (sym c.in-Some.is)
