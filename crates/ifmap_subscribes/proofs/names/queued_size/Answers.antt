use Rattle.std.proofs.Common.{◌∙◌, arith, ◌^◌, ◌-◌, ◌<◌, filter}
use Rattle.ifmap_search.specs.Sizes.{queue_size}
use Rattle.ifmap_changes.specs.ifmap_session.Sessions.{is_named}
use Rattle.ifmap_subscribes.proofs.ToldSizes.{min_is_exact, part_within, queue_few}
use Rattle.ifmap_subscribes.proofs.names.queued_size.Goals as goal

pub returns : goal.returns
returns c = λ s e.
    let limit = (c.queue_size-whole.ensures s e).1 in
    let few : s.limit < 2 ^ 32 = omega (arith, limit, c.queue_size-whole.type_inv.1) in
    let all = queue_few c.args.sessions.now.live c.args.serial s c.requires.within e few in
    let part = part_within (is_named c.args.name.now) s.queue in
    c.size_of_name.ensures s e ∙ min_is_exact (queue_size (filter (is_named c.args.name.now) s.queue)) (2 ^ 64 - 1)
    (omega (arith, all, part))
