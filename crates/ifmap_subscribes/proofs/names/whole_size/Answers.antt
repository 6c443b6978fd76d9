use Rattle.std.proofs.Common.{◌∙◌, ap, sym, arith, ◌^◌, ◌-◌, ◌<◌, Some}
use Rattle.ifmap_search.specs.Sizes.{queue_size}
use Rattle.ifmap_changes.specs.ifmap_session.Sessions.{Session}
use Rattle.ifmap_changes.specs.ifmap_tellings.declared.tellings.Telling.TheVariants.{After, Alone}
use Rattle.ifmap_subscribes.proofs.ToldSizes.{after_size, alone_size, min_is_exact, none_told, queue_few}
use Rattle.ifmap_subscribes.proofs.names.whole_size.Goals as goal

pub returns-in-None : goal.returns-in-None
returns-in-None c = λ s e.
    let size = c.queue_size.ensures s e in
    let few : s.limit < 2 ^ 32 = omega (arith, size.1, c.queue_size.type_inv.1) in
    size.0
    ∙ min_is_exact (queue_size s.queue) (2 ^ 64 - 1) (queue_few c.args.sessions.now.live c.args.serial s c.requires.sizes.within e few)
    ∙ ap (λ (t : Session). queue_size t.queue)
    (sym (none_told c.args.tellings.now c.args.serial c.args.sessions.now.live s e (sym c.in-None.ensures.value)))

pub returns-in-Some-After : goal.returns-in-Some-After
returns-in-Some-After c = λ s e.
    let there = sym c.in-Some-After.ensures.value ∙ ap Some c.in-Some-After.field-0-is in
    let items = c.in-Some-After.field-0-0 in
    let size = c.in-Some-After.size in
    c.in-Some-After.size-is
    ∙ after_size c.args.tellings.now c.args.serial c.args.sessions.now.live s e items size there
    (c.requires.sizes.sized c.args.serial (After items size) there)

pub returns-in-Some-Alone : goal.returns-in-Some-Alone
returns-in-Some-Alone c = λ s e.
    let there = sym c.in-Some-Alone.ensures.value ∙ ap Some c.in-Some-Alone.field-0-is in
    let error = c.in-Some-Alone.field-0-0 in
    alone_size c.args.tellings.now c.args.serial c.args.sessions.now.live s e error there
    (c.requires.sizes.sized c.args.serial (Alone error) there)
