use Rattle.std.proofs.Common.{◌∙◌, ap, sym, Some, filter}
use Rattle.ifmap_search.specs.Sizes.{queue_size}
use Rattle.ifmap_changes.specs.ifmap_session.Sessions.{Session, is_named}
use Rattle.ifmap_changes.specs.ifmap_tellings.declared.tellings.Telling.TheVariants.{After, Alone}
use Rattle.ifmap_subscribes.proofs.ToldSizes.{after_of_name, alone_of_name, none_told}
use Rattle.ifmap_subscribes.proofs.names.told_size.Goals as goal

pub returns-in-None : goal.returns-in-None
returns-in-None c = λ s e.
    c.queued_size.ensures s e
    ∙ ap (λ (t : Session). queue_size (filter (is_named c.args.name.now) t.queue))
    (sym (none_told c.args.tellings.now c.args.serial c.args.sessions.now.live s e (sym c.in-None.ensures.value)))

pub returns-in-Some-After : goal.returns-in-Some-After
returns-in-Some-After c = λ s e.
    let there = sym c.in-Some-After.ensures.value ∙ ap Some c.in-Some-After.field-0-is in
    let items = c.in-Some-After.items in
    let size = c.in-Some-After.field-0-1 in
    after_of_name c.args.tellings.now c.args.serial c.args.sessions.now.live s e items size there
    (c.requires.sizes.sized c.args.serial (After items size) there) c.args.name.now c.queued_size-queued.result c.named_size.result
    (c.queued_size-queued.ensures s e) (rw c.as_slice.ensures at c.named_size.ensures)

pub returns-in-Some-Alone : goal.returns-in-Some-Alone
returns-in-Some-Alone c = λ s e.
    let there = sym c.in-Some-Alone.ensures.value ∙ ap Some c.in-Some-Alone.field-0-is in
    let error = c.in-Some-Alone.field-0-0 in
    alone_of_name c.args.tellings.now c.args.serial c.args.sessions.now.live s e error there
    (c.requires.sizes.sized c.args.serial (Alone error) there) c.args.name.now
