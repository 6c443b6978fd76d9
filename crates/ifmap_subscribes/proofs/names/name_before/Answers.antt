use Rattle.std.proofs.Common.{◌≡◌, ◌∙◌, ap, sym, false, filter}
use Rattle.ifmap_changes.specs.Between.{IsWithinLimit, sessions_left}
use Rattle.ifmap_lemmas.specs.Filters.{all_weaker}
use Rattle.ifmap_changes.specs.ifmap_machine.Telling.{is_overfull}
use Rattle.ifmap_search.specs.Sizes.{queue_size}
use Rattle.ifmap_changes.specs.ifmap_session.Sessions.{Session, is_named}
use Rattle.ifmap_subscribes.proofs.ToldSizes.{found_before, found_left, live_before}
use Rattle.ifmap_subscribes.proofs.names.name_before.Goals as goal

pub told_size-requires : goal.told_size-requires
told_size-requires c = record {
  sizes = record {
    live = live_before c.args.asking.now.ended c.args.serial c.args.parts.now.sessions.live c.requires.live;
    sized = c.requires.ready.sized;
    within = all_weaker IsWithinLimit (λ (s : Session). is_overfull s ≡ false) (λ s w. w.full) c.args.parts.now.sessions.live
        c.requires.ready.queues;
  };
}

pub returns : goal.returns
returns c = λ s e.
    let before =
    found_before c.args.pending.now.tellings c.args.serial (sessions_left c.args.asking.now c.args.parts.now.sessions) s e in
    let there = found_left c.args.asking.now.ended c.args.serial c.args.parts.now.sessions.live before.0 before.1 in record {
      stands = rw (c.deref.ensures.value, c.deref-2.ensures.value) at c.is_standing.ensures;
      size = c.told_size.ensures before.0 there
          ∙ ap (λ (t : Session). queue_size (filter (is_named c.args.name.now) t.queue)) (sym before.2);
    }
