use Rattle.std.proofs.Common.{◌≡◌, ap, false}
use Rattle.std.specs.BTreeMap.{is_at}
use Rattle.std.specs.Cmp.Lexicographic.{slice_cmp}
use Rattle.std.specs.Map.{lookup}
use Rattle.std.specs.Ordering.{nat_cmp}
use Rattle.ifmap_changes.specs.Between.{IsWithinLimit}
use Rattle.ifmap_lemmas.specs.Filters.{all_weaker}
use Rattle.ifmap_changes.specs.ifmap_machine.Telling.{is_overfull}
use Rattle.ifmap_changes.specs.ifmap_session.Sessions.{Session}
use Rattle.ifmap_subscribes.proofs.Nothing.{nothing_counted, nothing_stands}
use Rattle.ifmap_subscribes.proofs.ToldSizes.{live_before}
use Rattle.ifmap_subscribes.specs.declared.readying.Readying.{Readying}
use Rattle.ifmap_subscribes.proofs.readying.nothing_ready.Goals as goal

pub whole_size-requires : goal.whole_size-requires
whole_size-requires c = record {
  sizes = record {
    live = live_before c.args.scene.now.asking.now.ended c.args.scene.now.serial c.args.parts.now.sessions.live c.requires.live;
    sized = c.requires.ready.sized;
    within = all_weaker IsWithinLimit (λ (s : Session). is_overfull s ≡ false) (λ s w. w.full) c.args.parts.now.sessions.live
        c.requires.ready.queues;
  };
}

pub returns-clause-can : goal.returns-clause-can
returns-clause-can c =
    let s = c.args.scene.now in
    let p = c.args.parts.now in
    let r : Readying = record {
      made = c.new.result;
      names = c.new-2.result;
      count = c.count_standing.result;
      size = c.whole_size.result;
    } in
    record {
      ready = c.requires.ready;
      live = c.requires.live;
      readied = record {
        stand = nothing_stands s p r c.requires.ready c.requires.live c.new.ensures.items c.requires.steady;
        counted = nothing_counted s p r c.requires.ready c.requires.live c.new.ensures.items
            (λ other. ap (lookup (is_at (slice_cmp nat_cmp other))) c.new-2.ensures.empty)
            (rw (c.deref.ensures.value, c.deref-2.ensures.value) at c.count_standing.ensures) c.whole_size.ensures c.whole_size.type_inv;
      };
    }
