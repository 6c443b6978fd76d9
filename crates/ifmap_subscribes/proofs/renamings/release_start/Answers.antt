use Rattle.ifmap_changes.specs.Between.{seen_now}
use Rattle.ifmap_subscribes.proofs.RenamingStarts.{can_release, links_same, released_steady, rows_same}
use Rattle.ifmap_subscribes.proofs.renamings.release_start.Goals as goal
use Rattle.ifmap_changes.specs.ifmap_graph.NumberLaws.{numbers_shared}

pub release-requires : goal.release-requires
release-requires c = can_release c.args.graph.now c.args.one.now c.requires.0 c.requires.1

pub returns-clause-steady : goal.returns-clause-steady
returns-clause-steady c =
    released_steady c.args.graph.now c.release.new.self c.args.one.now c.bytes_tell_identifiers_apart.ensures c.is_view.ensures
    c.release.ensures.own c.release.ensures.stays (rows_same c.args.graph.now c.release.new.self c.release.ensures.keeps.shelves)
    c.release.ensures.keeps.still

pub returns-clause-lets_go : goal.returns-clause-lets_go
returns-clause-lets_go c =
    let rows = rows_same c.args.graph.now c.release.new.self c.release.ensures.keeps.shelves in
    let links = links_same c.args.graph.now c.release.new.self c.release.ensures.links in
    record {
      rows = rows;
      links = links;
      numbers = c.release.ensures.numbers;
      backs = c.release.ensures.keeps.backs;
      waits = c.release.ensures.keeps.waits;
      lean = c.release.ensures.keeps.lean;
      kept = λ sub key kept.
          c.same_links_keep_subscriptions.ensures (seen_now c.args.graph.now) (seen_now c.release.new.self) sub c.is_view.ensures
          c.is_view-2.ensures rows links (numbers_shared c.args.graph.now c.release.new.self c.release.ensures.numbers) key kept;
    }
