use Rattle.ifmap_delta_tests.proofs.Lasting.{quiet_made}
use Rattle.ifmap_delta_tests.proofs.worlds.publish.Goals as goal

pub returns-clause-quiet : goal.returns-clause-quiet
returns-clause-quiet c =
    let way = c.in_ok-ready.ensures.way
    in quiet_made c.begin_change.new.graph c.commit_kept.new.self way.whole way.few c.commit_kept.ensures.now
    c.commit_kept.ensures.still c.commit_kept.ensures.own
