use Rattle.ifmap_changes.specs.Changes.{seen_next}
use Rattle.ifmap_delta_tests.proofs.Lasting.{kept_made, quiet_made}
use Rattle.ifmap_delta_tests.proofs.stepping.make_step.Goals as goal

pub commit_kept-requires : goal.commit_kept-requires
commit_kept-requires c = c.requires.way.out

pub returns-clause-quiet : goal.returns-clause-quiet
returns-clause-quiet c =
    quiet_made c.args.graph.now c.commit_kept.new.self c.requires.way.whole c.requires.way.few c.commit_kept.ensures.now
    c.commit_kept.ensures.still c.commit_kept.ensures.own

pub returns-clause-kept : goal.returns-clause-kept
returns-clause-kept c =
    kept_made c.args.graph.now c.commit_kept.new.self c.take_over-undo.new.subscription c.commit_kept.ensures.now
    c.commit_kept.ensures.links c.commit_kept.ensures.names (c.take_over-undo.ensures.kept (seen_next c.args.graph.now) c.requires.keeps)
