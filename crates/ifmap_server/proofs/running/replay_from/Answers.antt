-- The status tells how the replay ended.
use Rattle.ifmap_server.specs.Replayed.{ScriptClientsAgree}
use Rattle.ifmap_server.proofs.running.replay_from.Goals as goal
use Rattle.ifmap_lemmas.specs.Absent.{if_some_any}

pub returns : goal.returns
returns g c = record {
  ended = c.run.result;
  told = c.status_of.ensures;
  promise = c.run.ensures;
  agrees = if_some_any (g.S.Source.left c.args.source.now) ScriptClientsAgree c.scripts_agree.ensures.agrees;
}
