use Rattle.ifmap_server.proofs.SomeScript.{some_output, some_script}
use Rattle.ifmap_server.proofs.laws.bytes_have_some_output.Goals as goal

pub returns-clause-script : goal.returns-clause-script
returns-clause-script c = some_script c.bodies_mean_something.ensures

pub returns-clause-output : goal.returns-clause-output
returns-clause-output c = some_output c.bodies_mean_something.ensures
