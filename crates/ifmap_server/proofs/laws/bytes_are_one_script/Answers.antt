use Rattle.ifmap_server.proofs.Scripts.{script_one}
use Rattle.ifmap_server.proofs.laws.bytes_are_one_script.Goals as goal

pub returns : goal.returns
returns c = λ bytes frames others fault other. script_one c.bodies_have_one_meaning.ensures 0 bytes frames others fault other
