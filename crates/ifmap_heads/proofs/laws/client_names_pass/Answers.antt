use Rattle.ifmap_heads.proofs.ClientTests.{name_of_test, test_of_name}
use Rattle.ifmap_heads.proofs.laws.client_names_pass.Goals as goal

pub returns : goal.returns
returns c name = (name_of_test name, test_of_name name)
