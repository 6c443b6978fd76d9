use Rattle.ifmap_reader.proofs.Answering as answering
use Rattle.ifmap_reader.proofs.reading.read.Goals as goal

pub returns-clause-fit : goal.returns-clause-fit
returns-clause-fit c = answering.root_is_fit c.args.bytes.now c.args.depth c.read_tokens.result c.read_tokens.ensures

pub returns-clause-canonical : goal.returns-clause-canonical
returns-clause-canonical c = answering.canonical c.args.bytes.now c.args.depth c.read_tokens.result c.read_tokens.ensures
