use Rattle.ifmap_reader.proofs.FitElements.{spelled_fits}
use Rattle.ifmap_reader.proofs.laws.what_bytes_declare_fits.Goals as goal

pub returns : goal.returns
returns c = λ bytes reading spelled. (spelled_fits bytes reading spelled).1
