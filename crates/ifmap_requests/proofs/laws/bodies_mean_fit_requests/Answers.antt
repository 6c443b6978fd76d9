use Rattle.ifmap_requests.proofs.FitLaws.{meaning_fit}
use Rattle.ifmap_requests.proofs.laws.bodies_mean_fit_requests.Goals as goal

pub returns : goal.returns
returns c =
    meaning_fit c.stamped_metadata_are_whole.ensures.made c.what_bytes_spell_fits.ensures
    c.what_bytes_declare_fits.ensures
