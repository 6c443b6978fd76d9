use Rattle.ifmap_standing.proofs.Numbering.{kept_elsewhere}
use Rattle.ifmap_standing.proofs.laws.same_links_keep_subscriptions.Goals as goal

pub returns : goal.returns
returns c = kept_elsewhere
