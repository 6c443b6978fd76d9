-- The outlets of a script over several calls.
use Rattle.std.proofs.Common.{◌∙◌}
use Rattle.ifmap_client_script.specs.Outlets.{AreSame, Loans}

pub same_then : (a b c : Loans) → AreSame a b → AreSame b c → AreSame a c
same_then a b c p q = record { sink = q.sink ∙ p.sink; first = q.first ∙ p.first; second = q.second ∙ p.second }
