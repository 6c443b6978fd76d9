use Rattle.std.proofs.Common.{sym, subst}
use Rattle.std.specs.Net.Grammar.{IsDotted}
use Rattle.ifmap_addresses.proofs.ip_v4.ip_v4_of.Goals as goal

pub returns-in-Err-clause-none : goal.returns-in-Err-clause-none
returns-in-Err-clause-none c is value spelled =
    c.in-Err.ensures (record { octets = value }) (subst (λ text. IsDotted text value) (sym c.as_bytes.ensures.value) spelled)
