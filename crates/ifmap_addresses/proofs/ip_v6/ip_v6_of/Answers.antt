use Rattle.std.proofs.Common.{sym, subst}
use Rattle.std.specs.Net.Grammar.{IsColonHex}
use Rattle.ifmap_addresses.proofs.ip_v6.ip_v6_of.Goals as goal

pub returns-in-Err-clause-none : goal.returns-in-Err-clause-none
returns-in-Err-clause-none c is value spelled =
    c.in-Err.ensures (record { segments = value }) (subst (λ text. IsColonHex text value) (sym c.as_bytes-2.ensures.value) spelled.0)
