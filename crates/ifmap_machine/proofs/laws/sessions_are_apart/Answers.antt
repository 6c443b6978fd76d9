use Rattle.std.proofs.Common.{◌≤◌}
use Rattle.std.proofs.lemmas.List.Elements.{All-from_recursion}
use Rattle.std.proofs.lemmas.Map.Made.{AllPairs-from_IsDistinct}
use Rattle.ifmap_machine.specs.Legal.{live_clients, state_after}
use Rattle.ifmap_machine.specs.State.{opening_state}
use Rattle.ifmap_machine.proofs.Tables.{opening_table, table_after}
use Rattle.ifmap_machine.proofs.laws.sessions_are_apart.Goals as goal
use Rattle.ifmap_session.specs.Sessions.{Session}
use Rattle.ifmap_session.specs.laws.TextLaws.{text_is, text_same}

pub returns-clause-apart : goal.returns-clause-apart
returns-clause-apart c = λ ttl history. AllPairs-from_IsDistinct (λ a b. (text_is a b, text_same a b))
    (live_clients (state_after ttl history)) (table_after (opening_state ttl) history (opening_table ttl)).apart

pub returns-clause-counted : goal.returns-clause-counted
returns-clause-counted c = λ ttl history. All-from_recursion (λ (s : Session). s.serial ≤ (state_after ttl history).counter)
    (state_after ttl history).sessions (table_after (opening_state ttl) history (opening_table ttl)).counted

pub returns-clause-most : goal.returns-clause-most
returns-clause-most c = λ ttl history. (table_after (opening_state ttl) history (opening_table ttl)).few
