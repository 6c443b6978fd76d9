-- Kinds of what is asked at a plain desk.
use Rattle.std.specs.Prelude.{◌≡◌, ℕ, List}
use Rattle.ifmap_program_tests.specs.declared.desk.EventKind.{EventKind}
use Rattle.ifmap_program_tests.specs.declared.desk.EventKind.TheVariants as kind
use Rattle.ifmap_dialogue.specs.ifmap_machine.declared.events.Ask.{Ask}
use Rattle.ifmap_dialogue.specs.ifmap_machine.declared.events.Ask.TheVariants.{Lost, Request as Asking}
use Rattle.ifmap_dialogue.specs.ifmap_requests.declared.requests.Request.{Request}
use Rattle.ifmap_dialogue.specs.ifmap_requests.declared.requests.Request.TheVariants.{Poll}

-- what is asked is of this kind
abbrev pub IsKind : Ask → EventKind → Type 0
IsKind ask kind.Poll = (session : List ℕ) × (ask ≡ Asking (Poll session))
IsKind ask kind.Other = (request : Request) × (ask ≡ Asking request)
IsKind ask kind.Lost = (session : List ℕ) × (ask ≡ Lost session)
