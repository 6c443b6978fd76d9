-- How many links carry something, and which identifiers are in use.
use Rattle.std.specs.Prelude.{◌≡◌, ◌⊎◌, ℕ}
use Rattle.ifmap_lemmas.specs.Having.{Has}
use Rattle.ifmap_subscribes.specs.ifmap_graph.Counted.{count_links}
use Rattle.ifmap_subscribes.specs.ifmap_graph.Seen.{IsAttached}
use Rattle.ifmap_ident.specs.declared.identifiers.Identifier.{Identifier}
use Rattle.ifmap_subscribes.specs.ifmap_machine.State.{Standing, State}

-- how many links carry an attachment
abbrev pub link_count : State → ℕ
link_count state = count_links state.graph

-- a subscription that stands starts at an identifier
abbrev pub IsStart : State → Identifier → Type 0
IsStart state a = (x : Standing) × Has state.standing x × (x.search.start ≡ a)

-- an identifier stands in an item that carries an attachment, or a subscription starts there
abbrev pub IsInUse : State → Identifier → Type 0
IsInUse state a = IsAttached state.graph a ⊎ IsStart state a
