-- Events, as contracts see them.
use Rattle.std.specs.Prelude.{ℕ, Bool, List}
use Rattle.ifmap_elem.specs.Chars.{IsCharacters}
use Rattle.ifmap_machine.specs.declared.events.Ask.{Ask}
use Rattle.ifmap_machine.specs.declared.events.Ask.TheVariants.{Request, Lost}
use Rattle.ifmap_meta.specs.ClientNames.{IsClientName}
use Rattle.ifmap_publish.specs.ifmap_requests.Fit.{IsFitRequest}

-- what is asked, with all that its answer depends on beside the state: when it came, who asks, a random word, whether a poll is
-- asked again, the length of its body, and what is asked
pub record Event : Type 0 where
  pub moment : ℕ
  pub client : List ℕ
  pub random : ℕ
  pub again : Bool
  pub bytes : ℕ
  pub ask : Ask

-- what is asked is fit
abbrev pub IsFitAsk : Ask → Type 0
IsFitAsk (Request request) = IsFitRequest request
IsFitAsk (Lost id) = IsCharacters id

-- it can come: its client has a name, and what it asks is fit
pub record IsFitEvent (event : Event) : Type 0 where
  pub client : IsClientName event.client
  pub ask : IsFitAsk event.ask
