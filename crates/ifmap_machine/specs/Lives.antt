-- How long attachments stay.
use Rattle.std.specs.Prelude.{◌≡◌, ℕ, List, Some}
use Rattle.std.specs.List.{AllByRecursion}
use Rattle.ifmap_machine.specs.State.{State}
use Rattle.ifmap_meta.specs.declared.stored.Life.{Life}
use Rattle.ifmap_meta.specs.declared.stored.Life.TheVariants as the_life
use Rattle.ifmap_session.specs.Sessions.{Session, session_with_serial}
use Rattle.ifmap_publish.specs.ifmap_view.declared.attachments.Attachment.{Attachment}

-- what is to stay as long as a session belongs to a live one, of the client that published it
abbrev pub IsLifeFor : List Session → List ℕ → Life → Type 0
IsLifeFor sessions publisher (the_life.Session serial) =
    (s : Session) × (session_with_serial serial sessions ≡ Some s) × (s.client ≡ publisher)
IsLifeFor sessions publisher the_life.Forever = Unit {0}

-- each attachment has such a life
abbrev pub AllLive : State → Type 0
AllLive state = AllByRecursion (λ (a : Attachment). IsLifeFor state.sessions a.stored.publisher a.stored.life) state.graph
