-- What is left of the attachments when sessions end, or a publisher is purged.
use Rattle.std.specs.Prelude.{ℕ, ◌==◌, Bool, false, not, List}
use Rattle.std.specs.List.{filter, list_any}
use Rattle.std.specs.Str.{bytes_eq}
use Rattle.ifmap_meta.specs.declared.stored.Life.{Life}
use Rattle.ifmap_meta.specs.declared.stored.Life.TheVariants.{Session, Forever}
use Rattle.ifmap_meta.specs.declared.stored.Stored.{Stored}
use Rattle.ifmap_view.specs.declared.attachments.Attachment.{Attachment}
use Rattle.ifmap_publish.specs.declared.who.Who.{Who}
use Rattle.ifmap_publish.specs.declared.who.Who.TheVariants.{Sessions, Publisher}

-- it ends with a session of one of these serials
abbrev pub ends_with : List ℕ → Life → Bool
ends_with serials (Session own) = list_any (λ serial. serial == own) serials
ends_with serials Forever = false

-- it is of these
abbrev pub is_of : Who → Stored → Bool
is_of (Sessions serials) s = ends_with serials s.life
is_of (Publisher name) s = bytes_eq s.publisher name

-- without what is of these
abbrev pub retract : Who → List Attachment → List Attachment
retract who rows = filter (λ a. not (is_of who a.stored)) rows

-- on one item
abbrev pub retract_on : Who → List Stored → List Stored
retract_on who list = filter (λ s. not (is_of who s)) list
