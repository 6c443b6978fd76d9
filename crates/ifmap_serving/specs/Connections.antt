-- Connections that a worker serves one after another.
use Rattle.std.specs.Prelude.{◌≡◌, ℕ, Bool, false, List, [], ◌∷◌}
use Rattle.std.specs.Io.KnownBytes.{prepend_known}
use Rattle.rand_chacha.specs.ChaCha.{ChaCha}
use Rattle.ifmap_io.specs.Links.{Seen}
use Rattle.ifmap_desks.specs.ifmap_dialogue.declared.endings.Ending.{Ending}
use Rattle.ifmap_desks.specs.ifmap_dialogue.Desks.{DeskSeen, Turn}
use Rattle.ifmap_desks.specs.ifmap_dialogue.Dialogue.{Serves}
use Rattle.ifmap_desks.specs.ifmap_dialogue.Scenes.{scene}
use Rattle.ifmap_http.specs.Wires.{WireSeen}

-- a worker between two connections: its desk, and its stream of words
pub record Worker (H : Type 0) : Type 0 where
  pub desk : DeskSeen H
  pub words : ChaCha

abbrev pub worker : {H : Type 0} → DeskSeen H → ChaCha → Worker H
worker desk words = record { desk = desk; words = words }

-- a wire over a link, which has taken these bytes of it and not handed them out, and is spent or not
abbrev pub wire_over : Seen → List ℕ → Bool → WireSeen
wire_over link taken spent = record {
  left = prepend_known taken link.left;
  held = link.held;
  read_faults = link.read_faults;
  write_faults = link.write_faults;
  spent = spent;
}

-- a connection: the worker before it and after it, the link as it left the door and as it comes back, the turns at the desk, the bytes
-- that the link gained, and how it ended
pub record Connection (H : Type 0) : Type 0 where
  pub before : Worker H
  pub after : Worker H
  pub came : Seen
  pub back : Seen
  pub turns : List Turn
  pub output : List ℕ
  pub ending : Ending

-- it was served over a new wire, which was let go with what it had taken and not handed out
pub record IsServed {H : Type 0} (gives : ℕ → Type 0) (c : Connection H) : Type 0 where
  pub taken : List ℕ
  pub spent : Bool
  pub serves : Serves gives
      (scene c.before.desk (wire_over c.came [] false) c.before.words)
      (scene c.after.desk (wire_over c.back taken spent) c.after.words) c.ending
  pub turns : serves.turns ≡ c.turns
  pub output : serves.output ≡ c.output

-- the worker served one connection, for which that link came, and which gave it back so
pub record ServesLink {H : Type 0} (gives : ℕ → Type 0) (before after : Worker H) (came back : Seen) : Type 0 where
  pub turns : List Turn
  pub output : List ℕ
  pub ending : Ending
  pub served : IsServed gives (record {
    before = before;
    after = after;
    came = came;
    back = back;
    turns = turns;
    output = output;
    ending = ending;
  })

-- the connections were served in this order, each by the worker as the one before it left it
abbrev pub FollowOn : {H : Type 0} → (ℕ → Type 0) → Worker H → List (Connection H) → Worker H → Type 0
FollowOn gives first [] last = last ≡ first
FollowOn gives first (c ∷ connections) last = (c.before ≡ first) × IsServed gives c × FollowOn gives c.after connections last
