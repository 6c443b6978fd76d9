-- What a wire does for requests that go over it, each answered before the next is sent.
use Rattle.std.specs.Prelude.{◌≡◌, ◌⊎◌, ◌≤◌, ℕ, false, List, [], ◌∷◌, ◌++◌, take, Some, IfSome, Result, Ok, Err, if◌then◌else◌}
use Rattle.std.specs.Io.KnownBytes.{Appends, Keeps}
use Rattle.std.specs.List.{flat_map}
use Rattle.ifmap_http.specs.ifmap_heads.Answers.{ReadsAnswer, answered, ended, not_http, status}
use Rattle.ifmap_http.specs.ifmap_heads.Messages.{post_bytes}
use Rattle.ifmap_http.specs.Wires.{WireSeen}
use Rattle.ifmap_io.specs.Causes.{Rose}
use Rattle.ifmap_replies.specs.declared.replies.Reply.{Reply}
use Rattle.ifmap_replies.specs.Means.{MeansReply}
use Rattle.ifmap_requests.specs.declared.requests.Request.{Request}
use Rattle.ifmap_writing.specs.RequestElements.{request_bytes}
use Rattle.ifmap_client_script.specs.declared.exchanges.Caller.{Caller}
use Rattle.ifmap_client_script.specs.declared.exchanges.ReadReply.{ReadReply}
use Rattle.ifmap_client_script.specs.declared.outcomes.ScriptFailure.{ScriptFailure}
use Rattle.ifmap_client_script.specs.declared.outcomes.ScriptFailure.TheVariants as failure
use Rattle.ifmap_client_script.specs.Deeds.{Exchange, Deed, is_poll}
use Rattle.ifmap_client_script.specs.Deeds as deed

-- the post of a request
abbrev pub request_post : Caller → Request → List ℕ
request_post caller request = post_bytes caller.host caller.client (request_bytes request)

-- the posts of what is asked, one after the other
abbrev pub posts : Caller → List Exchange → List ℕ
posts caller asked = flat_map (λ a. request_post caller a.request) asked

-- what is asked over the second wire, which is each poll, and over the first
abbrev pub second_asks : List Deed → List Exchange
second_asks [] = []
second_asks (deed.passed ∷ deeds) = second_asks deeds
second_asks (deed.asked a ∷ deeds) = if is_poll a.request then a ∷ second_asks deeds else second_asks deeds
second_asks (deed.printed name ∷ deeds) = second_asks deeds

abbrev pub first_asks : List Deed → List Exchange
first_asks [] = []
first_asks (deed.passed ∷ deeds) = first_asks deeds
first_asks (deed.asked a ∷ deeds) = if is_poll a.request then first_asks deeds else a ∷ first_asks deeds
first_asks (deed.printed name ∷ deeds) = first_asks deeds

-- these bytes begin with the answers to what is asked, and go on with a rest
abbrev pub AnswersTo : List Exchange → List ℕ → List ℕ → Type 0
AnswersTo [] left rest = left ≡ rest
AnswersTo (a ∷ asked) left rest = (next : List ℕ) × ReadsAnswer left (answered a.body next) × AnswersTo asked next rest

-- the wire gained the posts of what was asked, and the answers to it are no longer left
pub record HasPostedAndHeard (caller : Caller) (asked : List Exchange) (before after : WireSeen) : Type 0 where
  pub posted : Appends before.held after.held (posts caller asked)
  pub answered : IfSome before.left (λ left. (rest : List ℕ) × (after.left ≡ Some rest) × AnswersTo asked left rest)
  pub unspent : after.spent ≡ false

-- what was left begins with no reply: with no answer of HTTP, another status than 200, or a body that is none
abbrev pub HasNoReply : List ℕ → Type 0
HasNoReply left =
    ReadsAnswer left not_http
    ⊎ (((number : ℕ) × (rest : List ℕ) × ReadsAnswer left (status number rest))
    ⊎ ((body : List ℕ) × (rest : List ℕ) × ReadsAnswer left (answered body rest)
    × ((answer : Reply) → MeansReply body answer → ⊥)))

-- what was left ends before an answer is whole
abbrev pub HasPart : List ℕ → Type 0
HasPart left = ReadsAnswer left ended

-- whatever was left
abbrev pub HasAny : List ℕ → Type 0
HasAny left = Unit {0}

-- the wire gained the posts of what was asked, and then so much of a request's; the answers to what was asked were left, and then
-- that
pub record Breaks (caller : Caller) (asked : List Exchange) (post : List ℕ) (Has : List ℕ → Type 0) (before after : WireSeen) : Type 0 where
  pub posted : Appends before.held after.held (posts caller asked ++ post)
  pub answered : IfSome before.left (λ left. (rest : List ℕ) × AnswersTo asked left rest × Has rest)

-- a read or a write of a wire's link has failed
abbrev pub WireFailed : WireSeen → WireSeen → Type 0
WireFailed before after = Rose before.read_faults after.read_faults ⊎ Rose before.write_faults after.write_faults

-- a front of a post
abbrev pub IsFrontOfPost : List ℕ → List ℕ → Type 0
IsFrontOfPost post front = (n : ℕ) × (front ≡ take n post)

-- what was asked and told
abbrev pub exchange_of : Request → ReadReply → Exchange
exchange_of request told = record { request = request; body = told.body; answer = told.reply }

-- what a wire does for one request
abbrev pub AsksOnWire : Caller → Request → WireSeen → WireSeen → Result ReadReply ScriptFailure → Type 0
AsksOnWire caller request before after (Ok told) = HasPostedAndHeard caller (exchange_of request told ∷ []) before after × MeansReply
    told.body told.reply
AsksOnWire caller request before after (Err failure.LinkFault) =
    ((front : List ℕ) × IsFrontOfPost (request_post caller request) front × Breaks caller [] front HasAny before after)
    × WireFailed before after
AsksOnWire caller request before after (Err failure.LinkEnded) = Breaks caller [] (request_post caller request) HasPart before after
AsksOnWire caller request before after (Err failure.BadReply) = Breaks caller [] (request_post caller request) HasNoReply before after
AsksOnWire caller request before after (Err failure.NoMemory) =
    (front : List ℕ) × IsFrontOfPost (request_post caller request) front × Breaks caller [] front HasAny before after
AsksOnWire caller request before after (Err failure.BadLine) = ⊥
AsksOnWire caller request before after (Err failure.ReadFault) = ⊥
AsksOnWire caller request before after (Err failure.WriteFault) = ⊥

-- ---- the two halves of it

-- reading is as it was
pub record ReadingStands (before after : WireSeen) : Type 0 where
  pub left : after.left ≡ before.left
  pub read_faults : after.read_faults ≡ before.read_faults
  pub write_faults : before.write_faults ≤ after.write_faults
  pub spent : after.spent ≡ before.spent

-- writing is as it was
pub record WritingStands (before after : WireSeen) : Type 0 where
  pub held : after.held ≡ before.held
  pub read_faults : before.read_faults ≤ after.read_faults
  pub write_faults : after.write_faults ≡ before.write_faults

-- a post was written
abbrev pub Posts : List ℕ → WireSeen → WireSeen → Result (Unit {0}) ScriptFailure → Type 0
Posts post before after (Ok _) = Appends before.held after.held post
Posts post before after (Err failure.LinkFault) =
    ((n : ℕ) × Appends before.held after.held (take n post)) × Rose before.write_faults after.write_faults
Posts post before after (Err failure.NoMemory) = Keeps before.held after.held
Posts post before after (Err failure.BadLine) = ⊥
Posts post before after (Err failure.ReadFault) = ⊥
Posts post before after (Err failure.WriteFault) = ⊥
Posts post before after (Err failure.LinkEnded) = ⊥
Posts post before after (Err failure.BadReply) = ⊥

-- the body of an answer was taken
abbrev pub Receives : WireSeen → WireSeen → Result (List ℕ) ScriptFailure → Type 0
Receives before after (Ok body) =
    IfSome before.left (λ left. (rest : List ℕ) × (after.left ≡ Some rest) × ReadsAnswer left (answered body rest))
    × (after.spent ≡ false)
Receives before after (Err failure.LinkFault) = Rose before.read_faults after.read_faults
Receives before after (Err failure.LinkEnded) = IfSome before.left HasPart
Receives before after (Err failure.BadReply) = IfSome before.left HasNoReply
Receives before after (Err failure.NoMemory) = Unit {0}
Receives before after (Err failure.BadLine) = ⊥
Receives before after (Err failure.ReadFault) = ⊥
Receives before after (Err failure.WriteFault) = ⊥

-- the reply that a body means, or that it means none
abbrev pub Reads : List ℕ → Result Reply ScriptFailure → Type 0
Reads body (Ok answer) = MeansReply body answer
Reads body (Err failure.BadReply) = (answer : Reply) → MeansReply body answer → ⊥
Reads body (Err failure.NoMemory) = Unit {0}
Reads body (Err failure.BadLine) = ⊥
Reads body (Err failure.ReadFault) = ⊥
Reads body (Err failure.WriteFault) = ⊥
Reads body (Err failure.LinkFault) = ⊥
Reads body (Err failure.LinkEnded) = ⊥

-- a body with the reply that it means
abbrev pub BodyTellsReply : List ℕ → Result ReadReply ScriptFailure → Type 0
BodyTellsReply body (Ok told) = (told.body ≡ body) × MeansReply told.body told.reply
BodyTellsReply body (Err e) = Reads body (Err e)

-- an answer was taken
abbrev pub Hears : WireSeen → WireSeen → Result ReadReply ScriptFailure → Type 0
Hears before after (Ok told) = Receives before after (Ok told.body) × MeansReply told.body told.reply
Hears before after (Err e) = Receives before after (Err e)
