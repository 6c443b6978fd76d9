-- What a script does to its source, its sink and its two wires, by how it ends.
use Rattle.std.specs.Prelude.{◌≡◌, ◌⊎◌, ℕ, ◌+◌, Bool, true, false, List, [], ◌∷◌, ◌++◌, length, take, Some}
use Rattle.std.specs.Io.KnownBytes.{Appends, Consumes, IsAtEnd}
use Rattle.ifmap_client.specs.Lines.{IsLine}
use Rattle.ifmap_client.specs.declared.lines.Line.TheVariants as the_line
use Rattle.ifmap_requests.specs.declared.requests.Request.{Request}
use Rattle.ifmap_client_script.specs.declared.exchanges.Caller.{Caller}
use Rattle.ifmap_client_script.specs.declared.outcomes.Outcome.{Outcome}
use Rattle.ifmap_client_script.specs.declared.outcomes.Outcome.TheVariants as outcome
use Rattle.ifmap_client_script.specs.Deeds.{Deed, Known, after_deeds, is_poll, nothing_known, request_in}
use Rattle.ifmap_client_script.specs.Ends.{SourceAndPorts, IsLaterInRun, LinkFailed, Ports, ScriptReadFailed, PrintFailed}
use Rattle.ifmap_client_script.specs.Exchanges.{Breaks, HasPostedAndHeard, HasAny, HasNoReply, HasPart, IsFrontOfPost, first_asks, second_asks, request_post}
use Rattle.ifmap_client_script.specs.Printing.{deed_text, deeds_text}
use Rattle.ifmap_client_script.specs.Scripts.{AwaitsLine, BeginsLine, Carries, IsBadLine, IsTakenScript}

-- what is known after deeds from the beginning of a script on
abbrev pub known_after : List Deed → Known
known_after deeds = after_deeds deeds nothing_known

-- the request of the line that begins here is sent as this one
pub record AsksNext (offset : ℕ) (known : Known) (bytes : List ℕ) (sent : Request) : Type 0 where
  pub text : List ℕ
  pub after : List ℕ
  pub request : Request
  pub begins : BeginsLine offset bytes text after
  pub means : IsLine text (the_line.Request request)
  pub named : request_in known.session request ≡ Some sent

-- what a post gained of it is a front, or all of it
abbrev pub Cutting : Type 1
Cutting = (post front : List ℕ) → Type 0

abbrev pub IsWholePost : Cutting
IsWholePost post front = front ≡ post

module _ (before after : SourceAndPorts) where
  -- the lines of what was taken from the source were carried out by these deeds, up to a rest, of which the first byte stands at an
  -- offset of the script
  pub record CarriesTaken (deeds : List Deed) (rest : List ℕ) (offset : ℕ) : Type 0 where
    pub taken : List ℕ
    pub script : List ℕ
    pub consumed : Consumes before.left after.left taken
    pub script_is : IsTakenScript after.left taken script
    pub carried : Carries 0 nothing_known script deeds rest
    pub offset_is : offset + length rest ≡ length script

module _ (caller : Caller) (before after : Ports) where
  -- the wires were asked what the deeds ask
  pub record HaveExchanged (deeds : List Deed) : Type 0 where
    pub first : HasPostedAndHeard caller (first_asks deeds) before.first after.first
    pub second : HasPostedAndHeard caller (second_asks deeds) before.second after.second

  -- the wires were asked what the deeds ask; the one over which the request goes gained so much of its post, and then has left
  -- that
  abbrev pub BreaksExchange : Bool → List Deed → List ℕ → (List ℕ → Type 0) → Type 0
  BreaksExchange true deeds post Has =
      HasPostedAndHeard caller (first_asks deeds) before.first after.first
      × Breaks caller (second_asks deeds) post Has before.second after.second
  BreaksExchange false deeds post Has =
      Breaks caller (first_asks deeds) post Has before.first after.first
      × HasPostedAndHeard caller (second_asks deeds) before.second after.second

  -- the sink gained what is written for the deeds, and the wires were asked what they ask
  pub record Did (known : Known) (deeds : List Deed) : Type 0 where
    pub wrote : Appends before.held after.held (deeds_text known deeds)
    pub exchanged : HaveExchanged deeds

  -- the same, but what is written for one more deed was cut
  pub record Wrote (known : Known) (deeds : List Deed) (deed : Deed) : Type 0 where
    pub count : ℕ
    pub wrote : Appends before.held after.held (deeds_text known deeds ++ take count (deed_text (after_deeds deeds known) deed))
    pub exchanged : HaveExchanged (deeds ++ deed ∷ [])

  -- the same, and a request was posted, but no reply came
  pub record PostsUnanswered (IsCut : Cutting) (Has : List ℕ → Type 0) (known : Known) (deeds : List Deed) (sent : Request) : Type 0 where
    pub front : List ℕ
    pub cut : IsCut (request_post caller sent) front
    pub wrote : Appends before.held after.held (deeds_text known deeds)
    pub broken : BreaksExchange (is_poll sent) deeds front Has

module _ (caller : Caller) (before after : SourceAndPorts) where
  -- all lines were carried out, up to the end of the source
  pub record IsDone : Type 0 where
    pub deeds : List Deed
    pub offset : ℕ
    pub takes : CarriesTaken before after deeds [] offset
    pub end : IsAtEnd after.left
    pub did : Did caller before.ports after.ports nothing_known deeds

  -- the lines before that one were carried out, and it is none that can be
  pub record IsFaulty (line : ℕ) : Type 0 where
    pub deeds : List Deed
    pub rest : List ℕ
    pub offset : ℕ
    pub takes : CarriesTaken before after deeds rest offset
    pub fault : IsBadLine offset (known_after deeds) rest
    pub line_is : line ≡ length deeds + 1
    pub did : Did caller before.ports after.ports nothing_known deeds

  -- the lines that were taken were carried out, and a read was due
  pub record IsUnread : Type 0 where
    pub deeds : List Deed
    pub rest : List ℕ
    pub offset : ℕ
    pub takes : CarriesTaken before after deeds rest offset
    pub awaited : AwaitsLine offset rest
    pub did : Did caller before.ports after.ports nothing_known deeds

  -- the lines were carried out, but what is written for the last was cut
  pub record IsUnwritten : Type 0 where
    pub deeds : List Deed
    pub deed : Deed
    pub rest : List ℕ
    pub offset : ℕ
    pub takes : CarriesTaken before after (deeds ++ deed ∷ []) rest offset
    pub wrote : Wrote caller before.ports after.ports nothing_known deeds deed

  -- the lines before that one were carried out, and its request was posted, but no reply came
  pub record IsUnanswered (IsCut : Cutting) (Has : List ℕ → Type 0) (line : ℕ) : Type 0 where
    pub deeds : List Deed
    pub rest : List ℕ
    pub offset : ℕ
    pub sent : Request
    pub takes : CarriesTaken before after deeds rest offset
    pub next : AsksNext offset (known_after deeds) rest sent
    pub line_is : line ≡ length deeds + 1
    pub posted : PostsUnanswered caller before.ports after.ports IsCut Has nothing_known deeds sent

  -- a request or its answer was cut
  abbrev pub IsUnasked : Type 0
  IsUnasked = (line : ℕ) × IsUnanswered IsFrontOfPost HasAny line

  -- the lines of a front of what was taken were carried out
  pub record IsPartlyDone : Type 0 where
    pub deeds : List Deed
    pub rest : List ℕ
    pub taken : List ℕ
    pub lost : List ℕ
    pub script : List ℕ
    pub consumed : Consumes before.left after.left (taken ++ lost)
    pub script_is : IsTakenScript after.left taken script
    pub carried : Carries 0 nothing_known script deeds rest
    pub did : Did caller before.ports after.ports nothing_known deeds

-- what a script promises, by how it ends; a fault is told only where its object has counted one
abbrev pub ScriptPromises : Caller → (before after : SourceAndPorts) → Outcome → Type 0
ScriptPromises caller before after outcome.Done = IsDone caller before after
ScriptPromises caller before after (outcome.BadLine line) = IsFaulty caller before after line
ScriptPromises caller before after outcome.ReadFault = IsUnread caller before after × ScriptReadFailed before after
ScriptPromises caller before after outcome.WriteFault = IsUnwritten caller before after × PrintFailed before.ports after.ports
ScriptPromises caller before after outcome.LinkFault = IsUnasked caller before after × LinkFailed before.ports after.ports
ScriptPromises caller before after (outcome.LinkEnded line) = IsUnanswered caller before after IsWholePost HasPart line
ScriptPromises caller before after (outcome.BadReply line) = IsUnanswered caller before after IsWholePost HasNoReply line
ScriptPromises caller before after outcome.NoMemory =
    IsPartlyDone caller before after ⊎ (IsUnasked caller before after ⊎ IsUnwritten caller before after)

-- a script was carried out as far as its outcome promises, and no count of faults has fallen
pub record IsCarriedOut (caller : Caller) (before after : SourceAndPorts) (ended : Outcome) : Type 0 where
  pub promises : ScriptPromises caller before after ended
  pub later : IsLaterInRun before after
