-- What the calls of a wire answer.
use Rattle.std.specs.Prelude.{◌≡◌, ℕ, ◌≤◌, Bool, true, false, IfSome, IsTrue, List, length, take, Option, Some}
use Rattle.std.specs.Io.KnownBytes.{Appends, Keeps, prepend_known}
use Rattle.ifmap_io.specs.Causes.{Rose}
use Rattle.ifmap_input.specs.Inputs.{UsesOneSide}
use Rattle.ifmap_heads.specs.Answers.{ReadsAnswer, answered, not_http, status as other_status, ended as unanswered}
use Rattle.ifmap_heads.specs.Limits.{longest_post}
use Rattle.ifmap_heads.specs.Messages.{is_answer_status}
use Rattle.ifmap_heads.specs.Posts.{ReadsPost, ended, posted, status, truncated}
use Rattle.ifmap_http.specs.declared.wires.Answered.{Answered}
use Rattle.ifmap_http.specs.declared.wires.Answered.TheVariants as answer
use Rattle.ifmap_http.specs.declared.wires.Got.{Got}
use Rattle.ifmap_http.specs.declared.wires.Got.TheVariants as got
use Rattle.ifmap_http.specs.declared.wires.Sent.{Sent}
use Rattle.ifmap_http.specs.declared.wires.Sent.TheVariants as sent
use Rattle.ifmap_http.specs.Wires.{Wired}

-- a wire that had left begins with what was got, and after a post has left what comes after its body
abbrev pub GetsPost : List ℕ → Option (List ℕ) → Got → Type 0
GetsPost left after (got.Posted post) =
    (rest : List ℕ) × (after ≡ Some rest) × ReadsPost left (posted post.client post.body post.close rest)
GetsPost left after got.Ended = ReadsPost left ended
GetsPost left after got.Truncated = ReadsPost left truncated
GetsPost left after (got.Status number) = ReadsPost left (status number) × (after ≡ Some left)
GetsPost left after got.ReadFault = Unit {0}
GetsPost left after got.NoMemory = Unit {0}

-- whatever the link tells, the body of a post is within its limit, and a status is one that answers have
abbrev pub IsAnswerable : Got → Type 0
IsAnswerable (got.Posted post) = length post.body ≤ longest_post
IsAnswerable got.Ended = Unit {0}
IsAnswerable got.Truncated = Unit {0}
IsAnswerable (got.Status number) = IsTrue (is_answer_status number)
IsAnswerable got.ReadFault = Unit {0}
IsAnswerable got.NoMemory = Unit {0}

-- a post was looked for by reading alone: what was got can be answered, a fault has its cause, and the link's other side is as it was
pub record GetsByReading {L Side : Type 0} (left : L → Option (List ℕ)) (faults : L → ℕ) (outgoing : L → Side) (old new : L) (result : Got)
    : Type 0 where
  pub answerable : IsAnswerable result
  pub fault : result ≡ got.ReadFault → Rose (faults old) (faults new)
  pub side : UsesOneSide left faults outgoing old new

-- a wire takes a post by reading alone: it had left what was got, and a post that was taken whole before leaves the link as it is
pub record TakesPost {L Side : Type 0} (left : L → Option (List ℕ)) (faults : L → ℕ) (outgoing : L → Side) (old new : Wired L)
    (result : Got) : Type 0 where
  pub reads : IfSome (prepend_known old.taken (left old.link)) (λ all. GetsPost all (prepend_known new.taken (left new.link)) result)
  pub by_reading : GetsByReading left faults outgoing old.link new.link result
  pub quiet : (client body : List ℕ) (close : Bool) (rest : List ℕ) → ReadsPost old.taken (posted client body close rest)
      → new.link ≡ old.link

-- a post was got
abbrev pub is_posted : Got → Bool
is_posted (got.Posted post) = true
is_posted got.Ended = false
is_posted got.Truncated = false
is_posted (got.Status number) = false
is_posted got.ReadFault = false
is_posted got.NoMemory = false

-- a wire that had left begins with what was answered, and has left what comes after it
abbrev pub GetsAnswer : List ℕ → Option (List ℕ) → Answered → Type 0
GetsAnswer left after (answer.Body body) =
    (rest : List ℕ) × (after ≡ Some rest) × ReadsAnswer left (answered body rest)
GetsAnswer left after (answer.Status number) =
    (rest : List ℕ) × (after ≡ Some rest) × ReadsAnswer left (other_status number rest)
GetsAnswer left after answer.Ended = ReadsAnswer left unanswered
GetsAnswer left after answer.NotHttp = ReadsAnswer left not_http
GetsAnswer left after answer.ReadFault = Unit {0}
GetsAnswer left after answer.NoMemory = Unit {0}

-- a body or a status was answered
abbrev pub is_answered : Answered → Bool
is_answered (answer.Body body) = true
is_answered (answer.Status number) = true
is_answered answer.Ended = false
is_answered answer.NotHttp = false
is_answered answer.ReadFault = false
is_answered answer.NoMemory = false

-- known bytes grow by the message, by a prefix of it after a fault, and by nothing for want of memory
abbrev pub Sends : Option (List ℕ) → Option (List ℕ) → Sent → List ℕ → Type 0
Sends old new sent.Done message = Appends old new message
Sends old new sent.WriteFault message = (n : ℕ) × Appends old new (take n message)
Sends old new sent.NoMemory message = Keeps old new
