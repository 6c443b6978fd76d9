-- Waiting for a head. No public clause cites this file.
use Rattle.std.specs.Prelude.{◌≡◌, ℕ, ◌⊎◌, List, [], ◌++◌, Option}
use Rattle.std.specs.Io.KnownBytes.{IsAtEnd}
use Rattle.ifmap_heads.specs.Answers.{ReadsAnswer, ended as unanswered, not_http, other, sized}
use Rattle.ifmap_heads.specs.Posts.{ReadsPost, status, truncated}
use Rattle.ifmap_heads.specs.Starts.{HasAnswerHead, HasPostHead}
use Rattle.ifmap_http.specs.declared.heads.AwaitedAnswer.{AwaitedAnswer}
use Rattle.ifmap_http.specs.declared.heads.AwaitedAnswer.TheVariants as answer
use Rattle.ifmap_http.specs.declared.heads.AwaitedPost.{AwaitedPost}
use Rattle.ifmap_http.specs.declared.heads.AwaitedPost.TheVariants as post

-- what is pending, and at the end of input alone, begins that
abbrev pub AwaitsPost : List ℕ → Option (List ℕ) → AwaitedPost → Type 0
AwaitsPost bytes left (post.Taken size terms) = HasPostHead bytes size terms
AwaitsPost bytes left (post.Refused number) =
    ((more : List ℕ) → ReadsPost (bytes ++ more) (status number)) ⊎ (IsAtEnd left × ReadsPost bytes (status number))
AwaitsPost bytes left post.Ended = IsAtEnd left × (bytes ≡ [])
AwaitsPost bytes left post.Truncated = IsAtEnd left × ReadsPost bytes truncated
AwaitsPost bytes left post.ReadFault = Unit {0}
AwaitsPost bytes left post.NoMemory = Unit {0}

-- P, unless reading failed or there was want of memory
abbrev pub UnlessPostFails : AwaitedPost → Type 0 → Type 0
UnlessPostFails (post.Taken size terms) P = P
UnlessPostFails (post.Refused number) P = P
UnlessPostFails post.Ended P = P
UnlessPostFails post.Truncated P = P
UnlessPostFails post.ReadFault P = Unit {0}
UnlessPostFails post.NoMemory P = Unit {0}

-- the same of an answer
abbrev pub AwaitsAnswer : List ℕ → Option (List ℕ) → AwaitedAnswer → Type 0
AwaitsAnswer bytes left (answer.Sized size body) = HasAnswerHead bytes size (sized body)
AwaitsAnswer bytes left (answer.Refused size number) = HasAnswerHead bytes size (other number)
AwaitsAnswer bytes left answer.NotHttp =
    ((more : List ℕ) → ReadsAnswer (bytes ++ more) not_http) ⊎ (IsAtEnd left × ReadsAnswer bytes not_http)
AwaitsAnswer bytes left answer.Ended = IsAtEnd left × ReadsAnswer bytes unanswered
AwaitsAnswer bytes left answer.ReadFault = Unit {0}
AwaitsAnswer bytes left answer.NoMemory = Unit {0}

-- P, unless reading failed or there was want of memory
abbrev pub UnlessAnswerFails : AwaitedAnswer → Type 0 → Type 0
UnlessAnswerFails (answer.Sized size body) P = P
UnlessAnswerFails (answer.Refused size number) P = P
UnlessAnswerFails answer.NotHttp P = P
UnlessAnswerFails answer.Ended P = P
UnlessAnswerFails answer.ReadFault P = Unit {0}
UnlessAnswerFails answer.NoMemory P = Unit {0}
