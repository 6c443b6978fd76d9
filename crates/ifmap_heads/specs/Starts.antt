-- What the bytes that were taken so far begin, whatever comes after them.
use Rattle.std.specs.Prelude.{◌≡◌, ℕ, ◌≤◌, List, ◌++◌, length, drop}
use Rattle.httparse.specs.Grammar.{MayBecomeRequest, MayBecomeResponse, RequestHead, ResponseHead}
use Rattle.ifmap_heads.specs.Answers.{ReadsAnswer, Verdict, judge_answer, not_http, other, sized, unfit}
use Rattle.ifmap_heads.specs.Heads.{HasNoAnswerHead, HasNoPostHead, IsAnswerHead, IsPostHead}
use Rattle.ifmap_heads.specs.Limits.{longest_head}
use Rattle.ifmap_heads.specs.Posts.{Judgement, ReadsPost, judge_post, refused, status, taken}
use Rattle.ifmap_heads.specs.declared.answers.AnswerStart.{AnswerStart}
use Rattle.ifmap_heads.specs.declared.answers.AnswerStart.TheVariants as answer
use Rattle.ifmap_heads.specs.declared.answers.Verdict as found_type
use Rattle.ifmap_heads.specs.declared.answers.Verdict.TheVariants as found
use Rattle.ifmap_heads.specs.declared.posts.Judged.{Judged}
use Rattle.ifmap_heads.specs.declared.posts.Judged.TheVariants as judged
use Rattle.ifmap_heads.specs.declared.posts.PostStart.{PostStart}
use Rattle.ifmap_heads.specs.declared.posts.PostStart.TheVariants as post
use Rattle.ifmap_heads.specs.declared.posts.PostTerms.{PostTerms}

-- what is found of a head
abbrev pub judgement_of : Judged → Judgement
judgement_of (judged.Refused number) = refused number
judgement_of (judged.Taken terms) = taken terms.client terms.size terms.close

-- the same of an answer's head
abbrev pub verdict_of : found_type.Verdict → Verdict
verdict_of (found.Other number) = other number
verdict_of (found.Sized size) = sized size
verdict_of found.Unfit = unfit

-- the bytes have no whole head of a post, and may become one
pub record IsUnfinishedPost (bytes : List ℕ) : Type 0 where
  pub none : HasNoPostHead bytes
  pub short : length bytes ≤ longest_head
  pub unfinished : MayBecomeRequest bytes

-- the first size bytes are a head, whatever comes after, and it says these terms
pub record HasPostHead (bytes : List ℕ) (size : ℕ) (terms : PostTerms) : Type 0 where
  pub head : RequestHead
  pub within : size ≤ length bytes
  pub is : (more : List ℕ) → IsPostHead (bytes ++ more) head (drop size bytes ++ more)
  pub says : judge_post head ≡ taken terms.client terms.size terms.close

-- what the bytes of a post so far begin
abbrev pub StartsPost : List ℕ → PostStart → Type 0
StartsPost bytes post.Unfinished = IsUnfinishedPost bytes
StartsPost bytes (post.Refused number) = (more : List ℕ) → ReadsPost (bytes ++ more) (status number)
StartsPost bytes (post.Taken size terms) = HasPostHead bytes size terms

-- the bytes have no whole head of an answer, and may become one
pub record IsUnfinishedAnswer (bytes : List ℕ) : Type 0 where
  pub none : HasNoAnswerHead bytes
  pub short : length bytes ≤ longest_head
  pub unfinished : MayBecomeResponse bytes

-- the first size bytes are a head, whatever comes after, and it says that
pub record HasAnswerHead (bytes : List ℕ) (size : ℕ) (verdict : Verdict) : Type 0 where
  pub head : ResponseHead
  pub within : size ≤ length bytes
  pub is : (more : List ℕ) → IsAnswerHead (bytes ++ more) head (drop size bytes ++ more)
  pub says : judge_answer head ≡ verdict

-- what the bytes of an answer so far begin
abbrev pub StartsAnswer : List ℕ → AnswerStart → Type 0
StartsAnswer bytes answer.Unfinished = IsUnfinishedAnswer bytes
StartsAnswer bytes answer.NotHttp = (more : List ℕ) → ReadsAnswer (bytes ++ more) not_http
StartsAnswer bytes (answer.Refused size number) = HasAnswerHead bytes size (other number)
StartsAnswer bytes (answer.Sized size body) = HasAnswerHead bytes size (sized body)
