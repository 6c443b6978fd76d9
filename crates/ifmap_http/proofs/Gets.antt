-- From what was awaited to what a wire answers.
use Rattle.std.proofs.Common.{◌≡◌, ◌⊎◌, ℕ, ◌≤◌, Bool, List, ◌++◌, ◌∙◌, ap, drop, length}
use Rattle.std.specs.Prelude.{IfSome, None, Option, Some}
use Rattle.std.specs.Io.KnownBytes.{IsAtEnd, prepend_known}
use Rattle.httparse.specs.Grammar.{RequestHead}
use Rattle.ifmap_heads.specs.Answers.{other}
use Rattle.ifmap_heads.specs.Heads.{IsPostHead}
use Rattle.ifmap_heads.specs.Posts.{ReadsPost, status}
use Rattle.ifmap_heads.specs.Starts.{HasAnswerHead, HasPostHead}
use Rattle.ifmap_heads.specs.declared.posts.PostTerms.{PostTerms}
use Rattle.ifmap_io.specs.Rises.{rose_since}
use Rattle.ifmap_input.specs.InputLaws.{uses_more}
use Rattle.ifmap_input.specs.Inputs.{TakesFromSource, UsesOneSide}
use Rattle.ifmap_http.specs.Outcomes.{GetsAnswer, GetsByReading, GetsPost, TakesPost}
use Rattle.ifmap_http.specs.Wires.{Wired}
use Rattle.ifmap_http.specs.declared.wires.Answered.TheVariants as answer
use Rattle.ifmap_http.specs.declared.wires.Got.{Got}
use Rattle.ifmap_http.specs.declared.wires.Got.TheVariants as got
use Rattle.ifmap_http.proofs.Reading.{answer_refused, for_told, post_is_there, whole_is}

-- what is claimed of the bytes so far, whatever comes after them or at the end, is of all that the wire had left
pub told_whole : (P : List ℕ → Type 0) (left_old left_new : Option (List ℕ)) (old new : List ℕ)
    → TakesFromSource left_old left_new old new → ((more : List ℕ) → P (new ++ more)) ⊎ (IsAtEnd left_new × P new)
    → IfSome (prepend_known old left_old) P
told_whole P left_old left_new old new takes claim =
    for_told P left_old left_new old new takes (λ rest is. whole_is P new rest left_new is claim)

pub gets_refused : (number : ℕ) (left_old left_new : Option (List ℕ)) (old new : List ℕ) → TakesFromSource left_old left_new old new
    → ((more : List ℕ) → ReadsPost (new ++ more) (status number)) ⊎ (IsAtEnd left_new × ReadsPost new (status number))
    → IfSome (prepend_known old left_old) (λ left. GetsPost left (prepend_known new left_new) (got.Status number))
gets_refused number left_old left_new old new takes refused =
    for_told (λ left. GetsPost left (prepend_known new left_new) (got.Status number)) left_old left_new old new takes
    (λ rest is. (whole_is (λ xs. ReadsPost xs (status number)) new rest left_new is refused, ap (prepend_known new) is))

pub answers_refused : (number size : ℕ) (left_old left_new : Option (List ℕ)) (old new : List ℕ) → TakesFromSource left_old left_new old new
    → HasAnswerHead new size (other number)
    → IfSome (prepend_known old left_old) (λ left. GetsAnswer left (prepend_known (drop size new) left_new) (answer.Status number))
answers_refused number size left_old left_new old new takes has =
    for_told (λ left. GetsAnswer left (prepend_known (drop size new) left_new) (answer.Status number)) left_old left_new old new takes
    (λ rest is. answer_refused new size number left_new rest has is)

-- of an answer that says nothing, nothing is to be shown
pub gets_nothing : (known : Option (List ℕ)) → IfSome known (λ left. Unit {0})
gets_nothing None = tt
gets_nothing (Some left) = tt

module _ {L Side : Type 0} (left : L → Option (List ℕ)) (faults : L → ℕ) (outgoing : L → Side) where
  -- what was got by reading, after something was read
  gets_after : (old mid new : L) (result : Got) → UsesOneSide left faults outgoing old mid
      → GetsByReading left faults outgoing mid new result → GetsByReading left faults outgoing old new result
  gets_after old mid new result waited gets = record {
    answerable = gets.answerable;
    fault = λ e. rose_since _ _ _ waited.later (gets.fault e);
    side = uses_more left faults outgoing old mid new waited gets.side;
  }

  -- a wire takes nothing but what was awaited
  pub takes_awaited : (old new : Wired L) (result : Got)
      → IfSome (prepend_known old.taken (left old.link)) (λ all. GetsPost all (prepend_known new.taken (left new.link)) result)
      → GetsByReading left faults outgoing old.link new.link result
      → ((head : RequestHead) (rest : List ℕ) → IsPostHead old.taken head rest → (new.link ≡ old.link) × (new.taken ≡ old.taken))
      → TakesPost left faults outgoing old new result
  takes_awaited old new result reads gets quiet = record {
    reads = reads;
    by_reading = gets;
    quiet = λ client body close rest post. (quiet post.0 (body ++ rest) post.1).0;
  }

  -- a wire takes the body of a post after the head that was awaited, which left this of the link and taken
  pub takes_posted : (old new : Wired L) (link : L) (taken : List ℕ) (size : ℕ) (terms : PostTerms) (result : Got)
      → HasPostHead taken size terms → TakesFromSource (left old.link) (left link) old.taken taken
      → UsesOneSide left faults outgoing old.link link
      → ((head : RequestHead) (rest : List ℕ) → IsPostHead old.taken head rest → (link ≡ old.link) × (taken ≡ old.taken))
      → ((all : List ℕ) → left link ≡ Some all → GetsPost (taken ++ all) (prepend_known new.taken (left new.link)) result)
      → GetsByReading left faults outgoing link new.link result
      → (terms.size ≤ length (drop size taken) → new.link ≡ link)
      → TakesPost left faults outgoing old new result
  takes_posted old new link taken size terms result has takes waited still reads gets quiet = record {
    reads = for_told (λ (all : List ℕ). GetsPost all (prepend_known new.taken (left new.link)) result) _ _ _ _ takes reads;
    by_reading = gets_after old.link link new.link result waited gets;
    quiet = λ client body close rest post.
        let same = still post.0 (body ++ rest) post.1 in
        quiet (post_is_there old.taken taken size terms post.0 client body close rest same.1 has post.1 post.2) ∙ same.0;
  }

  -- what a wire takes, it takes whether it is then spent or not
  pub takes_whether_spent : (old new : Wired L) (spent : Bool) (result : Got) → TakesPost left faults outgoing old new result
      → TakesPost left faults outgoing old (record new { spent = spent }) result
  takes_whether_spent old new spent result takes = record { reads = takes.reads; by_reading = takes.by_reading; quiet = takes.quiet }
