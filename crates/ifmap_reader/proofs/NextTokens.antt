-- What the token at the front makes of where a reader stands.
use Rattle.std.proofs.Common.{ℕ, List, reverse, inr}
use Rattle.std.specs.Prelude.{Ok, Err, Result}
use Rattle.ifmap_elem.specs.declared.tokens.Token.TheVariants.{End}
use Rattle.ifmap_reader.specs.declared.errors.TokenRefusal.{TokenRefusal}
use Rattle.ifmap_reader.specs.declared.open_elements.OpenElement.{OpenElement}
use Rattle.ifmap_reader.specs.declared.progress.DocumentProgress.{DocumentProgress}
use Rattle.ifmap_reader.specs.NextToken.{AnswersToken, EndsInnermost, InnermostAnswer, NextAnswer}
use Rattle.ifmap_reader.specs.OpenElements.{written_name}
use Rattle.ifmap_reader.specs.Progress.{Within}

-- an end tag of the innermost is the token at the front, whatever its answer
innermost_answers : (depth : ℕ) (open_elements : List OpenElement) (bytes : List ℕ) (count : ℕ) (answer : Result DocumentProgress
    TokenRefusal)
    → EndsInnermost (reverse open_elements) bytes count → InnermostAnswer open_elements answer
    → AnswersToken depth (Within (reverse open_elements)) bytes count answer
innermost_answers depth open_elements bytes count answer e a = record {
  token = End (written_name e.innermost);
  takes = e.takes;
  answers = a e.innermost e.outer e.are depth;
}

pub innermost_ends : (depth : ℕ) (open_elements : List OpenElement) (bytes : List ℕ) (count : ℕ) (new : DocumentProgress)
    → EndsInnermost (reverse open_elements) bytes count → InnermostAnswer open_elements (Ok new)
    → AnswersToken depth (Within (reverse open_elements)) bytes count (Ok new)
innermost_ends depth open_elements bytes count new e a = innermost_answers depth open_elements bytes count (Ok new) e a

pub innermost_refused : (depth : ℕ) (open_elements : List OpenElement) (bytes : List ℕ) (count : ℕ) (refusal : TokenRefusal)
    → EndsInnermost (reverse open_elements) bytes count → InnermostAnswer open_elements (Err refusal)
    → NextAnswer depth (Within (reverse open_elements)) bytes (Err refusal)
innermost_refused depth open_elements bytes count refusal e a =
    inr (inr (count, innermost_answers depth open_elements bytes count (Err refusal) e a))
