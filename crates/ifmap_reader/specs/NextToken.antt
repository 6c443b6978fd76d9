-- What the token at the front of bytes makes of where a reader stands.
use Rattle.std.specs.Prelude.{◌≡◌, ℕ, ◌≤◌, ◌⊎◌, List, ◌∷◌, drop, length, reverse, Result, Ok, Err}
use Rattle.ifmap_elem.specs.declared.tokens.Token.{Token}
use Rattle.ifmap_elem.specs.declared.tokens.Token.TheVariants.{End}
use Rattle.ifmap_elem.specs.Tokens.{TakesToken}
use Rattle.ifmap_lexer.specs.There.{IsAlone, NoToken}
use Rattle.ifmap_reader.specs.declared.errors.TokenRefusal.{TokenRefusal}
use Rattle.ifmap_reader.specs.declared.errors.TokenRefusal.TheVariants.{NotAllowed, NoMemory}
use Rattle.ifmap_reader.specs.declared.next_token.AfterToken.{AfterToken}
use Rattle.ifmap_reader.specs.declared.open_elements.OpenElement.{OpenElement}
use Rattle.ifmap_reader.specs.declared.progress.DocumentProgress.{DocumentProgress}
use Rattle.ifmap_reader.specs.OpenElements.{written_name}
use Rattle.ifmap_reader.specs.Progress.{EndAnswer, TokenAnswer, Where}

-- the token is the only one at the front, and takes so many bytes
pub record TakesAlone (bytes : List ℕ) (t : Token) (count : ℕ) : Type 0 where
  pub taken : TakesToken bytes t (drop count bytes)
  pub alone : IsAlone bytes t (drop count bytes)
  pub some : 1 ≤ count
  pub within : count ≤ length bytes

-- of some open elements, the innermost first, the end tag of the innermost is the only token at the front, and takes so many bytes
pub record EndsInnermost (open_elements : List OpenElement) (bytes : List ℕ) (count : ℕ) : Type 0 where
  pub innermost : OpenElement
  pub outer : List OpenElement
  pub are : open_elements ≡ innermost ∷ outer
  pub takes : TakesAlone bytes (End (written_name innermost)) count

-- the answer to the end tag of the innermost of some open elements, which stands last
abbrev pub InnermostAnswer : List OpenElement → Result DocumentProgress TokenRefusal → Type 0
InnermostAnswer open_elements result =
    (f : OpenElement) (outer : List OpenElement) → reverse open_elements ≡ f ∷ outer → EndAnswer open_elements (written_name f) result

-- the token at the front is the only one there, and this is the answer to it
pub record AnswersToken (depth : ℕ) (old : Where) (bytes : List ℕ) (count : ℕ) (answer : Result DocumentProgress TokenRefusal) : Type 0
  where
    pub token : Token
    pub takes : TakesAlone bytes token count
    pub answers : TokenAnswer depth old token answer

-- the answer to the bytes: to the token at their front; NotAllowed where there is none; or want of memory
abbrev pub NextAnswer : ℕ → Where → List ℕ → Result AfterToken TokenRefusal → Type 0
NextAnswer depth old bytes (Ok next) = AnswersToken depth old bytes next.length (Ok next.standing)
NextAnswer depth old bytes (Err refusal) =
    (refusal ≡ NoMemory)
    ⊎ ((refusal ≡ NotAllowed) × NoToken bytes)
    ⊎ ((count : ℕ) × AnswersToken depth old bytes count (Err refusal))
