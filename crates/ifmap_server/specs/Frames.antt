-- The frames of a script.
use Rattle.std.specs.Prelude.{◌≡◌, ℕ, ◌≤◌, ◌<◌, ◌^◌, List, [], ◌∷◌, ◌++◌, length, Result}
use Rattle.std.specs.Fmt.{decimal}
use Rattle.std.specs.Int.{to_be_bytes, w128}
use Rattle.uuid.specs.Text.{lower, simple_text}
use Rattle.ifmap_elem.specs.Chars.{line_feed, space_character}
use Rattle.ifmap_io.specs.Calendar.{last_moment}
use Rattle.ifmap_meta.specs.ClientNames.{IsClientName}
use Rattle.ifmap_requests.specs.declared.errors.Refusal.{Refusal}
use Rattle.ifmap_requests.specs.declared.requests.Request.{Request}
use Rattle.ifmap_server.specs.declared.headers.Header.{Header}
use Rattle.ifmap_server.specs.Characters.{at_sign}

-- what a body can mean: a request, or why it is none
abbrev pub Meaning : Type 0
Meaning = Result Request Refusal

-- a request as it came: when, from whom, with which random word, its bytes, and what they mean, which no function of them gives
pub record Frame : Type 0 where
  pub moment : ℕ
  pub client : List ℕ
  pub random : ℕ
  pub body : List ℕ
  pub meaning : Meaning

-- how many bytes a body has at most
abbrev pub longest_body : ℕ
longest_body = 10_000_000

-- how many bytes a header has at most, with its newline
abbrev pub longest_header : ℕ
longest_header = 97

-- a frame keeps to these limits, whatever its meaning
pub record IsFrame (f : Frame) : Type 0 where
  pub moment : f.moment ≤ last_moment
  pub client : IsClientName f.client
  pub random : f.random < 2 ^ 128
  pub body : length f.body ≤ longest_body

-- a word of 128 bits as 32 hexadecimal digits in lower case
abbrev pub word_text : ℕ → List ℕ
word_text random = simple_text lower (to_be_bytes w128 random)

-- `@`, the moment, the client, the random word and the length of the body, with single spaces between them, and a newline
abbrev pub header_text : ℕ → List ℕ → ℕ → ℕ → List ℕ
header_text moment client random size =
    at_sign ∷ decimal moment ++ space_character ∷ client ++ space_character ∷ word_text random ++ space_character ∷ decimal size
    ++ line_feed ∷ []

-- the header, and then the body
abbrev pub frame_text : Frame → List ℕ
frame_text f = header_text f.moment f.client f.random (length f.body) ++ f.body

-- a line without its newline is this header, of a frame that keeps to the limits
pub record IsHeader (line : List ℕ) (h : Header) : Type 0 where
  pub text : line ++ line_feed ∷ [] ≡ header_text h.moment h.client h.random h.size
  pub moment : h.moment ≤ last_moment
  pub client : IsClientName h.client
  pub random : h.random < 2 ^ 128
  pub size : h.size ≤ longest_body
