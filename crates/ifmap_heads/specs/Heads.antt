-- The heads of posts and of answers at the front of what a wire has left, as `httparse` reads them by its
-- default settings (RFC 9112, sections 2 to 5), and when bytes begin none.
use Rattle.std.specs.Prelude.{ℕ, ◌<◌, ◌≤◌, ◌⊎◌, ◌==◌, ◌||◌, List, [], ◌∷◌, length, if◌then◌else◌}
use Rattle.std.specs.List.{count_by}
use Rattle.httparse.specs.Ascii.{carriage_return, line_feed}
use Rattle.httparse.specs.Grammar.{EndsInTarget, MayBecomeRequest, MayBecomeResponse, NeverHasRequest, NeverHasResponse, ReadsRequest, ReadsResponse, RequestHead, ResponseHead, print_request, print_response}
use Rattle.ifmap_heads.specs.Limits.{longest_head, most_fields, most_lines}

-- the bytes after the line ends in front
abbrev pub after_line_ends : List ℕ → List ℕ
after_line_ends [] = []
after_line_ends (b ∷ bytes) = if b == carriage_return || b == line_feed then after_line_ends bytes else b ∷ bytes

-- how many lines are whole: those of a head, without the empty lines before it
abbrev pub line_count : List ℕ → ℕ
line_count bytes = count_by (λ b. b == line_feed) (after_line_ends bytes)

-- left begins with that head of a post, which is within its limits, and goes on with rest
pub record IsPostHead (left : List ℕ) (head : RequestHead) (rest : List ℕ) : Type 0 where
  pub reads : ReadsRequest left head rest
  pub short : length (print_request head) ≤ longest_head
  pub few : length head.fields ≤ most_fields

-- left begins with no whole head of a post
abbrev pub HasNoPostHead : List ℕ → Type 0
HasNoPostHead left = (head : RequestHead) (rest : List ℕ) → ¬ (IsPostHead left head rest)

-- no bytes that come after left make a head of a post, and left does not end in a target
abbrev pub NeverHasPostHead : List ℕ → Type 0
NeverHasPostHead left = NeverHasRequest left × ¬ (EndsInTarget left)

-- left begins no head of a post: none is whole, and the limits are passed or no head can come
pub record BeginsNoPost (left : List ℕ) : Type 0 where
  pub none : HasNoPostHead left
  pub passed : (longest_head < length left) ⊎ ((most_lines ≤ line_count left) ⊎ NeverHasPostHead left)

-- left ends inside the head of a post
pub record IsCutPostHead (left : List ℕ) : Type 0 where
  pub none : HasNoPostHead left
  pub short : length left ≤ longest_head
  pub few : line_count left < most_lines
  pub unfinished : MayBecomeRequest left

-- left begins with that head of an answer, which is within its limits, and goes on with rest
pub record IsAnswerHead (left : List ℕ) (head : ResponseHead) (rest : List ℕ) : Type 0 where
  pub reads : ReadsResponse left head rest
  pub short : length (print_response head) ≤ longest_head
  pub few : length head.fields ≤ most_fields

-- left begins with no whole head of an answer
abbrev pub HasNoAnswerHead : List ℕ → Type 0
HasNoAnswerHead left = (head : ResponseHead) (rest : List ℕ) → ¬ (IsAnswerHead left head rest)

-- left begins no head of an answer: none is whole, and the limits are passed or no head can come
pub record BeginsNoAnswer (left : List ℕ) : Type 0 where
  pub none : HasNoAnswerHead left
  pub passed : (longest_head < length left) ⊎ ((most_lines ≤ line_count left) ⊎ NeverHasResponse left)

-- left ends inside the head of an answer
pub record IsCutAnswerHead (left : List ℕ) : Type 0 where
  pub none : HasNoAnswerHead left
  pub short : length left ≤ longest_head
  pub few : line_count left < most_lines
  pub unfinished : MayBecomeResponse left
