-- How long heads and bodies may be.
use Rattle.std.specs.Prelude.{ℕ}

-- the most bytes of a head
abbrev pub longest_head : ℕ
longest_head = 16384

-- the most fields of a head
abbrev pub most_fields : ℕ
most_fields = 64

-- the most lines of a head: the start line, the fields, and the empty line
abbrev pub most_lines : ℕ
most_lines = 66

-- the most bytes of a post's body
abbrev pub longest_post : ℕ
longest_post = 10000000

-- the most bytes of an answer's body
abbrev pub longest_answer : ℕ
longest_answer = 110000000

-- the most bytes of a host with which a written post's head is surely within its limit
abbrev pub longest_host : ℕ
longest_host = 16000
