-- What a head says is within bounds: the status of one that is refused is a status that answers have, and the length of a body that is
-- taken is within the limit.
use Rattle.std.proofs.Common.{◌≡◌, ◌⊎◌, ℕ, ◌≤◌, Bool, true, false, inl, inr, List, [], ◌++◌, length, refl, sym, ap, ◌∙◌, subst, arith}
use Rattle.std.specs.Prelude.{IsTrue, None, Option, Some, codes, map, nat_lt, not, if◌then◌else◌}
use Rattle.std.specs.Io.KnownBytes.{IsAtEnd}
use Rattle.std.specs.Str.{bytes_eq}
use Rattle.std.proofs.lemmas.Bool.Decides.{nat_tests}
use Rattle.httparse.specs.Grammar.{RequestHead}
use Rattle.httparse.specs.Spans.{name_and_value}
use Rattle.ifmap_heads.specs.Fields.{Fields, common_length, values}
use Rattle.ifmap_heads.specs.Limits.{longest_post}
use Rattle.ifmap_heads.specs.Messages.{is_answer_status}
use Rattle.ifmap_heads.specs.Posts.{Judgement, ReadsPost, judge_client, judge_length, judge_parts, judge_post, lacks_length, only_client, refused, status, taken}

abbrev status_of : Judgement → ℕ
status_of (refused number) = number
status_of (taken client size close) = 200

abbrev pub size_of : Judgement → ℕ
size_of (refused number) = 0
size_of (taken client size close) = size

-- both bounds
record IsBounded (j : Judgement) : Type 0 where
  pub status : is_answer_status (status_of j) ≡ true
  pub size : size_of j ≤ longest_post

refused_is : (number : ℕ) → is_answer_status number ≡ true → IsBounded (refused number)
refused_is number is = record { status = is; size = omega arith }

by_test : (t : Bool) (a b : Judgement) → IsBounded a → (t ≡ false → IsBounded b) → IsBounded (if t then a else b)
by_test true a b p q = p
by_test false a b p q = q refl

client_is : (minor : ℕ) (fields : Fields) (size : ℕ) (client : Option (List ℕ)) → size ≤ longest_post
    → IsBounded (judge_client minor fields size client)
client_is minor fields size None fits = refused_is 403 refl
client_is minor fields size (Some client) fits = record { status = refl; size = fits }

length_is : (minor : ℕ) (fields : Fields) (size : Option ℕ) → IsBounded (judge_length minor fields size)
length_is minor fields None = refused_is 400 refl
length_is minor fields (Some size) =
    by_test (nat_lt longest_post size) (refused 413) (judge_client minor fields size (only_client (values (codes "ifmap-client") fields)))
    (refused_is 413 refl)
    (λ e. client_is minor fields size (only_client (values (codes "ifmap-client") fields)) (grind (arith, nat_tests, e)))

parts_are : (method : List ℕ) (minor : ℕ) (fields : Fields) → IsBounded (judge_parts method minor fields)
parts_are method minor fields =
    let size = common_length (values (codes "content-length") fields) in
    by_test (not (bytes_eq method (codes "POST"))) (refused 405)
    (if lacks_length fields then refused 411 else judge_length minor fields size)
    (refused_is 405 refl)
    (λ _. by_test (lacks_length fields) (refused 411) (judge_length minor fields size) (refused_is 411 refl) (λ _.
    length_is minor fields size))

head_is : (head : RequestHead) → IsBounded (judge_post head)
head_is head = parts_are head.method head.minor (map name_and_value head.fields)

pub body_fits : (head : RequestHead) (client : List ℕ) (size : ℕ) (close : Bool) (body : List ℕ)
    → judge_post head ≡ taken client size close → length body ≡ size → length body ≤ longest_post
body_fits head client size close body says sized_is =
    subst (λ (n : ℕ). n ≤ longest_post) (ap size_of says ∙ sym sized_is) (head_is head).size

status_read : (bytes : List ℕ) (number : ℕ) → ReadsPost bytes (status number) → IsTrue (is_answer_status number)
status_read bytes number (inl (none, is)) = rw is refl
status_read bytes number (inr (head, rest, is, says)) =
    subst (λ (n : ℕ). is_answer_status n ≡ true) (ap status_of says) (head_is head).status

pub status_fits : (number : ℕ) (bytes : List ℕ) (left : Option (List ℕ))
    → ((more : List ℕ) → ReadsPost (bytes ++ more) (status number)) ⊎ (IsAtEnd left × ReadsPost bytes (status number))
    → IsTrue (is_answer_status number)
status_fits number bytes left (inl always) = status_read (bytes ++ []) number (always [])
status_fits number bytes left (inr (end, reads)) = status_read bytes number reads
