-- An answer that is written is read back: its head as one of the grammar, the bytes as that head and what
-- comes after it, and what the head says. With a status other than 200 all of the head is spelled out.
-- 1. A head that passes the tests of the grammar is read back (`head_is`); so is one whose bytes are all known.
-- 2. Each status but 200, by cases (`status_is_read_back`).
-- 3. Of a success: the bytes with the length of the body as a variable, how long its head is, and that its fields fit and are few.
-- 4. What its fields say is the size of the body, so the body is read back (`body_is_read_back`).
use Rattle.std.proofs.Common.{◌≡◌, ◌≢◌, ℕ, ◌+◌, ◌≤◌, Bool, true, false, List, [], ◌∷◌, ◌++◌, length, refl, ap, ◌∙◌, Some, arith, append_assoc, length-append}
use Rattle.std.specs.Prelude.{◌||◌, ◌==◌, nat_le, nat_lt, codes, if◌then◌else◌}
use Rattle.std.specs.Char.{is_ascii_digit, is_ascii_graphic}
use Rattle.std.specs.Fmt.{decimal, digits}
use Rattle.std.specs.List.{list_all}
use Rattle.std.proofs.lemmas.Bool.{cond-false, le-ltb}
use Rattle.std.proofs.lemmas.Bool.Decides.{nat_tests}
use Rattle.std.proofs.lemmas.Fmt.{length-decimal-le}
use Rattle.std.proofs.lemmas.List.Sums.{AllPass-from_list_all}
use Rattle.ifmap_lemmas.specs.Runs.{tests_weaker}
use Rattle.ifmap_lemmas.specs.Branches.{either_leads}
use Rattle.ifmap_lemmas.specs.Numbers.{equal_numbers}
use Rattle.httparse.specs.Grammar.{Field, IsResponseHead, ResponseHead, crlf, is_token_byte, is_value_byte, print_response, status_code}
use Rattle.ifmap_heads.specs.Answers.{ReadsAnswer, answered, judge_size, judge_status, status}
use Rattle.ifmap_heads.specs.Fields.{Fields, common_length}
use Rattle.ifmap_heads.specs.Limits.{longest_answer, longest_head, most_fields}
use Rattle.ifmap_heads.specs.Messages.{answer_bytes, is_answer_status, phrase}
use Rattle.ifmap_heads.proofs.Written.{digit_is_visible, digits_are, fields_are, fields_of, is_fit, length_told, values_stay}

-- the head of an answer with a phrase and fields
abbrev head_of : ℕ → List ℕ → List Field → ResponseHead
head_of number reason fields = record {
  blank = [];
  minor = 1;
  digits = decimal number;
  reason = Some reason;
  line_end = crlf;
  fields = fields;
  last = crlf;
}

-- an answer whose head passes these tests is read back
head_is : (number : ℕ) (reason : List ℕ) (pairs : Fields) → length (decimal number) ≡ 3
    → list_all is_ascii_digit (decimal number) ≡ true → list_all is_value_byte reason ≡ true → list_all is_fit pairs ≡ true
    → IsResponseHead (head_of number reason (fields_of pairs))
head_is number reason pairs three ten seen fit = record {
  minor = omega arith;
  digits = (three, AllPass-from_list_all is_ascii_digit (decimal number) ten);
  reason = AllPass-from_list_all is_value_byte reason seen;
  fields = fields_are pairs fit;
}

-- the head of an answer that is not a success, whose bytes are all known
status_is_read : (number : ℕ) (reason : List ℕ) (pairs : Fields) (bytes rest : List ℕ)
    → bytes ≡ print_response (head_of number reason (fields_of pairs))
    → length (decimal number) ≡ 3 → list_all is_ascii_digit (decimal number) ≡ true
    → list_all is_value_byte reason ≡ true → list_all is_fit pairs ≡ true
    → nat_le (length bytes) longest_head ≡ true → nat_le (length (fields_of pairs)) most_fields ≡ true
    → status_code (head_of number reason (fields_of pairs)) ≡ number → (number == 200) ≡ false
    → ReadsAnswer (bytes ++ rest) (status number rest)
status_is_read number reason pairs bytes rest is three ten seen fit short few code other_than = (
  head_of number reason (fields_of pairs),
  record {
    reads = (head_is number reason pairs three ten seen fit, ap (λ (b : List ℕ). b ++ rest) is);
    short = grind (arith, nat_tests, is, short);
    few = grind (arith, nat_tests, few);
  },
  rw (code, other_than) refl,
)

-- the fields of an answer that is not a success
abbrev closing_fields : Fields → Fields
closing_fields pairs = pairs ++ (codes "content-length", codes "0") ∷ (codes "connection", codes "close") ∷ []

plain_answer_reads : (number : ℕ) (body rest : List ℕ) (close : Bool)
    → answer_bytes number body close ≡ print_response (head_of number (phrase number) (fields_of (closing_fields [])))
    → length (decimal number) ≡ 3 → list_all is_ascii_digit (decimal number) ≡ true
    → list_all is_value_byte (phrase number) ≡ true
    → nat_le (length (answer_bytes number body close)) longest_head ≡ true
    → status_code (head_of number (phrase number) (fields_of (closing_fields []))) ≡ number → (number == 200) ≡ false
    → ReadsAnswer (answer_bytes number body close ++ rest) (status number rest)
unfolding is_token_byte
plain_answer_reads number body rest close is three ten seen short code other_than =
    status_is_read number (phrase number) (closing_fields [])
    (answer_bytes number body close) rest is three ten seen refl short refl code other_than

read_405 : (body rest : List ℕ) (close : Bool) → ReadsAnswer (answer_bytes 405 body close ++ rest) (status 405 rest)
unfolding print_response is_token_byte digits
read_405 body rest close =
    status_is_read 405 (phrase 405) (closing_fields ((codes "allow", codes "POST") ∷ [])) (answer_bytes 405 body close) rest
    refl refl refl refl refl refl refl refl refl

pub status_is_read_back : (number : ℕ) (body rest : List ℕ) (close : Bool) → is_answer_status number ≡ true → number ≢ 200
    → ReadsAnswer (answer_bytes number body close ++ rest) (status number rest)
unfolding print_response is_token_byte digits
status_is_read_back number body rest close is other_than =
    either_leads _ (number == 507) is (λ e. rw (equal_numbers number 507 e)
    (plain_answer_reads 507 body rest close refl refl refl refl refl refl refl)) (λ is.
    either_leads _ (number == 503) is (λ e. rw (equal_numbers number 503 e)
    (plain_answer_reads 503 body rest close refl refl refl refl refl refl refl)) (λ is.
    either_leads _ (number == 413) is (λ e. rw (equal_numbers number 413 e)
    (plain_answer_reads 413 body rest close refl refl refl refl refl refl refl)) (λ is.
    either_leads _ (number == 411) is (λ e. rw (equal_numbers number 411 e)
    (plain_answer_reads 411 body rest close refl refl refl refl refl refl refl)) (λ is.
    either_leads _ (number == 405) is (λ e. rw (equal_numbers number 405 e) (read_405 body rest close)) (λ is.
    either_leads _ (number == 403) is (λ e. rw (equal_numbers number 403 e)
    (plain_answer_reads 403 body rest close refl refl refl refl refl refl refl)) (λ is.
    either_leads _ (number == 400) is (λ e. rw (equal_numbers number 400 e)
    (plain_answer_reads 400 body rest close refl refl refl refl refl refl refl)) (λ is.
    absurd (other_than (equal_numbers number 200 is)))))))))

-- the fields of a success
abbrev success : List ℕ → Fields → Fields
success count last = (codes "content-type", codes "application/soap+xml") ∷ (codes "content-length", count) ∷ last

-- the field that is there where the connection will be closed
abbrev last_pairs : Bool → Fields
last_pairs close = if close then (codes "connection", codes "close") ∷ [] else []

answer_regroups : (line t n v e c body rest : List ℕ)
    → line ++ t ++ (n ++ v ++ e) ++ c ++ e ++ body ++ rest
    ≡ (line ++ ((t ++ ((n ++ v ++ e) ++ c)) ++ e)) ++ (body ++ rest)
answer_regroups line t n v e c body rest = simp append_assoc

lengths : (line t n v e c : List ℕ) → length (line ++ ((t ++ ((n ++ v ++ e) ++ c)) ++ e))
    ≡ length line + ((length t + (((length n + length v) + length e) + length c)) + length e)
lengths line t n v e c = simp length-append

bytes_are : (body rest : List ℕ) (close : Bool) → answer_bytes 200 body close ++ rest
    ≡ print_response (head_of 200 (codes "OK") (fields_of (success (decimal (length body)) (last_pairs close)))) ++ (body ++ rest)
unfolding print_response digits
bytes_are body rest true =
    answer_regroups (codes "HTTP/1.1 200 OK\r\n") (codes "content-type: application/soap+xml\r\n")
    (codes "content-length: ") (decimal (length body))
    (codes "\r\n") (codes "connection: close\r\n") body rest
bytes_are body rest false =
    answer_regroups (codes "HTTP/1.1 200 OK\r\n") (codes "content-type: application/soap+xml\r\n")
    (codes "content-length: ") (decimal (length body))
    (codes "\r\n") [] body rest

head_is_short : (count : List ℕ) (close : Bool) → length count ≤ 9
    → length (print_response (head_of 200 (codes "OK") (fields_of (success count (last_pairs close))))) ≤ longest_head
unfolding print_response digits
head_is_short count true few =
    omega (
      arith,
      few,
      lengths (codes "HTTP/1.1 200 OK\r\n") (codes "content-type: application/soap+xml\r\n") (codes "content-length: ") count
          (codes "\r\n") (codes "connection: close\r\n"),
    )
head_is_short count false few =
    omega (
      arith,
      few,
      lengths (codes "HTTP/1.1 200 OK\r\n") (codes "content-type: application/soap+xml\r\n") (codes "content-length: ") count
          (codes "\r\n") [],
    )

are_fit : (count : List ℕ) (close : Bool) → list_all is_ascii_graphic count ≡ true → list_all is_fit
    (success count (last_pairs close)) ≡ true
unfolding is_token_byte
are_fit count true seen = rw seen refl
are_fit count false seen = rw seen refl

are_few : (count : List ℕ) (close : Bool) → length (fields_of (success count (last_pairs close))) ≤ most_fields
are_few count true = omega arith
are_few count false = omega arith

fields_say : (count : List ℕ) (close : Bool) → judge_status 200 (success count (last_pairs close)) ≡ judge_size (common_length (count ∷ []))
fields_say count true = refl
fields_say count false = refl

pub body_is_read_back : (body rest : List ℕ) (close : Bool) → length body ≤ longest_answer
    → ReadsAnswer (answer_bytes 200 body close ++ rest) (answered body rest)
unfolding digits
body_is_read_back body rest close small =
    let count = decimal (length body) in
    let pairs = success count (last_pairs close) in
    let seen = tests_weaker is_ascii_digit is_ascii_graphic digit_is_visible count (digits_are (length body) (omega arith)) in
    let fit = are_fit count close seen in
    let digits_short : length count ≤ 9 = length-decimal-le 9 (length body) (omega arith) (omega arith) (omega arith) in
    let enough : nat_lt longest_answer (length body) ≡ false = le-ltb longest_answer (length body) small in (
      head_of 200 (codes "OK") (fields_of pairs),
      record {
        reads = (head_is 200 (codes "OK") pairs refl refl refl fit, bytes_are body rest close);
        short = head_is_short count close digits_short;
        few = are_few count close;
      },
      ap (judge_status 200) (values_stay pairs fit) ∙ fields_say count close
          ∙ ap judge_size (length_told (length body) (omega arith))
          ∙ cond-false (nat_lt longest_answer (length body)) _ _ enough,
    )
