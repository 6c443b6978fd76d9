-- A post that is written is read back: its head as one of the grammar, the bytes as that head and what
-- comes after it, its length within the limit, and what the head says.
use Rattle.std.proofs.Common.{◌≡◌, ℕ, ◌+◌, ◌≤◌, true, false, List, [], ◌∷◌, ◌++◌, length, refl, ap, ◌∙◌, Some, None, arith, append_assoc, append-nil, length-append}
use Rattle.std.specs.Prelude.{◌&&◌, nat_le, nat_lt, IsUtf8, codes}
use Rattle.std.specs.Char.{is_ascii_digit, is_ascii_graphic}
use Rattle.std.specs.Fmt.{decimal}
use Rattle.std.specs.List.{list_all}
use Rattle.std.proofs.lemmas.Bool.{and_parts, cond-false, cond-true, le-ltb, ltb-true}
use Rattle.std.proofs.lemmas.Bool.Decides.{nat_tests}
use Rattle.std.proofs.lemmas.Fmt.{length-decimal-le}
use Rattle.std.proofs.lemmas.List.Sums.{AllPass-from_list_all}
use Rattle.std.proofs.lemmas.Str.{IsUtf8-from_ascii}
use Rattle.std.proofs.lemmas.Str.Ascii.{IsAscii-from_all}
use Rattle.ifmap_lemmas.specs.Runs.{tests_weaker}
use Rattle.httparse.specs.Grammar.{IsRequestHead, RequestHead, crlf, is_token_byte, is_uri_byte, print_request}
use Rattle.ifmap_meta.specs.ClientNames.{is_client_byte}
use Rattle.ifmap_heads.specs.Fields.{Fields}
use Rattle.ifmap_heads.specs.Limits.{longest_head, longest_host, longest_post}
use Rattle.ifmap_heads.specs.Messages.{post_bytes}
use Rattle.ifmap_heads.specs.Posts.{ReadsPost, is_client_name, judge_client, judge_length, judge_parts, judge_post, posted, taken}
use Rattle.ifmap_heads.proofs.Written.{digit_is_visible, digits_are, fields_are, fields_of, is_fit, length_told, token_is, values_stay}

-- the values of the head, by the names of its fields
abbrev pairs_of : List ℕ → List ℕ → List ℕ → Fields
pairs_of host client digits =
    (codes "host", host) ∷ (codes "ifmap-client", client) ∷ (codes "content-type", codes "application/soap+xml")
    ∷ (codes "content-length", digits) ∷ []

-- the head of a written post
abbrev head_of : List ℕ → List ℕ → List ℕ → RequestHead
head_of host client digits = record {
  blank = [];
  method = codes "POST";
  target = codes "/ifmap";
  minor = 1;
  line_end = crlf;
  fields = fields_of (pairs_of host client digits);
  last = crlf;
}

post_regroups : (line n1 v1 e n2 v2 t n4 v4 body rest : List ℕ)
    → (line ++ n1) ++ v1 ++ e ++ n2 ++ v2 ++ e ++ t ++ (n4 ++ v4 ++ e) ++ e ++ body ++ rest
    ≡ (line ++ ((n1 ++ v1 ++ e) ++ ((n2 ++ v2 ++ e) ++ (t ++ ((n4 ++ v4 ++ e) ++ []))) ++ e)) ++ (body ++ rest)
post_regroups line n1 v1 e n2 v2 t n4 v4 body rest = simp (append_assoc, append-nil)

-- the bytes are the head, the body, and what comes after
bytes_are : (host client body rest : List ℕ)
    → post_bytes host client body ++ rest ≡ print_request (head_of host client (decimal (length body))) ++ (body ++ rest)
unfolding print_request
bytes_are host client body rest =
    post_regroups (codes "POST /ifmap HTTP/1.1\r\n") (codes "host: ") host (codes "\r\n") (codes "ifmap-client: ") client
    (codes "content-type: application/soap+xml\r\n") (codes "content-length: ") (decimal (length body)) body rest

lengths : (line n1 v1 e n2 v2 t n4 v4 : List ℕ)
    → length (line ++ ((n1 ++ v1 ++ e) ++ ((n2 ++ v2 ++ e) ++ (t ++ ((n4 ++ v4 ++ e) ++ []))) ++ e))
    ≡ length line + (((length n1 + length v1) + length e) + (((length n2 + length v2) + length e)
    + (length t + (((length n4 + length v4) + length e) + 0))) + length e)
lengths line n1 v1 e n2 v2 t n4 v4 = simp length-append

head_is_short : (host client digits : List ℕ) → length host ≤ longest_host → length client ≤ 40 → length digits ≤ 9
    → length (print_request (head_of host client digits)) ≤ longest_head
unfolding print_request
head_is_short host client digits a b c =
    omega (
      arith,
      a,
      b,
      c,
      lengths (codes "POST /ifmap HTTP/1.1\r\n") (codes "host: ") host (codes "\r\n") (codes "ifmap-client: ") client
          (codes "content-type: application/soap+xml\r\n") (codes "content-length: ") digits,
    )

client_byte_is_visible : (b : ℕ) → is_client_byte b ≡ true → is_ascii_graphic b ≡ true
client_byte_is_visible b is = grind (arith, nat_tests)

target_is_text : IsUtf8 (codes "/ifmap")
target_is_text =
    let all = AllPass-from_list_all (λ b. nat_lt b 128) (codes "/ifmap") refl in
    IsUtf8-from_ascii (codes "/ifmap") (IsAscii-from_all (codes "/ifmap") (λ k d within. ltb-true _ 128 (all k d within)))

module _ (host client body : List ℕ) (seen : list_all is_ascii_graphic host ≡ true) (name : is_client_name client ≡ true)
    (small : length body ≤ longest_post) where
  abbrev size : List ℕ
  size = decimal (length body)

  digits_seen : list_all is_ascii_graphic size ≡ true
  digits_seen = tests_weaker is_ascii_digit is_ascii_graphic digit_is_visible size (digits_are (length body) (omega arith))

  client_is_name : ((nat_le 1 (length client) && nat_le (length client) 40) ≡ true) × (list_all is_client_byte client ≡ true)
  client_is_name = and_parts (nat_le 1 (length client) && nat_le (length client) 40) (list_all is_client_byte client) name

  client_seen : list_all is_ascii_graphic client ≡ true
  client_seen = tests_weaker is_client_byte is_ascii_graphic client_byte_is_visible client client_is_name.1

  fit : list_all is_fit (pairs_of host client size) ≡ true
  unfolding is_token_byte
  fit = rw (seen, client_seen, digits_seen) refl

  says : judge_post (head_of host client size) ≡ taken client (length body) false
  says =
      let pairs = pairs_of host client size in
      let told = length_told (length body) (omega arith) in
      let enough : nat_lt longest_post (length body) ≡ false = le-ltb longest_post (length body) small in
      ap (judge_parts (codes "POST") 1) (values_stay pairs fit)
      ∙ ap (judge_length 1 pairs) told
      ∙ cond-false (nat_lt longest_post (length body)) _ _ enough
      ∙ ap (judge_client 1 pairs (length body)) (cond-true (is_client_name client) (Some client) None name)

  head_is : IsRequestHead (head_of host client size)
  unfolding is_token_byte
  head_is = record {
    method = token_is (codes "POST") refl;
    target = (omega arith, AllPass-from_list_all is_uri_byte (codes "/ifmap") refl);
    target_text = target_is_text;
    minor = omega arith;
    fields = fields_are (pairs_of host client size) fit;
  }

  pub post_is_read : (rest : List ℕ) → length host ≤ longest_host
      → ReadsPost (post_bytes host client body ++ rest) (posted client body false rest)
  post_is_read rest near =
      let client_short : length client ≤ 40 = grind (arith, nat_tests, client_is_name.0) in
      let digits_short : length size ≤ 9 = length-decimal-le 9 (length body) (omega arith) (omega arith) (omega arith) in (
        head_of host client size,
        record {
          reads = (head_is, bytes_are host client body rest);
          short = head_is_short host client size near client_short digits_short;
          few = omega arith;
        },
        says,
      )
