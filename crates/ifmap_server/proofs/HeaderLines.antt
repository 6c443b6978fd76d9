-- The headers of frames as lines: none is longer than 96 bytes, and a line is one header at most.
use Rattle.std.proofs.Common.{◌≡◌, ◌≢◌, ℕ, zero, suc, ◌+◌, ◌^◌, ◌<◌, ◌≤◌, List, [], ◌∷◌, ◌++◌, length, length-append, get_or, drop, false, Option, Some, unwrap_or, inl, arith, refl, sym, ap, ◌∙◌}
use Rattle.std.proofs.lemmas.Bool.{and_parts, true≢false}
use Rattle.std.proofs.lemmas.Bool.Decides.{nat_tests}
use Rattle.std.proofs.lemmas.Fmt.{decimal_is_IsNumeral, digits_decimal, length-decimal-le}
use Rattle.std.proofs.lemmas.List.{append_assoc, append_cancel_right}
use Rattle.std.proofs.lemmas.Str.Parse.{not_in_digits}
use Rattle.std.specs.Fmt.{decimal}
use Rattle.std.specs.Int.{to_be_bytes, from_be_bytes, w128, bytes_high_first, IsInRange}
use Rattle.std.specs.List.{list_all}
use Rattle.std.specs.Bool.{IsTrue}
use Rattle.std.specs.Str.Parse.{digits_value}
use Rattle.uuid.specs.Text.{lower, parsed, hex_digit, nibble}
use Rattle.uuid.proofs.TextLemmas.{by_index_length, by_index_at, nibble_small}
use Rattle.uuid.proofs.RoundTrips.{parses_simple}
use Rattle.uuid.proofs.OrderLemmas.{from_be_bytes-to_be_bytes_16}
use Rattle.ifmap_elem.specs.Chars.{line_feed, space_character}
use Rattle.ifmap_io.specs.Calendar.{last_moment}
use Rattle.ifmap_meta.specs.ClientNames.{IsClientName, is_client_byte}
use Rattle.ifmap_server.specs.declared.headers.Header.{Header}
use Rattle.ifmap_server.specs.Characters.{at_sign}
use Rattle.ifmap_server.specs.Frames.{IsHeader, header_text, longest_body, word_text}
use Rattle.ifmap_server.specs.Lines.{words_line}
use Rattle.ifmap_lemmas.specs.Splits.{Without, without_from, without_at, without_append, before, after, before_at, after_at}
use Rattle.ifmap_lemmas.specs.Decimals.{decimal_model}

-- a header within its limits
pub record IsWithin (h : Header) : Type 0 where
  pub moment : h.moment ≤ last_moment
  pub client : IsClientName h.client
  pub random : h.random < 2 ^ 128
  pub size : h.size ≤ longest_body

pub within_from_line : (line : List ℕ) (h : Header) → IsHeader line h → IsWithin h
within_from_line line h is = record { moment = is.moment; client = is.client; random = is.random; size = is.size }

-- ---- decimals

pub decimal_value : (n : ℕ) → n < 2 ^ 64 → digits_value 10 (decimal n) ≡ n
decimal_value n small = (decimal_is_IsNumeral n small).1

pub decimal_without : (c n : ℕ) → ¬ (IsInRange 48 57 c) → n < 2 ^ 64 → Without c (decimal n)
decimal_without c n out small =
    without_from c (decimal n) (not_in_digits decimal_model (decimal n) c (digits_decimal decimal_model n small) out)

-- ---- random words

bytes_length : (k n : ℕ) → length (bytes_high_first k n) ≡ k
bytes_length zero n = refl
bytes_length (suc k) n = let e = bytes_length k n in omega (arith, e)

bytes_small : (k n i d : ℕ) → i < length (bytes_high_first k n) → get_or (bytes_high_first k n) i d < 256
bytes_small zero n i d h = absurd (omega arith)
bytes_small (suc zero) n zero d h = omega arith
bytes_small (suc (suc k)) n zero d h = omega arith
bytes_small (suc k) n (suc i) d h = bytes_small k n i d (omega arith)

pub word_parses : (n : ℕ) → Some (to_be_bytes w128 n) ≡ parsed (word_text n)
word_parses n = parses_simple lower (to_be_bytes w128 n) (inl refl) (bytes_length 16 n) (bytes_small 16 n)

-- the word that a text of 32 digits is
pub word_value : List ℕ → ℕ
word_value text = from_be_bytes w128 (unwrap_or (parsed text) [])

pub word_value_text : (n : ℕ) → n < 2 ^ 128 → word_value (word_text n) ≡ n
unfolding word_value
word_value_text n small =
    ap (λ (o : Option (List ℕ)). from_be_bytes w128 (unwrap_or o [])) (sym (word_parses n)) ∙ from_be_bytes-to_be_bytes_16 n small

pub word_length : (n : ℕ) → length (word_text n) ≡ 32
word_length n = by_index_length 32 _

digit_without : (c d : ℕ) → c < 48 → d < 16 → hex_digit lower d ≢ c
digit_without c d out small e = absurd (grind (arith, nat_tests))

pub word_without : (c n : ℕ) → c < 48 → Without c (word_text n)
word_without c n out = without_from c (word_text n) (λ k h e.
    digit_without c (nibble (to_be_bytes w128 n) k) out (nibble_small (to_be_bytes w128 n) k)
    (sym (by_index_at 32 (λ j. hex_digit lower (nibble (to_be_bytes w128 n) j)) k 0 (rw (word_length n) at h)) ∙ e))

-- ---- clients

all_without : (c : ℕ) (xs : List ℕ) → is_client_byte c ≡ false → IsTrue (list_all is_client_byte xs) → Without c xs
all_without c [] out all = tt
all_without c (x ∷ xs) out all =
    let p = and_parts (is_client_byte x) (list_all is_client_byte xs) all in
    (λ e. true≢false (sym p.0 ∙ ap is_client_byte e ∙ out), all_without c xs out p.1)

-- ---- lines

pub joined_right : (m c r s : List ℕ)
    → words_line m c r s ≡ at_sign ∷ (m ++ space_character ∷ (c ++ space_character ∷ (r ++ space_character ∷ s)))
joined_right m c r s = simp append_assoc

joined_without : (m c r s : List ℕ) → Without line_feed m → Without line_feed c → Without line_feed r → Without line_feed s
    → Without line_feed (words_line m c r s)
joined_without m c r s wm wc wr ws =
    without_append line_feed (at_sign ∷ m ++ space_character ∷ c ++ space_character ∷ r) (space_character ∷ s)
    (without_append line_feed (at_sign ∷ m ++ space_character ∷ c) (space_character ∷ r)
    (without_append line_feed (at_sign ∷ m) (space_character ∷ c) ((λ e. absurd (omega arith)), wm) ((λ e. absurd (omega arith)), wc))
    ((λ e. absurd (omega arith)), wr))
    ((λ e. absurd (omega arith)), ws)

joined_length : (m c r s : List ℕ) → length (words_line m c r s) ≡ length m + length c + length r + length s + 4
joined_length m c r s =
    omega (
      arith,
      length-append (at_sign ∷ m ++ space_character ∷ c ++ space_character ∷ r) (space_character ∷ s),
      length-append (at_sign ∷ m ++ space_character ∷ c) (space_character ∷ r),
      length-append (at_sign ∷ m) (space_character ∷ c),
    )

-- a header without its newline
abbrev pub line_text : Header → List ℕ
line_text h = words_line (decimal h.moment) h.client (word_text h.random) (decimal h.size)

pub header_of_line : (h : Header) → header_text h.moment h.client h.random h.size ≡ line_text h ++ line_feed ∷ []
header_of_line h = refl

pub line_without : (h : Header) → IsWithin h → Without line_feed (line_text h)
line_without h w =
    joined_without (decimal h.moment) h.client (word_text h.random) (decimal h.size)
    (decimal_without line_feed h.moment (λ r. omega arith) (omega arith)) (all_without line_feed h.client refl w.client.2)
    (word_without line_feed h.random (omega arith)) (decimal_without line_feed h.size (λ r. omega arith) (omega arith))

pub line_length : (h : Header) → IsWithin h → length (line_text h) ≤ 96
line_length h w =
    let m = length-decimal-le 12 h.moment (omega arith) (omega arith) (omega arith) in
    let s = length-decimal-le 8 h.size (omega arith) (omega arith) (omega arith) in
    let r = word_length h.random in
    let c = w.client.1 in
    let j = joined_length (decimal h.moment) h.client (word_text h.random) (decimal h.size) in
    omega arith

-- the header that a line is, where it is one
header_from : (m c r s : List ℕ) → Header
header_from m c r s = record { moment = digits_value 10 m; client = c; random = word_value r; size = digits_value 10 s }

pub read_line : List ℕ → Header
read_line line =
    header_from (before space_character (drop 1 line)) (before space_character (after space_character (drop 1 line)))
    (before space_character (after space_character (after space_character (drop 1 line))))
    (after space_character (after space_character (after space_character (drop 1 line))))

read_joined : (m c r s : List ℕ) → Without space_character m → Without space_character c → Without space_character r
    → read_line (words_line m c r s) ≡ header_from m c r s
unfolding read_line
read_joined m c r s wm wc wr =
    ap read_line (joined_right m c r s) ∙ rw (
      before_at space_character m (c ++ space_character ∷ (r ++ space_character ∷ s)) wm,
      after_at space_character m (c ++ space_character ∷ (r ++ space_character ∷ s)) wm,
      before_at space_character c (r ++ space_character ∷ s) wc,
      after_at space_character c (r ++ space_character ∷ s) wc,
      before_at space_character r s wr,
      after_at space_character r s wr,
    ) refl

pub read_line_text : (h : Header) → IsWithin h → read_line (line_text h) ≡ h
unfolding header_from
read_line_text h w =
    read_joined (decimal h.moment) h.client (word_text h.random) (decimal h.size)
    (decimal_without space_character h.moment (λ r. omega arith) (omega arith)) (all_without space_character h.client refl w.client.2)
    (word_without space_character h.random (omega arith))
    ∙ rw (decimal_value h.moment (omega arith), decimal_value h.size (omega arith), word_value_text h.random w.random) refl

-- ---- what a line is

pub line_of : (line : List ℕ) (h : Header) → IsHeader line h → line ≡ line_text h
line_of line h is = append_cancel_right line (line_text h) (line_feed ∷ []) is.text

pub is_header : (h : Header) → IsWithin h → IsHeader (line_text h) h
is_header h w = record { text = refl; moment = w.moment; client = w.client; random = w.random; size = w.size }

-- a header's text is a line of at most 96 bytes and its newline
pub header_line : (h : Header) → IsWithin h → (line : List ℕ) × (header_text h.moment h.client h.random h.size ≡ line ++ line_feed ∷ [])
    × ((k : ℕ) → k < length line → get_or line k 0 ≢ line_feed) × (length line ≤ 96)
header_line h w = (line_text h, refl, without_at line_feed (line_text h) (line_without h w), line_length h w)

-- a line is one header at most
pub header_of_line_one : (line : List ℕ) (h : Header) → IsHeader line h → read_line line ≡ h
header_of_line_one line h is = ap read_line (line_of line h is) ∙ read_line_text h (within_from_line line h is)

pub header_unique : (g h : Header) → IsWithin g → IsWithin h → header_text g.moment g.client g.random g.size
    ≡ header_text h.moment h.client h.random h.size → g ≡ h
header_unique g h wg wh e =
    sym (read_line_text g wg) ∙ ap read_line (append_cancel_right (line_text g) (line_text h) (line_feed ∷ []) e) ∙ read_line_text h wh

pub client_without : (c : ℕ) (name : List ℕ) → is_client_byte c ≡ false → IsClientName name → Without c name
client_without c name out is = all_without c name out is.2
