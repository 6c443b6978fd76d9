-- A header's line as words, and the words as numbers.
use Rattle.std.proofs.Common.{◌≡◌, ◌≢◌, ℕ, ◌^◌, ◌<◌, ◌≤◌, List, [], ◌∷◌, ◌++◌, length, length-append, get_or, drop, Option, Some, None, Result, Ok, IsOk, IfOk, ◌↔◌, SomeIff, arith, refl, sym, ap, subst, ◌∙◌}
use Rattle.std.proofs.lemmas.Bool.{and_parts}
use Rattle.std.proofs.lemmas.Fmt.{decimal_injective, IsAscii-decimal}
use Rattle.std.proofs.lemmas.List.{get_or-append-add}
use Rattle.std.proofs.lemmas.Str.{IsUtf8-from_ascii, IsAscii-append}
use Rattle.std.proofs.lemmas.Str.Ascii.{IsAscii-nil, IsAscii-cons}
use Rattle.std.specs.Bool.{IsTrue}
use Rattle.std.specs.Fmt.{decimal}
use Rattle.std.specs.List.{list_all}
use Rattle.std.specs.Option.{MatchOption}
use Rattle.std.specs.Int.{to_be_bytes, from_be_bytes, w128}
use Rattle.std.specs.Str.{IsAscii, IsUtf8}
use Rattle.uuid.specs.Text.{lower, hex_digit, nibble, parsed}
use Rattle.uuid.proofs.RoundTrips.{parse_gives}
use Rattle.uuid.proofs.OrderLemmas.{from_be_bytes-to_be_bytes_16}
use Rattle.uuid.proofs.TextLemmas.{by_index_ascii, nibble_small, hex_digit_ascii}
use Rattle.std.proofs.Common.{inl}
use Rattle.ifmap_meta.specs.ClientNames.{is_client_byte}
use Rattle.ifmap_meta.specs.laws.ClientBytes.{client_is_ascii}
use Rattle.ifmap_server.specs.declared.headers.Header.{Header}
use Rattle.ifmap_server.specs.Frames.{IsHeader, word_text}
use Rattle.ifmap_server.specs.Lines.{AreWords, HasNoSpace, words_line}
use Rattle.ifmap_lemmas.specs.Splits.{without_from, without_at, before, after, before_at, after_at}
use Rattle.ifmap_server.proofs.HeaderLines.{line_text, line_of, joined_right, decimal_without, word_without, word_parses, client_without}
use Rattle.ifmap_elem.specs.Chars.{space_character}
use Rattle.ifmap_server.specs.Characters.{at_sign}

-- ---- a line as words

pub cut_one : (t a b m x : List ℕ) → t ≡ a ++ space_character ∷ b → HasNoSpace a → t ≡ m ++ space_character ∷ x → HasNoSpace m
    → (a ≡ m) × (b ≡ x)
cut_one t a b m x e na f nm = (
  sym (before_at space_character a b (without_from space_character a na)) ∙ ap (before space_character) (sym e ∙ f)
      ∙ before_at space_character m x (without_from space_character m nm),
  sym (after_at space_character a b (without_from space_character a na)) ∙ ap (after space_character) (sym e ∙ f)
      ∙ after_at space_character m x (without_from space_character m nm),
)

no_cut : (t m x : List ℕ) → HasNoSpace t → t ≡ m ++ space_character ∷ x → ⊥
no_cut t m x none e =
    none (length m) (omega (arith, ap length e, length-append m (space_character ∷ x)))
    (ap (λ (l : List ℕ). get_or l (length m) 0) e ∙ ap (λ (n : ℕ). get_or (m ++ space_character ∷ x) n 0) (omega arith)
    ∙ get_or-append-add m (space_character ∷ x) 0 0)

words_after : (line words m c r s : List ℕ) → line ≡ at_sign ∷ words → AreWords line m c r s
    → words ≡ m ++ space_character ∷ (c ++ space_character ∷ (r ++ space_character ∷ s))
words_after line words m c r s e w = ap (drop 1) (sym e ∙ w.text ∙ joined_right m c r s)

pub no_sign : (line : List ℕ) → ((rest : List ℕ) → line ≢ at_sign ∷ rest) → (m c r s : List ℕ) → AreWords line m c r s → ⊥
no_sign line none m c r s w = none (m ++ space_character ∷ (c ++ space_character ∷ (r ++ space_character ∷ s)))
    (w.text ∙ joined_right m c r s)

pub no_first : (line words : List ℕ) → line ≡ at_sign ∷ words → HasNoSpace words → (m c r s : List ℕ) → AreWords line m c r s → ⊥
no_first line words e none m c r s w = no_cut words m (c ++ space_character ∷ (r ++ space_character ∷ s)) none
    (words_after line words m c r s e w)

pub no_second : (line words a rest : List ℕ) → line ≡ at_sign ∷ words → (words ≡ a ++ space_character ∷ rest) × HasNoSpace a
    → HasNoSpace rest
    → (m c r s : List ℕ) → AreWords line m c r s → ⊥
no_second line words a rest e f none m c r s w =
    no_cut rest c (r ++ space_character ∷ s) none
    (cut_one words a rest m (c ++ space_character ∷ (r ++ space_character ∷ s)) f.0 f.1 (words_after line words m c r s e w)
    w.moment).1

pub no_third : (line words a rest b more : List ℕ) → line ≡ at_sign ∷ words → (words ≡ a ++ space_character ∷ rest) × HasNoSpace a
    → (rest ≡ b ++ space_character ∷ more) × HasNoSpace b → HasNoSpace more → (m c r s : List ℕ) → AreWords line m c r s → ⊥
no_third line words a rest b more e f g none m c r s w =
    no_cut more r s none (cut_one rest b more c (r ++ space_character ∷ s) g.0 g.1
    (cut_one words a rest m (c ++ space_character ∷ (r ++ space_character ∷ s)) f.0 f.1
    (words_after line words m c r s e w) w.moment).1 w.client).1

pub are_words : (line words a rest b more d s : List ℕ) → line ≡ at_sign ∷ words → (words ≡ a ++ space_character ∷ rest) × HasNoSpace a
    → (rest ≡ b ++ space_character ∷ more) × HasNoSpace b → (more ≡ d ++ space_character ∷ s) × HasNoSpace d → AreWords line a b d s
are_words line words a rest b more d s e f g h = record {
  text = e ∙ ap (λ (l : List ℕ). at_sign ∷ l)
      (f.0 ∙ ap (λ (l : List ℕ). a ++ space_character ∷ l) (g.0 ∙ ap (λ (l : List ℕ). b ++ space_character ∷ l) h.0))
      ∙ sym (joined_right a b d s);
  moment = f.1;
  client = g.1;
  random = h.1;
}

pub record SameWords (a b d s m c r z : List ℕ) : Type 0 where
  pub moment : a ≡ m
  pub client : b ≡ c
  pub random : d ≡ r
  pub size : s ≡ z

pub words_one : (line a b d s m c r z : List ℕ) → AreWords line a b d s → AreWords line m c r z → SameWords a b d s m c r z
words_one line a b d s m c r z v w =
    let e = ap (drop 1) (v.text ∙ joined_right a b d s) in
    let f = ap (drop 1) (w.text ∙ joined_right m c r z) in
    let first = cut_one (drop 1 line) a (b ++ space_character ∷ (d ++ space_character ∷ s)) m
    (c ++ space_character ∷ (r ++ space_character ∷ z)) e v.moment f w.moment in
    let second = cut_one (b ++ space_character ∷ (d ++ space_character ∷ s)) b (d ++ space_character ∷ s) c
    (r ++ space_character ∷ z) refl v.client first.1 w.client in
    let third = cut_one (d ++ space_character ∷ s) d s r z refl v.random second.1 w.random in
    record { moment = first.0; client = second.0; random = third.0; size = third.1 }

-- ---- a header's line

pub header_words : (line : List ℕ) (h : Header) → IsHeader line h
    → AreWords line (decimal h.moment) h.client (word_text h.random) (decimal h.size)
header_words line h is = record {
  text = line_of line h is;
  moment = without_at space_character (decimal h.moment)
      (decimal_without space_character h.moment (λ r. omega arith) (let m = is.moment in omega arith));
  client = without_at space_character h.client (client_without space_character h.client refl is.client);
  random = without_at space_character (word_text h.random) (word_without space_character h.random (omega arith));
}

word_ascii : (n : ℕ) → IsAscii (word_text n)
word_ascii n = by_index_ascii 32 (λ j. hex_digit lower (nibble (to_be_bytes w128 n) j))
    (λ k within. hex_digit_ascii lower (nibble (to_be_bytes w128 n) k) (inl refl) (nibble_small (to_be_bytes w128 n) k))

client_ascii : (xs : List ℕ) → IsTrue (list_all is_client_byte xs) → IsAscii xs
client_ascii [] all = IsAscii-nil
client_ascii (b ∷ bs) all = let p = and_parts (is_client_byte b) (list_all is_client_byte bs) all in
    IsAscii-cons b bs (client_is_ascii b p.0) (client_ascii bs p.1)

joined_ascii : (m c r s : List ℕ) → IsAscii m → IsAscii c → IsAscii r → IsAscii s → IsAscii (words_line m c r s)
joined_ascii m c r s am ac ar as_ =
    IsAscii-append (at_sign ∷ m ++ space_character ∷ c ++ space_character ∷ r) (space_character ∷ s)
    (IsAscii-append (at_sign ∷ m ++ space_character ∷ c) (space_character ∷ r)
    (IsAscii-append (at_sign ∷ m) (space_character ∷ c) (IsAscii-cons at_sign m (omega arith) am)
    (IsAscii-cons space_character c (omega arith) ac)) (IsAscii-cons space_character r (omega arith) ar))
    (IsAscii-cons space_character s (omega arith) as_)

pub header_utf8 : (line : List ℕ) (h : Header) → IsHeader line h → IsUtf8 line
header_utf8 line h is =
    let m = is.moment in
    let s = is.size in
    subst (λ (l : List ℕ). IsUtf8 l) (sym (line_of line h is))
    (IsUtf8-from_ascii (line_text h) (joined_ascii (decimal h.moment) h.client (word_text h.random) (decimal h.size)
    (IsAscii-decimal h.moment (omega arith)) (client_ascii h.client is.client.2) (word_ascii h.random)
    (IsAscii-decimal h.size (omega arith))))

-- ---- numbers

pub number_told : (limit n : ℕ) (text : List ℕ) (r : Option ℕ) → limit < 2 ^ 64 → n < 2 ^ 64 → text ≡ decimal n → SomeIff r (n ≤ limit) n
    → MatchOption r ((k : ℕ) → k ≤ limit → text ≢ decimal k) (λ k. (k ≤ limit) × (text ≡ decimal k))
number_told limit n text None low small e s = λ k within f. s (let same = decimal_injective n k small (omega arith) (sym e ∙ f) in
    omega arith)
number_told limit n text (Some k) low small e s = (let a = s.0 in let b = s.1 in omega arith, e ∙ ap decimal (sym s.1))

pub number_beyond : (limit n : ℕ) (text : List ℕ) → limit < 2 ^ 64 → n < 2 ^ 64 → text ≡ decimal n → limit < n → (k : ℕ) → k ≤ limit
    → text ≢ decimal k
number_beyond limit n text low small e over k within f = let same = decimal_injective n k small (omega arith) (sym e ∙ f) in
    absurd (omega arith)

-- ---- random words

pub word_parsed : {E : Type 0} (n : ℕ) (text : List ℕ) (r : Result (List ℕ) E) → (IsOk r ↔ ((x : List ℕ) × (parsed text ≡ Some x))) → IfOk r
    (λ x. Some x ≡ parsed text) → text ≡ word_text n → r ≡ Ok (to_be_bytes w128 n)
word_parsed n text r ok bytes e = parse_gives r text (to_be_bytes w128 n) ok bytes (word_parses n ∙ ap parsed (sym e))

pub word_back : (n : ℕ) → n < 2 ^ 128 → from_be_bytes w128 (to_be_bytes w128 n) ≡ n
word_back n small = from_be_bytes-to_be_bytes_16 n small

-- ---- the words of a line that is a header

pub header_shares : (line a b d s : List ℕ) → AreWords line a b d s → (h : Header) → IsHeader line h
    → SameWords a b d s (decimal h.moment) h.client (word_text h.random) (decimal h.size)
header_shares line a b d s w h is = words_one line a b d s (decimal h.moment) h.client (word_text h.random) (decimal h.size) w
    (header_words line h is)
