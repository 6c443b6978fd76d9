-- Texts whose characters are tokens, whatever stands after them. Plan:
-- (1) two texts in a row are the tokens of the one and then those of the other, where a name of the first ends before the second;
-- (2) the tokens that are one character, and white space before a token;
-- (3) names with a prefix and without, and the words that join; (4) literals;
-- (5) what is known of the tokens of a text: a name's local part is a name part, and a literal has no quote of one kind.
use Rattle.std.proofs.Common.{◌≡◌, ℕ, Bool, true, false, List, [], ◌∷◌, ◌++◌, refl, ap, sym, ◌∙◌, subst, arith, ◌<◌, Some, None, append_assoc}
use Rattle.std.specs.Prelude.{◌==◌, if◌then◌else◌, IsUtf8, chars, codes, encode_utf8_all}
use Rattle.std.specs.Str.{all_scalars, byte}
use Rattle.std.proofs.lemmas.Str.{IsUtf8-append, IsUtf8-nil, chars-append, chars-nil, chars_from_encodes, encode_ascii}
use Rattle.ifmap_lemmas.specs.Cuts.{Stops}
use Rattle.ifmap_lemmas.specs.Items.{To}
use Rattle.ifmap_lemmas.specs.Members.{all_of_test}
use Rattle.ifmap_lemmas.specs.Numbers.{is_other}
use Rattle.ifmap_lemmas.specs.Texts.{ascii_encoded, is_ascii}
use Rattle.ifmap_lemmas.specs.Runs.{to_both}
use Rattle.ifmap_elem.specs.Chars.{AllAre, colon, double_quote, is_white, single_quote, space_character, carriage_return, equals_sign, line_feed, tab}
use Rattle.ifmap_elem.specs.Names.{is_name_character, is_name_start}
use Rattle.ifmap_filter.specs.declared.tokens.FilterToken.{FilterToken}
use Rattle.ifmap_filter.specs.declared.tokens.FilterToken.TheVariants.{Any, OpenBracket, CloseBracket, OpenParenthesis, CloseParenthesis, EqualsSign, At, Name}
use Rattle.ifmap_filter.specs.Grammar.{and_word, unprefixed_name, or_word}
use Rattle.ifmap_filter.specs.Tokens.{Takes, after_while, front_while, name_from, name_token, part_bytes, prefixed_name_at, symbol_of, front_token, token_at, without_white}
use Rattle.ifmap_filter.proofs.TokenLaws.{one_symbol, start_begins_name}
use Rattle.ifmap_prefixes.specs.ifmap_lexer.There.{is_quote}

-- a name ends here
abbrev pub Ends : List ℕ → Type 0
Ends [] = Unit {0}
Ends (c ∷ cs) = (is_name_character c ≡ false) × ((c == colon) ≡ false)

-- the text's characters are these tokens, whatever stands after them at which a name ends
pub record Lexes (text : List ℕ) (ts : List FilterToken) : Type 0 where
  pub is_text : IsUtf8 text
  pub to : (cs : List ℕ) → Ends cs → To Takes (chars text ++ cs) ts cs

-- a name ends where this text stands after it
abbrev pub EndsName : List ℕ → Type 0
EndsName text = (cs : List ℕ) → Ends cs → Ends (chars text ++ cs)

-- (1) texts in a row

pub lexes_both : (a b : List ℕ) (s t : List FilterToken) → Lexes a s → Lexes b t → EndsName b → Lexes (a ++ b) (s ++ t)
lexes_both a b s t l m ends = record {
  is_text = IsUtf8-append a b l.is_text m.is_text;
  to = λ cs e. subst (λ x. To Takes x (s ++ t) cs) (sym
      (ap (λ x. x ++ cs) (chars-append a b l.is_text) ∙ append_assoc (chars a) (chars b) cs))
      (to_both Takes (chars a ++ (chars b ++ cs)) s (chars b ++ cs) t cs (l.to (chars b ++ cs) (ends cs e)) (m.to cs e));
}

pub lexes_nothing : Lexes [] []
lexes_nothing = record { is_text = IsUtf8-nil; to = λ cs e. ap (λ x. x ++ cs) chars-nil }

pub nothing_ends : EndsName []
nothing_ends cs e = subst Ends (sym (ap (λ x. x ++ cs) chars-nil)) e

-- (2) tokens of one character

-- a character that is one byte
pub record IsOne (c : ℕ) : Type 0 where
  pub scalar : all_scalars (c ∷ []) ≡ true
  pub one : encode_utf8_all (c ∷ []) ≡ c ∷ []

module _ (c : ℕ) (is : IsOne c) where
  pub one_text : IsUtf8 (c ∷ [])
  one_text = (c ∷ [], (is.scalar, is.one))

  pub one_chars : chars (c ∷ []) ≡ c ∷ []
  one_chars = sym (chars_from_encodes (c ∷ []) (c ∷ []) one_text is.one)

  pub after_one : (text : List ℕ) → IsUtf8 text → IsUtf8 (c ∷ text)
  after_one text u = IsUtf8-append (c ∷ []) text one_text u

  pub one_first : (text : List ℕ) → chars (c ∷ text) ≡ c ∷ chars text
  one_first text = chars-append (c ∷ []) text one_text ∙ ap (λ l. l ++ chars text) one_chars

  pub one_ends : is_name_character c ≡ false → (c == colon) ≡ false → (text : List ℕ) → EndsName (c ∷ text)
  one_ends no_character no_colon text cs e = subst Ends (sym (ap (λ x. x ++ cs) (one_first text))) (no_character, no_colon)

-- a character that is a token
pub record IsSymbol (c : ℕ) (t : FilterToken) : Type 0 where
  pub one : IsOne c
  pub no_quote : is_quote c ≡ false
  pub no_start : is_name_start c ≡ false
  pub no_character : is_name_character c ≡ false
  pub no_colon : (c == colon) ≡ false
  pub no_white : is_white c ≡ false
  pub is : symbol_of c ≡ Some t

pub not_white : (c : ℕ) (cs : List ℕ) → is_white c ≡ false → without_white (c ∷ cs) ≡ c ∷ cs
not_white c cs e = rw e refl

module _ (c : ℕ) (t : FilterToken) (s : IsSymbol c t) where
  symbol_takes : (more : List ℕ) → Takes (c ∷ more) t more
  symbol_takes more = ap token_at (not_white c more s.no_white) ∙ one_symbol (c ∷ more) c more refl s.no_quote s.no_start t s.is

  pub lexes_before : (text : List ℕ) (ts : List FilterToken) → Lexes text ts → Lexes (c ∷ text) (t ∷ ts)
  lexes_before text ts l = record {
    is_text = after_one c s.one text l.is_text;
    to = λ cs e. subst (λ x. To Takes x (t ∷ ts) cs) (sym (ap (λ x. x ++ cs) (one_first c s.one text)))
        (chars text ++ cs, symbol_takes (chars text ++ cs), l.to cs e);
  }

  pub symbol_alone : Lexes (c ∷ []) (t ∷ [])
  symbol_alone = lexes_before [] [] lexes_nothing

  pub symbol_ends : (text : List ℕ) → EndsName (c ∷ text)
  symbol_ends = one_ends c s.one s.no_character s.no_colon

pub one_of : (c : ℕ) → all_scalars (c ∷ []) ≡ true → c < 128 → IsOne c
one_of c a low = record { scalar = a; one = ap (λ l. l ++ []) (encode_ascii c low) }

symbol_from : (c : ℕ) (t : FilterToken) → c < 128 → all_scalars (c ∷ []) ≡ true → is_quote c ≡ false → is_name_start c ≡ false
    → is_name_character c ≡ false → (c == colon) ≡ false → is_white c ≡ false → symbol_of c ≡ Some t → IsSymbol c t
symbol_from c t low scalar no_quote no_start no_character no_colon no_white is = record {
  one = one_of c scalar low;
  no_quote = no_quote;
  no_start = no_start;
  no_character = no_character;
  no_colon = no_colon;
  no_white = no_white;
  is = is;
}

pub any_is : IsSymbol (byte "*") Any
any_is = symbol_from (byte "*") Any (omega arith) refl refl refl refl refl refl refl

pub open_bracket_is : IsSymbol (byte "[") OpenBracket
open_bracket_is = symbol_from (byte "[") OpenBracket (omega arith) refl refl refl refl refl refl refl

pub close_bracket_is : IsSymbol (byte "]") CloseBracket
close_bracket_is = symbol_from (byte "]") CloseBracket (omega arith) refl refl refl refl refl refl refl

pub open_is : IsSymbol (byte "(") OpenParenthesis
open_is = symbol_from (byte "(") OpenParenthesis (omega arith) refl refl refl refl refl refl refl

pub close_is : IsSymbol (byte ")") CloseParenthesis
close_is = symbol_from (byte ")") CloseParenthesis (omega arith) refl refl refl refl refl refl refl

pub equals_is : IsSymbol equals_sign EqualsSign
equals_is = symbol_from equals_sign EqualsSign (omega arith) refl refl refl refl refl refl refl

pub at_is : IsSymbol (byte "@") At
at_is = symbol_from (byte "@") At (omega arith) refl refl refl refl refl refl refl

white_is : IsOne space_character
white_is = one_of space_character refl (omega arith)

pub white_ends : (text : List ℕ) → EndsName (space_character ∷ text)
white_ends = one_ends space_character white_is refl refl

pub lexes_after_space : (text : List ℕ) (t : FilterToken) (ts : List FilterToken) → Lexes text (t ∷ ts)
    → Lexes (space_character ∷ text) (t ∷ ts)
lexes_after_space text t ts l = record {
  is_text = after_one space_character white_is text l.is_text;
  to = λ cs e. subst (λ x. To Takes x (t ∷ ts) cs) (sym (ap (λ x. x ++ cs) (one_first space_character white_is text))) (l.to cs e);
}

-- (3) names

module _ (p : ℕ → Bool) where
  pub front_all : (xs rest : List ℕ) → AllAre p xs → Stops p rest → front_while p (xs ++ rest) ≡ xs
  front_all [] [] f s = refl
  front_all [] (c ∷ cs) f s = rw s refl
  front_all (x ∷ xs) rest f s = rw (f.0) (ap (λ l. x ∷ l) (front_all xs rest f.1 s))

  pub after_all : (xs rest : List ℕ) → AllAre p xs → Stops p rest → after_while p (xs ++ rest) ≡ rest
  after_all [] [] f s = refl
  after_all [] (c ∷ cs) f s = rw s refl
  after_all (x ∷ xs) rest f s = rw (f.0) (after_all xs rest f.1 s)

-- the bytes are a name part
pub record IsPart (bytes : List ℕ) : Type 0 where
  pub first : ℕ
  pub others : List ℕ
  pub scalars : all_scalars (first ∷ others) ≡ true
  pub bytes_are : encode_utf8_all (first ∷ others) ≡ bytes
  pub begins : is_name_start first ≡ true
  pub goes_on : AllAre is_name_character (first ∷ others)

start_is_other : (c n : ℕ) → is_name_start n ≡ false → is_name_start c ≡ true → (c == n) ≡ false
start_is_other c n off on = is_other c n (λ e. let wrong : false ≡ true = sym off ∙ subst (λ (m : ℕ). is_name_start m ≡ true) e on in cc)

start_no_white : (c : ℕ) → is_name_start c ≡ true → is_white c ≡ false
start_no_white c h =
    let other : (d : ℕ) → is_name_start d ≡ false → (c == d) ≡ false = λ d n. start_is_other c d n h in
    rw (other space_character refl, other tab refl, other carriage_return refl, other line_feed refl) refl

start_no_quote : (c : ℕ) → is_name_start c ≡ true → is_quote c ≡ false
start_no_quote c h = rw (start_is_other c double_quote refl h, start_is_other c single_quote refl h) refl

stops_at_end : (cs : List ℕ) → Ends cs → Stops is_name_character cs
stops_at_end [] e = tt
stops_at_end (c ∷ cs) e = e.0

from_end : (part cs : List ℕ) → Ends cs → name_from part cs ≡ Some (front_token (Name (unprefixed_name part)) cs)
from_end part [] e = refl
from_end part (c ∷ cs) e = rw (e.1) refl

module _ (bytes : List ℕ) (p : IsPart bytes) where
  part_text : IsUtf8 bytes
  part_text = (p.first ∷ p.others, (p.scalars, p.bytes_are))

  part_chars : chars bytes ≡ p.first ∷ p.others
  part_chars = sym (chars_from_encodes (p.first ∷ p.others) bytes part_text p.bytes_are)

  part_front : (rest : List ℕ) → Stops is_name_character rest → part_bytes ((p.first ∷ p.others) ++ rest) ≡ bytes
  part_front rest s = ap encode_utf8_all (front_all is_name_character (p.first ∷ p.others) rest p.goes_on s) ∙ p.bytes_are

  part_after : (rest : List ℕ) → Stops is_name_character rest → after_while is_name_character ((p.first ∷ p.others) ++ rest) ≡ rest
  part_after rest s = after_all is_name_character (p.first ∷ p.others) rest p.goes_on s

  -- the token where the part stands at the front is what its name says
  part_token : (rest : List ℕ) → Stops is_name_character rest
      → token_at (without_white ((p.first ∷ p.others) ++ rest)) ≡ name_from bytes rest
  part_token rest s =
      ap token_at (not_white p.first (p.others ++ rest) (start_no_white p.first p.begins))
      ∙ start_begins_name (p.first ∷ (p.others ++ rest)) p.first (p.others ++ rest) refl (start_no_quote p.first p.begins) p.begins
      ∙ (λ i. name_from (part_front rest s i) (part_after rest s i))

  pub lexed_bare : Lexes bytes (Name (unprefixed_name bytes) ∷ [])
  lexed_bare = record {
    is_text = part_text;
    to = λ cs e. subst (λ x. To Takes x (Name (unprefixed_name bytes) ∷ []) cs) (sym (ap (λ x. x ++ cs) part_chars))
        (cs, part_token cs (stops_at_end cs e) ∙ from_end bytes cs e, refl);
  }

colon_is : IsOne colon
colon_is = one_of colon refl (omega arith)

module _ (prefix local : List ℕ) (p : IsPart prefix) (q : IsPart local) where
  prefixed_here : (rest : List ℕ) → Stops is_name_character rest
      → prefixed_name_at prefix ((q.first ∷ q.others) ++ rest) ≡ Some (front_token (name_token prefix local) rest)
  prefixed_here rest s = by ∙ (λ i. Some (front_token (name_token prefix (part_front local q rest s i)) (part_after local q rest s i)))
    where
      by : prefixed_name_at prefix ((q.first ∷ q.others) ++ rest)
          ≡ Some (front_token (name_token prefix (part_bytes ((q.first ∷ q.others) ++ rest)))
          (after_while is_name_character ((q.first ∷ q.others) ++ rest)))
      by = subst
          (λ b. (if b then Some (front_token (name_token prefix (part_bytes ((q.first ∷ q.others) ++ rest)))
          (after_while is_name_character ((q.first ∷ q.others) ++ rest))) else None)
          ≡ Some (front_token (name_token prefix (part_bytes ((q.first ∷ q.others) ++ rest)))
          (after_while is_name_character ((q.first ∷ q.others) ++ rest))))
          (sym q.begins) refl

  prefixed_chars : (cs : List ℕ) → chars (prefix ++ (colon ∷ local)) ++ cs ≡ (p.first ∷ p.others) ++ (colon ∷ ((q.first ∷ q.others) ++ cs))
  prefixed_chars cs =
      ap (λ x. x ++ cs) (chars-append prefix (colon ∷ local) (part_text prefix p))
      ∙ append_assoc (chars prefix) (chars (colon ∷ local)) cs
      ∙ (λ i. part_chars prefix p i ++ (one_first colon colon_is local i ++ cs))
      ∙ ap (λ x. (p.first ∷ p.others) ++ (colon ∷ (x ++ cs))) (part_chars local q)

  pub lexed_prefixed : Lexes (prefix ++ (colon ∷ local)) (name_token prefix local ∷ [])
  lexed_prefixed = record {
    is_text = IsUtf8-append prefix (colon ∷ local) (part_text prefix p) (after_one colon colon_is local (part_text local q));
    to = λ cs e. subst (λ x. To Takes x (name_token prefix local ∷ []) cs) (sym (prefixed_chars cs))
        (cs, part_token prefix p (colon ∷ ((q.first ∷ q.others) ++ cs)) refl ∙ prefixed_here cs (stops_at_end cs e), refl);
  }

pub or_part : IsPart (codes "or")
or_part = record {
  first = byte "o";
  others = codes "r";
  scalars = refl;
  bytes_are = ascii_encoded (codes "or") (all_of_test is_ascii (codes "or") refl);
  begins = refl;
  goes_on = all_of_test is_name_character (codes "or") refl;
}

pub and_part : IsPart (codes "and")
and_part = record {
  first = byte "a";
  others = codes "nd";
  scalars = refl;
  bytes_are = ascii_encoded (codes "and") (all_of_test is_ascii (codes "and") refl);
  begins = refl;
  goes_on = all_of_test is_name_character (codes "and") refl;
}

-- a word between white space, which stands before further tokens
pub record IsWord (word : List ℕ) (t : FilterToken) : Type 0 where
  pub stands : (text : List ℕ) (head : FilterToken) (ts : List FilterToken) → Lexes text (head ∷ ts)
      → Lexes (word ++ text) (t ∷ (head ∷ ts))
  pub ends : (text : List ℕ) → EndsName (word ++ text)

word_stands : (part : List ℕ) → IsPart part → (text : List ℕ) (head : FilterToken) (ts : List FilterToken) → Lexes text (head ∷ ts)
    → Lexes (space_character ∷ (part ++ (space_character ∷ text))) (Name (unprefixed_name part) ∷ (head ∷ ts))
word_stands part p text head ts l =
    lexes_after_space (part ++ (space_character ∷ text)) (Name (unprefixed_name part)) (head ∷ ts)
    (lexes_both part (space_character ∷ text) (Name (unprefixed_name part) ∷ []) (head ∷ ts) (lexed_bare part p)
    (lexes_after_space text head ts l) (white_ends text))

pub or_is : IsWord (codes " or ") or_word
or_is = record { stands = word_stands (codes "or") or_part; ends = λ text. white_ends (codes "or " ++ text) }

pub and_is : IsWord (codes " and ") and_word
and_is = record { stands = word_stands (codes "and") and_part; ends = λ text. white_ends (codes "and " ++ text) }
