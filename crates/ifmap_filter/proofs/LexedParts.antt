-- Literals, and what is known of the tokens of a text. Plan:
-- (1) the bytes of a quote in a text are the character: a text without these bytes has no such character;
-- (2) so a literal in the quotes that it has not is that literal, whatever stands after it;
-- (3) a name token's local part is a name part, and a literal has no quote of one kind,
-- by the rule of the tokenizer that gave the token.
use Rattle.std.proofs.Common.{◌≡◌, ℕ, ◌+◌, ◌<◌, Bool, true, false, List, [], ◌∷◌, ◌++◌, length, get_or, refl, ap, sym, ◌∙◌, subst, arith, add-one, inl, inr, Option, Some, None, append_assoc}
use Rattle.std.specs.Prelude.{◌==◌, ◌||◌, ◌⊎◌, not, if◌then◌else◌, IsUtf8, chars, encode_utf8, encode_utf8_all}
use Rattle.std.specs.List.{list_any}
use Rattle.std.specs.Str.{all_scalars, byte, NonePass}
use Rattle.std.proofs.lemmas.Bool.{and_parts, cases_Bool, false_from_ne_true}
use Rattle.std.proofs.lemmas.Bool.Decides.{Decides-eqb}
use Rattle.std.proofs.lemmas.Str.{IsUtf8-append, NoCharPasses-byte, chars-append, chars_from_encodes, encode_ascii}
use Rattle.ifmap_lemmas.specs.Items.{To}
use Rattle.ifmap_lemmas.specs.Cuts.{Stops}
use Rattle.ifmap_lemmas.specs.Runs.{any_both}
use Rattle.ifmap_lemmas.specs.Branches.{number_itself}
use Rattle.ifmap_elem.specs.Chars.{AllAre, colon, double_quote, equals_sign, is_white, single_quote}
use Rattle.ifmap_elem.specs.Names.{is_name_character, is_name_start}
use Rattle.ifmap_filter.specs.declared.tokens.FilterToken.{FilterToken}
use Rattle.ifmap_filter.specs.declared.tokens.FilterToken.TheVariants.{Any, OpenBracket, CloseBracket, OpenParenthesis, CloseParenthesis, EqualsSign, At, Name, Literal}
use Rattle.ifmap_filter.specs.FrontLaws.{front_passes}
use Rattle.ifmap_filter.specs.Printing.{literal_text, quote_of}
use Rattle.ifmap_filter.specs.Tokens.{FrontToken, Takes, after_while, closed_literal, front_while, literal_at, name_at, name_from, name_token, part_bytes, prefixed_name_at, symbol_of, front_token, token_at, with_symbol, without_white}
use Rattle.ifmap_filter.proofs.Lexed.{IsOne, IsPart, Lexes, after_all, after_one, front_all, not_white, one_chars, one_first, one_of}
use Rattle.ifmap_filter.proofs.Reaching.{after_is, token_later, white_after}
use Rattle.ifmap_filter.proofs.TokenLaws.{quote_begins_literal}
use Rattle.ifmap_elem.specs.laws.NameBytes.{starts_are_characters}
use Rattle.ifmap_prefixes.specs.ifmap_lexer.Cutting.{is_but}
use Rattle.ifmap_prefixes.specs.ifmap_lexer.There.{is_quote}

-- (1) quotes in bytes and characters

none_passes : (q : ℕ) (own : List ℕ) → AllAre (is_but q) own → NonePass (λ c. c == q) own
none_passes q [] f = tt
none_passes q (c ∷ cs) f = (by (c == q) refl f.0, none_passes q cs f.1)
  where
    by : (b : Bool) → (c == q) ≡ b → not b ≡ true → (c == q) ≡ false
    by false e h = e
    by true e h = cc

no_byte : (q : ℕ) → q < 128 → (bytes : List ℕ) → ((i : ℕ) → i < length bytes → get_or bytes i 0 ≡ q → ⊥)
    → list_any (λ b. b == q) bytes ≡ false
no_byte q low [] none = refl
no_byte q low (b ∷ bs) none =
    let first : (b == q) ≡ false = false_from_ne_true (b == q) (λ e. none 0 (omega arith) ((Decides-eqb b q).0 e)) in
    rw first (no_byte q low bs (λ i here e. none (i + 1) (omega arith) (at_next b bs i ∙ e)))
  where
    at_next : (b : ℕ) (bs : List ℕ) (i : ℕ) → get_or (b ∷ bs) (i + 1) 0 ≡ get_or bs i 0
    at_next b bs i = ap (λ k. get_or (b ∷ bs) k 0) (add-one i)

-- where no character is that one, no byte is
pub no_quote_byte : (q : ℕ) → q < 128 → (own : List ℕ) → AllAre (is_but q) own → list_any (λ b. b == q) (encode_utf8_all own) ≡ false
no_quote_byte q low own f =
    no_byte q low (encode_utf8_all own)
    (λ i here e.
    let off = NoCharPasses-byte (λ c. c == q) (encode_utf8_all own) i (own, refl, none_passes q own f) here (omega (arith, e, low)) in
    let wrong : true ≡ false = sym (number_itself q) ∙ ap (λ n. n == q) (sym e) ∙ off in cc)

-- where no byte is that one, no character is
pub no_quote_character : (q : ℕ) → q < 128 → (own : List ℕ) → list_any (λ b. b == q) (encode_utf8_all own) ≡ false → AllAre (is_but q) own
no_quote_character q low [] e = tt
no_quote_character q low (c ∷ cs) e =
    let parts = any_both (λ b. b == q) (encode_utf8 c) (encode_utf8_all cs) e in
    (by (c == q) refl parts.0, no_quote_character q low cs parts.1)
  where
    by : (b : Bool) → (c == q) ≡ b → list_any (λ b. b == q) (encode_utf8 c) ≡ false → is_but q c ≡ true
    by false is h = ap not is
    by true is h =
        let same : c ≡ q = (Decides-eqb c q).0 is in
        let bytes : encode_utf8 c ≡ q ∷ [] = ap encode_utf8 same ∙ encode_ascii q low in
        let all : list_any (λ b. b == q) (q ∷ []) ≡ false = ap (list_any (λ b. b == q)) (sym bytes) ∙ h in
        let one : list_any (λ b. b == q) (q ∷ []) ≡ true = rw (number_itself q) refl in
        let wrong : true ≡ false = sym one ∙ all in cc

-- (2) literals

pub record IsQuote (q : ℕ) : Type 0 where
  pub one : IsOne q
  pub is : is_quote q ≡ true
  pub no_white : is_white q ≡ false

-- the bytes of characters none of which is this quote
pub record IsWithout (q : ℕ) (value : List ℕ) : Type 0 where
  pub own : List ℕ
  pub scalars : all_scalars own ≡ true
  pub bytes_are : encode_utf8_all own ≡ value
  pub without : AllAre (is_but q) own

module _ (q : ℕ) (is : IsQuote q) (value : List ℕ) (w : IsWithout q value) where
  value_text : IsUtf8 value
  value_text = (w.own, (w.scalars, w.bytes_are))

  value_chars : chars value ≡ w.own
  value_chars = sym (chars_from_encodes w.own value value_text w.bytes_are)

  quote_text : IsUtf8 (q ∷ [])
  quote_text = (q ∷ [], (is.one.scalar, is.one.one))

  literal_chars : (cs : List ℕ) → chars (q ∷ (value ++ (q ∷ []))) ++ cs ≡ q ∷ (w.own ++ (q ∷ cs))
  literal_chars cs =
      ap (λ x. x ++ cs) (one_first q is.one (value ++ (q ∷ [])))
      ∙ ap (λ x. q ∷ (x ++ cs)) (chars-append value (q ∷ []) value_text)
      ∙ (λ i. q ∷ ((value_chars i ++ one_chars q is.one i) ++ cs))
      ∙ ap (λ x. q ∷ x) (append_assoc w.own (q ∷ []) cs)

  stops : (cs : List ℕ) → Stops (is_but q) (q ∷ cs)
  stops cs = ap not (number_itself q)

  literal_here : (cs : List ℕ) → literal_at q (w.own ++ (q ∷ cs)) ≡ Some (front_token (Literal value) cs)
  literal_here cs =
      (λ i. closed_literal (front_all (is_but q) w.own (q ∷ cs) w.without (stops cs) i)
      (after_all (is_but q) w.own (q ∷ cs) w.without (stops cs) i))
      ∙ ap (λ v. Some (front_token (Literal v) cs)) w.bytes_are

  pub lexed_quoted : Lexes (q ∷ (value ++ (q ∷ []))) (Literal value ∷ [])
  lexed_quoted = record {
    is_text = after_one q is.one (value ++ (q ∷ [])) (IsUtf8-append value (q ∷ []) value_text quote_text);
    to = λ cs e. subst (λ x. To Takes x (Literal value ∷ []) cs) (sym (literal_chars cs)) (
      cs,
      ap token_at (not_white q (w.own ++ (q ∷ cs)) is.no_white)
          ∙ quote_begins_literal (q ∷ (w.own ++ (q ∷ cs))) q (w.own ++ (q ∷ cs)) refl is.is ∙ literal_here cs,
      refl,
    );
  }

single_is : IsQuote single_quote
single_is = record { one = one_of single_quote refl (omega arith); is = refl; no_white = refl }

double_is : IsQuote double_quote
double_is = record { one = one_of double_quote refl (omega arith); is = refl; no_white = refl }

-- the bytes of characters none of which is a quote of one kind
pub record IsLiteral (value : List ℕ) : Type 0 where
  pub quote : ℕ
  pub kind : is_quote quote ≡ true
  pub without : IsWithout quote value

quote_kinds : (q : ℕ) → is_quote q ≡ true → (q ≡ double_quote) ⊎ (q ≡ single_quote)
quote_kinds q e = by (q == double_quote) refl
  where
    other : (b : Bool) → (q == single_quote) ≡ b → (false || b) ≡ true → (q ≡ double_quote) ⊎ (q ≡ single_quote)
    other true is h = inr ((Decides-eqb q single_quote).0 is)
    other false is h = cc

    by : (b : Bool) → (q == double_quote) ≡ b → (q ≡ double_quote) ⊎ (q ≡ single_quote)
    by true is = inl ((Decides-eqb q double_quote).0 is)
    by false is = other (q == single_quote) refl (sym (ap (λ b. b || (q == single_quote)) is) ∙ e)

pub lexed_literal : (value : List ℕ) → IsLiteral value → Lexes (literal_text value) (Literal value ∷ [])
lexed_literal value l = elim (cases_Bool (list_any (λ b. b == single_quote) value)) [
  | inl some ↦
      let quote : quote_of value ≡ double_quote = rw some refl in
      subst (λ q. Lexes (q ∷ (value ++ (q ∷ []))) (Literal value ∷ [])) (sym quote)
      (lexed_quoted double_quote double_is value (of_double some))
  | inr none ↦
      let quote : quote_of value ≡ single_quote = rw none refl in
      subst (λ q. Lexes (q ∷ (value ++ (q ∷ []))) (Literal value ∷ [])) (sym quote)
      (lexed_quoted single_quote single_is value (of_single none))
]
  where
    w : IsWithout l.quote value
    w = l.without

    of_single : list_any (λ b. b == single_quote) value ≡ false → IsWithout single_quote value
    of_single none = record {
      own = w.own;
      scalars = w.scalars;
      bytes_are = w.bytes_are;
      without = no_quote_character single_quote (omega arith) w.own (ap (list_any (λ b. b == single_quote)) w.bytes_are ∙ none);
    }

    of_double : list_any (λ b. b == single_quote) value ≡ true → IsWithout double_quote value
    of_double some = elim (quote_kinds l.quote l.kind) [
      | inl is ↦ subst (λ q. IsWithout q value) is w
      | inr is ↦
          let v : IsWithout single_quote value = subst (λ q. IsWithout q value) is w in
          let none = no_quote_byte single_quote (omega arith) v.own v.without in
          let wrong : true ≡ false = sym some ∙ ap (list_any (λ b. b == single_quote)) (sym v.bytes_are) ∙ none in cc
    ]

-- (3) the tokens of a text

abbrev pub IsToken : FilterToken → Type 0
IsToken (Name q) = IsPart q.local
IsToken (Literal value) = IsLiteral value
IsToken _ = Unit {0}

abbrev pub AreTokens : List FilterToken → Type 0
AreTokens [] = Unit {0}
AreTokens (t ∷ ts) = IsToken t × AreTokens ts

scalars_rest : (front rest : List ℕ) → all_scalars (front ++ rest) ≡ true → all_scalars rest ≡ true
scalars_rest [] rest h = h
scalars_rest (c ∷ cs) rest h = scalars_rest cs rest (and_parts _ (all_scalars (cs ++ rest)) h).1

module _ (p : ℕ → Bool) where
  scalars_front : (cs : List ℕ) → all_scalars cs ≡ true → all_scalars (front_while p cs) ≡ true
  scalars_front [] h = refl
  scalars_front (c ∷ cs) h = let parts = and_parts _ (all_scalars cs) h in by (p c) (scalars_front cs parts.1)
    where
      by : (b : Bool) → all_scalars (front_while p cs) ≡ true → all_scalars (if b then c ∷ front_while p cs else []) ≡ true
      by false rest = refl
      by true rest = let parts = and_parts _ (all_scalars cs) h in rw (parts.0) rest

part_front_is : (c : ℕ) (cs : List ℕ) → all_scalars (c ∷ cs) ≡ true → is_name_start c ≡ true → IsPart (part_bytes (c ∷ cs))
part_front_is c cs u starts =
    let front : front_while is_name_character (c ∷ cs) ≡ c ∷ front_while is_name_character cs = rw (starts_are_characters c starts) refl in
    record {
      first = c;
      others = front_while is_name_character cs;
      scalars = ap all_scalars (sym front) ∙ scalars_front is_name_character (c ∷ cs) u;
      bytes_are = ap encode_utf8_all (sym front);
      begins = starts;
      goes_on = subst (AllAre is_name_character) front (front_passes is_name_character (c ∷ cs));
    }

plain_if : (b : Bool) (o : Option FilterToken) (one : FilterToken) → IsToken one → ((s : FilterToken) → o ≡ Some s → IsToken s)
    → (s : FilterToken)
    → (if b then Some one else o) ≡ Some s → IsToken s
plain_if true o one is others s e = let same : one ≡ s = cc in subst IsToken same is
plain_if false o one is others s e = others s e

plain_symbol : (c : ℕ) (s : FilterToken) → symbol_of c ≡ Some s → IsToken s
plain_symbol c =
    plain_if (c == byte "*") _ Any tt (plain_if (c == byte "[") _ OpenBracket tt (plain_if (c == byte "]") _ CloseBracket tt
    (plain_if (c == byte "(") _ OpenParenthesis tt (plain_if (c == byte ")") _ CloseParenthesis tt
    (plain_if (c == equals_sign) _ EqualsSign tt (plain_if (c == byte "@") None At tt (λ s e. let wrong : None ≡ Some s = e in cc)))))))

token_of : (t : FilterToken) (rest : List ℕ) (k : FrontToken) → Some k ≡ Some (front_token t rest) → k.token ≡ t
token_of t rest k e = let same : k ≡ front_token t rest = cc in ap (λ (x : FrontToken). x.token) same

module _ (t : FilterToken) (rest : List ℕ) where
  prefixed_is : (prefix cs : List ℕ) → all_scalars cs ≡ true → prefixed_name_at prefix cs ≡ Some (front_token t rest) → IsToken t
  prefixed_is prefix [] u e = cc
  prefixed_is prefix (c ∷ cs) u e = by (is_name_start c) refl e
    where
      by : (b : Bool) → is_name_start c ≡ b
          → (if b then Some (front_token (name_token prefix (part_bytes (c ∷ cs))) (after_while is_name_character (c ∷ cs))) else
          None) ≡ Some (front_token t rest)
          → IsToken t
      by true starts f = subst IsToken (token_of t rest _ f) (part_front_is c cs u starts)
      by false starts f = cc

  from_is : (part cs : List ℕ) → IsPart part → all_scalars cs ≡ true → name_from part cs ≡ Some (front_token t rest) → IsToken t
  from_is part [] p u e = subst IsToken (token_of t rest _ e) p
  from_is part (c ∷ cs) p u e = by (c == colon) e
    where
      by : (b : Bool) → (if b then prefixed_name_at part cs else Some (front_token (name_token [] part) (c ∷ cs)))
          ≡ Some (front_token t rest) → IsToken t
      by true f = prefixed_is part cs (scalars_rest (c ∷ []) cs u) f
      by false f = subst IsToken (token_of t rest _ f) p

  literal_is : (quote : ℕ) (cs : List ℕ) → is_quote quote ≡ true → all_scalars cs ≡ true → literal_at quote cs ≡ Some (front_token t rest)
      → IsToken t
  literal_is quote cs kind u e = from (after_while (is_but quote) cs) e
    where
      own : List ℕ
      own = front_while (is_but quote) cs

      from : (closed : List ℕ) → closed_literal own closed ≡ Some (front_token t rest) → IsToken t
      from [] f = cc
      from (q ∷ after) f = subst IsToken (token_of t rest _ f) (record {
        quote = quote;
        kind = kind;
        without = record {
          own = own;
          scalars = scalars_front (is_but quote) cs u;
          bytes_are = refl;
          without = front_passes (is_but quote) cs;
        };
      })

  symbol_is : (c : ℕ) (cs : List ℕ) → with_symbol cs (symbol_of c) ≡ Some (front_token t rest) → IsToken t
  symbol_is c cs e = by (symbol_of c) refl e
    where
      by : (o : Option FilterToken) → symbol_of c ≡ o → with_symbol cs o ≡ Some (front_token t rest) → IsToken t
      by None is f = cc
      by (Some s) is f = subst IsToken (token_of t rest _ f) (plain_symbol c s is)

  pub token_is : (cs : List ℕ) → all_scalars cs ≡ true → token_at cs ≡ Some (front_token t rest) → IsToken t
  token_is [] u e = cc
  token_is (c ∷ cs) u e = by (is_quote c) refl e
    where
      by_name : (b : Bool) → is_name_start c ≡ b → (if b then name_at (c ∷ cs) else with_symbol cs (symbol_of c))
          ≡ Some (front_token t rest) → IsToken t
      by_name true starts f =
          from_is (part_bytes (c ∷ cs)) (after_while is_name_character (c ∷ cs)) (part_front_is c cs u starts)
          (let l = after_is is_name_character (c ∷ cs) in scalars_rest l.0 (after_while is_name_character (c ∷ cs))
          (ap all_scalars (sym l.1) ∙ u)) f
      by_name false starts f = symbol_is c cs f

      by : (b : Bool) → is_quote c ≡ b
          → (if b then literal_at c cs else (if is_name_start c then name_at (c ∷ cs) else with_symbol cs (symbol_of c)))
          ≡ Some (front_token t rest) → IsToken t
      by true kind f = literal_is c cs kind (scalars_rest (c ∷ []) cs u) f
      by false kind f = by_name (is_name_start c) refl f

pub are_tokens : (cs : List ℕ) (ts : List FilterToken) (rest : List ℕ) → all_scalars cs ≡ true → To Takes cs ts rest → AreTokens ts
are_tokens cs [] rest u l = tt
are_tokens cs (t ∷ ts) rest u l =
    let white = white_after cs in
    let v : all_scalars (without_white cs) ≡ true = scalars_rest white.0 (without_white cs) (ap all_scalars (sym white.1) ∙ u) in
    let later = token_later t l.0 (without_white cs) l.1 in
    let more : all_scalars l.0 ≡ true = scalars_rest (later.0 ∷ later.1) l.0 (ap all_scalars (sym later.2) ∙ v) in
    (token_is t l.0 (without_white cs) v l.1, are_tokens l.0 ts rest more l.2)
