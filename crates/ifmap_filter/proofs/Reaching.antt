-- What a reader has reached in the characters of a text. Plan:
-- (1) each token takes characters from the front, so that what is left is an end of the text;
-- (2) the next place after a token that leads on; the stop at a token without one, the stop where no token stands, and the end;
-- (3) each text is a filter or stops to be one,
-- (4) and at one place alone.
use Rattle.std.proofs.Common.{◌≡◌, ◌≢◌, ℕ, ◌<◌, ◌≤◌, Bool, true, false, List, [], ◌∷◌, ◌++◌, length, refl, ap, sym, ◌∙◌, subst, arith, Option, Some, None, append_assoc, length-append}
use Rattle.std.specs.Prelude.{◌==◌, if◌then◌else◌, encode_utf8_all, chars}
use Rattle.std.proofs.lemmas.Str.{encodes-append, length-le-encodes}
use Rattle.std.proofs.lemmas.List.{append-nil}
use Rattle.ifmap_lemmas.specs.Items.{to_last}
use Rattle.ifmap_elem.specs.Chars.{colon, is_white}
use Rattle.ifmap_elem.specs.Names.{is_name_character, is_name_start}
use Rattle.ifmap_prefixes.specs.ifmap_reader.declared.scoping.Scope.{Scope}
use Rattle.ifmap_filter.specs.declared.filters.Filter.{Filter}
use Rattle.ifmap_filter.specs.declared.tokens.FilterToken.{FilterToken}
use Rattle.ifmap_filter.specs.Grammar.{IsFilter, depth_limit}
use Rattle.ifmap_filter.specs.Progress.{IsFilterFrom, FilterState, Start, follow_token, filter_at}
use Rattle.ifmap_filter.specs.Reaching.{ReadsTo}
use Rattle.ifmap_filter.specs.Texts.{BeginsFilter, StopsAt, WritesFilter, token_offset}
use Rattle.ifmap_filter.specs.Tokens.{HasNoToken, FrontToken, Takes, after_while, closed_literal, front_while, literal_at, name_at, name_from, name_token, part_bytes, prefixed_name_at, symbol_of, front_token, token_at, with_symbol, without_white}
use Rattle.ifmap_filter.proofs.Ending.{EndsAt, ends, goes_on}
use Rattle.ifmap_filter.proofs.Following.{IsRight, follows_right}
use Rattle.ifmap_elem.specs.laws.NameBytes.{starts_are_characters}
use Rattle.ifmap_prefixes.specs.ifmap_lexer.Cutting.{is_but}
use Rattle.ifmap_prefixes.specs.ifmap_lexer.There.{is_quote}

-- (1) tokens take characters

-- what is left is an end of the characters, after some at least
abbrev pub IsAfter : List ℕ → List ℕ → Type 0
IsAfter cs rest = (front : List ℕ) × (cs ≡ front ++ rest)

abbrev pub IsLater : List ℕ → List ℕ → Type 0
IsLater cs rest = (c : ℕ) × (front : List ℕ) × (cs ≡ c ∷ (front ++ rest))

pub after_is : (p : ℕ → Bool) (cs : List ℕ) → IsAfter cs (after_while p cs)
after_is p [] = ([], refl)
after_is p (c ∷ cs) = by (after_is p cs) (p c)
  where
    by : IsAfter cs (after_while p cs) → (b : Bool) → IsAfter (c ∷ cs) (if b then after_while p cs else c ∷ cs)
    by rest true = (c ∷ rest.0, ap (λ xs. c ∷ xs) rest.1)
    by rest false = ([], refl)

later_from : (c : ℕ) (cs rest : List ℕ) → IsAfter cs rest → IsLater (c ∷ cs) rest
later_from c cs rest (front, e) = (c, front, ap (λ xs. c ∷ xs) e)

later_after : (cs mid rest : List ℕ) → IsLater cs mid → IsAfter mid rest → IsLater cs rest
later_after cs mid rest (c, front, e) (more, f) =
    (c, front ++ more, e ∙ ap (λ xs. c ∷ (front ++ xs)) f ∙ ap (λ xs. c ∷ xs) (sym (append_assoc front more rest)))

after_later : (cs mid rest : List ℕ) → IsAfter cs mid → IsLater mid rest → IsLater cs rest
after_later cs mid rest ([], e) l = subst (λ xs. IsLater xs rest) (sym e) l
after_later cs mid rest (x ∷ front, e) (c, more, f) =
    (x, front ++ (c ∷ more), e ∙ ap (λ xs. x ∷ (front ++ xs)) f ∙ ap (λ xs. x ∷ xs) (sym (append_assoc front (c ∷ more) rest)))

some_inj : (t : FilterToken) (rest : List ℕ) (k : FrontToken) → Some k ≡ Some (front_token t rest) → k.rest ≡ rest
some_inj t rest k e = let same : k ≡ front_token t rest = cc in ap (λ (x : FrontToken). x.rest) same

part_later : (c : ℕ) (cs : List ℕ) → is_name_start c ≡ true → IsLater (c ∷ cs) (after_while is_name_character (c ∷ cs))
part_later c cs starts =
    subst (λ b. IsLater (c ∷ cs) (if b then after_while is_name_character cs else c ∷ cs)) (sym (starts_are_characters c starts))
    (later_from c cs (after_while is_name_character cs) (after_is is_name_character cs))

module _ (t : FilterToken) (rest : List ℕ) where
  prefixed_later : (prefix cs : List ℕ) → prefixed_name_at prefix cs ≡ Some (front_token t rest) → IsAfter cs rest
  prefixed_later prefix [] e = cc
  prefixed_later prefix (c ∷ cs) e = by (is_name_start c) e
    where
      by : (b : Bool) → (if b then Some (front_token (name_token prefix (part_bytes (c ∷ cs))) (after_while is_name_character (c ∷ cs)))
          else None) ≡ Some (front_token t rest)
          → IsAfter (c ∷ cs) rest
      by true f = subst (IsAfter (c ∷ cs)) (some_inj t rest _ f) (after_is is_name_character (c ∷ cs))
      by false f = cc

  from_later : (part cs : List ℕ) → name_from part cs ≡ Some (front_token t rest) → IsAfter cs rest
  from_later part [] e = subst (IsAfter []) (some_inj t rest _ e) ([], refl)
  from_later part (c ∷ cs) e = by (c == colon) e
    where
      by : (b : Bool) → (if b then prefixed_name_at part cs else Some (front_token (name_token [] part) (c ∷ cs)))
          ≡ Some (front_token t rest) → IsAfter (c ∷ cs) rest
      by true f = let l = prefixed_later part cs f in (c ∷ l.0, ap (λ xs. c ∷ xs) l.1)
      by false f = subst (IsAfter (c ∷ cs)) (some_inj t rest _ f) ([], refl)

  literal_later : (quote : ℕ) (cs : List ℕ) → literal_at quote cs ≡ Some (front_token t rest) → IsAfter cs rest
  literal_later quote cs e = from (after_while (is_but quote) cs) (after_is (is_but quote) cs) e
    where
      from : (closed : List ℕ) → IsAfter cs closed → closed_literal (front_while (is_but quote) cs) closed ≡ Some (front_token t rest)
          → IsAfter cs rest
      from [] l f = cc
      from (q ∷ after) (front, l) f =
          let same : after ≡ rest = some_inj t rest _ f in
          (front ++ q ∷ [], l ∙ sym (append_assoc front (q ∷ []) after) ∙ ap (λ xs. (front ++ q ∷ []) ++ xs) same)

  symbol_later : (cs : List ℕ) (o : Option FilterToken) → with_symbol cs o ≡ Some (front_token t rest) → IsAfter cs rest
  symbol_later cs None e = cc
  symbol_later cs (Some s) e = subst (IsAfter cs) (some_inj t rest _ e) ([], refl)

  pub token_later : (cs : List ℕ) → token_at cs ≡ Some (front_token t rest) → IsLater cs rest
  token_later [] e = cc
  token_later (c ∷ cs) e = by (is_quote c) e
    where
      by_name : (b : Bool) → is_name_start c ≡ b → (if b then name_at (c ∷ cs) else with_symbol cs (symbol_of c))
          ≡ Some (front_token t rest) → IsLater (c ∷ cs) rest
      by_name true starts f =
          later_after (c ∷ cs) (after_while is_name_character (c ∷ cs)) rest (part_later c cs starts)
          (from_later (part_bytes (c ∷ cs)) (after_while is_name_character (c ∷ cs)) f)
      by_name false starts f = later_from c cs rest (symbol_later cs (symbol_of c) f)

      by : (b : Bool) → (if b then literal_at c cs else (if is_name_start c then name_at (c ∷ cs) else with_symbol cs (symbol_of c)))
          ≡ Some (front_token t rest)
          → IsLater (c ∷ cs) rest
      by true f = later_from c cs rest (literal_later c cs f)
      by false f = by_name (is_name_start c) refl f

-- by characters and by bytes
pub later_length : (cs rest : List ℕ) → IsLater cs rest → length rest < length cs
later_length cs rest (c, front, e) =
    let sum : length cs ≡ length (c ∷ (front ++ rest)) = ap length e in
    omega (arith, sum, length-append {A = ℕ} front rest)

pub later_bytes : (cs rest : List ℕ) → IsLater cs rest → length (encode_utf8_all rest) < length (encode_utf8_all cs)
later_bytes cs rest (c, front, e) =
    let sum : length (encode_utf8_all cs) ≡ length (encode_utf8_all (c ∷ front) ++ encode_utf8_all rest) =
    ap length (ap encode_utf8_all e ∙ encodes-append (c ∷ front) rest) in
    omega (arith, sum, length-append {A = ℕ} (encode_utf8_all (c ∷ front)) (encode_utf8_all rest), length-le-encodes (c ∷ front))

pub after_bytes : (cs rest : List ℕ) → IsAfter cs rest → length (encode_utf8_all rest) ≤ length (encode_utf8_all cs)
after_bytes cs rest (front, e) =
    let sum : length (encode_utf8_all cs) ≡ length (encode_utf8_all front ++ encode_utf8_all rest) =
    ap length (ap encode_utf8_all e ∙ encodes-append front rest) in
    omega (arith, sum, length-append {A = ℕ} (encode_utf8_all front) (encode_utf8_all rest))

pub white_after : (cs : List ℕ) → IsAfter cs (without_white cs)
white_after cs = after_is is_white cs

pub taken_later : (cs : List ℕ) (t : FilterToken) (rest : List ℕ) → Takes cs t rest → IsLater cs rest
taken_later cs t rest takes = after_later cs (without_white cs) rest (white_after cs) (token_later t rest (without_white cs) takes)

-- (2) what is reached

pub only_taken : (cs : List ℕ) (t u : FilterToken) (rest after : List ℕ) → Takes cs t rest → Takes cs u after → (t ≡ u) × (rest ≡ after)
only_taken cs t u rest after one other =
    let both : Some (front_token t rest) ≡ Some (front_token u after) = sym one ∙ other in
    let same : front_token t rest ≡ front_token u after = cc in
    (ap (λ (k : FrontToken). k.token) same, ap (λ (k : FrontToken). k.rest) same)

pub not_end : (cs : List ℕ) (t : FilterToken) (rest : List ℕ) → Takes cs t rest → HasNoToken cs → ⊥
not_end cs t rest takes end = let wrong : None ≡ Some (front_token t rest) = sym (ap token_at end) ∙ takes in cc

module _ (text : List ℕ) (scope : Scope) where
  pub at_start : ReadsTo text scope Start (chars text)
  at_start = record {
    tokens = [];
    room = depth_limit;
    room_is = omega arith;
    lexed = refl;
    goes = (λ filter more. ((λ is. is), (λ is. is)));
  }

  module _ (w : FilterState) (cs : List ℕ) (r : ReadsTo text scope w cs) where
    begins : BeginsFilter scope r.tokens
    begins =
        let g = goes_on scope r.room w in
        record { more = g.1; filter = g.0; filter_is = (r.goes g.0 g.1).1 g.2 }

    pub next_place : (t : FilterToken) (rest : List ℕ) → Takes cs t rest → (next : FilterState) → follow_token scope w t ≡ Some next
        → ReadsTo text scope next rest
    next_place t rest takes next is =
        let ok = subst (IsRight scope r.room w t) is (follows_right scope r.room w r.room_is t) in
        record {
          tokens = r.tokens ++ t ∷ [];
          room = ok.0;
          room_is = ok.1;
          lexed = to_last Takes (chars text) r.tokens cs t rest r.lexed takes;
          goes = (λ filter more. (
            (λ is. (ok.2 filter more).0 ((r.goes filter (t ∷ more)).0
                (subst (λ ts. IsFilter scope ts filter) (append_assoc r.tokens (t ∷ []) more) is))),
            (λ g. subst (λ ts. IsFilter scope ts filter) (sym (append_assoc r.tokens (t ∷ []) more))
                ((r.goes filter (t ∷ more)).1 ((ok.2 filter more).1 g))),
          ));
        }

    pub stops_at_token : (t : FilterToken) (rest : List ℕ) → Takes cs t rest → follow_token scope w t ≡ None
        → StopsAt text scope (token_offset text cs)
    stops_at_token t rest takes is =
        let none = subst (IsRight scope r.room w t) is (follows_right scope r.room w r.room_is t) in
        record {
          tokens = r.tokens;
          rest = cs;
          lexed = r.lexed;
          begins = begins;
          no_further = (λ u after other b.
              let same : t ≡ u = (only_taken cs t u rest after takes other).0 in
              let is : IsFilter scope (r.tokens ++ (u ∷ b.more)) b.filter = subst (λ ts. IsFilter scope ts b.filter)
              (append_assoc r.tokens (u ∷ []) b.more) b.filter_is in
              none b.filter b.more (subst (λ v. IsFilterFrom scope b.filter r.room w (v ∷ b.more)) (sym same)
              ((r.goes b.filter (u ∷ b.more)).0 is)));
          unfinished = (λ filter end is. not_end cs t rest takes end);
          at_is = refl;
        }

    pub stops_where_none : token_at (without_white cs) ≡ None → without_white cs ≢ [] → StopsAt text scope (token_offset text cs)
    stops_where_none none some = record {
      tokens = r.tokens;
      rest = cs;
      lexed = r.lexed;
      begins = begins;
      no_further = (λ t after takes b. let wrong : None ≡ Some (front_token t after) = sym none ∙ takes in cc);
      unfinished = (λ filter end is. some end);
      at_is = refl;
    }

    pub whole_text : HasNoToken cs → (filter : Filter) → filter_at w ≡ Some filter → WritesFilter text scope filter
    whole_text end filter is =
        let ok = subst (EndsAt scope r.room w) is (ends scope r.room w) in
        record {
          tokens = r.tokens;
          rest = cs;
          lexed = r.lexed;
          is_end = end;
          filter_is = subst (λ ts. IsFilter scope ts filter) (append-nil r.tokens) ((r.goes filter []).1 ((ok filter).1 refl));
        }

    pub stops_at_end : HasNoToken cs → filter_at w ≡ None → StopsAt text scope (token_offset text cs)
    stops_at_end end is =
        let none = subst (EndsAt scope r.room w) is (ends scope r.room w) in
        record {
          tokens = r.tokens;
          rest = cs;
          lexed = r.lexed;
          begins = begins;
          no_further = (λ t after takes b. not_end cs t after takes end);
          unfinished = (λ filter e is. none filter ((r.goes filter []).0
              (subst (λ ts. IsFilter scope ts filter) (sym (append-nil r.tokens)) is)));
          at_is = refl;
        }
