-- The turns of the loop that reads a filter, over texts in UTF-8.
use Rattle.std.proofs.Common.{◌≡◌, ◌≢◌, ℕ, ◌-◌, ◌<◌, ◌≤◌, List, [], length, ap, sym, ◌∙◌, subst, arith, inl, inr, Some}
use Rattle.std.specs.Prelude.{IsUtf8, chars, encode_utf8_all, Result, Ok, Err}
use Rattle.std.proofs.lemmas.Str.{encodes-chars}
use Rattle.ifmap_prefixes.specs.ifmap_reader.declared.scoping.Scope.{Scope}
use Rattle.ifmap_filter.specs.declared.errors.FilterError.{FilterError}
use Rattle.ifmap_filter.specs.declared.errors.FilterError.TheVariants.{NotAFilter, NoMemory}
use Rattle.ifmap_filter.specs.declared.filters.Filter.{Filter}
use Rattle.ifmap_filter.specs.declared.tokens.FilterToken.{FilterToken}
use Rattle.ifmap_filter.specs.Progress.{FilterState, Start}
use Rattle.ifmap_filter.specs.Reaching.{IsEndAnswer, IsRefused, ReachesWhite, ReadsOnTo}
use Rattle.ifmap_filter.specs.Texts.{IsParsed, StopsAt, token_offset}
use Rattle.ifmap_filter.specs.Tokens.{Takes, front_token, token_at, without_white}
use Rattle.ifmap_filter.proofs.CharLaws.{no_characters}
use Rattle.ifmap_filter.proofs.Reaching.{after_bytes, at_start, later_bytes, next_place, stops_at_end, stops_at_token, stops_where_none, token_later, white_after, whole_text}

byte_length : (text : List ℕ) → IsUtf8 text → length (encode_utf8_all (chars text)) ≡ length text
byte_length text u = ap length (encodes-chars text u)

-- what is left after white space is no longer
left_length : (after left : List ℕ) → IsUtf8 left → chars left ≡ without_white after → length left ≤ length (encode_utf8_all after)
left_length after left v e =
    let bound = after_bytes after (without_white after) (white_after after) in
    let same : length (encode_utf8_all (without_white after)) ≡ length (encode_utf8_all (chars left)) = ap
    (λ cs. length (encode_utf8_all cs)) (sym e) in
    omega (arith, bound, same, byte_length left v)

pub reading_on_shortens : (scope : Scope) (w next : FilterState) (rest left : List ℕ) → IsUtf8 rest → ReadsOnTo scope w rest next left
    → length left < length rest
reading_on_shortens scope w next rest left u s =
    let less = later_bytes (chars rest) s.after (token_later s.token s.after (chars rest) s.is_there) in
    omega (arith, less, left_length s.after left s.is_text s.left_is, byte_length rest u)

some_characters : (rest : List ℕ) → IsUtf8 rest → length rest ≢ 0 → chars rest ≢ []
some_characters rest u some e = some (sym (byte_length rest u) ∙ ap (λ cs. length (encode_utf8_all cs)) e)

module _ (text : List ℕ) (scope : Scope) (u : IsUtf8 text) where
  pub begin : (rest : List ℕ) → IsUtf8 rest → chars rest ≡ without_white (chars text) → ReachesWhite text scope Start rest
  begin rest v e = record {
    cs = chars text;
    reached = at_start text scope;
    rest_is = e;
    within = (let l = left_length (chars text) rest v e in omega (arith, l, byte_length text u));
  }

  module _ (w : FilterState) (rest : List ℕ) (v : IsUtf8 rest) (r : ReachesWhite text scope w rest) where
    place : length text - length rest ≡ token_offset text r.cs
    place = ap (λ n. length text - n) (sym (byte_length rest v) ∙ ap (λ cs. length (encode_utf8_all cs)) r.rest_is)

    takes : (t : FilterToken) (after : List ℕ) → token_at (chars rest) ≡ Some (front_token t after) → Takes r.cs t after
    takes t after e = ap token_at (sym r.rest_is) ∙ e

    pub go_on : (next : FilterState) (left : List ℕ) → ReadsOnTo scope w rest next left → ReachesWhite text scope next left
    go_on next left s = record {
      cs = s.after;
      reached = next_place text scope w r.cs r.reached s.token s.after (takes s.token s.after s.is_there) next s.follows;
      rest_is = s.left_is;
      within = (let l = reading_on_shortens scope w next rest left v s in omega (arith, l, r.within));
    }

    pub refusal_is_parsed : length rest ≢ 0 → (at : ℕ) → at ≡ length text - length rest → (e : FilterError) → IsRefused scope w rest at e
        → IsParsed text scope (Err e)
    refusal_is_parsed some at is NoMemory stuck = tt
    refusal_is_parsed some at is (NotAFilter found) (same, inl none) =
        subst (StopsAt text scope) (sym (same ∙ is ∙ place))
        (stops_where_none text scope w r.cs r.reached (ap token_at (sym r.rest_is) ∙ none)
        (λ e. some_characters rest v some (r.rest_is ∙ e)))
    refusal_is_parsed some at is (NotAFilter found) (same, inr (t, after, there, none)) =
        subst (StopsAt text scope) (sym (same ∙ is ∙ place)) (stops_at_token text scope w r.cs r.reached t after (takes t after there) none)

    end : length rest ≡ 0 → without_white r.cs ≡ []
    end none = sym r.rest_is ∙ no_characters rest none

    pub ends_parse : length rest ≡ 0 → (at : ℕ) → at ≡ length text → (result : Result Filter FilterError) → IsEndAnswer w at result
        → IsParsed text scope result
    ends_parse none at is (Ok filter) whole_is = whole_text text scope w r.cs r.reached (end none) filter whole_is
    ends_parse none at is (Err NoMemory) answer = tt
    ends_parse none at is (Err (NotAFilter found)) (same, no_filter) =
        let there : at ≡ token_offset text r.cs = (let p = place in omega (arith, p, none, is)) in
        subst (StopsAt text scope) (sym (same ∙ there)) (stops_at_end text scope w r.cs r.reached (end none) no_filter)
