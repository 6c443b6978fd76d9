-- Texts that are cut where their characters cease to pass a test.
use Rattle.std.proofs.Common.{◌≡◌, ℕ, Bool, true, false, List, [], ◌∷◌, ◌++◌, length, take, drop, refl, ap, sym, ◌∙◌, arith, Some}
use Rattle.std.specs.Prelude.{not, ◌==◌, encode_utf8_all, IsUtf8, chars}
use Rattle.std.specs.Str.{IsCharBoundary, NoCharPasses, NonePass}
use Rattle.std.specs.Str.Pattern.{FindsBy, HasCharAt}
use Rattle.std.proofs.lemmas.List.{append-nil, take-append-drop}
use Rattle.std.proofs.lemmas.Str.{IsUtf8-drop, chars-nil, chars_from_encodes, chars_past_char, encodes-append, encodes-chars}
use Rattle.ifmap_filter.specs.Lexing.{CutsCharacters}
use Rattle.ifmap_filter.specs.Tokens.{after_while, front_while}

module _ (p t : ℕ → Bool) (turns : (c : ℕ) → t c ≡ not (p c)) where
  passes : (c : ℕ) → t c ≡ false → p c ≡ true
  passes c e = by (p c) refl
    where
      by : (b : Bool) → p c ≡ b → p c ≡ true
      by true f = f
      by false f = let wrong : false ≡ true = sym e ∙ turns c ∙ ap not f in cc

  fails : (c : ℕ) → t c ≡ true → p c ≡ false
  fails c e = by (p c) refl
    where
      by : (b : Bool) → p c ≡ b → p c ≡ false
      by false f = f
      by true f = let wrong : true ≡ false = sym e ∙ turns c ∙ ap not f in cc

  front_more : (cs rest : List ℕ) → NonePass t cs → front_while p (cs ++ rest) ≡ cs ++ front_while p rest
  front_more [] rest none = refl
  front_more (c ∷ cs) rest none = rw (passes c none.0) (ap (λ xs. c ∷ xs) (front_more cs rest none.1))

  after_more : (cs rest : List ℕ) → NonePass t cs → after_while p (cs ++ rest) ≡ after_while p rest
  after_more [] rest none = refl
  after_more (c ∷ cs) rest none = rw (passes c none.0) (after_more cs rest none.1)

  pub cuts_all : (text : List ℕ) → IsUtf8 text → NoCharPasses t text → CutsCharacters p text text []
  cuts_all text u (cs, e, none) =
      let are : cs ≡ chars text = chars_from_encodes cs text u e in
      let all : front_while p (chars text) ≡ cs =
      ap (front_while p) (sym are ∙ sym (append-nil cs)) ∙ front_more cs [] none ∙ append-nil cs in
      record {
        front_is = sym e ∙ ap encode_utf8_all (sym all);
        rest_is = chars-nil ∙ sym (ap (after_while p) (sym are ∙ sym (append-nil cs)) ∙ after_more cs [] none);
      }

  pub cuts_at : (text : List ℕ) (i j c : ℕ) → IsUtf8 text → IsCharBoundary text i → NoCharPasses t (take i text) → t c ≡ true
      → HasCharAt c text i j
      → CutsCharacters p text (take i text) (drop i text)
  cuts_at text i j c u bound (cs, e, none) stop has =
      let v : IsUtf8 (drop i text) = IsUtf8-drop text i u bound in
      let more : chars (drop i text) ≡ c ∷ chars (drop j text) = chars_past_char (drop i text) (drop j text) c v has.split in
      let bytes : encode_utf8_all (cs ++ chars (drop i text)) ≡ text =
      encodes-append cs (chars (drop i text)) ∙ (λ k. e k ++ encodes-chars (drop i text) v k) ∙ take-append-drop i text in
      let are : cs ++ chars (drop i text) ≡ chars text = chars_from_encodes (cs ++ chars (drop i text)) text u bytes in
      let front_none : front_while p (chars (drop i text)) ≡ [] = ap (front_while p) more ∙ stops_front in
      let after_all : after_while p (chars (drop i text)) ≡ chars (drop i text) = ap (after_while p) more ∙ stops_after ∙ sym more in
      record {
        front_is = sym e ∙ ap encode_utf8_all (sym (
            ap (front_while p) (sym are) ∙ front_more cs (chars (drop i text)) none ∙ ap (λ xs. cs ++ xs) front_none ∙ append-nil cs));
        rest_is = sym (ap (after_while p) (sym are) ∙ after_more cs (chars (drop i text)) none ∙ after_all);
      }
    where
      stops_front : front_while p (c ∷ chars (drop j text)) ≡ []
      stops_front = rw (fails c stop) refl

      stops_after : after_while p (c ∷ chars (drop j text)) ≡ c ∷ chars (drop j text)
      stops_after = rw (fails c stop) refl

pub no_characters : (text : List ℕ) → length text ≡ 0 → chars text ≡ []
no_characters [] e = chars-nil
no_characters (b ∷ bs) e = absurd (omega arith)

pub cuts_from : (p t : ℕ → Bool) → ((c : ℕ) → t c ≡ not (p c)) → (text : List ℕ) (i j : ℕ) (front rest : List ℕ) → IsUtf8 text
    → IsCharBoundary text i
    → FindsBy t text (Some (i, j)) → front ≡ take i text → rest ≡ drop i text → CutsCharacters p text front rest
cuts_from p t turns text i j front rest u bound (none, has) e f =
    let cuts = cuts_at p t turns text i j has.0 u bound none has.1 has.2 in
    record { front_is = e ∙ cuts.front_is; rest_is = ap chars f ∙ cuts.rest_is }
