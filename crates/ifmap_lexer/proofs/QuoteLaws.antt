-- Quoted values that are read are those that stand there.
use Rattle.std.proofs.Common.{◌≡◌, ℕ, true, false, List, ◌∷◌, ◌++◌, refl, ap, sym, ◌∙◌, subst, arith}
use Rattle.std.specs.Prelude.{◌==◌, ◌||◌, Option, Some, None}
use Rattle.std.proofs.lemmas.Bool.Decides.{nat_tests}
use Rattle.ifmap_elem.specs.Chars.{AllAre, is_white, double_quote, equals_sign, single_quote}
use Rattle.ifmap_elem.specs.Tokens.{TakesQuoted}
use Rattle.ifmap_lemmas.specs.Cuts.{one_cut}
use Rattle.ifmap_elem.specs.laws.OneToken.{quote_is_not_white}
use Rattle.ifmap_lexer.specs.Cutting.{Cuts, CutsAt, is_but}
use Rattle.ifmap_lexer.proofs.Basics.{all_back}

itself : (q : ℕ) → is_but q q ≡ false
itself q = let same : (q == q) ≡ true = grind (arith, nat_tests) in rw same refl

-- a byte that stands inside is not lacked
pub not_lacked : (q : ℕ) (bytes front after : List ℕ) → bytes ≡ front ++ (q ∷ after) → AllAre (is_but q) bytes → ⊥
not_lacked q bytes front after e f =
    let all : AllAre (is_but q) (front ++ (q ∷ after)) = subst (AllAre (is_but q)) e f in
    let wrong : true ≡ false = sym (all_back (is_but q) front (q ∷ after) all).0 ∙ itself q in
    cc

abbrev IsQuote : ℕ → Type 0
IsQuote q = (q == double_quote || q == single_quote) ≡ true

pub no_quote_at : (b : ℕ) (bs bytes : List ℕ) → bytes ≡ b ∷ bs → (b == double_quote || b == single_quote) ≡ false → (q : ℕ) (r : List ℕ)
    → (q == double_quote || q == single_quote) ≡ true → bytes ≡ q ∷ r → ⊥
no_quote_at b bs bytes e h q r g d =
    let s : b ∷ bs ≡ q ∷ r = sym e ∙ d in
    let same : q ≡ b = cc in
    let wrong : true ≡ false = sym (subst IsQuote same g) ∙ h in
    cc

module _ (bytes before sign : List ℕ) (c : Cuts is_white bytes before sign) where
  sign_is : (w r : List ℕ) (t : TakesQuoted bytes w r) → sign ≡ equals_sign ∷ (t.after ++ (t.quote ∷ (w ++ (t.quote ∷ r))))
  sign_is w r t =
      (one_cut is_white before t.before sign (equals_sign ∷ (t.after ++ (t.quote ∷ (w ++ (t.quote ∷ r))))) c.passes t.white_before
      c.stops refl (sym c.bytes_are ∙ t.bytes_are)).1

  pub no_sign : ((rest : List ℕ) → sign ≡ equals_sign ∷ rest → ⊥) → (w r : List ℕ) → TakesQuoted bytes w r → ⊥
  no_sign none w r t = none (t.after ++ (t.quote ∷ (w ++ (t.quote ∷ r)))) (sign_is w r t)

  module _ (after later value : List ℕ) (e : sign ≡ equals_sign ∷ after) (d : Cuts is_white after later value) where
    value_is : (w r : List ℕ) (t : TakesQuoted bytes w r) → value ≡ t.quote ∷ (w ++ (t.quote ∷ r))
    value_is w r t =
        let s : equals_sign ∷ after ≡ equals_sign ∷ (t.after ++ (t.quote ∷ (w ++ (t.quote ∷ r)))) = sym e ∙ sign_is w r t in
        let tail : after ≡ t.after ++ (t.quote ∷ (w ++ (t.quote ∷ r))) = cc in
        (one_cut is_white later t.after value (t.quote ∷ (w ++ (t.quote ∷ r))) d.passes t.white_after d.stops
        (quote_is_not_white t.quote t.is_quote) (sym d.bytes_are ∙ tail)).1

    pub no_quote : ((quote : ℕ) (rest : List ℕ) → (quote == double_quote || quote == single_quote) ≡ true → value ≡ quote ∷ rest → ⊥)
        → (w r : List ℕ)
        → TakesQuoted bytes w r → ⊥
    no_quote none w r t = none t.quote (w ++ (t.quote ∷ r)) t.is_quote (value_is w r t)

    module _ (quote : ℕ) (inside : List ℕ) (is : value ≡ quote ∷ inside) (q : (quote == double_quote || quote == single_quote) ≡ true) where
      inside_is : (w r : List ℕ) → TakesQuoted bytes w r → inside ≡ w ++ (quote ∷ r)
      inside_is w r t =
          let v : quote ∷ inside ≡ t.quote ∷ (w ++ (t.quote ∷ r)) = sym is ∙ value_is w r t in
          let same : t.quote ≡ quote = cc in
          let tail : inside ≡ w ++ (t.quote ∷ r) = cc in
          subst (λ (n : ℕ). inside ≡ w ++ (n ∷ r)) same tail

      pub no_quote_takes : AllAre (is_but quote) inside → (w r : List ℕ) → TakesQuoted bytes w r → ⊥
      no_quote_takes f w r t = not_lacked quote inside w r (inside_is w r t) f

      pub quoted_found : (w r : List ℕ) → CutsAt quote inside w r → TakesQuoted bytes w r
      quoted_found w r k = record {
        before = before;
        after = later;
        quote = quote;
        bytes_are = c.bytes_are
            ∙ ap (λ x. before ++ x)
            (e ∙ ap (λ x. equals_sign ∷ x) (d.bytes_are ∙ ap (λ x. later ++ x) (is ∙ ap (λ x. quote ∷ x) k.bytes_are)));
        white_before = c.passes;
        white_after = d.passes;
        is_quote = q;
        unquoted = k.passes;
      }
