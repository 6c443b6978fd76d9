-- Two readings of the same bytes end a comment, or a section, at the same place.
use Rattle.std.proofs.Common.{◌≡◌, ℕ, true, false, List, [], ◌∷◌, ◌++◌, refl, sym, subst, arith}
use Rattle.std.specs.Prelude.{◌==◌, codes}
use Rattle.std.specs.List.{starts_with}
use Rattle.std.specs.Str.{byte}
use Rattle.ifmap_elem.specs.Tokens.{Lacks}
use Rattle.ifmap_elem.specs.Chars.{greater_than}

-- the bytes before the first `--`
pub dash_cut : (a b r s : List ℕ) → Lacks (codes "--") (a ++ codes "-") → Lacks (codes "--") (b ++ codes "-")
    → a ++ (codes "--" ++ r) ≡ b ++ (codes "--" ++ s) → (a ≡ b) × (r ≡ s)
dash_cut [] [] r s f g e = (refl, cc)
dash_cut [] (y ∷ []) r s f g e =
    let one : y ≡ byte "-" = cc in
    let h : starts_with ◌==◌ (byte "-" ∷ (byte "-" ∷ [])) (codes "--") ≡ false = subst
    (λ (b : ℕ). starts_with ◌==◌ (b ∷ (byte "-" ∷ [])) (codes "--") ≡ false) one g.0 in
    cc
dash_cut [] (y ∷ (z ∷ zs)) r s f g e =
    let one : y ≡ byte "-" = cc in
    let two : z ≡ byte "-" = cc in
    let h : starts_with ◌==◌ (y ∷ (byte "-" ∷ (zs ++ codes "-"))) (codes "--") ≡ false = subst
    (λ (b : ℕ). starts_with ◌==◌ (y ∷ (b ∷ (zs ++ codes "-"))) (codes "--") ≡ false) two g.0 in
    let k : true ≡ false = subst (λ (b : ℕ). starts_with ◌==◌ (b ∷ (byte "-" ∷ (zs ++ codes "-"))) (codes "--") ≡ false) one h in
    cc
dash_cut (x ∷ []) [] r s f g e =
    let one : x ≡ byte "-" = cc in
    let h : starts_with ◌==◌ (byte "-" ∷ (byte "-" ∷ [])) (codes "--") ≡ false = subst
    (λ (b : ℕ). starts_with ◌==◌ (b ∷ (byte "-" ∷ [])) (codes "--") ≡ false) one f.0 in
    cc
dash_cut (x ∷ (z ∷ zs)) [] r s f g e =
    let one : x ≡ byte "-" = cc in
    let two : z ≡ byte "-" = cc in
    let h : starts_with ◌==◌ (x ∷ (byte "-" ∷ (zs ++ codes "-"))) (codes "--") ≡ false = subst
    (λ (b : ℕ). starts_with ◌==◌ (x ∷ (b ∷ (zs ++ codes "-"))) (codes "--") ≡ false) two f.0 in
    let k : true ≡ false = subst (λ (b : ℕ). starts_with ◌==◌ (b ∷ (byte "-" ∷ (zs ++ codes "-"))) (codes "--") ≡ false) one h in
    cc
dash_cut (x ∷ xs) (y ∷ ys) r s f g e =
    let head : x ≡ y = cc in
    let tail : xs ++ (codes "--" ++ r) ≡ ys ++ (codes "--" ++ s) = cc in
    let both = dash_cut xs ys r s f.1 g.1 tail in
    let same : xs ≡ ys = both.0 in
    (cc, both.1)

-- `]]>` does not begin in what lacks it and goes on with it
no_bracket : (y : ℕ) (ys r s : List ℕ) → Lacks (codes "]]>") (y ∷ ys) → codes "]]>" ++ r ≡ (y ∷ ys) ++ (codes "]]>" ++ s) → ⊥
no_bracket y [] r s g e = let wrong : ◌≡◌ {A = ℕ} greater_than (byte "]") = cc in absurd (omega arith)
no_bracket y (z ∷ []) r s g e = let wrong : ◌≡◌ {A = ℕ} greater_than (byte "]") = cc in absurd (omega arith)
no_bracket y (z ∷ (w ∷ ws)) r s g e =
    let one : y ≡ byte "]" = cc in
    let two : z ≡ byte "]" = cc in
    let three : w ≡ greater_than = cc in
    let h : starts_with ◌==◌ (y ∷ (z ∷ (greater_than ∷ ws))) (codes "]]>") ≡ false = subst
    (λ (b : ℕ). starts_with ◌==◌ (y ∷ (z ∷ (b ∷ ws))) (codes "]]>") ≡ false) three g.0 in
    let k : starts_with ◌==◌ (y ∷ (byte "]" ∷ (greater_than ∷ ws))) (codes "]]>") ≡ false = subst
    (λ (b : ℕ). starts_with ◌==◌ (y ∷ (b ∷ (greater_than ∷ ws))) (codes "]]>") ≡ false) two h in
    let l : true ≡ false = subst (λ (b : ℕ). starts_with ◌==◌ (b ∷ (byte "]" ∷ (greater_than ∷ ws))) (codes "]]>") ≡ false) one k in
    cc

-- the bytes before the first `]]>`
pub bracket_cut : (a b r s : List ℕ) → Lacks (codes "]]>") a → Lacks (codes "]]>") b → a ++ (codes "]]>" ++ r) ≡ b ++ (codes "]]>" ++ s)
    → (a ≡ b) × (r ≡ s)
bracket_cut [] [] r s f g e = (refl, cc)
bracket_cut [] (y ∷ ys) r s f g e = absurd (no_bracket y ys r s g e)
bracket_cut (x ∷ xs) [] r s f g e = absurd (no_bracket x xs s r f (sym e))
bracket_cut (x ∷ xs) (y ∷ ys) r s f g e =
    let head : x ≡ y = cc in
    let tail : xs ++ (codes "]]>" ++ r) ≡ ys ++ (codes "]]>" ++ s) = cc in
    let both = bracket_cut xs ys r s f.1 g.1 tail in
    let same : xs ≡ ys = both.0 in
    (cc, both.1)
