-- Where two readings of the same bytes cut them: at the same place, if each stops where a test or a word says so.
use Rattle.std.proofs.Common.{◌≡◌, ◌≢◌, ℕ, suc, ◌<◌, Bool, true, false, List, [], ◌∷◌, ◌++◌, length, get_or, refl, sym, ◌∙◌, subst, arith}
use Rattle.std.specs.List.{AllByRecursion}

-- the first, if there is one, fails the test
abbrev pub Stops : {X : Type 0} → (X → Bool) → List X → Type 0
Stops p [] = Unit {0}
Stops p (b ∷ bs) = p b ≡ false

pub one_cut : {X : Type 0} (p : X → Bool) (a b r s : List X) → AllByRecursion (λ n. p n ≡ true) a → AllByRecursion (λ n. p n ≡ true) b
    → Stops p r → Stops p s → a ++ r ≡ b ++ s → (a ≡ b) × (r ≡ s)
one_cut p [] [] r s f g stop also e = (refl, e)
one_cut p [] (y ∷ ys) r s f g stop also e = let h : p y ≡ false = subst (Stops p) e stop in let q : true ≡ false = sym g.0 ∙ h in cc
one_cut p (x ∷ xs) [] r s f g stop also e = let h : p x ≡ false = subst (Stops p) (sym e) also in let q : true ≡ false = sym f.0 ∙ h in cc
one_cut p (x ∷ xs) (y ∷ ys) r s f g stop also e =
    let head : x ≡ y = cc in
    let tail : xs ++ r ≡ ys ++ s = cc in
    let both = one_cut p xs ys r s f.1 g.1 stop also tail in
    let same : xs ≡ ys = both.0 in
    (cc, both.1)

-- what all passes stops what nothing of it passes
pub front_stops : {X : Type 0} (p q : X → Bool) → ((b : X) → p b ≡ true → q b ≡ false) → (a r : List X) → a ≢ []
    → AllByRecursion (λ n. p n ≡ true) a → Stops q (a ++ r)
front_stops p q apart [] r some f = absurd (some refl)
front_stops p q apart (x ∷ xs) r some f = apart x f.0

-- what stands before the first of a byte is told by the whole
pub same_before : (h : ℕ) (a b r s : List ℕ) → ((i : ℕ) → i < length a → get_or a i 0 ≢ h) → ((i : ℕ) → i < length b → get_or b i 0 ≢ h)
    → a ++ h ∷ r ≡ b ++ h ∷ s → a ≡ b
same_before h [] [] r s na nb e = refl
same_before h [] (y ∷ b) r s na nb e = let same : y ≡ h = cc e in absurd (nb 0 (omega arith) same)
same_before h (x ∷ a) [] r s na nb e = let same : x ≡ h = cc e in absurd (na 0 (omega arith) same)
same_before h (x ∷ a) (y ∷ b) r s na nb e =
    let same : x ≡ y = cc e in
    let rest : a ++ h ∷ r ≡ b ++ h ∷ s = cc e in
    let tail = same_before h a b r s (λ i lt. na (suc i) (omega (arith, lt))) (λ i lt. nb (suc i) (omega (arith, lt))) rest in
    cc (same, tail)
