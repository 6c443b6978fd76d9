-- Decisions, which never run: that something holds, or that it does not.
use Rattle.std.specs.Prelude.{◌≡◌, ◌⊎◌, ◌↔◌, ◌<◌, ℕ, zero, suc, Bool, true, false, List, [], ◌∷◌, ◌++◌, length, Option, Some, None, refl}
use Rattle.std.specs.Bool.{Decides}
use Rattle.std.specs.List.{AllByRecursion}
use Rattle.std.proofs.Common.{arith, inl, inr, subst, ◌||◌, ◌≤◌}
use Rattle.std.proofs.lemmas.Bool.{cases_lt}
use Rattle.std.proofs.lemmas.Bool.Decides.{Decides-eqb}
use Rattle.std.proofs.lemmas.Slice.Eq.{bytes_eq-Decides}

-- it holds, or it does not
abbrev pub Decided : Type 0 → Type 0
Decided P = P ⊎ (P → ⊥)

pub decided_by : {P Q : Type 0} → (P → Q) → (Q → P) → Decided P → Decided Q
decided_by f g (inl p) = inl (f p)
decided_by f g (inr fails) = inr (λ q. fails (g q))

-- a test's answer
pub decided_test : (b : Bool) → Decided (b ≡ true)
decided_test true = inl refl
decided_test false = inr (λ e. let wrong : false ≡ true = e in cc)

pub decided_from : {P : Type 0} (b : Bool) → Decides b P → Decided P
decided_from b tells = decided_by tells.0 tells.1 (decided_test b)

pub decided_both : {P Q : Type 0} → Decided P → Decided Q → Decided (P × Q)
decided_both (inl p) (inl q) = inl (p, q)
decided_both (inl p) (inr fails) = inr (λ both. fails both.1)
decided_both (inr fails) q = inr (λ both. fails both.0)

pub decided_either : {P Q : Type 0} → Decided P → Decided Q → Decided (P ⊎ Q)
decided_either (inl p) q = inl (inl p)
decided_either (inr fails) (inl q) = inl (inr q)
decided_either (inr fails) (inr none) = inr (λ one. elim one [ inl p ↦ fails p | inr q ↦ none q ])

pub decided_not : {P : Type 0} → Decided P → Decided (P → ⊥)
decided_not (inl p) = inr (λ fails. fails p)
decided_not (inr fails) = inl fails

pub decided_leads : {P Q : Type 0} → Decided P → Decided Q → Decided (P → Q)
decided_leads p (inl q) = inl (λ p. q)
decided_leads (inl p) (inr none) = inr (λ leads. none (leads p))
decided_leads (inr fails) (inr none) = inl (λ p. absurd (fails p))

pub decided_same : {P Q : Type 0} → Decided P → Decided Q → Decided (P ↔ Q)
decided_same p q = decided_both (decided_leads p q) (decided_leads q p)

-- whether each member does, where it is decided of one
pub decided_each : {X : Type 0} (P : X → Type 0) → ((x : X) → Decided (P x)) → (xs : List X) → Decided (AllByRecursion P xs)
decided_each P one [] = inl tt
decided_each P one (x ∷ xs) = decided_both (one x) (decided_each P one xs)

-- whether two numbers are equal, and two lists of numbers
pub equal_or_not : (m n : ℕ) → Decided (m ≡ n)
equal_or_not m n = decided_from _ (Decides-eqb m n)

pub same_or_not : (xs ys : List ℕ) → Decided (xs ≡ ys)
same_or_not xs ys = decided_from _ (bytes_eq-Decides xs ys)

-- whether a list begins with a word, and how it goes on
pub begins_or_not : (word xs : List ℕ) → Decided ((rest : List ℕ) × (xs ≡ word ++ rest))
begins_or_not [] xs = inl (xs, refl)
begins_or_not (w ∷ ws) [] = inr (λ b. let e : [] ≡ w ∷ (ws ++ b.0) = b.1 in cc)
begins_or_not (w ∷ ws) (x ∷ xs) = first (equal_or_not x w) (begins_or_not ws xs)
  where
    first : Decided (x ≡ w) → Decided ((rest : List ℕ) × (xs ≡ ws ++ rest)) → Decided ((rest : List ℕ) × (x ∷ xs ≡ w ∷ (ws ++ rest)))
    first (inl e) (inl b) = inl (b.0, (λ i. e i ∷ b.1 i))
    first (inl e) (inr fails) = inr (λ b. let e : x ∷ xs ≡ w ∷ (ws ++ b.0) = b.1 in let tail : xs ≡ ws ++ b.0 = cc in fails (b.0, tail))
    first (inr fails) d = inr (λ b. let e : x ∷ xs ≡ w ∷ (ws ++ b.0) = b.1 in let head : x ≡ w = cc in fails head)

-- a test's other answer
pub decided_untrue : (b : Bool) → Decided (b ≡ false)
decided_untrue true = inr (λ e. let wrong : true ≡ false = e in cc)
decided_untrue false = inl refl

-- the first number below a bound at which something holds, where that is decided at each
abbrev pub IsFirst : (ℕ → Type 0) → ℕ → Type 0
IsFirst P k = ((j : ℕ) → j < k → P j → ⊥) × P k

pub first_or_none : (P : ℕ → Type 0) → ((k : ℕ) → Decided (P k)) → (n : ℕ) → ((k : ℕ) × (k < n) × IsFirst P k) ⊎ ((k : ℕ) → k < n → P k → ⊥)
first_or_none P one zero = inr (λ k l. absurd (omega (arith, l)))
first_or_none P one (suc n) = elim (first_or_none P one n) [
  | inl f ↦ inl (f.0, omega (arith, f.1), f.2)
  | inr none ↦ elim (one n) [
    | inl p ↦ inl (n, omega arith, (none, p))
    | inr fails ↦ inr (λ k l p. elim (cases_lt k n) [
      | inl below ↦ none k below p
      | inr above ↦ let e : k ≡ n = omega (arith, l, above) in fails (subst P e p)
    ])
  ]
]

-- what holds of a list where it holds of all shorter ones holds of every list
module _ {X : Type 0} (P : List X → Type 0) (one : (xs : List X) → ((ys : List X) → length ys < length xs → P ys) → P xs) where
  below_length : (n : ℕ) (xs : List X) → length xs < n → P xs
  below_length zero xs l = absurd (omega (arith, l))
  below_length (suc n) xs l = one xs (λ ys m. below_length n ys (omega (arith, l, m)))

  pub by_length : (xs : List X) → P xs
  by_length xs = below_length (suc (length xs)) xs (omega arith)

-- an option has a value, or none
pub value_or_none : {X : Type 0} (o : Option X) → ((x : X) × (o ≡ Some x)) ⊎ (o ≡ None)
value_or_none (Some x) = inl (x, refl)
value_or_none None = inr refl

-- a list has a last member, or none
pub last_or_none : {X : Type 0} (xs : List X) → ((front : List X) × (x : X) × (xs ≡ front ++ x ∷ [])) ⊎ (xs ≡ [])
last_or_none [] = inr refl
last_or_none (x ∷ xs) = elim (last_or_none xs) [
  | inl l ↦ inl (x ∷ l.0, l.1, (λ i. x ∷ l.2 i))
  | inr e ↦ inl ([], x, (λ i. x ∷ e i))
]

-- a test of one of two parts
pub or_parts : (a b : Bool) → (a || b) ≡ false → (a ≡ false) × (b ≡ false)
or_parts false b e = (refl, e)
or_parts true b e = let q : true ≡ false = e in cc

pub within_or_not : (m n : ℕ) → Decided (m ≤ n)
within_or_not m n = elim (cases_lt n m) [ inl above ↦ inr (λ within. omega (arith, above, within)) | inr within ↦ inl within ]
