-- Lists beside flags: what more flags leave (`kept_flagged`, `kept_made`), and what is made of each that stands where none is
-- (`queued_made`, `skip_made`).
use Rattle.std.proofs.Common.{◌≡◌, inl, inr, ℕ, zero, suc, ◌+◌, Bool, true, false, not, ◌||◌, Some, List, [], ◌∷◌, ◌++◌, map, flat_map, slice_get, refl, ap, ◌∙◌, subst}
use Rattle.std.proofs.lemmas.Bool.{cases_Bool}
use Rattle.std.proofs.lemmas.Option.{same_Some, none-some}
use Rattle.std.specs.List.{filter, zip}
use Rattle.ifmap_tellings.specs.Tellings.{kept_items}

-- ---- what stands where no flag is

-- flags more where a test passes
pub kept_flagged : {X : Type 0} (test : X → Bool) (gone : List Bool) (xs : List X)
    → kept_items (map (λ (p : Bool × X). p.0 || test p.1) (zip gone xs)) xs ≡ filter (λ x. not (test x)) (kept_items gone xs)
kept_flagged test [] xs = refl
kept_flagged test (g ∷ gone) [] = refl
kept_flagged test (true ∷ gone) (x ∷ xs) = kept_flagged test gone xs
kept_flagged test (false ∷ gone) (x ∷ xs) = elim (cases_Bool (test x)) [
  | inl t ↦ rw t (kept_flagged test gone xs)
  | inr t ↦ rw t (ap (λ ys. x ∷ ys) (kept_flagged test gone xs))
]

-- ---- what is made of each, by its flag

module _ {Y N : Type 0} (make : Bool → Y → N) where
  abbrev pub made_of : List Bool → List Y → List N
  made_of gone ys = map (λ (p : Bool × Y). make p.0 p.1) (zip gone ys)

  -- flags more where what was made without one passes a test
  pub kept_made : (flag : N → Bool) (test : Y → Bool) → ((y : Y) → flag (make false y) ≡ test y) → (gone : List Bool) (ys : List Y)
      → kept_items (map (λ (p : Bool × N). p.0 || flag p.1) (zip gone (made_of gone ys))) ys
      ≡ filter (λ y. not (test y)) (kept_items gone ys)
  kept_made flag test is [] ys = refl
  kept_made flag test is (g ∷ gone) [] = refl
  kept_made flag test is (true ∷ gone) (y ∷ ys) = kept_made flag test is gone ys
  kept_made flag test is (false ∷ gone) (y ∷ ys) = elim (cases_Bool (test y)) [
    | inl t ↦ let f : flag (make false y) ≡ true = is y ∙ t in rw (f, t) (kept_made flag test is gone ys)
    | inr t ↦ let f : flag (make false y) ≡ false = is y ∙ t in rw (f, t) (ap (λ zs. y ∷ zs) (kept_made flag test is gone ys))
  ]

  module _ {Z : Type 0} (items : N → List Z) (none : (y : Y) → items (make true y) ≡ []) where
    -- what there is of those that pass a test is of those without a flag
    pub queued_made : (told : Y → List Z) → ((y : Y) → items (make false y) ≡ told y) → (q : Y → Bool) (gone : List Bool) (ys : List Y)
        → flat_map (λ (p : Y × N). items p.1) (filter (λ (p : Y × N). q p.0) (zip ys (made_of gone ys)))
        ≡ flat_map told (filter q (kept_items gone ys))
    queued_made told is q [] [] = refl
    queued_made told is q [] (y ∷ ys) = refl
    queued_made told is q (g ∷ gone) [] = refl
    queued_made told is q (true ∷ gone) (y ∷ ys) =
        let rest = queued_made told is q gone ys in elim (cases_Bool (q y)) [
          | inl t ↦ rw (t, none y) rest
          | inr t ↦ rw t rest
        ]
    queued_made told is q (false ∷ gone) (y ∷ ys) =
        let rest = queued_made told is q gone ys in elim (cases_Bool (q y)) [
          | inl t ↦ rw (t, is y) (ap (λ zs. told y ++ zs) rest)
          | inr t ↦ rw t rest
        ]

    pub skip_made : (gone : List Bool) (ys : List Y) (i : ℕ) (one : N) → slice_get gone i ≡ Some true
        → slice_get (made_of gone ys) i ≡ Some one → items one ≡ []
    skip_made [] ys i one e f = absurd (none-some true e)
    skip_made (g ∷ gone) [] i one e f = absurd (none-some one f)
    skip_made (true ∷ gone) (y ∷ ys) zero one e f = subst (λ n. items n ≡ []) (same_Some (make true y) one f) (none y)
    skip_made (false ∷ gone) (y ∷ ys) zero one e f = let wrong : false ≡ true = same_Some false true e in cc
    skip_made (g ∷ gone) (y ∷ ys) (suc i) one e f = skip_made gone ys i one e f
