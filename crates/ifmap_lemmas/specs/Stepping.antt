-- What a loop over a list looks at and makes, one member after another.
use Rattle.std.proofs.Common.{◌≡◌, ◌∙◌, sym, ap, subst, ℕ, suc, ◌+◌, ◌<◌, Bool, true, false, cond, Option, List, [], ◌∷◌, ◌++◌, map, length, get_or}
use Rattle.std.proofs.Common.{take, drop, drop-cons, append_assoc, add-one, arith}
use Rattle.std.proofs.Math.Seq.{take-suc}
use Rattle.std.proofs.lemmas.List.{append-nil, get_or-map, length-map}
use Rattle.std.proofs.lemmas.List.Elements.{filter_more, filter_map-append}
use Rattle.std.specs.List.{AllByRecursion, cons_option, filter, filter_map}
use Rattle.ifmap_lemmas.specs.Filters.{all_at}

-- some member of a list that has a place
pub some_in : {X : Type 0} (xs : List X) (i : ℕ) → i < length xs → X
some_in [] i h = absurd (omega (arith, h))
some_in (x ∷ xs) i h = x

-- what holds of each member holds of the one that is read
pub member_holds : {X : Type 0} (P : X → Type 0) (xs : List X) (i : ℕ) (x : X) → i < length xs → x ≡ get_or xs i x → AllByRecursion P xs
    → P x
member_holds P xs i x low at all = subst P (sym at) (all_at P xs i x all low)

-- what is mapped at a place, and the rest
pub here_mapped : {X Y : Type 0} (f : X → Y) (xs : List X) (i : ℕ) (d : X) → i < length xs
    → drop i (map f xs) ≡ f (get_or xs i d) ∷ drop (i + 1) (map f xs)
here_mapped f xs i d h =
    drop-cons (map f xs) i (f d) (omega (arith, h, length-map xs f)) ∙ ap (λ y. y ∷ drop (suc i) (map f xs)) (get_or-map f xs i d (f d) h)
    ∙ ap (λ n. f (get_or xs i d) ∷ drop n (map f xs)) (sym (add-one i))

-- what is kept of a list by a test
module _ {X : Type 0} (p : X → Bool) (xs : List X) (i : ℕ) (x : X) (low : i < length xs) (at : x ≡ get_or xs i x) where
  filtered_more : filter p (take (i + 1) xs) ≡ filter p (take i xs) ++ cond (p x) (x ∷ []) []
  filtered_more = subst (λ y. filter p (take (i + 1) xs) ≡ filter p (take i xs) ++ filter p (y ∷ [])) (sym at) (filter_more p xs i x low)

  pub kept_more : (made : List X) → made ≡ filter p (take i xs) → p x ≡ true → made ++ x ∷ [] ≡ filter p (take (i + 1) xs)
  kept_more made so t = ap (λ l. l ++ x ∷ []) so ∙ sym (filtered_more ∙ ap (λ b. filter p (take i xs) ++ cond b (x ∷ []) []) t)

  pub passed_more : (made : List X) → made ≡ filter p (take i xs) → p x ≡ false → made ≡ filter p (take (i + 1) xs)
  passed_more made so t =
      so ∙ sym (filtered_more ∙ ap (λ b. filter p (take i xs) ++ cond b (x ∷ []) []) t ∙ append-nil (filter p (take i xs)))

-- what is found at its members
module _ {X Y : Type 0} (pick : X → Option Y) (d : X) where
  -- one place more is looked at
  pub picked_more : (xs : List X) (i : ℕ) → i < length xs → filter_map pick (take (suc i) xs) ≡ filter_map pick (take i xs) ++ cons_option
      (pick (get_or xs i d)) []
  picked_more xs i h =
      ap (filter_map pick) (take-suc xs i d h) ∙ filter_map-append pick (take i xs) (get_or xs i d ∷ [])

  -- and so a list grows by what is found there
  pub found_more : (xs : List X) (i : ℕ) (first before after : List Y) → i < length xs → before ≡ first ++ filter_map pick (take i xs)
      → after ≡ before ++ cons_option (pick (get_or xs i d)) [] → after ≡ first ++ filter_map pick (take (i + 1) xs)
  found_more xs i first before after h b a =
      a ∙ ap (λ l. l ++ cons_option (pick (get_or xs i d)) []) b
      ∙ append_assoc first (filter_map pick (take i xs)) (cons_option (pick (get_or xs i d)) [])
      ∙ ap (λ l. first ++ l) (sym (picked_more xs i h) ∙ ap (λ n. filter_map pick (take n xs)) (sym (add-one i)))
