-- What flags beside a list leave of it: one step of a walk along both lists, and a list that is kept in place.
use Rattle.std.proofs.Common.{◌≡◌, sym, ◌∙◌, ap, ℕ, zero, suc, ◌+◌, ◌<◌, ◌≤◌, Bool, true, false, not, cond, List, [], ◌∷◌, ◌++◌, drop, get_or, length, map, set, take, append-nil, add-one, arith}
use Rattle.std.proofs.lemmas.List.{drop_more, drop-set-lt, length-set, take-set-le, take_more}
use Rattle.std.specs.List.{SwappedAt, filter, zip}

-- what stands at the places where no flag is
abbrev pub kept_items : {X : Type 0} → List Bool → List X → List X
kept_items gone xs = map (λ p. p.1) (filter (λ p. not p.0) (zip gone xs))

module _ {X : Type 0} where
  -- one step further along both lists
  pub kept_next : (gone : List Bool) (xs : List X) (i : ℕ) (g : Bool) (d : X) → i < length gone → i < length xs → get_or gone i false ≡ g
      → kept_items (take (suc i) gone) (take (suc i) xs) ≡ kept_items (take i gone) (take i xs) ++ cond g [] (get_or xs i d ∷ [])
  kept_next [] xs i g d a b e = absurd (omega (arith, a))
  kept_next (h ∷ gone) [] i g d a b e = absurd (omega (arith, b))
  kept_next (true ∷ gone) (y ∷ xs) zero g d a b e = ap (λ (t : Bool). cond t [] (y ∷ [])) e
  kept_next (false ∷ gone) (y ∷ xs) zero g d a b e = ap (λ (t : Bool). cond t [] (y ∷ [])) e
  kept_next (true ∷ gone) (y ∷ xs) (suc i) g d a b e = kept_next gone xs i g d (omega (arith, a)) (omega (arith, b)) e
  kept_next (false ∷ gone) (y ∷ xs) (suc i) g d a b e =
      ap (λ t. y ∷ t) (kept_next gone xs i g d (omega (arith, a)) (omega (arith, b)) e)

-- ys began as xs. What is left of the first i of xs stands in the first k places of ys, and from i on ys is as it was
pub record KeptInPlace {X : Type 0} (gone : List Bool) (xs ys : List X) (k i : ℕ) : Type 0 where
  pub front : take k ys ≡ kept_items (take i gone) (take i xs)
  pub rest : drop i ys ≡ drop i xs
  pub few : k ≤ i
  pub within : i ≤ length gone
  pub flags : length gone ≡ length xs
  pub long : length ys ≡ length xs

module _ {X : Type 0} (gone : List Bool) (xs ys : List X) (k i : ℕ) (h : KeptInPlace gone xs ys k i) where
  both : (d : X) → i < length gone → get_or ys i d ∷ drop (i + 1) ys ≡ get_or xs i d ∷ drop (i + 1) xs
  both d lt =
      let flags = h.flags in
      let long = h.long in
      sym (drop_more ys i d (omega (arith, lt, flags, long))) ∙ h.rest ∙ drop_more xs i d (omega (arith, lt, flags))

  next : (g : Bool) (d : X) → i < length gone → get_or gone i false ≡ g
      → kept_items (take (i + 1) gone) (take (i + 1) xs) ≡ take k ys ++ cond g [] (get_or ys i d ∷ [])
  next g d lt e =
      let flags = h.flags in
      let same : get_or ys i d ≡ get_or xs i d = ap (λ l. get_or l 0 d) (both d lt) in
      rw (add-one i) (kept_next gone xs i g d lt (omega (arith, lt, flags)) e)
      ∙ ap (λ t. t ++ cond g [] (get_or xs i d ∷ [])) (sym h.front) ∙ ap (λ x. take k ys ++ cond g [] (x ∷ [])) (sym same)

  passed : (d : X) → i < length gone → get_or gone i false ≡ true → KeptInPlace gone xs ys k (i + 1)
  passed d lt e =
      let few = h.few in record {
        front = sym (next true d lt e ∙ append-nil (take k ys));
        rest = ap (drop 1) (both d lt);
        few = omega (arith, few);
        within = omega (arith, lt);
        flags = h.flags;
        long = h.long;
      }

  moved : (zs : List X) (d : X) → i < length gone → get_or gone i false ≡ false → SwappedAt ys zs k i
      → KeptInPlace gone xs zs (k + 1) (i + 1)
  moved zs d lt e s =
      let flags = h.flags in
      let long = h.long in
      let few = h.few in
      let u : X = get_or ys i d in
      let v : X = get_or ys k d in
      let is : zs ≡ set (set ys k u) i v = s.3 d in
      let same_length : length zs ≡ length ys = ap length is ∙ length-set (set ys k u) i v ∙ length-set ys k u in
      let front : take k zs ≡ take k ys =
      ap (take k) is ∙ take-set-le k (set ys k u) i v few ∙ take-set-le k ys k u (omega arith) in
      let tail : drop (i + 1) zs ≡ drop (i + 1) ys =
      ap (drop (i + 1)) is ∙ drop-set-lt (i + 1) (set ys k u) i v (omega arith) ∙ drop-set-lt (i + 1) ys k u (omega (arith, few)) in
      record {
        front = take_more zs k d (omega (arith, same_length, long, flags, few, lt)) ∙ ap (λ t. t ++ get_or zs k d ∷ []) front
            ∙ ap (λ x. take k ys ++ x ∷ []) (s.0 d) ∙ sym (next false d lt e);
        rest = tail ∙ ap (drop 1) (both d lt);
        few = omega (arith, few);
        within = omega (arith, lt);
        flags = flags;
        long = same_length ∙ long;
      }

-- what is next is gone
pub kept_passed : {X : Type 0} (gone : List Bool) (xs ys : List X) (k i : ℕ) → KeptInPlace gone xs ys k i → i < length gone
    → get_or gone i false ≡ true → KeptInPlace gone xs ys k (i + 1)
kept_passed gone [] ys k i h lt e = let flags = h.flags in absurd (omega (arith, lt, flags))
kept_passed gone (d ∷ xs) ys k i h lt e = passed gone (d ∷ xs) ys k i h d lt e

-- what is next stays, and changes places with the first of those that were passed
pub kept_moved : {X : Type 0} (gone : List Bool) (xs ys zs : List X) (k i : ℕ) → KeptInPlace gone xs ys k i → i < length gone
    → get_or gone i false ≡ false → SwappedAt ys zs k i → KeptInPlace gone xs zs (k + 1) (i + 1)
kept_moved gone [] ys zs k i h lt e s = let flags = h.flags in absurd (omega (arith, lt, flags))
kept_moved gone (d ∷ xs) ys zs k i h lt e s = moved gone (d ∷ xs) ys k i h zs d lt e s
