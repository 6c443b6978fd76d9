-- The starts of subscriptions that are gone are let go of, one after the other.
use Rattle.std.proofs.Common.{◌≡◌, refl, sym, ◌∙◌, ap, subst, ℕ, zero, suc, ◌+◌, ◌<◌, ◌≤◌, Bool, true, false, cond, List, [], ◌∷◌, ◌++◌, drop, get_or, length, take, append-nil, append_assoc, add-one, arith}
use Rattle.std.proofs.lemmas.List.{drop_all, drop_more, take_all}
use Rattle.ifmap_subscribes.specs.ifmap_changes.Between.{IsSteady}
use Rattle.ifmap_lemmas.specs.Keeping.{kept_next}
use Rattle.ifmap_core.proofs.Steady.{steady_front}
use Rattle.ifmap_subscribes.specs.ifmap_graph.Inside.{GraphInside}
use Rattle.ifmap_subscribes.specs.ifmap_graph.Seen.{BringsNoNumbers}
use Rattle.ifmap_subscribes.specs.ifmap_standing.declared.standing.Standing.{Standing}
use Rattle.ifmap_subscribes.specs.Renamings.{KeepsNumbered}
use Rattle.ifmap_subscribes.specs.ifmap_tellings.Tellings.{kept_items}

-- of the first i those that are not gone hold their starts still, and so do all that are to come
abbrev pub ReleasesSoFar : List Bool → List Standing → ℕ → GraphInside → GraphInside → Type 0
ReleasesSoFar gone xs i old new =
    (more : List Standing) → IsSteady old (xs ++ more) → IsSteady new (kept_items (take i gone) (take i xs) ++ (drop i xs ++ more))

module _ (gone : List Bool) (xs : List Standing) (i : ℕ) (flags : length gone ≡ length xs) (lt : i < length xs) where
  next : (x : Standing) (g : Bool) → get_or gone i false ≡ g → get_or xs i x ≡ x
      → kept_items (take (i + 1) gone) (take (i + 1) xs) ≡ kept_items (take i gone) (take i xs) ++ cond g [] (x ∷ [])
  next x g e is =
      rw (add-one i) (kept_next gone xs i g x (omega (arith, flags, lt)) lt e)
      ∙ ap (λ y. kept_items (take i gone) (take i xs) ++ cond g [] (y ∷ [])) is

  here : (x : Standing) (more : List Standing) → get_or xs i x ≡ x → drop i xs ++ more ≡ x ∷ (drop (i + 1) xs ++ more)
  here x more is = ap (λ t. t ++ more) (drop_more xs i x lt ∙ ap (λ y. y ∷ drop (i + 1) xs) is)

  -- what is next, before all others
  pub next_first : (x : Standing) (old mid : GraphInside) → get_or xs i x ≡ x → ReleasesSoFar gone xs i old mid → (more : List Standing)
      → IsSteady old (xs ++ more) → IsSteady mid (x ∷ (kept_items (take i gone) (take i xs) ++ (drop (i + 1) xs ++ more)))
  next_first x old mid is so more s =
      steady_front mid (kept_items (take i gone) (take i xs)) x (drop (i + 1) xs ++ more)
      (subst (λ t. IsSteady mid (kept_items (take i gone) (take i xs) ++ t)) (here x more is) (so more s))

  pub released_next : (x : Standing) (old mid new : GraphInside) → get_or xs i x ≡ x → get_or gone i false ≡ true
      → ReleasesSoFar gone xs i old mid → ((more : List Standing) → IsSteady mid (x ∷ more) → IsSteady new more)
      → ReleasesSoFar gone xs (i + 1) old new
  released_next x old mid new is e so goes = λ more s.
      subst (λ t. IsSteady new (t ++ (drop (i + 1) xs ++ more)))
      (sym (next x true e is ∙ append-nil (kept_items (take i gone) (take i xs))))
      (goes (kept_items (take i gone) (take i xs) ++ (drop (i + 1) xs ++ more)) (next_first x old mid is so more s))

  stays_next : (x : Standing) (old mid : GraphInside) → get_or xs i x ≡ x → get_or gone i false ≡ false → ReleasesSoFar gone xs i old mid
      → ReleasesSoFar gone xs (i + 1) old mid
  stays_next x old mid is e so = λ more s.
      let kept : List Standing = kept_items (take i gone) (take i xs) in
      subst (λ t. IsSteady mid t)
      (ap (λ t. kept ++ t) (here x more is) ∙ sym (append_assoc kept (x ∷ []) (drop (i + 1) xs ++ more))
      ∙ ap (λ t. t ++ (drop (i + 1) xs ++ more)) (sym (next x false e is))) (so more s)

pub stayed_next : (gone : List Bool) (xs : List Standing) (i : ℕ) (old mid : GraphInside) → length gone ≡ length xs → i < length xs
    → get_or gone i false ≡ false → ReleasesSoFar gone xs i old mid → ReleasesSoFar gone xs (i + 1) old mid
stayed_next gone [] i old mid flags lt e so = absurd (omega (arith, lt))
stayed_next gone (d ∷ xs) i old mid flags lt e so =
    let all : List Standing = d ∷ xs in
    stays_next gone all i flags lt (get_or all i d) old mid (get_or_itself all i d) e so
  where
    get_or_itself : (ys : List Standing) (j : ℕ) (y : Standing) → get_or ys j (get_or ys j y) ≡ get_or ys j y
    get_or_itself [] j y = refl
    get_or_itself (z ∷ ys) zero y = refl
    get_or_itself (z ∷ ys) (suc j) y = get_or_itself ys j y

pub released_all : (gone : List Bool) (xs : List Standing) (i : ℕ) (old new : GraphInside) → length gone ≡ length xs → length xs ≤ i
    → ReleasesSoFar gone xs i old new → (more : List Standing) → IsSteady old (xs ++ more) → IsSteady new (kept_items gone xs ++ more)
released_all gone xs i old new flags le so = λ more s.
    subst (λ t. IsSteady new t)
    (ap (λ t. kept_items (take i gone) (take i xs) ++ (t ++ more)) (drop_all i xs le)
    ∙ ap (λ (t : List Bool). kept_items t (take i xs) ++ more) (take_all i gone (omega (arith, flags, le)))
    ∙ ap (λ t. kept_items gone t ++ more) (take_all i xs le)) (so more s)

pub numbered_next : (old mid new : GraphInside) → KeepsNumbered old mid → KeepsNumbered mid new → BringsNoNumbers mid new
    → KeepsNumbered old new
numbered_next old mid new first then before = λ sub key kept. then sub key (first sub (before sub.region.start sub.search.start key) kept)
