-- Where the subscription of a name stands among those that stand in order.
-- 1. The order of what is kept is that of what it stands for, by serial and name (`kept_rising`),
--    and the code's comparison tells the name (`named_is`).
-- 2. Where a search ends: at one of the name (`place_found`), or where none stands (`place_none`)
--    and one may be put (`place_gap`).
-- 3. One of the name is taken out, and no other (`removed_named`).
-- 4. One more is put in, beside the others that stand (`put_at`, `all_stands`).
use Rattle.std.proofs.Common.{rules, ◌≡◌, refl, sym, ◌∙◌, ap, subst, ℕ, zero, suc, ◌<◌, ◌==◌, ◌&&◌, true, false, not, cond, List, [], ◌∷◌, ◌++◌, length, map, Some, Option, option_to_list, take, drop, take-append-drop, Result, Ok, Err, IfOk, IfErr, OnErr, Ordering, inl, inr, nat_cmp, is_eq}
use Rattle.std.proofs.lemmas.Bool.{and_parts, cases_Bool, eqb-true}
use Rattle.std.proofs.lemmas.Cmp.{tied_itself}
use Rattle.std.proofs.lemmas.List.{map-append}
use Rattle.std.proofs.lemmas.Option.{get_or_from_slice_get, none-some, same_Some, slice_get_within}
use Rattle.std.specs.Cmp.{IsTotalOrder, tied_then}
use Rattle.std.specs.Cmp.Lexicographic.{slice_cmp, texts_ties}
use Rattle.std.specs.Cmp.Rules.{comparing}
use Rattle.std.specs.List.{AllByRecursion, filter, insert, list_any, remove, slice_get}
use Rattle.std.specs.List.Sorted.{IsBinarySearchResult, IsSearchInRange, IsStrictlySortedBy}
use Rattle.std.specs.Ordering.{is_gt, is_lt, on, ordering_then, then_cmp}
use Rattle.std.specs.declared.cmp.Ordering.TheVariants.{Less, Equal}
use Rattle.ifmap_lemmas.specs.AnyOf.{any_same}
use Rattle.ifmap_lemmas.specs.Filters.{all_at, all_weaker, filter_all, map_filter}
use Rattle.ifmap_lemmas.specs.Fronts.{there_is}
use Rattle.ifmap_lemmas.specs.Members.{all_both, all_of_map, both_all}
use Rattle.ifmap_lemmas.specs.Numbers.{equal_by_order}
use Rattle.ifmap_changes.specs.ifmap_machine.State.{standing_order}
use Rattle.ifmap_changes.specs.ifmap_machine.Subscribing.{is_of_name}
use Rattle.ifmap_changes.specs.ifmap_plans.Placing.{put}
use Rattle.ifmap_changes.specs.ifmap_plans.laws.PlacingLaws.{gap_is_put, gap_none}
use Rattle.ifmap_changes.specs.ifmap_session.Sessions.{is_same_text}
use Rattle.ifmap_changes.specs.ifmap_session.laws.TextLaws.{text_is}
use Rattle.ifmap_changes.specs.ifmap_standing.declared.standing.Standing.{Standing}
use Rattle.ifmap_changes.specs.ifmap_standing.Standing.{standing_of}
use Rattle.ifmap_subscribes.specs.Renamings.{StandsAmong, order_to_name}

-- ---- the order

abbrev kept_order : Standing → Standing → Ordering
kept_order = then_cmp (on (λ (x : Standing). x.serial) nat_cmp) (on (λ (x : Standing). x.name) (slice_cmp nat_cmp))

kept_total : IsTotalOrder kept_order
kept_total = search (comparing, rules)

kept_rising : (xs : List Standing) → IsStrictlySortedBy standing_order (map standing_of xs) → IsStrictlySortedBy kept_order xs
unfolding IsStrictlySortedBy
kept_rising [] up = tt
kept_rising (x ∷ xs) up = (all_of_map (λ y. standing_order (standing_of x) y ≡ Less) standing_of xs up.0, kept_rising xs up.1)

shown_put : (x : Standing) (xs : List Standing)
    → map standing_of (put kept_order x xs) ≡ put standing_order (standing_of x) (map standing_of xs)
shown_put x xs =
    let less = map_filter standing_of (λ y. is_lt (standing_order y (standing_of x))) xs in
    let more = map_filter standing_of (λ y. is_gt (standing_order y (standing_of x))) xs in
    map-append standing_of (filter (λ y. is_lt (kept_order y x)) xs) (x ∷ filter (λ y. is_gt (kept_order y x)) xs)
    ∙ ap (λ t. t ++ standing_of x ∷ map standing_of (filter (λ y. is_gt (kept_order y x)) xs)) less
    ∙ ap (λ t. filter (λ y. is_lt (standing_order y (standing_of x))) (map standing_of xs) ++ standing_of x ∷ t) more

pub named_is : (serial : ℕ) (name : List ℕ) (x : Standing) → is_of_name serial name (standing_of x) ≡ is_eq (order_to_name serial name x)
named_is serial name x =
    ap (λ b. b && is_same_text x.name name) (equal_by_order x.serial serial)
    ∙ ap (λ b. is_eq (nat_cmp x.serial serial) && b) (texts_ties x.name name)
    ∙ tied_then (nat_cmp x.serial serial) (slice_cmp nat_cmp x.name name)

-- ---- where a search ends

module _ (serial : ℕ) (name : List ℕ) (xs : List Standing) where
  pub place_found : (r : Result ℕ ℕ) → IsSearchInRange r (length xs) → IsBinarySearchResult (order_to_name serial name) xs r
      → IfOk r (λ at. (x : Standing) × (slice_get xs at ≡ Some x) × (is_of_name serial name (standing_of x) ≡ true))
  place_found (Ok i) within is =
      let there = there_is xs i within in
      let equal : order_to_name serial name there.0 ≡ Equal =
      subst (λ y. order_to_name serial name y ≡ Equal) (get_or_from_slice_get xs i there.0 there.0 there.1) (is there.0) in
      (there.0, there.1, named_is serial name there.0 ∙ ap is_eq equal)
  place_found (Err i) within is = tt

  pub place_none : IsStrictlySortedBy standing_order (map standing_of xs) → (r : Result ℕ ℕ) → IsSearchInRange r (length xs)
      → IsBinarySearchResult (order_to_name serial name) xs r → OnErr r (list_any (λ x. is_of_name serial name (standing_of x)) xs ≡ false)
  place_none up (Ok i) within is = tt
  place_none up (Err i) within is = none xs refl
    where
      none : (ys : List Standing) → ys ≡ xs → list_any (λ x. is_of_name serial name (standing_of x)) xs ≡ false
      none [] same = ap (list_any (λ x. is_of_name serial name (standing_of x))) (sym same)
      none (y ∷ ys) same =
          let key : Standing = record y { serial = serial; name = name } in
          any_same (λ x. is_of_name serial name (standing_of x)) (λ x. is_eq (order_to_name serial name x)) (named_is serial name) xs
          ∙ gap_none Standing kept_order kept_total key xs i (kept_rising xs up) within is

  pub place_gap : IsStrictlySortedBy standing_order (map standing_of xs) → (r : Result ℕ ℕ) → IsSearchInRange r (length xs)
      → IsBinarySearchResult (order_to_name serial name) xs r
      → IfErr r (λ at. (x : Standing) → x.serial ≡ serial → x.name ≡ name
      → map standing_of (insert xs at x) ≡ put standing_order (standing_of x) (map standing_of xs))
  place_gap up (Ok i) within is = tt
  place_gap up (Err i) within is = λ x s n.
      let of_x : IsBinarySearchResult (order_to_name x.serial x.name) xs (Err i) =
      subst (λ m. IsBinarySearchResult (order_to_name m x.name) xs (Err i)) (sym s)
      (subst (λ m. IsBinarySearchResult (order_to_name serial m) xs (Err i)) (sym n) is) in
      ap (map standing_of) (gap_is_put Standing kept_order kept_total x xs i (kept_rising xs up) within of_x).1 ∙ shown_put x xs

-- ---- one that stands is taken out, or one more is put in

same_name : (serial : ℕ) (name : List ℕ) (x : Standing) → is_of_name serial name (standing_of x) ≡ true
    → (x.serial ≡ serial) × (x.name ≡ name)
same_name serial name x is =
    let parts = and_parts (x.serial == serial) (is_same_text x.name name) is in
    (eqb-true x.serial serial parts.0, text_is x.name name parts.1)

-- two of one name are not one before the other
not_before : (serial : ℕ) (name : List ℕ) (x y : Standing) → is_of_name serial name (standing_of x) ≡ true
    → is_of_name serial name (standing_of y) ≡ true → kept_order x y ≡ Less → ⊥
not_before serial name x y one other less =
    let a = same_name serial name x one in
    let b = same_name serial name y other in
    let serials : y.serial ≡ x.serial = b.0 ∙ sym a.0 in
    let names : y.name ≡ x.name = b.1 ∙ sym a.1 in
    let itself : kept_order x y ≡ kept_order x x =
    ap (λ n. ordering_then (nat_cmp x.serial n) (slice_cmp nat_cmp x.name y.name)) serials
    ∙ ap (λ m. ordering_then (nat_cmp x.serial x.serial) (slice_cmp nat_cmp x.name m)) names in
    let bad : Equal ≡ Less = sym (tied_itself kept_total x) ∙ sym itself ∙ less in
    cc

module _ (serial : ℕ) (name : List ℕ) where
  others_named : (x y : Standing) → is_of_name serial name (standing_of x) ≡ true → kept_order x y ≡ Less
      → is_of_name serial name (standing_of y) ≡ false
  others_named x y one less = elim (cases_Bool (is_of_name serial name (standing_of y))) [
    | inl hit ↦ absurd (not_before serial name x y one hit less)
    | inr miss ↦ miss
  ]

  first_named : (x y : Standing) → is_of_name serial name (standing_of y) ≡ true → kept_order x y ≡ Less
      → is_of_name serial name (standing_of x) ≡ false
  first_named x y one less = elim (cases_Bool (is_of_name serial name (standing_of x))) [
    | inl hit ↦ absurd (not_before serial name x y hit one less)
    | inr miss ↦ miss
  ]

  kept_named : (xs : List Standing) (i : ℕ) (x : Standing) → IsStrictlySortedBy kept_order xs → slice_get xs i ≡ Some x
      → is_of_name serial name (standing_of x) ≡ true → remove xs i ≡ filter (λ y. not (is_of_name serial name (standing_of y))) xs
  unfolding IsStrictlySortedBy
  kept_named [] i x up e is = absurd (none-some x e)
  kept_named (y ∷ ys) zero x up e is =
      let same : y ≡ x = same_Some y x e in
      let hit : is_of_name serial name (standing_of y) ≡ true = subst (λ z. is_of_name serial name (standing_of z) ≡ true) (sym same) is in
      let rest : filter (λ z. not (is_of_name serial name (standing_of z))) ys ≡ ys =
      filter_all (λ z. not (is_of_name serial name (standing_of z))) ys
      (all_weaker (λ z. kept_order y z ≡ Less) (λ z. not (is_of_name serial name (standing_of z)) ≡ true)
      (λ z less. ap not (others_named y z hit less)) ys up.0) in
      sym (ap (λ b. cond (not b) (y ∷ filter (λ z. not (is_of_name serial name (standing_of z))) ys)
      (filter (λ z. not (is_of_name serial name (standing_of z))) ys)) hit ∙ rest)
  kept_named (y ∷ ys) (suc i) x up e is =
      let low : i < length ys = slice_get_within ys i x e in
      let less : kept_order y x ≡ Less =
      subst (λ z. kept_order y z ≡ Less) (get_or_from_slice_get ys i x y e) (all_at (λ z. kept_order y z ≡ Less) ys i y up.0 low) in
      let miss = first_named y x is less in
      ap (λ t. y ∷ t) (kept_named ys i x up.1 e is)
      ∙ sym (ap (λ b. cond (not b) (y ∷ filter (λ z. not (is_of_name serial name (standing_of z))) ys)
      (filter (λ z. not (is_of_name serial name (standing_of z))) ys)) miss)

  -- where one of the name stands, it alone is taken out
  pub removed_named : (xs : List Standing) (i : ℕ) → IsStrictlySortedBy standing_order (map standing_of xs)
      → (x : Standing) × (slice_get xs i ≡ Some x) × (is_of_name serial name (standing_of x) ≡ true)
      → remove xs i ≡ filter (λ y. not (is_of_name serial name (standing_of y))) xs
  removed_named xs i up there = kept_named xs i there.0 (kept_rising xs up) there.1 there.2

-- where one more stands
pub put_at : (xs ys : List Standing) (i : ℕ) (x : Standing) → ys ≡ insert xs i x → StandsAmong (Some x) xs ys
put_at xs ys i x is = (take i xs, drop i xs, sym (take-append-drop i xs), is)

pub all_stands : (P : Standing → Type 0) (begun : Option Standing) (old new more : List Standing) → StandsAmong begun old new
    → AllByRecursion P (old ++ (option_to_list begun ++ more)) → AllByRecursion P (new ++ more)
all_stands P begun old new more among all =
    let parts = all_both P old (option_to_list begun ++ more) all in
    let rest = all_both P (option_to_list begun) more parts.1 in
    let sides = all_both P among.0 among.1 (subst (AllByRecursion P) among.2 parts.0) in
    both_all P new more
    (subst (AllByRecursion P) (sym among.3) (both_all P among.0 (option_to_list begun ++ among.1) sides.0
    (both_all P (option_to_list begun) among.1 rest.0 sides.1))) rest.1
