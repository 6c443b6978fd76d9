-- What is kept of subscriptions whose flags say which are gone. First of any list: whether some member passes a test that one passes at
-- most (`one_kept`, `none_kept`), and how many pass a test (`counted_more`). Then of names (`stands_at`, `stands_nowhere`) and of sessions
-- (`counted_kept`, `passed_gone`, `passed_other`).
use Rattle.std.proofs.Common.{◌≡◌, ◌≢◌, ℕ, zero, suc, ◌+◌, ◌==◌, Bool, true, false, cond, not, ◌||◌, ◌&&◌, Some, List, [], ◌∷◌, map, length, drop, get_or, ◌<◌, refl, ap, ◌∙◌, sym, arith, inl, inr}
use Rattle.std.proofs.lemmas.Bool.{and_parts, cases_Bool, eq-eqb, ne_eqb}
use Rattle.std.proofs.lemmas.Bool.Decides.{nat_tests}
use Rattle.std.proofs.lemmas.Cmp.{nat_cmp_total, nat_list_cmp_total}
use Rattle.std.proofs.lemmas.List.{drop_more}
use Rattle.std.proofs.lemmas.Option.{same_Some, none-some, slice_get-get_or, slice_get_within}
use Rattle.std.specs.Cmp.{tied_itself}
use Rattle.std.specs.Cmp.Lexicographic.{slice_cmp}
use Rattle.std.specs.List.{filter, list_any}
use Rattle.std.specs.List.Sorted.{IsStrictlySortedBy}
use Rattle.std.specs.Ordering.{nat_cmp, ordering_then}
use Rattle.std.specs.Prelude.{slice_get}
use Rattle.std.specs.declared.cmp.Ordering.{Ordering}
use Rattle.std.specs.declared.cmp.Ordering.TheVariants.{Equal, Less}
use Rattle.ifmap_lemmas.specs.AnyOf.{fails_below, none_above, none_after}
use Rattle.ifmap_changes.specs.ifmap_machine.State.{standing_in, standing_order}
use Rattle.ifmap_changes.specs.ifmap_machine.Subscribing.{is_of_name}
use Rattle.ifmap_changes.specs.ifmap_session.Sessions.{is_same_text}
use Rattle.ifmap_changes.specs.ifmap_session.laws.TextLaws.{text_is}
use Rattle.ifmap_changes.specs.ifmap_standing.Standing.{standing_of}
use Rattle.ifmap_changes.specs.ifmap_standing.declared.standing.Standing.{Standing}
use Rattle.ifmap_changes.specs.ifmap_tellings.Tellings.{kept_items}

module _ {X : Type 0} (p : X → Bool) where
  pub none_kept : (gone : List Bool) (xs : List X) → list_any p xs ≡ false → list_any p (kept_items gone xs) ≡ false
  none_kept [] xs e = refl
  none_kept (g ∷ gone) [] e = refl
  none_kept (true ∷ gone) (x ∷ xs) e = none_kept gone xs (none_after p x xs e)
  none_kept (false ∷ gone) (x ∷ xs) e = elim (cases_Bool (p x)) [
    | inl hit ↦ let q : true ≡ false = sym (rw hit refl) ∙ e in cc
    | inr miss ↦ rw miss (none_kept gone xs (none_after p x xs e))
  ]

  -- of members in a strict order no two of which pass, one passes
  module _ {K : Type 0} (order : K → K → Ordering) (key : X → K)
      (apart : (x y : X) → p x ≡ true → p y ≡ true → order (key x) (key y) ≡ Less → ⊥) where
    pub one_kept : (gone : List Bool) (xs : List X) (at : ℕ) (x : X) (g : Bool) → IsStrictlySortedBy order (map key xs)
        → slice_get xs at ≡ Some x → p x ≡ true → slice_get gone at ≡ Some g → list_any p (kept_items gone xs) ≡ not g
    unfolding IsStrictlySortedBy
    one_kept gone [] at x g rising is e flag = absurd (none-some x is)
    one_kept [] (y ∷ ys) at x g rising is e flag = absurd (none-some g flag)
    one_kept (true ∷ gone) (y ∷ ys) zero x g rising is e flag =
        none_kept gone ys (none_above p order key apart y ys (ap p (same_Some y x is) ∙ e) rising.0) ∙ ap not (same_Some true g flag)
    one_kept (false ∷ gone) (y ∷ ys) zero x g rising is e flag =
        let hit : p y ≡ true = ap p (same_Some y x is) ∙ e in rw hit (ap not (same_Some false g flag))
    one_kept (true ∷ gone) (y ∷ ys) (suc at) x g rising is e flag = one_kept gone ys at x g rising.1 is e flag
    one_kept (false ∷ gone) (y ∷ ys) (suc at) x g rising is e flag =
        let miss = fails_below p order key apart y ys at x rising.0 is e in rw miss (one_kept gone ys at x g rising.1 is e flag)

  -- one member more, which counts where it passes and is not gone
  pub counted_more : (g : Bool) (gone : List Bool) (x : X) (xs : List X)
      → length (filter p (kept_items (g ∷ gone) (x ∷ xs))) ≡ cond (p x && not g) 1 0 + length (filter p (kept_items gone xs))
  counted_more true gone x xs = elim (cases_Bool (p x)) [
    | inl hit ↦ rw hit (omega arith)
    | inr miss ↦ rw miss (omega arith)
  ]
  counted_more false gone x xs = elim (cases_Bool (p x)) [
    | inl hit ↦ rw hit (omega arith)
    | inr miss ↦ rw miss (omega arith)
  ]

-- ---- subscriptions by their names

any_shown : (serial : ℕ) (name : List ℕ) (xs : List Standing)
    → list_any (is_of_name serial name) (map standing_of xs) ≡ list_any (λ x. is_of_name serial name (standing_of x)) xs
any_shown serial name [] = refl
any_shown serial name (x ∷ xs) = ap (λ b. is_of_name serial name (standing_of x) || b) (any_shown serial name xs)

-- two subscriptions of one name of one session are in no strict order
not_below : (serial : ℕ) (name : List ℕ) (x y : Standing) → is_of_name serial name (standing_of x) ≡ true
    → is_of_name serial name (standing_of y) ≡ true → standing_order (standing_of x) (standing_of y) ≡ Less → ⊥
not_below serial name x y mine its less =
    let a = and_parts (x.serial == serial) (is_same_text x.name name) mine in
    let b = and_parts (y.serial == serial) (is_same_text y.name name) its in
    let serials : x.serial ≡ y.serial = grind (arith, nat_tests, a.0, b.0) in
    let names : x.name ≡ y.name = text_is x.name name a.1 ∙ sym (text_is y.name name b.1) in
    let order : standing_order (standing_of x) (record { serial = x.serial; name = x.name; search = y.subscription.search }) ≡ Less =
    ap (λ n. standing_order (standing_of x) (record { serial = n; name = x.name; search = y.subscription.search })) serials
    ∙ ap (λ n. standing_order (standing_of x) (record { serial = y.serial; name = n; search = y.subscription.search })) names ∙ less in
    let tied : standing_order (standing_of x) (record { serial = x.serial; name = x.name; search = y.subscription.search }) ≡ Equal =
    ap (λ o. ordering_then o (slice_cmp nat_cmp x.name x.name)) (tied_itself nat_cmp_total x.serial)
    ∙ tied_itself nat_list_cmp_total x.name in
    let bad : Less ≡ Equal = sym order ∙ tied in cc

-- where a subscription of the name stands, one does among those that are kept unless it is gone
pub stands_at : (serial : ℕ) (name : List ℕ) (gone : List Bool) (standing : List Standing) (at : ℕ) (x : Standing)
    → IsStrictlySortedBy standing_order (map standing_of standing) → length gone ≡ length standing → slice_get standing at ≡ Some x
    → is_of_name serial name (standing_of x) ≡ true
    → not (get_or gone at false) ≡ list_any (is_of_name serial name) (map standing_of (kept_items gone standing))
stands_at serial name gone standing at x rising flags is named =
    let within : at < length gone = let there = slice_get_within standing at x is in omega (arith, there, flags) in
    sym (any_shown serial name (kept_items gone standing)
    ∙ one_kept (λ y. is_of_name serial name (standing_of y)) standing_order standing_of (not_below serial name) gone standing at x
    (get_or gone at false) rising is named (slice_get-get_or gone at false within))

-- where none stands, none does among those that are kept
pub stands_nowhere : (serial : ℕ) (name : List ℕ) (gone : List Bool) (standing : List Standing)
    → list_any (λ x. is_of_name serial name (standing_of x)) standing ≡ false
    → false ≡ list_any (is_of_name serial name) (map standing_of (kept_items gone standing))
stands_nowhere serial name gone standing none =
    sym (any_shown serial name (kept_items gone standing) ∙ none_kept (λ y. is_of_name serial name (standing_of y)) gone standing none)

-- ---- how many a session has

-- those of a session among the kept ones
abbrev pub kept_count : ℕ → List Bool → List Standing → ℕ
kept_count serial gone standing = length (standing_in serial (map standing_of (kept_items gone standing)))

in_shown : (serial : ℕ) (xs : List Standing) → length (standing_in serial (map standing_of xs))
    ≡ length (filter (λ x. x.serial == serial) xs)
in_shown serial [] = refl
in_shown serial (x ∷ xs) = elim (cases_Bool (x.serial == serial)) [
  | inl hit ↦ rw hit (ap suc (in_shown serial xs))
  | inr miss ↦ rw miss (in_shown serial xs)
]

pub count_more : (serial : ℕ) (g : Bool) (gone : List Bool) (x : Standing) (xs : List Standing)
    → kept_count serial (g ∷ gone) (x ∷ xs) ≡ cond ((x.serial == serial) && not g) 1 0 + kept_count serial gone xs
count_more serial g gone x xs =
    in_shown serial (kept_items (g ∷ gone) (x ∷ xs)) ∙ counted_more (λ y. y.serial == serial) g gone x xs
    ∙ ap (λ n. cond ((x.serial == serial) && not g) 1 0 + n) (sym (in_shown serial (kept_items gone xs)))

-- the next one is counted, where it is of the session and not gone
module _ (serial : ℕ) (gone : List Bool) (standing : List Standing) (i count next total : ℕ) (x : Standing) (within : i < length standing)
    (long : length gone ≡ length standing) (is : x ≡ get_or standing i x)
    (before : count + kept_count serial (drop i gone) (drop i standing) ≡ total) where
  abbrev Left : Type 0
  Left = next + kept_count serial (drop (i + 1) gone) (drop (i + 1) standing) ≡ total

  counted_next : next ≡ count + cond ((x.serial == serial) && not (get_or gone i false)) 1 0 → Left
  counted_next counts =
      let g = get_or gone i false in
      let flags : i < length gone = omega (arith, within, long) in
      let one : kept_count serial (drop i gone) (drop i standing) ≡ kept_count serial (g ∷ drop (i + 1) gone) (x ∷ drop (i + 1) standing) =
      ap (λ gs. kept_count serial gs (drop i standing)) (drop_more gone i false flags)
      ∙ ap (λ xs. kept_count serial (g ∷ drop (i + 1) gone) xs)
      (drop_more standing i x within ∙ ap (λ y. y ∷ drop (i + 1) standing) (sym is)) in
      let more = count_more serial g (drop (i + 1) gone) x (drop (i + 1) standing) in
      omega (arith, one, more, before, counts)

  pub counted_kept : (get_or standing i x).serial ≡ serial → get_or gone i false ≡ false → next ≡ count + 1 → Left
  counted_kept same stays e =
      let mine : (x.serial == serial) ≡ true = eq-eqb x.serial serial (ap (λ (y : Standing). y.serial) is ∙ same) in
      counted_next (rw (mine, stays) e)

  pub passed_gone : get_or gone i false ≡ true → next ≡ count → Left
  passed_gone goes e = counted_next (nothing (x.serial == serial))
    where
      nothing : (b : Bool) → next ≡ count + cond (b && not (get_or gone i false)) 1 0
      nothing true = rw goes (omega (arith, e))
      nothing false = omega (arith, e)

  pub passed_other : (get_or standing i x).serial ≢ serial → next ≡ count → Left
  passed_other other e =
      let mine : (x.serial == serial) ≡ false = ne_eqb x.serial serial (λ same. other (ap (λ (y : Standing). y.serial) (sym is) ∙ same)) in
      counted_next (rw mine (omega (arith, e)))
