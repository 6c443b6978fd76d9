-- What others than items hold: one hold of theirs more, and one less.
use Rattle.std.proofs.Common.{◌≡◌, ◌≢◌, ℕ, ◌+◌, ◌-◌, ◌<◌, ◌≤◌, cond, unwrap_or, Option, Some, None, IsSome, List, [], ◌∷◌, option_map, refl, ap, ◌∙◌, sym, subst, inl, inr, arith}
use Rattle.std.proofs.Math.Nat.{add-sub_assoc}
use Rattle.std.proofs.lemmas.Bool.{cases_Bool}
use Rattle.std.proofs.lemmas.Option.{same_Some}
use Rattle.std.specs.FinMap.{get}
use Rattle.std.specs.Ordering.{is_eq}
use Rattle.std.specs.Cmp.{Equal-is}
use Rattle.ifmap_ident.specs.declared.identifiers.Identifier.{Identifier}
use Rattle.ifmap_ident.specs.declared.items.Item.{Item}
use Rattle.ifmap_ident.specs.declared.items.Item.TheVariants.{One, Pair}
use Rattle.ifmap_ident.specs.Canon.{IsIdentifier}
use Rattle.ifmap_ident.specs.Identifiers.{identifier_order}
use Rattle.ifmap_pool.specs.Holdings.{Frees, Holdings, IsHeld, IsPool, LetsGo, Names, entry_at, holds_at, key_at, once}
use Rattle.ifmap_view.specs.declared.views.LinkSeen.{LinkSeen}
use Rattle.ifmap_graph.specs.declared.shelves.Shelf.{Shelf}
use Rattle.ifmap_graph.specs.Inside.{IsInside, shown_shelves}
use Rattle.ifmap_graph.specs.Named.{AreIdentifiers, uses_of, uses_in}
use Rattle.ifmap_graph.specs.Sides.{Sides}
use Rattle.ifmap_graph.proofs.Alike.{Alike, alike_equal, equal_alike, order_alike}
use Rattle.ifmap_graph.proofs.Changed.{all_same, was_live}
use Rattle.ifmap_graph.proofs.Departing.{numbered_stay}
use Rattle.ifmap_graph.proofs.KeyHolds.{identifiers_stay, named_before}
use Rattle.ifmap_graph.proofs.Insides.{key_is, named_shown, names_by}
use Rattle.ifmap_graph.proofs.Shelving.{Entries}
use Rattle.ifmap_ident.specs.SameLaws.{BytesTellIdentifiers}

-- what lives is the same: a number is held as often
pub holds_alike : (old new : Holdings Identifier) → new.live ≡ old.live → (v : ℕ) → holds_at new v ≡ holds_at old v
holds_alike old new live v = ap (λ l. unwrap_or (option_map (λ x. x.1) (get l v)) 0) live

-- a number that is live is held once more, and so more than once
pub held_again : (old mid new : Holdings Identifier) → ((v : ℕ) → IsSome (entry_at old v) → 0 < holds_at old v) → mid.live ≡ old.live
    → (v : ℕ)
    → holds_at new v ≡ holds_at mid v + 1 → IsSome (key_at old v) → 1 < holds_at new v
held_again old mid new held live v counted some =
    let there : IsSome (entry_at old v) = by (entry_at old v) some
    in omega (arith, held v there, holds_alike old mid live v, counted)
  where
    by : (o : Option (Identifier × ℕ)) → IsSome (option_map (λ x. x.0) o) → IsSome o
    by None s = s
    by (Some x) s = refl

-- a number that has a key is live
pub live_key : (names : Holdings Identifier) (v : ℕ) (a : Identifier) → key_at names v ≡ Some a → IsSome (entry_at names v)
live_key names v a e = subst (λ (o : Option (Identifier × ℕ)). IsSome o) (sym (names_by names v a a e refl).1) refl

-- the key of a number is the identifier that it names, where elements gave both
pub key_told : (names : Holdings Identifier) (v : ℕ) (a : Identifier) → BytesTellIdentifiers → AreIdentifiers names → IsIdentifier a
    → Names identifier_order names v a
    → key_at names v ≡ Some a
key_told names v a tells all is n =
    key_is names v n.0 n.1 ∙ ap Some (tells n.0.0 a (all v n.0.0 (key_is names v n.0 n.1)) is (equal_alike n.0.0 a n.2))

-- a key stays that of its number
pub key_kept : (old new : Holdings Identifier) → ((v : ℕ) (a : Identifier) → Names identifier_order old v a → Names identifier_order new v
    a) → BytesTellIdentifiers
    → AreIdentifiers old → AreIdentifiers new → (v : ℕ) (a : Identifier) → key_at old v ≡ Some a → key_at new v ≡ Some a
key_kept old new kept tells before after v a e = key_told new v a tells after (before v a e) (kept v a (names_by old v a a e refl))

once_tied : (x a b : Identifier) → Alike a b → once identifier_order x a ≡ once identifier_order x b
once_tied x a b e = ap (λ o. cond (is_eq o) 1 0) (order_alike x b x a refl e)

by_tied : (i : Item) (a b : Identifier) → Alike a b → uses_of i a ≡ uses_of i b
by_tied (One x) a b e = once_tied x a b e
by_tied (Pair x y) a b e =
    ap (λ n. n + once identifier_order y a) (once_tied x a b e) ∙ ap (λ n. once identifier_order x b + n) (once_tied y a b e)

in_tied : {X : Type 0} (es : List (Item × X)) (a b : Identifier) → Alike a b → uses_in es a ≡ uses_in es b
in_tied [] a b e = refl
in_tied (x ∷ xs) a b e = ap (λ n. n + uses_in xs a) (by_tied x.0 a b e) ∙ ap (λ n. uses_of x.0 b + n) (in_tied xs a b e)

module _ (names : Holdings Identifier) (pool : IsPool identifier_order names) where
  -- an identifier is held a number of times
  one_count : (a : Identifier) (n m : ℕ) → IsHeld identifier_order names a n → IsHeld identifier_order names a m → n ≡ m
  one_count a n m (inl p) (inl q) = sym p.2 ∙ ap (holds_at names) (pool.one_to_one p.0 q.0 a p.1 q.1) ∙ q.2
  one_count a n m (inl p) (inr q) = absurd (q.0 p.0 p.1)
  one_count a n m (inr p) (inl q) = absurd (p.0 q.0 q.1)
  one_count a n m (inr p) (inr q) = p.1 ∙ sym q.1

  -- and so often is each that ties with it
  tied_held : (a b : Identifier) (n : ℕ) → Alike a b → IsHeld identifier_order names a n → IsHeld identifier_order names b n
  tied_held a b n t (inl p) = inl (p.0, (p.1.0, p.1.1, alike_equal p.1.0.0 b (equal_alike p.1.0.0 a p.1.2 ∙ t)), p.2)
  tied_held a b n t (inr p) = inr ((λ v m. p.0 v (m.0, m.1, alike_equal m.0.0 a (equal_alike m.0.0 b m.2 ∙ sym t))), p.1)

  -- what goes of an identifier's holds is of those that others than items have
  goes_of : {X : Type 0} (es : List (Item × X)) (a other : Identifier) (mine own : ℕ) → IsHeld identifier_order names a
      (uses_in es a + mine) → 0 < mine
      → IsHeld identifier_order names other (uses_in es other + own) → once identifier_order a other ≤ own
  goes_of es a other mine own k some h = elim (cases_Bool (is_eq (identifier_order a other))) [
    | inl t ↦ let alike : Alike a other = equal_alike a other ((Equal-is (identifier_order a other)).0 t)
        in let same : uses_in es other + own ≡ uses_in es a + mine
        = one_count other (uses_in es other + own) (uses_in es a + mine) h (tied_held a other (uses_in es a + mine) alike k)
        in let named : uses_in es a ≡ uses_in es other = in_tied es a other alike
        in let one : once identifier_order a other ≡ 1 = rw t refl
        in omega (arith, same, named, one, some)
    | inr f ↦ let none : once identifier_order a other ≡ 0 = rw f refl in omega (arith, none)
  ]

-- an identifier that others than items hold is let go once
module _ (old new : Holdings Identifier) (look : ℕ → Option Shelf) (es : Entries) (links : List (Sides LinkSeen))
    (is : IsInside old look es links) (v : ℕ)
    (kept : LetsGo old new v) (last : holds_at old v ≡ 1 → Frees old new v) (counted : holds_at new v + 1 ≡ holds_at old v)
    (others : (o : ℕ) → o ≢ v → entry_at new o ≡ entry_at old o) (pool : IsPool identifier_order new)
    (held : (key other : Identifier) (count : ℕ) → Names identifier_order old v key → IsHeld identifier_order old other count
    → IsHeld identifier_order new other (count - once identifier_order key other))
    (k : Identifier) (mine : ℕ) (key : key_at old v ≡ Some k)
    (own : IsHeld identifier_order old k (uses_in (shown_shelves look es) k + mine))
    (some : 0 < mine) where
  before : (o : ℕ) (a : Identifier) → Names identifier_order new o a → Names identifier_order old o a
  before = named_before old new v (live_key old v k key) kept last counted others

  own_of : (other : Identifier) (n : ℕ) → IsHeld identifier_order old other (uses_in (shown_shelves look es) other + n)
      → IsHeld identifier_order new other (uses_in (shown_shelves look es) other + (n - once identifier_order k other))
  own_of other n h =
      subst (λ (m : ℕ). IsHeld identifier_order new other m)
      (add-sub_assoc (goes_of old is.pool (shown_shelves look es) k other mine n own some h) (uses_in (shown_shelves look es) other))
      (held k other (uses_in (shown_shelves look es) other + n) (names_by old v k k key refl) h)

  pub own_released : (a other : Identifier) (n : ℕ) → key_at old v ≡ Some a → IsHeld identifier_order old other
      (uses_in (shown_shelves look es) other + n)
      → IsHeld identifier_order new other (uses_in (shown_shelves look es) other + (n - once identifier_order a other))
  own_released a other n e h =
      subst (λ x. IsHeld identifier_order new other (uses_in (shown_shelves look es) other + (n - once identifier_order x other)))
      (same_Some _ _ (sym key ∙ e)) (own_of other n h)

  still_held : (a : Identifier) → (n : ℕ) × IsHeld identifier_order new a (uses_in es a + n)
  still_held a =
      let h = is.held a
      in (
        h.0 - once identifier_order k a,
        subst (λ (m : ℕ). IsHeld identifier_order new a (m + (h.0 - once identifier_order k a))) (named_shown look es a)
            (own_of a h.0 (subst (λ (m : ℕ). IsHeld identifier_order old a (m + h.0)) (sym (named_shown look es a)) h.1)),
      )

  pub inside_released : IsInside new look es links
  inside_released = record {
    placed = is.placed;
    used = is.used;
    numbered = numbered_stay old new is.pool before es still_held look look es (λ e h. h) (all_same old old refl look es) is.numbered;
    pool = pool;
    keys = identifiers_stay old new v (live_key old v k key) kept last counted others is.keys;
    held = still_held;
    table = λ n s. is.table n (was_live old new before n (entry_at new n) refl s);
    side = is.side;
    next_side = is.next_side;
  }
