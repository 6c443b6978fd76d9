-- The levels of a search are its walks.
use Rattle.std.proofs.Common.{◌≡◌, ◌↔◌, ℕ, zero, suc, ◌<◌, ◌≤◌, Bool, true, false, cond, not, List, [], ◌∷◌, flat_map, refl}
use Rattle.std.proofs.Common.{sym, subst, inl, inr, arith}
use Rattle.std.proofs.lemmas.Bool.{and_parts, not-true}
use Rattle.std.specs.List.{AllByRecursion, filter}
use Rattle.ifmap_ident.specs.declared.identifiers.Identifier.{Identifier}
use Rattle.ifmap_ident.specs.Canon.{IsIdentifier}
use Rattle.ifmap_ident.specs.Identifiers.{same_identifier}
use Rattle.ifmap_ident.specs.Items.{identifiers_of}
use Rattle.ifmap_lemmas.specs.Having.{Has, any_has, filter_has, has_any, has_either, has_filter, has_joined, has_left, has_right, joined_has}
use Rattle.ifmap_region.specs.Walks.{IsReached, begins, goes_on}
use Rattle.ifmap_search.specs.declared.searches.Search.{Search}
use Rattle.ifmap_view.specs.declared.attachments.Attachment.{Attachment}
use Rattle.ifmap_ident.specs.Items.{IsCanonItem}
use Rattle.ifmap_view.specs.Rows.{stored_between}
use Rattle.ifmap_fresh.specs.Matching.{LinksTo, is_match, is_terminal}
use Rattle.ifmap_fresh.specs.Reached.{identifiers_in, is_below, is_expanded, is_reached, is_within, next_to, ends_within}
use Rattle.ifmap_fresh.specs.Walked.{SearchWalk}
use Rattle.ifmap_fresh.specs.laws.JoiningLaws.{some_if_met, stands_in}
use Rattle.ifmap_fresh.specs.laws.SameLaws.{member}
use Rattle.ifmap_ident.specs.SameLaws.{identifier_itself, BytesTellIdentifiers, same_is}

pub on_canon : (rows : List Attachment) (s : Search) → IsIdentifier s.start → (k : ℕ) (a : Identifier) → SearchWalk rows s k a
    → IsIdentifier a
on_canon rows s i zero a (begins e) = subst IsIdentifier (sym e) i
on_canon rows s i (suc k) a (goes_on w t l) = l.0

module _ (tells : BytesTellIdentifiers) (rows : List Attachment) (items : AllByRecursion (λ r. IsCanonItem r.item) rows) (s : Search)
    (start : IsIdentifier s.start) where
  abbrev M : Identifier → Identifier → Type 0
  M = LinksTo rows s.match_links

  abbrev T : Identifier → Bool
  T = is_terminal s.terminal

  identifier_of : (ids : List Identifier) → AllByRecursion IsIdentifier ids → (a : Identifier) → Has ids a → IsIdentifier a
  identifier_of [] p a h = absurd h
  identifier_of (x ∷ xs) p a (inl e) = subst IsIdentifier e p.0
  identifier_of (x ∷ xs) p a (inr h) = identifier_of xs p.1 a h

  in_canon : (a : Identifier) → Has (identifiers_in rows) a → IsIdentifier a
  in_canon a h =
      let j = joined_has (λ (r : Attachment). identifiers_of r.item) rows a h
      in identifier_of (identifiers_of j.0.item) (member (λ r. IsCanonItem r.item) rows items j.0 j.1).identifiers a j.2

  start_within : (n : ℕ) → Has (ends_within rows s n) s.start
  start_within zero = inl refl
  start_within (suc n) = has_left (ends_within rows s n) (flat_map (next_to rows s) (ends_within rows s n)) s.start (start_within n)

  next_has : (a b : Identifier) → IsIdentifier a → T a ≡ false → M a b → Has (next_to rows s a) b
  next_has a b i t m =
      rw t (has_filter (is_match rows s.match_links a) (identifiers_in rows) b
      (stands_in tells rows items a b i m.0 (some_if_met s.match_links (stored_between a b rows) m.1)) m.1)

  has_next : (a b : Identifier) → Has (next_to rows s a) b → (T a ≡ false) × M a b
  has_next a b h = by (T a) refl h
    where
      by : (c : Bool) → T a ≡ c → Has (cond c [] (filter (is_match rows s.match_links a) (identifiers_in rows))) b → (T a ≡ false) × M a b
      by true is k = absurd k
      by false is k = let f = filter_has (is_match rows s.match_links a) (identifiers_in rows) b k in (is, (in_canon b f.0, f.1))

  pub walk_within : (n k : ℕ) (a : Identifier) → k ≤ n → SearchWalk rows s k a → Has (ends_within rows s n) a
  walk_within n zero a h (begins e) = subst (λ x. Has (ends_within rows s n) x) (sym e) (start_within n)
  walk_within zero (suc k) a h w = absurd (omega (arith, h))
  walk_within (suc n) (suc k) a h (goes_on {u = u} w t l) =
      has_right (ends_within rows s n) (flat_map (next_to rows s) (ends_within rows s n)) a
      (has_joined (next_to rows s) (ends_within rows s n) u a (walk_within n k u (omega (arith, h)) w)
      (next_has u a (on_canon rows s start k u w) t l))

  pub within_walk : (n : ℕ) (a : Identifier) → Has (ends_within rows s n) a → (k : ℕ) × (k ≤ n) × SearchWalk rows s k a
  within_walk zero a (inl e) = (zero, omega arith, begins (sym e))
  within_walk zero a (inr h) = absurd h
  within_walk (suc n) a h = elim (has_either (ends_within rows s n) (flat_map (next_to rows s) (ends_within rows s n)) a h) [
    | inl p ↦ let r = within_walk n a p in (r.0, omega (arith, r.1), r.2)
    | inr p ↦ let j = joined_has (next_to rows s) (ends_within rows s n) a p
        in let r = within_walk n j.0 j.1
        in let x = has_next j.0 a j.2
        in (suc r.0, omega (arith, r.1), goes_on r.2 x.0 x.1)
  ]

  pub is_within_walk : (n : ℕ) (a : Identifier) → IsIdentifier a → is_within rows s n a ≡ true → (k : ℕ) × (k ≤ n) × SearchWalk rows s k a
  is_within_walk n a i e =
      let f = any_has (same_identifier a) (ends_within rows s n) e
      in let w = within_walk n f.0 f.1
      in within_walk n a (subst (λ x. Has (ends_within rows s n) x)
      (sym (same_is tells a f.0 i (on_canon rows s start w.0 f.0 w.2) f.2)) f.1)

  pub walk_is_within : (n k : ℕ) (a : Identifier) → k ≤ n → SearchWalk rows s k a → is_within rows s n a ≡ true
  walk_is_within n k a h w = has_any (same_identifier a) (ends_within rows s n) a (walk_within n k a h w) (identifier_itself a)

  -- an identifier is reached exactly where some walk ends in it
  pub reached_by_walks : (a : Identifier) → IsIdentifier a → (is_reached rows s a ≡ true) ↔ IsReached M T s.start s.max_depth a
  reached_by_walks a i = (is_within_walk s.max_depth a i, λ r. walk_is_within s.max_depth r.0 a r.1 r.2)

  below_walk : (n : ℕ) (a : Identifier) → IsIdentifier a → is_below rows s n a ≡ true → (k : ℕ) × (k < n) × SearchWalk rows s k a
  below_walk zero a i e = let q : false ≡ true = e in cc
  below_walk (suc n) a i e = let r = is_within_walk n a i e in (r.0, omega (arith, r.1), r.2)

  walk_below : (n k : ℕ) (a : Identifier) → k < n → SearchWalk rows s k a → is_below rows s n a ≡ true
  walk_below zero k a h w = absurd (omega (arith, h))
  walk_below (suc n) k a h w = walk_is_within n k a (omega (arith, h)) w

  -- and expanded exactly where it is not terminal and a walk of fewer links than the most ends in it
  pub expanded_walk : (a : Identifier) → IsIdentifier a → is_expanded rows s a ≡ true → (T a ≡ false)
      × ((k : ℕ) × (k < s.max_depth) × SearchWalk rows s k a)
  expanded_walk a i e =
      let p = and_parts (not (T a)) (is_below rows s s.max_depth a) e
      in (not-true (T a) p.0, below_walk s.max_depth a i p.1)

  pub walk_expanded : (a : Identifier) (k : ℕ) → T a ≡ false → k < s.max_depth → SearchWalk rows s k a → is_expanded rows s a ≡ true
  walk_expanded a k t h w = rw (t, walk_below s.max_depth k a h w) refl
