-- The walk along a path: after each level, the greatest of the indexes that are kept at the levels so far.
use Rattle.std.proofs.Common.{◌≡◌, ℕ, ◌+◌, ◌<◌, ◌≤◌, true, List, take, length, ap, sym, ◌∙◌, subst, inl, inr, arith}
use Rattle.std.specs.Prelude.{◌==◌, Option, Some, None}
use Rattle.std.specs.List.{slice_get, starts_with}
use Rattle.std.specs.Str.{bytes_eq}
use Rattle.std.proofs.lemmas.Bool.{and_from, and_parts, cases_lt}
use Rattle.std.proofs.lemmas.List.{length-take, length-take-le}
use Rattle.ifmap_elem.specs.declared.readings.Declared.{Declared}
use Rattle.ifmap_lemmas.specs.Texts.{eq_itself, eq_tells}
use Rattle.ifmap_prefixes.specs.Rows.{HasLast, IsLastOf, IsGreaterIndex, IsLatest, HasIndexFrom, is_at_or_round}

-- of what is kept at the levels before this one, the greatest
pub record IsLatestBefore (kept_at : List ℕ → Option ℕ) (path : List ℕ) (depth : ℕ) (answer : Option ℕ) : Type 0 where
  pub found : (i : ℕ) → answer ≡ Some i → (level : ℕ) × (level ≤ length path) × (kept_at (take level path) ≡ Some i)
  pub last : (level i : ℕ) → level < depth → kept_at (take level path) ≡ Some i → HasIndexFrom answer i

module _ (kept_at : List ℕ → Option ℕ) (path : List ℕ) where
  pub starts_walk : (answer : Option ℕ) → answer ≡ None → IsLatestBefore kept_at path 0 answer
  starts_walk answer none = record {
    found = λ i is. let wrong : Some i ≡ None = sym is ∙ none in cc;
    last = λ level i low at. absurd (let l = low in omega arith);
  }

  later_index : (one other : Option ℕ) (i : ℕ) → HasIndexFrom one i → ((j : ℕ) → one ≡ Some j → HasIndexFrom other j) → HasIndexFrom other i
  later_index one other i first on =
      let next = on first.index first.is in
      let a = first.late in
      let b = next.late in
      record { index = next.index; is = next.is; late = omega arith }

  pub walks_on : (depth : ℕ) → depth ≤ length path → (one more : Option ℕ) → IsLatestBefore kept_at path depth one
      → IsGreaterIndex one (kept_at (take depth path)) more → IsLatestBefore kept_at path (depth + 1) more
  walks_on depth low one more at is = record { found = found_on; last = last_on }
    where
      found_on : (i : ℕ) → more ≡ Some i → (level : ℕ) × (level ≤ length path) × (kept_at (take level path) ≡ Some i)
      found_on i e = elim (is.either i e) [ inl o ↦ at.found i o | inr o ↦ (depth, low, o) ]

      last_on : (level i : ℕ) → level < depth + 1 → kept_at (take level path) ≡ Some i → HasIndexFrom more i
      last_on level i l there = elim (cases_lt level depth) [
        | inl before ↦ later_index one more i (at.last level i before there) is.first
        | inr after ↦
            let same : level ≡ depth = omega arith in
            is.second i (subst (λ k. kept_at (take k path) ≡ Some i) same there)
      ]

  pub ends_walk : (depth : ℕ) → length path < depth → (found : Option ℕ) → IsLatestBefore kept_at path depth found
      → IsLatest kept_at path found
  ends_walk depth high found at = record {
    found = at.found;
    last = λ level i low there. at.last level i (omega arith) there;
  }

-- what stands at a level of the path stands at or round the path
level_at_or_round : (d : Declared) (prefix path : List ℕ) (level : ℕ) → level ≤ length path → d.prefix ≡ prefix → d.path ≡ take level path
    → is_at_or_round prefix path d ≡ true
level_at_or_round d prefix path level low p q =
    let long : length d.path ≡ level = ap length q ∙ length-take-le level path low in
    let same : take (length d.path) path ≡ d.path = ap (λ n. take n path) long ∙ sym q in
    and_from (starts_with ◌==◌ path d.path) (bytes_eq prefix d.prefix) (ap (bytes_eq d.path) same ∙ eq_itself d.path)
    (ap (bytes_eq prefix) p ∙ eq_itself prefix)

module _ (rows : List Declared) (prefix path : List ℕ) (kept : List ℕ → List ℕ → Option ℕ) (has : HasLast kept rows)
    (found : Option ℕ) (at : IsLatest (kept prefix) path found) where
  found_there : (i : ℕ) → found ≡ Some i → (d : Declared) × (slice_get rows i ≡ Some d) × (is_at_or_round prefix path d ≡ true)
  found_there i e =
      let level = at.found i e in
      let here = has.found prefix (take level.0 path) i level.2 in
      (here.row, here.is, level_at_or_round here.row prefix path level.0 level.1 here.prefix_is here.path_is)

  -- a declaration at or round the path stands at one of its levels
  last_there : (i : ℕ) (d : Declared) → slice_get rows i ≡ Some d → is_at_or_round prefix path d ≡ true → HasIndexFrom found i
  last_there i d is t =
      let both = and_parts (starts_with ◌==◌ path d.path) (bytes_eq prefix d.prefix) t in
      let same : d.path ≡ take (length d.path) path = eq_tells d.path (take (length d.path) path) both.0 in
      let long : length d.path ≡ length (take (length d.path) path) = ap length same in
      let least = length-take (length d.path) path in
      let low : length d.path ≤ length path = grind (arith, long, least) in
      let last = has.last prefix (take (length d.path) path) i
      (record { row = d; is = is; prefix_is = sym (eq_tells prefix d.prefix both.1); path_is = same }) in
      later_index (kept prefix) path (kept prefix (take (length d.path) path)) found i last (λ j e. at.last (length d.path) j low e)

  pub latest_is_last : IsLastOf rows prefix path found
  latest_is_last = record { found = found_there; last = last_there }

-- where nothing is kept at any path
pub none_latest : (kept_at : List ℕ → Option ℕ) (path : List ℕ) (found : Option ℕ) → found ≡ None → ((p : List ℕ) → kept_at p ≡ None)
    → IsLatest kept_at path found
none_latest kept_at path found none all = record {
  found = λ i e. let wrong : Some i ≡ None = sym e ∙ none in cc;
  last = λ level i low e. let wrong : Some i ≡ None = sym e ∙ all (take level path) in cc;
}

-- what is kept at the same paths by another name
pub same_latest : (f g : List ℕ → Option ℕ) (path : List ℕ) (found : Option ℕ) → ((p : List ℕ) → f p ≡ g p) → IsLatest g path found
    → IsLatest f path found
same_latest f g path found same at = record {
  found = λ i e. let level = at.found i e in (level.0, level.1, same (take level.0 path) ∙ level.2);
  last = λ level i low e. at.last level i low (sym (same (take level path)) ∙ e);
}
