-- What contracts see of a pool, against its slots and its list of numbers.
use Rattle.std.proofs.Common.{◌≡◌, ℕ, ◌<◌, ◌≤◌, List, length, arith, get_or, Option, Some, None, Ok, Err, Ordering, refl, sym, ap, ◌∙◌}
use Rattle.std.proofs.lemmas.Cmp.{tied_back}
use Rattle.std.proofs.lemmas.Option.{same_Some}
use Rattle.std.specs.Prelude.{IsSome, is_some, option_map, unwrap_or}
use Rattle.std.specs.Cmp.{IsTotalOrder}
use Rattle.std.specs.FinMap.{get}
use Rattle.std.specs.declared.cmp.Ordering.TheVariants.{Equal}
use Rattle.ifmap_lemmas.specs.Options.{is_some_of, some_is}
use Rattle.ifmap_pool.specs.Holdings.{Holdings, entry_at, key_at, holds_at, Names, IsAbsent, OneToOne, IsPool}
use Rattle.ifmap_pool.specs.Index.{IsKeyPlace, IsKeyIndex, entry_of, live_keys}
use Rattle.ifmap_pool.specs.declared.slots.HeldKey.{HeldKey}
use Rattle.ifmap_pool.proofs.Live.{get-live_keys}
use Rattle.ifmap_pool.proofs.Kept.{one_number, none_missed}
use Rattle.ifmap_pool.proofs.Emptiness.{slot_within}

-- contracts see the keys of these slots with their counts
pub record Shows {K : Type 0} (slots : List (Option (HeldKey K))) (pool : Holdings K) : Type 0 where
  pub live : pool.live ≡ live_keys slots

module _ {K : Type 0} where
  pub same_holdings : (a b : Holdings K) → a.live ≡ b.live → a.spare ≡ b.spare → a.limit ≡ b.limit → a ≡ b
  same_holdings a b p q r = λ i. record { live = p i; spare = q i; limit = r i }

  entry_some : (o : Option (HeldKey K)) (entry : K × ℕ) → option_map entry_of o ≡ Some entry
      → (held : HeldKey K) × (o ≡ Some held) × (entry_of held ≡ entry)
  entry_some None entry e = absurd (cc)
  entry_some (Some held) entry e = (held, refl, same_Some _ _ e)

  module _ {slots : List (Option (HeldKey K))} {pool : Holdings K} (shown : Shows slots pool) where
    pub entry_is : (number : ℕ) → entry_at pool number ≡ option_map entry_of (get_or slots number None)
    entry_is number = ap (λ m. get m number) shown.live ∙ get-live_keys slots number

    pub key_is : (number : ℕ) → key_at pool number ≡ option_map (λ held. held.key) (get_or slots number None)
    key_is number = ap (option_map (λ entry. entry.0)) (entry_is number) ∙ by_cases (get_or slots number None)
      where
        by_cases : (o : Option (HeldKey K)) → option_map (λ entry. entry.0) (option_map entry_of o) ≡ option_map (λ held. held.key) o
        by_cases None = refl
        by_cases (Some held) = refl

    pub entry_from_slot : (number : ℕ) (held : HeldKey K) → get_or slots number None ≡ Some held
        → entry_at pool number ≡ Some (held.key, held.holds)
    entry_from_slot number held e = entry_is number ∙ ap (option_map entry_of) e

    pub slot_from_entry : (number : ℕ) (entry : K × ℕ) → entry_at pool number ≡ Some entry
        → (held : HeldKey K) × (get_or slots number None ≡ Some held) × (entry_of held ≡ entry)
    slot_from_entry number entry e = entry_some _ entry (sym (entry_is number) ∙ e)

    pub holds_from_slot : (number : ℕ) (held : HeldKey K) → get_or slots number None ≡ Some held → holds_at pool number ≡ held.holds
    holds_from_slot number held e = ap (λ o. unwrap_or (option_map (λ (entry : K × ℕ). entry.1) o) 0) (entry_from_slot number held e)

    pub holds_from_none : (number : ℕ) → get_or slots number None ≡ None → holds_at pool number ≡ 0
    holds_from_none number e = ap (λ o. unwrap_or (option_map (λ (entry : K × ℕ). entry.1) o) 0) (entry_is number ∙ ap (option_map
        entry_of) e)

    -- a live number has one entry
    pub entry_known : (number : ℕ) (held : HeldKey K) (entry : K × ℕ) → get_or slots number None ≡ Some held
        → entry_at pool number ≡ Some entry → (held.key, held.holds) ≡ entry
    entry_known number held entry e there = same_Some _ _ (sym (entry_from_slot number held e) ∙ there)

    pub slot_from_live : (number : ℕ) → IsSome (entry_at pool number) → (held : HeldKey K) × (get_or slots number None ≡ Some held)
    slot_from_live number live =
        let entry = some_is _ live in
        let there = slot_from_entry number entry.0 entry.1 in
        (there.0, there.1)

    module _ (cmp : K → K → Ordering) where
      pub names_from_slot : (number : ℕ) (held : HeldKey K) (key : K) → get_or slots number None ≡ Some held → cmp held.key key ≡ Equal
          → Names cmp pool number key
      names_from_slot number held key e tie = ((held.key, held.holds), entry_from_slot number held e, tie)

      pub slot_from_names : (number : ℕ) (key : K) → Names cmp pool number key
          → (held : HeldKey K) × (get_or slots number None ≡ Some held) × (cmp held.key key ≡ Equal)
      slot_from_names number key names =
          let there = slot_from_entry number names.0 names.1 in
          (there.0, there.1, ap (λ (entry : K × ℕ). cmp entry.0 key) there.2 ∙ names.2)

    module _ {cmp : K → K → Ordering} (total : IsTotalOrder cmp) {order : List ℕ}
        (indexed : IsKeyIndex cmp (λ n. get_or slots n None) order) where
      pub numbers_apart : OneToOne cmp pool
      numbers_apart first second key one other =
          let a = slot_from_names cmp first key one in
          let b = slot_from_names cmp second key other in
          one_number total (λ n. get_or slots n None) order indexed first second a.0 b.0 a.1 b.1 (total.congr _ _ b.0.key a.2 ∙ tied_back
          total _ _ b.2)

      -- each number is below a limit that the slots do not pass, and is held
      pub is_pool : length slots ≤ pool.limit → IsPool cmp pool
      is_pool within = record {
        one_to_one = numbers_apart;
        below = λ number live.
            let there = slot_from_live number live in
            let inside : number < length slots = slot_within slots number (is_some_of _ there.0 there.1) in
            omega (arith, inside, within);
        held = λ number live.
            let there = slot_from_live number live in
            let some = indexed.held number there.0 there.1 in
            let counted = holds_from_slot number there.0 there.1 in
            omega (arith, some, counted);
      }

      -- what a search tells
      pub named_at : (key : K) (place : ℕ) → IsKeyPlace cmp (λ n. get_or slots n None) order key (Ok place)
          → Names cmp pool (get_or order place 0) key
      named_at key place found =
          let there = some_is _ (indexed.live place found.0) in
          names_from_slot cmp _ there.0 key there.1 (found.1 there.0 there.1)

      pub absent_at : (key : K) (place : ℕ) → IsKeyPlace cmp (λ n. get_or slots n None) order key (Err place) → IsAbsent cmp pool key
      absent_at key place missing number names =
          let there = slot_from_names cmp number key names in
          none_missed total (λ n. get_or slots n None) order indexed key place missing number there.0 there.1 there.2

-- what holds of a pool holds of one with the same numbers and a limit that is no lower
pub pool_kept : {K : Type 0} (cmp : K → K → Ordering) (old new : Holdings K) → new.live ≡ old.live → old.limit ≤ new.limit
    → IsPool cmp old → IsPool cmp new
pool_kept {K} cmp old new same le whole = record {
  one_to_one = λ first second key one other. whole.one_to_one first second key (back first key one) (back second key other);
  below = λ number live. let inside = whole.below number (ap is_some (sym (entry number)) ∙ live) in omega (arith, inside, le);
  held = λ number live.
      let some = whole.held number (ap is_some (sym (entry number)) ∙ live) in
      let counted = ap (λ (o : Option (K × ℕ)). unwrap_or (option_map (λ x. x.1) o) 0) (entry number) in
      omega (arith, some, counted);
}
  where
    entry : (number : ℕ) → entry_at new number ≡ entry_at old number
    entry number = ap (λ m. get m number) same

    back : (number : ℕ) (key : K) → Names cmp new number key → Names cmp old number key
    back number key names = (names.0, sym (entry number) ∙ names.1, names.2)
