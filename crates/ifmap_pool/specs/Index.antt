-- How a pool keeps its keys: slots by number, the numbers of the empty ones, and the live numbers in the order of
-- their keys. No public clause cites this module.
use Rattle.std.specs.Prelude.{◌≡◌, ◌≢◌, ℕ, ◌+◌, ◌<◌, ◌≤◌, List, [], ◌∷◌, map, length, Option, Some, None, is_some, IsSome, slice_index_or, slice_set, Result, Ok, Err, count_by}
use Rattle.std.specs.Ordering.{nat_cmp}
use Rattle.std.specs.declared.cmp.Ordering.{Ordering}
use Rattle.std.specs.declared.cmp.Ordering.TheVariants.{Less, Equal, Greater}
use Rattle.std.specs.FinMap.{FinMap, from_entries}
use Rattle.ifmap_pool.specs.declared.slots.HeldKey.{HeldKey}

module _ {K : Type 0} where
  -- the key of a number, with its count; none where the number is free
  abbrev pub slot_at : List (Option (HeldKey K)) → ℕ → Option (HeldKey K)
  slot_at slots number = slice_index_or slots number None

  -- how many slots are not empty
  abbrev pub slot_count : List (Option (HeldKey K)) → ℕ
  slot_count slots = count_by is_some slots

  -- the keys with their counts, each under its number, where the first slot has this number
  abbrev pub entries_from : ℕ → List (Option (HeldKey K)) → List (ℕ × HeldKey K)
  entries_from number [] = []
  entries_from number (None ∷ rest) = entries_from (number + 1) rest
  entries_from number (Some held ∷ rest) = (number, held) ∷ entries_from (number + 1) rest

  -- a key with its count, as contracts see it
  abbrev pub entry_of : HeldKey K → K × ℕ
  entry_of held = (held.key, held.holds)

  -- the live numbers with their entries, of the slots
  unfoldable pub live_keys : List (Option (HeldKey K)) → FinMap nat_cmp (K × ℕ)
  live_keys slots = from_entries (map (λ e. (e.0, entry_of e.1)) (entries_from 0 slots))

  -- the count of a live number is written, and nothing else
  abbrev pub WritesCount : List (Option (HeldKey K)) → List (Option (HeldKey K)) → ℕ → ℕ → Type 0
  WritesCount old new number holds =
      (held : HeldKey K) → slot_at old number ≡ Some held → new ≡ slice_set old number (Some (record held { holds = holds }))

  -- one slot is written, and no other
  pub record Writes (old new : List (Option (HeldKey K))) (number : ℕ) (slot : Option (HeldKey K)) : Type 0 where
    pub changed : slot_at new number ≡ slot
    pub others : (other : ℕ) → other ≢ number → slot_at new other ≡ slot_at old other

  -- the list has the numbers of the empty slots, each once
  pub record AreFree (slots : List (Option (HeldKey K))) (free : List ℕ) : Type 0 where
    pub apart : (i j : ℕ) → i < j → j < length free → slice_index_or free i 0 ≢ slice_index_or free j 0
    pub within : (i : ℕ) → i < length free → slice_index_or free i 0 < length slots
    pub empty : (i : ℕ) → i < length free → slot_at slots (slice_index_or free i 0) ≡ None
    pub counted : slot_count slots + length free ≡ length slots

module _ {K : Type 0} (cmp : K → K → Ordering) (slot : ℕ → Option (HeldKey K)) (order : List ℕ) where
  -- each key in front of this place is below the key
  abbrev pub AllBelow : K → ℕ → Type 0
  AllBelow key place = (k : ℕ) (held : HeldKey K) → k < place → slot (slice_index_or order k 0) ≡ Some held
      → cmp held.key key ≡ Less

  -- each key from this place on is above the key
  abbrev pub AllAbove : K → ℕ → Type 0
  AllAbove key place = (k : ℕ) (held : HeldKey K) → place ≤ k → k < length order
      → slot (slice_index_or order k 0) ≡ Some held → cmp held.key key ≡ Greater

  -- the key is found at this place, or would stand in front of it
  abbrev pub IsKeyPlace : K → Result ℕ ℕ → Type 0
  IsKeyPlace key (Ok place) = (place < length order) × ((held : HeldKey K)
      → slot (slice_index_or order place 0) ≡ Some held → cmp held.key key ≡ Equal)
  IsKeyPlace key (Err place) = (place ≤ length order) × AllBelow key place × AllAbove key place

  -- the list has each number with a value, and no other, by rising keys; each value is held
  pub record IsKeyIndex : Type 0 where
    pub rising : (i j : ℕ) (a b : HeldKey K) → i < j → j < length order
        → slot (slice_index_or order i 0) ≡ Some a → slot (slice_index_or order j 0) ≡ Some b → cmp a.key b.key ≡ Less
    pub live : (i : ℕ) → i < length order → IsSome (slot (slice_index_or order i 0))
    pub listed : (number : ℕ) → IsSome (slot number) → (i : ℕ) × (i < length order) × (slice_index_or order i 0 ≡
        number)
    pub held : (number : ℕ) (value : HeldKey K) → slot number ≡ Some value → 0 < value.holds

-- what holds of a pool's lists, of the length of its order, and of how many keys there is room for
pub record IsKept {K : Type 0} (cmp : K → K → Ordering) (slots : List (Option (HeldKey K))) (free order : List ℕ) (len
    limit : ℕ) : Type 0 where
  pub indexed : IsKeyIndex cmp (slot_at slots) order
  pub free_slots : AreFree slots free
  pub counted : slot_count slots ≡ len
  pub within : length slots ≤ limit
