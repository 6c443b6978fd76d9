-- What contracts see of a pool: keys under numbers, each with a count of its holds.
use Rattle.std.specs.Prelude.{◌≡◌, ◌⊎◌, ℕ, ◌+◌, ◌-◌, ◌<◌, Option, Some, None, IsSome, option_map, unwrap_or, refl, if◌then◌else◌}
use Rattle.std.specs.Ordering.{nat_cmp, is_eq}
use Rattle.std.specs.declared.cmp.Ordering.{Ordering}
use Rattle.std.specs.declared.cmp.Ordering.TheVariants.{Equal}
use Rattle.std.specs.FinMap.{FinMap, get, insert, remove, code}
use Rattle.std.specs.Coded.{Coded, code_by, coded×, coded_ℕ}

-- the live numbers, each with its key and the count of its holds, how many new keys fit with no memory, and a
-- limit that all numbers are below
pub record Holdings (K : Type 0) : Type 0 where
  pub live : FinMap nat_cmp (K × ℕ)
  pub spare : ℕ
  pub limit : ℕ

-- a pool is stored as the tuple of its fields
abbrev pub holdings_code : {K : Type 0} → Coded K → Coded (Holdings K)
holdings_code {K} key =
    code_by
    (FinMap nat_cmp (K × ℕ) × (ℕ × ℕ))
    (coded× (code coded_ℕ (coded× key coded_ℕ)) (coded× coded_ℕ coded_ℕ))
    (λ pool. (pool.live, (pool.spare, pool.limit)))
    (λ parts. record { live = parts.0; spare = parts.1.0; limit = parts.1.1 })
    (λ _. refl)

module _ {K : Type 0} where
  -- the key and the count of holds of a number, where it is live
  abbrev pub entry_at : Holdings K → ℕ → Option (K × ℕ)
  entry_at pool number = get pool.live number

  -- the key of a number, where it is live
  abbrev pub key_at : Holdings K → ℕ → Option K
  key_at pool number = option_map (λ entry. entry.0) (entry_at pool number)

  -- how often a number is held: never, where it is not live
  abbrev pub holds_at : Holdings K → ℕ → ℕ
  holds_at pool number = unwrap_or (option_map (λ entry. entry.1) (entry_at pool number)) 0

  -- the number was free, and is the key's, held once; one new key less fits
  pub record TakesNumber (old new : Holdings K) (number : ℕ) (key : K) : Type 0 where
    pub free : entry_at old number ≡ None
    pub live : new.live ≡ insert old.live number (key, 1)
    pub spare : new.spare + 1 ≡ old.spare
    pub limit : new.limit ≡ old.limit

  -- the number keeps its key and is held once more; nothing else changes
  abbrev pub HoldsAgain : Holdings K → Holdings K → ℕ → Type 0
  HoldsAgain old new number =
      (entry : K × ℕ) → entry_at old number ≡ Some entry
      → new ≡ record old { live = insert old.live number (entry.0, entry.1 + 1) }

  -- the number keeps its key and is held once less; nothing else changes
  abbrev pub LetsGo : Holdings K → Holdings K → ℕ → Type 0
  LetsGo old new number =
      (entry : K × ℕ) → entry_at old number ≡ Some entry → 1 < entry.1
      → new ≡ record old { live = insert old.live number (entry.0, entry.1 - 1) }

  -- the number is free, and one new key more fits
  pub record Frees (old new : Holdings K) (number : ℕ) : Type 0 where
    pub live : new.live ≡ remove old.live number
    pub spare : new.spare ≡ old.spare + 1
    pub limit : new.limit ≡ old.limit

  -- the number is held once less, or is free
  abbrev pub LetsOneGo : Holdings K → Holdings K → ℕ → Type 0
  LetsOneGo old new number =
      (entry : K × ℕ) × (entry_at old number ≡ Some entry)
      × (((1 < entry.1) × LetsGo old new number) ⊎ ((entry.1 ≡ 1) × Frees old new number))

module _ {K : Type 0} (cmp : K → K → Ordering) where
  -- the number is live, and its key equals this one
  abbrev pub Names : Holdings K → ℕ → K → Type 0
  Names pool number key = (entry : K × ℕ) × (entry_at pool number ≡ Some entry) × (cmp entry.0 key ≡ Equal)

  -- some live number has this key
  abbrev pub IsPresent : Holdings K → K → Type 0
  IsPresent pool key = (number : ℕ) × Names pool number key

  -- no live number has this key
  abbrev pub IsAbsent : Holdings K → K → Type 0
  IsAbsent pool key = (number : ℕ) → ¬ Names pool number key

  -- no two live numbers have one key
  abbrev pub OneToOne : Holdings K → Type 0
  OneToOne pool = (first second : ℕ) (key : K) → Names pool first key → Names pool second key → first ≡ second

  -- what holds of each pool: numbers and keys correspond, each number is below the limit, and is held
  pub record IsPool (pool : Holdings K) : Type 0 where
    pub one_to_one : OneToOne pool
    pub below : (number : ℕ) → IsSome (entry_at pool number) → number < pool.limit
    pub held : (number : ℕ) → IsSome (entry_at pool number) → 0 < holds_at pool number

  -- the key is held so often: by its number, or it has none
  abbrev pub IsHeld : Holdings K → K → ℕ → Type 0
  IsHeld pool key count =
      ((number : ℕ) × Names pool number key × (holds_at pool number ≡ count)) ⊎ (IsAbsent pool key × (count ≡ 0))

  -- one where the keys are equal, else none
  abbrev pub once : K → K → ℕ
  once one other = if is_eq (cmp one other) then 1 else 0

  -- the key had a number, which is held once more, or gets one that was free
  abbrev pub HoldsOne : Holdings K → Holdings K → ℕ → K → Type 0
  HoldsOne old new number key =
      (Names old number key × HoldsAgain old new number) ⊎ (IsAbsent old key × TakesNumber old new number key)
