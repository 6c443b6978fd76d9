-- Which declaration of a list counts for a prefix at a path: the last one of it that stands at or round the element there.
use Rattle.std.specs.Prelude.{◌≡◌, ◌⊎◌, ◌≤◌, ◌==◌, ◌&&◌, ℕ, Bool, true, List, length, take, Option, Some}
use Rattle.std.specs.BTreeMap.{BTreeMap, get_by}
use Rattle.std.proofs.Common.{Bor}
use Rattle.std.specs.Cmp.Lexicographic.{slice_cmp}
use Rattle.std.specs.List.{slice_get, starts_with}
use Rattle.std.specs.Option.{option_and_then}
use Rattle.std.specs.Ordering.{is_eq, nat_cmp, ordering_then}
use Rattle.std.specs.Str.{bytes_eq}
use Rattle.std.specs.declared.cmp.Ordering.{Ordering}
use Rattle.ifmap_elem.specs.declared.readings.Declared.{Declared}

-- how a text compares to a key
abbrev pub at_text : List ℕ → Bor (List ℕ) → Ordering
at_text text key = slice_cmp nat_cmp text key.now

-- the indexes that are kept at paths, for each prefix
abbrev pub Indexes : Type 0
Indexes = BTreeMap (Bor (List ℕ)) ℕ

-- the index that is kept for a prefix and a path, where one is
abbrev pub index_at : BTreeMap (Bor (List ℕ)) Indexes → List ℕ → List ℕ → Option ℕ
index_at kept prefix path = option_and_then (λ indexes. get_by (at_text path) indexes) (get_by (at_text prefix) kept)

-- whether the declaration is of this prefix, and stands at this path
abbrev pub is_key : Declared → List ℕ → List ℕ → Bool
is_key d prefix path = is_eq (ordering_then (slice_cmp nat_cmp d.prefix prefix) (slice_cmp nat_cmp d.path path))

-- the declaration with that index is of this prefix, and stands at this path
pub record IsDeclaredAt (rows : List Declared) (prefix path : List ℕ) (i : ℕ) : Type 0 where
  pub row : Declared
  pub is : slice_get rows i ≡ Some row
  pub prefix_is : row.prefix ≡ prefix
  pub path_is : row.path ≡ path

-- there is an index, which is this one or a later one
pub record HasIndexFrom (answer : Option ℕ) (i : ℕ) : Type 0 where
  pub index : ℕ
  pub is : answer ≡ Some index
  pub late : i ≤ index

-- what is kept for a prefix and a path is the index of the last declaration of it there
pub record HasLast (kept : List ℕ → List ℕ → Option ℕ) (rows : List Declared) : Type 0 where
  pub found : (prefix path : List ℕ) (i : ℕ) → kept prefix path ≡ Some i → IsDeclaredAt rows prefix path i
  pub last : (prefix path : List ℕ) (i : ℕ) → IsDeclaredAt rows prefix path i → HasIndexFrom (kept prefix path) i

-- whether a declaration is of this prefix, and stands at or round the element at the path
abbrev pub is_at_or_round : List ℕ → List ℕ → Declared → Bool
is_at_or_round prefix path d = starts_with ◌==◌ path d.path && bytes_eq prefix d.prefix

-- it is the index of the last declaration of the prefix at or round the path, or there is none
pub record IsLastOf (rows : List Declared) (prefix path : List ℕ) (answer : Option ℕ) : Type 0 where
  pub found : (i : ℕ) → answer ≡ Some i → (d : Declared) × (slice_get rows i ≡ Some d) × (is_at_or_round prefix path d ≡ true)
  pub last : (i : ℕ) (d : Declared) → slice_get rows i ≡ Some d → is_at_or_round prefix path d ≡ true → HasIndexFrom answer i

-- of what is kept at the levels of a path, from the root to its end, the greatest
pub record IsLatest (kept_at : List ℕ → Option ℕ) (path : List ℕ) (answer : Option ℕ) : Type 0 where
  pub found : (i : ℕ) → answer ≡ Some i → (level : ℕ) × (level ≤ length path) × (kept_at (take level path) ≡ Some i)
  pub last : (level i : ℕ) → level ≤ length path → kept_at (take level path) ≡ Some i → HasIndexFrom answer i

-- the greater of two indexes, where there are two
pub record IsGreaterIndex (one other answer : Option ℕ) : Type 0 where
  pub either : (i : ℕ) → answer ≡ Some i → (one ≡ Some i) ⊎ (other ≡ Some i)
  pub first : (i : ℕ) → one ≡ Some i → HasIndexFrom answer i
  pub second : (i : ℕ) → other ≡ Some i → HasIndexFrom answer i
