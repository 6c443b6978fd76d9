-- Where entries go and are taken out, in sets that rise.
use Rattle.std.proofs.Common.{◌≡◌, refl, ap, ◌∙◌, sym, subst, ℕ, ◌+◌, ◌<◌, ◌≤◌, Bool, true, false, not, ◌&&◌, ◌||◌, List, ◌∷◌, length, get_or, drop, Result, Ok, Err}
use Rattle.std.proofs.lemmas.List.{drop_all, drop_more}
use Rattle.std.proofs.lemmas.List.Kept.{IsStrictlySortedBy-filter}
use Rattle.std.specs.Cmp.{IsTotalOrder}
use Rattle.std.specs.List.Sorted.{IsBinarySearchResult, IsSearchInRange, IsStrictlySortedBy}
use Rattle.std.specs.Ordering.{eq_by_cmp}
use Rattle.ifmap_client.specs.EntrySets.{IsEntryPlace, without_entry}
use Rattle.ifmap_folds.specs.Differences.{difference, entry_order, has_entry, same_entry}
use Rattle.ifmap_lemmas.specs.Filtered.{filter_agrees}
use Rattle.ifmap_lemmas.specs.Filters.{filter_twice, none_dropped}
use Rattle.ifmap_lemmas.specs.Inserted.{gap_none}
use Rattle.ifmap_lemmas.specs.Rising.{remove_tied}
use Rattle.ifmap_folds.specs.ifmap_plans.Placing.{put}
use Rattle.ifmap_folds.specs.ifmap_plans.laws.PlacingLaws.{found_is_put, gap_is_put, put_sorted}
use Rattle.ifmap_search.specs.declared.results.Entry.{Entry}
use Rattle.ifmap_folds.specs.laws.FoldingLaws.{entries_tie, difference_none, entries_total}

-- ---- taking out by place

-- where the search for a place ends
pub search_gives_entry_place : (e : Entry) (entries : List Entry) (r : Result ℕ ℕ) → IsStrictlySortedBy entry_order entries
    → IsSearchInRange r (length entries) → IsBinarySearchResult (λ x. entry_order x e) entries r → IsEntryPlace e entries r
search_gives_entry_place e entries (Ok i) up within is =
    let p = found_is_put Entry entry_order entries_total e entries i up within is in
    (p.0, p.1, remove_tied entry_order entries_total e entries i up within is)
search_gives_entry_place e entries (Err i) up within is =
    let p = gap_is_put Entry entry_order entries_total e entries i up within is in (
      p.0,
      p.1,
      none_dropped (λ y. eq_by_cmp entry_order y e) entries
          (gap_none Entry entry_order entries_total e entries i up within is),
    )

-- ---- one after the other

pub put_rises : (e : Entry) (entries : List Entry) → IsStrictlySortedBy entry_order entries
    → IsStrictlySortedBy entry_order (put entry_order e entries)
put_rises e entries up = put_sorted Entry entry_order entries_total e entries up

pub without_rises : (e : Entry) (entries : List Entry) → IsStrictlySortedBy entry_order entries
    → IsStrictlySortedBy entry_order (without_entry e entries)
without_rises e entries up = IsStrictlySortedBy-filter entry_order (λ x. not (eq_by_cmp entry_order x e)) entries up

not_either : (a b : Bool) → (not a && not b) ≡ not (a || b)
not_either true b = refl
not_either false b = refl

-- one taken out, and then the others
difference_step : (e : Entry) (es entries : List Entry) → difference (without_entry e entries) es ≡ difference entries (e ∷ es)
difference_step e es entries =
    filter_twice (λ x. not (eq_by_cmp entry_order x e)) (λ x. not (has_entry es x)) entries
    ∙ filter_agrees (λ x. not (eq_by_cmp entry_order x e) && not (has_entry es x)) (λ x. not (has_entry (e ∷ es) x)) entries
    (λ x h. ap (λ b. not b && not (has_entry es x)) (sym (entries_tie x e)) ∙ not_either (same_entry x e) (has_entry es x))

pub remove_next : (removed : List Entry) (i : ℕ) (e : Entry) (entries all : List Entry) → i < length removed → e ≡ get_or removed i e
    → difference entries (drop i removed) ≡ all → difference (without_entry e entries) (drop (i + 1) removed) ≡ all
remove_next removed i e entries all low at so =
    let front : drop i removed ≡ e ∷ drop (i + 1) removed =
    subst (λ y. drop i removed ≡ y ∷ drop (i + 1) removed) (sym at) (drop_more removed i e low) in
    difference_step e (drop (i + 1) removed) entries ∙ sym (ap (λ l. difference entries l) front) ∙ so

-- where all were taken out
pub removed_all : (removed : List Entry) (i : ℕ) (entries all : List Entry) → length removed ≤ i
    → difference entries (drop i removed) ≡ all → entries ≡ all
removed_all removed i entries all high so =
    sym (difference_none entries) ∙ ap (λ l. difference entries l) (sym (drop_all i removed high)) ∙ so
