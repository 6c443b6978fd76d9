-- Entries and items, one more at a time.
use Rattle.std.proofs.Common.{◌≡◌, ℕ, ◌+◌, ◌<◌, Bool, true, false, cond, List, [], ◌∷◌, ◌++◌, map, Option}
use Rattle.std.proofs.Common.{length, take, get_or, refl, ap, ◌∙◌, sym}
use Rattle.std.proofs.Math.Nat.{add-zero}
use Rattle.std.proofs.lemmas.Grind.{flat_map-append}
use Rattle.std.proofs.lemmas.List.{append-nil, map-append, take_more}
use Rattle.std.proofs.lemmas.List.Elements.{filter-append}
use Rattle.std.proofs.lemmas.List.Sums.{sum_by-append, sum_by-cons}
use Rattle.std.specs.List.{filter}
use Rattle.ifmap_search.specs.ifmap_filter.declared.filters.Filter.{Filter}
use Rattle.ifmap_search.specs.ifmap_filter.Meets.{meets_optional}
use Rattle.ifmap_ident.specs.declared.items.Item.{Item}
use Rattle.ifmap_meta.specs.declared.stored.Stored.{Stored}
use Rattle.ifmap_search.specs.declared.results.Entry.{Entry}
use Rattle.ifmap_search.specs.Sizes.{entries_size, entry_size}
use Rattle.ifmap_view.specs.declared.attachments.Attachment.{Attachment}
use Rattle.ifmap_view.specs.Rows.{stored_on}
use Rattle.ifmap_elem.specs.Canonical.{canonical_bytes}
use Rattle.ifmap_ident.specs.Items.{item_size}
use Rattle.ifmap_fresh.specs.Gathered.{entries_of, entries_on, stored_entry, row_size}

split : (by : Option Filter) (i : Item) (xs : List Stored) (k : ℕ) (s : Stored) → k < length xs → s ≡ get_or xs k s
    → entries_of by i (take (k + 1) xs) ≡ entries_of by i (take k xs) ++ map (stored_entry i)
    (filter (λ x. meets_optional by x.element) (s ∷ []))
split by i xs k s h e =
    ap (entries_of by i) (take_more xs k s h ∙ ap (λ x. take k xs ++ x ∷ []) (sym e))
    ∙ ap (map (stored_entry i)) (filter-append (λ x. meets_optional by x.element) (take k xs) (s ∷ []))
    ∙ map-append (stored_entry i) (filter (λ x. meets_optional by x.element) (take k xs))
    (filter (λ x. meets_optional by x.element) (s ∷ []))

size_is : (i : Item) (s : Stored) → entry_size (stored_entry i s) ≡ item_size i + length (canonical_bytes s.element)
unfolding entry_size
size_is i s = refl

-- the size of one entry
one_size : (i : Item) (own : ℕ) (s : Stored) → own ≡ item_size i
    → entries_size (stored_entry i s ∷ []) ≡ own + length (canonical_bytes s.element)
one_size i own s o =
    sum_by-cons entry_size (stored_entry i s) [] ∙ add-zero (entry_size (stored_entry i s)) ∙ size_is i s
    ∙ ap (λ n. n + length (canonical_bytes s.element)) (sym o)

-- one row more
pub rows_more : (by : Option Filter) (i : Item) (own : ℕ) (xs : List Stored) (k : ℕ) (s : Stored) → own ≡ item_size i → k < length xs
    → s ≡ get_or xs k s
    → entries_size (entries_of by i (take (k + 1) xs)) ≡ entries_size (entries_of by i (take k xs)) + row_size own by s
rows_more by i own xs k s o h e =
    ap entries_size (split by i xs k s h e)
    ∙ sum_by-append entry_size (entries_of by i (take k xs)) (map (stored_entry i) (filter (λ x. meets_optional by x.element) (s ∷ [])))
    ∙ ap (λ n. entries_size (entries_of by i (take k xs)) + n) (at (meets_optional by s.element))
  where
    at : (b : Bool) → entries_size (map (stored_entry i) (cond b (s ∷ []) [])) ≡ cond b (own + length (canonical_bytes s.element)) 0
    at true = one_size i own s o
    at false = refl

-- one item more
pub item_more : (by : Option Filter) (rows : List Attachment) (is : List Item) (k : ℕ) (i : Item) → k < length is → i ≡ get_or is k i
    → entries_on by rows (take (k + 1) is) ≡ entries_on by rows (take k is) ++ entries_of by i (stored_on i rows)
item_more by rows is k i h e =
    ap (entries_on by rows) (take_more is k i h ∙ ap (λ x. take k is ++ x ∷ []) (sym e))
    ∙ flat_map-append (λ i. entries_of by i (stored_on i rows)) (take k is) (i ∷ [])
    ∙ ap (λ l. entries_on by rows (take k is) ++ l) (append-nil (entries_of by i (stored_on i rows)))

pub sizes_more : (xs ys : List Entry) → entries_size (xs ++ ys) ≡ entries_size xs + entries_size ys
sizes_more xs ys = sum_by-append entry_size xs ys

-- what a row adds that meets the filter
pub met_size : (own n : ℕ) (by : Option Filter) (s : Stored) → n ≡ length (canonical_bytes s.element)
    → meets_optional by s.element ≡ true → own + n ≡ row_size own by s
met_size own n by s e t = ap (λ m. own + m) e ∙ sym (ap (λ b. cond b (own + length (canonical_bytes s.element)) 0) t)
