-- What is told of a change makes the next result of the one before.
use Rattle.std.proofs.Common.{◌≡◌, ◌⊎◌, inl, inr, Bool, true, false, not, ◌&&◌, List, [], ◌∷◌, refl, ap, ◌∙◌, map}
use Rattle.std.proofs.Common.{sym, subst}
use Rattle.std.proofs.lemmas.Bool.{cases_Bool}
use Rattle.std.proofs.lemmas.Cmp.{eq_by_cmp_equiv, nat_list_cmp_total, on_total, then_total}
use Rattle.std.proofs.lemmas.List.Kept.{IsStrictlySortedBy-filter}
use Rattle.std.specs.Cmp.{IsTotalOrder, tied_itself, tied_then}
use Rattle.std.specs.Cmp.Lexicographic.{slice_cmp, texts_ties}
use Rattle.std.specs.List.{filter}
use Rattle.std.specs.List.Sorted.{IsStrictlySortedBy}
use Rattle.std.specs.Ordering.{is_eq, nat_cmp}
use Rattle.std.specs.Str.{bytes_eq}
use Rattle.std.specs.declared.cmp.Ordering.TheVariants.{Less}
use Rattle.ifmap_ident.specs.Items.{item_order, items_tie}
use Rattle.ifmap_lemmas.specs.Having.{Has, any_has, filter_has, has_any, has_filter, all_has}
use Rattle.ifmap_lemmas.specs.Orderings.{eq_reversed}
use Rattle.ifmap_plans.specs.Placing.{put}
use Rattle.ifmap_plans.specs.laws.PlacingLaws.{has_put, has_put_one, put_has, put_sorted}
use Rattle.ifmap_ident.specs.SameLaws.{items_total}
use Rattle.ifmap_fresh.specs.ifmap_search.declared.results.Entry.{Entry}
use Rattle.ifmap_folds.specs.Differences.{difference, entry_bytes, entry_order, has_entry, same_entry}
use Rattle.ifmap_folds.specs.Folds.{with_entries}
use Rattle.ifmap_fresh.specs.ifmap_view.declared.attachments.Attachment.{Attachment}
use Rattle.ifmap_fresh.specs.ifmap_view.Attachments.{attachment_order, stored_bytes, IsGraph}
use Rattle.ifmap_lemmas.specs.Filters.{all_weaker}
use Rattle.ifmap_lemmas.specs.Members.{map_of_all}
use Rattle.ifmap_lemmas.specs.Rising.{head_rises, rising_same, tail_rises}
use Rattle.ifmap_fresh.specs.Fresh.{fresh, is_found}
use Rattle.ifmap_fresh.specs.ifmap_search.declared.searches.Search.{Search}
use Rattle.ifmap_fresh.specs.laws.GatheringLaws.{row_entry}

pub entries_total : IsTotalOrder entry_order
entries_total = then_total (on_total (λ (e : Entry). e.item) items_total) (on_total entry_bytes nat_list_cmp_total)

-- entries are one exactly where the order does not tell them apart
pub entries_tie : (x y : Entry) → same_entry x y ≡ is_eq (entry_order x y)
entries_tie x y =
    ap (λ b. b && bytes_eq (entry_bytes x) (entry_bytes y)) (items_tie x.item y.item)
    ∙ ap (λ b. is_eq (item_order x.item y.item) && b) (texts_ties (entry_bytes x) (entry_bytes y))
    ∙ tied_then (item_order x.item y.item) (slice_cmp nat_cmp (entry_bytes x) (entry_bytes y))

pub same_turned : (x y : Entry) → same_entry x y ≡ same_entry y x
same_turned x y =
    entries_tie x y ∙ ap is_eq (entries_total.antisymm x y) ∙ eq_reversed (entry_order y x) ∙ sym (entries_tie y x)

same_entry_itself : (x : Entry) → same_entry x x ≡ true
same_entry_itself x = entries_tie x x ∙ ap is_eq (tied_itself entries_total x)

not_of : (b : Bool) → not b ≡ true → b ≡ true → ⊥
not_of true e f = let q : false ≡ true = e in cc
not_of false e f = let q : false ≡ true = f in cc

with_rises : (es set : List Entry) → IsStrictlySortedBy entry_order set → IsStrictlySortedBy entry_order (with_entries es set)
with_rises [] set r = r
with_rises (e ∷ es) set r = with_rises es (put entry_order e set) (put_sorted Entry entry_order entries_total e set r)

with_has : (es set : List Entry) (z : Entry) → Has (with_entries es set) z → Has es z ⊎ Has set z
with_has [] set z h = inr h
with_has (e ∷ es) set z h = elim (with_has es (put entry_order e set) z h) [
  | inl k ↦ inl (inr k)
  | inr k ↦ elim (put_has Entry entry_order entries_total e set z k) [
    | inl q ↦ inl (inl q)
    | inr m ↦ inr m.0
  ]
]

has_kept : (es set : List Entry) (z : Entry) → Has set z → ((e : Entry) → Has es e → is_eq (entry_order z e) ≡ false)
    → Has (with_entries es set) z
has_kept [] set z h d = h
has_kept (e ∷ es) set z h d =
    has_kept es (put entry_order e set) z
    (has_put Entry entry_order entries_total e set z h ((eq_by_cmp_equiv entries_total).symm e z ∙ d e (inl refl)))
    (λ x k. d x (inr k))

has_with : (es set : List Entry) (z : Entry) → IsStrictlySortedBy entry_order es → Has es z → Has (with_entries es set) z
has_with [] set z r h = absurd h
has_with (e ∷ es) set z r (inl q) =
    subst (λ x. Has (with_entries es (put entry_order e set)) x) q
    (has_kept es (put entry_order e set) e (has_put_one Entry entry_order entries_total e set)
    (λ x k. ap is_eq (all_has (λ y. entry_order e y ≡ Less) es (head_rises entry_order e es r) x k)))
has_with (e ∷ es) set z r (inr k) = has_with es (put entry_order e set) z (tail_rises entry_order e es r) k

module _ (a b : List Entry) (apart : (x y : Entry) → Has a x → Has b y → same_entry x y ≡ true → x ≡ y)
    (rises : IsStrictlySortedBy entry_order a) (next : IsStrictlySortedBy entry_order b) where
  abbrev entries_gone : List Entry
  entries_gone = difference a b

  abbrev entries_come : List Entry
  entries_come = difference b a

  abbrev rest : List Entry
  rest = difference a entries_gone

  there : (z : Entry) → Has (with_entries entries_come rest) z → Has b z
  there z h = elim (with_has entries_come rest z h) [
    | inl k ↦ (filter_has (λ e. not (has_entry a e)) b z k).0
    | inr k ↦ let f = filter_has (λ e. not (has_entry entries_gone e)) a z k
        in elim (cases_Bool (has_entry b z)) [
          | inl t ↦ let y = any_has (same_entry z) b t in subst (λ x. Has b x) (sym (apart z y.0 f.0 y.1 y.2)) y.1
          | inr t ↦ absurd (not_of (has_entry entries_gone z) f.1
              (has_any (same_entry z) entries_gone z (has_filter (λ e. not (has_entry b e)) a z f.0 (ap not t)) (same_entry_itself z)))
        ]
  ]

  back : (z : Entry) → Has b z → Has (with_entries entries_come rest) z
  back z h = elim (cases_Bool (has_entry a z)) [
    | inl t ↦ let x = any_has (same_entry z) a t
        in let same : x.0 ≡ z = apart x.0 z x.1 h (same_turned x.0 z ∙ x.2)
        in let here : Has a z = subst (λ y. Has a y) same x.1
        in has_kept entries_come rest z
        (has_filter (λ e. not (has_entry entries_gone e)) a z here
        (elim (cases_Bool (has_entry entries_gone z)) [
          | inl u ↦ let w = any_has (same_entry z) entries_gone u
              in let f = filter_has (λ e. not (has_entry b e)) a w.0 w.1
              in absurd (not_of (has_entry b w.0) f.1 (has_any (same_entry w.0) b z h (same_turned w.0 z ∙ w.2)))
          | inr u ↦ ap not u
        ]))
        (λ e k. elim (cases_Bool (is_eq (entry_order z e))) [
          | inl u ↦ let f = filter_has (λ e. not (has_entry a e)) b e k
              in absurd (not_of (has_entry a e) f.1
              (has_any (same_entry e) a z here (same_turned e z ∙ entries_tie z e ∙ u)))
          | inr u ↦ u
        ])
    | inr t ↦ has_with entries_come rest z (IsStrictlySortedBy-filter entry_order (λ e. not (has_entry a e)) b next)
        (has_filter (λ e. not (has_entry a e)) b z h (ap not t))
  ]

  pub next_made : with_entries entries_come rest ≡ b
  next_made = rising_same entry_order entries_total (with_entries entries_come rest) b
      (with_rises entries_come rest (IsStrictlySortedBy-filter entry_order (λ e. not (has_entry entries_gone e)) a rises)) next there back

-- nothing is taken out
pub difference_none : (entries : List Entry) → difference entries [] ≡ entries
difference_none [] = refl
difference_none (e ∷ entries) = ap (λ t. e ∷ t) (difference_none entries)

pub entries_order : (a b : Attachment) → attachment_order a b ≡ entry_order (row_entry a) (row_entry b)
unfolding stored_bytes entry_bytes
entries_order a b = refl

pub mapped_rising : (rows : List Attachment) → IsStrictlySortedBy attachment_order rows
    → IsStrictlySortedBy entry_order (map row_entry rows)
unfolding IsStrictlySortedBy
mapped_rising [] up = tt
mapped_rising (a ∷ rows) up = (
  map_of_all (λ e. entry_order (row_entry a) e ≡ Less) row_entry rows (all_weaker (λ b. attachment_order a b ≡ Less)
      (λ b. entry_order (row_entry a) (row_entry b) ≡ Less) (λ b l. sym (entries_order a b) ∙ l) rows up.0),
  mapped_rising rows up.1,
)

pub fresh_rises : (rows : List Attachment) (s : Search) → IsGraph rows → IsStrictlySortedBy entry_order (fresh rows s)
fresh_rises rows s g = mapped_rising (filter (is_found rows s) rows)
    (IsStrictlySortedBy-filter attachment_order (is_found rows s) rows g.rising)
