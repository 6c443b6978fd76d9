-- An index stays one where a row goes from both lists, or comes to both.
use Rattle.std.proofs.Common.{◌≡◌, sym, ◌∙◌, ap, subst, inl, inr, Bool, true, false, not, List, [], Option, Some, None, IfSome, IfNone}
use Rattle.std.proofs.lemmas.Bool.{not-true}
use Rattle.std.proofs.lemmas.Cmp.{nat_cmp_total, on_total, then_total}
use Rattle.std.proofs.lemmas.List.Kept.{IsStrictlySortedBy-filter}
use Rattle.std.specs.Cmp.{Equal-is, IsTotalOrder, tied_itself}
use Rattle.std.specs.List.{filter, list_any}
use Rattle.std.specs.List.Sorted.{IsStrictlySortedBy}
use Rattle.std.specs.Ordering.{eq_by_cmp, is_eq, nat_cmp}
use Rattle.std.specs.declared.cmp.Ordering.TheVariants.{Equal}
use Rattle.ifmap_lemmas.specs.Choices.{fails_too}
use Rattle.ifmap_lemmas.specs.Having.{Has, filter_has, has_filter}
use Rattle.ifmap_lemmas.specs.Orderings.{both_equal}
use Rattle.ifmap_lemmas.specs.Rising.{tied_same}
use Rattle.ifmap_meta.specs.declared.stored.Stored.{Stored}
use Rattle.ifmap_plans.specs.Placing.{put}
use Rattle.ifmap_plans.specs.laws.KeyLaws.{stored_total}
use Rattle.ifmap_plans.specs.laws.PlacingLaws.{has_put, has_put_one, put_has, put_sorted}
use Rattle.ifmap_plans.specs.ifmap_view.Attachments.{stored_order}
use Rattle.ifmap_rows.specs.Indexed.{IsIndexed, without_one, word_order}
use Rattle.ifmap_meta.specs.Keys.{word_of}
use Rattle.ifmap_rows.specs.laws.RisingLaws.{none_equal, put_again}

pub nothing_is_indexed : IsIndexed [] []
unfolding IsStrictlySortedBy
nothing_is_indexed = record { rising = tt; worded = tt; there = λ s h. h; back = λ s h. h }

pub words_total : IsTotalOrder word_order
words_total = then_total (on_total word_of nat_cmp_total) stored_total

-- two that are equal in the index are equal by their bytes
pub worded_equal : (a s : Stored) → is_eq (word_order a s) ≡ true → stored_order a s ≡ Equal
worded_equal a s e = (both_equal (nat_cmp (word_of a) (word_of s)) (stored_order a s) ((Equal-is (word_order a s)).0 e)).1

worded_differs : (a s : Stored) → is_eq (stored_order a s) ≡ false → is_eq (word_order a s) ≡ false
worded_differs a s e = fails_too (is_eq (word_order a s)) (is_eq (stored_order a s)) (λ t. ap is_eq (worded_equal a s t)) e

-- nothing has the bytes of a row that went
none_like_removed : (r : Stored) (rows : List Stored) (s : Stored)
    → Has (without_one stored_order r rows) s → is_eq (stored_order r s) ≡ false
none_like_removed r rows s h = not-true (is_eq (stored_order r s)) (filter_has (λ x. not (eq_by_cmp stored_order r x)) rows s h).1

module _ (rows index : List Stored) (is : IsIndexed rows index) where
  -- the same rows may go from both lists
  pub filter_keeps : (p : Stored → Bool) → IsIndexed (filter p rows) (filter p index)
  filter_keeps p = record {
    rising = IsStrictlySortedBy-filter stored_order p rows is.rising;
    worded = IsStrictlySortedBy-filter word_order p index is.worded;
    there = λ s h. let q = filter_has p index s h in has_filter p rows s (is.there s q.0) q.1;
    back = λ s h. let q = filter_has p rows s h in has_filter p index s (is.back s q.0) q.1;
  }

  module _ (r taken : Stored) (had : Has rows taken) (same : stored_order taken r ≡ Equal) where
    -- what has the bytes of the row is what was taken
    told : (s : Stored) → Has rows s → is_eq (stored_order r s) ≡ true → is_eq (word_order taken s) ≡ true
    told s h e =
        let equal : stored_order taken s ≡ Equal = stored_total.congr taken r s same ∙ (Equal-is (stored_order r s)).0 e in
        let one : taken ≡ s = tied_same stored_order stored_total rows taken s is.rising had h equal in
        subst (λ (x : Stored). is_eq (word_order taken x) ≡ true) one (ap is_eq (tied_itself words_total taken))

    back_told : (s : Stored) → is_eq (word_order taken s) ≡ true → is_eq (stored_order r s) ≡ true
    back_told s e = ap is_eq (sym (stored_total.congr taken r s same) ∙ worded_equal taken s e)

    there_still : (s : Stored) → Has (without_one word_order taken index) s → Has (without_one stored_order r rows) s
    there_still s h =
        let p = filter_has (λ x. not (eq_by_cmp word_order taken x)) index s h in
        let q = is.there s p.0 in
        has_filter (λ x. not (eq_by_cmp stored_order r x)) rows s q
        (ap not (fails_too (is_eq (stored_order r s)) (is_eq (word_order taken s)) (told s q) (not-true (is_eq (word_order taken s)) p.1)))

    back_still : (s : Stored) → Has (without_one stored_order r rows) s → Has (without_one word_order taken index) s
    back_still s h =
        let p = filter_has (λ x. not (eq_by_cmp stored_order r x)) rows s h in
        has_filter (λ x. not (eq_by_cmp word_order taken x)) index s (is.back s p.0)
        (ap not (fails_too (is_eq (word_order taken s)) (is_eq (stored_order r s)) (back_told s) (not-true (is_eq (stored_order r s)) p.1)))

    pub take_keeps : IsIndexed (without_one stored_order r rows) (without_one word_order taken index)
    take_keeps = record {
      rising = IsStrictlySortedBy-filter stored_order (λ x. not (eq_by_cmp stored_order r x)) rows is.rising;
      worded = IsStrictlySortedBy-filter word_order (λ x. not (eq_by_cmp word_order taken x)) index is.worded;
      there = there_still;
      back = back_still;
    }

  module _ (a : Stored) (fresh : (s : Stored) → Has rows s → is_eq (stored_order a s) ≡ false) where
    there_put : (s : Stored) → Has (put word_order a index) s → Has (put stored_order a rows) s
    there_put s h = elim (put_has Stored word_order words_total a index s h) [
      | inl e ↦ subst (Has (put stored_order a rows)) e (has_put_one Stored stored_order stored_total a rows)
      | inr p ↦ let q = is.there s p.0 in has_put Stored stored_order stored_total a rows s q (fresh s q)
    ]

    back_put : (s : Stored) → Has (put stored_order a rows) s → Has (put word_order a index) s
    back_put s h = elim (put_has Stored stored_order stored_total a rows s h) [
      | inl e ↦ subst (Has (put word_order a index)) e (has_put_one Stored word_order words_total a index)
      | inr p ↦ has_put Stored word_order words_total a index s (is.back s p.0) (worded_differs a s p.1)
    ]

    pub put_keeps : IsIndexed (put stored_order a rows) (put word_order a index)
    put_keeps = record {
      rising = put_sorted Stored stored_order stored_total a rows is.rising;
      worded = put_sorted Stored word_order words_total a index is.worded;
      there = there_put;
      back = back_put;
    }

-- a row comes to both lists, and the one that it replaces goes from the index
pub exchange_keeps_index : (rows index next : List Stored) (is : IsIndexed rows index) (a : Stored) (replaced : Option Stored)
    → IfSome replaced (λ r. Has rows r × (stored_order r a ≡ Equal))
    → IfNone replaced (list_any (λ s. eq_by_cmp stored_order s a) rows ≡ false)
    → IfSome replaced (λ r. next ≡ put word_order a (without_one word_order r index))
    → IfNone replaced (next ≡ put word_order a index) → IsIndexed (put stored_order a rows) next
exchange_keeps_index rows index next is a (Some r) had none some other =
    let left = take_keeps rows index is a r had.0 had.1 in
    let both = put_keeps (without_one stored_order a rows) (without_one word_order r index) left a (none_like_removed a rows) in
    subst (IsIndexed (put stored_order a rows)) (sym some)
    (subst (λ (l : List Stored). IsIndexed l (put word_order a (without_one word_order r index)))
    (put_again Stored stored_order stored_total a rows) both)
exchange_keeps_index rows index next is a None had none some other =
    subst (IsIndexed (put stored_order a rows)) (sym other)
    (put_keeps rows index is a (none_equal Stored stored_order stored_total a rows none))
