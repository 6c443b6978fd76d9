-- Slots and the numbers of the empty ones, after one is filled or emptied.
use Rattle.std.proofs.Common.{◌≡◌, ◌≢◌, ℕ, ◌+◌, ◌<◌, List, [], ◌∷◌, ◌++◌, length, get_or, set, Option, Some, None, is_some, cond, refl, sym, ap, subst, ◌∙◌, arith, Ordering, true≢false}
use Rattle.std.specs.Prelude.{IsSome}
use Rattle.std.proofs.lemmas.List.{get_or-set_same, get_or-set_other, get_or_past, get_or_push, get_or_append_left, length-set, length_push}
use Rattle.std.proofs.lemmas.List.Sums.{sum_by-set}
use Rattle.std.proofs.lemmas.Option.{none-some}
use Rattle.ifmap_pool.specs.Index.{slot_at, slot_count, Writes, AreFree, IsKept}
use Rattle.ifmap_pool.specs.declared.slots.HeldKey.{HeldKey}

module _ {K : Type 0} where
  -- a slot that is not empty is there
  pub slot_within : (slots : List (Option (HeldKey K))) (number : ℕ) → IsSome (slot_at slots number) → number < length slots
  slot_within slots number some = grind (arith, get_or_past)

  -- one for a slot that is not empty
  abbrev pub one_of : Option (HeldKey K) → ℕ
  one_of o = cond (is_some o) 1 0

  -- the count of the slots that are not empty, after a write
  pub count_written : (slots : List (Option (HeldKey K))) (number : ℕ) (slot : Option (HeldKey K)) → number < length slots
      → slot_count (set slots number slot) + one_of (slot_at slots number) ≡ slot_count slots + one_of slot
  count_written slots number slot within = sum_by-set one_of slots number slot None within

  pub writes_slot : (slots : List (Option (HeldKey K))) (number : ℕ) (slot : Option (HeldKey K)) → number < length slots
      → Writes slots (set slots number slot) number slot
  writes_slot slots number slot within = record {
    changed = get_or-set_same slots number slot None within;
    others = λ other differs. get_or-set_other slots number other slot None differs;
  }

  -- the last of the free numbers is taken
  module _ (slots : List (Option (HeldKey K))) (free rest : List ℕ) (number : ℕ) (is : free ≡ rest ++ number ∷ []) (f : AreFree slots free)
    where
      long : length free ≡ length rest + 1
      long = ap length is ∙ length_push rest number

      last : get_or free (length rest) 0 ≡ number
      last = ap (λ (l : List ℕ). get_or l (length rest) 0) is ∙ get_or_push rest number 0 (length rest) refl

      before : (i : ℕ) → i < length rest → get_or free i 0 ≡ get_or rest i 0
      before i lt = ap (λ (l : List ℕ). get_or l i 0) is ∙ get_or_append_left rest (number ∷ []) 0 i lt

      pub last_within : number < length slots
      last_within = subst (λ (n : ℕ). n < length slots) last (f.within (length rest) (omega (arith, long)))

      pub last_empty : slot_at slots number ≡ None
      last_empty = subst (λ (n : ℕ). slot_at slots n ≡ None) last (f.empty (length rest) (omega (arith, long)))

      pub count_filled : (held : HeldKey K) → slot_count (set slots number (Some held)) ≡ slot_count slots + 1
      count_filled held =
          let all = count_written slots number (Some held) last_within in
          let none : one_of (slot_at slots number) ≡ 0 = ap one_of last_empty in
          omega (arith, all, none)

      pub free_filled : (held : HeldKey K) → AreFree (set slots number (Some held)) rest
      free_filled held = record {
        apart = λ i j lt within e. f.apart i j lt (omega (arith, long, within)) (before i (omega (arith, lt, within)) ∙ e ∙ sym (before j
            within));
        within = λ i lt. let inside = f.within i (omega (arith, long, lt)) in let same = before i lt in omega (
          arith,
          inside,
          same,
          length-set slots number (Some held),
        );
        empty = λ i lt.
            let apart : get_or rest i 0 ≢ number = λ e. f.apart i (length rest) lt (omega (arith, long)) (before i lt ∙ e ∙ sym last) in
            get_or-set_other slots number (get_or rest i 0) (Some held) None apart
            ∙ ap (slot_at slots) (sym (before i lt)) ∙ f.empty i (omega (arith, long, lt));
        counted = omega (arith, f.counted, count_filled held, long, length-set slots number (Some held));
      }

  -- no slot, and no number
  pub kept_none : (cmp : K → K → Ordering) → IsKept cmp [] [] [] 0 0
  kept_none cmp = record {
    indexed = record {
      rising = λ i j a b lt within. absurd (omega (arith, within));
      live = λ i within. absurd (omega (arith, within));
      listed = λ number some. absurd (true≢false (sym some));
      held = λ number value e. absurd (none-some value e);
    };
    free_slots = record {
      apart = λ i j lt within. absurd (omega (arith, within));
      within = λ i lt. absurd (omega (arith, lt));
      empty = λ i lt. absurd (omega (arith, lt));
      counted = refl;
    };
    counted = refl;
    within = omega arith;
  }
