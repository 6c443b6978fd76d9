-- The map that contracts see, against the slots.
use Rattle.std.proofs.Common.{◌≡◌, ◌≢◌, ℕ, zero, suc, ◌+◌, ◌<◌, List, [], ◌∷◌, map, get_or, Option, Some, None, cond, refl, sym, ap, ◌∙◌, inl, inr, arith}
use Rattle.std.proofs.lemmas.Bool.{cases_eq}
use Rattle.std.proofs.lemmas.List.Sums.{sum_by-cons}
use Rattle.std.specs.Prelude.{is_some, option_map}
use Rattle.std.specs.Ordering.{nat_cmp}
use Rattle.std.specs.Cmp.{nat_cmp_total}
use Rattle.std.specs.FinMap.{find, get, empty, from_entries, insert, len, remove, get-from_entries, get-insert, get-remove, len-empty, len-insert, same_map, nat_cmp-IsAntisymmetric}
use Rattle.ifmap_lemmas.specs.Numbers.{others_untied, ties_where_equal}
use Rattle.ifmap_pool.specs.Index.{entries_from, entry_of, live_keys, slot_count}
use Rattle.ifmap_pool.specs.declared.slots.HeldKey.{HeldKey}

module _ {K : Type 0} where
  abbrev pairs_from : ℕ → List (Option (HeldKey K)) → List (ℕ × (K × ℕ))
  pairs_from first slots = map (λ e. (e.0, entry_of e.1)) (entries_from first slots)

  -- no entry has a number below the first
  find_before : (first q : ℕ) (slots : List (Option (HeldKey K))) → q < first → find nat_cmp q (pairs_from first slots) ≡ None
  find_before first q [] h = refl
  find_before first q (None ∷ rest) h = find_before (first + 1) q rest (omega arith)
  find_before first q (Some held ∷ rest) h =
      ap (λ b. cond b (Some (entry_of held)) (find nat_cmp q (pairs_from (first + 1) rest))) (others_untied q first (omega arith))
      ∙ find_before (first + 1) q rest (omega arith)

  find_listed : (first q k : ℕ) (slots : List (Option (HeldKey K))) → q ≡ first + k
      → find nat_cmp q (pairs_from first slots) ≡ option_map entry_of (get_or slots k None)
  find_listed first q k [] e = refl
  find_listed first q zero (None ∷ rest) e = find_before (first + 1) q rest (omega arith)
  find_listed first q (suc k) (None ∷ rest) e = find_listed (first + 1) q k rest (omega arith)
  find_listed first q zero (Some held ∷ rest) e =
      let here : q ≡ first = omega arith in
      ap (λ b. cond b (Some (entry_of held)) (find nat_cmp q (pairs_from (first + 1) rest))) ((ties_where_equal q first).1 here)
  find_listed first q (suc k) (Some held ∷ rest) e =
      ap (λ b. cond b (Some (entry_of held)) (find nat_cmp q (pairs_from (first + 1) rest))) (others_untied q first (omega arith))
      ∙ find_listed (first + 1) q k rest (omega arith)

  -- the map has at a number what its slot has
  pub get-live_keys : (slots : List (Option (HeldKey K))) (number : ℕ)
      → get (live_keys slots) number ≡ option_map entry_of (get_or slots number None)
  unfolding live_keys
  get-live_keys slots number = get-from_entries nat_cmp_total (pairs_from 0 slots) number ∙ find_listed 0 number number slots (omega arith)

  pub live_keys-nil : (slots : List (Option (HeldKey K))) → slots ≡ [] → live_keys slots ≡ empty
  unfolding live_keys
  live_keys-nil slots e = ap (λ s. live_keys s) e

  -- a slot that is filled or written
  pub live_keys-set : (old new : List (Option (HeldKey K))) (number : ℕ) (held : HeldKey K)
      → get_or new number None ≡ Some held → ((other : ℕ) → other ≢ number → get_or new other None ≡ get_or old other None)
      → live_keys new ≡ insert (live_keys old) number (entry_of held)
  live_keys-set old new number held changed others =
      same_map nat_cmp_total nat_cmp-IsAntisymmetric _ _ (λ q.
      get-live_keys new q ∙ elim (cases_eq q number) [
        | inl same ↦ ap (λ n. option_map entry_of (get_or new n None)) same ∙ ap (option_map entry_of) changed
            ∙ sym (get-insert nat_cmp_total (live_keys old) number (entry_of held) q
            ∙ ap (λ b. cond b (Some (entry_of held)) (get (live_keys old) q)) ((ties_where_equal q number).1 same))
        | inr differs ↦ ap (option_map entry_of) (others q differs) ∙ sym (get-live_keys old q)
            ∙ sym (get-insert nat_cmp_total (live_keys old) number (entry_of held) q
            ∙ ap (λ b. cond b (Some (entry_of held)) (get (live_keys old) q)) (others_untied q number differs))
      ])

  -- a slot that is emptied
  pub live_keys-removed : (old new : List (Option (HeldKey K))) (number : ℕ)
      → get_or new number None ≡ None → ((other : ℕ) → other ≢ number → get_or new other None ≡ get_or old other None)
      → live_keys new ≡ remove (live_keys old) number
  live_keys-removed old new number changed others =
      same_map nat_cmp_total nat_cmp-IsAntisymmetric _ _ (λ q.
      get-live_keys new q ∙ elim (cases_eq q number) [
        | inl same ↦ ap (λ n. option_map entry_of (get_or new n None)) same ∙ ap (option_map entry_of) changed
            ∙ sym (get-remove nat_cmp_total (live_keys old) number q
            ∙ ap (λ b. cond b None (get (live_keys old) q)) ((ties_where_equal q number).1 same))
        | inr differs ↦ ap (option_map entry_of) (others q differs) ∙ sym (get-live_keys old q)
            ∙ sym (get-remove nat_cmp_total (live_keys old) number q
            ∙ ap (λ b. cond b None (get (live_keys old) q)) (others_untied q number differs))
      ])

  len_listed : (first : ℕ) (slots : List (Option (HeldKey K)))
      → len (from_entries {R = nat_cmp} (pairs_from first slots)) ≡ slot_count slots
  len_listed first [] = len-empty nat_cmp (K × ℕ)
  len_listed first (None ∷ rest) = len_listed (first + 1) rest
  len_listed first (Some held ∷ rest) =
      let none : get (from_entries {R = nat_cmp} (pairs_from (first + 1) rest)) first ≡ None
      = get-from_entries nat_cmp_total (pairs_from (first + 1) rest) first ∙ find_before (first + 1) first rest (omega arith)
      in let more : len (from_entries {R = nat_cmp} (pairs_from first (Some held ∷ rest)))
      ≡ len (from_entries {R = nat_cmp} (pairs_from (first + 1) rest)) + 1
      = len-insert nat_cmp_total (from_entries (pairs_from (first + 1) rest)) first (entry_of held)
      ∙ ap (λ o. cond (is_some o) (len (from_entries {R = nat_cmp} (pairs_from (first + 1) rest)))
      (len (from_entries {R = nat_cmp} (pairs_from (first + 1) rest)) + 1)) none
      in let one : slot_count (Some held ∷ rest) ≡ 1 + slot_count rest
      = sum_by-cons (λ (o : Option (HeldKey K)). cond (is_some o) 1 0) (Some held) rest
      in omega (arith, more, one, len_listed (first + 1) rest)

  -- it has as many keys as slots are not empty
  pub len-live_keys : (slots : List (Option (HeldKey K))) → len (live_keys slots) ≡ slot_count slots
  unfolding live_keys
  len-live_keys slots = len_listed 0 slots
