-- What a write, an insert and a removal make of a pool's lists and of what contracts see.
use Rattle.std.proofs.Common.{◌≡◌, ◌≢◌, ◌⊎◌, ℕ, ◌+◌, ◌-◌, ◌<◌, ◌≤◌, List, length, get_or, set, Option, Some, None, Err, Ordering, is_some, refl, sym, ap, subst, ◌∙◌, inl, inr, arith}
use Rattle.std.proofs.lemmas.List.{length-set, get_or-set_other}
use Rattle.std.proofs.lemmas.List.Sums.{count_by-le-length}
use Rattle.std.proofs.lemmas.Option.{none-some}
use Rattle.std.specs.Prelude.{option_map}
use Rattle.std.specs.List as lists
use Rattle.std.specs.Cmp.{IsTotalOrder}
use Rattle.std.specs.FinMap as map
use Rattle.ifmap_lemmas.specs.Options.{is_some_of}
use Rattle.ifmap_pool.specs.Holdings.{Holdings, IsPresent, IsPool, TakesNumber, Frees, entry_at}
use Rattle.ifmap_pool.specs.Index.{slot_at, slot_count, Writes, AreFree, IsKeyPlace, IsKept, entry_of, live_keys}
use Rattle.ifmap_pool.specs.declared.slots.HeldKey.{HeldKey}
use Rattle.ifmap_pool.proofs.Live.{live_keys-set, live_keys-removed}
use Rattle.ifmap_pool.proofs.Kept.{IsKeyIndex-written, IsKeyIndex-inserted, IsKeyIndex-removed}
use Rattle.ifmap_pool.proofs.Named.{Shows, same_holdings, entry_is, entry_known, is_pool, pool_kept, absent_at}
use Rattle.ifmap_pool.proofs.Emptiness.{one_of, slot_within, writes_slot, count_written}

module _ {K : Type 0} where
  -- what contracts see
  abbrev pub holdings_of : List (Option (HeldKey K)) → ℕ → ℕ → Holdings K
  holdings_of slots len limit = record { live = live_keys slots; spare = limit - len; limit = limit }

  -- a write over a slot that is not empty leaves which slots are
  free_written : (slots : List (Option (HeldKey K))) (free : List ℕ) (number : ℕ) (old value : HeldKey K) → slot_at slots number ≡ Some old
      → AreFree slots free → AreFree (set slots number (Some value)) free
  free_written slots free number old value was f =
      let inside = slot_within slots number (is_some_of _ old was) in
      let all = count_written slots number (Some value) inside in
      let had = ap one_of was in
      record {
        apart = f.apart;
        within = λ i lt. let within = f.within i lt in omega (arith, within, length-set slots number (Some value));
        empty = λ i lt.
            let apart : get_or free i 0 ≢ number = λ e. none-some old (sym (f.empty i lt) ∙ ap (slot_at slots) e ∙ was) in
            get_or-set_other slots number (get_or free i 0) (Some value) None apart ∙ f.empty i lt;
        counted = omega (arith, f.counted, all, had, length-set slots number (Some value));
      }

  module _ {cmp : K → K → Ordering} {slots : List (Option (HeldKey K))} {free order : List ℕ} {len limit : ℕ}
      (kept : IsKept cmp slots free order len limit) {pool : Holdings K} (is : holdings_of slots len limit ≡ pool) where
    pub shows_pool : Shows slots pool
    shows_pool = record { live = sym (ap (λ (p : Holdings K). p.live) is) }

    spare_is : limit - len ≡ pool.spare
    spare_is = ap (λ (p : Holdings K). p.spare) is

    pub limit_is : limit ≡ pool.limit
    limit_is = ap (λ (p : Holdings K). p.limit) is

    -- there are no more numbers than there is room for
    len_within : len ≤ limit
    len_within = let most = count_by-le-length is_some slots in omega (arith, most, kept.counted, kept.within)

    module _ (total : IsTotalOrder cmp) where
      pub whole_now : IsPool cmp pool
      whole_now = is_pool shows_pool total kept.indexed (omega (arith, kept.within, limit_is))

      -- the same keys, under a limit that is no lower
      pub whole_after : (new : Holdings K) → new.live ≡ live_keys slots → limit ≤ new.limit → IsPool cmp new
      whole_after new same le = pool_kept cmp pool new (same ∙ sym shows_pool.live) (omega (arith, le, limit_is)) whole_now

      -- where a key is missed there is room for it
      pub room_for_new : (key : K) (place : ℕ) → IsKeyPlace cmp (slot_at slots) order key (Err place)
          → (0 < pool.spare) ⊎ IsPresent cmp pool key → slot_count slots < limit
      room_for_new key place missing (inl some) = omega (arith, some, spare_is, kept.counted)
      room_for_new key place missing (inr present) =
          absurd (absent_at shows_pool total kept.indexed key place missing present.0 present.1)

      -- the count of a number becomes another
      module _ (number : ℕ) (old : HeldKey K) (was : slot_at slots number ≡ Some old) (counts : ℕ → ℕ) (some : 0 < counts old.holds)
          {after : List (Option (HeldKey K))} (wrote : after ≡ set slots number (Some (record old { holds = counts old.holds }))) where
        abbrev key_after : HeldKey K
        key_after = record old { holds = counts old.holds }

        is_written : Writes slots after number (Some key_after)
        is_written = subst (λ (s : List (Option (HeldKey K))). Writes slots s number (Some key_after)) (sym wrote)
            (writes_slot slots number (Some key_after) (slot_within slots number (is_some_of _ old was)))

        kept_write : IsKept cmp after free order len limit
        kept_write = record {
          indexed = IsKeyIndex-written total (slot_at slots) (slot_at after) order kept.indexed number old key_after was
              is_written.changed refl some is_written.others;
          free_slots = subst (λ (s : List (Option (HeldKey K))). AreFree s free) (sym wrote)
              (free_written slots free number old key_after was
              kept.free_slots);
          counted =
              let all = count_written slots number (Some key_after) (slot_within slots number (is_some_of _ old was)) in
              let had = ap one_of was in
              omega (arith, kept.counted, all, had, ap slot_count wrote);
          within = omega (arith, kept.within, ap length wrote, length-set slots number (Some key_after));
        }

        seen_write : (entry : K × ℕ) → entry_at pool number ≡ Some entry
            → holdings_of after len limit ≡ record pool { live = map.insert pool.live number (entry.0, counts entry.1) }
        seen_write entry there =
            subst (λ (x : K × ℕ). holdings_of after len limit ≡ record pool { live = map.insert pool.live number (x.0, counts x.1) })
            (entry_known shows_pool number old entry was there)
            (same_holdings _ _
            (live_keys-set slots after number key_after is_written.changed is_written.others
            ∙ ap (λ (p : Holdings K). map.insert p.live number (key_after.key, key_after.holds)) is)
            spare_is limit_is)

        pub write_count : IsKept cmp after free order len limit × ((entry : K × ℕ) → entry_at pool number ≡ Some entry
            → holdings_of after len limit ≡ record pool { live = map.insert pool.live number (entry.0, counts entry.1) })
        write_count = (kept_write, seen_write)

      -- a free number is taken for a key that was missed
      module _ (number place : ℕ) (key : K) (vacant : slot_at slots number ≡ None) (room : slot_count slots < limit)
          (missing : IsKeyPlace cmp (slot_at slots) order key (Err place))
          {after : List (Option (HeldKey K))} {rest items : List ℕ} {longer : ℕ}
          (writes : Writes slots after number (Some (record { key = key; holds = 1 }))) (are_free : AreFree after rest)
          (counted : slot_count after ≡ slot_count slots + 1)
          (inside : length after ≤ limit) (listed : items ≡ lists.insert order place number) (long : longer ≡ len + 1) where
        abbrev once_held : HeldKey K
        once_held = record { key = key; holds = 1 }

        kept_take : IsKept cmp after rest items longer limit
        kept_take = record {
          indexed = rw listed
              (IsKeyIndex-inserted total (slot_at slots) (slot_at after) order kept.indexed number place once_held vacant writes.changed
              (omega arith) writes.others missing.0 missing.1 missing.2);
          free_slots = are_free;
          counted = omega (arith, kept.counted, counted, long);
          within = inside;
        }

        seen_take : TakesNumber pool (holdings_of after longer limit) number key
        seen_take = record {
          free = entry_is shows_pool number ∙ ap (option_map entry_of) vacant;
          live = live_keys-set slots after number once_held writes.changed writes.others
              ∙ ap (λ (p : Holdings K). map.insert p.live number (key, 1)) is;
          spare = omega (arith, spare_is, long, room, kept.counted);
          limit = limit_is;
        }

        pub take_number : IsKept cmp after rest items longer limit × TakesNumber pool (holdings_of after longer limit) number key
        take_number = (kept_take, seen_take)

      -- a number is freed
      module _ (number place : ℕ) (here : place < length order) (stood : get_or order place 0 ≡ number)
          {after : List (Option (HeldKey K))} {rest items : List ℕ} (shorter : ℕ)
          (writes : Writes slots after number None) (are_free : AreFree after rest) (counted : slot_count after + 1 ≡ slot_count slots)
          (same : length after ≡ length slots) (listed : items ≡ lists.remove order place) (short : shorter + 1 ≡ len) where
        kept_free : IsKept cmp after rest items shorter limit
        kept_free = record {
          indexed = rw listed (IsKeyIndex-removed total (slot_at slots) (slot_at after) order kept.indexed number place here stood
              writes.changed writes.others);
          free_slots = are_free;
          counted = omega (arith, kept.counted, counted, short);
          within = omega (arith, kept.within, same);
        }

        seen_free : Frees pool (holdings_of after shorter limit) number
        seen_free = record {
          live = live_keys-removed slots after number writes.changed writes.others ∙ ap (λ (p : Holdings K). map.remove p.live number) is;
          spare = omega (arith, spare_is, short, len_within);
          limit = limit_is;
        }

        pub free_number : IsKept cmp after rest items shorter limit × Frees pool (holdings_of after shorter limit) number
        free_number = (kept_free, seen_free)
