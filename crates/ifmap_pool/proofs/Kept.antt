-- What stays of the list of numbers through a hold and a release.
-- Plan: where what stands at a place of the list stood before an insert or a removal (`Moved`, `Closed`); what the order
-- tells of places, numbers and searches (`one_place`, `one_number`, `none_missed`, `number_found`); that the list stays
-- in order as a value is written, put in or taken out (`IsKeyIndex-written`, `IsKeyIndex-inserted`, `IsKeyIndex-removed`).
use Rattle.std.proofs.Common.{◌≡◌, ◌≢◌, ◌⊎◌, ℕ, suc, ◌+◌, ◌-◌, ◌<◌, ◌≤◌, List, length, get_or, Option, Some, None, Ok, Err, Ordering, refl, sym, ap, subst, ◌∙◌, inl, inr, arith}
use Rattle.std.proofs.lemmas.Bool.{cases_eq, cases_lt}
use Rattle.std.proofs.lemmas.Cmp.{tied_itself, tied_back}
use Rattle.std.proofs.lemmas.List.{get_or_default}
use Rattle.std.proofs.lemmas.List.Edits.{length-insert, get_or-insert_below, get_or-insert_at, get_or-insert_above, length-remove, get_or-remove_below, get_or-remove_above}
use Rattle.std.proofs.lemmas.Option.{same_Some, none-some}
use Rattle.std.specs.Prelude.{IsSome}
use Rattle.std.specs.List.{insert, remove}
use Rattle.std.specs.Cmp.{IsTotalOrder}
use Rattle.std.specs.declared.cmp.Ordering.TheVariants.{Equal}
use Rattle.ifmap_lemmas.specs.Options.{is_some_of, some_is}
use Rattle.ifmap_lemmas.specs.Orderings.{greater_reversed}
use Rattle.ifmap_pool.specs.Index.{AllBelow, AllAbove, IsKeyPlace, IsKeyIndex}
use Rattle.ifmap_pool.specs.declared.slots.HeldKey.{HeldKey}

-- what stands at a place after an insert stood in the list before
record Moved (order : List ℕ) (place number k : ℕ) : Type 0 where
  from : ℕ
  within : from < length order
  elsewhere : k ≢ place
  front : k < place → from ≡ k
  back : place ≤ k → suc from ≡ k
  is : get_or (insert order place number) k 0 ≡ get_or order from 0

places_move : (order : List ℕ) (place number k : ℕ) → place ≤ length order → k < length order + 1
    → Moved order place number k ⊎ ((k ≡ place) × (get_or (insert order place number) k 0 ≡ number))
places_move order place number k within k_in =
    elim (cases_eq k place) [
      | inl here ↦ inr (here, ap (λ i. get_or (insert order place number) i 0) here ∙ get_or-insert_at order place number 0 within)
      | inr differs ↦ elim (cases_lt k place) [
        | inl before ↦ inl (record {
          from = k;
          within = omega arith;
          elsewhere = differs;
          front = λ _. refl;
          back = λ h. absurd (omega arith);
          is = get_or-insert_below order place number 0 k before within;
        })
        | inr past ↦
            let next : k ≡ (k - 1) + 1 = omega arith in
            let above = get_or-insert_above order place number 0 (k - 1) (omega arith) within in
            inl (record {
              from = k - 1;
              within = omega arith;
              elsewhere = differs;
              front = λ h. absurd (omega arith);
              back = λ _. omega arith;
              is = ap (λ i. get_or (insert order place number) i 0) next ∙ above;
            })
      ]
    ]

-- what stands at a place after a removal stood in the list before
record Closed (order : List ℕ) (place k : ℕ) : Type 0 where
  from : ℕ
  within : from < length order
  front : k < place → from ≡ k
  back : place ≤ k → from ≡ suc k
  is : get_or (remove order place) k 0 ≡ get_or order from 0

places_close : (order : List ℕ) (place k : ℕ) → place < length order → k + 1 < length order → Closed order place k
places_close order place k within k_in =
    elim (cases_lt k place) [
      | inl before ↦ record {
        from = k;
        within = omega arith;
        front = λ _. refl;
        back = λ h. absurd (omega arith);
        is = get_or-remove_below order place 0 k before within;
      }
      | inr past ↦ record {
        from = k + 1;
        within = omega arith;
        front = λ h. absurd (omega arith);
        back = λ _. omega arith;
        is = get_or-remove_above order place 0 k past within;
      }
    ]

module _ {K : Type 0} {cmp : K → K → Ordering} (total : IsTotalOrder cmp) where
  module _ (slot : ℕ → Option (HeldKey K)) (order : List ℕ) (indexed : IsKeyIndex cmp slot order) where
    -- two places whose keys are equal are one
    pub one_place : (i j : ℕ) (a b : HeldKey K) → i < length order → j < length order
        → slot (get_or order i 0) ≡ Some a → slot (get_or order j 0) ≡ Some b → cmp a.key b.key ≡ Equal → i ≡ j
    one_place i j a b i_in j_in at_i at_j e =
        elim (cases_eq i j) [
          | inl same ↦ same
          | inr differs ↦ elim (cases_lt i j) [
            | inl before ↦ let less = indexed.rising i j a b before j_in at_i at_j in absurd (cc)
            | inr past ↦
                let less = indexed.rising j i b a (omega arith) i_in at_j at_i in
                let back = tied_back total a.key b.key e in
                absurd (cc)
          ]
        ]

    -- two numbers whose keys are equal are one
    pub one_number : (m n : ℕ) (a b : HeldKey K) → slot m ≡ Some a → slot n ≡ Some b → cmp a.key b.key ≡ Equal → m ≡ n
    one_number m n a b at_m at_n e =
        let first = indexed.listed m (is_some_of _ a at_m) in
        let second = indexed.listed n (is_some_of _ b at_n) in
        let same : first.0 ≡ second.0 = one_place first.0 second.0 a b first.1 second.1 (ap slot first.2 ∙ at_m) (ap slot second.2 ∙
        at_n) e in
        sym first.2 ∙ ap (λ i. get_or order i 0) same ∙ second.2

    -- no value has a key that the search misses
    pub none_missed : (key : K) (place : ℕ) → IsKeyPlace cmp slot order key (Err place) → (number : ℕ) (held : HeldKey K)
        → slot number ≡ Some held → cmp held.key key ≢ Equal
    none_missed key place missing number held is tie =
        let listed = indexed.listed number (is_some_of _ held is) in
        let here : slot (get_or order listed.0 0) ≡ Some held = ap slot listed.2 ∙ is in
        elim (cases_lt listed.0 place) [
          | inl front ↦ let less = missing.1 listed.0 held front here in cc
          | inr past ↦ let greater = missing.2 listed.0 held past listed.1 here in cc
        ]

    -- the value at the place that the search finds
    pub place_held : (key : K) (place : ℕ) → IsKeyPlace cmp slot order key (Ok place) → (number : ℕ) → number ≡ get_or order place number
        → (held : HeldKey K) × (slot number ≡ Some held) × (cmp held.key key ≡ Equal)
    place_held key place found number stands =
        let there = some_is _ (indexed.live place found.0) in
        let same : get_or order place 0 ≡ number = get_or_default order place 0 number found.0 ∙ sym stands in
        (there.0, sym (ap slot same) ∙ there.1, found.1 there.0 there.1)

    -- the search finds a value's key at its number
    pub number_found : (key : K) (place : ℕ) → IsKeyPlace cmp slot order key (Ok place) → (number : ℕ) (held : HeldKey K)
        → slot number ≡ Some held → cmp held.key key ≡ Equal → get_or order place 0 ≡ number
    number_found key place found number held is tie =
        let there = some_is _ (indexed.live place found.0) in
        one_number _ number there.0 held there.1 is (total.congr _ _ held.key (found.1 there.0 there.1) ∙ tied_back total _ _ tie)

  -- a value is written over one with its key
  pub IsKeyIndex-written : (slot new : ℕ → Option (HeldKey K)) (order : List ℕ) → IsKeyIndex cmp slot order
      → (number : ℕ) (old value : HeldKey K) → slot number ≡ Some old → new number ≡ Some value → value.key ≡ old.key → 0 < value.holds
      → ((other : ℕ) → other ≢ number → new other ≡ slot other) → IsKeyIndex cmp new order
  IsKeyIndex-written slot new order indexed number old value was is same held others =
      record {
        rising = λ i j a b before within at_i at_j.
            let first = earlier _ a at_i in
            let second = earlier _ b at_j in
            ap (λ k. cmp k b.key) first.2 ∙ ap (cmp first.0.key) second.2 ∙ indexed.rising i j first.0 second.0 before within first.1
            second.1;
        live = λ i within. let there = some_is _ (indexed.live i within) in later _ there.0 there.1;
        listed = λ n some. let there = some_is _ some in let before = earlier n there.0 there.1 in indexed.listed n (is_some_of _
            before.0 before.1);
        held = λ n entry at_n. elim (cases_eq n number) [
          | inl here ↦ let one : value ≡ entry = same_Some _ _ (sym is ∙ sym (ap new here) ∙ at_n) in subst (λ (h : HeldKey K). 0 < h.holds)
              one held
          | inr differs ↦ indexed.held n entry (sym (others n differs) ∙ at_n)
        ];
      }
    where
      earlier : (n : ℕ) (a : HeldKey K) → new n ≡ Some a → (b : HeldKey K) × (slot n ≡ Some b) × (a.key ≡ b.key)
      earlier n a at_n =
          elim (cases_eq n number) [
            | inl here ↦ (old, ap slot here ∙ was, ap (λ (h : HeldKey K). h.key) (same_Some _ _ (sym at_n ∙ ap new here ∙ is)) ∙ same)
            | inr differs ↦ (a, sym (others n differs) ∙ at_n, refl)
          ]

      later : (n : ℕ) (b : HeldKey K) → slot n ≡ Some b → IsSome (new n)
      later n b at_n =
          elim (cases_eq n number) [
            | inl here ↦ is_some_of _ value (ap new here ∙ is)
            | inr differs ↦ is_some_of _ b (others n differs ∙ at_n)
          ]

  -- a value gets a number that was free
  pub IsKeyIndex-inserted : (slot new : ℕ → Option (HeldKey K)) (order : List ℕ) → IsKeyIndex cmp slot order
      → (number place : ℕ) (value : HeldKey K) → slot number ≡ None → new number ≡ Some value → 0 < value.holds
      → ((other : ℕ) → other ≢ number → new other ≡ slot other)
      → place ≤ length order → AllBelow cmp slot order value.key place → AllAbove cmp slot order value.key place
      → IsKeyIndex cmp new (insert order place number)
  IsKeyIndex-inserted slot new order indexed number place value was is held others within below above =
      record {
        rising = λ i j a b before j_in at_i at_j.
            elim (source i (omega (arith, length-insert order place number within))) [
              | inl old_i ↦ elim (source j (omega (arith, length-insert order place number within))) [
                | inl old_j ↦ indexed.rising old_i.from old_j.from a b (in_order i j old_i old_j before) old_j.within (was_at i a old_i
                    at_i) (was_at j b old_j at_j)
                | inr here ↦
                    let one : value ≡ b = same_Some _ _ (sym is ∙ sym (ap new here.1) ∙ at_j) in
                    sym (ap (λ (h : HeldKey K). cmp a.key h.key) one) ∙ below old_i.from a (omega arith) (was_at i a old_i at_i)
              ]
              | inr here ↦ elim (source j (omega (arith, length-insert order place number within))) [
                | inl old_j ↦
                    let one : value ≡ a = same_Some _ _ (sym is ∙ sym (ap new here.1) ∙ at_i) in
                    sym (ap (λ (h : HeldKey K). cmp h.key b.key) one) ∙ greater_reversed total _ _ (above old_j.from b (omega arith)
                    old_j.within (was_at j b old_j at_j))
                | inr also ↦ absurd (omega arith)
              ]
            ];
        live = λ i i_in. elim (source i (omega (arith, length-insert order place number within))) [
          | inl old_i ↦
              let there = some_is _ (indexed.live old_i.from old_i.within) in
              is_some_of _ there.0 (ap new old_i.is ∙ kept old_i.from old_i.within ∙ there.1)
          | inr here ↦ is_some_of _ value (ap new here.1 ∙ is)
        ];
        listed = λ n some. elim (cases_eq n number) [
          | inl here ↦ (
            place,
            omega (arith, length-insert order place number within),
            get_or-insert_at order place number 0 within ∙ sym
                here,
          )
          | inr differs ↦
              let there = indexed.listed n (subst (λ (o : Option (HeldKey K)). IsSome o) (others n differs) some) in
              elim (cases_lt there.0 place) [
                | inl before ↦ (
                  there.0,
                  omega (arith, length-insert order place number within, there.1),
                  get_or-insert_below order place
                      number 0 there.0 before within ∙ there.2,
                )
                | inr past ↦ (
                  there.0 + 1,
                  omega (arith, length-insert order place number within, there.1),
                  get_or-insert_above order
                      place number 0 there.0 past within ∙ there.2,
                )
              ]
        ];
        held = λ n entry at_n. elim (cases_eq n number) [
          | inl here ↦ let one : value ≡ entry = same_Some _ _ (sym is ∙ sym (ap new here) ∙ at_n) in subst (λ (h : HeldKey K). 0 < h.holds)
              one held
          | inr differs ↦ indexed.held n entry (sym (others n differs) ∙ at_n)
        ];
      }
    where
      in_order : (i j : ℕ) (first : Moved order place number i) (second : Moved order place number j) → i < j → first.from < second.from
      in_order i j first second before =
          elim (cases_lt i place) [
            | inl front ↦ elim (cases_lt j place) [ inl also ↦ omega arith | inr past ↦ omega arith ]
            | inr past ↦ omega arith
          ]

      kept : (k : ℕ) → k < length order → new (get_or order k 0) ≡ slot (get_or order k 0)
      kept k k_in = others _ (λ same.
          let there = some_is _ (indexed.live k k_in) in
          none-some there.0 (sym was ∙ sym (ap slot same) ∙ there.1))

      source : (k : ℕ) → k < length order + 1 → Moved order place number k ⊎ ((k ≡ place) × (get_or (insert order place number) k 0 ≡
          number))
      source k = places_move order place number k within

      was_at : (k : ℕ) (a : HeldKey K) (s : Moved order place number k) → new (get_or (insert order place number) k 0) ≡ Some a
          → slot (get_or order s.from 0) ≡ Some a
      was_at k a s at_k = sym (kept s.from s.within) ∙ sym (ap new s.is) ∙ at_k

  -- a number is freed
  pub IsKeyIndex-removed : (slot new : ℕ → Option (HeldKey K)) (order : List ℕ) → IsKeyIndex cmp slot order
      → (number place : ℕ) → place < length order → get_or order place 0 ≡ number → new number ≡ None
      → ((other : ℕ) → other ≢ number → new other ≡ slot other)
      → IsKeyIndex cmp new (remove order place)
  IsKeyIndex-removed slot new order indexed number place within stood none others =
      record {
        rising = λ i j a b before j_in at_i at_j.
            let first = places_close order place i within (omega (arith, length-remove order place within)) in
            let second = places_close order place j within (omega (arith, length-remove order place within)) in
            indexed.rising first.from second.from a b (in_order i j first second before) second.within (was_at i a first at_i) (was_at j
            b second at_j);
        live = λ i i_in.
            let from = places_close order place i within (omega (arith, length-remove order place within)) in
            let there = some_is _ (indexed.live from.from from.within) in
            is_some_of _ there.0 (ap new from.is ∙ kept i from ∙ there.1);
        listed = λ n some.
            let there = some_is _ some in
            let differs : n ≢ number = λ same. none-some there.0 (sym none ∙ sym (ap new same) ∙ there.1) in
            let before = indexed.listed n (is_some_of _ there.0 (sym (others n differs) ∙ there.1)) in
            let elsewhere : before.0 ≢ place = λ same. differs (sym before.2 ∙ ap (λ i. get_or order i 0) same ∙ stood) in
            elim (cases_lt before.0 place) [
              | inl front ↦ (
                before.0,
                omega (arith, length-remove order place within, before.1),
                get_or-remove_below order place 0
                    before.0 front within ∙ before.2,
              )
              | inr past ↦
                  let next : (before.0 - 1) + 1 ≡ before.0 = omega arith in (
                    before.0 - 1,
                    omega (arith, length-remove order place within, before.1),
                    get_or-remove_above order place 0 (before.0 -
                        1) (omega arith) within ∙ ap (λ i. get_or order i 0) next ∙ before.2,
                  )
            ];
        held = λ n entry at_n.
            let differs : n ≢ number = λ same. none-some entry (sym none ∙ sym (ap new same) ∙ at_n) in
            indexed.held n entry (sym (others n differs) ∙ at_n);
      }
    where
      in_order : (i j : ℕ) (first : Closed order place i) (second : Closed order place j) → i < j → first.from < second.from
      in_order i j first second before =
          elim (cases_lt i place) [
            | inl front ↦ elim (cases_lt j place) [ inl also ↦ omega arith | inr past ↦ omega arith ]
            | inr past ↦ omega arith
          ]

      kept : (k : ℕ) (s : Closed order place k) → new (get_or order s.from 0) ≡ slot (get_or order s.from 0)
      kept k s = others _ (λ same.
          let there = some_is _ (indexed.live s.from s.within) in
          let here : slot (get_or order place 0) ≡ Some there.0 = ap slot (stood ∙ sym same) ∙ there.1 in
          let one : s.from ≡ place = one_place slot order indexed s.from place there.0 there.0 s.within within there.1 here (tied_itself
          total there.0.key) in
          absurd (elim (cases_lt k place) [ inl front ↦ omega arith | inr past ↦ omega arith ]))

      was_at : (k : ℕ) (a : HeldKey K) (s : Closed order place k) → new (get_or (remove order place) k 0) ≡ Some a
          → slot (get_or order s.from 0) ≡ Some a
      was_at k a s at_k = sym (kept k s) ∙ sym (ap new s.is) ∙ at_k
