-- What one hold less means, whether it was the last or not.
use Rattle.std.proofs.Common.{◌≡◌, ◌≢◌, ◌⊎◌, ℕ, ◌+◌, ◌-◌, ◌<◌, ◌≤◌, Some, None, Ordering, cond, refl, sym, ap, subst, ◌∙◌, inl, inr, arith}
use Rattle.std.proofs.lemmas.Bool.{cases_eq}
use Rattle.std.proofs.lemmas.Cmp.{nat_cmp_total}
use Rattle.std.proofs.lemmas.Option.{same_Some, none-some}
use Rattle.std.specs.Cmp.{IsTotalOrder}
use Rattle.std.specs.FinMap.{get, get-remove}
use Rattle.std.specs.declared.cmp.Ordering.TheVariants.{Equal}
use Rattle.ifmap_lemmas.specs.Numbers.{others_untied, ties_where_equal}
use Rattle.ifmap_pool.specs.Holdings.{Holdings, Names, IsPool, IsHeld, once, LetsGo, Frees, LetsOneGo, entry_at, holds_at}
use Rattle.ifmap_pool.proofs.Holds.{holds_of, holds_none, holds_same, entry_put, entry_other, once_tied, once_apart, tied_or_not, tied_through, tied_on}

module _ {K : Type 0} {old new : Holdings K} {number : ℕ} (goes : LetsOneGo old new number) where
  entry : K × ℕ
  entry = goes.0

  -- the number has no key any more, or the same one, held once less
  change : ((goes.0.1 ≡ 1) × (entry_at new number ≡ None)) ⊎ ((1 < goes.0.1) × (entry_at new number ≡ Some (goes.0.0, goes.0.1 - 1)))
  change = elim goes.2 [
    | inl h ↦ inr (h.0, entry_put new old number (goes.0.0, goes.0.1 - 1) (ap (λ (p : Holdings K). p.live) (h.1 goes.0 goes.1 h.0)))
    | inr h ↦ inl (
      h.0,
      ap (λ l. get l number) h.1.live ∙ get-remove nat_cmp_total old.live number number ∙ ap (λ b. cond b None (get
          old.live number)) ((ties_where_equal number number).1 refl),
    )
  ]

  pub lets_go : LetsGo old new number
  lets_go other is more = elim goes.2 [
    | inl h ↦ h.1 other is more
    | inr h ↦ let same : other ≡ goes.0 = same_Some _ _ (sym is ∙ goes.1) in let one = ap (λ (e : K × ℕ). e.1) same in absurd (omega
        (arith, one, more, h.0))
  ]

  pub frees_last : holds_at old number ≡ 1 → Frees old new number
  frees_last one = elim goes.2 [
    | inl h ↦ let had = holds_of old number goes.0 goes.1 in absurd (omega (arith, had, one, h.0))
    | inr h ↦ h.1
  ]

  pub count_falls : holds_at new number + 1 ≡ holds_at old number
  count_falls = let had = holds_of old number goes.0 goes.1 in elim change [
    | inl p ↦ let now = holds_none new number p.1 in omega (arith, now, had, p.0)
    | inr p ↦ let now = holds_of new number (goes.0.0, goes.0.1 - 1) p.1 in omega (arith, now, had, p.0)
  ]

  pub others_same : (other : ℕ) → other ≢ number → entry_at new other ≡ entry_at old other
  others_same other differs = elim goes.2 [
    | inl h ↦ entry_other new old number other (goes.0.0, goes.0.1 - 1) (ap (λ (p : Holdings K). p.live) (h.1 goes.0 goes.1 h.0)) differs
    | inr h ↦ ap (λ l. get l other) h.1.live ∙ get-remove nat_cmp_total old.live number other ∙ ap (λ b. cond b None (get old.live
        other)) (others_untied other number differs)
  ]

  pub spare_more : old.spare ≤ new.spare
  spare_more = elim goes.2 [
    | inl h ↦ let same = ap (λ (p : Holdings K). p.spare) (h.1 goes.0 goes.1 h.0) in omega (arith, same)
    | inr h ↦ omega (arith, h.1.spare)
  ]

  pub limit_same : new.limit ≡ old.limit
  limit_same = elim goes.2 [ inl h ↦ ap (λ (p : Holdings K). p.limit) (h.1 goes.0 goes.1 h.0) | inr h ↦ h.1.limit ]

  module _ {cmp : K → K → Ordering} (total : IsTotalOrder cmp) (before : IsPool cmp old) (key : K) (mine : Names cmp old number key) where
    my_entry : goes.0 ≡ mine.0
    my_entry = same_Some _ _ (sym goes.1 ∙ mine.1)

    -- a key that the number has afterwards equals the one that it had
    later_key : (other : K) → Names cmp new number other → cmp key other ≡ Equal
    later_key other names = elim change [
      | inl p ↦ absurd (none-some names.0 (sym p.1 ∙ names.1))
      | inr p ↦
          let same : names.0 ≡ (goes.0.0, goes.0.1 - 1) = same_Some _ _ (sym names.1 ∙ p.1) in
          let one : names.0.0 ≡ mine.0.0 = ap (λ (e : K × ℕ). e.0) same ∙ ap (λ (e : K × ℕ). e.0) my_entry in
          tied_through total mine.0.0 key other mine.2 (ap (λ (k : K). cmp k other) (sym one) ∙ names.2)
    ]

    pub held_by_keys : (other : K) (n : ℕ) → IsHeld cmp old other n → IsHeld cmp new other (n - once cmp key other)
    held_by_keys other n (inl h) = elim (tied_or_not total key other) [
      | inl tie ↦
          let one = once_tied total key other tie in
          let same : h.0 ≡ number = before.one_to_one h.0 number other h.1 (mine.0, mine.1, tied_on total mine.0.0 key other mine.2 tie)
          in
          let had : holds_at old number ≡ n = ap (holds_at old) (sym same) ∙ h.2 in
          let was = holds_of old number goes.0 goes.1 in
          elim change [
            | inl p ↦ inr (
              (λ v names. elim (cases_eq v number) [
                | inl at ↦ none-some names.0 (sym p.1 ∙ ap (entry_at new) (sym at) ∙ names.1)
                | inr elsewhere ↦ elsewhere (before.one_to_one v number other (names.0, sym (others_same v elsewhere) ∙ names.1, names.2)
                    (mine.0, mine.1, tied_on total mine.0.0 key other mine.2 tie))
              ]),
              omega (arith, one, had, was, p.0),
            )
            | inr p ↦
                let names : Names cmp new number other =
                ((
                  (goes.0.0, goes.0.1 - 1),
                  p.1,
                  ap (λ (e : K × ℕ). cmp e.0 other) my_entry ∙ tied_on total mine.0.0 key other mine.2
                      tie,
                )) in
                inl (number, names, omega (arith, one, had, count_falls))
          ]
      | inr differs ↦
          let none = once_apart total key other differs in
          let elsewhere : h.0 ≢ number = λ same.
          let entry_same : h.1.0 ≡ mine.0 = same_Some _ _ (sym h.1.1 ∙ ap (entry_at old) same ∙ mine.1) in
          differs (tied_through total mine.0.0 key other mine.2 (ap (λ (e : K × ℕ). cmp e.0 other) (sym entry_same) ∙ h.1.2)) in
          let now = holds_same new old h.0 (others_same h.0 elsewhere) in
          inl (h.0, (h.1.0, others_same h.0 elsewhere ∙ h.1.1, h.1.2), omega (arith, now, h.2, none))
    ]
    held_by_keys other n (inr h) = inr (
      (λ v names. elim (cases_eq v number) [
        | inl same ↦ h.0 number (
          mine.0,
          mine.1,
          tied_on total mine.0.0 key other mine.2 (later_key other (subst (λ (x : ℕ). Names cmp
              new x other) same names)),
        )
        | inr elsewhere ↦ h.0 v (names.0, sym (others_same v elsewhere) ∙ names.1, names.2)
      ]),
      omega (arith, h.1),
    )
