-- What one hold more means, whether the key had a number or not.
use Rattle.std.proofs.Common.{◌≡◌, ◌≢◌, ◌⊎◌, ℕ, ◌+◌, ◌≤◌, Option, Some, None, Ordering, cond, refl, sym, ap, subst, ◌∙◌, inl, inr, arith}
use Rattle.std.specs.Prelude.{option_map, unwrap_or}
use Rattle.std.proofs.lemmas.Bool.{cases_eq}
use Rattle.std.proofs.lemmas.Cmp.{nat_cmp_total, tied_itself}
use Rattle.std.proofs.lemmas.Option.{same_Some, none-some}
use Rattle.std.specs.Cmp.{IsTotalOrder}
use Rattle.std.specs.FinMap.{get, insert, get-insert}
use Rattle.std.specs.Ordering.{is_eq}
use Rattle.std.specs.declared.cmp.Ordering.TheVariants.{Less, Equal, Greater}
use Rattle.ifmap_lemmas.specs.Numbers.{others_untied, ties_where_equal}
use Rattle.ifmap_pool.specs.Holdings.{Holdings, Names, IsAbsent, IsPool, IsHeld, once, TakesNumber, HoldsAgain, HoldsOne, entry_at, holds_at}

module _ {K : Type 0} where
  -- how often a number with this entry is held
  pub holds_of : (pool : Holdings K) (number : ℕ) (entry : K × ℕ) → entry_at pool number ≡ Some entry → holds_at pool number ≡ entry.1
  holds_of pool number entry is = ap (λ (o : Option (K × ℕ)). unwrap_or (option_map (λ x. x.1) o) 0) is

  pub holds_none : (pool : Holdings K) (number : ℕ) → entry_at pool number ≡ None → holds_at pool number ≡ 0
  holds_none pool number is = ap (λ (o : Option (K × ℕ)). unwrap_or (option_map (λ x. x.1) o) 0) is

  pub holds_same : (pool other : Holdings K) (number : ℕ) → entry_at pool number ≡ entry_at other number
      → holds_at pool number ≡ holds_at other number
  holds_same pool other number is = ap (λ (o : Option (K × ℕ)). unwrap_or (option_map (λ x. x.1) o) 0) is

  -- the entry of a number that is put in, and those of others
  pub entry_put : (pool : Holdings K) (old : Holdings K) (number : ℕ) (entry : K × ℕ) → pool.live ≡ insert old.live number entry
      → entry_at pool number ≡ Some entry
  entry_put pool old number entry is =
      ap (λ l. get l number) is ∙ get-insert nat_cmp_total old.live number entry number ∙ ap (λ b. cond b (Some entry) (get old.live
      number)) ((ties_where_equal number number).1 refl)

  pub entry_other : (pool : Holdings K) (old : Holdings K) (number other : ℕ) (entry : K × ℕ)
      → pool.live ≡ insert old.live number entry → other ≢ number
      → entry_at pool other ≡ entry_at old other
  entry_other pool old number other entry is differs =
      ap (λ l. get l other) is ∙ get-insert nat_cmp_total old.live number entry other
      ∙ ap (λ b. cond b (Some entry) (get old.live other)) (others_untied other number differs)

-- a pool holds a key once more than another does, under this number
pub record IsOneMore {K : Type 0} (cmp : K → K → Ordering) (old new : Holdings K) (number : ℕ) (key : K) : Type 0 where
  pub holds : HoldsOne cmp old new number key
  pub before : IsPool cmp old
  pub whole : IsPool cmp new

-- one and none by the order
module _ {K : Type 0} {cmp : K → K → Ordering} (total : IsTotalOrder cmp) where
  pub once_tied : (key other : K) → cmp key other ≡ Equal → once cmp key other ≡ 1
  once_tied key other e = ap (λ (o : Ordering). cond (is_eq o) 1 0) e

  pub once_apart : (key other : K) → (cmp key other ≡ Equal → ⊥) → once cmp key other ≡ 0
  once_apart key other differs = by (cmp key other) refl
    where
      by : (o : Ordering) → cmp key other ≡ o → once cmp key other ≡ 0
      by Equal e = absurd (differs e)
      by Less e = ap (λ (o : Ordering). cond (is_eq o) 1 0) e
      by Greater e = ap (λ (o : Ordering). cond (is_eq o) 1 0) e

  pub tied_or_not : (key other : K) → (cmp key other ≡ Equal) ⊎ (cmp key other ≡ Equal → ⊥)
  tied_or_not key other = by (cmp key other) refl
    where
      by : (o : Ordering) → cmp key other ≡ o → (cmp key other ≡ Equal) ⊎ (cmp key other ≡ Equal → ⊥)
      by Equal e = inl e
      by Less e = inr (λ q. let t : Less ≡ Equal = sym e ∙ q in absurd (cc))
      by Greater e = inr (λ q. let t : Greater ≡ Equal = sym e ∙ q in absurd (cc))

  -- keys that equal one key are equal
  pub tied_through : (first key other : K) → cmp first key ≡ Equal → cmp first other ≡ Equal → cmp key other ≡ Equal
  tied_through first key other e f = sym (total.congr first key other e) ∙ f

  pub tied_on : (first key other : K) → cmp first key ≡ Equal → cmp key other ≡ Equal → cmp first other ≡ Equal
  tied_on first key other e f = total.congr first key other e ∙ f

  module _ {old new : Holdings K} {number : ℕ} {key : K} (more : IsOneMore cmp old new number key) where
    -- the entry of the number, before and afterwards
    change : ((entry : K × ℕ) × (entry_at old number ≡ Some entry) × (cmp entry.0 key ≡ Equal) × (entry_at new number ≡ Some (
      entry.0,
      entry.1 + 1,
    )))
        ⊎ ((entry_at old number ≡ None) × (entry_at new number ≡ Some (key, 1)))
    change = elim more.holds [
      | inl h ↦ let n = h.0 in inl (
        n.0,
        n.1,
        n.2,
        entry_put new old number (n.0.0, n.0.1 + 1) (ap (λ (p : Holdings K). p.live) (h.1 n.0
            n.1)),
      )
      | inr h ↦ inr (h.1.free, entry_put new old number (key, 1) h.1.live)
    ]

    pub names_key : Names cmp new number key
    names_key = elim change [
      | inl p ↦ ((p.0.0, p.0.1 + 1), p.3, p.2)
      | inr p ↦ ((key, 1), p.1, tied_itself total key)
    ]

    pub holds_again : (given : ℕ) → Names cmp old given key → (number ≡ given) × HoldsAgain old new given
    holds_again given names = elim more.holds [
      | inl h ↦ let same = more.before.one_to_one number given key h.0 names in (same, subst (λ (n : ℕ). HoldsAgain old new n) same h.1)
      | inr h ↦ absurd (h.0 given names)
    ]

    pub takes_number : IsAbsent cmp old key → TakesNumber old new number key
    takes_number none = elim more.holds [ inl h ↦ absurd (none number h.0) | inr h ↦ h.1 ]

    pub count_rises : holds_at new number ≡ holds_at old number + 1
    count_rises = elim change [
      | inl p ↦ let now = holds_of new number (p.0.0, p.0.1 + 1) p.3 in let then = holds_of old number p.0 p.1 in omega (arith, now, then)
      | inr p ↦ let now = holds_of new number (key, 1) p.1 in let then = holds_none old number p.0 in omega (arith, now, then)
    ]

    pub others_same : (other : ℕ) → other ≢ number → entry_at new other ≡ entry_at old other
    others_same other differs = elim more.holds [
      | inl h ↦ let n = h.0 in entry_other new old number other (n.0.0, n.0.1 + 1) (ap (λ (p : Holdings K). p.live) (h.1 n.0 n.1)) differs
      | inr h ↦ entry_other new old number other (key, 1) h.1.live differs
    ]

    pub keeps_names : (v : ℕ) (other : K) → Names cmp old v other → Names cmp new v other
    keeps_names v other names = elim (cases_eq v number) [
      | inl same ↦ elim change [
        | inl p ↦ let one : names.0 ≡ p.0 = same_Some _ _ (sym names.1 ∙ ap (entry_at old) same ∙ p.1) in
            ((p.0.0, p.0.1 + 1), ap (entry_at new) same ∙ p.3, ap (λ (e : K × ℕ). cmp e.0 other) (sym one) ∙ names.2)
        | inr p ↦ absurd (none-some names.0 (sym p.0 ∙ ap (entry_at old) (sym same) ∙ names.1))
      ]
      | inr differs ↦ (names.0, others_same v differs ∙ names.1, names.2)
    ]

    pub spare_left : old.spare ≤ new.spare + 1
    spare_left = elim more.holds [
      | inl h ↦ let same = ap (λ (p : Holdings K). p.spare) (h.1 h.0.0 h.0.1) in omega (arith, same)
      | inr h ↦ omega (arith, h.1.spare)
    ]

    pub limit_same : new.limit ≡ old.limit
    limit_same = elim more.holds [ inl h ↦ ap (λ (p : Holdings K). p.limit) (h.1 h.0.0 h.0.1) | inr h ↦ h.1.limit ]

    pub one_more_at_most : (v : ℕ) → holds_at new v ≤ holds_at old v + 1
    one_more_at_most v = elim (cases_eq v number) [
      | inl same ↦ let p : holds_at new v ≡ holds_at old v + 1 = ap (holds_at new) same ∙ count_rises ∙ ap (λ x. holds_at old x + 1) (sym
          same) in omega (arith, p)
      | inr differs ↦ let p = holds_same new old v (others_same v differs) in omega (arith, p)
    ]

    -- the same by keys
    pub held_by_keys : (other : K) (n : ℕ) → IsHeld cmp old other n → IsHeld cmp new other (n + once cmp key other)
    held_by_keys other n (inl h) = elim (tied_or_not key other) [
      | inl tie ↦
          let one = once_tied key other tie in
          let same : h.0 ≡ number = more.whole.one_to_one h.0 number other (keeps_names h.0 other h.1) (
            names_key.0,
            names_key.1,
            tied_on names_key.0.0 key other
                names_key.2 tie,
          ) in
          let now : holds_at new h.0 ≡ holds_at old h.0 + 1 = ap (holds_at new) same ∙ count_rises ∙ ap (λ x. holds_at old x + 1) (sym same)
          in
          inl (h.0, keeps_names h.0 other h.1, omega (arith, now, h.2, one))
      | inr differs ↦
          let none = once_apart key other differs in
          let kept_now = keeps_names h.0 other h.1 in
          let elsewhere : h.0 ≢ number = λ same.
          let entry : kept_now.0 ≡ names_key.0 = same_Some _ _ (sym kept_now.1 ∙ ap (entry_at new) same ∙ names_key.1) in
          differs (tied_through names_key.0.0 key other names_key.2 (ap (λ (e : K × ℕ). cmp e.0 other) (sym entry) ∙ kept_now.2)) in
          let now = holds_same new old h.0 (others_same h.0 elsewhere) in
          inl (h.0, kept_now, omega (arith, now, h.2, none))
    ]
    held_by_keys other n (inr h) = elim (tied_or_not key other) [
      | inl tie ↦
          let one = once_tied key other tie in
          elim change [
            | inl p ↦ absurd (h.0 number (p.0, p.1, tied_on p.0.0 key other p.2 tie))
            | inr p ↦
                let now = holds_of new number (key, 1) p.1 in
                inl (number, ((key, 1), p.1, tie), omega (arith, now, h.1, one))
          ]
      | inr differs ↦
          let none = once_apart key other differs in
          inr (
            (λ v names. elim (cases_eq v number) [
              | inl same ↦
                  let entry : names.0 ≡ names_key.0 = same_Some _ _ (sym names.1 ∙ ap (entry_at new) same ∙ names_key.1) in
                  differs (tied_through names_key.0.0 key other names_key.2 (ap (λ (e : K × ℕ). cmp e.0 other) (sym entry) ∙ names.2))
              | inr apart_ones ↦ h.0 v (names.0, sym (others_same v apart_ones) ∙ names.1, names.2)
            ]),
            omega (arith, h.1, none),
          )
    ]
