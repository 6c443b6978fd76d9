-- The links of each number, when places come to be full or empty.
use Rattle.std.proofs.Common.{◌≡◌, ◌⊎◌, ◌&&◌, ℕ, Bool, true, false, not, cond, nat_eq, Option, Some, None, List, refl, ap, ◌∙◌, sym, subst, inl, inr, arith}
use Rattle.std.proofs.lemmas.Bool.{cases_eq, cases_Bool}
use Rattle.std.proofs.lemmas.Bool.Decides.{nat_tests}
use Rattle.std.proofs.lemmas.List.Elements.{Contains-append_left, Contains-append_right, Contains-append_cases}
use Rattle.std.proofs.lemmas.Option.{same_Some, none-some}
use Rattle.std.specs.List.{Contains, filter}
use Rattle.ifmap_lemmas.specs.Branches.{one_without_other}
use Rattle.ifmap_lemmas.specs.Having.{filter_has, from_has, has_filter, has_from, has_mapped, mapped_has}
use Rattle.ifmap_view.specs.declared.views.LinkSeen.{LinkSeen}
use Rattle.ifmap_graph.specs.Linked.{JoinsNumbers, far_of, seen_at, AreListed, coming_links, changed_links}

pub far_first : (v w : ℕ) → far_of (Some (v, w)) v ≡ Some w
far_first v w = let e : nat_eq v v ≡ true = grind (arith, nat_tests) in rw e refl

pub far_second : (v w : ℕ) → far_of (Some (w, v)) v ≡ Some w
far_second v w = elim (cases_eq w v) [
  | inl e ↦ let t : nat_eq w v ≡ true = grind (arith, nat_tests) in rw t (ap Some (sym e))
  | inr n ↦ let t : nat_eq w v ≡ false = grind (arith, nat_tests) in let u : nat_eq v v ≡ true = grind (arith, nat_tests) in rw (t, u) refl
]

far_ends : (p : ℕ × ℕ) (v w : ℕ) → far_of (Some p) v ≡ Some w → (p ≡ (v, w)) ⊎ (p ≡ (w, v))
far_ends p v w e = elim (cases_eq p.0 v) [
  | inl a ↦ let t : nat_eq p.0 v ≡ true = grind (arith, nat_tests)
      in let b : p.1 ≡ w = same_Some _ _ (rw t at e)
      in inl (ap (λ x. (x, p.1)) a ∙ ap (λ y. (v, y)) b)
  | inr n ↦ elim (cases_eq p.1 v) [
    | inl a ↦ let t : nat_eq p.0 v ≡ false = grind (arith, nat_tests) in let u : nat_eq p.1 v ≡ true = grind (arith, nat_tests)
        in let b : p.0 ≡ w = same_Some _ _ (rw (t, u) at e)
        in inr (ap (λ x. (x, p.1)) b ∙ ap (λ y. (w, y)) a)
    | inr m ↦ let t : nat_eq p.0 v ≡ false = grind (arith, nat_tests) in let u : nat_eq p.1 v ≡ false = grind (arith, nat_tests)
        in absurd (none-some _ (rw (t, u) at e))
  ]
]

-- what is picked at a place
picked_is_seen : (b : Bool) (at : ℕ) (o : Option ℕ) (seen : LinkSeen) → cond b (seen_at at o) None ≡ Some seen → (b ≡ true)
    × (o ≡ Some seen.other) × (at ≡ seen.at)
picked_is_seen false at o seen e = absurd (none-some _ e)
picked_is_seen true at None seen e = absurd (none-some _ e)
picked_is_seen true at (Some w) seen e = let q : record { other = w; at = at } ≡ seen = same_Some _ _ e in (
  refl,
  ap (λ s. Some s.other) q,
  ap
      (λ s. s.at) q,
)

-- a place that joins the same in both
pub joins_alike : (joins other : ℕ → Option (ℕ × ℕ)) (at v w : ℕ) → other at ≡ joins at → JoinsNumbers joins at v w
    → JoinsNumbers other at v w
joins_alike joins other at v w e (inl j) = inl (e ∙ j)
joins_alike joins other at v w e (inr j) = inr (e ∙ j)

module _ (joins : ℕ → Option (ℕ × ℕ)) where
  far_is : (at v w : ℕ) (o : Option (ℕ × ℕ)) → joins at ≡ o → far_of o v ≡ Some w → JoinsNumbers joins at v w
  far_is at v w None is e = absurd (none-some _ e)
  far_is at v w (Some p) is e = elim (far_ends p v w e) [ inl q ↦ inl (is ∙ ap Some q) | inr q ↦ inr (is ∙ ap Some q) ]

  pub is_far : (at v w : ℕ) → JoinsNumbers joins at v w → far_of (joins at) v ≡ Some w
  is_far at v w (inl e) = ap (λ o. far_of o v) e ∙ far_first v w
  is_far at v w (inr e) = ap (λ o. far_of o v) e ∙ far_second v w

  module _ (before after : ℕ → Bool) (touched : List ℕ) (links : ℕ → List LinkSeen)
      (old : AreListed joins before links) (all : (at : ℕ) → (before at ≡ after at) ⊎ Contains touched at) where
    abbrev pick : ℕ → ℕ → Option LinkSeen
    pick v at = cond (after at && not (before at)) (seen_at at (far_of (joins at) v)) None

    new_only : (v : ℕ) (seen : LinkSeen) → Contains (changed_links joins before after touched links v) seen
        → JoinsNumbers joins seen.at v seen.other
        × (after seen.at ≡ true)
    new_only v seen c = elim (Contains-append_cases (filter (λ l. after l.at) (links v))
        (coming_links joins before after touched v) seen c) [
          | inl a ↦ let h = filter_has (λ l. after l.at) (links v) seen (has_from _ _ a)
              in ((old.only v seen (from_has (links v) seen h.0)).0, h.1)
          | inr b ↦ let h = mapped_has (pick v) touched seen (has_from _ _ b)
              in let p = picked_is_seen (after h.0 && not (before h.0)) h.0 (far_of (joins h.0) v) seen h.2
              in let ends : JoinsNumbers joins h.0 v seen.other = far_is h.0 v seen.other (joins h.0) refl p.1
              in (
                subst (λ at. JoinsNumbers joins at v seen.other) p.2 ends,
                ap after (sym p.2) ∙
                    (one_without_other (after h.0) (before h.0) p.0).0,
              )
        ]

    new_each : (v w at : ℕ) → JoinsNumbers joins at v w → after at ≡ true → Contains (changed_links joins before after touched links v)
        (record { other = w; at = at })
    new_each v w at ends full = elim (cases_Bool (before at)) [
      | inl was ↦ Contains-append_left (filter (λ l. after l.at) (links v)) (coming_links joins before after touched v)
          (record { other = w; at = at })
          (from_has _ _ (has_filter (λ l. after l.at) (links v) (record { other = w; at = at }) (has_from _ _ (old.each v w at ends was))
          full))
      | inr was ↦ elim (all at) [
        | inl same ↦ let r : false ≡ true = sym was ∙ same ∙ full in cc
        | inr there ↦ Contains-append_right (filter (λ l. after l.at) (links v)) (coming_links joins before after touched v)
            (record { other = w; at = at })
            (from_has _ _ (has_mapped (pick v) touched at (record { other = w; at = at }) (has_from _ _ there)
            (ap (λ b. cond (b && not (before at)) (seen_at at (far_of (joins at) v)) None) full
            ∙ ap (λ b. cond (true && not b) (seen_at at (far_of (joins at) v)) None) was
            ∙ ap (seen_at at) (is_far at v w ends))))
      ]
    ]

    pub changed_listed : AreListed joins after (changed_links joins before after touched links)
    changed_listed = record { only = new_only; each = new_each }
