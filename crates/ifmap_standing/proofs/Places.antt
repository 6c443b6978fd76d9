-- Lists of subscriptions, place by place. First a walk from the last place down that changes each by a way (`Down`): as it begins, at
-- one place, and at its end. Last, that ways lead back still after what keeps the same (`stay`).
use Rattle.std.proofs.Common.{◌≡◌, inl, inr, ℕ, ◌+◌, ◌<◌, ◌≤◌, Option, Some, None, List, [], ◌∷◌, ◌++◌, length, get_or, set, slice_get, refl, ap, ◌∙◌, sym, subst, arith}
use Rattle.std.proofs.lemmas.Bool.{cases_order}
use Rattle.std.proofs.lemmas.List.{length-append, length-set}
use Rattle.std.proofs.lemmas.Option.{slice_get_past, slice_get_read, slice_get_within, same_Some}
use Rattle.ifmap_delta.specs.declared.subscriptions.Subscription.{Subscription}
use Rattle.ifmap_lemmas.specs.Fronts.{before_last}
use Rattle.ifmap_lemmas.specs.Places.{last_there, written_elsewhere, written_there}
use Rattle.ifmap_standing.specs.declared.standing.Standing.{Standing}
use Rattle.ifmap_standing.specs.Kept.{AtEach, KeepsSame, StaysRelated}
use Rattle.ifmap_standing.specs.Ways.{LeadBack, LeadsBackWhere, Way}
use Rattle.ifmap_standing.specs.PlaceLaws.{at_each_joined, searches_twice, keeps_twice}

-- ways lead back still after what keeps the same
stays : (way : Option (Option Way)) (a b c : Subscription) → LeadsBackWhere way a b → KeepsSame b c → LeadsBackWhere way a c
stays None a b c s t = keeps_twice a b c s t
stays (Some None) a b c s t = keeps_twice a b c s t
stays (Some (Some way)) a b c s t = record {
  search = searches_twice a b c s.search t.search;
  size = s.size;
  patch = s.patch;
  marks = record { taken = s.marks.taken; made = λ v. t.marks v ∙ s.marks.made v };
  room = λ v r. t.rows v (s.room v r);
  rows = λ v r. t.rows v (s.rows v r);
}

pub stand_joined : (R S T : Subscription → Subscription → Type 0) → ((x y z : Subscription) → R x y → S y z → T x z)
    → (x y z : Standing) → StaysRelated R x y → StaysRelated S y z → StaysRelated T x z
stand_joined R S T f x y z r s = record {
  serial = s.serial ∙ r.serial;
  name = s.name ∙ r.name;
  subscription = f x.subscription y.subscription z.subscription r.subscription s.subscription;
}

pub stay : (before now after : List Standing) (ways : List (Option Way)) → LeadBack before ways now
    → AtEach (λ _. StaysRelated KeepsSame) now after → LeadBack before ways after
stay before now after ways l k = record {
  long = rw k.long l.long;
  each = at_each_joined (λ i. StaysRelated (LeadsBackWhere (slice_get ways i))) (λ _. StaysRelated KeepsSame)
      (λ i. StaysRelated (LeadsBackWhere (slice_get ways i)))
      (λ i x y z r s. stand_joined (LeadsBackWhere (slice_get ways i)) KeepsSame (LeadsBackWhere (slice_get ways i))
      (stays (slice_get ways i)) x y z r s) before now after l.each k;
}

-- a walk from the last place down
module _ (R : Option (Option Way) → Subscription → Subscription → Type 0) (stands : (x : Subscription) → R None x x)
    (ways : List (Option Way)) (old : List Standing) where
  pub record Down (left : List (Option Way)) (now : List Standing) : Type 0 where
    pub few : length left ≤ length old
    pub long : length now ≡ length old
    pub these : (i : ℕ) → i < length left → slice_get left i ≡ slice_get ways i
    pub rest : (i : ℕ) → i < length left → slice_get now i ≡ slice_get old i
    pub done : (i : ℕ) (x y : Standing) → length left ≤ i → slice_get old i ≡ Some x → slice_get now i ≡ Some y
        → StaysRelated (R (slice_get ways i)) x y

  pub down_first : length ways ≤ length old → Down ways old
  down_first few = record {
    few = few;
    long = refl;
    these = λ i less. refl;
    rest = λ i less. refl;
    done = λ i x y past p q. let e : y ≡ x = same_Some y x (sym q ∙ p) in
        subst (λ o. StaysRelated (R o) x y) (sym (slice_get_past ways i past))
        (subst (λ z. StaysRelated (R None) x z) (sym e) (record { serial = refl; name = refl; subscription = stands x.subscription }));
  }

  pub down_next : (left less : List (Option Way)) (now after : List Standing) (way : Option Way) (x y : Standing) → Down left now
      → left ≡ less ++ way ∷ [] → slice_get now (length less) ≡ Some x → StaysRelated (R (Some way)) x y
      → after ≡ set now (length less) y → Down less after
  down_next left less now after way x y d cut here is so =
      let n = length less
      in let size : length left ≡ n + 1 = ap length cut ∙ simp (length-append) refl
      in record {
        few = omega (arith, size, d.few);
        long = ap length so ∙ length-set now n y ∙ d.long;
        these = λ i low. sym (before_last less way i low) ∙ ap (λ l. slice_get l i) (sym cut) ∙ d.these i (omega (arith, low, size));
        rest = λ i low. ap (λ l. slice_get l i) so ∙ written_elsewhere now n i y (omega (arith, low))
            ∙ d.rest i (omega (arith, low, size));
        done = λ i a b past p q. elim (cases_order n i) [
          | inl e ↦
              let within : n < length now = slice_get_within now n x here
              in let one : x ≡ a = same_Some x a (sym here ∙ d.rest n (omega (arith, size)) ∙ ap (slice_get old) e ∙ p)
              in let two : y ≡ b = same_Some y b (sym (written_there now n y within) ∙ ap (λ l. slice_get l n) (sym so)
              ∙ ap (slice_get after) e ∙ q)
              in let by : slice_get ways i ≡ Some way = ap (slice_get ways) (sym e) ∙ sym (d.these n (omega (arith, size)))
              ∙ ap (λ l. slice_get l n) cut ∙ last_there less way
              in subst (λ o. StaysRelated (R o) a b) (sym by) (subst (λ z. StaysRelated (R (Some way)) z b) one
              (subst (λ z. StaysRelated (R (Some way)) x z) two is))
          | inr o ↦ elim o [
            | inl low ↦ d.done i a b (omega (arith, low, size)) p
                (sym (written_elsewhere now n i y (omega (arith, low))) ∙ ap (λ l. slice_get l i) (sym so) ∙ q)
            | inr high ↦ absurd (omega (arith, past, high))
          ]
        ];
      }

  pub down_last : (now : List Standing) → Down [] now → AtEach (λ i. StaysRelated (R (slice_get ways i))) old now
  down_last now d = record { long = d.long; at = λ i x y p q. d.done i x y (omega arith) p q }

  module _ (left less : List (Option Way)) (now : List Standing) (way : Option Way) (at : ℕ) (x : Standing) (d : Down left now)
      (cut : left ≡ less ++ way ∷ []) (place : at ≡ length less) (is : x ≡ get_or now at x) where
    size : length left ≡ length less + 1
    size = ap length cut ∙ length-append less (way ∷ [])

    pub at_within : at < length now
    at_within = omega (arith, size, d.few, d.long, place)

    pub there_now : slice_get now at ≡ Some x
    there_now = slice_get_read now (length now) at x refl at_within is

    pub there_old : slice_get old at ≡ Some x
    there_old = sym (d.rest at (omega (arith, size, place))) ∙ there_now

    pub way_there : slice_get ways at ≡ Some way
    way_there = sym (d.these at (omega (arith, size, place))) ∙ ap (λ l. slice_get l at) cut ∙ ap (slice_get (less ++ way ∷ [])) place
        ∙ last_there less way

    pub down_step : (sub : Subscription) → R (Some way) (get_or now at x).subscription sub
        → Down less (set now at (record { serial = (get_or now at x).serial; name = (get_or now at x).name; subscription = sub }))
    down_step sub r =
        let y : Standing = record { serial = (get_or now at x).serial; name = (get_or now at x).name; subscription = sub }
        in let moved : StaysRelated (R (Some way)) x y = record {
          serial = ap (λ z. z.serial) (sym is);
          name = ap (λ z. z.name) (sym is);
          subscription = subst (λ z. R (Some way) z.subscription sub) (sym is) r;
        }
        in down_next left less now (set now at y) way x y d cut (ap (slice_get now) (sym place) ∙ there_now) moved
        (ap (λ i. set now i y) place)
