-- Where marks that fall begin and end: seeds alone wait, and nothing waits any more.
use Rattle.std.proofs.Common.{◌≡◌, ℕ, suc, ◌≤◌, Bool, Option, Some, None, List, [], ◌∷◌, Contains, inl, inr, refl, sym, ap, subst, ◌∙◌, arith}
use Rattle.std.proofs.lemmas.Option.{none-some}
use Rattle.std.proofs.lemmas.List.Elements.{All-weaker, All-nil}
use Rattle.std.specs.List.{IsDistinct}
use Rattle.ifmap_lemmas.specs.Distinct.{contains_one}
use Rattle.ifmap_region.specs.Bounds.{IsWithin}
use Rattle.ifmap_region.specs.Walks.{Walk, begins, AreDepths, IsReached, Expands}
use Rattle.ifmap_region.proofs.Depths.{depths_from}
use Rattle.ifmap_region.specs.Spreading.{IsReady, Improves, IsSet, IsCharged}

module _ (links : ℕ → ℕ → Type 0) (terminal : ℕ → Bool) (start top : ℕ) where
  -- nothing waits any more
  pub depths_ready : (m : ℕ → Option ℕ) (waits : ℕ → ℕ → Type 0) → ((k x : ℕ) → waits k x → ⊥)
      → IsReady links terminal start top m waits → AreDepths links terminal start top m
  depths_ready m waits none r = depths_from links terminal start top m r.sound (begun, along)
    where
      begun : m start ≡ Some 0
      begun = let b = r.begun in elim b.2 [
        | inl known ↦ let same : b.0 ≡ 0 = omega (arith, b.1) in known ∙ ap Some same
        | inr w ↦ absurd (none b.0 start w)
      ]

      along : (x y d : ℕ) → Expands terminal top m x d → links x y → (j : ℕ) × (m y ≡ Some j) × (j ≤ suc d)
      along x y d e l = let b = r.along x y d e l in elim b.2 [
        | inl known ↦ (b.0, known, b.1)
        | inr w ↦ absurd (none b.0 y w)
      ]

  pub charged_start : (count : ℕ → ℕ) (m : ℕ → Option ℕ) (level before : ℕ) → IsCharged links terminal start top count m m level before
      before
  unfolding IsDistinct
  charged_start count m level before = record {
    falls = λ v j e. (j, e, omega arith);
    spent = record { numbers = []; distinct = tt; among = All-nil (IsSet links terminal start top m m level); bound = omega arith };
  }

  pub charged_later : (count : ℕ → ℕ) (first m : ℕ → Option ℕ) (level later before after : ℕ) → level ≤ later
      → IsCharged links terminal start top count first m level before after → IsCharged links terminal start top count first m later
      before after
  charged_later count first m level later before after le c = record {
    falls = c.falls;
    spent = record {
      numbers = c.spent.numbers;
      distinct = c.spent.distinct;
      among = All-weaker (IsSet links terminal start top first m level) (IsSet links terminal start top first m later) (λ v s. (
        s.0,
        (s.1.0, s.1.1, omega (arith, s.1.2, le)),
      )) c.spent.numbers c.spent.among;
      bound = c.spent.bound;
    };
  }

  pub spent_from : (count : ℕ → ℕ) (first m : ℕ → Option ℕ) (level before after : ℕ)
      → IsCharged links terminal start top count first m level before after → IsWithin count (Improves links terminal start top first) 1
      before after
  spent_from count first m level before after c = record {
    numbers = c.spent.numbers;
    distinct = c.spent.distinct;
    among = All-weaker (IsSet links terminal start top first m level) (Improves links terminal start top first) (λ v s. s.0)
        c.spent.numbers c.spent.among;
    bound = c.spent.bound;
  }

-- before any mark, the start alone waits
pub ready_begun : (links : ℕ → ℕ → Type 0) (terminal : ℕ → Bool) (start top : ℕ) (m : ℕ → Option ℕ) (seeds : List (ℕ × ℕ)) → ((v : ℕ)
    → m v ≡ None) → seeds ≡ (0, start) ∷ []
    → IsReady links terminal start top m (λ k v. Contains seeds (k, v))
ready_begun links terminal start top m seeds none one = record {
  sound = λ v k e. absurd (none-some k (sym (none v) ∙ e));
  walks = λ v k h. let e = contains_one (0, start) (k, v) (subst (λ (l : List (ℕ × ℕ)). Contains l (k, v)) one h) in
      let level : 0 ≡ k = ap (λ (p : ℕ × ℕ). p.0) e in
      (omega (arith, level), subst (λ (n : ℕ). Walk links terminal start n v) level (begins (ap (λ (p : ℕ × ℕ). p.1) (sym e))));
  begun = (0, omega arith, inr (subst (λ (l : List (ℕ × ℕ)). Contains l (0, start)) (sym one) (0, omega arith, refl)));
  along = λ x y d e l. absurd (none-some d (sym (none x) ∙ e.marked));
}

-- what was improved is reached
pub reached_spent : (links : ℕ → ℕ → Type 0) (terminal : ℕ → Bool) (start top : ℕ) (count : ℕ → ℕ) (m : ℕ → Option ℕ) (before after : ℕ)
    → IsWithin count (Improves links terminal start top m) 1 before after → IsWithin count (IsReached links terminal start top) 1 before
    after
reached_spent links terminal start top count m before after s = record {
  numbers = s.numbers;
  distinct = s.distinct;
  among = All-weaker (Improves links terminal start top m) (IsReached links terminal start top) (λ v i. (
    i.links_of_it,
    i.within,
    i.walk,
  )) s.numbers s.among;
  bound = s.bound;
}
