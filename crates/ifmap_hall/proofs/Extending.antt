-- Histories of one hall, of which one extends the other.
use Rattle.std.proofs.Common.{◌≡◌, ℕ, ◌+◌, List, [], ◌∷◌, ◌++◌, length, true, false, sym, ap, ◌∙◌, inl, inr, arith, append-nil, append_assoc, length-append}
use Rattle.std.proofs.lemmas.Bool.Decides.{nat_tests}
use Rattle.std.proofs.lemmas.List.{nil_from_length}
use Rattle.ifmap_hall.specs.Histories.{Extends, OneExtendsOther, GainsAtMostOne}
use Rattle.ifmap_hall.specs.Views.{is_later}
use Rattle.ifmap_hall.specs.declared.view.HallHistory.{HallHistory}

module _ {E : Type 0} where
  pub extends-itself : (h : HallHistory E) → Extends h h
  extends-itself h = record { from = omega arith; rest = []; whole = sym (append-nil h.log) }

  pub extends-through : (h k l : HallHistory E) → Extends h k → Extends k l → Extends h l
  extends-through h k l a b =
      let x = a.from in let y = b.from in
      record {
        from = omega arith;
        rest = a.rest ++ b.rest;
        whole = b.whole ∙ ap (λ xs. xs ++ b.rest) a.whole ∙ append_assoc h.log a.rest b.rest;
      }

  pub log_length : (h k : HallHistory E) (a : Extends h k) → length k.log ≡ length h.log + length a.rest
  log_length h k a = ap length a.whole ∙ length-append h.log a.rest

  pub ordered_again : (h k : HallHistory E) → OneExtendsOther h k → OneExtendsOther k h
  ordered_again h k (inl a) = inr a
  ordered_again h k (inr a) = inl a

  -- the later of two is the one that extends the other
  pub later_extends : (h k : HallHistory E) → OneExtendsOther h k → is_later h k ≡ true → Extends h k
  later_extends h k (inl a) e = a
  later_extends h k (inr a) e = let x = a.from in let l = log_length k h a in absurd (grind (arith, nat_tests))

  pub earlier_extends : (h k : HallHistory E) → OneExtendsOther h k → is_later h k ≡ false → Extends k h
  earlier_extends h k (inr a) e = a
  earlier_extends h k (inl a) e =
      let x = a.from in
      let l = log_length h k a in
      let none : a.rest ≡ [] = nil_from_length a.rest (grind (arith, nat_tests)) in
      record {
        from = grind (arith, nat_tests);
        rest = [];
        whole = sym (append-nil h.log) ∙ ap (λ xs. h.log ++ xs) (sym none) ∙ sym a.whole ∙ sym (append-nil k.log);
      }

  -- what is gained by at most one entry
  pub gains_rest : (xs ys : List (ℕ × E)) → GainsAtMostOne xs ys → (more : List (ℕ × E)) × (ys ≡ xs ++ more)
  gains_rest xs ys (inl same) = ([], same ∙ sym (append-nil xs))
  gains_rest xs ys (inr more) = (more.0 ∷ [], more.1)
