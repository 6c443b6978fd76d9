-- What carries on what, over plain lists.
use Rattle.std.proofs.Common.{◌≡◌, ℕ, ◌+◌, ◌-◌, ◌≤◌, List, [], ◌∷◌, ◌++◌, length, take, drop, refl, sym, ap, ◌∙◌, arith, append-nil, append_assoc, length-drop, take-add, drop-drop}
use Rattle.std.proofs.lemmas.List.{take-append-le, drop-append-le}
use Rattle.ifmap_hall.specs.Sights.{Sight, CarriesOn, run}

module _ {M E : Type 0} (next : M → E → M) where
  pub run-append : (m : M) (xs ys : List (ℕ × E)) → run next m (xs ++ ys) ≡ run next (run next m xs) ys
  run-append m [] ys = refl
  run-append m (x ∷ xs) ys = run-append (next m x.1) xs ys

  pub carries-through : (p q r : Sight M E) → CarriesOn next p q → CarriesOn next q r → CarriesOn next p r
  carries-through p q r a b =
      let j : ℕ = q.from - p.from in
      let k : ℕ = r.from - q.from in
      let pq = a.from in let qr = b.from in let pe = a.ends in let qe = b.ends in
      record {
        from = omega arith;
        ends = omega arith;
        base = λ h.
            let x = a.rest (omega arith) in
            let base_q = a.base (omega arith) in
            let jk : r.from - p.from ≡ j + k = omega arith in
            let fits : k ≤ length (drop j p.seen) = rw length-drop (omega arith) in
            let front : take k q.seen ≡ take k (drop j p.seen) = ap (take k) x.1 ∙ take-append-le k (drop j p.seen) x.0 fits in
            b.base (omega arith) ∙ ap (λ m. run next m (take k q.seen)) base_q ∙ ap (run next (run next p.base (take j p.seen))) front
            ∙ sym (run-append p.base (take j p.seen) (take k (drop j p.seen)))
            ∙ ap (run next p.base) (sym (take-add j k p.seen)) ∙ ap (λ n. run next p.base (take n p.seen)) (sym jk);
        rest = λ h.
            let x = a.rest (omega arith) in
            let y = b.rest (omega arith) in
            let jk : j + k ≡ r.from - p.from = omega arith in
            let fits : k ≤ length (drop j p.seen) = rw length-drop (omega arith) in (
              x.0 ++ y.0,
              y.1 ∙ ap (λ xs. drop k xs ++ y.0) x.1 ∙ ap (λ xs. xs ++ y.0) (drop-append-le k (drop j p.seen) x.0 fits)
                  ∙ append_assoc (drop k (drop j p.seen)) x.0 y.0
                  ∙ ap (λ xs. xs ++ (x.0 ++ y.0)) (drop-drop k j p.seen ∙ ap (λ n. drop n p.seen) (omega arith)),
            );
      }

  pub carries-itself : (p : Sight M E) → CarriesOn next p p
  carries-itself p =
      let none : p.from - p.from ≡ 0 = omega arith in
      record {
        from = omega arith;
        ends = omega arith;
        base = λ _. rw none refl;
        rest = λ _. ([], rw none (sym (append-nil p.seen)));
      }
