-- How lists of numbers compare that are closed by one number: by one below theirs, and by one that they don't have.
use Rattle.std.proofs.Common.{◌≡◌, ℕ, ◌<◌, ◌≢◌, List, [], ◌∷◌, ◌++◌, ap, sym, ◌∙◌}
use Rattle.std.specs.Cmp.{nat_cmp_is, nat_cmp_total, tied_itself}
use Rattle.std.specs.Cmp.Lexicographic.{slice_cmp}
use Rattle.std.specs.List.{AllByRecursion}
use Rattle.std.specs.Ordering.{nat_cmp, ordering_then}
use Rattle.std.specs.declared.cmp.Ordering.{Ordering}
use Rattle.std.specs.declared.cmp.Ordering.TheVariants.{Less, Equal, Greater}
use Rattle.ifmap_lemmas.specs.Numbers.{others_untied}
use Rattle.ifmap_lemmas.specs.Orderings.{then_decided, then_then}

pub closed_below : (t : ℕ) (p q x y : List ℕ) → AllByRecursion (λ b. t < b) p → AllByRecursion (λ b. t < b) q
    → slice_cmp nat_cmp (p ++ (t ∷ x)) (q ++ (t ∷ y)) ≡ ordering_then (slice_cmp nat_cmp p q) (slice_cmp nat_cmp x y)
closed_below t [] [] x y f g = ap (λ o. ordering_then o (slice_cmp nat_cmp x y)) (tied_itself nat_cmp_total t)
closed_below t [] (d ∷ q) x y f g = ap (λ o. ordering_then o (slice_cmp nat_cmp x (q ++ (t ∷ y)))) (sym (nat_cmp_is t d Less g.0))
closed_below t (b ∷ p) [] x y f g = ap (λ o. ordering_then o (slice_cmp nat_cmp (p ++ (t ∷ x)) y)) (sym (nat_cmp_is b t Greater f.0))
closed_below t (b ∷ p) (d ∷ q) x y f g =
    ap (ordering_then (nat_cmp b d)) (closed_below t p q x y f.1 g.1)
    ∙ then_then (nat_cmp b d) (slice_cmp nat_cmp p q) (slice_cmp nat_cmp x y)

-- once two numbers differ, whatever follows
settled : (b c : ℕ) (o p r : Ordering) → b ≢ c → ordering_then (nat_cmp b c) o ≡ ordering_then (ordering_then (nat_cmp b c) p) r
settled b c o p r f = then_decided (nat_cmp b c) o (ordering_then p r) (others_untied b c f) ∙ then_then (nat_cmp b c) p r

pub closed_apart : (t : ℕ) (p q x y : List ℕ) → AllByRecursion (λ b. b ≢ t) p → AllByRecursion (λ b. b ≢ t) q
    → slice_cmp nat_cmp (p ++ (t ∷ x)) (q ++ (t ∷ y))
    ≡ ordering_then (slice_cmp nat_cmp (p ++ (t ∷ [])) (q ++ (t ∷ []))) (slice_cmp nat_cmp x y)
closed_apart t [] [] x y f g =
    ap (λ o. ordering_then o (slice_cmp nat_cmp x y)) (tied_itself nat_cmp_total t)
    ∙ sym (ap (λ o. ordering_then (ordering_then o Equal) (slice_cmp nat_cmp x y)) (tied_itself nat_cmp_total t))
closed_apart t [] (d ∷ q) x y f g =
    settled t d (slice_cmp nat_cmp x (q ++ (t ∷ y))) (slice_cmp nat_cmp [] (q ++ (t ∷ []))) (slice_cmp nat_cmp x y) (λ e. g.0 (sym e))
closed_apart t (b ∷ p) [] x y f g =
    settled b t (slice_cmp nat_cmp (p ++ (t ∷ x)) y) (slice_cmp nat_cmp (p ++ (t ∷ [])) []) (slice_cmp nat_cmp x y) f.0
closed_apart t (b ∷ p) (d ∷ q) x y f g =
    ap (ordering_then (nat_cmp b d)) (closed_apart t p q x y f.1 g.1)
    ∙ then_then (nat_cmp b d) (slice_cmp nat_cmp (p ++ (t ∷ [])) (q ++ (t ∷ []))) (slice_cmp nat_cmp x y)
