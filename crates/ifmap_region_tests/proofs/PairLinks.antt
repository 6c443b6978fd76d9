-- Links given by the pairs of their ends are symmetric.
use Rattle.std.proofs.Common.{◌≡◌, ℕ, Bool, true, false, Option, Some, None, List, nat_eq, refl, sym, ap, ◌∙◌}
use Rattle.std.specs.Prelude.{slice_get, option_and_then, if◌then◌else◌}
use Rattle.std.proofs.lemmas.Option.{same_Some, none-some}
use Rattle.std.proofs.lemmas.Bool.{eqb-true, eq-eqb}
use Rattle.ifmap_region.specs.Links.{Linked, IsSymmetric}
use Rattle.ifmap_region_tests.specs.Pairs.{far_end_of, far_end_at}

far_back : (link : ℕ × ℕ) (v w : ℕ) → far_end_of link v ≡ Some w → far_end_of link w ≡ Some v
far_back link v w e = by (nat_eq link.0 v) refl e
  where
    back_first : (t : Bool) → nat_eq link.0 w ≡ t → link.0 ≡ v → link.1 ≡ w → (if t then Some link.1 else (if nat_eq link.1 w then Some
        link.0 else None)) ≡ Some v
    back_first true t at end = ap Some (end ∙ sym (eqb-true link.0 w t) ∙ at)
    back_first false t at end = ap (λ (b : Bool). if b then Some link.0 else None) (eq-eqb link.1 w end) ∙ ap Some at

    other : (s : Bool) → nat_eq link.1 v ≡ s → (if s then Some link.0 else None) ≡ Some w → far_end_of link w ≡ Some v
    other true s f =
        let at : link.0 ≡ w = same_Some link.0 w f in
        ap (λ (b : Bool). if b then Some link.1 else (if nat_eq link.1 w then Some link.0 else None)) (eq-eqb link.0 w at) ∙ ap Some
        (eqb-true link.1 v s)
    other false s f = absurd (none-some w f)

    by : (t : Bool) → nat_eq link.0 v ≡ t → (if t then Some link.1 else (if nat_eq link.1 v then Some link.0 else None)) ≡ Some w
        → far_end_of link w ≡ Some v
    by true t f = back_first (nat_eq link.0 w) refl (eqb-true link.0 v t) (same_Some link.1 w f)
    by false t f = other (nat_eq link.1 v) refl f

pub pairs_symmetric : (count : ℕ) (links : List (ℕ × ℕ)) → IsSymmetric (Linked (λ _. count) (far_end_at links))
pairs_symmetric count links v w l = (l.0, l.1, by (slice_get links l.0) l.2)
  where
    by : (o : Option (ℕ × ℕ)) → option_and_then (λ link. far_end_of link v) o ≡ Some w
        → option_and_then (λ link. far_end_of link w) o ≡ Some v
    by None e = absurd (none-some w e)
    by (Some link) e = far_back link v w e
