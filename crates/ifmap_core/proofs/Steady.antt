-- What others than items hold while subscriptions stand: the order of these does not matter.
use Rattle.std.proofs.Common.{◌≡◌, subst, List, ◌∷◌, ◌++◌, arith}
use Rattle.ifmap_subscribes.specs.ifmap_changes.Between.{IsSteady, starts_of, HasStartNumber}
use Rattle.ifmap_subscribes.specs.ifmap_graph.Inside.{GraphInside, IsOwn}
use Rattle.ifmap_ident.specs.declared.identifiers.Identifier.{Identifier}
use Rattle.ifmap_lemmas.specs.Members.{all_both, both_all}
use Rattle.ifmap_subscribes.specs.ifmap_standing.declared.standing.Standing.{Standing}
use Rattle.ifmap_subscribes.specs.ifmap_changes.StartLaws.{starts_cons, starts_append}

-- ---- one moves to the front

pub steady_front : (h : GraphInside) (before : List Standing) (x : Standing) (bs : List Standing) → IsSteady h (before ++ x ∷ bs)
    → IsSteady h (x ∷ (before ++ bs))
steady_front h before x bs s = record {
  still = s.still;
  whole = s.whole;
  own = λ a. subst (λ n. IsOwn h a n) (same a) (s.own a);
  numbered = let both = all_both (HasStartNumber h) before (x ∷ bs) s.numbered in
      (both.1.0, both_all (HasStartNumber h) before bs both.0 both.1.1);
}
  where
    same : (a : Identifier) → starts_of a (before ++ x ∷ bs) ≡ starts_of a (x ∷ (before ++ bs))
    same a =
        let one = starts_append a before (x ∷ bs) in
        let two = starts_cons a x bs in
        let three = starts_append a before bs in
        let four = starts_cons a x (before ++ bs) in
        omega (arith, one, two, three, four)
