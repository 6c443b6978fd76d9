-- A total order in which only equals tie ranks what it compares.
use Rattle.std.proofs.Common.{◌≡◌}
use Rattle.std.proofs.lemmas.Cmp.{upto}
use Rattle.std.specs.Cmp.{IsTotalOrder}
use Rattle.std.specs.Ordering.{is_gt}
use Rattle.std.specs.declared.cmp.Ordering.{Ordering}
use Rattle.std.specs.declared.cmp.Ordering.TheVariants.{Equal}
use Rattle.ifmap_lemmas.specs.Sorting.{Ranks}
use Rattle.ifmap_lemmas.specs.Ties.{greater_one_way, tied_where_neither_greater}

module _ {X : Type 0} (R : X → X → Ordering) (o : IsTotalOrder R) (tied : (x y : X) → R x y ≡ Equal → x ≡ y) where
  pub ranks : Ranks (λ x y. is_gt (R x y))
  ranks = record {
    tied = λ x y e f. tied x y (tied_where_neither_greater (R x y) (R y x) (o.antisymm x y) e f);
    chain = upto o;
    one_way = λ x y e. greater_one_way (R x y) (R y x) (o.antisymm x y) e;
  }
