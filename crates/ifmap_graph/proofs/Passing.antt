-- Empty shelves are passed over.
use Rattle.std.proofs.Common.{◌≡◌, List, [], ◌∷◌, ◌++◌, ap, ◌∙◌, sym, subst, append_assoc}
use Rattle.std.specs.List.{AllByRecursion}
use Rattle.ifmap_ident.specs.declared.items.Item.{Item}
use Rattle.ifmap_meta.specs.declared.stored.Stored.{Stored}
use Rattle.ifmap_graph.specs.After.{AreEmpty, IsPassing}

module _ {X : Type 0} (list_of : X → List Stored) where
  empty_push : (before : List (Item × X)) (e : Item × X) → AreEmpty list_of before → list_of e.1 ≡ [] → AreEmpty list_of (before ++ e ∷ [])
  empty_push [] e a p = (p, tt)
  empty_push (f ∷ fs) e a p = (a.0, empty_push fs e a.1 p)

  module _ (es rest next : List (Item × X)) (e : Item × X) (step : rest ≡ e ∷ next) where
    pub rest_has : (P : Item × X → Type 0) → AllByRecursion P rest → AllByRecursion P next
    rest_has P a = (let b : AllByRecursion P (e ∷ next) = subst (λ l. AllByRecursion P l) step a in b.1)

    pub passes_one : IsPassing list_of es rest → list_of e.1 ≡ [] → IsPassing list_of es next
    passes_one p empty = record {
      before = p.before ++ e ∷ [];
      split = p.split ∙ ap (λ l. p.before ++ l) step ∙ sym (append_assoc p.before (e ∷ []) next);
      empty = empty_push p.before e p.empty empty;
    }
