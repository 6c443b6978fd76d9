use Rattle.std.proofs.Common.{Contains, List, subst}
use Rattle.std.proofs.lemmas.Option.{IfSome_then}
use Rattle.std.specs.List.{AllByRecursion}
use Rattle.ifmap_lemmas.specs.Absent.{if_none_weaker}
use Rattle.ifmap_meta.specs.declared.stored.Stored.{Stored}
use Rattle.ifmap_meta.specs.Keys.{HaveOneKey}
use Rattle.ifmap_rows.proofs.Agreeing.{found_in, none_in}
use Rattle.ifmap_rows.proofs.rows.Rows.row_with_key.Goals as goal

pub returns-clause-found : goal.returns-clause-found
returns-clause-found c =
    IfSome_then c.find_keyed.result c.find_keyed.ensures.found (λ found f.
    subst (λ (xs : List Stored). Contains xs found.now × HaveOneKey c.args.row.now found.now) c.self.view_is
    (found_in c.args.row.now c.self.inside.by_bytes.items c.self.inside.by_word.items c.self.invariant found.now
    (subst (λ (xs : List Stored). Contains xs found.now × HaveOneKey c.args.row.now found.now) c.deref.ensures.value f)))

pub returns-clause-none : goal.returns-clause-none
returns-clause-none c =
    if_none_weaker c.find_keyed.result _ _ (λ a.
    subst (λ (xs : List Stored). AllByRecursion (λ s. HaveOneKey c.args.row.now s → ⊥) xs) c.self.view_is
    (none_in c.args.row.now c.self.inside.by_bytes.items c.self.inside.by_word.items c.self.invariant
    (subst (λ (xs : List Stored). AllByRecursion (λ s. HaveOneKey c.args.row.now s → ⊥) xs) c.deref.ensures.value a)))
    c.find_keyed.ensures.none
