use Rattle.std.proofs.Common.{◌≡◌, ap, ◌∙◌, sym, Some, [], unwrap_or}
use Rattle.std.proofs.lemmas.Map.Steps.{set_value_same}
use Rattle.std.proofs.lemmas.Result.{on_err_weaker, on_ok_weaker}
use Rattle.std.specs.BTreeMap.{is_at}
use Rattle.std.specs.Cmp.Lexicographic.{slice_cmp}
use Rattle.std.specs.Ordering.{nat_cmp}
use Rattle.ifmap_folds.specs.Folds.{with_entries}
use Rattle.ifmap_client.proofs.Following.{write_sets_name}
use Rattle.ifmap_client.proofs.client_sets.add_entries.Goals as goal

pub returns-in-Some-clause-folded : goal.returns-in-Some-clause-folded
returns-in-Some-clause-folded c =
    let w = c.add.new.self in
    on_ok_weaker c.add.result (λ (e : w ≡ with_entries c.args.entries.now c.in-Some.set.now).
    write_sets_name c.args.sets.now (c.get_mut.follows.lender w) c.args.name.now c.in-Some.set.now w _ c.in-Some.ensures.value
    (c.get_mut.follows.holds w)
    (ap Some e ∙ ap (λ o. Some (with_entries c.args.entries.now (unwrap_or o []))) c.in-Some.ensures.value)) c.add.ensures.added

pub returns-in-Some-clause-unchanged : goal.returns-in-Some-clause-unchanged
returns-in-Some-clause-unchanged c =
    let w = c.add.new.self in
    on_err_weaker c.add.result (λ (e : w ≡ c.in-Some.set.now).
    (c.get_mut.follows.holds w).0
    ∙ set_value_same (is_at (slice_cmp nat_cmp c.args.name.now)) c.args.sets.now.entries w
    (sym c.in-Some.ensures.value ∙ ap Some (sym e))) c.add.ensures.unchanged
