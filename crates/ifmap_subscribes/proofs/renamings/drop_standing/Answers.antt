use Rattle.std.proofs.Common.{◌≡◌, ◌∙◌, ◌∷◌, ◌++◌, Some, subst, sym, ap, slice_get}
use Rattle.std.proofs.lemmas.Option.{get_or_from_slice_get}
use Rattle.ifmap_changes.specs.Between.{IsSteady}
use Rattle.ifmap_lemmas.specs.Filters.{none_dropped}
use Rattle.ifmap_lemmas.specs.Fronts.{cut_around}
use Rattle.ifmap_changes.specs.ifmap_machine.Subscribing.{is_of_name}
use Rattle.ifmap_changes.specs.ifmap_standing.Standing.{standing_of}
use Rattle.ifmap_subscribes.proofs.RenamingPlaces.{removed_named}
use Rattle.ifmap_subscribes.proofs.RenamingStarts.{steady_without}
use Rattle.ifmap_subscribes.proofs.renamings.drop_standing.Goals as goal

pub release_start-requires : goal.release_start-requires
release_start-requires c =
    let found = rw c.deref.ensures.value at c.in-Ok.ensures.found in
    let xs = c.args.standing.now.items in
    let same : c.remove-former.result ≡ found.0 =
    c.remove-former.ensures.value ∙ get_or_from_slice_get xs c.in-Ok.at found.0 c.remove-former.result found.1 in
    let there : slice_get xs c.in-Ok.at ≡ Some c.remove-former.result = found.1 ∙ ap Some (sym same) in
    let some = c.requires.steady in (
      c.remove-former.new.self.items ++ some.0,
      subst (λ ys. IsSteady c.args.graph.now (c.remove-former.result ∷ (ys ++ some.0))) (sym c.remove-former.ensures.items)
          (steady_without c.args.graph.now xs c.in-Ok.at c.remove-former.result some.0
          (cut_around xs c.in-Ok.at c.remove-former.result there) some.1),
    )

pub returns-in-Ok-clause-standing : goal.returns-in-Ok-clause-standing
returns-in-Ok-clause-standing c =
    c.remove-former.ensures.items
    ∙ removed_named c.args.serial c.args.name.now c.args.standing.now.items c.in-Ok.at c.requires.rising
    (rw c.deref.ensures.value at c.in-Ok.ensures.found)

pub returns-in-Ok-clause-steady : goal.returns-in-Ok-clause-steady
returns-in-Ok-clause-steady c = λ more steady.
    let found = rw c.deref.ensures.value at c.in-Ok.ensures.found in
    let xs = c.args.standing.now.items in
    let same : c.remove-former.result ≡ found.0 =
    c.remove-former.ensures.value ∙ get_or_from_slice_get xs c.in-Ok.at found.0 c.remove-former.result found.1 in
    let there : slice_get xs c.in-Ok.at ≡ Some c.remove-former.result = found.1 ∙ ap Some (sym same) in
    c.release_start.ensures.steady (c.remove-former.new.self.items ++ more)
    (subst (λ ys. IsSteady c.args.graph.now (c.remove-former.result ∷ (ys ++ more))) (sym c.remove-former.ensures.items)
    (steady_without c.args.graph.now xs c.in-Ok.at c.remove-former.result more
    (cut_around xs c.in-Ok.at c.remove-former.result there) steady))

pub returns-in_default-clause-standing : goal.returns-in_default-clause-standing
returns-in_default-clause-standing c =
    none_dropped (λ x. is_of_name c.args.serial c.args.name.now (standing_of x)) c.args.standing.now.items
    (rw c.deref.ensures.value at c.in_default.ensures.only)
