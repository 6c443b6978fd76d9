-- Who is told one error in place of all has no subscription left (`alone_are_bare`).
use Rattle.std.proofs.Common.{◌≡◌, subst, Bool, false, List, Some}
use Rattle.std.proofs.lemmas.Bool.{both_ways}
use Rattle.std.specs.BTreeMap.{get}
use Rattle.std.specs.List.{slice_get}
use Rattle.std.specs.Ordering.{nat_cmp}
use Rattle.ifmap_lemmas.specs.Flags.{unturned_fails}
use Rattle.ifmap_standing.specs.declared.standing.Standing.{Standing}
use Rattle.ifmap_tellings.specs.Tellings.{AloneAreBare, Tellings, flags_of_alone, is_alone}

pub alone_are_bare : (tellings : Tellings) (gone after : List Bool) (standing : List Standing)
    → after ≡ flags_of_alone tellings gone standing
    → AloneAreBare tellings after standing
alone_are_bare tellings gone after standing is = λ n alone i x e off same.
    let off_there : slice_get (flags_of_alone tellings gone standing) i ≡ Some false = subst (λ l. slice_get l i ≡ Some false) is off in
    let fails = unturned_fails (λ (y : Standing). is_alone (get nat_cmp tellings y.serial)) gone standing i x e off_there in
    both_ways (is_alone (get nat_cmp tellings n)) (subst (λ m. is_alone (get nat_cmp tellings m) ≡ false) same fails) alone
