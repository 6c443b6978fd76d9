use Rattle.std.proofs.Common.{◌≡◌, ◌∙◌, ◌||◌, Some, ap, sym}
use Rattle.std.specs.BTreeMap.{get}
use Rattle.std.specs.Option.{is_some}
use Rattle.std.specs.Ordering.{nat_cmp}
use Rattle.ifmap_standing.specs.ifmap_machine.Telling.{is_overfull, overflow_session}
use Rattle.ifmap_tellings.specs.Tellings.{is_alone, tell_if}
use Rattle.ifmap_tellings.proofs.overflowing.overflow_where.Goals as goal

pub returns-in_ok-overflow-in-Some-clause-told : goal.returns-in_ok-overflow-in-Some-clause-told
returns-in_ok-overflow-in-Some-clause-told c = λ live s sized within found own wide.
    let w = c.overflow.new.telling
    in let was : get nat_cmp c.args.tellings.now c.args.serial ≡ Some c.in-Some.telling.now = sym c.in-Some.ensures.value
    in let new = ((c.get_mut.follows.holds w).3 (ap is_some was)).1
    in ap (λ o. tell_if o s) new
    ∙ c.in_ok-overflow-in-Some.ensures.told c.args.serial live s (sized c.args.serial c.in-Some.telling.now was) found own wide
    ∙ ap (λ o. overflow_session (tell_if o s)) (sym was)

pub returns-in_ok-overflow-in-Some-clause-alone : goal.returns-in_ok-overflow-in-Some-clause-alone
returns-in_ok-overflow-in-Some-clause-alone c = λ live s sized within found own.
    let w = c.overflow.new.telling
    in let was : get nat_cmp c.args.tellings.now c.args.serial ≡ Some c.in-Some.telling.now = sym c.in-Some.ensures.value
    in let new = ((c.get_mut.follows.holds w).3 (ap is_some was)).1
    in ap is_alone new
    ∙ c.in_ok-overflow-in-Some.ensures.alone c.args.serial live s (sized c.args.serial c.in-Some.telling.now was) found own
    ∙ ap (λ o. is_alone o || is_overfull (tell_if o s)) (sym was)
