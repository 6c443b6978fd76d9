use Rattle.std.proofs.Common.{◌≡◌, false, subst, sym, rules, IfSome}
use Rattle.std.specs.List.{insert, list_any}
use Rattle.ifmap_lemmas.specs.AnyOf.{not_found}
use Rattle.ifmap_changes.specs.ifmap_machine.Subscribing.{is_of_name}
use Rattle.ifmap_changes.specs.ifmap_standing.Standing.{standing_of}
use Rattle.ifmap_subscribes.specs.Renamings.{StandsAmong}
use Rattle.ifmap_subscribes.proofs.RenamingPlaces.{put_at}
use Rattle.ifmap_subscribes.proofs.renamings.put_where.Goals as goal

pub unwrap_err-place-requires : goal.unwrap_err-place-requires
unwrap_err-place-requires c =
    let free : IfSome (c.args.begun) (λ x. list_any (λ other. is_of_name x.serial x.name (standing_of other)) c.args.standing.now.items
    ≡ false) =
    c.requires.free in
    not_found (λ x. is_of_name c.in-Some.begun.serial c.in-Some.begun.name (standing_of x)) c.args.standing.now.items c.place_of_name.result
    (rw c.deref.ensures.value at c.place_of_name.ensures.found) (rw c.in-Some.is at free)

pub returns-in-Some-clause-among : goal.returns-in-Some-clause-among
returns-in-Some-clause-among c =
    let put : c.insert.new.self.items ≡ insert c.args.standing.now.items c.unwrap_err-place.result c.in-Some.begun = search rules in
    subst (λ o. StandsAmong o c.args.standing.now.items c.insert.new.self.items) (sym c.in-Some.is)
    (put_at c.args.standing.now.items c.insert.new.self.items c.unwrap_err-place.result c.in-Some.begun put)
