-- A subscription that stands, as the machine knows it.
use Rattle.ifmap_machine.specs.State as machine
use Rattle.ifmap_standing.specs.declared.standing.Standing.{Standing}

-- the serial of its session, its name there, and its search
abbrev pub standing_of : Standing → machine.Standing
standing_of x = record { serial = x.serial; name = x.name; search = x.subscription.search }
