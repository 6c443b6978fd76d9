use Rattle.std.proofs.Common.{◌≡◌, subst, sym, rules}
use Rattle.std.specs.Prelude.{string_bytes}
use Rattle.ifmap_meta.specs.ClientNames.{IsClientName}
use Rattle.ifmap_drill.specs.Events.{client_name}
use Rattle.ifmap_drill.proofs.ClientNames.{name_is}
use Rattle.ifmap_drill.proofs.events.client_name.Goals as goal

pub unwrap-requires : goal.unwrap-requires
unwrap-requires c =
    let text : string_bytes c.in_ok-format.field-0 ≡ client_name c.args.client = search rules in
    c.new.ensures.some.1 (subst IsClientName (sym text) (name_is c.args.client c.requires))
