use Rattle.std.proofs.Common.{ap, sym, ◌∙◌}
use Rattle.ifmap_ident.specs.declared.identifiers.Identifier.TheVariants.{Device}
use Rattle.ifmap_ident.specs.Identifiers.{identifier_order}
use Rattle.ifmap_ident.proofs.OrderLaws.{devices}
use Rattle.ifmap_ident.proofs.ordering.order_of_device.Goals as goal

pub returns-in-Device : goal.returns-in-Device
returns-in-Device c kind =
    devices c.text_order.result c.args.name.now c.in-Device.other_name c.text_order.ensures
    ∙ ap (identifier_order (Device c.args.name.now)) (sym c.in-Device.is)
