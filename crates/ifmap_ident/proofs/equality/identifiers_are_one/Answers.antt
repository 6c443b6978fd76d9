use Rattle.std.proofs.Common.{ap}
use Rattle.ifmap_ident.specs.Identifiers.{identifier_bytes}
use Rattle.ifmap_ident.proofs.AlikeLaws.{identifiers_alike}
use Rattle.ifmap_ident.proofs.equality.identifiers_are_one.Goals as goal

pub returns-clause-canonical : goal.returns-clause-canonical
returns-clause-canonical c = (
  λ t. ap identifier_bytes (c.have_same_parts.ensures.0 t),
  λ h. c.have_same_parts.ensures.1 (identifiers_alike c.args.one.now c.args.other.now c.is_typed.ensures c.is_typed-2.ensures h),
)
