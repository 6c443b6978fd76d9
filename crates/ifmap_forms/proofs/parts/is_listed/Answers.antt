use Rattle.std.proofs.Common.{◌∙◌}
use Rattle.std.specs.Str.{bytes_eq}
use Rattle.ifmap_forms.proofs.PartLaws.{any_borrowed}
use Rattle.ifmap_forms.proofs.parts.is_listed.Goals as goal

pub returns : goal.returns
returns c = c.is_among.ensures ∙ any_borrowed (bytes_eq c.args.local.now) c.args.locals.now
