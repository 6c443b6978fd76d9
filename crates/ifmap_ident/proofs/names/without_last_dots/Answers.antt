use Rattle.ifmap_ident.proofs.DotLaws.{trim_cuts}
use Rattle.ifmap_ident.proofs.names.without_last_dots.Goals as goal

pub returns : goal.returns
returns c = trim_cuts c.args.text.now c.trim_end_matches.result.now c.trim_end_matches.ensures.matches
