use Rattle.std.proofs.Common.{sym, ◌∙◌}
use Rattle.ifmap_heads.proofs.Targets.{ends_in_target, target_ends}
use Rattle.ifmap_heads.proofs.beginnings.ends_in_target.Goals as goal

pub returns : goal.returns
returns c =
    let (blank, cut) = c.after_empty_lines.ensures.cut in
    let line = c.after_empty_lines.result.now in (
      λ yes. ends_in_target c.args.bytes.now blank line cut (sym c.is_cut_target.ensures ∙ yes),
      λ ends. c.is_cut_target.ensures ∙ target_ends c.args.bytes.now blank line cut c.after_empty_lines.ensures.none ends,
    )
