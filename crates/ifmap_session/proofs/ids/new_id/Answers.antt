use Rattle.std.proofs.Common.{◌∙◌, ap, ◌∷◌, ◌++◌}
use Rattle.std.specs.Fmt.{decimal}
use Rattle.uuid.specs.Text.{hyphenated_text, lower}
use Rattle.ifmap_session.specs.SessionIds.{hyphen}
use Rattle.ifmap_session.proofs.ids.new_id.Goals as goal

pub returns : goal.returns
returns c =
    c.in_ok-format.ensures.ok
    ∙ ap (λ t. decimal c.args.serial ++ hyphen ∷ t) (c.encode_lower-word.ensures.text
    ∙ ap (hyphenated_text lower) (c.hyphenated.ensures ∙ c.from_u128.ensures))
