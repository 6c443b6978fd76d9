use Rattle.std.proofs.Common.{◌∙◌, ◌∷◌, sym}
use Rattle.ifmap_lemmas.specs.Separated.{comma_parts}
use Rattle.ifmap_forms.proofs.KindLaws.{comma_found, no_comma}
use Rattle.ifmap_forms.proofs.kinds.cut_piece.Goals as goal

pub returns-in-Some-clause-pieces : goal.returns-in-Some-clause-pieces
returns-in-Some-clause-pieces c =
    (comma_found c.args.text.now c.in-Some.end c.in-Some.ensures.place).pieces
    ∙ (λ i. sym c.take_front.ensures i ∷ comma_parts (sym c.rest_from.ensures i))

pub returns-in-None-clause-whole : goal.returns-in-None-clause-whole
returns-in-None-clause-whole c = no_comma c.args.text.now c.in-None.ensures.place
