use Rattle.std.proofs.Common.{◌≡◌, sym, ap, ◌∙◌}
use Rattle.std.specs.Fmt.{decimal}
use Rattle.ifmap_words.proofs.numbers.decimal_number.Goals as goal
use Rattle.ifmap_lemmas.specs.Texts.{differs, parses}

pub returns-in_default : goal.returns-in_default
returns-in_default c = λ n small e. let p = parses n c.args.text.now c.parse.result c.parse.ensures.value.0 small e in
    c.in_default.not-Ok n p

pub returns-else-eq : goal.returns-else-eq
returns-else-eq c = λ n small e.
    let p = parses n c.args.text.now c.parse.result c.parse.ensures.value.0 small e in
    let same : c.in-Ok.number ≡ n = cc in
    differs c.format.result.now c.args.text.now c.eq.result c.eq.ensures c.if-eq.false (c.format.ensures.text ∙ ap decimal same ∙ sym e)
