use Rattle.std.proofs.Common.{◌≡◌, sym, ap, ◌∙◌, arith}
use Rattle.std.proofs.lemmas.Slice.Eq.{bytes_eq-Decides}
use Rattle.std.specs.Int.{to_be_bytes, from_be_bytes, w128}
use Rattle.uuid.specs.Text.{lower, simple_text}
use Rattle.ifmap_server.proofs.Cuts.{word_parsed, word_back}
use Rattle.ifmap_server.proofs.headers.hex_word.Goals as goal
use Rattle.ifmap_lemmas.specs.Texts.{differs}

pub returns-in_default : goal.returns-in_default
returns-in_default c = λ n small e. c.in_default.not-Ok (to_be_bytes w128 n)
    (word_parsed n c.args.text.now c.try_parse.result c.try_parse.ensures.ok c.try_parse.ensures.bytes e)

pub returns-then-eq : goal.returns-then-eq
returns-then-eq c = (
  omega arith,
  sym ((bytes_eq-Decides c.encode_lower.result.now c.args.text.now).0 (sym c.eq.ensures ∙ c.if-eq.true)) ∙ c.encode_lower.ensures.text
      ∙ ap (simple_text lower) (c.simple.ensures ∙ c.from_u128.ensures),
)

pub returns-else-eq : goal.returns-else-eq
returns-else-eq c = λ n small e.
    let p = word_parsed n c.args.text.now c.try_parse.result c.try_parse.ensures.ok c.try_parse.ensures.bytes e in
    let word : c.in-Ok.word ≡ to_be_bytes w128 n = cc in
    let same : c.as_u128-number.result ≡ n = c.as_u128-number.ensures ∙ ap (from_be_bytes w128) word ∙ word_back n small in
    differs c.encode_lower.result.now c.args.text.now c.eq.result c.eq.ensures c.if-eq.false
    (c.encode_lower.ensures.text ∙ ap (simple_text lower) (c.simple.ensures ∙ c.from_u128.ensures ∙ ap (to_be_bytes w128) same) ∙ sym e)
