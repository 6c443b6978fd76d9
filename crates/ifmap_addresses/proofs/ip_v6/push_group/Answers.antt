use Rattle.std.proofs.Common.{◌<◌, [], ◌∷◌, ◌++◌, ◌-◌, take, drop, string_bytes, ap, subst, sym, ◌∙◌}
use Rattle.std.proofs.lemmas.List.{take_all}
use Rattle.ifmap_addresses.proofs.Grouped.{bare_hex, hex_is_ascii}
use Rattle.ifmap_addresses.proofs.Joined.{one_byte}
use Rattle.ifmap_addresses.proofs.ip_v6.push_group.Goals as goal

pub loop-digit-preserved : goal.loop-digit-preserved
loop-digit-preserved c =
    let items = take (4 - c.leading_zeros.result) (drop c.leading_zeros.result c.closed_group-digits.result) in
    let written = bare_hex c.args.group c.leading_zeros.result c.closed_group-digits.result c.closed_group-digits.ensures
    c.leading_zeros.ensures.value c.leading_zeros.ensures.within in
    let ascii = hex_is_ascii c.args.group items c.ranges.group.fits written c.loop-digit.digit-index in
    (c.in_ok-push.ensures.bytes ∙ (λ i. c.loop-digit.invariant i
    ++ (c.in_ok-push.ensures.ascii (subst (λ n. n < 128) (sym c.from.ensures) ascii) ∙ ap (λ n. n ∷ []) c.from.ensures) i))
    ∙ one_byte (string_bytes c.args.text.now) items c.loop-digit.digit-index c.loop-digit-test.true

pub returns : goal.returns
returns c =
    let items = take (4 - c.leading_zeros.result) (drop c.leading_zeros.result c.closed_group-digits.result) in
    c.loop-digit.invariant ∙ ap (λ t. string_bytes c.args.text.now ++ t) (take_all c.loop-digit.digit-index items c.loop-digit-test.false
    ∙ bare_hex c.args.group c.leading_zeros.result c.closed_group-digits.result c.closed_group-digits.ensures
    c.leading_zeros.ensures.value c.leading_zeros.ensures.within)
