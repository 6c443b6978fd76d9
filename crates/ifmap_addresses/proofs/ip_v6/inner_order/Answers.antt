use Rattle.std.proofs.Common.{[], ◌∷◌, ◌++◌, ap, sym, ◌∙◌}
use Rattle.std.specs.Cmp.Lexicographic.{slice_cmp}
use Rattle.std.specs.Net.Text.{hex}
use Rattle.std.specs.Ordering.{nat_cmp}
use Rattle.std.specs.Str.{byte}
use Rattle.ifmap_lemmas.specs.Texts.{slice_cmp-same}
use Rattle.ifmap_addresses.proofs.Grouped.{closed_hex}
use Rattle.ifmap_addresses.proofs.ip_v6.inner_order.Goals as goal

pub returns-then-one-other : goal.returns-then-one-other
returns-then-one-other c =
    sym (slice_cmp-same (hex c.args.one ++ (byte ":" ∷ [])) (hex c.args.other ++ (byte ":" ∷ []))
    (ap (λ n. hex n ++ (byte ":" ∷ [])) c.if-one-other.true))

pub returns : goal.returns
returns c = c.cmp.ensures ∙ (λ i. slice_cmp nat_cmp
    (closed_hex c.args.one c.leading_zeros.result c.closed_group-digits.result c.closed_group-digits.ensures c.leading_zeros.ensures.value
    c.leading_zeros.ensures.within i)
    (closed_hex c.args.other c.leading_zeros-2.result c.closed_group-other_digits.result c.closed_group-other_digits.ensures
    c.leading_zeros-2.ensures.value c.leading_zeros-2.ensures.within i))
