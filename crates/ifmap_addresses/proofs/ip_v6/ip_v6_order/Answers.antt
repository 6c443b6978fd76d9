use Rattle.std.proofs.Common.{◌≡◌, ◌+◌, ap, drop, subst, sym, ◌∙◌, arith}
use Rattle.std.specs.Cmp.Lexicographic.{slice_cmp}
use Rattle.std.specs.Ordering.{nat_cmp, ordering_then}
use Rattle.ifmap_addresses.specs.IpV6.{ip_v6_text}
use Rattle.ifmap_addresses.proofs.Grouped.{all_groups, one_group}
use Rattle.ifmap_addresses.proofs.ip_v6.ip_v6_order.Goals as goal

pub loop-i-preserved : goal.loop-i-preserved
loop-i-preserved c =
    let v = c.args.one.now in
    let w = c.args.other.now in
    one_group c.loop-i.i c.loop-i.order v w c.loop-i-test.true c.told-one c.told-other c.fits-one c.fits-other c.loop-i.invariant
    ∙ ap (λ o. ordering_then o (slice_cmp nat_cmp (ip_v6_text (drop (c.loop-i.i + 1) v)) (ip_v6_text (drop (c.loop-i.i + 1) w))))
    (sym (c.then-order.ensures ∙ ap (ordering_then c.loop-i.order) c.inner_order.ensures))

pub returns : goal.returns
returns c =
    let v = c.args.one.now in
    let w = c.args.other.now in
    let at_last : c.loop-i.i ≡ 7 = omega (arith, c.loop-i-test.false, c.loop-i.auto.i-end) in
    c.then.ensures ∙ ap (ordering_then c.loop-i.order) c.last_order.ensures
    ∙ sym (all_groups c.loop-i.order v w c.told-one c.told-other
    (subst (λ i. slice_cmp nat_cmp (ip_v6_text v) (ip_v6_text w)
    ≡ ordering_then c.loop-i.order (slice_cmp nat_cmp (ip_v6_text (drop i v)) (ip_v6_text (drop i w)))) at_last c.loop-i.invariant))
