use Rattle.std.proofs.Common.{◌++◌, ◌+◌, take, get_or, string_bytes, ap, sym, ◌∙◌, arith}
use Rattle.std.specs.Net.Text.{hex}
use Rattle.ifmap_addresses.specs.IpV6.{ip_v6_text}
use Rattle.ifmap_addresses.proofs.Joined.{after_colon, next_written}
use Rattle.ifmap_addresses.proofs.ip_v6.push_groups.Goals as goal

pub loop-group-preserved : goal.loop-group-preserved
loop-group-preserved c =
    let group = hex (get_or c.in-Some.rest.now c.loop-group.group-index 0) in
    let old = string_bytes c.args.text.now in
    c.in_ok-push_group-2.ensures ∙ ap (λ t. t ++ group) (c.in_ok-push.ensures.bytes ∙
    (λ i. c.loop-group.invariant i ++ c.in_ok-push.ensures.ascii (omega arith) i))
    ∙ after_colon old (ip_v6_text (take (c.loop-group.group-index + 1) c.args.groups.now)) group
    ∙ ap (λ t. old ++ t) (sym (next_written hex c.args.groups.now c.in-Some.rest.now c.in-Some.first.now c.in-Some.ensures.cases.0
    c.loop-group.group-index c.loop-group-test.true))
