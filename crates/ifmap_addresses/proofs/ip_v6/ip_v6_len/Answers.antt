use Rattle.std.proofs.Common.{◌+◌, length, ap, sym, ◌∙◌, arith}
use Rattle.std.proofs.lemmas.List.{take_all}
use Rattle.std.specs.List.{sum_by}
use Rattle.std.specs.Net.Text.{hex}
use Rattle.ifmap_addresses.proofs.Grouped.{eight_groups_length}
use Rattle.ifmap_addresses.proofs.ip_v6.ip_v6_len.Goals as goal

pub returns : goal.returns
returns c =
    let value = c.args.value.now in
    c.loop-group.invariant.sum ∙ ap (λ v. 7 + sum_by (λ g. length (hex g)) v) (take_all c.loop-group.group-index value
    (let eight = c.told-value in let all = c.loop-group-test.false in omega arith)) ∙ sym (eight_groups_length value c.told-value)
