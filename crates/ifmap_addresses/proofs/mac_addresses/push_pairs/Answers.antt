use Rattle.std.proofs.Common.{◌++◌, ◌+◌, take, get_or, string_bytes, ap, sym, ◌∙◌, arith}
use Rattle.ifmap_addresses.specs.MacAddresses.{hex_pair, mac_address_text}
use Rattle.ifmap_addresses.proofs.Joined.{after_colon, next_written}
use Rattle.ifmap_addresses.proofs.mac_addresses.push_pairs.Goals as goal

pub loop-byte-preserved : goal.loop-byte-preserved
loop-byte-preserved c =
    let pair = hex_pair (get_or c.in-Some.rest.now c.loop-byte.byte-index 0) in
    let old = string_bytes c.args.text.now in
    c.in_ok-push_pair-2.ensures ∙ ap (λ t. t ++ pair) (c.in_ok-push.ensures.bytes ∙
    (λ i. c.loop-byte.invariant i ++ c.in_ok-push.ensures.ascii (omega arith) i))
    ∙ after_colon old (mac_address_text (take (c.loop-byte.byte-index + 1) c.args.bytes.now)) pair
    ∙ ap (λ t. old ++ t) (sym (next_written hex_pair c.args.bytes.now c.in-Some.rest.now c.in-Some.first.now c.in-Some.ensures.cases.0
    c.loop-byte.byte-index c.loop-byte-test.true))
