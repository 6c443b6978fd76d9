use Rattle.std.proofs.Common.{nat_cmp, sym, subst, ◌∙◌}
use Rattle.std.specs.Cmp.Lexicographic.{slice_cmp}
use Rattle.ifmap_lemmas.specs.Places.{copied_there}
use Rattle.ifmap_ident.specs.Leading.{FrontsCompare}
use Rattle.ifmap_ident.specs.Written.{closed_text, written_byte}
use Rattle.ifmap_ident.proofs.PlacedLaws.{text_leads}
use Rattle.ifmap_ident.proofs.written.bytes_order.Goals as goal

pub returns : goal.returns
returns c =
    let place = c.args.place in
    let one = c.args.one.now in
    let other = c.args.other.now in
    let shared = c.shared_len-shared.result in
    let first = copied_there one shared c.get.result c.get.ensures.lookup.0 c.get.ensures.lookup.1 in
    let second = copied_there other shared c.get-2.result c.get-2.ensures.lookup.0 c.get-2.ensures.lookup.1 in
    subst (λ o. FrontsCompare o (closed_text place one) (closed_text place other)) (sym (c.order_after_shared.ensures
    ∙ (λ i. slice_cmp nat_cmp (written_byte place (first i)) (written_byte place (second i)))))
    (text_leads place one other shared c.shared_len-shared.ensures.shared c.shared_len-shared.ensures.apart)
