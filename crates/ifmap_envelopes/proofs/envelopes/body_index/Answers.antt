use Rattle.std.proofs.Common.{◌≡◌, ◌+◌, ◌∙◌, ap, codes, false, sym, true}
use Rattle.ifmap_forms.specs.Tables.{parts_in}
use Rattle.ifmap_envelopes.specs.Envelopes.{blank_front, is_first, is_last_part, is_part_named}
use Rattle.ifmap_envelopes.proofs.EnvelopeLaws.{after_header, body_after, body_first, header_stands_first, no_body_after, no_body_first, parts_from}
use Rattle.ifmap_envelopes.proofs.envelopes.body_index.Goals as goal

pub returns-then-is_last_body-clause-found : goal.returns-then-is_last_body-clause-found
returns-then-is_last_body-clause-found c =
    let children = c.args.children.now in
    let first = c.blank_front-first.result in
    let left = parts_from children c.children_from-left.result.now first c.children_from-left.ensures in
    body_first (parts_in children) first c.blank_front-first.ensures.front
    (ap (is_last_part (is_part_named (codes "Body"))) (sym left) ∙ (sym c.is_last_body.ensures ∙ c.if-is_last_body.true))

pub returns-then-not-begins_with_header-clause-none : goal.returns-then-not-begins_with_header-clause-none
returns-then-not-begins_with_header-clause-none c = λ none index body b.
    let children = c.args.children.now in
    let first = c.blank_front-first.result in
    let left = parts_from children c.children_from-left.result.now first c.children_from-left.ensures in
    no_body_first (parts_in children) first c.blank_front-first.ensures.front
    (ap (is_last_part (is_part_named (codes "Body"))) (sym left) ∙ (sym c.is_last_body.ensures ∙ c.if-is_last_body.false))
    (ap (is_first (is_part_named (codes "Header"))) (sym left)
    ∙ (sym c.begins_with_header.ensures.header ∙ c.if-not-begins_with_header.true)) index body b

pub returns-then-is_last_body-2-clause-found : goal.returns-then-is_last_body-2-clause-found
returns-then-is_last_body-2-clause-found c =
    let children = c.args.children.now in
    let first = c.blank_front-first.result in
    let is = c.blank_front-first.ensures.front in
    let index = first + 1 + c.blank_front.result in
    let left = parts_from children c.children_from-left.result.now first c.children_from-left.ensures in
    let o = header_stands_first (parts_in children) first is
    (ap (is_first (is_part_named (codes "Header"))) (sym left)
    ∙ (sym c.begins_with_header.ensures.header ∙ c.if-not-begins_with_header.false)) in
    let others = parts_from children c.children_from.result.now (first + 1) c.children_from.ensures in
    let blank : c.blank_front.result ≡ blank_front o.1 =
    c.blank_front.ensures.front ∙ ap blank_front (others ∙ after_header (parts_in children) first is o.0 o.1 o.2) in
    body_after (parts_in children) first is o.0 o.1 o.2 index (ap (λ n. first + 1 + n) blank)
    (ap (is_last_part (is_part_named (codes "Body")))
    (sym (parts_from children c.children_from-2.result.now index c.children_from-2.ensures))
    ∙ (sym c.is_last_body-2.ensures ∙ c.if-is_last_body-2.true))

pub returns-else-is_last_body-2-clause-none : goal.returns-else-is_last_body-2-clause-none
returns-else-is_last_body-2-clause-none c = λ none j body b.
    let children = c.args.children.now in
    let first = c.blank_front-first.result in
    let is = c.blank_front-first.ensures.front in
    let index = first + 1 + c.blank_front.result in
    let left = parts_from children c.children_from-left.result.now first c.children_from-left.ensures in
    let others = parts_from children c.children_from.result.now (first + 1) c.children_from.ensures in
    no_body_after (parts_in children) first is
    (ap (is_last_part (is_part_named (codes "Body"))) (sym left) ∙ (sym c.is_last_body.ensures ∙ c.if-is_last_body.false)) index
    (ap (λ n. first + 1 + n) (c.blank_front.ensures.front ∙ ap blank_front others))
    (ap (is_last_part (is_part_named (codes "Body")))
    (sym (parts_from children c.children_from-2.result.now index c.children_from-2.ensures))
    ∙ (sym c.is_last_body-2.ensures ∙ c.if-is_last_body-2.false)) j body b
