use Rattle.std.proofs.Common.{◌≡◌, List, ◌++◌, get_or, length, refl, ap, sym, ◌∙◌, subst, arith}
use Rattle.std.proofs.lemmas.List.{append-nil, take_all}
use Rattle.std.proofs.lemmas.Str.{IsUtf8-nil}
use Rattle.std.specs.Prelude.{OnOk, string_bytes}
use Rattle.ifmap_filter.specs.declared.filters.Predicate.{Predicate}
use Rattle.ifmap_filter.specs.Printing.{attribute_text, child_text, joined_texts, predicate_text, text_in, word_in}
use Rattle.ifmap_filter.proofs.PrintLaws.{alike_anywhere, and_there, joined_more, or_there, prints_attr, prints_child, word_later}
use Rattle.ifmap_filter.proofs.printing.+printing.Goals as goal

pub push_predicate-returns-in-Attr : goal.push_predicate-returns-in-Attr
push_predicate-returns-in-Attr t c =
    subst (λ w. OnOk c.push_attribute.result (string_bytes c.push_attribute.new.out ≡ string_bytes c.args.out.now ++ w))
    (sym (ap (λ p. text_in c.args.around (predicate_text c.args.spaces.now p)) c.in-Attr.is
    ∙ ap (text_in c.args.around) (prints_attr c.args.spaces.now c.in-Attr.local c.in-Attr.value)
    ∙ alike_anywhere c.args.around (attribute_text c.in-Attr.local c.in-Attr.value)))
    c.push_attribute.ensures

pub push_predicate-returns-in-Child : goal.push_predicate-returns-in-Child
push_predicate-returns-in-Child t c =
    subst (λ w. OnOk c.push_child.result (string_bytes c.push_child.new.out ≡ string_bytes c.args.out.now ++ w))
    (sym (ap (λ p. text_in c.args.around (predicate_text c.args.spaces.now p)) c.in-Child.is
    ∙ ap (text_in c.args.around) (prints_child c.args.spaces.now c.in-Child.name c.in-Child.value)
    ∙ alike_anywhere c.args.around (child_text c.args.spaces.now c.in-Child.name c.in-Child.value)))
    c.push_child.ensures

pub push_predicate-returns-in-Brackets : goal.push_predicate-returns-in-Brackets
push_predicate-returns-in-Brackets t c =
    subst (λ w. OnOk c.push_parts.result (string_bytes c.push_parts.new.out ≡ string_bytes c.args.out.now ++ w))
    (and_there c.args.spaces.now c.in-And.parts c.in-And.is c.in-Brackets.is) c.push_parts.ensures

pub push_predicate-returns-in-Ands : goal.push_predicate-returns-in-Ands
push_predicate-returns-in-Ands t c =
    subst (λ w. OnOk c.push_group.result (string_bytes c.push_group.new.out ≡ string_bytes c.args.out.now ++ w))
    (and_there c.args.spaces.now c.in-And.parts c.in-And.is c.in-Ands.is) c.push_group.ensures

pub push_predicate-returns-in-Ors : goal.push_predicate-returns-in-Ors
push_predicate-returns-in-Ors t c =
    subst (λ w. OnOk c.push_parts-in-Ors.result (string_bytes c.push_parts-in-Ors.new.out ≡ string_bytes c.args.out.now ++ w))
    (and_there c.args.spaces.now c.in-And.parts c.in-And.is c.in-Ors.is) c.push_parts-in-Ors.ensures

pub push_predicate-returns-in-Brackets-around : goal.push_predicate-returns-in-Brackets-around
push_predicate-returns-in-Brackets-around t c =
    subst (λ w. OnOk c.push_parts-in-Brackets-around.result
    (string_bytes c.push_parts-in-Brackets-around.new.out ≡ string_bytes c.args.out.now ++ w))
    (or_there c.args.spaces.now c.in-Or.parts c.in-Or.is c.in-Brackets-around.is) c.push_parts-in-Brackets-around.ensures

pub push_predicate-returns-in-Ands-around : goal.push_predicate-returns-in-Ands-around
push_predicate-returns-in-Ands-around t c =
    subst (λ w. OnOk c.push_group-in-Ands-around.result
    (string_bytes c.push_group-in-Ands-around.new.out ≡ string_bytes c.args.out.now ++ w))
    (or_there c.args.spaces.now c.in-Or.parts c.in-Or.is c.in-Ands-around.is) c.push_group-in-Ands-around.ensures

pub push_predicate-returns-in-Ors-around : goal.push_predicate-returns-in-Ors-around
push_predicate-returns-in-Ors-around t c =
    subst (λ w. OnOk c.push_group-in-Ors-around.result
    (string_bytes c.push_group-in-Ors-around.new.out ≡ string_bytes c.args.out.now ++ w))
    (or_there c.args.spaces.now c.in-Or.parts c.in-Or.is c.in-Ors-around.is) c.push_group-in-Ors-around.ensures

pub push_parts-loop-part-preserved : goal.push_parts-loop-part-preserved
push_parts-loop-part-preserved t c =
    let list = c.as_slice-part-items.ensures in (
      c.word_in-word.utf8,
      joined_more (word_in c.args.around) (λ p. text_in c.args.around (predicate_text c.args.spaces.now p)) c.args.parts.now
          c.loop-part.part-index
          c.part-item.result (string_bytes c.args.out.now) (string_bytes c.loop-part.out) (string_bytes c.push_str.new.self)
          (string_bytes c.push_predicate.new.out) c.loop-part.word.now (omega (arith, c.loop-part-test.true, ap length list))
          (c.part-item.is ∙ ap (λ (l : List Predicate). get_or l c.loop-part.part-index c.part-item.result) list)
          c.loop-part.invariant.1 c.loop-part.invariant.2 c.in_ok-push_str.ensures.bytes c.in_ok-push_predicate.ensures,
      c.word_in-word.ensures ∙ word_later (word_in c.args.around) c.loop-part.part-index,
    )

pub push_parts-loop-part-init : goal.push_parts-loop-part-init
push_parts-loop-part-init t c = (IsUtf8-nil, sym (append-nil (string_bytes c.args.out.now)), refl)

pub push_parts-returns : goal.push_parts-returns
push_parts-returns t c =
    c.loop-part.invariant.1
    ∙ ap (λ l. string_bytes c.args.out.now ++ joined_texts (word_in c.args.around)
    (λ p. text_in c.args.around (predicate_text c.args.spaces.now p)) l)
    (take_all c.loop-part.part-index c.args.parts.now
    (omega (arith, c.loop-part-test.false, ap length c.as_slice-part-items.ensures)))
