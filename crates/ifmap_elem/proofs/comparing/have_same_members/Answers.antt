use Rattle.std.proofs.Common.{◌≡◌, ◌∙◌, sym, refl, subst}
use Rattle.std.proofs.lemmas.List.{take_all}
use Rattle.std.proofs.lemmas.List.Elements.{All-more, All-same}
use Rattle.ifmap_elem.specs.printer.Occurrences.{occurrences_of}
use Rattle.ifmap_elem.specs.laws.AttributeOrder.{not_same_lengths, not_same_numbers, same_members}
use Rattle.ifmap_elem.proofs.comparing.have_same_members.Goals as goal

pub returns-then-one-other : goal.returns-then-one-other
returns-then-one-other c = (λ f. cc, λ same. absurd (not_same_lengths c.args.one.now c.args.other.now c.if-one-other.true same))

pub returns-then-occurrences : goal.returns-then-occurrences
returns-then-occurrences c = (
  λ f. cc,
  λ same. absurd (not_same_numbers c.attribute-item.result c.args.one.now c.args.other.now
      (λ e. c.if-occurrences.true (c.occurrences.ensures ∙ e ∙ sym c.occurrences-in-loop-attribute.ensures)) same),
)

pub loop-attribute-preserved : goal.loop-attribute-preserved
loop-attribute-preserved c =
    All-more (λ a. occurrences_of a c.args.one.now ≡ occurrences_of a c.args.other.now) c.args.one.now c.loop-attribute.attribute-index
    c.attribute-item.result c.loop-attribute-test.true c.loop-attribute.invariant
    (subst (λ a. occurrences_of a c.args.one.now ≡ occurrences_of a c.args.other.now) c.attribute-item.is
    (sym c.occurrences.ensures ∙ c.if-occurrences.false ∙ c.occurrences-in-loop-attribute.ensures))

pub returns : goal.returns
returns c = (
  λ t. same_members c.args.one.now c.args.other.now c.if-one-other.false
      (All-same (λ a. occurrences_of a c.args.one.now ≡ occurrences_of a c.args.other.now) c.args.one.now _
      (sym (take_all c.loop-attribute.attribute-index c.args.one.now c.loop-attribute-test.false)) c.loop-attribute.invariant),
  λ same. refl,
)
