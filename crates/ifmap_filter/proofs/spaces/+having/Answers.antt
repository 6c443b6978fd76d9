use Rattle.std.proofs.Common.{ap, sym, ◌∙◌}
use Rattle.ifmap_filter.specs.Spaces.{has_each, predicate_spaces}
use Rattle.ifmap_filter.proofs.SpaceLaws.{had_and, had_or}
use Rattle.ifmap_filter.proofs.spaces.+having.Goals as goal

pub has_predicate-returns-in-And : goal.has_predicate-returns-in-And
has_predicate-returns-in-And t c =
    c.has_parts.ensures
    ∙ sym (ap (λ p. has_each c.args.spaces.now (predicate_spaces p)) c.in-And.is ∙ had_and c.args.spaces.now c.in-And.parts)

pub has_predicate-returns-in-Or : goal.has_predicate-returns-in-Or
has_predicate-returns-in-Or t c =
    c.has_parts-in-Or.ensures
    ∙ sym (ap (λ p. has_each c.args.spaces.now (predicate_spaces p)) c.in-Or.is ∙ had_or c.args.spaces.now c.in-Or.parts)
