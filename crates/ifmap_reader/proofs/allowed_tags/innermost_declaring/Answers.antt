use Rattle.std.proofs.Common.{length, reverse, refl, subst, arith}
use Rattle.ifmap_reader.specs.declared.open_elements.OpenElement.{OpenElement}
use Rattle.ifmap_reader.specs.OpenElements.{CountsBindings}
use Rattle.ifmap_reader.proofs.Linking.{last_reaches}
use Rattle.ifmap_reader.proofs.allowed_tags.innermost_declaring.Goals as goal

pub returns : goal.returns
returns c =
    subst (λ (f : OpenElement). CountsBindings c.args.bindings.now f.declaring (reverse c.args.open_elements.now))
    c.index-open_elements-count.is
    (last_reaches c.args.bindings.now c.args.open_elements.now c.index-open_elements-count.result (length c.args.open_elements.now)
    (omega (arith, c.if-count-eq0.false)) refl
    c.index-open_elements-count.is c.if-not-is_empty.ensures c.requires)
