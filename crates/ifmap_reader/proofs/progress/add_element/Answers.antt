use Rattle.std.proofs.Common.{◌-◌, arith, refl}
use Rattle.ifmap_reader.specs.OpenElements.{with_inner}
use Rattle.ifmap_reader.specs.declared.open_elements.OpenElement.{OpenElement}
use Rattle.ifmap_reader.proofs.Lasts.{last_changed}
use Rattle.ifmap_reader.proofs.progress.add_element.Goals as goal

pub returns : goal.returns
returns c =
    last_changed (λ (f : OpenElement). with_inner f c.args.element c.args.declared) c.args.open_elements.now.items _ (c.len-last.result - 1)
    c.index_mut.result.now c.add_inner.new.self (omega (arith, c.requires, c.len-last.ensures)) c.index_mut.ensures.value
    c.in_ok-add_inner.ensures refl
