use Rattle.std.proofs.Common.{ap, refl, sym, ◌∙◌, arith, reverse, take}
use Rattle.std.specs.Prelude.{Some}
use Rattle.std.proofs.lemmas.List.{take_all}
use Rattle.ifmap_elem.specs.Scopes.{prefix_space}
use Rattle.ifmap_elem.specs.laws.ScopeLaws.{bound_inner, bound_outer}
use Rattle.ifmap_reader.specs.OpenElements.{scope_of}
use Rattle.ifmap_reader.proofs.Linking.{reaches_back}
use Rattle.ifmap_reader.proofs.Lookups.{element_before}
use Rattle.ifmap_reader.proofs.allowed_tags.space_of.Goals as goal

pub returns-in-Some : goal.returns-in-Some
returns-in-Some c =
    ap Some c.in_ok-copy.ensures ∙ sym (bound_inner c.args.bindings.now
    (scope_of (reverse c.args.open_elements.now)) c.args.prefix.now c.in-Some.space.now (sym c.in-Some.ensures))

pub loop-outer-init : goal.loop-outer-init
loop-outer-init c = record {
  within = omega arith;
  same = ap (λ fs. prefix_space (scope_of (reverse fs)) c.args.prefix.now) (take_all _ c.args.open_elements.now (omega arith))
      ∙ sym (bound_outer c.args.bindings.now (scope_of (reverse c.args.open_elements.now)) c.args.prefix.now (sym c.in_default.ensures));
}

pub loop-outer-preserved-then-element-outer : goal.loop-outer-preserved-then-element-outer
loop-outer-preserved-then-element-outer c =
    let less = c.if-element-outer.true in
    record {
      within = omega (arith, c.loop-outer.invariant.within, less);
      same = ap (λ s. prefix_space s c.args.prefix.now) (reaches_back c.args.open_elements.now c.index-open_elements-outer.result.declaring
          c.loop-outer.outer c.index-open_elements-outer.result
          c.loop-outer-test.true c.loop-outer.invariant.within less
          (element_before c.args.open_elements.now c.loop-outer.outer c.index-open_elements-outer.result c.loop-outer-test.true
          c.loop-outer.invariant.within c.index-open_elements-outer.is) refl c.requires)
          ∙ c.loop-outer.invariant.same;
    }

pub returns-in-Some-space_of : goal.returns-in-Some-space_of
returns-in-Some-space_of c =
    ap Some c.in_ok-copy-2.ensures
    ∙ sym (bound_inner c.index-open_elements-outer.result.bindings
    (scope_of (reverse (take _ c.args.open_elements.now))) c.args.prefix.now c.in-Some-space_of.space.now
    (sym c.in-Some-space_of.ensures))
    ∙ ap (λ fs. prefix_space (scope_of fs) c.args.prefix.now) (sym (element_before c.args.open_elements.now c.loop-outer.outer
    c.index-open_elements-outer.result c.loop-outer-test.true c.loop-outer.invariant.within c.index-open_elements-outer.is))
    ∙ c.loop-outer.invariant.same

pub loop-outer-preserved : goal.loop-outer-preserved
loop-outer-preserved c = record {
  within = omega (arith, c.loop-outer.invariant.within);
  same = sym (bound_outer c.index-open_elements-outer.result.bindings
      (scope_of (reverse (take _ c.args.open_elements.now))) c.args.prefix.now (sym c.in_default-space_of.ensures))
      ∙ ap (λ fs. prefix_space (scope_of fs) c.args.prefix.now) (sym
      (element_before c.args.open_elements.now c.loop-outer.outer c.index-open_elements-outer.result c.loop-outer-test.true
      c.loop-outer.invariant.within c.index-open_elements-outer.is))
      ∙ c.loop-outer.invariant.same;
}
