use Rattle.std.proofs.Common.{◌≡◌, ◌∙◌, ◌-◌, ◌<◌, ◌≤◌, ◌∷◌, List, None, Ok, ap, arith, drop, length, refl, subst, sym, take}
use Rattle.ifmap_elem.specs.declared.elements.Child.{Child, out-Child}
use Rattle.ifmap_forms.specs.Answers.{IsChecked}
use Rattle.ifmap_forms.specs.Items.{list_if_there}
use Rattle.ifmap_forms.specs.Tables.{Part, parts_in}
use Rattle.ifmap_forms.proofs.CutLaws.{list_parts, no_parts, tail_whole}
use Rattle.ifmap_forms.proofs.lists.read_list.Goals as goal

pub returns-then-index-len : goal.returns-then-index-len
returns-then-index-len g c =
    let finds = g.R.MemberReader.finds in
    let high : length c.args.children.items ≤ c.args.index = omega (arith, c.args.children.ok.0) in
    subst (λ (parts : List Part). list_if_there finds parts (Ok None)) (sym (no_parts c.args.children.items c.args.index high)) refl

pub returns : goal.returns
returns g c =
    let finds = g.R.MemberReader.finds in
    let low : c.args.index < length c.args.children.items = omega (arith, c.args.children.ok.0) in
    let others = c.deref.result.now in
    let left : take (length others - c.args.index) (drop c.args.index others) ≡ drop c.args.index c.remove-child.new.self.items =
    tail_whole others c.args.index ∙ ap (drop c.args.index) c.deref.ensures.value in
    subst (λ (parts : List Part). IsChecked (list_if_there finds parts) c.read_list_child.result)
    (ap (λ (cs : List Child). out-Child c.remove-child.result ∷ parts_in cs) left
    ∙ list_parts c.args.children.items c.remove-child.new.self.items c.args.index c.remove-child.result low
    c.remove-child.ensures.value c.remove-child.ensures.items) c.read_list_child.ensures
