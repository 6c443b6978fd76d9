use Rattle.std.proofs.Common.{◌≡◌, ◌∙◌, ap, sym}
use Rattle.ifmap_lemmas.specs.Joined.{last_first}
use Rattle.ifmap_reader.specs.OpenElements.{written_name}
use Rattle.ifmap_reader.specs.Progress.{where_is}
use Rattle.ifmap_reader.proofs.Leading.{end_leads_in_code}
use Rattle.ifmap_reader.proofs.next_token.end_innermost.Goals as goal

pub returns : goal.returns
returns c = λ f outer are depth.
    let is = sym c.open_elements.view_is ∙ c.in-Some.ensures.items in
    let heads = sym are ∙ last_first c.args.open_elements c.pop.new.self.items c.in-Some.innermost is in
    let same : f ≡ c.in-Some.innermost = cc in
    end_leads_in_code depth c.args.open_elements c.pop.new.self.items c.in-Some.innermost (written_name f) c.in_ok-element.element
    c.in_ok-element.declared (where_is c.in_ok-with_element.field-0) is (ap written_name same) c.in_ok-element.ensures
    c.in_ok-with_element.ensures
