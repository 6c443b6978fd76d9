use Rattle.std.proofs.Common.{◌≡◌, ◌∙◌, ◌++◌, ℕ, List, Option, Some, OnOk, codes, ap, sym, subst}
use Rattle.ifmap_writing.specs.Attributes.{kinds_value, written_attribute}
use Rattle.ifmap_writing.proofs.attributes.push_kinds.Goals as goal

pub returns : goal.returns
returns c =
    subst
    (λ (o : Option (List ℕ)). OnOk c.push_attribute.result
    (c.push_attribute.new.attributes.items ≡ c.args.attributes.now.items ++ written_attribute (codes "terminal-identifier-type") o))
    (ap (λ (t : List ℕ). Some t) c.in_ok-text.ensures ∙ sym (ap kinds_value c.in-Some.ensures.cases.0)) c.push_attribute.ensures
