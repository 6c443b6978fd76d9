use Rattle.std.proofs.Common.{ap, cond, Some, ◌∙◌}
use Rattle.std.specs.BTreeMap.{get}
use Rattle.std.specs.Map.{lookup}
use Rattle.ifmap_elem.specs.printer.Keys.{key_order}
use Rattle.ifmap_elem.specs.laws.NamespaceLaws.{first_row, none_first}
use Rattle.ifmap_elem.proofs.KeyLaws.{bytes_of, first_prefix, key_ties}
use Rattle.ifmap_elem.proofs.numbering.NumberedPrefixes.new.Goals as goal

pub invariant_of-result : goal.invariant_of-result
invariant_of-result c =
    let none = ap bytes_of c.new-order.ensures.items in (
      first_row (get key_order c.new-labels.result) (get key_order c.insert.new.self) (bytes_of c.new-order.result.items) c.new-key.result
          c.copy.result (λ q. ap (lookup _) c.new-labels.ensures.empty)
          (λ q. c.in_ok-insert.ensures.updates.0 q
          ∙ ap (λ b. cond b (Some c.copy.result) (get key_order c.new-labels.result q)) (key_ties c.new-key.result q))
          (c.new-key.ensures ∙ c.as_bytes-last.ensures.value) (c.copy.ensures ∙ c.xml-xml.ensures) none,
      none_first (bytes_of c.new-order.result.items) none,
      first_prefix (bytes_of c.new-order.result.items) c.as_bytes-last.result.now c.xml-xml.result none
          c.as_bytes-last.ensures.value c.xml-xml.ensures,
    )
