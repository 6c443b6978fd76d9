use Rattle.std.proofs.Common.{◌≡◌, List, sym, subst}
use Rattle.std.specs.Prelude.{None}
use Rattle.std.specs.BTreeMap.{get}
use Rattle.std.specs.Ordering.{nat_cmp}
use Rattle.std.specs.Cmp.Lexicographic.{slice_cmp}
use Rattle.ifmap_elem.specs.declared.readings.Declared.{Declared}
use Rattle.ifmap_elem.specs.Scopes.{Binding, prefix_space}
use Rattle.ifmap_reader.proofs.Binding.{rows_more, spaces_more}
use Rattle.ifmap_reader.proofs.bindings.Bindings.add_binding.Goals as goal

pub invariant_of-result : goal.invariant_of-result
invariant_of-result c =
    let row : Declared = record { path = c.new.result.items; prefix = c.args.prefix; space = c.args.space } in (
      rows_more c.self.inside.rows.items c.push.new.self.items c.new.result.items c.args.prefix c.args.space c.self.invariant.0
          c.in_ok-push.ensures.items c.new.ensures.items,
      spaces_more (get (slice_cmp nat_cmp) c.self.inside.spaces)
          (get (slice_cmp nat_cmp) c.insert.new.self) c.self.inside.rows.items c.push.new.self.items row
          c.in_ok-copy.field-0 c.in_ok-copy-2.field-0 c.self.invariant.1 c.in_ok-insert.ensures.updates.0 c.in_ok-copy.ensures
          c.in_ok-copy-2.ensures c.in_ok-push.ensures.items
          (subst (λ (bs : List Binding). prefix_space bs c.args.prefix ≡ None) (sym c.self.view_is) c.requires),
    )
