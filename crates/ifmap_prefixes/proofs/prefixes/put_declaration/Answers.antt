use Rattle.std.proofs.Common.{◌∙◌, ap, cond}
use Rattle.std.specs.Prelude.{Some, None}
use Rattle.std.specs.BTreeMap.{get_by}
use Rattle.std.specs.Cmp.Lexicographic.{slice_cmp}
use Rattle.std.specs.Ordering.{is_eq, nat_cmp}
use Rattle.ifmap_prefixes.specs.Rows.{at_text, index_at}
use Rattle.ifmap_prefixes.proofs.Adding.{table_added}
use Rattle.ifmap_prefixes.proofs.prefixes.put_declaration.Goals as goal

pub returns : goal.returns
returns c = λ p q.
    let row = c.args.row.now in
    let old = get_by (at_text p) c.args.last.now in
    let mid = get_by (at_text p) c.take_paths-paths.new.last in
    let own = index_at c.args.last.now c.as_str-prefix.result.now q in
    table_added row c.args.index p q old mid (get_by (at_text p) c.insert-2.new.self) c.insert.new.self own
    (c.in_ok-insert-2.ensures.updates.0 (record { ref_ptr = c.as_str-prefix.result.ref_ptr; now = p })
    ∙ ap (λ t. cond (is_eq (slice_cmp nat_cmp t p)) (Some c.insert.new.self) mid) c.as_str-prefix.ensures)
    (c.take_paths-paths.ensures.rest.0 (record { ref_ptr = c.as_str-prefix.result.ref_ptr; now = p })
    ∙ ap (λ t. cond (is_eq (slice_cmp nat_cmp t p)) None old) c.as_str-prefix.ensures)
    (c.in_ok-insert.ensures.updates.0 (record { ref_ptr = c.as_slice-path.result.ref_ptr; now = q })
    ∙ ap (λ t. cond (is_eq (slice_cmp nat_cmp t q)) (Some c.args.index) (get_by (at_text q) c.take_paths-paths.result))
    c.as_slice-path.ensures
    ∙ ap (λ o. cond (is_eq (slice_cmp nat_cmp row.path q)) (Some c.args.index) o) (c.take_paths-paths.ensures.paths q))
    (λ same. ap (λ t. index_at c.args.last.now t q) (c.as_str-prefix.ensures ∙ same))
