use Rattle.std.proofs.Common.{◌∙◌, arith, ltb, rules}
use Rattle.std.proofs.lemmas.List.Sorted.{IsPartitionPoint-from_clause}
use Rattle.ifmap_meta.specs.declared.stored.Stored.{Stored}
use Rattle.ifmap_meta.specs.Keys.{word_of}
use Rattle.ifmap_rows.proofs.Agreeing.{front_differs, none_at_end, none_beyond, rest_least, words_part_index}
use Rattle.ifmap_rows.proofs.index.find_keyed.Goals as goal
use Rattle.ifmap_rows.proofs.index.find_keyed.Goals.{then-loop-place-test+else-word, else-loop-place-test}

pub loop-place-init : goal.loop-place-init
loop-place-init c =
    let word = c.row_word-word.result in
    let of = c.row_word-word.ensures in
    let point =
    IsPartitionPoint-from_clause (λ (s : Stored). ltb (word_of s) word) _ _ c.partition_point-place.ensures.partitioned
    (words_part_index c.args.row.now word of c.args.index.now c.requires) (λ a r q k. search rules) in
    record {
      within = c.partition_point-place.ensures.bound;
      passed = front_differs c.args.row.now word of c.args.index.now c.requires c.partition_point-place.result point;
      least = rest_least c.args.row.now word of c.args.index.now c.requires c.partition_point-place.result point;
    }

pub returns-clause-none : goal.returns-clause-none
returns-clause-none c =
    let word = c.row_word-word.result in
    let of = c.row_word-word.ensures in
    let place = c.loop-place.place in
    let least = c.loop-place.invariant.least in
    let passed = c.loop-place.invariant.passed in
    elim c.loop-place-test.branch [
      | then-loop-place-test+else-word w ↦
          let x : Stored = w.index-index-place.result in
          none_beyond c.args.row.now word of c.args.index.now c.requires place passed x w.index-index-place.is w.loop-place-test.true
          (least place x (omega arith) w.loop-place-test.true) (λ e. w.if-word.false (w.word.ensures ∙ e))
      | else-loop-place-test w ↦
          none_at_end c.args.row.now word of c.args.index.now c.requires place passed w.loop-place-test.false
    ]
