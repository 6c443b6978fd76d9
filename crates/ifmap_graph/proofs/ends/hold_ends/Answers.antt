use Rattle.std.proofs.Common.{inl, arith}
use Rattle.ifmap_graph.proofs.KeyHolds.{still_identifiers}
use Rattle.ifmap_graph.proofs.ends.hold_ends.Goals as goal

pub hold-requires-clause-room : goal.hold-requires-clause-room
hold-requires-clause-room c = inl (omega (arith, c.requires.room))

pub hold-requires-clause-few : goal.hold-requires-clause-few
hold-requires-clause-few c = λ number n. omega (arith, c.requires.few number)

pub returns-in-One : goal.returns-in-One
returns-in-One c = rw c.in-One.is (record {
  numbered = c.hold.ensures.named;
  held = c.hold.ensures.held;
  kept = c.hold.ensures.kept;
  keys = λ i all. still_identifiers c.args.names.now c.hold.new.self c.hold.result c.in-One.a c.hold.ensures.present c.hold.ensures.absent
      c.hold.ensures.others i.0 all;
  limit = c.hold.ensures.limit;
  whole = c.hold.ensures.whole;
})

pub returns-in-Pair : goal.returns-in-Pair
returns-in-Pair c = rw c.in-Pair.is c.hold_pair.ensures
