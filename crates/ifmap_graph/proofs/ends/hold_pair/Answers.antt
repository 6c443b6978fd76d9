use Rattle.std.proofs.Common.{ℕ, inl, arith, ◌∙◌, subst}
use Rattle.std.proofs.Math.Nat.{add_assoc}
use Rattle.ifmap_ident.specs.Identifiers.{identifier_order}
use Rattle.ifmap_pool.specs.Holdings.{IsHeld, once}
use Rattle.ifmap_graph.proofs.KeyHolds.{still_identifiers}
use Rattle.ifmap_graph.proofs.ends.hold_pair.Goals as goal

pub hold-one-requires-clause-room : goal.hold-one-requires-clause-room
hold-one-requires-clause-room c = inl (omega (arith, c.requires.room))

pub hold-one-requires-clause-few : goal.hold-one-requires-clause-few
hold-one-requires-clause-few c = λ number n. omega (arith, c.requires.few number)

pub hold-two-requires-clause-room : goal.hold-two-requires-clause-room
hold-two-requires-clause-room c = inl (omega (arith, c.requires.room, c.hold-one.ensures.spare))

pub hold-two-requires-clause-few : goal.hold-two-requires-clause-few
hold-two-requires-clause-few c = λ number n. omega (arith, c.requires.few number, c.hold-one.ensures.below number)

pub returns : goal.returns
returns c = record {
  numbered = (c.hold-two.ensures.kept _ _ c.hold-one.ensures.named, c.hold-two.ensures.named);
  held = λ other count h.
      subst (λ (n : ℕ). IsHeld identifier_order c.hold-two.new.self other n)
      (add_assoc count (once identifier_order c.args.a other) (once identifier_order c.args.b other))
      (c.hold-two.ensures.held other _ (c.hold-one.ensures.held other count h));
  kept = λ number other n. c.hold-two.ensures.kept number other (c.hold-one.ensures.kept number other n);
  keys = λ i all.
      still_identifiers c.hold-one.new.self c.hold-two.new.self c.hold-two.result c.args.b c.hold-two.ensures.present
      c.hold-two.ensures.absent
      c.hold-two.ensures.others i.1.0
      (still_identifiers c.args.names.now c.hold-one.new.self c.hold-one.result c.args.a c.hold-one.ensures.present
      c.hold-one.ensures.absent
      c.hold-one.ensures.others i.0 all);
  limit = c.hold-two.ensures.limit ∙ c.hold-one.ensures.limit;
  whole = c.hold-two.ensures.whole;
}
