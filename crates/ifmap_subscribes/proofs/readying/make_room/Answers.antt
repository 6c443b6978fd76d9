use Rattle.std.proofs.Common.{◌∙◌, ap, refl, inl, inr}
use Rattle.std.specs.BTreeMap.{get}
use Rattle.std.specs.Cmp.Lexicographic.{slice_cmp}
use Rattle.std.specs.Ordering.{nat_cmp}
use Rattle.ifmap_lemmas.specs.Deciding.{same_or_not}
use Rattle.ifmap_subscribes.proofs.OfNames.{apart_at}
use Rattle.ifmap_subscribes.proofs.readying.make_room.Goals as goal

pub returns-clause-noted : goal.returns-clause-noted
returns-clause-noted c = record {
  made = c.reserve.ensures.items;
  count = refl;
  size = refl;
  names = λ other. elim (same_or_not other c.args.name) [
    | inl same ↦ inr (same, ap (get (slice_cmp nat_cmp) c.insert.new.self) same ∙ (c.in_ok-insert.ensures.updates).1)
    | inr apart ↦ inl ((c.in_ok-insert.ensures.updates).2 other (apart_at c.args.name other apart))
  ];
}
