use Rattle.std.proofs.Common.{◌+◌, ◌<◌, ◌∙◌, ℕ, length, refl, ap, arith}
use Rattle.std.proofs.lemmas.List.{get_or_default, length-set}
use Rattle.ifmap_serving.specs.declared.stands.Stand.{Stand}
use Rattle.ifmap_serving.proofs.HandingOut.{opens_given, opens_kept, readied_more, unread_more}
use Rattle.ifmap_serving.proofs.serving.hand_out.Goals as goal

pub loop-stand-preserved : goal.loop-stand-preserved
loop-stand-preserved g c =
    let (of, opens, place, count, done, rest) = c.loop-stand.invariant in
    let s = c.in_ok-own.ensures in
    let at = c.loop-stand.stand-index in
    let lt = c.loop-stand-test.true in
    let there : at < length c.loop-stand.stand-items = omega (arith, lt, count) in
    let length_is = length-set c.loop-stand.stand-items at _ in (
      c.split.ensures.hall,
      opens_kept _ _ opens s.kept c.split.ensures.sound,
      ap (λ (n : ℕ). n + 1) place,
      length_is ∙ count,
      readied_more c.args.hall.now c.args.stands.now c.loop-stand.stand-items at _ there done (λ d. record {
        place_is = place;
        ready = record { some = refl; pass = (s.given_hall, opens_given _ _ opens s.given s.given_sound) };
        door =
            ap (λ (x : Stand g.row.D.Denot g.row.G.Denot). x.door)
            (rest at c.stand-item.result (omega arith) there ∙ get_or_default c.args.stands.now at c.stand-item.result d lt);
        gate =
            ap (λ (x : Stand g.row.D.Denot g.row.G.Denot). x.gate)
            (rest at c.stand-item.result (omega arith) there ∙ get_or_default c.args.stands.now at c.stand-item.result d lt);
      }),
      (λ k d after less. unread_more c.args.hall.now c.args.stands.now c.loop-stand.stand-items at _ rest k d after
          (omega (arith, less, length_is))),
    )
