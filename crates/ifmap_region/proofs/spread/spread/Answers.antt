use Rattle.std.proofs.Common.{◌^◌, ℕ, ◌≡◌, ◌+◌, ◌<◌, ◌≤◌, [], length, arith, inl, inr, ap, ◌∙◌}
use Rattle.std.proofs.lemmas.Bool.{cases_lt}
use Rattle.std.proofs.lemmas.List.Elements.{All-weaker}
use Rattle.ifmap_region.proofs.Ready.{charged_later, spent_from}
use Rattle.ifmap_region.proofs.Falling.{falling_begun, charged_begun, level_begun, charged_level, queue_handed, charged_handed, level_ended, depths_fallen, charged_fewer}
use Rattle.ifmap_region.proofs.spread.spread.Goals as goal

pub loop-level-init : goal.loop-level-init
loop-level-init g c = record {
  rows = λ v e. e;
  fits = λ some. omega arith;
  above = λ k d lt. omega arith;
  falls = λ start r. falling_begun _ _ start _ _ c.args.seeds.items _ _ c.sort_seeds-waiting.ensures.kept c.sort_seeds-waiting.ensures.only
      c.new-next.ensures.items r;
  charged = λ start r. charged_begun _ _ start _ _ _ _ _ c.new-next.ensures.items;
}

pub loop-level-preserved : goal.loop-level-preserved
loop-level-preserved g c =
    let now_is : c.swap.new.x.items ≡ c.loop-level.next.items = ap (λ v. v.items) c.swap.ensures.x_after in
    let none : c.swap.new.y.items ≡ [] = ap (λ v. v.items) c.swap.ensures.y_after ∙ c.clear.ensures.items in
    let floor_is : c.from-floor.result + 1 ≡ c.in-Some.level + 1 = omega (arith, c.from-floor.ensures) in
    record {
      rows = λ v e. c.loop-level.invariant.rows v (c.admit_seeds.ensures.rows v (c.visit_level.ensures.rows v e));
      fits = λ some. elim (cases_lt (c.in-Some.level + 1) (2 ^ 32)) [
        | inl lt ↦ omega (arith, lt, floor_is)
        | inr ge ↦ absurd (omega (arith, some, ap length (c.visit_level.ensures.still ge ∙ none)))
      ];
      above = All-weaker (λ (s : ℕ × ℕ). c.in-Some.level < s.0) (λ (s : ℕ × ℕ). c.from-floor.result + 1 ≤ s.0)
          (λ s lt. omega (arith, lt, floor_is)) _ (c.in_ok-admit_seeds.ensures.above c.in-Some.ensures.least);
      falls = λ start r. level_ended _ _ start _ _ _ c.in-Some.level _ _ floor_is
          (c.in_ok-visit_level.ensures.falls start _ (queue_handed _ _ start _ _ _ c.in-Some.level _ _ _ c.deref.ensures.value none
          (c.in_ok-admit_seeds.ensures.falls start
          (level_begun _ _ start _ _ _ c.loop-level.floor c.in-Some.level _ _ now_is c.in-Some.ensures.side
          (c.loop-level.invariant.falls start r)))));
      charged = λ start r.
          let begun = level_begun _ _ start _ _ _ c.loop-level.floor c.in-Some.level _ _ now_is c.in-Some.ensures.side
          (c.loop-level.invariant.falls start r) in
          charged_later _ _ start _ _ _ _ (c.in-Some.level + 1) _ _ _ (omega (arith, floor_is))
          (c.visit_level.ensures.charged start _ _ _
          (queue_handed _ _ start _ _ _ c.in-Some.level _ _ _ c.deref.ensures.value none (c.in_ok-admit_seeds.ensures.falls start begun))
          (charged_handed _ _ start _ _ _ _ c.in-Some.level _ c.loop-level.steps _ _ _ c.deref.ensures.value none
          (c.admit_seeds.ensures.charged start _ c.loop-level.steps _ begun
          (charged_level _ _ start _ _ _ _ c.loop-level.floor c.in-Some.level _ c.loop-level.steps _ _ now_is c.in-Some.ensures.rises
          (c.loop-level.invariant.charged start r)))));
    }

pub returns-in_err-admit_seeds-clause-charged : goal.returns-in_err-admit_seeds-clause-charged
returns-in_err-admit_seeds-clause-charged g c start r =
    let now_is : c.swap.new.x.items ≡ c.loop-level.next.items = ap (λ v. v.items) c.swap.ensures.x_after in
    let begun = level_begun _ _ start _ _ _ c.loop-level.floor c.in-Some.level _ _ now_is c.in-Some.ensures.side
    (c.loop-level.invariant.falls start r) in
    spent_from _ _ start _ _ _ _ c.in-Some.level _ _
    (charged_fewer _ _ start _ _ _ _ c.in-Some.level _ c.loop-level.steps _ (omega arith)
    (c.admit_seeds.ensures.charged start _ c.loop-level.steps _ begun
    (charged_level _ _ start _ _ _ _ c.loop-level.floor c.in-Some.level _ c.loop-level.steps _ _ now_is c.in-Some.ensures.rises
    (c.loop-level.invariant.charged start r))))

pub returns-in_err-visit_level-clause-charged : goal.returns-in_err-visit_level-clause-charged
returns-in_err-visit_level-clause-charged g c start r =
    let now_is : c.swap.new.x.items ≡ c.loop-level.next.items = ap (λ v. v.items) c.swap.ensures.x_after in
    let none : c.swap.new.y.items ≡ [] = ap (λ v. v.items) c.swap.ensures.y_after ∙ c.clear.ensures.items in
    let begun = level_begun _ _ start _ _ _ c.loop-level.floor c.in-Some.level _ _ now_is c.in-Some.ensures.side
    (c.loop-level.invariant.falls start r) in
    spent_from _ _ start _ _ _ _ (c.in-Some.level + 1) _ _
    (charged_fewer _ _ start _ _ _ _ (c.in-Some.level + 1) _ c.visit_level.new.steps _ (omega arith)
    (c.visit_level.ensures.charged start _ _ _
    (queue_handed _ _ start _ _ _ c.in-Some.level _ _ _ c.deref.ensures.value none (c.in_ok-admit_seeds.ensures.falls start begun))
    (charged_handed _ _ start _ _ _ _ c.in-Some.level _ c.loop-level.steps _ _ _ c.deref.ensures.value none
    (c.admit_seeds.ensures.charged start _ c.loop-level.steps _ begun
    (charged_level _ _ start _ _ _ _ c.loop-level.floor c.in-Some.level _ c.loop-level.steps _ _ now_is c.in-Some.ensures.rises
    (c.loop-level.invariant.charged start r))))))

pub returns-clause-depths : goal.returns-clause-depths
returns-clause-depths g c start r =
    depths_fallen _ _ start _ _ c.loop-level.waiting c.loop-level.floor c.loop-level.next.items c.in_default.ensures.none.0
    c.in_default.ensures.none.1 (c.loop-level.invariant.falls start r)

pub returns-clause-charged : goal.returns-clause-charged
returns-clause-charged g c start r =
    spent_from _ _ start _ _ _ _ c.loop-level.floor _ _
    (charged_fewer _ _ start _ _ _ _ c.loop-level.floor _ c.loop-level.steps _ (omega arith) (c.loop-level.invariant.charged start r))
