use Rattle.std.proofs.Common.{ℕ, ◌≡◌, ◌+◌, ◌<◌, ◌≤◌, ◌^◌, [], length, arith, inl, inr, ap, ◌∙◌}
use Rattle.std.proofs.lemmas.Bool.{cases_lt}
use Rattle.std.proofs.lemmas.List.Elements.{All-weaker}
use Rattle.ifmap_region.specs.Layers.{layer_of}
use Rattle.ifmap_region.proofs.Cuts.{spent_now, cutting_begun, cutting_level, cutting_handed, cutting_next}
use Rattle.ifmap_region.proofs.lose.lose.Goals as goal

pub loop-level-init : goal.loop-level-init
loop-level-init g c = record {
  fits = λ some. omega arith;
  above = λ k d lt. omega arith;
  keeps = λ flips start b s. rw (c.new.ensures.empty, c.new-2.ensures.items, c.new-next.ensures.items)
      (cutting_begun _ _ _ flips start _ _ b
      c.args.seeds.items _ _ c.sort_seeds-waiting.ensures.kept c.sort_seeds-waiting.ensures.only s);
}

pub loop-level-preserved : goal.loop-level-preserved
loop-level-preserved g c =
    let G = g.G.LinkSource in
    let now_is : c.swap.new.x.items ≡ c.loop-level.next.items = ap (λ v. v.items) c.swap.ensures.x_after in
    let none : c.swap.new.y.items ≡ [] = ap (λ v. v.items) c.swap.ensures.y_after ∙ c.clear.ensures.items in
    let floor_is : c.from-floor.result + 1 ≡ c.in-Some.level + 1 = omega (arith, c.from-floor.ensures) in
    record {
      fits = λ some. elim (cases_lt (c.in-Some.level + 1) (2 ^ 32)) [
        | inl lt ↦ omega (arith, lt, floor_is)
        | inr ge ↦ absurd (omega (arith, some, ap length (c.look_level.ensures.still ge ∙ none)))
      ];
      above = All-weaker (λ (s : ℕ × ℕ). c.in-Some.level < s.0) (λ (s : ℕ × ℕ). c.from-floor.result + 1 ≤ s.0)
          (λ s lt. omega (arith, lt, floor_is)) _ (c.in_ok-queue_seeds.ensures.above c.in-Some.ensures.least);
      keeps = λ flips start b s. cutting_next _ _ _ flips start _ _ _ _ _ c.in-Some.level _ _ _ _ floor_is
          (c.in_ok-look_level.ensures.keeps flips start _ _ b (cutting_handed _ _ _ flips start _ _ _ _ _ c.in-Some.level 0 _ _ _ _ _
          c.deref.ensures.value none (c.in_ok-queue_seeds.ensures.keeps (layer_of G.seen c.args.basis.now []) flips
          start _
          c.loop-level.steps _ b (cutting_level _ _ _ flips start _ _ _ _ _ c.loop-level.floor c.in-Some.level _ _ _ _ now_is
          c.in-Some.ensures.rises c.in-Some.ensures.side (c.loop-level.invariant.keeps flips start b s)))));
    }

pub returns-in_err-queue_seeds-clause-spent : goal.returns-in_err-queue_seeds-clause-spent
returns-in_err-queue_seeds-clause-spent g c flips start b s =
    spent_now _ _ _ flips start _ _ _ _ _ c.loop-level.floor _ _ _ _ (c.loop-level.invariant.keeps flips start b s)

pub returns-in_err-look_level-clause-spent : goal.returns-in_err-look_level-clause-spent
returns-in_err-look_level-clause-spent g c flips start b s =
    let G = g.G.LinkSource in
    let now_is : c.swap.new.x.items ≡ c.loop-level.next.items = ap (λ v. v.items) c.swap.ensures.x_after in
    let none : c.swap.new.y.items ≡ [] = ap (λ v. v.items) c.swap.ensures.y_after ∙ c.clear.ensures.items in
    c.look_level.ensures.spent flips start _ _ b (cutting_handed _ _ _ flips start _ _ _ _ _ c.in-Some.level 0 _ _ _ _ _
    c.deref.ensures.value none (c.in_ok-queue_seeds.ensures.keeps (layer_of G.seen c.args.basis.now []) flips start _
    c.loop-level.steps _ b (cutting_level _ _ _ flips start _ _ _ _ _ c.loop-level.floor c.in-Some.level _ _ _ _ now_is
    c.in-Some.ensures.rises c.in-Some.ensures.side (c.loop-level.invariant.keeps flips start b s))))

pub returns-clause-keeps : goal.returns-clause-keeps
returns-clause-keeps g c flips start b s = (
  c.loop-level.floor,
  rw c.in_default.ensures.none.1 at (rw c.in_default.ensures.none.0 at (c.loop-level.invariant.keeps flips start b s)),
)

pub returns-clause-spent : goal.returns-clause-spent
returns-clause-spent g c flips start b s =
    spent_now _ _ _ flips start _ _ _ _ _ c.loop-level.floor _ _ _ _ (c.loop-level.invariant.keeps flips start b s)
