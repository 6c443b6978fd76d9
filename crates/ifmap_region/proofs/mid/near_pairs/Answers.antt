use Rattle.std.proofs.Common.{◌≡◌, ◌+◌, true, false, List, [], ◌∷◌, ◌++◌, inl, inr, sym, subst, take, get_or, arith}
use Rattle.std.proofs.lemmas.List.{take_more, take_all}
use Rattle.ifmap_region.specs.declared.flips.Flip.{Flip}
use Rattle.ifmap_region.specs.Flips.{IsFlipped, flipped_cases}
use Rattle.ifmap_region.proofs.FlipLists.{flipped_kept, flipped_last, hides_cases, hides_kept, hides_here, turned_both, marked_at, marked_turned}
use Rattle.ifmap_region.proofs.mid.near_pairs.Goals as goal
use Rattle.ifmap_region.proofs.mid.near_pairs.Goals.{then-is_near+in_ok-insert+in_ok-insert-2, else-is_near}

pub loop-flip-preserved : goal.loop-flip-preserved
loop-flip-preserved c =
    let before = take c.loop-flip.flip-index c.args.flips.now in
    let f : Flip = get_or c.args.flips.now c.loop-flip.flip-index (record { a = 0; b = 0; added = false }) in
    let more : take (c.loop-flip.flip-index + 1) c.args.flips.now ≡ before ++ f ∷ [] =
    take_more c.args.flips.now c.loop-flip.flip-index (record { a = 0; b = 0; added = false }) c.loop-flip-test.true in
    elim c.if-is_near.branch [
      | then-is_near+in_ok-insert+in_ok-insert-2 s ↦
          let first = s.in_ok-insert.ensures.updates.0 in
          let second = s.in_ok-insert-2.ensures.updates.0 in
          let marks = c.args.marks.now.entries in
          let kind = c.is_near.ensures.added s.if-is_near.true in
          rw s.pairs-is record {
            only = λ v w h. subst (λ (l : List Flip). IsFlipped l true v w) (sym more)
                (elim (hides_cases s.insert.new.self s.insert-then-is_near.new.self f.b f.a v w second h) [
                  | inl h1 ↦ elim (hides_cases c.loop-flip.pairs s.insert.new.self f.a f.b v w first h1) [
                    | inl h0 ↦ flipped_kept before f true v w (c.loop-flip.invariant.only v w h0)
                    | inr e ↦ flipped_last before f true v w kind (inl e)
                  ]
                  | inr e ↦ flipped_last before f true v w kind (inr (e.1, e.0))
                ]);
            near = λ v w h. elim (hides_cases s.insert.new.self s.insert-then-is_near.new.self f.b f.a v w second h) [
              | inl h1 ↦ elim (hides_cases c.loop-flip.pairs s.insert.new.self f.a f.b v w first h1) [
                | inl h0 ↦ c.loop-flip.invariant.near v w h0
                | inr e ↦ marked_at marks f.a f.b v w e.0 e.1 (c.is_near.ensures.near s.if-is_near.true)
              ]
              | inr e ↦ marked_turned marks v w (marked_at marks f.a f.b w v e.1 e.0 (c.is_near.ensures.near s.if-is_near.true))
            ];
            each = λ v w k h m. elim (flipped_cases before f true v w (subst (λ (l : List Flip). IsFlipped l true v w) more h)) [
              | inl old ↦ hides_kept s.insert.new.self s.insert-then-is_near.new.self f.b f.a v w second (hides_kept c.loop-flip.pairs
                  s.insert.new.self f.a f.b v w first (c.loop-flip.invariant.each v w k old m))
              | inr j ↦ elim j.1 [
                | inl e ↦ hides_kept s.insert.new.self s.insert-then-is_near.new.self f.b f.a v w second (hides_here c.loop-flip.pairs
                    s.insert.new.self f.a f.b v w first e.0 e.1)
                | inr e ↦ hides_here s.insert.new.self s.insert-then-is_near.new.self f.b f.a v w second e.1 e.0
              ]
            ];
            turned = turned_both c.loop-flip.pairs s.insert.new.self s.insert-then-is_near.new.self f.a f.b first second
                c.loop-flip.invariant.turned;
          }
      | else-is_near s ↦ rw s.pairs-is record {
        only = λ v w h. subst (λ (l : List Flip). IsFlipped l true v w) (sym more) (flipped_kept before f true v w
            (c.loop-flip.invariant.only v w h));
        near = c.loop-flip.invariant.near;
        each = λ v w k h m. elim (flipped_cases before f true v w (subst (λ (l : List Flip). IsFlipped l true v w) more h)) [
          | inl old ↦ c.loop-flip.invariant.each v w k old m
          | inr j ↦ absurd (c.is_near.ensures.far s.if-is_near.false j.0 v w k j.1 m)
        ];
        turned = c.loop-flip.invariant.turned;
      }
    ]

pub returns-clause-each : goal.returns-clause-each
returns-clause-each c = rw (take_all c.loop-flip.flip-index c.args.flips.now (omega (arith, c.loop-flip-test.false))) at
    c.loop-flip.invariant.each
