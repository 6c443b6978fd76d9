use Rattle.std.proofs.Common.{ℕ, Option, IsSome, refl, sym, ◌∙◌, subst, arith}
use Rattle.std.proofs.Math.Nat.{sub-add-eq}
use Rattle.ifmap_ident.specs.declared.identifiers.Identifier.{Identifier}
use Rattle.ifmap_ident.specs.Identifiers.{identifier_order}
use Rattle.ifmap_pool.specs.Holdings.{IsHeld, once}
use Rattle.ifmap_graph.proofs.KeyHolds.{identifiers_stay, named_before, names_stay, numbers_differ, pair_released}
use Rattle.ifmap_graph.proofs.ends.release_pair.Goals as goal

pub release-requires : goal.release-requires
release-requires c = subst (λ (o : Option (Identifier × ℕ)). IsSome o) (sym c.requires.3.1) refl

pub release-requires-2 : goal.release-requires-2
release-requires-2 c =
    let d = numbers_differ c.args.names.now c.args.one c.args.two c.requires.0 c.requires.1 c.requires.2 c.requires.3 c.requires.4
    in subst (λ (o : Option (Identifier × ℕ)). IsSome o) (sym (c.release.ensures.others c.args.two d ∙ c.requires.4.1)) refl

pub returns : goal.returns
returns c =
    let d = numbers_differ c.args.names.now c.args.one c.args.two c.requires.0 c.requires.1 c.requires.2 c.requires.3 c.requires.4
    in let one_live = subst (λ (o : Option (Identifier × ℕ)). IsSome o) (sym c.requires.3.1) refl
    in let two_live = subst (λ (o : Option (Identifier × ℕ)). IsSome o) (sym (c.release.ensures.others c.args.two d ∙ c.requires.4.1)) refl
    in record {
      held = pair_released c.args.names.now c.release-2.new.self c.args.one c.args.two
          (λ a b other count n m h. subst (λ (n : ℕ). IsHeld identifier_order c.release-2.new.self other n)
          (sym (sub-add-eq count (once identifier_order a other) (once identifier_order b other)))
          (c.release-2.ensures.held b other _ (names_stay c.args.names.now c.release.new.self c.args.one c.args.two b
          c.release.ensures.others d m)
          (c.release.ensures.held a other count n h)));
      before = λ number other n.
          named_before c.args.names.now c.release.new.self c.args.one one_live
          c.release.ensures.kept c.release.ensures.last c.release.ensures.counted c.release.ensures.others number other
          (named_before c.release.new.self c.release-2.new.self c.args.two two_live
          c.release-2.ensures.kept c.release-2.ensures.last c.release-2.ensures.counted c.release-2.ensures.others number other n);
      keys = λ all.
          identifiers_stay c.release.new.self c.release-2.new.self c.args.two two_live
          c.release-2.ensures.kept c.release-2.ensures.last c.release-2.ensures.counted c.release-2.ensures.others
          (identifiers_stay c.args.names.now c.release.new.self c.args.one one_live
          c.release.ensures.kept c.release.ensures.last c.release.ensures.counted c.release.ensures.others all);
      limit = c.release-2.ensures.limit ∙ c.release.ensures.limit;
      spare = omega (arith, c.release.ensures.spare, c.release-2.ensures.spare);
      whole = c.release-2.ensures.whole;
    }
