-- What is taken piece by piece.
use Rattle.std.proofs.Common.{◌≡◌, ℕ, List, [], ◌++◌, refl, sym, ap, subst, ◌∙◌, arith, append_assoc, append-nil}
use Rattle.std.proofs.KnownBytes.{Consumes-nil, Consumes-trans}
use Rattle.std.proofs.lemmas.List.{append_cancel_left}
use Rattle.std.specs.Io.KnownBytes.{Consumes}
use Rattle.std.specs.Prelude.{Option}
use Rattle.ifmap_input.specs.Inputs.{TakesFromSource, UsesOneSide}

-- where nothing is done, nothing is taken
pub takes_nothing : (left : Option (List ℕ)) (pending : List ℕ) → TakesFromSource left left pending pending
takes_nothing left pending = record { got = []; consumed = Consumes-nil left; grown = sym (append-nil pending) }

-- what is taken after something was taken is taken with it
pub takes_more : (left_old left_mid left_new : Option (List ℕ)) (old mid new : List ℕ) → TakesFromSource left_old left_mid old mid
    → TakesFromSource left_mid left_new mid new → TakesFromSource left_old left_new old new
takes_more left_old left_mid left_new old mid new a b =
    record {
      got = a.got ++ b.got;
      consumed = Consumes-trans left_old left_mid left_new a.got b.got a.consumed b.consumed;
      grown = b.grown ∙ ap (λ bytes. bytes ++ b.got) a.grown ∙ append_assoc old a.got b.got;
    }

-- where what is pending is as it was, nothing was taken
pub takes_none : (left_old left_new : Option (List ℕ)) (old new : List ℕ) → TakesFromSource left_old left_new old new → new ≡ old
    → Consumes left_old left_new []
takes_none left_old left_new old new takes same =
    subst (Consumes left_old left_new) (append_cancel_left old takes.got [] (sym takes.grown ∙ same ∙ sym (append-nil old))) takes.consumed

-- where nothing is done, a side is as it was
pub uses_nothing : {X Side : Type 0} (bytes : X → Option (List ℕ)) (faults : X → ℕ) (other : X → Side) (x : X)
    → UsesOneSide bytes faults other x x
uses_nothing bytes faults other x = record { told = refl; apart = refl; later = omega arith }

-- what is used after it was used is used
pub uses_more : {X Side : Type 0} (bytes : X → Option (List ℕ)) (faults : X → ℕ) (other : X → Side) (old mid new : X)
    → UsesOneSide bytes faults other old mid → UsesOneSide bytes faults other mid new → UsesOneSide bytes faults other old new
uses_more bytes faults other old mid new a b =
    record { told = b.told ∙ a.told; apart = b.apart ∙ a.apart; later = omega (arith, a.later, b.later) }
