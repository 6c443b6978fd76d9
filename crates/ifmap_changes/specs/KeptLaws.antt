-- Parts that are steady are kept as they are.
use Rattle.std.proofs.Common.{refl, ◌∙◌, sym, subst, arith}
use Rattle.std.specs.Prelude.{Result, OnErr}
use Rattle.ifmap_tellings.specs.ifmap_standing.declared.standing.Standing.{Standing}
use Rattle.ifmap_tellings.specs.ifmap_standing.Kept.{KeepsSame, StaysRelated}
use Rattle.std.proofs.lemmas.Option.{same_Some}
use Rattle.ifmap_lemmas.specs.Results.{on_err}
use Rattle.ifmap_changes.specs.Between.{AreKept, IsSteady}
use Rattle.ifmap_changes.specs.declared.parts.Parts.{Parts}

pub stands_same_itself : (x : Standing) → StaysRelated KeepsSame x x
stands_same_itself x = record {
  serial = refl;
  name = refl;
  subscription = record {
    search = record { search = refl; start = refl; max_depth = refl };
    size = refl;
    marks = λ v. refl;
    rows = λ v r. r;
  };
}

-- what was not changed is kept
pub stays_kept : (parts : Parts) → IsSteady parts.graph parts.standing.items → AreKept parts parts
stays_kept parts s = record {
  back = record {
    steady = s;
    rows = refl;
    links = λ v. refl;
    numbers = λ v a b p q. same_Some b a (sym q ∙ p);
    lean = λ rest l. l;
    standing = record {
      long = refl;
      at = λ i x y p q. subst (λ z. StaysRelated KeepsSame x z) (same_Some x y (sym p ∙ q)) (stands_same_itself x);
    };
    sessions = record { live = refl; counter = refl; spare = λ n. omega arith; room = omega arith };
  };
  backs = λ u rows links b. b;
}

-- so they are at an error before which nothing was changed
pub error_keeps : {T E : Type 0} (result : Result T E) (parts : Parts) → IsSteady parts.graph parts.standing.items
    → OnErr result (AreKept parts parts)
error_keeps result parts steady = on_err result (AreKept parts parts) (stays_kept parts steady)
