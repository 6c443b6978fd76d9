use Rattle.std.proofs.Common.{◌≡◌, ℕ, ◌+◌, ◌≤◌, List, ◌++◌, Ok, Err, Result, length, take, subst, sym, arith}
use Rattle.std.specs.Prelude.{IfOk, Option}
use Rattle.std.specs.Io.{ReadsAtMost}
use Rattle.std.specs.Io.KnownBytes.{Consumes, ReadConsumes}
use Rattle.ifmap_http.proofs.Filling.{filled_by}
use Rattle.ifmap_http.proofs.bodies.read_after.Goals as goal

reads_more : {E : Type 0} (r : Result ℕ E) (left_old left_new : Option (List ℕ)) (items slice room t1 t2 : List ℕ) (filled len : ℕ)
    → ReadsAtMost r room → ReadConsumes left_old left_new r room → slice ≡ items → filled ≤ length items
    → filled + length room ≤ len
    → IfOk r (λ count. (filled + count ≤ len) × ((x : List ℕ) × Consumes left_old left_new x
    × (take (filled + count) (take len ((take filled slice ++ (room ++ t1)) ++ t2)) ≡ take filled items ++ x)))
reads_more (Err e) left_old left_new items slice room t1 t2 filled len bound bytes same within fits = tt
reads_more (Ok count) left_old left_new items slice room t1 t2 filled len bound bytes same within fits = (
  omega arith,
  (
    take count room,
    bytes.0,
    subst (λ (xs : List ℕ). take (filled + count) (take len ((take filled xs ++
        (room ++ t1)) ++ t2)) ≡ take filled items ++ take count room)
        (sym same) (filled_by items room t1 t2 filled count len within (omega arith) (omega arith)),
  ),
)

pub returns-clause-got : goal.returns-clause-got
returns-clause-got g c =
    reads_more c.read.result (g.S.Source.left c.args.source.now) (g.S.Source.left c.read.new.self) c.args.body.now.items
    c.deref_mut.result.now c.read.new.room _ _ c.args.filled c.args.body.now.len c.read.ensures.bound c.read.ensures.bytes
    c.deref_mut.ensures.value (omega arith) (omega arith)
