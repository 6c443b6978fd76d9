use Rattle.ifmap_meta.specs.Keys.{HaveOneKey, same_key}
use Rattle.ifmap_meta.specs.laws.KeyLaws.{keys_told}
use Rattle.ifmap_meta.proofs.stored.Stored.same_key.Goals as goal
use Rattle.ifmap_lemmas.specs.Branches.{answer_alike}

pub returns-clause-keys : goal.returns-clause-keys
returns-clause-keys c v w =
    answer_alike _ (same_key c.args.self.now c.args.other.now) (HaveOneKey c.args.self.now c.args.other.now) c.have_one_key.ensures
    (keys_told c.args.self.now c.args.other.now v w)
