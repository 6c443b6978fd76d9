use Rattle.std.proofs.Common.{◌∙◌, ap, inr, length}
use Rattle.mapd.proofs.listen_at.Goals as goal

pub returns : goal.returns
returns g c = inr (
  c.as_mut_slice.result.now,
  ap length c.as_mut_slice.ensures.value ∙ c.in-Ok-stands_at.ensures,
  (c.in-Ok-random_key.key, c.run.new.stands, c.run.ensures),
)
