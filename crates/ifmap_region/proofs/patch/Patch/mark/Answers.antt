use Rattle.std.proofs.Common.{ℕ, Option, List, ap, ◌∙◌}
use Rattle.ifmap_region.specs.Marks.{row_of, row_told}
use Rattle.ifmap_region.proofs.Patches.{row_found}
use Rattle.ifmap_region.proofs.patch.Patch.mark.Goals as goal

pub returns-in-Some-clause-at : goal.returns-in-Some-clause-at
returns-in-Some-clause-at c =
    row_found c.args.self.now c.args.number (row_told c.patched_mark.result) (c.patched_mark.ensures ∙ c.in-Some.ensures.value
    ∙ ap (λ (rows : List (ℕ × Option ℕ)). row_of rows c.args.number) c.self.view_is)
