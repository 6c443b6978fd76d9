use Rattle.std.proofs.Common.{ℕ, Option, List, sym, subst}
use Rattle.std.specs.Prelude.{IsSome}
use Rattle.ifmap_region.specs.Marks.{row_of}
use Rattle.ifmap_region.proofs.Exchange.{room_taken}
use Rattle.ifmap_region.proofs.region.Region.commit_kept.Goals as goal

pub returns-clause-room : goal.returns-clause-room
returns-clause-room c =
    room_taken c.patch.inside.rows.entries c.args.self.now.marks.entries c.exchange.new.rows.entries c.exchange.new.patch.entries
    (subst (λ (u : List (ℕ × Option ℕ)). (v : ℕ) → IsSome (row_of u v) → IsSome (row_of c.args.self.now.marks.entries v)) (sym
    c.patch.view_is) c.requires) c.exchange.ensures.makes c.exchange.ensures.taken
