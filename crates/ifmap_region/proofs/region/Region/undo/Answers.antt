use Rattle.std.proofs.Common.{ℕ, Option, List, sym, ap, subst, ◌∙◌}
use Rattle.std.specs.Prelude.{IsSome}
use Rattle.ifmap_region.specs.Marks.{row_of, mark_of}
use Rattle.ifmap_region.specs.Ways.{Makes, taken_from}
use Rattle.ifmap_region.proofs.Exchange.{marks_back, patch_back, room_taken}
use Rattle.ifmap_region.proofs.region.Region.undo.Goals as goal

pub returns-clause-back : goal.returns-clause-back
returns-clause-back c patch before way v =
    (subst (λ (u : List (ℕ × Option ℕ)). Makes u c.args.self.now.marks.entries c.exchange.new.rows.entries) c.undo.view_is
    c.exchange.ensures.makes).marks v
    ∙ marks_back c.args.undo patch before (mark_of c.args.self.now.marks.entries) way v

pub returns-clause-patch : goal.returns-clause-patch
returns-clause-patch c patch before way v =
    ap (λ (l : List (ℕ × Option ℕ)). row_of l v) (c.exchange.ensures.taken ∙ ap (taken_from (mark_of c.args.self.now.marks.entries))
    c.undo.view_is)
    ∙ patch_back c.args.undo patch before (mark_of c.args.self.now.marks.entries) way v

pub returns-clause-room : goal.returns-clause-room
returns-clause-room c =
    room_taken c.undo.inside.rows.entries c.args.self.now.marks.entries c.exchange.new.rows.entries c.exchange.new.patch.entries
    (subst (λ (u : List (ℕ × Option ℕ)). (v : ℕ) → IsSome (row_of u v) → IsSome (row_of c.args.self.now.marks.entries v)) (sym
    c.undo.view_is) c.requires) c.exchange.ensures.makes c.exchange.ensures.taken
