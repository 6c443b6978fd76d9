use Rattle.ifmap_region.proofs.Exchange.{commit_swept, commit_others}
use Rattle.ifmap_region.proofs.region.Region.commit.Goals as goal

pub returns-clause-swept : goal.returns-clause-swept
returns-clause-swept c v =
    commit_swept c.args.patch c.args.self.now.marks.entries c.commit_kept-undo.new.self.marks.entries c.settle.new.self.marks.entries
    c.commit_kept-undo.ensures.makes
    (rw c.commit_kept-undo.ensures.undo at c.settle.ensures.rows) v

pub returns-clause-others : goal.returns-clause-others
returns-clause-others c v =
    commit_others c.args.patch c.args.self.now.marks.entries c.commit_kept-undo.new.self.marks.entries c.settle.new.self.marks.entries
    c.commit_kept-undo.ensures.makes
    (rw c.commit_kept-undo.ensures.undo at c.settle.ensures.rows) v
