use Rattle.std.proofs.Common.{ℕ}
use Rattle.std.specs.Vec.Iter.{into_iter_items}
use Rattle.ifmap_forms.specs.Gathering.{IsRestAfter}
use Rattle.ifmap_forms.specs.Tables.{each_element, parts_in}
use Rattle.ifmap_forms.proofs.members.read_members.Given as goal

-- what is found of the rest is, after what was made, what is found of all
abbrev pub invariant-loop-child : goal.invariant-loop-child
invariant-loop-child g l = (n : ℕ)
    × IsRestAfter (each_element (λ index e. g.R.MemberReader.finds e) 0 (parts_in l.fn.children.items))
    (each_element (λ index e. g.R.MemberReader.finds e) n (parts_in (into_iter_items l.child-iterator))) l.made.items
