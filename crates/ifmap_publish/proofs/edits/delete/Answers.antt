use Rattle.std.proofs.Common.{rules, ◌≡◌, ◌∙◌, ◌&&◌, ap, not, Bool, []}
use Rattle.std.specs.List.{filter}
use Rattle.std.specs.List.Sorted.{IsStrictlySortedBy}
use Rattle.ifmap_requests.specs.ifmap_filter.Meets.{meets_optional}
use Rattle.ifmap_meta.specs.declared.stored.Stored.{Stored}
use Rattle.ifmap_rows.specs.ifmap_plans.Lists.{is_among, next_on, put_each}
use Rattle.ifmap_view.specs.Attachments.{stored_order}
use Rattle.ifmap_view.specs.Rows.{stored_on}
use Rattle.ifmap_publish.specs.Working.{list_by}
use Rattle.ifmap_publish.specs.declared.edits.Edit.{Edit}
use Rattle.ifmap_publish.proofs.Editing.{makes_less, passed_out, put_sound, taken_rises}
use Rattle.ifmap_publish.proofs.Graphs.{sound_on}
use Rattle.ifmap_publish.proofs.Meeting.{met_taken}
use Rattle.ifmap_publish.proofs.edits.delete.Goals as goal

pub share_others_met-requires-clause-rows : goal.share_others_met-requires-clause-rows
share_others_met-requires-clause-rows g c =
    let rows = g.V.View.rows c.args.view.now in
    let up : IsStrictlySortedBy stored_order (stored_on c.args.item.now rows) =
    (sound_on c.args.item.now rows c.requires.graph c.requires.whole).keyed.rising in
    search (up, rules)

pub share_others_met-requires-clause-taken : goal.share_others_met-requires-clause-taken
share_others_met-requires-clause-taken g c =
    let stored = stored_on c.args.item.now (g.V.View.rows c.args.view.now) in
    let is : c.args.edit.now.taken ≡ filter (is_among c.args.edit.now.taken) stored = c.requires.edit.taken in
    search (is, rules)

pub put_rows-requires : goal.put_rows-requires
put_rows-requires g c =
    let rows = g.V.View.rows c.args.view.now in
    let stored = stored_on c.args.item.now rows in
    let up : IsStrictlySortedBy stored_order c.args.edit.now.taken = taken_rises stored (list_by c.args.edit.now stored) c.args.edit.now
    (sound_on c.args.item.now rows c.requires.graph c.requires.whole).keyed.rising c.requires.edit in
    search (up, rules)

pub returns : goal.returns
returns g c =
    let rows = g.V.View.rows c.args.view.now in
    let stored = stored_on c.args.item.now rows in
    let list = list_by c.args.edit.now stored in
    let k : Stored → Bool = λ (s : Stored). meets_optional c.args.filter.now s.element in
    let sound = put_sound stored list c.args.edit.now c.requires.edit in
    let up = (sound_on c.args.item.now rows c.requires.graph c.requires.whole).keyed.rising in
    let met : c.in_ok-met.met.items ≡ filter (λ s. not (is_among c.args.edit.now.taken s) && k s) stored = search rules in
    let left : c.deref-2.result.now ≡ filter k c.args.edit.now.put = search rules in
    let taken : c.put_rows.new.rows.items ≡ put_each c.in_ok-met.met.items c.args.edit.now.taken = search rules in
    let put : c.edit.inside.0.1.0 ≡ c.args.edit.now.put = ap (λ (e : Edit). e.put) c.edit.view_is in
    makes_less stored list c.args.edit.now _ up c.requires.edit k
    (taken ∙ met_taken stored c.args.edit.now.taken c.in_ok-met.met.items k up c.requires.edit.taken met)
    (c.in_ok-carry_out.ensures ∙ (λ i. next_on (left i) [] (put i)) ∙ passed_out k c.args.edit.now.put sound.keyed.rising)
