use Rattle.std.proofs.Common.{◌≡◌, ◌∙◌, ap, map}
use Rattle.ifmap_meta.specs.declared.stored.Life.{Life}
use Rattle.ifmap_publish.specs.Apply.{Authorship, life_of, stored_for, stored_of}
use Rattle.ifmap_publish.proofs.Entries.{update_made}
use Rattle.ifmap_publish.proofs.applying.apply_op.Goals as goal

pub returns-in_ok-attach_each-in-Update : goal.returns-in_ok-attach_each-in-Update
returns-in_ok-attach_each-in-Update g c =
    let by = c.args.author.now
    in let forever = c.in-Update.forever
    in let life : c.life_of-life.result ≡ life_of by.serial forever = c.life_of-life.ensures
    ∙ ap (λ (a : Authorship). life_of a.serial forever) c.author.view_is
    in update_made (g.V.View.rows c.args.view.now) by c.args.op.now c.in-Update.item c.in-Update.elements forever c.args.edit.now
    c.attach_each.new.edit c.deref.result.now c.in-Update.is
    (c.deref.ensures.value ∙ c.in_ok-rows-in-Update.ensures.rows
    ∙ ap (λ (l : Life). map (stored_for by l) c.as_slice.result.now) life
    ∙ ap (map (stored_of by forever)) c.as_slice.ensures)
    c.in_ok-attach_each-in-Update.ensures
