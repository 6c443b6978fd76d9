use Rattle.std.proofs.Common.{◌++◌, ◌∷◌, [], ◌∙◌, refl, ap, sym}
use Rattle.std.specs.Prelude.{Some}
use Rattle.ifmap_hall.specs.declared.book.Book.{Book}
use Rattle.ifmap_hall.specs.declared.view.Terms.{Terms}
use Rattle.ifmap_hall.proofs.Opening.{stands_for_none, opens}
use Rattle.ifmap_hall.proofs.hall.Hall.begin.Goals as goal

pub new-requires-2 : goal.new-requires-2
new-requires-2 g c =
    let a = c.args in
    let terms : Terms g.row.M.Denot = record { opening = c.of.result; limit = a.limit; heaviest = a.heaviest } in
    let b : Book g.row.M.Denot g.row.M-Event.Denot g.row.M-Reply.Denot =
    record { base = a.base; machine = a.machine; from = 0; journal = c.new.result; bytes = 0; limit = a.limit; heaviest = a.heaviest } in
    opens g.M.Machine.next g.M.Machine.weight_of terms b c.push.new.self.items
    (c.in_ok-push.ensures.items ∙ ap (λ xs. xs ++ Some b ∷ []) c.in_ok-slots.ensures.items)
    (stands_for_none g.M.Machine.next g.M.Machine.weight_of terms b c.requires.same
    (sym c.of.ensures) refl c.new.ensures.items refl refl refl c.requires.room)
