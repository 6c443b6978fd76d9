use Rattle.std.proofs.Common.{sym, ◌∙◌, refl}
use Rattle.ifmap_reader.proofs.Leading.{words_lead_in_code, blank_leads_in_code, words_refused}
use Rattle.ifmap_reader.proofs.progress.take_text.Goals as goal

pub returns-then-blank : goal.returns-then-blank
returns-then-blank c = λ depth t w.
    let none = c.is_empty.ensures.0 c.if-is_empty.true in
    blank_leads_in_code depth c.args.open_elements c.args.open_elements t c.args.blank c.args.text w none none c.if-blank.true

pub returns-then-is_empty : goal.returns-then-is_empty
returns-then-is_empty c = λ depth t w.
    words_refused c.args.open_elements t c.args.blank c.args.text w (c.is_empty.ensures.0 c.if-is_empty.true) c.if-blank.false

pub returns : goal.returns
returns c = λ depth t w.
    let changes = c.in_ok-add_words.ensures in
    words_lead_in_code depth c.args.open_elements changes.before c.add_words.new.open_elements.items changes.last _ t
    c.args.blank c.args.text w (sym c.open_elements.view_is ∙ changes.old_is) changes.new_is refl
