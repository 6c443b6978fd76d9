use Rattle.std.proofs.Common.{List, ◌∷◌, sym, subst, refl, reverse, inl, inr}
use Rattle.ifmap_elem.specs.declared.readings.Reading.{Reading}
use Rattle.ifmap_elem.specs.declared.tokens.Token.{Token}
use Rattle.ifmap_reader.specs.Progress.{Within, IsDocumentFrom, Leads, TokenAnswer}
use Rattle.ifmap_reader.proofs.Leading.{comment_leads, declaration_refused}
use Rattle.ifmap_reader.proofs.progress.take_inside.Goals as goal

pub returns-in-Declaration : goal.returns-in-Declaration
returns-in-Declaration c =
    subst (λ (t : Token). (ts : List Token) (r : Reading) → IsDocumentFrom (Within (reverse c.args.open_elements)) (t ∷ ts) r → ⊥)
    (sym c.in-Declaration.is) (declaration_refused (reverse c.args.open_elements))

pub returns-in-Comment : goal.returns-in-Comment
returns-in-Comment c =
    subst (λ (t : Token). Leads c.args.depth (Within (reverse c.args.open_elements)) t (Within (reverse c.args.open_elements)))
    (sym c.in-Comment.is) (comment_leads c.args.depth (reverse c.args.open_elements))

pub returns-in-End : goal.returns-in-End
returns-in-End c = subst (λ (t : Token). TokenAnswer c.args.depth (Within (reverse c.args.open_elements)) t c.take_end.result)
    (sym c.in-End.is) (c.take_end.ensures c.args.depth)

pub returns-in-Section : goal.returns-in-Section
returns-in-Section c = c.take_text.ensures c.args.depth c.args.token (inr (refl, c.in-Section.is))

pub returns-in-Characters : goal.returns-in-Characters
returns-in-Characters c = c.take_text-in-Characters.ensures c.args.depth c.args.token (inl c.in-Characters.is)
