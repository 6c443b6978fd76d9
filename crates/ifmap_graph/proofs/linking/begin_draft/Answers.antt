use Rattle.std.proofs.Common.{◌≡◌, ◌++◌, ℕ, Option, None, IsSome, List, [], ◌∷◌, refl, ap, ◌∙◌, sym, subst}
use Rattle.std.proofs.lemmas.List.{get_or_default}
use Rattle.ifmap_lemmas.specs.Absent.{none_where_not_some}
use Rattle.ifmap_view.specs.declared.views.LinkSeen.{LinkSeen}
use Rattle.ifmap_graph.specs.Sides.{Sides}
use Rattle.ifmap_graph.specs.Touched.{AreExactlyDrafted}
use Rattle.ifmap_graph.specs.Turning.{no_list, sides_at}
use Rattle.ifmap_graph.proofs.Readying.{ready_more}
use Rattle.ifmap_graph.proofs.linking.begin_draft.Goals as goal

pub returns-clause-ready : goal.returns-clause-ready
returns-clause-ready c =
    let here : c.index.result.now ≡ sides_at c.args.links.now.items c.args.place
    = c.index.ensures ∙ get_or_default c.args.links.now.items c.args.place c.index.result.now no_list c.requires.place
    in let none : (sides_at c.args.links.now.items c.args.place).draft ≡ None
    = ap (λ (s : Sides LinkSeen). s.draft) (sym here)
    ∙ none_where_not_some c.index.result.now.draft (sym c.has_draft.ensures ∙ c.if-has_draft.false)
    in subst (λ (w : List (ℕ × List LinkSeen)). AreExactlyDrafted w c.set_draft.new.links.items)
    (sym (c.in_ok-push.ensures.items ∙ ap (λ (y : ℕ × List LinkSeen). c.args.ways.now.items ++ y ∷ []) c.new.ensures))
    (ready_more c.args.ways.now.items c.args.links.now.items c.set_draft.new.links.items c.args.place c.requires.ready
    c.set_draft.ensures.touched none c.requires.place
    (subst (λ (o : Option (List LinkSeen)). IsSome o) (sym c.set_draft.ensures.draft) refl))
