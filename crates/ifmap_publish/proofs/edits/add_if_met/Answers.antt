use Rattle.std.proofs.Common.{◌≡◌, ◌∙◌, ◌∷◌, ◌++◌, [], ap, false, rules, true}
use Rattle.ifmap_requests.specs.ifmap_filter.Meets.{meets_optional}
use Rattle.ifmap_meta.specs.declared.stored.Stored.{Stored}
use Rattle.ifmap_publish.proofs.Meeting.{met_not, met_too}
use Rattle.ifmap_publish.proofs.edits.add_if_met.Goals as goal

pub returns-then-not-meets_optional : goal.returns-then-not-meets_optional
returns-then-not-meets_optional c =
    let e : meets_optional c.args.test.now c.args.row.now.element ≡ false = search rules in
    met_not (λ s. meets_optional c.args.test.now s.element) c.args.row.now c.args.met.now.items e

pub returns : goal.returns
returns c =
    let e : meets_optional c.args.test.now c.args.row.now.element ≡ true = search rules in
    met_too (λ s. meets_optional c.args.test.now s.element) c.args.row.now c.args.met.now.items _ e
    (c.in_ok-push.ensures.items ∙ ap (λ (s : Stored). c.args.met.now.items ++ s ∷ []) c.in_ok-share.ensures)
