use Rattle.std.proofs.Common.{◌≡◌, ℕ, ◌+◌, ◌<◌, ◌∙◌, ◌∷◌, [], List, ap, drop, get_or, length, subst, sym}
use Rattle.std.proofs.lemmas.List.{drop_all, drop_more}
use Rattle.ifmap_elem.specs.declared.elements.Child.{Child, out-Child}
use Rattle.ifmap_ident.specs.declared.identifiers.Identifier.{Identifier}
use Rattle.ifmap_forms.specs.AnswerLaws.{refused_exit_as}
use Rattle.ifmap_forms.specs.Answers.{IsCheckRefusal}
use Rattle.ifmap_forms.specs.Gathering.{following_check, identifiers_end, identifiers_further, identifiers_stop, one_found, part_check}
use Rattle.ifmap_forms.specs.Items.{identifiers_check}
use Rattle.ifmap_forms.specs.Tables.{parts_in}
use Rattle.ifmap_forms.proofs.identifiers.read_identifiers.Goals as goal

-- the child with an index, and those after it, are what is left there
left_at : (children : List Child) (i : ℕ) (child : Child) → i < length children → child ≡ get_or children i child
    → drop i children ≡ child ∷ drop (i + 1) children
left_at children i child below is =
    drop_more children i child below ∙ ap (λ (x : Child). x ∷ drop (i + 1) children) (sym is)

pub returns-in_err-found : goal.returns-in_err-found
returns-in_err-found c =
    let children = c.args.children.now in
    let i = c.loop-child.child-index in
    let child = c.child-item.result in
    let made = c.loop-child.made.items in
    let whole = identifiers_check c.args.most [] (parts_in children) in
    let left = left_at children i child c.loop-child-test.true c.child-item.is in
    let error = c.in_err-found.field-0.0 in
    let stops : IsCheckRefusal (part_check (following_check c.args.most made) (out-Child child)) error =
    subst (λ (before : List Identifier). IsCheckRefusal (part_check (following_check c.args.most before) (out-Child child)) error)
    c.deref.ensures.value c.in_err-found.ensures in
    refused_exit_as (λ made. made.items) whole c.from_residual.result error c.from_residual.ensures.1
    (identifiers_stop whole c.args.most (drop i children) made c.loop-child.invariant child (drop (i + 1) children) left error stops)

pub loop-child-preserved : goal.loop-child-preserved
loop-child-preserved c =
    let children = c.args.children.now in
    let i = c.loop-child.child-index in
    let child = c.child-item.result in
    let made = c.loop-child.made.items in
    let whole = identifiers_check c.args.most [] (parts_in children) in
    let left = left_at children i child c.loop-child-test.true c.child-item.is in
    let there : part_check (following_check c.args.most made) (out-Child child) (one_found c.in_ok-found.found) =
    subst (λ (before : List Identifier). part_check (following_check c.args.most before) (out-Child child) (one_found c.in_ok-found.found))
    c.deref.ensures.value c.in_ok-found.ensures in
    identifiers_further whole c.args.most (drop i children) made c.loop-child.invariant child (drop (i + 1) children) left
    c.in_ok-found.found c.keep_found.new.members.items there c.in_ok-keep_found.ensures

pub returns : goal.returns
returns c =
    identifiers_end (identifiers_check c.args.most [] (parts_in c.args.children.now)) c.args.most
    (drop c.loop-child.child-index c.args.children.now) c.loop-child.made.items c.loop-child.invariant
    (drop_all c.loop-child.child-index c.args.children.now c.loop-child-test.false)
