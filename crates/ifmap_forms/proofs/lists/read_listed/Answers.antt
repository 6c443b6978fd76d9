use Rattle.std.proofs.Common.{◌≡◌, [], List, Ok, drop, subst}
use Rattle.ifmap_elem.specs.declared.elements.Child.{Child}
use Rattle.ifmap_forms.specs.AnswerLaws.{refused_exit}
use Rattle.ifmap_forms.specs.Answers.{IsCheckRefusal}
use Rattle.ifmap_forms.specs.Items.{before_list, from_list, identifiers_check, list_if_there, listed_check}
use Rattle.ifmap_forms.specs.Tables.{Part, parts_in}
use Rattle.ifmap_forms.proofs.ListedLaws.{listed_whole, refused_identifiers, refused_list}
use Rattle.ifmap_forms.proofs.lists.read_listed.Given as given
use Rattle.ifmap_forms.proofs.lists.read_listed.Goals as goal
use Rattle.ifmap_forms.proofs.lists.read_listed.Goals.{In_ok-identifiers}

-- the identifiers that were read are those before the list
before : (g : given.Over) (c : In_ok-identifiers g)
    → identifiers_check 2 [] (before_list (parts_in c.args.children.items)) (Ok c.in_ok-identifiers.identifiers.items)
before g c =
    subst (λ (cs : List Child). identifiers_check 2 [] (before_list (parts_in cs)) (Ok c.in_ok-identifiers.identifiers.items))
    c.as_slice-all.ensures.value c.in_ok-identifiers.ensures

-- the list stands at the index that was found
after : (g : given.Over) (c : In_ok-identifiers g)
    → drop c.list_index-index.result (parts_in c.args.children.items) ≡ from_list (parts_in c.args.children.items)
after g c =
    subst (λ (cs : List Child). drop c.list_index-index.result (parts_in cs) ≡ from_list (parts_in cs)) c.as_slice-all.ensures.value
    c.list_index-index.ensures.after

pub returns-in_err-identifiers : goal.returns-in_err-identifiers
returns-in_err-identifiers g c =
    let finds = g.R.MemberReader.finds in
    let error = c.in_err-identifiers.field-0.0 in
    refused_exit (listed_check finds (parts_in c.args.children.items)) c.from_residual.result error c.from_residual.ensures.1
    (subst (λ (cs : List Child). IsCheckRefusal (listed_check finds (parts_in cs)) error) c.as_slice-all.ensures.value
    (refused_identifiers finds (parts_in c.as_slice-all.result.now) error c.in_err-identifiers.ensures))

pub returns-in_err-list : goal.returns-in_err-list
returns-in_err-list g c =
    let finds = g.R.MemberReader.finds in
    let error = c.in_err-list.field-0.0 in
    let parts = parts_in c.args.children.items in
    let identifiers = c.in_ok-identifiers.identifiers.items in
    let place = (goal.at.returns-in_err-list g c).In_ok-identifiers in
    refused_exit (listed_check finds parts) c.from_residual-in_err-list.result error c.from_residual-in_err-list.ensures.1
    (refused_list finds parts identifiers (before g place) error
    (subst (λ (ps : List Part). IsCheckRefusal (list_if_there finds ps) error) (after g place) c.in_err-list.ensures))

pub returns : goal.returns
returns g c =
    let finds = g.R.MemberReader.finds in
    let parts = parts_in c.args.children.items in
    let identifiers = c.in_ok-identifiers.identifiers.items in
    let place = (goal.at.returns g c).In_ok-identifiers in
    listed_whole finds parts identifiers (before g place) c.in_ok-list.list
    (subst (λ (ps : List Part). list_if_there finds ps (Ok c.in_ok-list.list)) (after g place) c.in_ok-list.ensures) c.list_with_item.result
    c.list_with_item.ensures
