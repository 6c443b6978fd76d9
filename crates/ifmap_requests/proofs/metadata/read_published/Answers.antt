use Rattle.std.proofs.Common.{Err, List, Ok, Option, refl, subst, sym}
use Rattle.ifmap_ident.specs.declared.codes.Code.TheVariants.{Failure}
use Rattle.ifmap_ident.specs.declared.items.Item.{Item}
use Rattle.ifmap_meta.specs.declared.metadata.Metadata.{Metadata}
use Rattle.ifmap_forms.specs.AnswerLaws.{refused_exit_as}
use Rattle.ifmap_forms.specs.Checks.{Check, need_some, pass}
use Rattle.ifmap_forms.specs.ListLaws.{listed_makes, listed_refused}
use Rattle.ifmap_forms.specs.Tables.{Both, both, parts_in}
use Rattle.ifmap_requests.specs.Published.{metadata_check, published_check, published_parts}
use Rattle.ifmap_requests.proofs.metadata.read_published.Goals as goal

abbrev published_of : Item → Option (List Metadata) → Check (Both Item (List Metadata))
published_of item list = need_some Failure list (λ elements. pass (both item elements))

pub returns-in_err-listed : goal.returns-in_err-listed
returns-in_err-listed c =
    let parts = parts_in c.args.children.items in
    let error = c.in_err-listed.field-0.0 in
    refused_exit_as published_parts (published_check parts) c.from_residual.result error c.from_residual.ensures.1
    (listed_refused metadata_check published_of parts error c.in_err-listed.ensures)

pub returns-in-Some : goal.returns-in-Some
returns-in-Some c =
    let listed = c.in_ok-listed.listed in
    let elements = c.in-Some.elements in
    listed_makes metadata_check published_of (parts_in c.args.children.items) listed c.in_ok-listed.ensures (Ok (both listed.item elements))
    (subst (λ (o : Option (List Metadata)). published_of listed.item o (Ok (both listed.item elements))) (sym c.in-Some.is) refl)

pub returns-in-None : goal.returns-in-None
returns-in-None c =
    let listed = c.in_ok-listed.listed in
    listed_makes metadata_check published_of (parts_in c.args.children.items) listed c.in_ok-listed.ensures (Err Failure)
    (subst (λ (o : Option (List Metadata)). published_of listed.item o (Err Failure)) (sym c.in-None.is) refl)
