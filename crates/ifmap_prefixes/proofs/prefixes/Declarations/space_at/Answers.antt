use Rattle.std.proofs.Common.{◌∙◌, List, ap, get_or, sym}
use Rattle.std.specs.Prelude.{Some}
use Rattle.std.proofs.lemmas.Option.{get_or_from_slice_get}
use Rattle.ifmap_elem.specs.declared.readings.Declared.{Declared}
use Rattle.ifmap_prefixes.proofs.Looking.{space_found, space_lacks}
use Rattle.ifmap_prefixes.proofs.prefixes.Declarations.space_at.Goals as goal

pub returns-in-Some : goal.returns-in-Some
returns-in-Some c =
    let at = c.last_index.ensures in
    let rows = c.args.self.now in
    let row = c.in-Some.row in
    let there = at.found row c.in-Some.is in
    let same = ap (λ (ds : List Declared). get_or ds row c.index-self-row.result) c.self.view_is
    ∙ get_or_from_slice_get rows row there.0 c.index-self-row.result there.1 in
    ap Some (c.as_str.ensures ∙ ap (λ (d : Declared). d.space) same)
    ∙ sym (space_found c.args.prefix.now c.args.path.now rows c.last_index.result at row there.0 c.in-Some.is there.1)

pub returns-in-None : goal.returns-in-None
returns-in-None c =
    sym (space_lacks c.args.prefix.now c.args.path.now c.args.self.now c.last_index.result c.last_index.ensures c.in-None.is)
