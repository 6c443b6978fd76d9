use Rattle.std.proofs.Common.{◌∷◌, [], List, ℕ, Ok, subst, sym}
use Rattle.ifmap_ident.specs.declared.kinds.Kind.{Kind}
use Rattle.ifmap_forms.specs.AnswerLaws.{refused_exit}
use Rattle.ifmap_forms.specs.Answers.{IsCheckRefusal}
use Rattle.ifmap_forms.specs.Gathering.{IsRestAfter, after_made, goes_further, ok_list, stops}
use Rattle.ifmap_lemmas.specs.Separated.{comma_parts}
use Rattle.ifmap_forms.specs.Values.{kinds_check}
use Rattle.ifmap_forms.proofs.KindLaws.{kind_goes_on, kind_stops, last_kind}
use Rattle.ifmap_forms.proofs.kinds.kinds_of_pieces.Goals as goal

pub returns-in_err-read_kind : goal.returns-in_err-read_kind
returns-in_err-read_kind c =
    let whole = kinds_check (comma_parts c.args.text.now) in
    let rest = c.loop-piece.rest.now in
    let error = c.in_err-read_kind.field-0.0 in
    refused_exit whole c.from_residual.result error c.from_residual.ensures.1
    (stops whole (kinds_check (comma_parts rest)) c.loop-piece.kinds.items c.loop-piece.invariant error
    (subst (λ (ps : List (List ℕ)). IsCheckRefusal (kinds_check ps) error) (sym c.in-Some.ensures.pieces)
    (kind_stops c.in-Some.piece.now (comma_parts c.in-Some.others.now) error c.in_err-read_kind.ensures)))

pub loop-piece-preserved : goal.loop-piece-preserved
loop-piece-preserved c =
    let whole = kinds_check (comma_parts c.args.text.now) in
    let rest = c.loop-piece.rest.now in
    let piece = c.in-Some.piece.now in
    let others = c.in-Some.others.now in
    let kind = c.in_ok-read_kind.field-0 in
    subst (λ (made : List Kind). IsRestAfter whole (kinds_check (comma_parts others)) made) (sym {A = List Kind} c.in_ok-push.ensures.items)
    (goes_further whole (kinds_check (comma_parts rest)) (kinds_check (comma_parts others)) c.loop-piece.kinds.items (kind ∷ [])
    c.loop-piece.invariant
    (λ found f. subst (λ (ps : List (List ℕ)). kinds_check ps (after_made (kind ∷ []) found)) (sym c.in-Some.ensures.pieces)
    (kind_goes_on piece (comma_parts others) kind c.in_ok-read_kind.ensures found f)))

pub returns-in_err-read_kind-2 : goal.returns-in_err-read_kind-2
returns-in_err-read_kind-2 c =
    let whole = kinds_check (comma_parts c.args.text.now) in
    let rest = c.loop-piece.rest.now in
    let error = c.in_err-read_kind-2.field-0.0 in
    refused_exit whole c.from_residual-in_err-read_kind-2.result error c.from_residual-in_err-read_kind-2.ensures.1
    (stops whole (kinds_check (comma_parts rest)) c.loop-piece.kinds.items c.loop-piece.invariant error
    (subst (λ (ps : List (List ℕ)). IsCheckRefusal (kinds_check ps) error) (sym c.in_default.ensures.whole)
    (kind_stops rest [] error c.in_err-read_kind-2.ensures)))

pub returns : goal.returns
returns c =
    let whole = kinds_check (comma_parts c.args.text.now) in
    let rest = c.loop-piece.rest.now in
    let kind = c.in_ok-read_kind-2.field-0 in
    subst (λ (made : List Kind). whole (Ok made)) (sym {A = List Kind} c.in_ok-push-2.ensures.items)
    (c.loop-piece.invariant.goes (ok_list (kind ∷ []))
    (subst (λ (ps : List (List ℕ)). kinds_check ps (ok_list (kind ∷ []))) (sym c.in_default.ensures.whole)
    (last_kind rest kind c.in_ok-read_kind-2.ensures)))
