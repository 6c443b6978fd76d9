use Rattle.std.proofs.Common.{sym, ◌∙◌, subst, List, ℕ}
use Rattle.std.proofs.lemmas.Result.{err_from_is_err_and}
use Rattle.ifmap_lemmas.specs.Joined.{none_by_length, some_by_length}
use Rattle.ifmap_elem.specs.Values.{IsText}
use Rattle.ifmap_elem.specs.Kinds.{Stands}
use Rattle.ifmap_elem.specs.declared.tokens.TokenKind.TheVariants as kinds
use Rattle.ifmap_lexer.proofs.Basics.{refuses_by}
use Rattle.ifmap_lexer.proofs.TokenLaws.{SomeMeaning, no_own, no_text_end, no_text_characters, some_text_of, text_found}
use Rattle.ifmap_lexer.proofs.tokens.text.Goals as goal

pub returns-then-is_empty-clause-refused : goal.returns-then-is_empty-clause-refused
returns-then-is_empty-clause-refused c =
    no_own c.args.bytes.now c.split_byte.result.0.now c.split_byte.result.1.now c.split_byte.ensures
    (none_by_length c.split_byte.result.0.now (sym c.is_empty.ensures ∙ c.if-is_empty.true))

pub returns-then-has_section_end-clause-refused : goal.returns-then-has_section_end-clause-refused
returns-then-has_section_end-clause-refused c =
    no_text_end c.args.bytes.now c.split_byte.result.0.now c.split_byte.result.1.now c.split_byte.ensures c.if-has_section_end.ensures.yes

pub returns-in_default-clause-refused : goal.returns-in_default-clause-refused
returns-in_default-clause-refused c =
    no_text_characters c.args.bytes.now c.split_byte.result.0.now c.split_byte.result.1.now c.split_byte.ensures c.in_default.ensures.none

pub returns-in_err-meant-clause-refused : goal.returns-in_err-meant-clause-refused
returns-in_err-meant-clause-refused c =
    let p = err_from_is_err_and c.from_residual.result c.from_residual.ensures.1 in
    rw (p.1, p.2) (refuses_by c.in_err-meant.field-0.0 (SomeMeaning c.in-Some.written.now) (Stands kinds.Text c.args.bytes.now)
    (some_text_of c.args.bytes.now c.split_byte.result.0.now c.split_byte.result.1.now c.split_byte.ensures c.in-Some.written.now
    c.in-Some.ensures.found.0) c.in_err-meant.ensures.refused)

pub returns-clause-found : goal.returns-clause-found
returns-clause-found c =
    text_found c.args.bytes.now c.split_byte.result.0.now c.split_byte.result.1.now c.split_byte.ensures
    (some_by_length c.split_byte.result.0.now (sym c.is_empty.ensures ∙ c.if-is_empty.false))
    c.if-has_section_end.ensures.no c.in-Some.ensures.found.1 c.is_white_alone.result c.is_white_alone.ensures c.in_ok-meant.meant
    (subst (λ (x : List ℕ). IsText x c.in_ok-meant.meant) c.in-Some.ensures.found.0 c.in_ok-meant.ensures.found)
