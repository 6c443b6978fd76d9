-- Characters that mean themselves.
use Rattle.std.proofs.Common.{◌≡◌, ℕ, true, List, [], ◌∷◌, refl, sym, ◌∙◌, arith}
use Rattle.std.proofs.lemmas.Bool.Decides.{nat_tests}
use Rattle.ifmap_elem.specs.Chars.{AllAre, ampersand, carriage_return, line_feed, tab}
use Rattle.ifmap_elem.specs.Values.{SpellsOut, Plain, as_space}
use Rattle.ifmap_lemmas.specs.Members.{all_weaker}
use Rattle.ifmap_lexer.specs.Common.{is_verbatim}
use Rattle.ifmap_lexer.specs.Cutting.{is_but}
use Rattle.ifmap_lexer.specs.Runs.{line_in, part_in}
use Rattle.ifmap_elem.specs.declared.escaping.TextPlace.{TextPlace}
use Rattle.ifmap_elem.specs.declared.escaping.TextPlace.TheVariants.{Value, Content}
use Rattle.ifmap_lexer.proofs.ExpansionLaws.{along_start, along_end}
use Rattle.ifmap_lexer.proofs.RunLaws.{break_end, keeps_without_breaks}

no_reference : (b : ℕ) → is_verbatim b ≡ true → is_but ampersand b ≡ true
no_reference b h = grind (arith, nat_tests)

no_return : (b : ℕ) → is_verbatim b ≡ true → is_but carriage_return b ≡ true
no_return b h = grind (arith, nat_tests)

no_newline : (b : ℕ) → is_verbatim b ≡ true → is_but line_feed b ≡ true
no_newline b h = grind (arith, nat_tests)

no_tab : (b : ℕ) → is_verbatim b ≡ true → is_but tab b ≡ true
no_tab b h = grind (arith, nat_tests)

line_same : (place : TextPlace) (xs : List ℕ) → AllAre is_verbatim xs → line_in place xs ≡ xs
line_same Content xs f = refl
line_same Value xs f =
    keeps_without_breaks xs (all_weaker is_verbatim (is_but tab) no_tab xs f) (all_weaker is_verbatim (is_but line_feed) no_newline xs f)

part_same : (place : TextPlace) (xs : List ℕ) → AllAre is_verbatim xs → part_in place (Plain xs) ≡ xs
part_same place xs f = break_end place xs (all_weaker is_verbatim (is_but carriage_return) no_return xs f) ∙ line_same place xs f

pub verbatim_expands : (place : TextPlace) (written text : List ℕ) → AllAre is_verbatim written → text ≡ written
    → SpellsOut (part_in place) written text
verbatim_expands place written text f e =
    along_end place written [] written text (along_start place written [] refl)
    (all_weaker is_verbatim (is_but ampersand) no_reference written f) (e ∙ sym (part_same place written f))
