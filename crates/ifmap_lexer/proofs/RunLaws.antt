-- What runs of characters add to a text or a value.
use Rattle.std.proofs.Common.{◌≡◌, ℕ, true, false, List, [], ◌∷◌, ◌++◌, map, refl, ap, sym, ◌∙◌, subst}
use Rattle.std.specs.Prelude.{◌==◌, if◌then◌else◌, Result, Ok, Err}
use Rattle.std.proofs.lemmas.Bool.{not-true}
use Rattle.std.proofs.lemmas.List.{map-append}
use Rattle.ifmap_elem.specs.Chars.{AllAre, carriage_return, line_feed, space_character, tab}
use Rattle.ifmap_elem.specs.Values.{Plain, as_space, line_ends, begins_with}
use Rattle.ifmap_lemmas.specs.Numbers.{is_other}
use Rattle.ifmap_lexer.specs.Cutting.{CutsAt, is_but}
use Rattle.ifmap_lexer.specs.Runs.{break_in, line_in, part_in}
use Rattle.ifmap_elem.specs.declared.escaping.TextPlace.{TextPlace}
use Rattle.ifmap_elem.specs.declared.escaping.TextPlace.TheVariants.{Value, Content}
use Rattle.ifmap_lexer.proofs.Basics.{all_front, all_back}

no_break : (b : ℕ) → is_but tab b ≡ true → is_but line_feed b ≡ true → as_space b ≡ b
no_break b h g = rw (not-true (b == tab) h, not-true (b == line_feed) g) refl

pub keeps_without_breaks : (xs : List ℕ) → AllAre (is_but tab) xs → AllAre (is_but line_feed) xs → map as_space xs ≡ xs
keeps_without_breaks [] f g = refl
keeps_without_breaks (x ∷ xs) f g = λ i. no_break x f.0 g.0 i ∷ keeps_without_breaks xs f.1 g.1 i

module _ (rest front after : List ℕ) where
  pub tab_cut : CutsAt tab rest front after → AllAre (is_but line_feed) rest
      → map as_space rest ≡ front ++ (space_character ∷ map as_space after)
  tab_cut c g =
      ap (map as_space) c.bytes_are ∙ map-append as_space front (tab ∷ after)
      ∙ ap (λ x. x ++ (space_character ∷ map as_space after))
      (keeps_without_breaks front c.passes
      (all_front (is_but line_feed) front (tab ∷ after) (subst (AllAre (is_but line_feed)) c.bytes_are g)))

  pub after_tab : CutsAt tab rest front after → AllAre (is_but line_feed) rest → AllAre (is_but line_feed) after
  after_tab c g = (all_back (is_but line_feed) front (tab ∷ after) (subst (AllAre (is_but line_feed)) c.bytes_are g)).1

  pub newline_cut : CutsAt line_feed rest front after → map as_space rest ≡ map as_space front ++ (space_character ∷ map as_space after)
  newline_cut c = ap (map as_space) c.bytes_are ∙ map-append as_space front (line_feed ∷ after)

lines_front : (front tail : List ℕ) → AllAre (is_but carriage_return) front → line_ends (front ++ tail) ≡ front ++ line_ends tail
lines_front [] tail f = refl
lines_front (b ∷ bs) tail f = rw (not-true (b == carriage_return) f.0) (ap (λ x. b ∷ x) (lines_front bs tail f.1))

lines_none : (xs : List ℕ) → AllAre (is_but carriage_return) xs → line_ends xs ≡ xs
lines_none [] f = refl
lines_none (b ∷ bs) f = rw (not-true (b == carriage_return) f.0) (ap (λ x. b ∷ x) (lines_none bs f.1))

pub break_cut : (place : TextPlace) (rest line after beyond : List ℕ) → CutsAt carriage_return rest line after
    → line_ends (carriage_return ∷ after) ≡ line_feed ∷ line_ends beyond
    → part_in place (Plain rest) ≡ line_in place line ++ (break_in place ∷ part_in place (Plain beyond))
break_cut Content rest line after beyond c e = ap line_ends c.bytes_are ∙ lines_front line (carriage_return ∷ after) c.passes
    ∙ ap (λ x. line ++ x) e
break_cut Value rest line after beyond c e =
    ap (λ x. map as_space (line_ends x)) c.bytes_are
    ∙ ap (map as_space) (lines_front line (carriage_return ∷ after) c.passes ∙ ap (λ x. line ++ x) e)
    ∙ map-append as_space line (line_feed ∷ line_ends beyond)

pub break_end : (place : TextPlace) (rest : List ℕ) → AllAre (is_but carriage_return) rest → part_in place (Plain rest) ≡ line_in place rest
break_end Content rest f = lines_none rest f
break_end Value rest f = ap (map as_space) (lines_none rest f)

pub no_newline : (bs : List ℕ) → ((rest : List ℕ) → bs ≡ line_feed ∷ rest → ⊥) → begins_with line_feed bs ≡ false
no_newline [] h = refl
no_newline (b ∷ bs) h = is_other b line_feed (λ e. h bs (ap (λ n. n ∷ bs) e))
