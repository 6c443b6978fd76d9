use Rattle.std.proofs.Common.{[], ◌∷◌, ◌++◌, map, ap, ◌∙◌, refl, string_bytes, lit<}
use Rattle.ifmap_lemmas.specs.Joined.{joined_more, whole_on_ok}
use Rattle.ifmap_elem.specs.Values.{as_space}
use Rattle.ifmap_lexer.proofs.RunLaws.{newline_cut}
use Rattle.ifmap_lexer.proofs.SplitLaws.{after_is_utf8}
use Rattle.ifmap_lexer.proofs.values.push_spaced.Goals as goal
use Rattle.ifmap_elem.specs.Chars.{line_feed, space_character}

pub loop-front-preserved : goal.loop-front-preserved
loop-front-preserved c =
    let inv = c.loop-front.invariant in
    let cut = c.in-Some.ensures.found in
    let rest = c.loop-front.rest.now in
    let front = c.in-Some.front.now in
    let after = c.in-Some.after.now in (
      after_is_utf8 line_feed rest front after (lit< tt) cut.bytes_are inv.0,
      joined_more _ (string_bytes c.loop-front.text) (string_bytes c.push_untabbed.new.text) (map as_space rest)
          (string_bytes c.push.new.self) (map as_space front) (space_character ∷ []) inv.1
          c.in_ok-push_untabbed.ensures
          (c.in_ok-push.ensures.bytes ∙ ap (λ x. string_bytes c.push_untabbed.new.text ++ x) (c.in_ok-push.ensures.ascii (lit< tt)))
          (map as_space after) (newline_cut rest front after cut),
    )

pub returns : goal.returns
returns c =
    let inv = c.loop-front.invariant in
    whole_on_ok c.push_untabbed-2.result _ (string_bytes c.loop-front.text) (map as_space c.loop-front.rest.now)
    (string_bytes c.push_untabbed-2.new.text) (map as_space c.loop-front.rest.now) inv.1 c.push_untabbed-2.ensures refl
