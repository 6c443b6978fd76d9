use Rattle.std.proofs.Common.{[], ◌∷◌, ◌++◌, map, ap, ◌∙◌, string_bytes, lit<}
use Rattle.ifmap_lemmas.specs.Joined.{joined_more, whole_if_ok}
use Rattle.ifmap_elem.specs.Values.{as_space}
use Rattle.ifmap_lexer.proofs.RunLaws.{tab_cut, after_tab, keeps_without_breaks}
use Rattle.ifmap_lexer.proofs.SplitLaws.{after_is_utf8}
use Rattle.ifmap_lexer.proofs.values.push_untabbed.Goals as goal
use Rattle.ifmap_elem.specs.Chars.{space_character}

pub loop-front-preserved : goal.loop-front-preserved
loop-front-preserved c =
    let inv = c.loop-front.invariant in
    let cut = c.in-Some.ensures.found in
    let rest = c.loop-front.rest.now in
    let front = c.in-Some.front.now in
    let after = c.in-Some.after.now in (
      after_is_utf8 9 rest front after (lit< tt) cut.bytes_are inv.0,
      after_tab rest front after cut inv.1,
      joined_more _ (string_bytes c.loop-front.text) (string_bytes c.push_str.new.self) (map as_space rest) (string_bytes c.push.new.self)
          front (space_character ∷ []) inv.2
          c.in_ok-push_str.ensures.bytes
          (c.in_ok-push.ensures.bytes ∙ ap (λ x. string_bytes c.push_str.new.self ++ x) (c.in_ok-push.ensures.ascii (lit< tt)))
          (map as_space after) (tab_cut rest front after cut inv.1),
    )

pub returns : goal.returns
returns c =
    let inv = c.loop-front.invariant in
    whole_if_ok c.push_str-2.result _ (string_bytes c.loop-front.text) (map as_space c.loop-front.rest.now)
    (string_bytes c.push_str-2.new.self) c.loop-front.rest.now inv.2 c.push_str-2.ensures.bytes
    (keeps_without_breaks c.loop-front.rest.now c.in_default.ensures.none inv.1)
