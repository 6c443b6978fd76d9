use Rattle.std.proofs.Common.{◌≡◌, ◌<◌, ◌+◌, suc, Some, refl, length, slice_get, sym, ◌∙◌, ap, arith}
use Rattle.std.proofs.lemmas.Option.{slice_get_read}
use Rattle.ifmap_changes.proofs.Flagging.{all_flagged, as_many_first, flag_at, gone_first, is_of, flags_first}
use Rattle.ifmap_changes.proofs.changes.set_flags.Goals as goal

pub set_flag-requires : goal.set_flag-requires
set_flag-requires c = omega (
  arith,
  ap length c.loop-at.invariant,
  as_many_first c.args.serials.now c.loop-at.at c.args.gone.now.items
      c.args.standing.now,
  c.requires.flags,
  c.loop-at-test.true,
)

pub loop-at-preserved : goal.loop-at-preserved
loop-at-preserved c =
    let xs = c.args.standing.now in
    let at = c.loop-at.at in
    let x = c.index-standing-at.result in
    let within : at < length xs = omega (arith, c.loop-at-test.true) in
    let there : slice_get xs at ≡ Some x = slice_get_read xs (length xs) at x refl within c.index-standing-at.is in
    let is_flagged : c.is_among.result ≡ is_of c.args.serials.now x =
    c.is_among.ensures ∙ ap (is_of c.args.serials.now) (sym c.index-standing-at.is) in
    let next : suc at ≡ at + 1 = omega arith in
    c.set_flag.ensures ∙ ap (λ b. flag_at b at c.loop-at.gone.items) is_flagged
    ∙ ap (flag_at (is_of c.args.serials.now x) at) c.loop-at.invariant
    ∙ flags_first c.args.serials.now at c.args.gone.now.items xs x c.requires.flags there
    ∙ ap (λ n. gone_first c.args.serials.now n c.args.gone.now.items xs) next

pub returns : goal.returns
returns c = c.loop-at.invariant ∙ all_flagged c.args.serials.now c.loop-at.at c.args.gone.now.items c.args.standing.now c.requires.flags
    (omega (arith, c.loop-at-test.false))
