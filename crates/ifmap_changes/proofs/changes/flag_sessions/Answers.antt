use Rattle.std.proofs.Common.{◌≡◌, false, refl, ap, length, map, slice_get, ◌∙◌, sym, subst}
use Rattle.ifmap_changes.proofs.Flagging.{as_many, is_of, left_without, none_of_them, still_set}
use Rattle.ifmap_changes.proofs.changes.flag_sessions.Goals as goal
use Rattle.ifmap_tellings.specs.ifmap_standing.declared.standing.Standing.{Standing}
use Rattle.ifmap_tellings.specs.ifmap_standing.Standing.{standing_of}
use Rattle.ifmap_tellings.specs.Tellings.{AllKept, kept_items}

pub returns-clause-flags : goal.returns-clause-flags
returns-clause-flags c = record {
  gone = c.set_flags.ensures;
  flags = ap length c.set_flags.ensures
      ∙ as_many c.args.serials.now c.args.pending.now.gone.items c.args.standing.now c.requires.flags;
  left = ap (λ gone. map standing_of (kept_items gone c.args.standing.now)) c.set_flags.ensures
      ∙ left_without c.args.serials.now c.args.pending.now.gone.items c.args.standing.now;
  stay = λ i set.
      ap (λ gone. slice_get gone i) c.set_flags.ensures
      ∙ still_set c.args.serials.now c.args.pending.now.gone.items c.args.standing.now c.requires.flags i set;
  tellings = refl;
}

pub returns-clause-bare : goal.returns-clause-bare
returns-clause-bare c =
    subst (λ gone. AllKept (λ (x : Standing). is_of c.args.serials.now x ≡ false) gone c.args.standing.now) (sym c.set_flags.ensures)
    (none_of_them c.args.serials.now c.args.pending.now.gone.items c.args.standing.now)
