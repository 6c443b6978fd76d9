-- What each form asks for was done.
use Rattle.std.proofs.Common.{refl, map, subst}
use Rattle.std.proofs.KnownBytes.{Keeps-refl}
use Rattle.std.specs.Prelude.{string_bytes}
use Rattle.ifmap_command.specs.declared.forms.Form.TheVariants as form
use Rattle.ifmap_command.specs.Words.{Asks}
use Rattle.ifmap_program.proofs.running.run.Goals as goal

pub returns-in-Replay : goal.returns-in-Replay
returns-in-Replay g c =
    (form.Replay, subst (Asks (map string_bytes c.args.words.now)) c.in-Replay.is c.form_of.ensures, (refl, c.replay.ensures))

pub returns-in-Drill : goal.returns-in-Drill
returns-in-Drill g c = (
  form.Drill c.in-Drill.key c.in-Drill.count,
  subst (Asks (map string_bytes c.args.words.now)) c.in-Drill.is c.form_of.ensures,
  (refl, Keeps-refl _, c.drill.ensures),
)

pub returns-in-Serve : goal.returns-in-Serve
returns-in-Serve g c = (
  form.Serve c.in-Serve._at c.in-Serve.workers,
  subst (Asks (map string_bytes c.args.words.now)) c.in-Serve.is c.form_of.ensures,
  c.serve_as.ensures (g.S.Source.left c.args.source.now) (g.S.Source.faults c.args.source.now),
)

pub returns-in-Wrong : goal.returns-in-Wrong
returns-in-Wrong g c = (
  form.Wrong,
  subst (Asks (map string_bytes c.args.words.now)) c.in-Wrong.is c.form_of.ensures,
  (refl, Keeps-refl _, c.tell_usage.ensures),
)

pub returns-in-NoMemory : goal.returns-in-NoMemory
returns-in-NoMemory g c = (
  form.NoMemory,
  subst (Asks (map string_bytes c.args.words.now)) c.in-NoMemory.is c.form_of.ensures,
  (refl, refl, Keeps-refl _, Keeps-refl _),
)
