-- A graph between changes, while one is out, and once one was made that can be taken back.
use Rattle.std.specs.Prelude.{ℕ, List}
use Rattle.ifmap_ident.specs.declared.identifiers.Identifier.{Identifier}
use Rattle.ifmap_plans.specs.Plans.{AreWhole}
use Rattle.ifmap_view.specs.declared.attachments.Attachment.{Attachment}
use Rattle.ifmap_view.specs.declared.views.LinkSeen.{LinkSeen}
use Rattle.ifmap_graph.specs.declared.changes.Ready.{Ready}
use Rattle.ifmap_graph.specs.declared.changes.Undo.{Undo}
use Rattle.ifmap_graph.specs.Back.{IsUndoTo}
use Rattle.ifmap_graph.specs.Inside.{GraphInside, IsOwn}
use Rattle.ifmap_graph.specs.Out.{IsOut, items_changed}
use Rattle.ifmap_graph.specs.Seen.{AreAwaited, IsStill, rows_next, rows_now}

-- nobody holds an identifier but items
abbrev pub OwnsNothing : GraphInside → Type 0
OwnsNothing h = (a : Identifier) → IsOwn h a 0

-- nothing is out, and what is stored is whole
pub record IsStillWhole (h : GraphInside) : Type 0 where
  pub still : IsStill h
  pub whole : AreWhole (rows_now h)
  pub own : OwnsNothing h

-- a change is out, before and after which what is stored is whole
pub record IsBegunWhole (ready : Ready) (h : GraphInside) : Type 0 where
  pub out : IsOut ready h
  pub waits : AreAwaited (items_changed ready.plan.changes) h
  pub before : AreWhole (rows_now h)
  pub after : AreWhole (rows_next h)
  pub own : OwnsNothing h

-- a change was made that can be taken back
pub record IsMadeWhole (undo : Undo) (h : GraphInside) : Type 0 where
  pub steady : IsStillWhole h
  pub rows : List Attachment
  pub links : ℕ → List LinkSeen
  pub back : IsUndoTo undo rows links h
  pub before : AreWhole rows
