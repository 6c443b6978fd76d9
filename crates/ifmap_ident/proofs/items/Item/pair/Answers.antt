use Rattle.std.proofs.Common.{refl}
use Rattle.ifmap_ident.specs.Identifiers.{identifier_bytes}
use Rattle.ifmap_lemmas.specs.Texts.{slice_cmp-equal, slice_cmp-greater, slice_cmp-less, slice_cmp-turn}
use Rattle.ifmap_ident.proofs.items.Item.pair.Goals as goal

pub returns-in-Less-clause-none : goal.returns-in-Less-clause-none
returns-in-Less-clause-none c = (λ e. cc, slice_cmp-less (identifier_bytes c.args.a) (identifier_bytes c.args.b) c.in-Less.ensures)

pub returns-in-Equal-clause-none : goal.returns-in-Equal-clause-none
returns-in-Equal-clause-none c = (
  λ _. slice_cmp-equal (identifier_bytes c.args.a) (identifier_bytes c.args.b) c.in-Equal.ensures,
  λ _. refl,
)

pub returns-in-Greater-clause-none : goal.returns-in-Greater-clause-none
returns-in-Greater-clause-none c = (λ e. cc, slice_cmp-greater (identifier_bytes c.args.a) (identifier_bytes c.args.b) c.in-Greater.ensures)

pub returns-in-Greater-clause-item : goal.returns-in-Greater-clause-item
returns-in-Greater-clause-item c = slice_cmp-turn (identifier_bytes c.args.a) (identifier_bytes c.args.b) c.in-Greater.ensures

pub returns-in-Greater-clause-canon : goal.returns-in-Greater-clause-canon
returns-in-Greater-clause-canon c = λ a b. record {
  ordered = slice_cmp-turn (identifier_bytes c.args.a) (identifier_bytes c.args.b) c.in-Greater.ensures;
  identifiers = (b, (a, tt));
}
