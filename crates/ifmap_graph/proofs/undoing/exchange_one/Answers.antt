use Rattle.ifmap_graph.proofs.Restoring.{no_draft_on}
use Rattle.ifmap_graph.proofs.undoing.exchange_one.Goals as goal

pub exchange-requires-clause-drafted : goal.exchange-requires-clause-drafted
exchange-requires-clause-drafted c = no_draft_on c.args.shelves.now c.args.item.now c.requires.shelved c.requires.bare c.requires.there

pub returns-clause-left : goal.returns-clause-left
returns-clause-left c = record { stays = c.exchange.ensures.stays; bare = c.exchange.ensures.bare c.requires.bare }
