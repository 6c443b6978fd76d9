use Rattle.std.proofs.Common.{◌+◌, ◌-◌, refl, arith}
use Rattle.ifmap_hall.proofs.Settling.{settle_keeps_balance, one_carries, one_end, settles_none, one_had_to_go}
use Rattle.ifmap_hall.proofs.book.Book.settle_oldest.Goals as goal

pub returns-clause-settles : goal.returns-clause-settles
returns-clause-settles g c =
    let b = c.args.self.now in
    let rest = c.pop_front-gone.new.self.items in
    record {
      book = settle_keeps_balance g.M.Machine.next g.M.Machine.weight_of b.machine b.base c.step.new.self b.from b.bytes b.limit b.heaviest
          c.weight-weight.result c.in-Some.oldest.now
          b.journal.items rest c.requires.some c.in-Some.ensures.lookup c.pop_front-gone.ensures.rest c.in_ok-_reply.ensures.0
          c.weight-weight.ensures c.requires.book c.requires.heavy;
      carries = one_carries g.M.Machine.next g.M.Machine.weight_of b.base c.step.new.self b.from c.in-Some.oldest.now b.journal.items rest
          c.requires.some c.in-Some.ensures.lookup c.pop_front-gone.ensures.rest c.in_ok-_reply.ensures.0;
      machine = refl;
      limits = record { limit = refl; heaviest = refl };
      ends = one_end g.M.Machine.next g.M.Machine.weight_of b.from c.in-Some.oldest.now b.journal.items rest c.requires.some
          c.pop_front-gone.ensures.rest;
    }

pub returns-in_err-_reply-clause-settles : goal.returns-in_err-_reply-clause-settles
returns-in_err-_reply-clause-settles g c =
    settles_none g.M.Machine.next g.M.Machine.weight_of c.args.self.now c.step.new.self c.in_err-_reply.ensures c.requires.book

pub returns-clause-few : goal.returns-clause-few
returns-clause-few g c heavy full =
    let b = c.args.self.now in
    one_had_to_go g.M.Machine.next g.M.Machine.weight_of b
    (record b {
      base = c.step.new.self;
      from = b.from + 1;
      journal = c.pop_front-gone.new.self;
      bytes = b.bytes - c.weight-weight.result;
    })
    c.requires.book (omega arith) heavy full
