use Rattle.ifmap_server.proofs.Cuts.{no_first, no_second, no_third}
use Rattle.ifmap_server.proofs.headers.words_in.Goals as goal

pub returns-in_err-moment : goal.returns-in_err-moment
returns-in_err-moment c = rw c.from_residual-in_err-moment.ensures
    (no_first c.args.text.now c.in_ok-words.words.now c.in_ok-words.ensures c.in_err-moment.ensures)

pub returns-in_err-client : goal.returns-in_err-client
returns-in_err-client c =
    rw c.from_residual-in_err-client.ensures (no_second c.args.text.now c.in_ok-words.words.now c.in_ok-moment.moment.now
    c.in_ok-moment.rest.now c.in_ok-words.ensures c.in_ok-moment.ensures c.in_err-client.ensures)

pub returns-in_err-random : goal.returns-in_err-random
returns-in_err-random c =
    rw c.from_residual-in_err-random.ensures (no_third c.args.text.now c.in_ok-words.words.now c.in_ok-moment.moment.now
    c.in_ok-moment.rest.now c.in_ok-client.client.now c.in_ok-client.rest.now
    c.in_ok-words.ensures c.in_ok-moment.ensures c.in_ok-client.ensures c.in_err-random.ensures)
