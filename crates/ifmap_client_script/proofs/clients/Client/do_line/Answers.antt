use Rattle.std.proofs.Common.{Ok}
use Rattle.ifmap_client.specs.declared.lines.Line.TheVariants as the_line
use Rattle.ifmap_client_script.specs.Holding.{known_of}
use Rattle.ifmap_client_script.proofs.Carrying.{at_line, line_passed, set_printed}
use Rattle.ifmap_client_script.proofs.clients.Client.do_line.Goals as goal

pub returns-in-Blank-clause-carries : goal.returns-in-Blank-clause-carries
returns-in-Blank-clause-carries g c =
    let before = g.O.Outlets.seen c.args.outlets.now in
    let known = known_of c.args.self.now in
    at_line c.args.caller.now c.args.line the_line.Blank before before known known (Ok tt) c.in-Blank.is
    (line_passed c.args.caller.now known before c.requires.unspent)

pub returns-in-Request-clause-carries : goal.returns-in-Request-clause-carries
returns-in-Request-clause-carries g c =
    at_line c.args.caller.now c.args.line (the_line.Request c.in-Request.request) (g.O.Outlets.seen c.args.outlets.now)
    (g.O.Outlets.seen c.do_request.new.outlets) (known_of c.args.self.now) (known_of c.do_request.new.self) c.do_request.result
    c.in-Request.is c.do_request.ensures.carries

pub returns-in-Set-clause-carries : goal.returns-in-Set-clause-carries
returns-in-Set-clause-carries g c =
    let before = g.O.Outlets.seen c.args.outlets.now in
    let after = g.O.Outlets.seen c.print_set.new.outlets in
    let known = known_of c.args.self.now in
    at_line c.args.caller.now c.args.line (the_line.Set c.in-Set.name) before after known known c.print_set.result c.in-Set.is
    (set_printed c.args.caller.now known before c.requires.unspent after c.in-Set.name c.print_set.result c.print_set.ensures.prints)
