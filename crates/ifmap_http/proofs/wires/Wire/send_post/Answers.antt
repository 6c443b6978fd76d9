use Rattle.std.proofs.Common.{◌≡◌, ℕ, List, ap, subst, ◌∙◌}
use Rattle.ifmap_heads.specs.Messages.{post_bytes}
use Rattle.ifmap_http.specs.Outcomes.{Sends}
use Rattle.ifmap_http.proofs.wires.Wire.send_post.Goals as goal

pub returns-in-Ok-clause-sends : goal.returns-in-Ok-clause-sends
returns-in-Ok-clause-sends g c =
    let host : c.as_bytes.result.now ≡ c.args.host.now = cc in
    let client : c.as_bytes-2.result.now ≡ c.args.client.now = cc in
    let body = c.args.body.now in
    let whole : c.deref.result.now ≡ post_bytes c.args.host.now c.args.client.now body =
    c.deref.ensures.value ∙ c.in-Ok.ensures ∙ ap (λ (xs : List ℕ). post_bytes xs c.as_bytes-2.result.now body) host
    ∙ ap (λ (xs : List ℕ). post_bytes c.args.host.now xs body) client in
    rw (← c.self.view_is)
    (subst (Sends (g.L.Sink.held c.self.inside.link) (g.L.Sink.held c.send.new.link) c.send.result) whole c.send.ensures.sends)
