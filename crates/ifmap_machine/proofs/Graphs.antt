-- What holds of the graph in every state, whatever holds of no attachments and is kept by publishes and retractions.
use Rattle.std.proofs.Common.{sym, subst, ℕ, List, [], ◌∷◌, Option, None, Some}
use Rattle.std.specs.List.{AllByRecursion}
use Rattle.ifmap_machine.specs.declared.events.Ask.{Ask}
use Rattle.ifmap_machine.specs.declared.events.Ask.TheVariants.{Request}
use Rattle.ifmap_machine.specs.Ending.{end_some, expire}
use Rattle.ifmap_machine.specs.Events.{Event, IsFitAsk}
use Rattle.ifmap_machine.specs.Legal.{AreFit, History, state_from}
use Rattle.ifmap_machine.specs.State.{State, advance}
use Rattle.ifmap_machine.specs.Step.{answer_subscribed, author_in, step, step_ask}
use Rattle.ifmap_machine.specs.Subscribing.{Told}
use Rattle.ifmap_machine.proofs.Cases.{former_keeps, step_keeps}
use Rattle.ifmap_meta.specs.ClientNames.{IsClientName}
use Rattle.ifmap_publish.specs.Apply.{Authorship, apply}
use Rattle.ifmap_publish.specs.declared.who.Who.{Who}
use Rattle.ifmap_publish.specs.declared.who.Who.TheVariants.{Sessions, Publisher}
use Rattle.ifmap_publish.specs.Retract.{retract}
use Rattle.ifmap_publish.specs.ifmap_requests.declared.publish_ops.PublishOp.{PublishOp}
use Rattle.ifmap_publish.specs.ifmap_requests.declared.requests.Request.TheVariants as the_request
use Rattle.ifmap_publish.specs.ifmap_requests.Fit.{IsFitOp}
use Rattle.ifmap_session.specs.Sessions.{Session, session_of_client}
use Rattle.ifmap_session.specs.laws.TextLaws.{text_is}
use Rattle.ifmap_publish.specs.ifmap_view.declared.attachments.Attachment.{Attachment}

module _ (Good : List Attachment → Type 0) (good_none : Good []) (good_retracted : (who : Who) (rows : List Attachment) → Good rows
    → Good (retract who rows)) (good_applied : (rows : List Attachment) (by : Authorship) (ops : List PublishOp) → IsClientName by.client
    → AllByRecursion IsFitOp ops → Good rows → Good (apply rows by ops)) where
  abbrev IsGood : State → Type 0
  IsGood state = Good state.graph

  ended_good : (serials : List ℕ) (state : State) → Good state.graph → Good (end_some serials state).graph
  ended_good [] state g = g
  ended_good (serial ∷ serials) state g = good_retracted (Sessions (serial ∷ serials)) state.graph g

  subscribed_good : (state : State) (s : Session) (o : Option Told) → Good state.graph → Good (answer_subscribed state s o).0.graph
  subscribed_good state s None g = g
  subscribed_good state s (Some t) g = g

  pub step_good : (state : State) (event : Event) (ask : Ask) → IsClientName event.client → IsFitAsk ask → Good state.graph
      → Good (step_ask state event ask).0.graph
  step_good state event ask name fit g =
      let ended : (s : Session) → IsGood (end_some (s.serial ∷ []) state) = λ s. ended_good (s.serial ∷ []) state g in
      step_keeps IsGood state event ask (record {
        renewed = λ serial one h. h;
        empty = λ s. g;
        ended = ended;
        begun = λ limit free. former_keeps IsGood state (session_of_client event.client state.sessions) ended g;
        published = λ id ops is s found own.
            let fit_ops : IsFitAsk (Request (the_request.Publish id ops)) = subst IsFitAsk is fit in
            good_applied state.graph (author_in state s) ops (subst IsClientName (sym (text_is s.client event.client own)) name)
            fit_ops.1 g;
        subscribed = λ ops s. subscribed_good state s _ g;
        taken = λ publisher s. good_retracted (Publisher publisher) state.graph g;
      }) g

  pub history_good : (state : State) (history : History) → AreFit history → Good state.graph → Good (state_from state history).graph
  history_good state [] fit g = g
  history_good state (e ∷ history) fit g =
      history_good (step state e.0).0 history fit.1
      (step_good (expire (advance e.0.moment state)) e.0 e.0.ask fit.0.client fit.0.ask
      (ended_good _ (advance e.0.moment state) g))
