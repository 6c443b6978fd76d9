-- What can be seen of a history from some entry on: a client's folds, and the fresh results beside them.
use Rattle.std.specs.Prelude.{◌≡◌, ℕ, List, [], ◌∷◌, ◌++◌, Some}
use Rattle.ifmap_folds.specs.Folds.{Sets, fold_items}
use Rattle.ifmap_folds.specs.ifmap_fresh.Fresh.{fresh}
use Rattle.ifmap_lemmas.specs.Having.{Has}
use Rattle.ifmap_machine.specs.declared.events.Answer.{Answer}
use Rattle.ifmap_machine.specs.declared.events.Answer.TheVariants as the_answer
use Rattle.ifmap_machine.specs.declared.events.Ask.TheVariants.{Request}
use Rattle.ifmap_machine.specs.Agreeing.{IsToldOrHeld, all_polled, client_sets, is_poll_of}
use Rattle.ifmap_machine.specs.Events.{Event}
use Rattle.ifmap_machine.specs.Legal.{History, state_from}
use Rattle.ifmap_machine.specs.State.{Standing, State}
use Rattle.ifmap_replies.specs.declared.replies.Reply.TheVariants as the_reply
use Rattle.ifmap_publish.specs.ifmap_requests.declared.requests.Request.TheVariants as the_request
use Rattle.ifmap_publish.specs.ifmap_requests.declared.requests.SubscribeOp.{SubscribeOp}
use Rattle.ifmap_publish.specs.ifmap_requests.declared.requests.SubscribeOp.TheVariants.{Update}
use Rattle.ifmap_replies.specs.ifmap_search.declared.searches.Search.{Search}
use Rattle.ifmap_session.specs.Sessions.{Session, session_with_id}

-- a poll in the session of an id, which is answered with what there is to tell, or held
abbrev pub IsToldPoll : List ℕ → Event × Answer → Type 0
IsToldPoll id e = is_poll_of id e.0.ask × IsToldOrHeld e.1

-- an accepted subscribe in the session of an id, which updates the subscription of this name
pub record Updates (id name : List ℕ) (e : Event × Answer) : Type 0 where
  pub ops : List SubscribeOp
  pub search : Search
  pub ask : e.0.ask ≡ Request (the_request.Subscribe id ops)
  pub named : Has ops (Update name search)
  pub answer : e.1 ≡ the_answer.Reply the_reply.Subscribed

-- the session of an id keeps the subscription
pub record KeepsSubscription (state : State) (id : List ℕ) (x : Standing) : Type 0 where
  pub session : Session
  pub found : session_with_id id state.sessions ≡ Some session
  pub stands : Has state.standing x
  pub own : x.serial ≡ session.serial

-- entries from a state on: some, one, and those since it. Of what polls in the session of an id were told in them its client folds, for a
-- subscription, the fresh result after them
pub record FoldsSince (start : State) (first since : History) (e : Event × Answer) (id : List ℕ) (x : Standing) : Type 0 where
  -- of all of them, where the one is an accepted update of the subscription
  pub updated : Updates id x.name e
      → client_sets id (first ++ e ∷ since) x.name ≡ Some (fresh (state_from start (first ++ e ∷ since)).graph x.search)
  -- of those since the one, onto the fresh result at it, where it is a poll in the session that was told
  pub polled : IsToldPoll id e → (sets : Sets)
      → sets x.name ≡ Some (fresh (state_from start (first ++ e ∷ [])).graph x.search)
      → fold_items (all_polled id since) sets x.name ≡ Some (fresh (state_from start (first ++ e ∷ since)).graph x.search)

-- so it is of the entries up to each poll that was told, from each entry before it on, for each subscription that its session keeps
-- after it
abbrev pub AgreesFrom : State → History → Type 0
AgreesFrom start entries =
    (first later rest : History) (e poll : Event × Answer) (id : List ℕ) (x : Standing) → entries ≡ first ++ e ∷ (later ++ poll ∷ rest)
    → IsToldPoll id poll → KeepsSubscription (state_from start (first ++ e ∷ (later ++ poll ∷ []))) id x
    → FoldsSince start first (later ++ poll ∷ []) e id x
