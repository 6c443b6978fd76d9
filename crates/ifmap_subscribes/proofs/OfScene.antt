-- The session of a scene: it is found among those that are told, and what is so of a name before its operations is so of it.
use Rattle.std.proofs.Common.{◌≡◌, refl, sym, ◌∙◌, ap, subst, ℕ, suc, ◌+◌, ◌<◌, add-one, List, ◌∷◌, drop, drop-cons, get_or, length, Option, None, Some, Result, Ok, Err}
use Rattle.std.specs.Prelude.{option_and_then}
use Rattle.std.specs.Prelude.{IsErrAnd, IsSome}
use Rattle.std.proofs.lemmas.Bool.{false≢true}
use Rattle.ifmap_changes.specs.Between.{sessions_left, state_now}
use Rattle.ifmap_changes.specs.declared.parts.Parts.{Parts}
use Rattle.ifmap_changes.specs.ifmap_graph.Seen.{rows_now}
use Rattle.ifmap_changes.specs.ifmap_machine.Subscribing.{Told, subscribe_op, subscribe_ops}
use Rattle.ifmap_changes.specs.ifmap_requests.declared.requests.SubscribeOp.{SubscribeOp}
use Rattle.ifmap_search.specs.declared.results.PollItem.{PollItem}
use Rattle.ifmap_search.specs.Sizes.{queue_size}
use Rattle.ifmap_changes.specs.ifmap_session.Sessions.{IsLive, Session, session_with_serial}
use Rattle.ifmap_subscribes.proofs.Ready.{told_same}
use Rattle.ifmap_subscribes.specs.Readying.{CanReady, IsNameBefore, MakesReady, OnlyHolds, queue_where, told_after, told_in_scene, told_then}
use Rattle.ifmap_subscribes.specs.declared.readying.Readying.{Readying}
use Rattle.ifmap_subscribes.specs.Renamings.{IsNameNow, told_so_far}
use Rattle.ifmap_subscribes.specs.declared.names.NameNow.{NameNow}
use Rattle.ifmap_subscribes.specs.declared.readying.Occasion.{Occasion}
use Rattle.ifmap_subscribes.specs.declared.readying.SubscribeError.{SubscribeError}
use Rattle.ifmap_subscribes.specs.declared.readying.SubscribeError.TheVariants.{TooMany}
use Rattle.ifmap_changes.specs.ifmap_tellings.Tellings.{tell_by}
use Rattle.ifmap_changes.specs.ifmap_view.declared.attachments.Attachment.{Attachment}
use Rattle.ifmap_changes.specs.ifmap_tellings.ToldLaws.{found_told}

pub live_session : (n : ℕ) (ss : List Session) → IsLive n ss → (s : Session) × (session_with_serial n ss ≡ Some s)
live_session n ss live = from (session_with_serial n ss) live
  where
    from : (o : Option Session) → IsSome o → (s : Session) × (o ≡ Some s)
    from None h = absurd (false≢true h)
    from (Some s) h = (s, refl)

-- what is told to the session of a scene, and what stands
pub told_session : (scene : Occasion) (parts : Parts) (s : Session)
    → session_with_serial scene.serial (sessions_left scene.asking.now parts.sessions) ≡ Some s
    → (session_with_serial scene.serial (state_now scene.asking.now parts scene.pending.now).sessions
    ≡ Some (tell_by scene.pending.now.tellings s))
    × (told_in_scene scene parts ≡ told_so_far scene.asking.now parts scene.pending.now (tell_by scene.pending.now.tellings s))
told_session scene parts s e =
    let found = found_told scene.pending.now.tellings scene.serial (sessions_left scene.asking.now parts.sessions) s e in
    (found, ap (λ o. told_with (queue_where o)) found)
  where
    told_with : List PollItem → Told
    told_with q = record { queue = q; standing = (state_now scene.asking.now parts scene.pending.now).standing }

-- what is so of a name that was not renamed is what was so before
pub now_before : (serial : ℕ) (name : List ℕ) (t u : Told) (v : NameNow) → IsNameNow serial name t v → IsNameBefore serial name t u
    → IsNameNow serial name u v
now_before serial name t u v h b = record { stands = h.stands ∙ sym b.stands; size = h.size ∙ ap queue_size (sym b.queue) }

pub name_told : (scene : Occasion) (parts : Parts) (name : List ℕ) (v : NameNow)
    → IsLive scene.serial (sessions_left scene.asking.now parts.sessions)
    → ((s : Session) → session_with_serial scene.serial (state_now scene.asking.now parts scene.pending.now).sessions ≡ Some s
    → IsNameNow scene.serial name (told_so_far scene.asking.now parts scene.pending.now s) v)
    → IsNameNow scene.serial name (told_in_scene scene parts) v
name_told scene parts name v live h =
    let one = live_session scene.serial (sessions_left scene.asking.now parts.sessions) live in
    let told = told_session scene parts one.0 one.1 in
    subst (λ t. IsNameNow scene.serial name t v) (sym told.1) (h (tell_by scene.pending.now.tellings one.0) told.0)

-- after an error what was made ready is still, and no room for one operation is none for all
pub makes_no_more : {X : Type 0} {becomes : Told → Option Told} {scene : Occasion} {old new : Parts} {before after : Readying}
    (r : Result X SubscribeError) (error : SubscribeError) → IsErrAnd r (λ e. e ≡ error)
    → (◌≡◌ {A = Result X SubscribeError} (Err error) (Err TooMany) → becomes (told_then scene old before) ≡ None)
    → CanReady scene new after → OnlyHolds old new → MakesReady r becomes scene old new before after
makes_no_more (Ok x) error is full can holds = absurd is
makes_no_more (Err e) error is full can holds = record {
  made = tt;
  full = λ same. full (ap Err (sym is) ∙ same);
  can = can;
  holds = holds;
}

-- the operations that are left, after one
pub one_op : (ops : List SubscribeOp) (i : ℕ) (op : SubscribeOp) (rows : List Attachment) (n : ℕ) (t : Told)
    → i < length ops → op ≡ get_or ops i op
    → subscribe_ops rows n (drop i ops) t ≡ option_and_then (subscribe_ops rows n (drop (i + 1) ops)) (subscribe_op rows n op t)
one_op ops i op rows n t low at =
    ap (λ rest. subscribe_ops rows n rest t) (drop-cons ops i op low ∙ ap (λ o. o ∷ drop (suc i) ops) (sym at)
    ∙ ap (λ k. op ∷ drop k ops) (sym (add-one i)))

module _ (scene : Occasion) (old new : Parts) (h : OnlyHolds old new) (ops : List SubscribeOp) (i : ℕ)
    (op : SubscribeOp) (low : i < length ops)
    (at : op ≡ get_or ops i op) (r : Readying) where
  then_same : (k : Readying) → told_then scene new k ≡ told_then scene old k
  then_same k = ap (told_after scene.serial k) (told_same scene old new h.sessions h.standing)

  one_made : (result : Option Told) → subscribe_op (rows_now new.graph) scene.serial op (told_then scene new r) ≡ result
      → subscribe_ops (rows_now old.graph) scene.serial (drop i ops) (told_then scene old r)
      ≡ option_and_then (subscribe_ops (rows_now old.graph) scene.serial (drop (i + 1) ops)) result
  one_made result e =
      one_op ops i op (rows_now old.graph) scene.serial (told_then scene old r) low at
      ∙ ap (option_and_then (subscribe_ops (rows_now old.graph) scene.serial (drop (i + 1) ops)))
      (ap (λ rows. subscribe_op rows scene.serial op (told_then scene old r)) (sym h.rows)
      ∙ ap (subscribe_op (rows_now new.graph) scene.serial op) (sym (then_same r)) ∙ e)

  pub rest_made : (all : Option Told) (k : Readying)
      → subscribe_op (rows_now new.graph) scene.serial op (told_then scene new r) ≡ Some (told_then scene new k)
      → subscribe_ops (rows_now old.graph) scene.serial (drop i ops) (told_then scene old r) ≡ all
      → subscribe_ops (rows_now old.graph) scene.serial (drop (i + 1) ops) (told_then scene old k) ≡ all
  rest_made all k e before =
      ap (subscribe_ops (rows_now old.graph) scene.serial (drop (i + 1) ops)) (sym (then_same k))
      ∙ sym (one_made (Some (told_then scene new k)) e) ∙ before

  -- or there is no room for it, and then none for all
  pub rest_full : (all : Option Told) → subscribe_op (rows_now new.graph) scene.serial op (told_then scene new r) ≡ None
      → subscribe_ops (rows_now old.graph) scene.serial (drop i ops) (told_then scene old r) ≡ all → all ≡ None
  rest_full all e before = sym before ∙ one_made None e
