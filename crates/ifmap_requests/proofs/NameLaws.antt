-- Which form an element has, by its name.
-- 1. The operations of a publish.
-- 2. The operations of a subscribe.
-- 3. Requests.
use Rattle.std.proofs.Common.{◌≡◌, ◌∙◌, Bool, true, false, cond, List, ℕ, Option, None, Some, Result, Err, codes, inl, inr, refl, sym}
use Rattle.std.proofs.Common.{subst}
use Rattle.std.specs.Prelude.{◌&&◌}
use Rattle.std.specs.Str.{bytes_eq}
use Rattle.std.proofs.lemmas.Bool.{cases_Bool}
use Rattle.ifmap_elem.specs.Building.{is_bare, is_name}
use Rattle.ifmap_elem.specs.declared.elements.Element.{Element}
use Rattle.ifmap_ident.specs.declared.codes.Code.TheVariants.{Failure, InvalidSchemaVersion}
use Rattle.ifmap_lemmas.specs.Texts.{eq_tells}
use Rattle.ifmap_forms.specs.declared.errors.FormError.{FormError}
use Rattle.ifmap_forms.specs.declared.errors.FormError.TheVariants.{Named}
use Rattle.ifmap_forms.specs.Answers.{IsChecked}
use Rattle.ifmap_forms.specs.AnswerLaws.{refused_test}
use Rattle.ifmap_forms.specs.Checks.{Check, fail, need}
use Rattle.ifmap_forms.specs.Scopes.{Scopes}
use Rattle.ifmap_forms.specs.Tables.{form_check, form_or}
use Rattle.ifmap_requests.specs.declared.asking.RequestName.{RequestName}
use Rattle.ifmap_requests.specs.declared.asking.RequestName.TheVariants as asking
use Rattle.ifmap_requests.specs.declared.operations.Operation.{Operation}
use Rattle.ifmap_requests.specs.declared.operations.Operation.TheVariants as operation
use Rattle.ifmap_requests.specs.declared.publish_ops.PublishOp.{PublishOp}
use Rattle.ifmap_requests.specs.declared.requests.Request.{Request}
use Rattle.ifmap_requests.specs.declared.requests.SubscribeOp.{SubscribeOp}
use Rattle.ifmap_envelopes.specs.Spaces.{ifmap_space}
use Rattle.ifmap_requests.specs.RequestForms.{asking_name, delete_form, delete_from_form, end_form, end_from_form, end_session_form}
use Rattle.ifmap_requests.specs.RequestForms.{from_end_session, from_poll, from_purge, from_renewal, from_search, from_subscribe}
use Rattle.ifmap_requests.specs.RequestForms.{end_session_of, named_request_check, new_session_form, new_session_of, notify_form, notify_of}
use Rattle.ifmap_requests.specs.RequestForms.{operation_of, other_request_check, poll_form, poll_of, publish_form, publish_of}
use Rattle.ifmap_requests.specs.RequestForms.{publish_op_check, purge_form, purge_of, renew_form, renewal_of, request_check, search_form}
use Rattle.ifmap_requests.specs.RequestForms.{search_of, subscribe_form, subscribe_of, subscribe_op_check, subscription_form}
use Rattle.ifmap_requests.specs.RequestForms.{subscription_from_form, update_form, update_from_form}
use Rattle.ifmap_requests.proofs.FormLaws.{by_form, past_form}

-- ---- 1. operations

abbrev op : Operation → Option Operation
op o = Some o

abbrev choose_operation : Bool → Bool → Bool → Option Operation
choose_operation a b c = cond a (op operation.Update) (cond b (op operation.Notify) (cond c (op operation.Delete) None))

is_update : (a b c : Bool) → choose_operation a b c ≡ op operation.Update → a ≡ true
is_update true b c h = refl
is_update false true c h = cc
is_update false false true h = cc
is_update false false false h = cc

is_notify : (a b c : Bool) → choose_operation a b c ≡ op operation.Notify → (a ≡ false) × (b ≡ true)
is_notify true b c h = cc
is_notify false true c h = (refl, refl)
is_notify false false true h = cc
is_notify false false false h = cc

is_delete : (a b c : Bool) → choose_operation a b c ≡ op operation.Delete → (a ≡ false) × (b ≡ false) × (c ≡ true)
is_delete true b c h = cc
is_delete false true c h = cc
is_delete false false true h = (refl, refl, refl)
is_delete false false false h = cc

is_none : (a b c : Bool) → choose_operation a b c ≡ None → (a ≡ false) × (b ≡ false) × (c ≡ false)
is_none true b c h = cc
is_none false true c h = cc
is_none false false true h = cc
is_none false false false h = (refl, refl, refl)

module _ (scopes : Scopes) (e : Element) where
  abbrev from_delete : Check PublishOp
  from_delete = form_or delete_form delete_from_form scopes e (fail Failure)

  abbrev from_notify : Check PublishOp
  from_notify = form_or notify_form notify_of scopes e from_delete

  abbrev named_update : Bool
  named_update = is_bare (codes "update") e.name

  abbrev named_notify : Bool
  named_notify = is_bare (codes "notify") e.name

  abbrev named_delete : Bool
  named_delete = is_bare (codes "delete") e.name

  pub at_update : operation_of e.name ≡ op operation.Update → (r : Result PublishOp FormError)
      → IsChecked (form_check update_form update_from_form scopes e) r → IsChecked (publish_op_check scopes e) r
  at_update h r f = by_form update_form update_from_form scopes e from_notify (is_update named_update named_notify named_delete h) r f

  pub at_notify : operation_of e.name ≡ op operation.Notify → (r : Result PublishOp FormError)
      → IsChecked (form_check notify_form notify_of scopes e) r → IsChecked (publish_op_check scopes e) r
  at_notify h r f =
      let n = is_notify named_update named_notify named_delete h in
      past_form update_form update_from_form scopes e from_notify n.0 r (by_form notify_form notify_of scopes e from_delete n.1 r f)

  pub at_delete : operation_of e.name ≡ op operation.Delete → (r : Result PublishOp FormError)
      → IsChecked (form_check delete_form delete_from_form scopes e) r → IsChecked (publish_op_check scopes e) r
  at_delete h r f =
      let n = is_delete named_update named_notify named_delete h in
      past_form update_form update_from_form scopes e from_notify n.0 r
      (past_form notify_form notify_of scopes e from_delete n.1 r (by_form delete_form delete_from_form scopes e (fail Failure) n.2 r f))

  pub at_no_operation : operation_of e.name ≡ None → publish_op_check scopes e (Err Failure)
  at_no_operation h =
      let n = is_none named_update named_notify named_delete h in
      let r : Result PublishOp FormError = Err (Named Failure) in
      past_form update_form update_from_form scopes e from_notify n.0 r
      (past_form notify_form notify_of scopes e from_delete n.1 r
      (past_form delete_form delete_from_form scopes e (fail Failure) n.2 r refl))

-- ---- 2. operations of a subscribe

module _ (scopes : Scopes) (e : Element) where
  abbrev from_subscription_end : Check SubscribeOp
  from_subscription_end = form_or end_form end_from_form scopes e (fail Failure)

  pub at_subscription : is_bare (codes "update") e.name ≡ true → (r : Result SubscribeOp FormError)
      → IsChecked (form_check subscription_form subscription_from_form scopes e) r → IsChecked (subscribe_op_check scopes e) r
  at_subscription is r f = by_form subscription_form subscription_from_form scopes e from_subscription_end is r f

  pub at_end : is_bare (codes "update") e.name ≡ false → is_bare (codes "delete") e.name ≡ true → (r : Result SubscribeOp FormError)
      → IsChecked (form_check end_form end_from_form scopes e) r → IsChecked (subscribe_op_check scopes e) r
  at_end past is r f =
      past_form subscription_form subscription_from_form scopes e from_subscription_end past r
      (by_form end_form end_from_form scopes e (fail Failure) is r f)

-- ---- 3. requests

module _ (scopes : Scopes) (e : Element) (space : bytes_eq e.name.space ifmap_space ≡ true) where
  -- the name of the element beside that of a form, where its local name is this
  module _ (local : List ℕ) (same : e.name.local ≡ local) where
    tested : (other : List ℕ) → is_name e.name (record { space = ifmap_space; local = other }) ≡ bytes_eq local other
    tested other i = space i && bytes_eq (same i) other

  module _ (a : RequestName) (same : e.name.local ≡ asking_name a) where
    abbrev beside : RequestName → Bool
    beside b = bytes_eq (asking_name a) (asking_name b)

    past_new_session : beside asking.NewSession ≡ false → (r : Result Request FormError) → IsChecked (from_renewal scopes e) r
        → IsChecked (other_request_check scopes e) r
    past_new_session apart = past_form new_session_form new_session_of scopes e (from_renewal scopes e)
        (tested (asking_name a) same (asking_name asking.NewSession) ∙ apart)

    past_renewal : beside asking.RenewSession ≡ false → (r : Result Request FormError) → IsChecked (from_end_session scopes e) r
        → IsChecked (from_renewal scopes e) r
    past_renewal apart = past_form renew_form renewal_of scopes e (from_end_session scopes e)
        (tested (asking_name a) same (asking_name asking.RenewSession) ∙ apart)

    past_end : beside asking.EndSession ≡ false → (r : Result Request FormError) → IsChecked (from_poll scopes e) r
        → IsChecked (from_end_session scopes e) r
    past_end apart = past_form end_session_form end_session_of scopes e (from_poll scopes e)
        (tested (asking_name a) same (asking_name asking.EndSession) ∙ apart)

    past_poll : beside asking.Poll ≡ false → (r : Result Request FormError) → IsChecked (from_search scopes e) r
        → IsChecked (from_poll scopes e) r
    past_poll apart = past_form poll_form poll_of scopes e (from_search scopes e)
        (tested (asking_name a) same (asking_name asking.Poll) ∙ apart)

    past_search : beside asking.Search ≡ false → (r : Result Request FormError) → IsChecked (from_subscribe scopes e) r
        → IsChecked (from_search scopes e) r
    past_search apart = past_form search_form search_of scopes e (from_subscribe scopes e)
        (tested (asking_name a) same (asking_name asking.Search) ∙ apart)

    past_subscribe : beside asking.Subscribe ≡ false → (r : Result Request FormError) → IsChecked (from_purge scopes e) r
        → IsChecked (from_subscribe scopes e) r
    past_subscribe apart =
        past_form subscribe_form subscribe_of scopes e (from_purge scopes e)
        (tested (asking_name a) same (asking_name asking.Subscribe) ∙ apart)

  pub at_new_session : e.name.local ≡ asking_name asking.NewSession → (r : Result Request FormError)
      → IsChecked (form_check new_session_form new_session_of scopes e) r → IsChecked (other_request_check scopes e) r
  at_new_session same r f =
      by_form new_session_form new_session_of scopes e (from_renewal scopes e)
      (tested (asking_name asking.NewSession) same (asking_name asking.NewSession)) r f

  pub at_renewal : e.name.local ≡ asking_name asking.RenewSession → (r : Result Request FormError)
      → IsChecked (form_check renew_form renewal_of scopes e) r → IsChecked (other_request_check scopes e) r
  at_renewal same r f =
      past_new_session asking.RenewSession same refl r
      (by_form renew_form renewal_of scopes e (from_end_session scopes e)
      (tested (asking_name asking.RenewSession) same (asking_name asking.RenewSession)) r f)

  pub at_end_session : e.name.local ≡ asking_name asking.EndSession → (r : Result Request FormError)
      → IsChecked (form_check end_session_form end_session_of scopes e) r → IsChecked (other_request_check scopes e) r
  at_end_session same r f =
      past_new_session asking.EndSession same refl r (past_renewal asking.EndSession same refl r
      (by_form end_session_form end_session_of scopes e (from_poll scopes e)
      (tested (asking_name asking.EndSession) same (asking_name asking.EndSession)) r f))

  pub at_poll : e.name.local ≡ asking_name asking.Poll → (r : Result Request FormError)
      → IsChecked (form_check poll_form poll_of scopes e) r → IsChecked (other_request_check scopes e) r
  at_poll same r f =
      past_new_session asking.Poll same refl r (past_renewal asking.Poll same refl r (past_end asking.Poll same refl r
      (by_form poll_form poll_of scopes e (from_search scopes e) (tested (asking_name asking.Poll) same (asking_name asking.Poll)) r f)))

  pub at_search : e.name.local ≡ asking_name asking.Search → (r : Result Request FormError)
      → IsChecked (form_check search_form search_of scopes e) r → IsChecked (other_request_check scopes e) r
  at_search same r f =
      past_new_session asking.Search same refl r (past_renewal asking.Search same refl r (past_end asking.Search same refl r
      (past_poll asking.Search same refl r
      (by_form search_form search_of scopes e (from_subscribe scopes e)
      (tested (asking_name asking.Search) same (asking_name asking.Search)) r f))))

  pub at_subscribe : e.name.local ≡ asking_name asking.Subscribe → (r : Result Request FormError)
      → IsChecked (form_check subscribe_form subscribe_of scopes e) r → IsChecked (other_request_check scopes e) r
  at_subscribe same r f =
      past_new_session asking.Subscribe same refl r (past_renewal asking.Subscribe same refl r (past_end asking.Subscribe same refl r
      (past_poll asking.Subscribe same refl r (past_search asking.Subscribe same refl r
      (by_form subscribe_form subscribe_of scopes e (from_purge scopes e)
      (tested (asking_name asking.Subscribe) same (asking_name asking.Subscribe)) r f)))))

  pub at_purge : e.name.local ≡ asking_name asking.PurgePublisher → (r : Result Request FormError)
      → IsChecked (form_check purge_form purge_of scopes e) r → IsChecked (other_request_check scopes e) r
  at_purge same r f =
      past_new_session asking.PurgePublisher same refl r (past_renewal asking.PurgePublisher same refl r
      (past_end asking.PurgePublisher same refl r (past_poll asking.PurgePublisher same refl r
      (past_search asking.PurgePublisher same refl r (past_subscribe asking.PurgePublisher same refl r
      (by_form purge_form purge_of scopes e (fail Failure)
      (tested (asking_name asking.PurgePublisher) same (asking_name asking.PurgePublisher)) r f))))))

  -- a name that is no name of a request
  module _ (none : (a : RequestName) → e.name.local ≡ asking_name a → ⊥) where
    unnamed : (a : RequestName) → is_name e.name (record { space = ifmap_space; local = asking_name a }) ≡ false
    unnamed a = elim (cases_Bool (bytes_eq e.name.local (asking_name a))) [
      | inl hit ↦ absurd (none a (eq_tells e.name.local (asking_name a) hit))
      | inr miss ↦ λ i. space i && miss i
    ]

    pub at_no_request : other_request_check scopes e (Err Failure)
    at_no_request =
        let r : Result Request FormError = Err (Named Failure) in
        past_form new_session_form new_session_of scopes e (from_renewal scopes e) (unnamed asking.NewSession) r
        (past_form renew_form renewal_of scopes e (from_end_session scopes e) (unnamed asking.RenewSession) r
        (past_form end_session_form end_session_of scopes e (from_poll scopes e) (unnamed asking.EndSession) r
        (past_form poll_form poll_of scopes e (from_search scopes e) (unnamed asking.Poll) r
        (past_form search_form search_of scopes e (from_subscribe scopes e) (unnamed asking.Search) r
        (past_form subscribe_form subscribe_of scopes e (from_purge scopes e) (unnamed asking.Subscribe) r
        (past_form purge_form purge_of scopes e (fail Failure) (unnamed asking.PurgePublisher) r refl))))))

-- in the namespace of requests, the name decides
pub in_space : (scopes : Scopes) (e : Element) → bytes_eq e.name.space ifmap_space ≡ true → (r : Result Request FormError)
    → IsChecked (named_request_check scopes e) r → IsChecked (request_check scopes e) r
in_space scopes e is r f =
    subst (λ (b : Bool). IsChecked (need b InvalidSchemaVersion (named_request_check scopes e)) r) (sym is) f

pub in_other_space : (scopes : Scopes) (e : Element) → bytes_eq e.name.space ifmap_space ≡ false
    → request_check scopes e (Err InvalidSchemaVersion)
in_other_space scopes e is =
    refused_test (named_request_check scopes e) (bytes_eq e.name.space ifmap_space) InvalidSchemaVersion is

pub at_publish : (scopes : Scopes) (e : Element) → is_name e.name publish_form.name ≡ true → (r : Result Request FormError)
    → IsChecked (form_check publish_form publish_of scopes e) r → IsChecked (named_request_check scopes e) r
at_publish scopes e is r f = by_form publish_form publish_of scopes e (other_request_check scopes e) is r f

pub past_publish : (scopes : Scopes) (e : Element) → is_name e.name publish_form.name ≡ false → (r : Result Request FormError)
    → IsChecked (other_request_check scopes e) r → IsChecked (named_request_check scopes e) r
past_publish scopes e is r f = past_form publish_form publish_of scopes e (other_request_check scopes e) is r f
