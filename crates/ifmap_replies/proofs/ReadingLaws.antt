-- From a response that is read to the answers to an element and to a body.
use Rattle.std.proofs.Common.{◌≡◌, ℕ, ◌<◌, ◌≤◌, List, Result, Ok, Err, arith, subst, sym}
use Rattle.std.specs.Result.{IsErrAnd}
use Rattle.ifmap_elem.specs.Nesting.{nesting}
use Rattle.ifmap_elem.specs.Spells.{Spells}
use Rattle.ifmap_elem.specs.declared.elements.Element.{Element}
use Rattle.ifmap_elem.specs.declared.readings.Reading.{Reading}
use Rattle.ifmap_ident.specs.ifmap_reader.Reads.{IsTooDeep, IsUnreadable}
use Rattle.ifmap_envelopes.specs.Envelopes.{IsEnvelope}
use Rattle.ifmap_forms.specs.declared.errors.FormError.{FormError}
use Rattle.ifmap_forms.specs.declared.errors.FormError.TheVariants as form
use Rattle.ifmap_forms.specs.Answers.{IsCheckRefusal}
use Rattle.ifmap_replies.specs.declared.errors.ReplyError.{ReplyError}
use Rattle.ifmap_replies.specs.declared.errors.ReplyError.TheVariants.{NotAReply, NoMemory}
use Rattle.ifmap_replies.specs.declared.replies.Reply.{Reply}
use Rattle.ifmap_replies.specs.Answers.{IsMeantReply, as_reply_error}
use Rattle.ifmap_replies.specs.Laws.{NoReplyWithDefect}
use Rattle.ifmap_replies.specs.Means.{IsReplyOf, MeansReply}
use Rattle.ifmap_replies.specs.ResultForms.{response_check}

-- ---- elements

module _ (e : Element) (path : List ℕ) (response : Element) (envelope : IsEnvelope e path response) where
  pub reply_read : (answer : Reply) → response_check response (Ok answer) → IsReplyOf e answer
  reply_read answer f = record { path = path; response = response; envelope = envelope; checked = f }

  pub reply_refused : NoReplyWithDefect → (error : FormError) → IsCheckRefusal (response_check response) error
      → IsMeantReply (IsReplyOf e) (Err (as_reply_error error))
  reply_refused none (form.Named code) f = none e path response code envelope f
  reply_refused none form.NoMemory f = tt

pub refused_answer : (Meant : Reply → Type 0) (r : Result Reply ReplyError) (error : FormError) → IsErrAnd r (λ e. e ≡ as_reply_error error)
    → IsMeantReply Meant (Err (as_reply_error error)) → IsMeantReply Meant r
refused_answer Meant (Ok answer) error is f = absurd is
refused_answer Meant (Err e) error is f = subst (λ (x : ReplyError). IsMeantReply Meant (Err x)) (sym is) f

-- ---- bodies

module _ (bytes : List ℕ) where
  pub spells_nothing : (at : ℕ) → IsUnreadable bytes 80 at → (answer : Reply) → MeansReply bytes answer → ⊥
  spells_nothing at u answer m = u.none m.reading m.spelled

  pub spells_too_deep : (at : ℕ) → IsTooDeep bytes 80 at → (answer : Reply) → MeansReply bytes answer → ⊥
  spells_too_deep at u answer m =
      let deep : 80 < nesting m.reading.root = u.deeper m.reading m.spelled in
      let shallow : nesting m.reading.root ≤ 80 = m.shallow in
      omega (arith, deep, shallow)

  module _ (reading : Reading) (spelled : Spells bytes reading) (shallow : nesting reading.root ≤ 80)
      (one : (other : Reading) → Spells bytes other → reading ≡ other) where
    pub body_answer : (r : Result Reply ReplyError) → IsMeantReply (IsReplyOf reading.root) r → IsMeantReply (MeansReply bytes) r
    body_answer (Ok answer) f = record { reading = reading; spelled = spelled; shallow = shallow; reply = f }
    body_answer (Err NotAReply) f = λ answer m.
        f answer (subst (λ (r : Reading). IsReplyOf r.root answer) (sym (one m.reading m.spelled)) m.reply)
    body_answer (Err NoMemory) f = tt
