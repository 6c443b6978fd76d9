-- A body means one thing at most: it spells one reading, which is an envelope of one element, and that has one request or one code.
use Rattle.std.proofs.Common.{◌≡◌, ℕ, List, Result, Ok, Err, ap, refl, subst, sym}
use Rattle.ifmap_elem.specs.declared.elements.Element.{Element}
use Rattle.ifmap_elem.specs.declared.readings.Reading.{Reading}
use Rattle.ifmap_envelopes.specs.Envelopes.{IsEnvelope, OneEnvelope}
use Rattle.ifmap_ident.specs.declared.codes.Code.{Code}
use Rattle.ifmap_requests.specs.declared.errors.Refusal.{Refusal}
use Rattle.ifmap_requests.specs.declared.errors.Refusal.TheVariants.{Named, Unreadable, NoMemory}
use Rattle.ifmap_requests.specs.declared.requests.Request.{Request}
use Rattle.ifmap_requests.specs.Laws.{OneRequest, OneReading}
use Rattle.ifmap_requests.specs.Means.{BodyFinds, Means, scopes_from}
use Rattle.ifmap_requests.specs.RequestForms.{request_check}

abbrev Found : Type 0
Found = Result Request Code

abbrev ok_result : Request → Found
ok_result request = Ok request

abbrev err_result : Code → Found
err_result code = Err code

module _ (readings : OneReading) (envelopes : OneEnvelope) (requests : OneRequest) where
  found_in : (reading : Reading) (path route : List ℕ) (e f : Element) (one other : Found) → IsEnvelope reading.root path e
      → IsEnvelope reading.root route f → request_check (scopes_from reading path) e one
      → request_check (scopes_from reading route) f other → one ≡ other
  found_in reading path route e f one other a b p q =
      let same = envelopes reading.root e f path route a b in
      let moved = subst (λ (x : Element). request_check (scopes_from reading route) x other) (sym same.1) q in
      requests (scopes_from reading path) e one other p
      (subst (λ (x : List ℕ). request_check (scopes_from reading x) e other) (sym same.0) moved)

  -- what a body finds is one
  found_one : (bytes : List ℕ) (one other : Found) → BodyFinds bytes one → BodyFinds bytes other → one ≡ other
  found_one bytes one other a b =
      let same = readings bytes a.reading b.reading a.envelope.spelled b.envelope.spelled in
      found_in a.reading a.path b.path a.inner b.inner one other a.envelope.envelope
      (subst (λ (r : Reading). IsEnvelope r.root b.path b.inner) (sym same) b.envelope.envelope) a.checked
      (subst (λ (r : Reading). request_check (scopes_from r b.path) b.inner other) (sym same) b.checked)

  pub meaning_one : (bytes : List ℕ) (one other : Result Request Refusal) → Means bytes one → Means bytes other → one ≡ other
  meaning_one bytes (Ok r) (Ok s) a b = let same : ok_result r ≡ ok_result s = found_one bytes (Ok r) (Ok s) a b in
      let e : r ≡ s = cc in ap Ok e
  meaning_one bytes (Ok r) (Err (Named c)) a b = let same : ok_result r ≡ err_result c = found_one bytes (Ok r) (Err c) a b in cc
  meaning_one bytes (Ok r) (Err Unreadable) a b = absurd (b a.reading a.path a.inner a.envelope)
  meaning_one bytes (Ok r) (Err NoMemory) a b = absurd b
  meaning_one bytes (Err (Named c)) (Ok s) a b = let same : err_result c ≡ ok_result s = found_one bytes (Err c) (Ok s) a b in cc
  meaning_one bytes (Err (Named c)) (Err (Named d)) a b =
      let same : err_result c ≡ err_result d = found_one bytes (Err c) (Err d) a b in
      let e : c ≡ d = cc in
      ap (λ (x : Code). Err (Named x)) e
  meaning_one bytes (Err (Named c)) (Err Unreadable) a b = absurd (b a.reading a.path a.inner a.envelope)
  meaning_one bytes (Err (Named c)) (Err NoMemory) a b = absurd b
  meaning_one bytes (Err Unreadable) (Ok s) a b = absurd (a b.reading b.path b.inner b.envelope)
  meaning_one bytes (Err Unreadable) (Err (Named d)) a b = absurd (a b.reading b.path b.inner b.envelope)
  meaning_one bytes (Err Unreadable) (Err Unreadable) a b = refl
  meaning_one bytes (Err Unreadable) (Err NoMemory) a b = absurd b
  meaning_one bytes (Err NoMemory) other a b = absurd a
