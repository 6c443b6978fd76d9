-- From an element that is read to the answer to a body.
use Rattle.std.proofs.Common.{◌≡◌, ℕ, ◌+◌, ◌<◌, ◌≤◌, List, Some, Result, Ok, Err, length, get_or, drop, refl, arith, subst, sym}
use Rattle.std.specs.List.{slice_get}
use Rattle.std.specs.Result.{IsErrAnd}
use Rattle.std.proofs.lemmas.List.{drop_all, drop_more}
use Rattle.ifmap_elem.specs.InScope.{NamesElementAt}
use Rattle.ifmap_elem.specs.Nesting.{nesting}
use Rattle.ifmap_elem.specs.Spells.{Spells}
use Rattle.ifmap_elem.specs.declared.elements.Child as the
use Rattle.ifmap_elem.specs.declared.elements.Element.{Element}
use Rattle.ifmap_elem.specs.declared.readings.Reading.{Reading}
use Rattle.ifmap_ident.specs.ifmap_reader.Reads.{IsTooDeep, IsUnreadable}
use Rattle.ifmap_forms.specs.declared.errors.FormError.{FormError}
use Rattle.ifmap_forms.specs.declared.errors.FormError.TheVariants as form
use Rattle.ifmap_forms.specs.Answers.{IsChecked, IsCheckRefusal}
use Rattle.ifmap_requests.specs.declared.errors.Refusal.{Refusal}
use Rattle.ifmap_requests.specs.declared.errors.Refusal.TheVariants as refusal
use Rattle.ifmap_requests.specs.declared.requests.Request.{Request}
use Rattle.ifmap_requests.specs.Answers.{as_refusal}
use Rattle.ifmap_envelopes.specs.Envelopes.{IsEnvelope, SpellsNone}
use Rattle.ifmap_requests.specs.Means.{IsBodyAnswer, IsFormAnswer, IsReadingAnswer, ReadingFinds, request_levels, scopes_from}
use Rattle.ifmap_requests.specs.RequestForms.{request_check}

-- ---- paths

module _ (path : List ℕ) (i : ℕ) (below : i < length path) (e child : Element)
    (there : slice_get e.children (get_or path i 0) ≡ Some (the.Element child)) where
  pub one_further : (inner : Element) → NamesElementAt child (drop (i + 1) path) inner → NamesElementAt e (drop i path) inner
  one_further inner names =
      subst (λ (p : List ℕ). NamesElementAt e p inner) (sym (drop_more path i 0 below)) (child, there, names)

pub path_ends : (path : List ℕ) (i : ℕ) (e : Element) → length path ≤ i → NamesElementAt e (drop i path) e
path_ends path i e high = subst (λ (p : List ℕ). NamesElementAt e p e) (sym (drop_all i path high)) refl

-- ---- elements

pub form_answer : (reading : Reading) (path : List ℕ) (e : Element) → NamesElementAt reading.root path e
    → (r : Result Request FormError) → IsChecked (request_check (scopes_from reading path) e) r → IsFormAnswer reading path r
form_answer reading path e named (Ok request) f = record { element = e; named = named; checked = f }
form_answer reading path e named (Err (form.Named code)) f = record { element = e; named = named; checked = f }
form_answer reading path e named (Err form.NoMemory) f = tt

-- ---- readings

module _ (reading : Reading) (path : List ℕ) (inner : Element) (envelope : IsEnvelope reading.root path inner) where
  pub request_read : (request : Request) → request_check (scopes_from reading path) inner (Ok request)
      → ReadingFinds reading (Ok request)
  request_read request f = record { path = path; inner = inner; envelope = envelope; checked = f }

  pub request_refused : (error : FormError) → IsCheckRefusal (request_check (scopes_from reading path) inner) error
      → IsReadingAnswer reading (Err (as_refusal error))
  request_refused (form.Named code) f = record { path = path; inner = inner; envelope = envelope; checked = f }
  request_refused form.NoMemory f = tt

pub refused_reading : (reading : Reading) (r : Result Request Refusal) (error : FormError)
    → IsErrAnd r (λ e. e ≡ as_refusal error) → IsReadingAnswer reading (Err (as_refusal error)) → IsReadingAnswer reading r
refused_reading reading (Ok request) error is f = absurd is
refused_reading reading (Err e) error is f = subst (λ (x : Refusal). IsReadingAnswer reading (Err x)) (sym is) f

-- ---- bodies

module _ (bytes : List ℕ) where
  pub spells_nothing : (at : ℕ) → IsUnreadable bytes 64 at → SpellsNone request_levels bytes
  spells_nothing at u reading path inner s = u.none reading s.spelled

  pub spells_too_deep : (at : ℕ) → IsTooDeep bytes 64 at → SpellsNone request_levels bytes
  spells_too_deep at u reading path inner s =
      let deep : 64 < nesting reading.root = u.deeper reading s.spelled in
      let shallow : nesting reading.root ≤ 64 = s.shallow in
      omega (arith, deep, shallow)

  module _ (reading : Reading) (spelled : Spells bytes reading) (shallow : nesting reading.root ≤ 64)
      (one : (other : Reading) → Spells bytes other → reading ≡ other) where
    pub body_answer : (r : Result Request Refusal) → IsReadingAnswer reading r → IsBodyAnswer bytes r
    body_answer (Ok request) f = record {
      reading = reading;
      path = f.path;
      inner = f.inner;
      envelope = record { spelled = spelled; shallow = shallow; envelope = f.envelope };
      checked = f.checked;
    }
    body_answer (Err (refusal.Named code)) f = record {
      reading = reading;
      path = f.path;
      inner = f.inner;
      envelope = record { spelled = spelled; shallow = shallow; envelope = f.envelope };
      checked = f.checked;
    }
    body_answer (Err refusal.Unreadable) f = λ other path inner s.
        f path inner (subst (λ (r : Reading). IsEnvelope r.root path inner) (sym (one other s.spelled)) s.envelope)
    body_answer (Err refusal.NoMemory) f = tt
