-- A body means something: its bytes spell an element or none, that nests too deep or not, and is an envelope or not; and the element in it
-- has a request or a code.
use Rattle.std.proofs.Common.{◌<◌, ◌≤◌, ℕ, List, Result, Ok, Err, inl, inr, arith, subst}
use Rattle.std.proofs.lemmas.Bool.{cases_lt}
use Rattle.ifmap_lemmas.specs.Deciding.{Decided}
use Rattle.ifmap_elem.specs.Fit.{IsFit}
use Rattle.ifmap_elem.specs.Nesting.{nesting}
use Rattle.ifmap_elem.specs.Spells.{Spells}
use Rattle.ifmap_elem.specs.declared.elements.Element.{Element}
use Rattle.ifmap_elem.specs.declared.readings.Reading.{Reading}
use Rattle.ifmap_envelopes.specs.Envelopes.{EnvelopeOrNone, IsEnvelope, SpellsEnvelope, SpellsNone}
use Rattle.ifmap_ident.specs.declared.codes.Code.{Code}
use Rattle.ifmap_requests.specs.declared.errors.Refusal.{Refusal}
use Rattle.ifmap_requests.specs.declared.errors.Refusal.TheVariants.{Named, Unreadable}
use Rattle.ifmap_requests.specs.declared.requests.Request.{Request}
use Rattle.ifmap_requests.specs.Laws.{RequestOrCode, SomeMeaning, OneReading}
use Rattle.ifmap_requests.specs.Means.{Means, request_levels, scopes_from}
use Rattle.ifmap_requests.specs.RequestForms.{request_check}
use Rattle.ifmap_requests.proofs.Sound.{inner_sound}

module _ (requests : RequestOrCode) (readings : OneReading) (fits : (bytes : List ℕ) (r : Reading) → Spells bytes r → IsFit r.root)
    (bytes : List ℕ) where
  abbrev HasMeaning : Type 0
  HasMeaning = (meaning : Result Request Refusal) × Means bytes meaning

  none_spelled : SpellsNone request_levels bytes → HasMeaning
  none_spelled none = (Err Unreadable, none)

  module _ (reading : Reading) (spelled : Spells bytes reading) where
    -- what holds of each envelope that is spelled holds of the one reading
    each_envelope : (P : Reading → Type 0)
        → ((r : Reading) (path : List ℕ) (e : Element) → SpellsEnvelope request_levels bytes r path e → P r)
        → (path : List ℕ) (e : Element) (r : Reading) → SpellsEnvelope request_levels bytes r path e → P reading
    each_envelope P holds path e r s = subst P (readings bytes r reading s.spelled spelled) (holds r path e s)

    too_deep : request_levels < nesting reading.root → HasMeaning
    too_deep high = none_spelled (λ r path e s.
        let low = each_envelope (λ (x : Reading). nesting x.root ≤ request_levels) (λ x route f t. t.shallow) path e r s in
        omega (arith, high, low))

    module _ (low : nesting reading.root ≤ request_levels) where
      none_enclosed : ((path : List ℕ) × (inner : Element) × IsEnvelope reading.root path inner → ⊥) → HasMeaning
      none_enclosed none = none_spelled (λ r path e s.
          none (each_envelope (λ (x : Reading). (route : List ℕ) × (inner : Element) × IsEnvelope x.root route inner)
          (λ x route f t. (route, f, t.envelope)) path e r s))

      module _ (path : List ℕ) (inner : Element) (envelope : IsEnvelope reading.root path inner) where
        abbrev spells : SpellsEnvelope request_levels bytes reading path inner
        spells = record { spelled = spelled; shallow = low; envelope = envelope }

        meaning_found : (found : Result Request Code) → request_check (scopes_from reading path) inner found → HasMeaning
        meaning_found (Ok request) f =
            (Ok request, record { reading = reading; path = path; inner = inner; envelope = spells; checked = f })
        meaning_found (Err code) f =
            (Err (Named code), record { reading = reading; path = path; inner = inner; envelope = spells; checked = f })

        enclosed : HasMeaning
        enclosed =
            let inside = inner_sound request_levels reading.root path inner envelope
            (record { fit = fits bytes reading spelled; levels = low }) in
            let found = requests (scopes_from reading path) inner inside.fit in
            meaning_found found.0 found.1

      envelope_or_none : Decided ((path : List ℕ) × (inner : Element) × IsEnvelope reading.root path inner) → HasMeaning
      envelope_or_none (inl e) = enclosed e.0 e.1 e.2
      envelope_or_none (inr none) = none_enclosed none

  module _ (envelopes : EnvelopeOrNone) where
    read_as : Decided ((reading : Reading) × Spells bytes reading) → HasMeaning
    read_as (inr none) = none_spelled (λ r path e s. none (r, s.spelled))
    read_as (inl r) = elim (cases_lt request_levels (nesting r.0.root)) [
      | inl high ↦ too_deep r.0 r.1 high
      | inr low ↦ envelope_or_none r.0 r.1 low (envelopes r.0.root)
    ]

pub meaning_some : RequestOrCode → OneReading → ((bytes : List ℕ) (r : Reading) → Spells bytes r → IsFit r.root) → EnvelopeOrNone
    → ((bytes : List ℕ) → Decided ((reading : Reading) × Spells bytes reading)) → SomeMeaning
meaning_some requests readings fits envelopes spelled bytes = read_as requests readings fits bytes envelopes (spelled bytes)
