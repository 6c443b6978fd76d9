-- What follows from an answer: that what is read fits, and that canonical bytes give their element back.
use Rattle.std.proofs.Common.{ℕ, ◌≤◌, List, refl, sym, subst, arith}
use Rattle.std.specs.Prelude.{Ok, Err, Result, IfOk}
use Rattle.ifmap_elem.specs.declared.elements.Element.{Element}
use Rattle.ifmap_elem.specs.declared.readings.Reading.{Reading}
use Rattle.ifmap_elem.specs.Arranged.{arrange}
use Rattle.ifmap_elem.specs.Canonical.{canonical_reading}
use Rattle.ifmap_elem.specs.Fit.{IsFit}
use Rattle.ifmap_elem.specs.Nesting.{nesting}
use Rattle.ifmap_elem.specs.Spells.{Spells}
use Rattle.ifmap_elem.specs.laws.CanonicalSpells.{canonical_spelled}
use Rattle.ifmap_elem.specs.laws.FitLaws.{nesting_arranged}
use Rattle.ifmap_elem.specs.laws.OneReading.{one_reading}
use Rattle.ifmap_reader.proofs.FitElements.{spelled_fits}
use Rattle.ifmap_reader.specs.declared.errors.ReadError.{ReadError}
use Rattle.ifmap_reader.specs.declared.errors.ReadError.TheVariants.{Unreadable, TooDeep, NoMemory}
use Rattle.ifmap_reader.specs.Reads.{AreCanonical, GivesBack, IsRead}

module _ (bytes : List ℕ) (depth : ℕ) where
  pub root_is_fit : (a : Result Reading ReadError) → IsRead bytes depth a → IfOk a (λ r. IsFit r.root)
  root_is_fit (Ok r) h = (spelled_fits bytes r h.0).0
  root_is_fit (Err (Unreadable at)) h = tt
  root_is_fit (Err (TooDeep at)) h = tt
  root_is_fit (Err NoMemory) h = tt

  gives : (a : Result Reading ReadError) → IsRead bytes depth a → (e : Element) → Spells bytes (canonical_reading e)
      → nesting (arrange e) ≤ depth → GivesBack e a
  gives (Ok s) h e spells fits = (one_reading bytes s (canonical_reading e) h.0 spells, tt)
  gives (Err (Unreadable at)) h e spells fits = absurd (h.none (canonical_reading e) spells)
  gives (Err (TooDeep at)) h e spells fits = let d = h.deeper (canonical_reading e) spells in absurd (omega (arith, d, fits))
  gives (Err NoMemory) h e spells fits = (tt, refl)

  pub canonical : (a : Result Reading ReadError) → IsRead bytes depth a → (e : Element) → AreCanonical bytes depth e → GivesBack e a
  canonical a h e c =
      let spells : Spells bytes (canonical_reading e) = subst (λ (b : List ℕ). Spells b (canonical_reading e)) (sym c.bytes_are)
      (canonical_spelled e c.fit) in
      let deep = nesting_arranged e in
      gives a h e spells (omega (arith, deep, c.shallow))
