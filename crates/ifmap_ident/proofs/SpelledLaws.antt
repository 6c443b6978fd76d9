-- Names that spell elements.
use Rattle.std.proofs.Common.{◌≡◌, ℕ, ◌≤◌, List, Result, Err, sym, ◌∙◌, subst}
use Rattle.ifmap_elem.specs.Canonical.{canonical_reading}
use Rattle.ifmap_elem.specs.Fit.{IsFit}
use Rattle.ifmap_elem.specs.Spells.{Spells}
use Rattle.ifmap_elem.specs.declared.readings.Reading.{Reading}
use Rattle.ifmap_elem.specs.laws.CanonicalSpells.{canonical_spelled}
use Rattle.ifmap_elem.specs.laws.FitLaws.{nesting_arranged}
use Rattle.ifmap_reader.specs.Reads.{IsRead}
use Rattle.ifmap_reader.specs.declared.errors.ReadError.{ReadError}
use Rattle.ifmap_reader.specs.declared.errors.ReadError.TheVariants.{Unreadable}
use Rattle.ifmap_ident.specs.IdentityNames.{IsSpelledName}
use Rattle.ifmap_elem.specs.laws.AgainLaws.{printed_again}

-- a text that is not read spells no name
pub not_spelled : (bytes : List ℕ) (r : Result Reading ReadError) (at : ℕ) → r ≡ Err (Unreadable at) → IsRead bytes 64 r
    → (name : List ℕ) → IsSpelledName bytes name → ⊥
not_spelled bytes r at e read name s = (subst (λ r. IsRead bytes 64 r) e read).none s.reading s.spelled

-- a name that is kept spells itself
pub spelled_again : ((bytes : List ℕ) (r : Reading) → Spells bytes r → IsFit r.root) → (text name : List ℕ) → IsSpelledName text name
    → IsSpelledName name name
spelled_again fits text name s = record {
  reading = canonical_reading s.reading.root;
  spelled = subst (λ bytes. Spells bytes (canonical_reading s.reading.root)) (sym s.canonical)
      (canonical_spelled s.reading.root (fits text s.reading s.spelled));
  shallow = subst (λ n. n ≤ 64) (sym (nesting_arranged s.reading.root)) s.shallow;
  canonical = s.canonical ∙ sym (printed_again s.reading.root);
}
