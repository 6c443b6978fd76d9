-- A line means one thing, and what is of no form.
use Rattle.std.proofs.Common.{◌≡◌, refl, ap, ◌∙◌, sym, subst, ℕ, codes, List, [], ◌∷◌, ◌++◌, ◌≤◌, Ok, Err, Option, Some, None, Result}
use Rattle.ifmap_elem.specs.Nesting.{nesting}
use Rattle.ifmap_elem.specs.Spells.{Spells}
use Rattle.ifmap_elem.specs.declared.elements.Element.{Element}
use Rattle.ifmap_elem.specs.declared.readings.Reading.{Reading}
use Rattle.ifmap_ident.specs.declared.codes.Code.{Code}
use Rattle.ifmap_reader.specs.Reads.{IsUnreadable}
use Rattle.ifmap_requests.specs.Laws.{OneRequest, OneReading}
use Rattle.ifmap_requests.specs.Means.{IsFoundAtPath, IsRequest, scopes_from}
use Rattle.ifmap_requests.specs.RequestForms.{request_check}
use Rattle.ifmap_requests.specs.declared.requests.Request.{Request}
use Rattle.ifmap_client.specs.Lines.{IsForm, IsReadRequest, IsRequestAnswer, NamesSet, OneLine, SpellsRequest, line_levels}
use Rattle.ifmap_client.specs.declared.lines.Line.{Line}
use Rattle.ifmap_client.specs.declared.lines.Line.TheVariants as the_line
use Rattle.ifmap_client.proofs.Fronts.{black_spelled, nothing_spelled}

-- what is found of the root of a reading is found of one element
pub root_finds : OneRequest → (r : Reading) (one other : Result Request Code) → IsFoundAtPath r [] one → IsFoundAtPath r [] other → one ≡
    other
root_finds law r one other l m =
    law (scopes_from r []) l.element one other l.checked
    (subst (λ (e : Element). request_check (scopes_from r []) e other) (m.named ∙ sym l.named) m.checked)

pub defect_is_no_request : OneRequest → (r : Reading) (code : Code) → IsFoundAtPath r [] (Err code) → (request : Request)
    → IsRequest r [] request → ⊥
defect_is_no_request law r code f request m = let both : Ok request ≡ Err code = root_finds law r (Ok request) (Err code) m f in cc

-- no bytes are a request, and nor are those that ask for a set
blank_is_no_request : (bytes : List ℕ) (request : Request) → bytes ≡ [] → SpellsRequest bytes request → ⊥
blank_is_no_request bytes request none m =
    nothing_spelled m.reading (subst (λ (b : List ℕ). Spells b m.reading) none m.spelled)

set_is_no_request : (bytes name : List ℕ) (request : Request) → NamesSet bytes name → SpellsRequest bytes request → ⊥
set_is_no_request bytes name request l m =
    black_spelled 115 (codes "et " ++ name) refl refl refl m.reading
    (subst (λ (b : List ℕ). Spells b m.reading) l.bytes_are m.spelled)

no_blank_set : (bytes name : List ℕ) → bytes ≡ [] → NamesSet bytes name → ⊥
no_blank_set bytes name none l = let q : [] ≡ 115 ∷ (codes "et " ++ name) = sym none ∙ l.bytes_are in cc

one_name : (bytes a b : List ℕ) → NamesSet bytes a → NamesSet bytes b → a ≡ b
one_name bytes a b l m = let q : codes "set " ++ a ≡ codes "set " ++ b = sym l.bytes_are ∙ m.bytes_are in cc

module _ (spelled : OneReading) (found : OneRequest) where
  one_request : (bytes : List ℕ) (a b : Request) → SpellsRequest bytes a → SpellsRequest bytes b → a ≡ b
  one_request bytes a b l m =
      let same : m.reading ≡ l.reading = spelled bytes m.reading l.reading m.spelled l.spelled in
      let both : Ok a ≡ Ok b = root_finds found l.reading (Ok a) (Ok b) l.means
      (subst (λ (r : Reading). IsRequest r [] b) same m.means) in
      cc

  one_form : (bytes : List ℕ) (one other : Line) → IsForm bytes one → IsForm bytes other → one ≡ other
  one_form bytes the_line.Blank the_line.Blank l m = refl
  one_form bytes the_line.Blank (the_line.Request b) l m = absurd (blank_is_no_request bytes b l m)
  one_form bytes the_line.Blank (the_line.Set b) l m = absurd (no_blank_set bytes b l m)
  one_form bytes (the_line.Request a) the_line.Blank l m = absurd (blank_is_no_request bytes a m l)
  one_form bytes (the_line.Request a) (the_line.Request b) l m = ap the_line.Request (one_request bytes a b l m)
  one_form bytes (the_line.Request a) (the_line.Set b) l m = absurd (set_is_no_request bytes b a m l)
  one_form bytes (the_line.Set a) the_line.Blank l m = absurd (no_blank_set bytes a m l)
  one_form bytes (the_line.Set a) (the_line.Request b) l m = absurd (set_is_no_request bytes a b l m)
  one_form bytes (the_line.Set a) (the_line.Set b) l m = ap the_line.Set (one_name bytes a b l m)

  pub one_line : OneLine
  one_line bytes one other l m = one_form bytes one other l.1 m.1

-- ---- what bytes that were read are

module _ (spelled : OneReading) (bytes : List ℕ) (reading : Reading) (read : Spells bytes reading)
    (shallow : nesting reading.root ≤ line_levels) where
  pub request_answer : {E : Type 0} (r : Result (Option Request) E) → IsReadRequest reading r → IsRequestAnswer bytes r
  request_answer (Ok (Some request)) h = record { reading = reading; spelled = read; shallow = shallow; means = h }
  request_answer (Ok None) h = λ request m.
      h request (subst (λ (r : Reading). IsRequest r [] request) (spelled bytes m.reading reading m.spelled read) m.means)
  request_answer (Err e) h = tt

pub spells_no_request : (bytes : List ℕ) (at : ℕ) → IsUnreadable bytes line_levels at → (request : Request)
    → SpellsRequest bytes request → ⊥
spells_no_request bytes at u request m = u.none m.reading m.spelled
