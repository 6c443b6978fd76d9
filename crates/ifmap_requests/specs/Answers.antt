-- What the calls answer.
use Rattle.ifmap_forms.specs.declared.errors.FormError.{FormError}
use Rattle.ifmap_forms.specs.declared.errors.FormError.TheVariants as form
use Rattle.ifmap_requests.specs.declared.errors.Refusal.{Refusal}
use Rattle.ifmap_requests.specs.declared.errors.Refusal.TheVariants as refusal

-- the refusal of a body for the refusal of its request
abbrev pub as_refusal : FormError → Refusal
as_refusal (form.Named code) = refusal.Named code
as_refusal form.NoMemory = refusal.NoMemory
