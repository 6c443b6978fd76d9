-- One error in place of all: who overflowed is within the limit (`overflowed_within`), and who is told one error stays so
-- (`alone_stays`).
use Rattle.std.proofs.Common.{◌≡◌, refl, sym, subst, ℕ, false, List, None, Some, inl, inr}
use Rattle.std.proofs.lemmas.Bool.{cases_Bool, le-ltb}
use Rattle.ifmap_ident.specs.declared.codes.Code.TheVariants.{PollResultsTooBig}
use Rattle.ifmap_standing.specs.ifmap_machine.Telling.{is_overfull, limit_note, overflow_session}
use Rattle.ifmap_search.specs.declared.results.PollItem.{PollItem}
use Rattle.ifmap_search.specs.declared.results.PollItem.TheVariants as the_item
use Rattle.ifmap_search.specs.Sizes.{queue_size, size_beside_entries}
use Rattle.ifmap_standing.specs.ifmap_session.Sessions.{Session, with_error}
use Rattle.ifmap_tellings.specs.declared.tellings.Telling.TheVariants.{Alone}
use Rattle.ifmap_tellings.specs.Tellings.{IsSized, IsWide, tell_if}

-- a queue within its limit stays
pub within_stays : (s : Session) → is_overfull s ≡ false → overflow_session s ≡ s
within_stays s e = rw e refl

error_within : (note : List ℕ) (s : Session) → IsWide s.limit
    → is_overfull (with_error (the_item.Error None PollResultsTooBig note) s) ≡ false
error_within note s wide = le-ltb s.limit size_beside_entries wide

pub overflowed_within : (s : Session) → IsWide s.limit → is_overfull (overflow_session s) ≡ false
overflowed_within s wide = elim (cases_Bool (is_overfull s)) [
  | inl full ↦ rw full (error_within (limit_note (queue_size s.queue) s.limit) s wide)
  | inr not_full ↦ subst (λ t. is_overfull t ≡ false) (sym (within_stays s not_full)) not_full
]

pub alone_stays : (n limit : ℕ) (live : List Session) (s : Session) → s.limit ≡ limit → (error : PollItem) → IsSized n (Alone error) live
    → IsWide limit → tell_if (Some (Alone error)) s ≡ overflow_session (tell_if (Some (Alone error)) s)
alone_stays n limit live s own error sized wide =
    let is : error ≡ the_item.Error None PollResultsTooBig sized.0 = sized.1 in
    let few : is_overfull (with_error error s) ≡ false =
    subst (λ e. is_overfull (with_error e s) ≡ false) (sym is) (error_within sized.0 s (subst IsWide (sym own) wide)) in
    sym (within_stays (with_error error s) few)
