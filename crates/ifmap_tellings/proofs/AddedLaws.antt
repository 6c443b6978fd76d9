-- What is added to what a session is to be told: nothing (`adds_nothing`), one after another (`adds_both`), to items with their size
-- (`sized_after`), and to nothing yet (`begin_adds`, `begun_size`). Then what is at one key of a map that changed there.
use Rattle.std.proofs.Common.{◌≡◌, ◌≢◌, refl, sym, ◌∙◌, ap, subst, ℕ, ◌+◌, ◌-◌, ◌^◌, ◌<◌, ◌≤◌, min, false, List, [], ◌++◌, Option, None, Some, append_assoc, inl, inr, arith}
use Rattle.std.proofs.lemmas.Bool.{cases_eq, ltb-false}
use Rattle.std.proofs.lemmas.List.{append-nil}
use Rattle.std.proofs.lemmas.List.Sums.{sum_by-append}
use Rattle.std.specs.Option.{IsSome, is_some}
use Rattle.ifmap_lemmas.specs.Fronts.{both_empty}
use Rattle.ifmap_lemmas.specs.Options.{some_none}
use Rattle.ifmap_standing.specs.ifmap_machine.Telling.{is_overfull, tell_session}
use Rattle.ifmap_search.specs.declared.results.PollItem.{PollItem}
use Rattle.ifmap_search.specs.Sizes.{poll_size, queue_size}
use Rattle.ifmap_standing.specs.ifmap_session.Sessions.{Session, session_with_serial}
use Rattle.ifmap_tellings.specs.declared.tellings.Telling.{Telling}
use Rattle.ifmap_tellings.specs.declared.tellings.Telling.TheVariants.{After}
use Rattle.ifmap_tellings.specs.Tellings.{AddsTo, IsSized, tell_if}
use Rattle.ifmap_standing.specs.ifmap_machine.OrderLaws.{tell_nothing}

pub tell_twice : (a b : List PollItem) (s : Session) → tell_session b (tell_session a s) ≡ tell_session (a ++ b) s
tell_twice a b s = ap (λ queue. record s { queue = queue }) (append_assoc s.queue a b)

pub adds_nothing : (x : Option Telling) → AddsTo [] x x
adds_nothing x = record {
  told = λ s. sym (tell_nothing (tell_if x s));
  alone = refl;
  brought = λ h e. absurd (some_none x h e);
  kept = λ e. e;
}

pub adds_both : (a b : List PollItem) (x y z : Option Telling) → AddsTo a x y → AddsTo b y z → AddsTo (a ++ b) x z
adds_both a b x y z first next = record {
  told = λ s. next.told s ∙ ap (tell_session b) (first.told s) ∙ tell_twice a b (tell_if x s);
  alone = next.alone ∙ first.alone;
  brought = λ h e q. at y refl h e (both_empty a b q);
  kept = λ e. first.kept (next.kept e);
}
  where
    at : (o : Option Telling) → y ≡ o → IsSome z → x ≡ None → (a ≡ []) × (b ≡ []) → ⊥
    at None is h e q = next.brought h is q.1
    at (Some t) is h e q = first.brought (ap is_some is) e q.0

pub sized_after : (n : ℕ) (live : List Session) (all items : List PollItem) (size more : ℕ) → more ≡ size + queue_size items
    → (size < 2 ^ 64 - 1 → more < 2 ^ 64 - 1) → IsSized n (After all size) live → IsSized n (After (all ++ items) more) live
sized_after n live all items size more sum small sized = λ s e. (
  sum ∙ ap (λ m. m + queue_size items) (sized s e).0 ∙ sym (sum_by-append poll_size (s.queue ++ all) items)
      ∙ ap queue_size (append_assoc s.queue all items),
  small (sized s e).1,
)

-- to nothing yet
pub begin_adds : (items : List PollItem) (size : ℕ) (new : Option Telling) → items ≢ [] → AddsTo items (Some (After [] size)) new
    → AddsTo items None new
begin_adds items size new some adds = record {
  told = λ s. adds.told s ∙ ap (tell_session items) (tell_nothing s);
  alone = adds.alone;
  brought = λ h e. some;
  kept = λ e. refl;
}

below : (size queue limit : ℕ) → size ≡ min queue (2 ^ 64 - 1) → queue ≤ limit → limit < 2 ^ 32 → (size ≡ queue) × (size < 2 ^ 64 - 1)
below size queue limit e le small = (omega arith, omega arith)

pub begun_size : (n : ℕ) (live : List Session) (size limit : ℕ)
    → ((s : Session) → session_with_serial n live ≡ Some s → (size ≡ min (queue_size s.queue) (2 ^ 64 - 1)) × (limit ≡ s.limit))
    → ((s : Session) → session_with_serial n live ≡ Some s → is_overfull s ≡ false) → limit < 2 ^ 32
    → IsSized n (After [] size) live
begun_size n live size limit is within small = λ s e.
    let queue = queue_size s.queue in
    let le : queue ≤ limit = subst (λ m. queue ≤ m) (sym (is s e).1) (ltb-false s.limit queue (within s e)) in
    let b = below size queue limit (is s e).0 le small in
    (b.0 ∙ ap queue_size (sym (append-nil s.queue)), b.1)

-- what holds of each telling, where one key changes
pub each_changed : (P : ℕ → Telling → Type 0) (old new : ℕ → Option Telling) (k : ℕ) → ((n : ℕ) → n ≢ k → new n ≡ old n)
    → ((n : ℕ) (t : Telling) → old n ≡ Some t → P n t) → ((t : Telling) → new k ≡ Some t → P k t)
    → (n : ℕ) (t : Telling) → new n ≡ Some t → P n t
each_changed P old new k others was here n t e = elim (cases_eq n k) [
  | inl same ↦ subst (λ m. P m t) (sym same) (here t (ap new (sym same) ∙ e))
  | inr apart ↦ was n t (sym (others n apart) ∙ e)
]
