-- What a turn adds to what was said since a place.
use Rattle.std.proofs.Common.{◌≡◌, sym, ap, ◌∙◌, ℕ, ◌+◌, ◌-◌, ◌≤◌, [], ◌∷◌, ◌++◌, length, take, drop, arith, append-nil, length-append, length-drop, take-add, drop-drop}
use Rattle.std.proofs.lemmas.List.{take-append-le, drop-append-le, take-append-drop, nil_from_length}
use Rattle.ifmap_desks.specs.Answers.{plain_answer}
use Rattle.ifmap_desks.specs.Calls.{Log, calls_from, calls_since}
use Rattle.ifmap_desks.specs.Asking.{IsTurn}
use Rattle.ifmap_desks.specs.Machines.{CoreBook, core_next, core_reply}
use Rattle.ifmap_desks.specs.declared.events.FitEvent.{FitEvent}
use Rattle.ifmap_desks.specs.declared.machine.CoreMachine.{CoreMachine}
use Rattle.ifmap_desks.proofs.LogLaws.{calls_append, run_append}
use Rattle.ifmap_dialogue.specs.Desks.{call_of}
use Rattle.ifmap_hall.specs.Books.{end_of_book, sight_of}
use Rattle.ifmap_hall.specs.Sights.{CarriesOn, run}
use Rattle.ifmap_hall.specs.Turns.{Enters}
use Rattle.ifmap_hall.specs.declared.book.Asked.{Asked}
use Rattle.ifmap_hall.specs.declared.book.Asked.TheVariants.{Done, Held, Spent, NoMemory}
use Rattle.ifmap_lemmas.specs.Lists.{cut_same}
use Rattle.ifmap_dialogue.specs.ifmap_machine.declared.events.Answer.{Answer}

module _ (place : ℕ) (b b' : CoreBook) (c : CarriesOn core_next (sight_of b) (sight_of b'))
    (near : b'.from ≤ place) (within : place ≤ end_of_book b) (state : b.machine ≡ run core_next b.base b.journal.items) where
  -- the book has what it had and did not give to its base, and then more, all of which was said
  grows : (more : Log) × (b'.journal.items ≡ drop (b'.from - b.from) b.journal.items ++ more)
      × (calls_since place b' ≡ calls_since place b ++ calls_from b.machine.core more)
  grows =
      let k : ℕ = b'.from - b.from in
      let j : ℕ = place - b'.from in
      let n : ℕ = place - b.from in
      let later = c.from in
      let x = c.rest (omega arith) in
      let more = x.0 in
      let l : length (drop k b.journal.items) ≡ length b.journal.items - k = length-drop k b.journal.items in
      let fits : j ≤ length (drop k b.journal.items) = omega arith in
      let both : k + j ≡ n = omega arith in
      let front : take j b'.journal.items ≡ take j (drop k b.journal.items) =
      ap (take j) x.1 ∙ take-append-le j (drop k b.journal.items) more fits in
      let rest : drop j b'.journal.items ≡ drop n b.journal.items ++ more =
      ap (drop j) x.1 ∙ drop-append-le j (drop k b.journal.items) more fits
      ∙ ap (λ zs. zs ++ more) (drop-drop j k b.journal.items ∙ ap (λ i. drop i b.journal.items) (omega arith)) in
      let at : run core_next b'.base (take j b'.journal.items) ≡ run core_next b.base (take n b.journal.items) =
      ap (λ zs. run core_next b'.base zs) front ∙ ap (λ m. run core_next m (take j (drop k b.journal.items))) (c.base (omega arith))
      ∙ sym (run_append b.base (take k b.journal.items) (take j (drop k b.journal.items)))
      ∙ ap (run core_next b.base) (sym (take-add k j b.journal.items)) ∙ ap (λ i. run core_next b.base (take i b.journal.items)) both in
      let end : run core_next (run core_next b.base (take n b.journal.items)) (drop n b.journal.items) ≡ b.machine =
      sym (run_append b.base (take n b.journal.items) (drop n b.journal.items))
      ∙ ap (run core_next b.base) (take-append-drop n b.journal.items) ∙ sym state in (
        more,
        x.1,
        ap (λ (m : CoreMachine). calls_from m.core (drop j b'.journal.items)) at
            ∙ ap (calls_from (run core_next b.base (take n b.journal.items)).core) rest
            ∙ calls_append (run core_next b.base (take n b.journal.items)) (drop n b.journal.items) more
            ∙ ap (λ (m : CoreMachine). calls_since place b ++ calls_from m.core more) end,
      )

  -- where the end stays, nothing was said
  same_end : end_of_book b' ≡ end_of_book b → calls_since place b' ≡ calls_since place b
  same_end same =
      let g = grows in
      let later = c.from in
      let l : length b'.journal.items ≡ (length b.journal.items - (b'.from - b.from)) + length g.0 =
      ap length g.1 ∙ length-append (drop (b'.from - b.from) b.journal.items) g.0
      ∙ ap (λ n. n + length g.0) (length-drop (b'.from - b.from) b.journal.items) in
      g.2 ∙ ap (λ (xs : Log). calls_since place b ++ calls_from b.machine.core xs) (nil_from_length g.0 (omega arith))
      ∙ append-nil (calls_since place b)

  -- one entry more was said
  one_said : (number at : ℕ) (event : FitEvent) (reply : Answer) → Enters core_reply b b' number event at reply
      → calls_since place b' ≡ calls_since place b ++ (event.event, reply) ∷ []
  one_said number at event reply enters =
      let g = grows in
      let later = c.from in
      let w = enters.entry in
      let z = enters.place_is in
      let y = w.2 in
      let l : length (drop (b'.from - b.from) b.journal.items) ≡ length w.0 =
      length-drop (b'.from - b.from) b.journal.items ∙ omega arith in
      g.2
      ∙ ap (λ (xs : Log). calls_since place b ++ calls_from b.machine.core xs)
      (cut_same (drop (b'.from - b.from) b.journal.items) g.0 w.0 ((number, event) ∷ []) l (sym g.1 ∙ w.1))
      ∙ ap (λ (q : Answer). calls_since place b ++ (event.event, q) ∷ []) (sym enters.reply_is)

  pub adds : (number : ℕ) (event : FitEvent) (given : Asked FitEvent Answer) → IsTurn b b' number event given
      → calls_since place b' ≡ calls_since place b ++ call_of event.event (plain_answer given)
  adds number event (Done at r) t = one_said number at event r t.done.2
  adds number event (Held at back) t = ap (λ (x : CoreBook). calls_since place x) t.held.4 ∙ sym (append-nil (calls_since place b))
  adds number event (Spent entries back) t = ap (λ (x : CoreBook). calls_since place x) t.spent.3 ∙ sym (append-nil (calls_since place b))
  adds number event (NoMemory back) t = same_end t.no_memory.3.ends ∙ sym (append-nil (calls_since place b))
