-- What a turn of the book that a pass found makes of what the pass is seen as.
-- 1. `Grew` says by which entries the book grew: found from what carries on (`grew`), it is by none
--    where the end is the same (`grew_by_none`), and by the one that was entered (`grew_by_one`).
-- 2. So the history gains one entry at most (`gains_by`), and the book may be given back
--    (`gives_by`).
-- 3. What the turn tells, by those entries (`took_by`), is nothing (`silent_by`) or its reply
--    (`said_by`).
-- 4. The entries are those of which the answer tells (`grew_as_told`), so each answer is one that a
--    pass may give (`answers_by`).
-- 5. All of it together is `turn_keeps_promise`.
use Rattle.std.proofs.Common.{◌≡◌, ℕ, ◌+◌, ◌-◌, ◌^◌, ◌<◌, ◌≤◌, List, [], ◌∷◌, ◌++◌, length, take, drop, map, Bool, true, false, refl, sym, ap, subst, ◌∙◌, inl, inr, arith, append-nil, length-append, length-drop, take-add}
use Rattle.std.proofs.lemmas.List.{nil_from_length, take-append-drop}
use Rattle.std.proofs.Math.Seq.{drop-append_seam, drop-length}
use Rattle.ifmap_hall.specs.Answers.{IfDone, IfHeld, IfSpent, IfNoMemory}
use Rattle.ifmap_hall.specs.HallAsks.{TookATurn, SaidNothing, EntersEvent, AnsweredFromHistory, TakesTurn}
use Rattle.ifmap_hall.specs.Books.{IsBook, sight_of, end_of_book}
use Rattle.ifmap_hall.specs.Histories.{Extends, GainsAtMostOne, history_in}
use Rattle.ifmap_hall.specs.Plays.{FindsBook, Gives}
use Rattle.ifmap_hall.specs.SeatViews.{view_after}
use Rattle.ifmap_hall.specs.Sights.{CarriesOn, run}
use Rattle.ifmap_hall.specs.Turns.{Settles, SameLimits, EndsWith, Enters}
use Rattle.ifmap_hall.specs.declared.book.Asked.{Asked}
use Rattle.ifmap_hall.specs.declared.book.Asked.TheVariants.{Done, Held, Spent, NoMemory}
use Rattle.ifmap_hall.specs.declared.book.Book.{Book}
use Rattle.ifmap_hall.specs.declared.view.HallHistory.{HallHistory}
use Rattle.ifmap_hall.specs.declared.view.HallView.{HallView}
use Rattle.ifmap_hall.proofs.CarryingOn.{run-append}
use Rattle.ifmap_hall.proofs.Extending.{extends-through, log_length}
use Rattle.ifmap_lemmas.specs.Fronts.{front_again, joined_up, rest_again}
use Rattle.ifmap_hall.proofs.Places.{gains_rise, rises_le}
use Rattle.ifmap_lemmas.specs.Lists.{cut_same}

module _ {M E R : Type 0} (next : M → E → M) (weight : E → ℕ) (holds_on : M → E → Bool) (reply : M → E → R) where
  -- what a turn of the book ensures
  pub record TurnEnsures (b b' : Book M E R) (number : ℕ) (event : E) (answer : Asked E R) : Type 0 where
    pub book : IsBook next weight b'
    pub carries : CarriesOn next (sight_of b) (sight_of b')
    pub limits : SameLimits b b'
    pub done : IfDone answer (λ place r. (place < 2 ^ 64 - 1) × (holds_on b.machine event ≡ false) × Enters reply b b' number event place r)
    pub held : IfHeld answer (λ place back. (place ≡ end_of_book b) × (place < 2 ^ 64 - 1) × (holds_on b.machine event ≡ true)
        × (back ≡ event) × (b' ≡ b))
    pub spent : IfSpent answer (λ entries back. (entries ≡ end_of_book b) × (entries ≡ 2 ^ 64 - 1) × (back ≡ event) × (b' ≡ b))
    pub no_memory :
        IfNoMemory answer (λ back. (back ≡ event) × (end_of_book b < 2 ^ 64 - 1) × (holds_on b.machine event ≡ false)
        × Settles next weight b b')

  module _ (v : HallView M E R) (h : HallHistory E) (b : Book M E R) (found : FindsBook next weight v h b) where
    from_is : b.from ≡ h.from
    from_is = ap (λ s. s.from) found.book.sight

    base_is : b.base ≡ run next v.terms.opening.value (take h.from h.log)
    base_is = ap (λ s. s.base) found.book.sight

    journal_is : b.journal.items ≡ drop h.from h.log
    journal_is = ap (λ s. s.seen) found.book.sight

    ends_there : end_of_book b ≡ length h.log
    ends_there =
        let l : length b.journal.items ≡ length h.log - h.from = ap length journal_is ∙ length-drop h.from h.log in
        let c = from_is in let i = found.book.inside in omega arith

    state_there : b.machine ≡ run next v.terms.opening.value h.log
    state_there =
        found.book.book.state ∙ ap (λ m. run next m b.journal.items) base_is
        ∙ ap (run next (run next v.terms.opening.value (take h.from h.log))) journal_is
        ∙ sym (run-append next v.terms.opening.value (take h.from h.log) (drop h.from h.log))
        ∙ ap (run next v.terms.opening.value) (take-append-drop h.from h.log)

    module _ (b' : Book M E R) where
      -- the book grew by these entries
      record Grew (more : List (ℕ × E)) : Type 0 where
        pub settled : h.from ≤ b'.from
        pub near : b'.from ≤ length h.log
        pub base : b'.base ≡ run next v.terms.opening.value (take b'.from h.log)
        pub all : (history_in h b').log ≡ h.log ++ more

      grew : CarriesOn next (sight_of b) (sight_of b') → b'.from ≤ length h.log
          → (more : List (ℕ × E)) × (b'.journal.items ≡ drop (b'.from - b.from) b.journal.items ++ more) × Grew more
      grew c near =
          let e = ends_there in
          let from = from_is in let later = c.from in
          let r = c.rest (omega arith) in
          let le : h.from ≤ b'.from = omega arith in
          let n : b'.from - b.from ≡ b'.from - h.from = ap (λ k. b'.from - k) from in
          let up : h.from + (b'.from - h.from) ≡ b'.from = omega arith in
          let front : M = run next v.terms.opening.value (take h.from h.log) in (
            r.0,
            r.1,
            record {
              settled = le;
              near = near;
              base = c.base (omega arith) ∙ ap (λ m. run next m (take (b'.from - b.from) b.journal.items)) base_is
                  ∙ ap (λ k. run next front (take k b.journal.items)) n
                  ∙ ap (λ xs. run next front (take (b'.from - h.from) xs)) journal_is
                  ∙ sym (run-append next v.terms.opening.value (take h.from h.log) (take (b'.from - h.from) (drop h.from h.log)))
                  ∙ ap (run next v.terms.opening.value) (sym (take-add h.from (b'.from - h.from) h.log))
                  ∙ ap (λ k. run next v.terms.opening.value (take k h.log)) up;
              all = ap (λ xs. take b'.from h.log ++ xs) r.1 ∙ ap (λ k. take b'.from h.log ++ (drop k b.journal.items ++ r.0)) n
                  ∙ ap (λ xs. take b'.from h.log ++ (drop (b'.from - h.from) xs ++ r.0)) journal_is ∙ joined_up h.from b'.from h.log r.0 le;
            },
          )

      -- by no entry, where the end is the same
      grew_by_none : CarriesOn next (sight_of b) (sight_of b') → end_of_book b' ≡ end_of_book b → Grew []
      grew_by_none c same =
          let e = ends_there in
          let g = grew c (omega arith) in
          let l : length b'.journal.items ≡ (length b.journal.items - (b'.from - b.from)) + length g.0 =
          ap length g.1 ∙ length-append (drop (b'.from - b.from) b.journal.items) g.0
          ∙ ap (λ n. n + length g.0) (length-drop (b'.from - b.from) b.journal.items) in
          let f = c.from in let i = g.2.near in
          subst (λ (xs : List (ℕ × E)). Grew xs) (nil_from_length g.0 (omega arith)) g.2

      -- by one, where one was entered
      grew_by_one : (place : ℕ) (x : ℕ × E) → CarriesOn next (sight_of b) (sight_of b') → place ≡ end_of_book b
          → EndsWith (sight_of b') place x → Grew (x ∷ [])
      grew_by_one place x c at w =
          let e = ends_there in
          let before = w.2 in
          let g = grew c (omega arith) in
          let f = c.from in let i = g.2.near in
          let l : length (drop (b'.from - b.from) b.journal.items) ≡ length w.0 = length-drop (b'.from - b.from) b.journal.items
          ∙ omega arith in
          subst (λ (xs : List (ℕ × E)). Grew xs) (cut_same (drop (b'.from - b.from) b.journal.items) g.0 w.0 (x ∷ []) l (sym g.1 ∙ w.1)) g.2

      gains_by : (more : List (ℕ × E)) → Grew more → GainsAtMostOne [] more → GainsAtMostOne h.log (history_in h b').log
      gains_by more g (inl e) = inl (g.all ∙ ap (λ xs. h.log ++ xs) e ∙ append-nil h.log)
      gains_by more g (inr e) = inr (e.0, g.all ∙ ap (λ xs. h.log ++ xs) e.1)

      extends_by : (more : List (ℕ × E)) → Grew more → Extends h (history_in h b')
      extends_by more g = record { from = g.settled; rest = more; whole = g.all }

      gives_by : (more : List (ℕ × E)) → IsBook next weight b' → SameLimits b b' → Grew more → GainsAtMostOne [] more
          → Gives next weight v.terms h b'
      gives_by more book limits g few =
          let near = g.near in
          let long = log_length h (history_in h b') (extends_by more g) in
          let front : take b'.from (history_in h b').log ≡ take b'.from h.log = front_again b'.from h.log b'.journal.items near in
          let rest : drop b'.from (history_in h b').log ≡ b'.journal.items = rest_again b'.from h.log b'.journal.items near in
          record {
            book = record {
              book = book;
              limit = limits.limit ∙ found.book.limit;
              heaviest = limits.heaviest ∙ found.book.heaviest;
              inside = omega arith;
              sight =
                  λ i. record { from = b'.from; base = (g.base ∙ ap (run next v.terms.opening.value) (sym front)) i; seen = sym rest i };
            };
            settled = g.settled;
            near = near;
            gains = gains_by more g few;
          }

      took_by : (more : List (ℕ × E)) → Grew more → GainsAtMostOne [] more → TookATurn v (view_after next reply v h b')
      took_by more g few =
          let near = g.near in
          let long = log_length h (history_in h b') (extends_by more g) in
          let seen = log_length v.history h found.extends in
          record {
            terms = refl;
            lone = refl;
            turns = refl;
            history = extends-through v.history h (history_in h b') found.extends (extends_by more g);
            sound = record {
              inside = omega arith;
              mine = gains_rise h.log (history_in h b').log v.mine (gains_by more g few)
                  (rises_le 0 v.mine (length v.history.log) (length h.log) found.sound.mine (omega arith));
            };
            near = λ lone. let same = ap (λ (k : HallHistory E). length k.log) (found.lone lone) in omega arith;
          }

      silent_by : Grew [] → SaidNothing v (view_after next reply v h b')
      silent_by g =
          let gained : drop (length h.log) (history_in h b').log ≡ [] = ap (drop (length h.log)) (g.all ∙ append-nil h.log)
          ∙ drop-length h.log in
          record {
            mine = ap (λ (xs : List (ℕ × E)). v.mine ++ map (λ _. length h.log) xs) gained ∙ append-nil v.mine;
            said = ap (λ (xs : List (ℕ × E)). v.said ++ map (λ (e : ℕ × E). (
              e.1,
              reply
                  (run next v.terms.opening.value h.log) e.1,
            )) xs) gained ∙ append-nil v.said;
            alone = λ lone. g.all ∙ append-nil h.log ∙ sym (ap (λ (k : HallHistory E). k.log) (found.lone lone));
          }

      said_by : (number place : ℕ) (event : E) (r : R) → Grew ((number, event) ∷ []) → place ≡ length h.log → place < 2 ^ 64 - 1
          → holds_on (run next v.terms.opening.value h.log) event ≡ false
          → r ≡ reply (run next v.terms.opening.value h.log) event
          → EntersEvent next holds_on reply v (view_after next reply v h b') number event place r
      said_by number place event r g at numbered free answer =
          let gained : drop (length h.log) (history_in h b').log ≡ (number, event) ∷ [] = ap (drop (length h.log)) g.all
          ∙ drop-append_seam h.log ((number, event) ∷ []) in
          let seen = log_length v.history h found.extends in
          let near = g.near in
          record {
            before = h.log;
            entry = g.all;
            place_is = sym at;
            numbered = numbered;
            free = free;
            reply_is = answer;
            settled = omega arith;
            later = omega arith;
            alone = λ lone. sym (ap (λ (k : HallHistory E). k.log) (found.lone lone));
            mine = ap (λ (xs : List (ℕ × E)). v.mine ++ map (λ _. length h.log) xs) gained ∙ ap (λ n. v.mine ++ n ∷ []) (sym at);
            said =
                ap (λ (xs : List (ℕ × E)). v.said ++ map (λ (e : ℕ × E). (e.1, reply (run next v.terms.opening.value h.log) e.1)) xs) gained
                ∙ ap (λ (q : R). v.said ++ (event, q) ∷ []) (sym answer);
          }

      -- the entries that an answer tells of
      abbrev entries_told : ℕ → E → Asked E R → List (ℕ × E)
      entries_told number event (Done place r) = (number, event) ∷ []
      entries_told number event (Held place back) = []
      entries_told number event (Spent entries back) = []
      entries_told number event (NoMemory back) = []

      few_told : (number : ℕ) (event : E) (answer : Asked E R) → GainsAtMostOne [] (entries_told number event answer)
      few_told number event (Done place r) = inr ((number, event), refl)
      few_told number event (Held place back) = inl refl
      few_told number event (Spent entries back) = inl refl
      few_told number event (NoMemory back) = inl refl

      grew_as_told : (number : ℕ) (event : E) (answer : Asked E R) → TurnEnsures b b' number event answer
          → Grew (entries_told number event answer)
      grew_as_told number event (Done place r) u = let d = u.done.2 in grew_by_one place (number, event) u.carries d.place_is d.entry
      grew_as_told number event (Held place back) u = grew_by_none u.carries (ap (λ (x : Book M E R). end_of_book x) u.held.4)
      grew_as_told number event (Spent entries back) u = grew_by_none u.carries (ap (λ (x : Book M E R). end_of_book x) u.spent.3)
      grew_as_told number event (NoMemory back) u = grew_by_none u.carries u.no_memory.3.ends

      answers_by : (number : ℕ) (event : E) (answer : Asked E R) → TurnEnsures b b' number event answer
          → AnsweredFromHistory next holds_on reply v (view_after next reply v h b') number event answer
      answers_by number event (Done place r) u =
          let d = u.done in let s = state_there in
          said_by number place event r (grew_as_told number event (Done place r) u) (d.2.place_is ∙ ends_there) d.0
          (ap (λ m. holds_on m event) (sym s) ∙ d.1) (d.2.reply_is ∙ ap (λ m. reply m event) s)
      answers_by number event (Held place back) u =
          let d = u.held in
          let g = grew_as_told number event (Held place back) u in
          let same : (history_in h b').log ≡ h.log = g.all ∙ append-nil h.log in (
            d.3,
            ap length same ∙ sym (d.0 ∙ ends_there),
            d.1,
            ap (λ xs. holds_on (run next v.terms.opening.value xs) event) same ∙ ap (λ m. holds_on m event) (sym state_there) ∙ d.2,
            silent_by g,
          )
      answers_by number event (Spent entries back) u =
          let d = u.spent in
          let g = grew_as_told number event (Spent entries back) u in
          let same : (history_in h b').log ≡ h.log = g.all ∙ append-nil h.log in
          (d.2, ap length same ∙ sym (d.0 ∙ ends_there), d.1, silent_by g)
      answers_by number event (NoMemory back) u =
          let d = u.no_memory in
          let g = grew_as_told number event (NoMemory back) u in
          let same : (history_in h b').log ≡ h.log = g.all ∙ append-nil h.log in
          let long = ap length same in
          let ends = ends_there in
          let numbered = d.1 in (
            d.0,
            omega arith,
            ap (λ xs. holds_on (run next v.terms.opening.value xs) event) same ∙ ap (λ m. holds_on m event) (sym state_there) ∙ d.2,
            silent_by g,
          )

      pub turn_keeps_promise : (number : ℕ) (event : E) (answer : Asked E R) → TurnEnsures b b' number event answer
          → TakesTurn next weight holds_on reply v h b' number event answer
      turn_keeps_promise number event answer u =
          let g = grew_as_told number event answer u in
          let few = few_told number event answer in
          record {
            gives = gives_by (entries_told number event answer) u.book u.limits g few;
            took = took_by (entries_told number event answer) g few;
            answered = answers_by number event answer u;
          }
