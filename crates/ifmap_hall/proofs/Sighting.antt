-- What is seen of one history carries on what is seen of an earlier one, and what an answer says of the whole history it says of
-- what is seen.
use Rattle.std.proofs.Common.{◌≡◌, ℕ, ◌+◌, ◌-◌, ◌≤◌, List, [], ◌∷◌, ◌++◌, length, take, drop, Bool, true, false, cond, sym, ap, subst, ◌∙◌, arith, length-append, length-drop, take-add, drop-drop}
use Rattle.std.proofs.lemmas.List.{take-append-le, drop-append-le, take-append-drop}
use Rattle.ifmap_hall.specs.HallAsks.{TookATurn, AnsweredFromHistory, AnsweredFromBase}
use Rattle.ifmap_hall.specs.Books.{sight_of}
use Rattle.ifmap_hall.specs.Histories.{Extends, sight_in}
use Rattle.ifmap_hall.specs.Places.{times, merge}
use Rattle.ifmap_hall.specs.Plays.{FindsBook}
use Rattle.ifmap_hall.specs.SeatViews.{joint_seat, IsSoundSeat}
use Rattle.ifmap_hall.specs.Sights.{CarriesOn, run}
use Rattle.ifmap_hall.specs.Views.{is_later, joint_view, sight_by}
use Rattle.ifmap_hall.specs.declared.book.Asked.{Asked}
use Rattle.ifmap_hall.specs.declared.book.Asked.TheVariants.{Done, Held, Spent, NoMemory}
use Rattle.ifmap_hall.specs.declared.book.Book.{Book}
use Rattle.ifmap_hall.specs.declared.view.HallHistory.{HallHistory}
use Rattle.ifmap_hall.specs.declared.view.SeatView.{SeatView}
use Rattle.ifmap_hall.specs.declared.view.Terms.{Terms}
use Rattle.ifmap_hall.specs.declared.view.HallView.{HallView}
use Rattle.ifmap_hall.proofs.CarryingOn.{run-append}
use Rattle.ifmap_hall.proofs.Extending.{extends-itself, log_length}
use Rattle.ifmap_hall.proofs.Places.{times-merge, rises_once}

module _ {M E : Type 0} (next : M → E → M) where
  pub extends_carries : (o : M) (h k : HallHistory E) → Extends h k → h.from ≤ length h.log → k.from ≤ length k.log
      → CarriesOn next (sight_in next o h) (sight_in next o k)
  extends_carries o h k x in_h in_k =
      let le = x.from in
      let l : length (drop h.from h.log) ≡ length h.log - h.from = length-drop h.from h.log in
      let m : length (drop k.from k.log) ≡ length k.log - k.from = length-drop k.from k.log in
      let n = log_length h k x in
      let up : h.from + (k.from - h.from) ≡ k.from = omega arith in
      record {
        from = le;
        ends = omega arith;
        base = λ near. ap (λ zs. run next o (take k.from zs)) x.whole ∙ ap (run next o) (take-append-le k.from h.log x.rest (omega arith))
            ∙ ap (λ i. run next o (take i h.log)) (sym up) ∙ ap (run next o) (take-add h.from (k.from - h.from) h.log)
            ∙ run-append next o (take h.from h.log) (take (k.from - h.from) (drop h.from h.log));
        rest = λ near. (
          x.rest,
          ap (drop k.from) x.whole ∙ drop-append-le k.from h.log x.rest (omega arith)
              ∙ ap (λ zs. zs ++ x.rest) (sym (drop-drop (k.from - h.from) h.from h.log ∙ ap (λ i. drop i h.log) (omega arith))),
        );
      }

  -- the run from the base is the run from the opening state
  runs_through : (o : M) (n : ℕ) (xs : List (ℕ × E)) → run next (run next o (take n xs)) (drop n xs) ≡ run next o xs
  runs_through o n xs = sym (run-append next o (take n xs) (drop n xs)) ∙ ap (run next o) (take-append-drop n xs)

  joint_carries_by : (o : M) (h k : HallHistory E) (b : Bool) → h.from ≤ length h.log → k.from ≤ length k.log
      → Extends (cond b h k) (cond b k h)
      → CarriesOn next (sight_in next o h) (sight_in next o (cond b k h))
      × CarriesOn next (sight_in next o k) (sight_in next o (cond b k h))
  joint_carries_by o h k true in_h in_k x = (extends_carries o h k x in_h in_k, extends_carries o k k (extends-itself k) in_k in_k)
  joint_carries_by o h k false in_h in_k x = (extends_carries o h h (extends-itself h) in_h in_h, extends_carries o k h x in_k in_h)

module _ {M E R : Type 0} (next : M → E → M) where
  -- who took a turn carries on
  pub turn_carries : (v w : HallView M E R) → v.history.from ≤ length v.history.log → TookATurn v w
      → CarriesOn next (sight_by next v) (sight_by next w)
  turn_carries v w inside t =
      subst (λ (q : Terms M). CarriesOn next (sight_by next v) (sight_in next q.opening.value w.history)) (sym t.terms)
      (extends_carries next v.terms.opening.value v.history w.history t.history inside t.sound.inside)

  -- the book that is found carries on
  pub found_carries : (weight : E → ℕ) (v : HallView M E R) (h : HallHistory E) (b : Book M E R) → v.history.from ≤ length v.history.log
      → FindsBook next weight v h b → CarriesOn next (sight_by next v) (sight_of b)
  found_carries weight v h b inside f =
      subst (λ s. CarriesOn next (sight_by next v) s) (sym f.book.sight)
      (extends_carries next v.terms.opening.value v.history h f.extends inside f.book.inside)

  -- of two that are joined both are carried on
  pub joint_carries : (s u : SeatView M E R) → s.view.terms ≡ u.view.terms → s.view.history.from ≤ length s.view.history.log
      → u.view.history.from ≤ length u.view.history.log → IsSoundSeat (joint_seat s u)
      → CarriesOn next (sight_by next s.view) (sight_by next (joint_view s.view u.view))
      × CarriesOn next (sight_by next u.view) (sight_by next (joint_view s.view u.view))
  joint_carries s u same in_s in_u sound =
      let c = joint_carries_by next s.view.terms.opening.value s.view.history u.view.history
      (is_later s.view.history u.view.history) in_s in_u sound.joined in (
        c.0,
        subst (λ (q : Terms M). CarriesOn next (sight_in next q.opening.value u.view.history)
            (sight_by next (joint_view s.view u.view))) same c.1,
      )

  -- two that are joined have no place in common
  pub joint_apart : (s u : SeatView M E R) → IsSoundSeat (joint_seat s u) → (x : ℕ) → times x s.view.mine + times x u.view.mine ≤ 1
  joint_apart s u sound x =
      let t = times-merge x s.view.mine u.view.mine in
      let o = rises_once x 0 (merge s.view.mine u.view.mine) (length (joint_seat s u).view.history.log) sound.view.mine in omega arith

  -- what an answer says of what is seen
  pub answers_from_base : (holds_on : M → E → Bool) (reply : M → E → R) (v w : HallView M E R) (number : ℕ) (event : E) (answer : Asked E R)
      → TookATurn v w
      → AnsweredFromHistory next holds_on reply v w number event answer
      → AnsweredFromBase next holds_on reply (sight_by next w) number event answer
  answers_from_base holds_on reply v w number event (Done place r) t e =
      let h = w.history in
      let at = e.place_is in let settled = e.settled in
      let n : length h.log ≡ length e.before + 1 = ap length e.entry ∙ length-append e.before ((number, event) ∷ []) in
      let front : take h.from h.log ≡ take h.from e.before = ap (take h.from) e.entry
      ∙ take-append-le h.from e.before ((number, event) ∷ []) (omega arith) in
      let state : run next (sight_by next w).base (drop h.from e.before) ≡ run next v.terms.opening.value e.before =
      ap (λ (q : Terms M). run next (run next q.opening.value (take h.from h.log)) (drop h.from e.before)) t.terms
      ∙ ap (λ xs. run next (run next v.terms.opening.value xs) (drop h.from e.before)) front
      ∙ runs_through next v.terms.opening.value h.from e.before in (
        drop h.from e.before,
        ap (drop h.from) e.entry ∙ drop-append-le h.from e.before ((number, event) ∷ []) (omega arith),
        (let l = length-drop h.from h.log in omega arith),
        ap (λ m. holds_on m event) state ∙ e.free,
        e.reply_is ∙ ap (λ m. reply m event) (sym state),
      )
  answers_from_base holds_on reply v w number event (Held place back) t e =
      let h = w.history in
      let inside = t.sound.inside in
      let at = e.1 in
      let state : run next (sight_by next w).base (drop h.from h.log) ≡ run next v.terms.opening.value h.log =
      ap (λ (q : Terms M). run next (run next q.opening.value (take h.from h.log)) (drop h.from h.log)) t.terms
      ∙ runs_through next v.terms.opening.value h.from h.log in
      ((let l = length-drop h.from h.log in omega arith), ap (λ m. holds_on m event) state ∙ e.3)
  answers_from_base holds_on reply v w number event (Spent entries back) t e =
      let h = w.history in
      let inside = t.sound.inside in
      let at = e.1 in
      ((let l = length-drop h.from h.log in omega arith), e.2)
  answers_from_base holds_on reply v w number event (NoMemory back) t e = tt
