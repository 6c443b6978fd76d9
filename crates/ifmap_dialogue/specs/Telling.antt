-- What turns leave at a desk, turn after turn.
use Rattle.std.proofs.Common.{◌≡◌, ℕ, ◌+◌, List, [], ◌∷◌, ◌++◌, None, Some, refl, sym, ap, subst, ◌∙◌, append_assoc, append-nil, length, length-append, arith}
use Rattle.std.specs.Prelude.{Option, Bool, cond, count_by}
use Rattle.std.proofs.lemmas.Grind.{flat_map-append}
use Rattle.std.proofs.lemmas.List.Elements.{All-append, All-head, All-nil}
use Rattle.std.proofs.lemmas.List.Sums.{sum_by-append}
use Rattle.ifmap_dialogue.specs.Desks.{Call, CountsOn, DeskSeen, FitsAsked, Gains, CountRises, DeskTakesTurns, Turn, call_of, calls, is_held_back, is_spent}

rises_none : (n : ℕ) → CountRises 0 n n
rises_none n = record { least = omega arith; most = omega arith }

rises_more : (m n a b c : ℕ) → CountRises m a b → CountRises n b c → CountRises (m + n) a c
rises_more m n a b c p q = record {
  least = omega (arith, p.least, p.most, q.least, q.most);
  most = omega (arith, p.most, q.most);
}

gains_none : (before : Option (List Call)) → Gains before before []
gains_none None = tt
gains_none (Some all) = (all, refl, sym (append-nil all))

gains_more : (a b c : Option (List Call)) (xs ys : List Call) → Gains a b xs → Gains b c ys → Gains a c (xs ++ ys)
gains_more a b None xs ys p q = tt
gains_more a b (Some all) xs ys p (former, told, is) =
    let (first, was, grew) = subst (λ (o : Option (List Call)). Gains a o xs) told p in
    (first, was, is ∙ ap (λ l. l ++ ys) grew ∙ append_assoc first xs ys)

counts_on_none : (before : Option ℕ) → CountsOn before before 0
counts_on_none None = tt
counts_on_none (Some all) = (all, refl, omega arith)

counts_on_more : (m n : ℕ) (a b c : Option ℕ) → CountsOn a b m → CountsOn b c n → CountsOn a c (m + n)
counts_on_more m n a b None p q = tt
counts_on_more m n a b (Some all) p (former, told, is) =
    let (first, was, grew) = subst (λ (o : Option ℕ). CountsOn a o m) told p in (first, was, omega (arith, is, grew))

-- how many of two lists pass a test
count_more : (p : Turn → Bool) (first then : List Turn) → count_by p (first ++ then) ≡ count_by p first + count_by p then
count_more p first then = sum_by-append (λ (t : Turn). cond (p t) 1 0) first then

-- no turn leaves nothing
pub tells_none : {H : Type 0} (desk : DeskSeen H) → DeskTakesTurns desk desk []
tells_none desk = record {
  said = gains_none desk.said;
  count = counts_on_none desk.turns;
  held = rises_none desk.held;
  spent = rises_none desk.spent;
  home = refl;
  loan = refl;
  fit = All-nil (λ (t : Turn). FitsAsked t.event t.asked);
}

-- turns after turns
pub tells_more : {H : Type 0} (a b c : DeskSeen H) (first then : List Turn) → DeskTakesTurns a b first → DeskTakesTurns b c then →
    DeskTakesTurns a c (first ++ then)
tells_more a b c first then p q = record {
  said = subst (λ (l : List Call). Gains a.said c.said l)
      (sym (flat_map-append (λ (turn : Turn). call_of turn.event turn.asked) first then))
      (gains_more a.said b.said c.said (calls first) (calls then) p.said q.said);
  count = subst (λ (n : ℕ). CountsOn a.turns c.turns n) (sym (length-append first then))
      (counts_on_more (length first) (length then) a.turns b.turns c.turns p.count q.count);
  held = subst (λ (n : ℕ). CountRises n a.held c.held) (sym (count_more is_held_back first then))
      (rises_more (count_by is_held_back first) (count_by is_held_back then) a.held b.held c.held p.held q.held);
  spent = subst (λ (n : ℕ). CountRises n a.spent c.spent) (sym (count_more is_spent first then))
      (rises_more (count_by is_spent first) (count_by is_spent then) a.spent b.spent c.spent p.spent q.spent);
  home = q.home ∙ p.home;
  loan = q.loan ∙ p.loan;
  fit = All-append (λ (t : Turn). FitsAsked t.event t.asked) first then p.fit q.fit;
}

-- the one turn is answered as its event can be
pub fits_one : {H : Type 0} (a b : DeskSeen H) (turn : Turn) → DeskTakesTurns a b (turn ∷ []) → FitsAsked turn.event turn.asked
fits_one a b turn p = All-head (λ (t : Turn). FitsAsked t.event t.asked) turn [] p.fit
