-- The oldest entry goes to the base, and a new entry is written.
use Rattle.std.proofs.Common.{◌≡◌, ℕ, ◌+◌, ◌-◌, ◌^◌, ◌<◌, ◌≤◌, List, [], ◌∷◌, ◌++◌, zero, suc, length, drop, slice_index_or, refl, sym, ap, ◌∙◌, inl, inr, arith, length-append, length-drop, drop-drop, append-nil}
use Rattle.std.proofs.lemmas.Bool.{cases_lt}
use Rattle.std.proofs.lemmas.List.{nil_from_length}
use Rattle.std.proofs.lemmas.List.Elements.{recursion_from_All, All-from_recursion, All-append}
use Rattle.std.proofs.lemmas.List.Sums.{sum_by-cons, sum_by-append}
use Rattle.std.specs.Prelude.{sum_by}
use Rattle.ifmap_hall.specs.Sights.{CarriesOn}
use Rattle.ifmap_hall.specs.Answers.{IfNoMemory}
use Rattle.ifmap_hall.specs.Books.{IsBalanced, IsBook, sight_of}
use Rattle.ifmap_hall.specs.Turns.{Settles, HadToGo}
use Rattle.ifmap_hall.specs.declared.book.Asked.{Asked}
use Rattle.ifmap_hall.specs.declared.book.Asked.TheVariants.{Done, Held, Spent, NoMemory}
use Rattle.ifmap_hall.specs.declared.book.Book.{Book}
use Rattle.ifmap_hall.proofs.CarryingOn.{run-append, carries-itself, carries-through}

module _ {M E : Type 0} (next : M → E → M) (weight : E → ℕ) where
  settled_at : (m base : M) (from bytes limit heaviest : ℕ) (z : ℕ × E) (zs : List (ℕ × E))
      → IsBalanced next weight m (record { from = from; base = base; seen = z ∷ zs }) bytes limit heaviest → limit < bytes + heaviest
      → IsBalanced next weight m (record { from = from + 1; base = next base z.1; seen = zs }) (bytes - weight z.1) limit heaviest
  settled_at m base from bytes limit heaviest z zs b heavy =
      let sums : bytes ≡ weight z.1 + sum_by (λ (e : ℕ × E). weight e.1) zs = b.weighed ∙ sum_by-cons (λ (e : ℕ × E). weight e.1) z zs in
      let each = recursion_from_All (λ (e : ℕ × E). weight e.1 ≤ heaviest) (z ∷ zs) b.each in
      let light = each.0 in let within = b.within in let room = b.room in let places = b.places in
      record {
        state = b.state;
        weighed = omega arith;
        within = omega arith;
        each = All-from_recursion (λ (e : ℕ × E). weight e.1 ≤ heaviest) zs each.1;
        room = room;
        full = λ _. omega arith;
        places = omega arith;
      }

  pub settle_keeps_balance : (m base base' : M) (from bytes limit heaviest w : ℕ) (x : ℕ × E) (xs ys : List (ℕ × E))
      → 0 < length xs → x ≡ slice_index_or xs 0 x → ys ≡ drop 1 xs → base' ≡ next base x.1 → w ≡ weight x.1
      → IsBalanced next weight m (record { from = from; base = base; seen = xs }) bytes limit heaviest → limit < bytes + heaviest
      → IsBalanced next weight m (record { from = from + 1; base = base'; seen = ys }) (bytes - w) limit heaviest
  settle_keeps_balance m base base' from bytes limit heaviest w x [] ys some first rest stepped is b heavy = absurd (omega arith)
  settle_keeps_balance m base base' from bytes limit heaviest w x (z ∷ zs) ys some first rest stepped is b heavy =
      rw (rest, stepped, is, first) (settled_at m base from bytes limit heaviest z zs b heavy)

  pub one_end : (from : ℕ) (x : ℕ × E) (xs ys : List (ℕ × E)) → 0 < length xs → ys ≡ drop 1 xs → from + 1 + length ys ≡ from + length xs
  one_end from x [] ys some rest = absurd (omega arith)
  one_end from x (z ∷ zs) ys some rest = rw rest (omega arith)

  -- what carries on by one entry to the base
  pub one_carries : (base base' : M) (from : ℕ) (x : ℕ × E) (xs ys : List (ℕ × E))
      → 0 < length xs → x ≡ slice_index_or xs 0 x → ys ≡ drop 1 xs → base' ≡ next base x.1
      → CarriesOn next (record { from = from; base = base; seen = xs }) (record { from = from + 1; base = base'; seen = ys })
  one_carries base base' from x [] ys some first rest stepped = absurd (omega arith)
  one_carries base base' from x (z ∷ zs) ys some first rest stepped =
      let one : from + 1 - from ≡ 1 = omega arith in
      rw (rest, stepped, first) (record {
        from = omega arith;
        ends = omega arith;
        base = λ _. rw one refl;
        rest = λ _. ([], rw one (sym (append-nil zs)));
      })

  pub write_keeps_balance : (m m' base : M) (from bytes limit heaviest w p : ℕ) (e : E) (xs : List (ℕ × E))
      → m' ≡ next m e → w ≡ weight e → w ≤ heaviest → bytes + w ≤ limit → from + length xs < 2 ^ 64 - 1
      → IsBalanced next weight m (record { from = from; base = base; seen = xs }) bytes limit heaviest
      → IsBalanced next weight m' (record { from = from; base = base; seen = xs ++ (p, e) ∷ [] }) (bytes + w) limit heaviest
  write_keeps_balance m m' base from bytes limit heaviest w p e xs stepped is light fits free b =
      let full = b.full in let len = length-append xs ((p, e) ∷ []) in
      let one : sum_by (λ (u : ℕ × E). weight u.1) ((p, e) ∷ []) ≡ weight e = sum_by-cons (λ (u : ℕ × E). weight u.1) (p, e) []
      ∙ omega arith in
      record {
        state = stepped ∙ ap (λ n. next n e) b.state ∙ sym (run-append next base xs ((p, e) ∷ []));
        weighed = sym (sum_by-append (λ (u : ℕ × E). weight u.1) xs ((p, e) ∷ []) ∙ (let s = b.weighed in omega arith));
        within = fits;
        each = All-append (λ (u : ℕ × E). weight u.1 ≤ heaviest) xs ((p, e) ∷ []) b.each
            (All-from_recursion (λ (u : ℕ × E). weight u.1 ≤ heaviest) ((p, e) ∷ []) (rw (sym is) light, tt));
        room = b.room;
        full = λ some. let f = full some in omega arith;
        places = omega arith;
      }

  pub one_more : (base : M) (from p : ℕ) (e : E) (xs : List (ℕ × E))
      → CarriesOn next (record { from = from; base = base; seen = xs }) (record { from = from; base = base; seen = xs ++ (p, e) ∷ [] })
  one_more base from p e xs =
      let none : from - from ≡ 0 = omega arith in
      record {
        from = omega arith;
        ends = omega (arith, length-append xs ((p, e) ∷ []));
        base = λ _. rw none refl;
        rest = λ _. ((p, e) ∷ [], rw none refl);
      }

module _ {M E R : Type 0} (next : M → E → M) (weight : E → ℕ) where
  -- what settles and settles again settles
  pub settles_on : (b c d : Book M E R) → Settles next weight b c → Settles next weight c d → Settles next weight b d
  settles_on b c d s t = record {
    book = t.book;
    carries = carries-through next (sight_of b) (sight_of c) (sight_of d) s.carries t.carries;
    machine = t.machine ∙ s.machine;
    limits = record { limit = t.limits.limit ∙ s.limits.limit; heaviest = t.limits.heaviest ∙ s.limits.heaviest };
    ends = t.ends ∙ s.ends;
  }

  -- what settles leaves the rest of the journal
  left_of : (b c : Book M E R) → Settles next weight b c → c.journal.items ≡ drop (c.from - b.from) b.journal.items
  left_of b c s =
      let ends = s.ends in
      let r = s.carries.rest (omega arith) in
      let l : length c.journal.items ≡ (length b.journal.items - (c.from - b.from)) + length r.0 =
      ap length r.1 ∙ length-append (drop (c.from - b.from) b.journal.items) r.0
      ∙ ap (λ n. n + length r.0) (length-drop (c.from - b.from) b.journal.items) in
      let from = s.carries.from in
      r.1 ∙ ap (λ ys. drop (c.from - b.from) b.journal.items ++ ys) (nil_from_length r.0 (omega arith))
      ∙ append-nil (drop (c.from - b.from) b.journal.items)

  -- the oldest entry had to go where there was no room
  pub one_had_to_go : (b c : Book M E R) → IsBook next weight b → c.from ≤ b.from + 1 → (heavy : ℕ) → b.limit < b.bytes + heavy
      → HadToGo weight b c heavy
  one_had_to_go b c book one heavy full zero k = let w = book.weighed in omega arith
  one_had_to_go b c book one heavy full (suc n) k = absurd (omega arith)

  -- what had to go, and had to go after it
  pub had_to_go_on : (b c d : Book M E R) (heavy : ℕ) → Settles next weight b c → HadToGo weight b c heavy → c.from ≤ d.from
      → HadToGo weight c d heavy → HadToGo weight b d heavy
  had_to_go_on b c d heavy s few up more k below = elim (cases_lt k (c.from - b.from)) [
    | inl early ↦ few k early
    | inr late ↦
        let n = c.from - b.from in
        let from = s.carries.from in
        let at : n + (k - n) ≡ k = omega arith in
        let same : drop (k - n) c.journal.items ≡ drop k b.journal.items = ap (drop (k - n)) (left_of b c s)
        ∙ drop-drop (k - n) n b.journal.items ∙ ap (λ i. drop i b.journal.items) (omega arith) in
        let limit = s.limits.limit in
        let sums = ap (λ (es : List (ℕ × E)). sum_by (λ (e : ℕ × E). weight e.1) es) same in
        let over = more (k - n) (omega arith) in
        omega arith
  ]

  -- where the base is the same, nothing changed
  pub settles_none : (b : Book M E R) (base : M) → base ≡ b.base → IsBook next weight b → Settles next weight b (record b { base = base })
  settles_none b base same book = rw same (record {
    book = book;
    carries = carries-itself next (sight_of b);
    machine = refl;
    limits = record { limit = refl; heaviest = refl };
    ends = refl;
  })

  -- what was wanting for memory after entries had settled
  pub wanting_on : (b c d : Book M E R) (event : E) (P Q : Type 0) (answer : Asked E R) → Settles next weight b c → P → Q
      → IfNoMemory answer (λ back. (back ≡ event) × Settles next weight c d)
      → IfNoMemory answer (λ back. (back ≡ event) × P × Q × Settles next weight b d)
  wanting_on b c d event P Q (Done place r) s p q h = tt
  wanting_on b c d event P Q (Held place back) s p q h = tt
  wanting_on b c d event P Q (Spent entries back) s p q h = tt
  wanting_on b c d event P Q (NoMemory back) s p q h = (h.0, p, q, settles_on b c d s h.1)
