-- Whether an assignment, assignments up to the end of a tag, and a tag stand at the front of bytes.
use Rattle.std.proofs.Common.{◌≡◌, ℕ, ◌<◌, true, false, List, [], ◌∷◌, ◌++◌, length, refl, ap, arith, length-append, inl, inr}
use Rattle.std.specs.Prelude.{◌==◌, ◌||◌}
use Rattle.std.specs.Str.{byte}
use Rattle.ifmap_lemmas.specs.Deciding.{Decided, begins_or_not, by_length, decided_both, decided_by, decided_test}
use Rattle.ifmap_elem.specs.Chars.{AllAre, IsCharacters, is_white, equals_sign, greater_than, less_than}
use Rattle.ifmap_elem.specs.Names.{name_bytes}
use Rattle.ifmap_elem.specs.Tokens.{TakesAssignment}
use Rattle.ifmap_elem.specs.Values.{IsValue}
use Rattle.ifmap_elem.specs.declared.tokens.Assignment.{Assignment}
use Rattle.ifmap_lexer.specs.Cutting.{Cuts, is_but}
use Rattle.ifmap_lexer.specs.Tags.{ClosesTag, IsAtEnd}
use Rattle.ifmap_elem.specs.declared.escaping.TextPlace.TheVariants.{Value}
use Rattle.ifmap_lexer.specs.There.{SomeAssignment, SomeAssignments, SomeGiven, SomeTag}
use Rattle.ifmap_lexer.proofs.AssignmentLaws.{SomeValue, no_white, some_name, no_value, some_value, assignment_found, goes_on_start}
use Rattle.ifmap_lexer.proofs.AssignmentLaws.{goes_on_next, some_first, tells_end, tag_name, tag_assignments, tag_found}
use Rattle.ifmap_lexer.proofs.deciding.Names.{name_or_none}
use Rattle.ifmap_lexer.proofs.deciding.Runs.{are_or_not, characters_or_not, cut_of}
use Rattle.ifmap_lexer.proofs.deciding.Values.{expansion_or_none, quoted_or_none}

given_or_none : (written : List ℕ) → Decided (SomeGiven written)
given_or_none written =
    decided_by
    (λ (h : IsCharacters written × (AllAre (is_but less_than) written × SomeValue written)). (h.1.1.0, h.0, h.1.0, h.1.1.1))
    (λ s. (s.1, (s.2, (s.0, s.3))))
    (decided_both (characters_or_not written)
    (decided_both (are_or_not (is_but less_than) written) (expansion_or_none Value written)))

assignment_after : (bytes white inner : List ℕ) → Cuts is_white bytes white inner → Decided (SomeAssignment bytes)
assignment_after bytes [] inner c = inr (no_white bytes [] inner c refl)
assignment_after bytes (b ∷ bs) inner c = elim (name_or_none inner) [
  | inr none ↦ inr (λ s. none (some_name bytes (b ∷ bs) inner c s))
  | inl n ↦ elim (quoted_or_none n.1) [
    | inr none ↦ inr (no_value bytes (b ∷ bs) inner c n.0 n.1 (n.2, n.3, n.4) (λ w r q. none (w, r, q)))
    | inl q ↦ elim (given_or_none q.0) [
      | inr none ↦ inr (λ s. none (some_value bytes (b ∷ bs) inner c n.0 n.1 (n.2, n.3, n.4) q.0 q.1 q.2 s))
      | inl g ↦
          let found = assignment_found bytes (b ∷ bs) inner c n.0 n.1 (n.2, n.3, n.4) q.0 q.1 q.2 g.0 (λ e. cc) (g.1, g.2, g.3) in
          inl (record { name = n.0; value = g.0 }, q.1, found)
    ]
  ]
]

pub assignment_or_none : (bytes : List ℕ) → Decided (SomeAssignment bytes)
assignment_or_none bytes = let c = cut_of is_white bytes in assignment_after bytes c.0 c.1 c.2

shorter : (bytes : List ℕ) (a : Assignment) (rest : List ℕ) → TakesAssignment bytes a rest → length rest < length bytes
shorter bytes a rest t =
    let q = t.given in
    let end : List ℕ = q.quote ∷ rest in
    let value : List ℕ = q.quote ∷ (t.written ++ end) in
    let sign : List ℕ = equals_sign ∷ (q.after ++ value) in
    omega (
      arith,
      ap length t.bytes_are,
      length-append t.white (name_bytes a.name ++ t.after),
      length-append (name_bytes a.name) t.after,
      ap length q.bytes_are,
      length-append q.before sign,
      length-append q.after value,
      length-append t.written end,
    )

-- assignments in a row

closes_or_not : (end : List ℕ) → Decided (ClosesTag end)
closes_or_not [] = inr (λ h. h)
closes_or_not (b ∷ bs) = decided_test (b == greater_than || b == byte "/")

at_end_or_not : (bytes : List ℕ) → Decided (IsAtEnd bytes)
at_end_or_not bytes =
    let c = cut_of is_white bytes in
    elim (closes_or_not c.1) [
      | inl closes ↦ inl (c.0, c.1, c.2.bytes_are, c.2.passes, closes)
      | inr fails ↦ inr (λ at.
          let tells = tells_end bytes c.0 c.1 false c.2 ((λ e. let wrong : false ≡ true = e in cc), (λ h. absurd (fails h))) in
          let wrong : false ≡ true = tells.1 at in
          cc)
    ]

assignments_from : (bytes : List ℕ) → ((rest : List ℕ) → length rest < length bytes → Decided (SomeAssignments rest))
    → Decided (SomeAssignments bytes)
assignments_from bytes others = elim (at_end_or_not bytes) [
  | inl at ↦ inl ([], at.1, record { white = at.0; assigned = at.2; is_white = at.3; closes = at.4 })
  | inr open_still ↦ elim (assignment_or_none bytes) [
    | inr none ↦ inr (λ s. none (some_first bytes open_still s))
    | inl a ↦ elim (others a.1 (shorter bytes a.0 a.1 a.2)) [
      | inl s ↦ inl (
        a.0 ∷ s.0,
        s.1,
        record {
          white = s.2.white;
          assigned = (a.1, a.2, s.2.assigned);
          is_white = s.2.is_white;
          closes = s.2.closes;
        },
      )
      | inr none ↦
          let next = goes_on_next bytes open_still bytes [] (a.0 ∷ []) a.0 a.1 (goes_on_start bytes [] refl) a.2 refl in
          inr (λ s. none (next.ahead s))
    ]
  ]
]

pub assignments_or_none : (bytes : List ℕ) → Decided (SomeAssignments bytes)
assignments_or_none bytes = by_length (λ rest. Decided (SomeAssignments rest)) assignments_from bytes

-- tags

pub tag_or_none : (bytes : List ℕ) → Decided (SomeTag bytes)
tag_or_none bytes = elim (begins_or_not (less_than ∷ []) bytes) [
  | inr none ↦ inr (λ s. none (name_bytes s.0.name ++ s.2.after, s.2.bytes_are))
  | inl b ↦ elim (name_or_none b.0) [
    | inr none ↦ inr (λ s. none (tag_name bytes b.0 b.1 s))
    | inl n ↦ elim (assignments_or_none n.1) [
      | inr none ↦ inr (λ s. none (tag_assignments bytes b.0 b.1 n.0 n.1 (n.2, n.3, n.4) s))
      | inl a ↦
          let found = tag_found bytes b.0 b.1 n.0 n.1 (n.2, n.3, n.4) a.0 a.1 a.2 in
          inl (record { name = n.0; assignments = a.0 }, a.1, found.0, found.1)
    ]
  ]
]
