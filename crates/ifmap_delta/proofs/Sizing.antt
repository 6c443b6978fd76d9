-- The size of the next result: that of the one before, without what went and with what came. The two results share what
-- neither loses nor gains, and that has one size in both.
use Rattle.std.proofs.Common.{◌≡◌, inl, inr, ℕ, ◌+◌, true, false, not, ◌&&◌, List, [], ◌∷◌, length, sum_by, refl, ap, ◌∙◌}
use Rattle.std.proofs.Common.{sym, subst, arith}
use Rattle.std.proofs.lemmas.Bool.{and_parts}
use Rattle.std.proofs.lemmas.List.Filters.{sum_by-filter_both}
use Rattle.std.proofs.lemmas.List.Kept.{IsStrictlySortedBy-filter}
use Rattle.std.proofs.lemmas.List.Sums.{sum_by-cons}
use Rattle.std.specs.Cmp.{Equal-is, IsTotalOrder, tied_back}
use Rattle.std.specs.List.{filter, sum}
use Rattle.std.specs.List.Sorted.{IsStrictlySortedBy}
use Rattle.std.specs.Ordering.{is_eq, ordering_reverse}
use Rattle.std.specs.Str.{bytes_eq}
use Rattle.std.specs.declared.cmp.Ordering.{Ordering}
use Rattle.std.specs.declared.cmp.Ordering.TheVariants.{Less, Equal}
use Rattle.ifmap_elem.specs.Canonical.{canonical_bytes}
use Rattle.ifmap_ident.specs.declared.items.Item.{Item}
use Rattle.ifmap_ident.specs.declared.items.Item.TheVariants.{One, Pair}
use Rattle.ifmap_ident.specs.Identifiers.{identifier_bytes, same_identifier}
use Rattle.ifmap_ident.specs.Items.{item_size, same_item}
use Rattle.ifmap_lemmas.specs.Having.{Has, any_has, filter_has, has_any, has_filter, all_has}
use Rattle.ifmap_lemmas.specs.Rising.{head_rises, tail_rises}
use Rattle.ifmap_lemmas.specs.Texts.{eq_tells}
use Rattle.ifmap_lemmas.specs.Orderings.{not_both, not_equal}
use Rattle.ifmap_search.specs.declared.results.Entry.{Entry}
use Rattle.ifmap_search.specs.Sizes.{entries_size, entry_size}
use Rattle.ifmap_folds.specs.Differences.{difference, entry_bytes, entry_order, has_entry, same_entry}
use Rattle.ifmap_folds.specs.laws.FoldingLaws.{entries_tie, entries_total, same_turned}

-- two rising lists, of which each has what ties with a member of the other, have one sum of what ties give alike
module _ {X : Type 0} (order : X → X → Ordering) (total : IsTotalOrder order) (f : X → ℕ)
    (alike : (x y : X) → order x y ≡ Equal → f x ≡ f y) where
  less_left : (x y z : X) → order x y ≡ Equal → order x z ≡ Less → order y z ≡ Less
  less_left x y z e l = sym (total.congr x y z e) ∙ l

  less_right : (x y z : X) → order y z ≡ Equal → order x y ≡ Less → order x z ≡ Less
  less_right x y z e l =
      total.antisymm x z ∙ ap ordering_reverse (sym (total.congr y z x e) ∙ total.antisymm y x ∙ ap ordering_reverse l)

  abbrev Meets : List X → List X → Type 0
  Meets xs ys = (x : X) → Has xs x → (y : X) × Has ys y × (order x y ≡ Equal)

  pub one_sum : (xs ys : List X) → IsStrictlySortedBy order xs → IsStrictlySortedBy order ys → Meets xs ys → Meets ys xs
      → sum_by f xs ≡ sum_by f ys
  one_sum [] [] r q a b = refl
  one_sum [] (y ∷ ys) r q a b = absurd (b y (inl refl)).1
  one_sum (x ∷ xs) [] r q a b = absurd (a x (inl refl)).1
  one_sum (x ∷ xs) (y ∷ ys) r q a b =
      let below : (z : X) → Has xs z → order x z ≡ Less = λ z h. all_has (λ w. order x w ≡ Less) xs (head_rises order x xs r) z h
      in let above : (z : X) → Has ys z → order y z ≡ Less = λ z h. all_has (λ w. order y w ≡ Less) ys (head_rises order y ys q) z h
      in let heads : order x y ≡ Equal = first x y below above (a x (inl refl)) (b y (inl refl))
      in let rest : sum_by f xs ≡ sum_by f ys = one_sum xs ys (tail_rises order x xs r) (tail_rises order y ys q)
      (λ z h. later ys x y heads z (below z h) (a z (inr h)))
      (λ z h. later xs y x (tied_back total x y heads) z (above z h) (b z (inr h)))
      in omega (arith, alike x y heads, rest, sum_by-cons f x xs, sum_by-cons f y ys)
    where
      first : (x y : X) → ((z : X) → Has xs z → order x z ≡ Less) → ((z : X) → Has ys z → order y z ≡ Less)
          → (z : X) × Has (y ∷ ys) z × (order x z ≡ Equal) → (z : X) × Has (x ∷ xs) z × (order y z ≡ Equal) → order x y ≡ Equal
      first x y below above p q = elim p.1 [
        | inl e ↦ subst (λ v. order x v ≡ Equal) (sym e) p.2
        | inr h ↦ elim q.1 [
          | inl e ↦ tied_back total y x (subst (λ w. order y w ≡ Equal) (sym e) q.2)
          | inr k ↦ absurd (not_both total x y (less_right x q.0 y (tied_back total y q.0 q.2) (below q.0 k))
              (less_right y p.0 x (tied_back total x p.0 p.2) (above p.0 h)))
        ]
      ]

      later : (ys : List X) (x y : X) → order x y ≡ Equal → (z : X) → order x z ≡ Less → (w : X) × Has (y ∷ ys) w × (order z w ≡ Equal)
          → (w : X) × Has ys w × (order z w ≡ Equal)
      later ys x y heads z l p = elim p.1 [
        | inl e ↦ absurd (not_equal (order x y) (less_right x z y (subst (λ v. order z v ≡ Equal) (sym e) p.2) l) heads)
        | inr h ↦ (p.0, h, p.2)
      ]

-- identifiers and items that are the same have one size
same_lengths : (a b : List ℕ) → bytes_eq a b ≡ true → length a ≡ length b
same_lengths a b e = ap length (eq_tells a b e)

same_sizes : (x y : Item) → same_item x y ≡ true → item_size x ≡ item_size y
same_sizes (One a) (One b) e =
    let p = same_lengths (identifier_bytes a) (identifier_bytes b) (and_parts (same_identifier a b) true e).0
    in ap (λ n. sum (n ∷ [])) p
same_sizes (One a) (Pair b c) e = let q : false ≡ true = (and_parts (same_identifier a b) false e).1 in cc
same_sizes (Pair a b) (One c) e = let q : false ≡ true = (and_parts (same_identifier a c) false e).1 in cc
same_sizes (Pair a b) (Pair c d) e =
    let f = and_parts (same_identifier a c) (same_identifier b d && true) e
    in let g = and_parts (same_identifier b d) true f.1
    in let p = same_lengths (identifier_bytes a) (identifier_bytes c) f.0
    in let q = same_lengths (identifier_bytes b) (identifier_bytes d) g.0
    in ap (λ n. sum (n ∷ (length (identifier_bytes b) ∷ []))) p ∙ ap (λ n. sum (length (identifier_bytes c) ∷ (n ∷ []))) q

same_size : (x y : Entry) → same_entry x y ≡ true → entry_size x ≡ entry_size y
unfolding entry_size entry_bytes
same_size x y e =
    let p = and_parts (same_item x.item y.item) (bytes_eq (canonical_bytes x.element) (canonical_bytes y.element)) e
    in let i = same_sizes x.item y.item p.0
    in let l = same_lengths (canonical_bytes x.element) (canonical_bytes y.element) p.1
    in ap (λ n. n + length (canonical_bytes x.element)) i ∙ ap (λ n. item_size y.item + n) l

tied_size : (x y : Entry) → entry_order x y ≡ Equal → entry_size x ≡ entry_size y
tied_size x y e = same_size x y (entries_tie x y ∙ ap is_eq e)

-- what one list shares with another meets what that one shares with it
shared_meets_shared : (a b : List Entry) (x : Entry) → Has (filter (has_entry b) a) x
    → (y : Entry) × Has (filter (has_entry a) b) y × (entry_order x y ≡ Equal)
shared_meets_shared a b x h =
    let f = filter_has (has_entry b) a x h
    in let y = any_has (same_entry x) b f.1
    in let turned : same_entry y.0 x ≡ true = same_turned y.0 x ∙ y.2
    in (
      y.0,
      has_filter (has_entry a) b y.0 y.1 (has_any (same_entry y.0) a x f.0 turned),
      (Equal-is (entry_order x y.0)).0 (sym (entries_tie x y.0) ∙ y.2),
    )

pub sizes_differ : (a b : List Entry) → IsStrictlySortedBy entry_order a → IsStrictlySortedBy entry_order b → (before after : ℕ)
    → before ≡ entries_size a → after + entries_size (difference a b) ≡ before + entries_size (difference b a)
    → after ≡ entries_size b
sizes_differ a b r q before after is sums =
    omega (
      arith,
      is,
      sums,
      sum_by-filter_both (has_entry b) (λ x. not (has_entry b x)) (λ x. refl) entry_size a,
      sum_by-filter_both (has_entry a) (λ x. not (has_entry a x)) (λ x. refl) entry_size b,
      one_sum entry_order entries_total entry_size tied_size (filter (has_entry b) a) (filter (has_entry a) b)
          (IsStrictlySortedBy-filter entry_order (has_entry b) a r) (IsStrictlySortedBy-filter entry_order (has_entry a) b q)
          (shared_meets_shared a b) (shared_meets_shared b a),
    )
