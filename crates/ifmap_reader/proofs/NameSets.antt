-- Whether the names of some attributes differ, by the set of those before each.
use Rattle.std.proofs.Common.{◌≡◌, ◌≢◌, ℕ, ◌+◌, ◌<◌, ◌≤◌, Bool, true, false, not, cond, ◌||◌, List, [], ◌∷◌, ◌++◌, take, drop, length, get_or, refl, ap, sym, ◌∙◌, subst, inl, inr, Bor}
use Rattle.std.specs.List.{list_any}
use Rattle.std.specs.Cmp.{IsTotalOrder, Equal-is, eq_by_cmp_equiv}
use Rattle.std.specs.Ordering.{is_eq}
use Rattle.std.proofs.lemmas.Bool.{cases_Bool, not-true, not-false}
use Rattle.std.proofs.lemmas.Cmp.{nat_list_cmp_total, then_total, on_total}
use Rattle.std.proofs.lemmas.List.{map-append, take_more, take_all, take-append-drop}
use Rattle.std.proofs.lemmas.List.Folds.{list_any-append}
use Rattle.ifmap_elem.specs.Arranged.{name_order}
use Rattle.ifmap_elem.specs.Scopes.{AllDiffer}
use Rattle.ifmap_elem.specs.declared.elements.Attribute.{Attribute}
use Rattle.ifmap_elem.specs.declared.elements.Name.{Name}
use Rattle.ifmap_lemmas.specs.Orderings.{both_equal}
use Rattle.ifmap_lemmas.specs.Texts.{same_texts}
use Rattle.ifmap_reader.proofs.NameLaws.{names, drop_gives_next}
use Rattle.ifmap_lemmas.specs.Members.{all_last}
use Rattle.ifmap_lemmas.specs.Deciding.{or_parts}
use Rattle.ifmap_lemmas.specs.Joined.{all_middle}

names_total : IsTotalOrder name_order
names_total = then_total (on_total (λ (n : Name). n.space) nat_list_cmp_total) (on_total (λ (n : Name). n.local) nat_list_cmp_total)

abbrev pub same_name : Name → Name → Bool
same_name m n = is_eq (name_order m n)

same_tells : (m n : Name) → same_name m n ≡ true → m ≡ n
same_tells m n e =
    let both = both_equal _ _ ((Equal-is (name_order m n)).0 e) in
    let s = same_texts m.space n.space both.0 in
    let l = same_texts m.local n.local both.1 in
    λ i. record { space = s i; local = l i }

same_itself : (n : Name) → same_name n n ≡ true
same_itself n = (eq_by_cmp_equiv names_total).refl n

same_swaps : (m n : Name) → same_name m n ≡ same_name n m
same_swaps m n = (eq_by_cmp_equiv names_total).symm m n

differ_last : (ns : List Name) (n : Name) → AllDiffer ns → list_any (same_name n) ns ≡ false → AllDiffer (ns ++ n ∷ [])
differ_last [] n d none = (tt, tt)
differ_last (m ∷ ms) n d none =
    let parts = or_parts (same_name n m) (list_any (same_name n) ms) none in (
      all_last (λ y. m ≢ y) ms n d.0 (λ e. let k : same_name n m ≡ true = subst (λ y. same_name n y ≡ true) (sym e)
          (same_itself n) in cc),
      differ_last ms n d.1 parts.1,
    )

differ_not : (ns : List Name) (n : Name) (more : List Name) → list_any (same_name n) ns ≡ true → AllDiffer (ns ++ n ∷ more) → ⊥
differ_not [] n more some d = cc
differ_not (m ∷ ms) n more some d = elim (cases_Bool (same_name n m)) [
  | inl e ↦ all_middle (λ y. m ≢ y) ms n more d.0 (sym (same_tells n m e))
  | inr e ↦ differ_not ms n more (let k : (false || list_any (same_name n) ms) ≡ true = ap (λ b. b || list_any (same_name n)
      ms) (sym e) ∙ some in k) d.1
]

or_last : (b c : Bool) → cond b true c ≡ (c || (b || false))
or_last true true = refl
or_last true false = refl
or_last false true = refl
or_last false false = refl

-- the names before an index differ, and a set has them
pub record Names-so-far (ts : List Attribute) (i : ℕ) (has : Bor Name → Bool) : Type 0 where
  pub differ : AllDiffer (names (take i ts))
  pub has_them : (n : Bor Name) → has n ≡ list_any (same_name n.now) (names (take i ts))

module _ (ts : List Attribute) (i : ℕ) (t : Attribute) (l : i < length ts) (is : t ≡ get_or ts i t) (has : Bor Name → Bool)
    (at : Names-so-far ts i has) (key : Bor Name) (k : key.now ≡ t.name) where
  abbrev before : List Name
  before = names (take i ts)

  more_is : names (take (i + 1) ts) ≡ before ++ t.name ∷ []
  more_is = ap names (take_more ts i t l ∙ ap (λ (u : Attribute). take i ts ++ u ∷ []) (sym is))
      ∙ map-append (λ (u : Attribute). u.name) (take i ts) (t ∷ [])

  whole_is : names ts ≡ before ++ t.name ∷ names (drop (i + 1) ts)
  whole_is =
      ap names (sym (take-append-drop i ts) ∙ ap (λ us. take i ts ++ us)
      (drop_gives_next ts i t l ∙ ap (λ (u : Attribute). u ∷ drop (i + 1) ts) (sym is)))
      ∙ map-append (λ (u : Attribute). u.name) (take i ts) (t ∷ drop (i + 1) ts)

  there_is : has key ≡ list_any (same_name t.name) before
  there_is = at.has_them key ∙ ap (λ n. list_any (same_name n) before) k

  pub name_added : (added : Bool) → added ≡ not (has key) → added ≡ true → (more : Bor Name → Bool)
      → ((n : Bor Name) → more n ≡ cond (same_name key.now n.now) true (has n)) → Names-so-far ts (i + 1) more
  name_added added tells holds more now = record {
    differ = subst AllDiffer (sym more_is) (differ_last before t.name at.differ (sym there_is ∙ not-true (has key) (sym tells ∙ holds)));
    has_them = λ n. now n ∙ ap (λ m. cond (same_name m n.now) true (has n)) k ∙ ap (λ b. cond (same_name t.name n.now) true b)
        (at.has_them n)
        ∙ or_last (same_name t.name n.now) (list_any (same_name n.now) before)
        ∙ ap (λ b. list_any (same_name n.now) before || (b || false)) (same_swaps t.name n.now)
        ∙ sym (list_any-append (same_name n.now) before (t.name ∷ [])) ∙ ap (list_any (same_name n.now)) (sym more_is);
  }

  pub name_twice : (added : Bool) → added ≡ not (has key) → added ≡ false → AllDiffer (names ts) → ⊥
  name_twice added tells fails d =
      differ_not before t.name (names (drop (i + 1) ts)) (sym there_is ∙ not-false (has key) (sym tells ∙ fails))
      (subst AllDiffer whole_is d)

pub no_names_yet : (ts : List Attribute) (has : Bor Name → Bool) → ((n : Bor Name) → has n ≡ false) → Names-so-far ts 0 has
no_names_yet ts has none = record { differ = tt; has_them = none }

pub names_all : (ts : List Attribute) (i : ℕ) (has : Bor Name → Bool) → length ts ≤ i → Names-so-far ts i has → AllDiffer (names ts)
names_all ts i has l at = subst (λ (us : List Attribute). AllDiffer (names us)) (take_all i ts l) at.differ
