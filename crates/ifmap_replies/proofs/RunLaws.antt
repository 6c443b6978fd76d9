-- Runs from the front: the entry in front with those that go on with its run, and the runs of the rest.
use Rattle.std.proofs.Common.{◌≡◌, ◌∙◌, ℕ, ◌+◌, ◌-◌, ◌<◌, ◌≤◌, suc, Bool, true, false, List, [], ◌∷◌, ◌++◌, map, length, get_or, take, drop}
use Rattle.std.proofs.Common.{refl, ap, sym, arith, append_assoc}
use Rattle.std.specs.Prelude.{if◌then◌else◌}
use Rattle.std.proofs.lemmas.List.{drop_all, drop_more}
use Rattle.ifmap_lemmas.specs.Joined.{cut_at_end}
use Rattle.ifmap_elem.specs.declared.elements.Child.{Child}
use Rattle.ifmap_elem.specs.declared.elements.Child as the
use Rattle.ifmap_elem.specs.declared.elements.Element.{Element}
use Rattle.ifmap_ident.specs.Items.{same_item}
use Rattle.ifmap_search.specs.declared.results.Entry.{Entry}
use Rattle.ifmap_replies.specs.declared.runs.Run.{Run}
use Rattle.ifmap_elem.specs.Building.{as_children}
use Rattle.ifmap_replies.specs.Results.{entry_children, run_element}
use Rattle.ifmap_replies.specs.Runs.{joined_runs, entry_elements, run_length, run_on, runs_of}

-- ---- how long a run is

run_length_by_test : (last entry : Entry) (entries : List Entry) (b : Bool) → same_item last.item entry.item ≡ b
    → run_length last (entry ∷ entries) ≡ (if b then suc (run_length entry entries) else 0)
run_length_by_test last entry entries b is i = if is i then suc (run_length entry entries) else 0

module _ (last : Entry) (xs : List Entry) (i : ℕ) (entry : Entry) (low : i < length xs) (there : entry ≡ get_or xs i entry) where
  here : drop i xs ≡ entry ∷ drop (i + 1) xs
  here = drop_more xs i entry low ∙ (λ j. sym there j ∷ drop (i + 1) xs)

  pub run_goes_on : same_item last.item entry.item ≡ true → run_length last (drop i xs) ≡ suc (run_length entry (drop (i + 1) xs))
  run_goes_on same = ap (run_length last) here ∙ run_length_by_test last entry (drop (i + 1) xs) true same

  pub run_stops : same_item last.item entry.item ≡ false → run_length last (drop i xs) ≡ 0
  run_stops other = ap (run_length last) here ∙ run_length_by_test last entry (drop (i + 1) xs) false other

pub run_ends : (last : Entry) (xs : List Entry) (i : ℕ) → length xs ≤ i → run_length last (drop i xs) ≡ 0
run_ends last xs i high = ap (run_length last) (drop_all i xs high)

-- ---- the run in front

abbrev front_run : Entry → List Entry → ℕ → Run
front_run first others n = run_on first.item (first.element ∷ entry_elements (take n others))

-- an entry before a run, as the test of their items says
runs_by_test : (first entry : Entry) (entries : List Entry) (run : Run) (runs : List Run) (n : ℕ) (b : Bool)
    → same_item first.item entry.item ≡ b → run ≡ front_run entry entries n → runs ≡ runs_of (drop n entries)
    → runs_of (entry ∷ entries) ≡ run ∷ runs
    → (if b then run_on first.item (first.element ∷ run.elements) ∷ runs else run_on first.item (first.element ∷ []) ∷ (run ∷ runs))
    ≡ front_run first (entry ∷ entries) (if b then suc n else 0) ∷ runs_of (drop (if b then suc n else 0) (entry ∷ entries))
runs_by_test first entry entries run runs n true is r rs all = λ i. run_on first.item (first.element ∷ (r i).elements) ∷ rs i
runs_by_test first entry entries run runs n false is r rs all = λ i. run_on first.item (first.element ∷ []) ∷ sym all i

pub front_is : (first : Entry) (others : List Entry)
    → runs_of (first ∷ others)
    ≡ front_run first others (run_length first others) ∷ runs_of (drop (run_length first others) others)
front_is first [] = refl
front_is first (entry ∷ entries) =
    let n = run_length entry entries in
    let all = front_is entry entries in
    ap (joined_runs first) all
    ∙ runs_by_test first entry entries (front_run entry entries n) (runs_of (drop n entries)) n (same_item first.item entry.item) refl refl
    refl all

-- ---- one run more

pub one_run : (all made more : List Child) (rest others : List Entry) (first : Entry) (run : Element) (n : ℕ) → rest ≡ first ∷ others
    → n ≡ run_length first others → run ≡ run_element (run_on first.item (first.element ∷ entry_elements (take n others)))
    → more ≡ made ++ the.Element run ∷ [] → made ++ entry_children rest ≡ all
    → more ++ entry_children (take (length others - n) (drop n others)) ≡ all
one_run all made more rest others first run n r long is pushed before =
    let left = cut_at_end others n in
    let front : runs_of rest ≡ front_run first others n ∷ runs_of (drop n others) =
    ap runs_of r ∙ front_is first others ∙ (λ i. front_run first others (sym long i) ∷ runs_of (drop (sym long i) others)) in
    let split : entry_children rest ≡ the.Element run ∷ entry_children (drop n others) =
    ap (λ runs. as_children (map run_element runs)) front ∙ (λ i. the.Element (sym is i) ∷ entry_children (drop n others)) in
    (λ i. pushed i ++ entry_children (left i)) ∙ append_assoc made (the.Element run ∷ []) (entry_children (drop n others))
    ∙ ap (λ cs. made ++ cs) (sym split) ∙ before
