-- Trees of last moments.
-- First: a walk from a place to the root leaves all nodes in order but those above where it stands (`Walks`). Then: what
-- stands at the root is the least last moment (`root_least`, `root_there`). Last: the places that are due are found level by
-- level: the children of what is due in one level hold all that is due in the next (`due_below`).
use Rattle.std.proofs.Common.{◌≡◌, ◌≢◌, ◌⊎◌, refl, sym, ◌∙◌, ap, subst, ℕ, zero, suc, ◌+◌, ◌-◌, ◌*◌, ◌/◌, ◌%◌, ◌<◌, ◌≤◌, min, Bool, false, cond, List, [], ◌∷◌, length, set, filter, inl, inr, arith, mod-lt}
use Rattle.std.proofs.lemmas.Bool.{cases_Bool, cases_lt}
use Rattle.std.proofs.lemmas.Bool.Decides.{nat_tests}
use Rattle.std.proofs.lemmas.List.{get_or-set_same, get_or-set_other, length-set}
use Rattle.std.proofs.lemmas.Nat.{div-add-mod'}
use Rattle.std.proofs.lemmas.List.Elements.{All-from_recursion}
use Rattle.std.specs.List.{All, AllByRecursion}
use Rattle.ifmap_lemmas.specs.Filters.{all_filter}
use Rattle.ifmap_session.specs.LastMoments.{IsPower, IsTree, SetsLastMoment, node_value, children_of, doubled_number, due_nodes, is_due, numbers_from}

-- a number halved so often
abbrev pub half : ℕ → ℕ → ℕ
half zero node = node
half (suc n) node = half n (node / 2)

-- k is above the node: its half, the half of that, and so on
abbrev pub Above : ℕ → ℕ → Type 0
Above k node = (n : ℕ) × (half (suc n) node ≡ k)

half_of_none : (n : ℕ) → half n 0 ≡ 0
half_of_none zero = refl
half_of_none (suc n) = half_of_none n

pub record Halved (node : ℕ) : Type 0 where
  pub is : (node ≡ 2 * (node / 2)) ⊎ (node ≡ 2 * (node / 2) + 1)

half_of : (node : ℕ) → Halved node
half_of node =
    let d = div-add-mod' node 2 in
    let m : node % 2 < 2 = mod-lt node (omega arith) in
    record { is = elim (cases_lt (node % 2) 1) [ inl low ↦ inl (omega arith) | inr high ↦ inr (omega arith) ] }

-- the node is the lesser of its children
abbrev pub IsLesser : List ℕ → ℕ → Type 0
IsLesser tree k = node_value tree k ≡ min (node_value tree (2 * k)) (node_value tree (2 * k + 1))

-- where a walk from a place stands
pub record Walks (width place last_moment : ℕ) (old tree : List ℕ) (node : ℕ) : Type 0 where
  pub long : length tree ≡ 2 * width
  pub low : 1 ≤ node
  pub high : node < 2 * width
  pub lesser : (k : ℕ) → 1 ≤ k → k < width → IsLesser tree k ⊎ Above k node
  pub there : node_value tree (width + place) ≡ last_moment
  pub others : (k : ℕ) → width ≤ k → k < 2 * width → (k ≡ width + place) ⊎ (node_value tree k ≡ node_value old k)

pub walk_begins : (width place last_moment : ℕ) (old : List ℕ) → IsTree width old → place < width
    → Walks width place last_moment old (set old (width + place) last_moment) (width + place)
walk_begins width place last_moment old t within = record {
  long = length-set old (width + place) last_moment ∙ t.long;
  low = omega arith;
  high = omega arith;
  lesser = λ k one less.
      let h = half_of (width + place) in
      elim (cases_lt ((width + place) / 2) k) [
        | inl below ↦ inl (kept k one less (elim h.is [ inl e ↦ omega arith | inr e ↦ omega arith ])
            (elim h.is [ inl e ↦ omega arith | inr e ↦ omega arith ]))
        | inr above ↦ elim (cases_lt k ((width + place) / 2)) [
          | inl past ↦ inl (kept k one less (elim h.is [ inl e ↦ omega arith | inr e ↦ omega arith ])
              (elim h.is [ inl e ↦ omega arith | inr e ↦ omega arith ]))
          | inr not_past ↦ inr (0, omega arith)
        ]
      ];
  there = get_or-set_same old (width + place) last_moment 0 (omega (arith, t.long));
  others = λ k low high. elim (cases_lt k (width + place)) [
    | inl l ↦ inr (get_or-set_other old (width + place) k last_moment 0 (omega arith))
    | inr g ↦ elim (cases_lt (width + place) k) [
      | inl l ↦ inr (get_or-set_other old (width + place) k last_moment 0 (omega arith))
      | inr e ↦ inl (omega arith)
    ]
  ];
} where
  kept : (k : ℕ) → 1 ≤ k → k < width → 2 * k ≢ width + place → 2 * k + 1 ≢ width + place → IsLesser (set old (width + place) last_moment) k
  kept k one less a b =
      rw (
        get_or-set_other old (width + place) k last_moment 0 (omega arith),
        get_or-set_other old (width + place) (2 * k) last_moment 0 a,
        get_or-set_other old (width + place) (2 * k + 1) last_moment 0 b,
      ) (t.lesser k one less)

-- one step up
pub walk_on : (width place last_moment : ℕ) (old tree : List ℕ) (node lesser : ℕ) → Walks width place last_moment old tree node → 1 < node
    → lesser ≡ min (node_value tree (2 * (node / 2))) (node_value tree (2 * (node / 2) + 1))
    → Walks width place last_moment old (set tree (node / 2) lesser) (node / 2)
walk_on width place last_moment old tree node lesser w more is = record {
  long = length-set tree (node / 2) lesser ∙ w.long;
  low = elim (half_of node).is [ inl e ↦ omega arith | inr e ↦ omega arith ];
  high = omega arith;
  lesser = λ k one less. elim (cases_lt k (node / 2)) [
    | inl below ↦ other k one less (omega arith)
    | inr not_below ↦ elim (cases_lt (node / 2) k) [
      | inl past ↦ other k one less (omega arith)
      | inr e ↦ inl (subst (λ j. IsLesser (set tree (node / 2) lesser) j) (omega arith) here)
    ]
  ];
  there = get_or-set_other tree (node / 2) (width + place) lesser 0 (omega arith) ∙ w.there;
  others = λ k low high. elim (w.others k low high) [
    | inl e ↦ inl e
    | inr e ↦ inr (get_or-set_other tree (node / 2) k lesser 0 (omega arith) ∙ e)
  ];
} where
  in_front : node / 2 < width
  in_front = let h = w.high in elim (half_of node).is [ inl e ↦ omega arith | inr e ↦ omega arith ]

  positive : 1 ≤ node / 2
  positive = elim (half_of node).is [ inl e ↦ omega arith | inr e ↦ omega arith ]

  here : IsLesser (set tree (node / 2) lesser) (node / 2)
  here =
      let p = positive in
      rw (
        get_or-set_same tree (node / 2) lesser 0 (let l = w.long in let f = in_front in omega arith),
        get_or-set_other tree (node / 2) (2 * (node / 2)) lesser 0 (omega arith),
        get_or-set_other tree (node / 2) (2 * (node / 2) + 1) lesser 0 (omega arith),
      ) is

  kept : (k : ℕ) → k ≢ node / 2 → 2 * k ≢ node / 2 → 2 * k + 1 ≢ node / 2 → IsLesser tree k → IsLesser (set tree (node / 2) lesser) k
  kept k a b c was =
      rw (
        get_or-set_other tree (node / 2) k lesser 0 a,
        get_or-set_other tree (node / 2) (2 * k) lesser 0 b,
        get_or-set_other tree (node / 2) (2 * k + 1) lesser 0 c,
      ) was

  -- of those above the node all but its half are above its half
  still : (k : ℕ) → k ≢ node / 2 → Above k node → Above k (node / 2)
  still k apart (zero, e) = absurd (apart (sym e))
  still k apart (suc n, e) = (n, e)

  other : (k : ℕ) → 1 ≤ k → k < width → k ≢ node / 2 → IsLesser (set tree (node / 2) lesser) k ⊎ Above k (node / 2)
  other k one less apart =
      let h = half_of (node / 2) in
      elim (cases_lt (node / 2 / 2) k) [
        | inl below ↦ elim (w.lesser k one less) [
          | inl was ↦ inl (kept k apart (elim h.is [ inl e ↦ omega arith | inr e ↦ omega arith ])
              (elim h.is [ inl e ↦ omega arith | inr e ↦ omega arith ]) was)
          | inr above ↦ inr (still k apart above)
        ]
        | inr not_below ↦ elim (cases_lt k (node / 2 / 2)) [
          | inl past ↦ elim (w.lesser k one less) [
            | inl was ↦ inl (kept k apart (elim h.is [ inl e ↦ omega arith | inr e ↦ omega arith ])
                (elim h.is [ inl e ↦ omega arith | inr e ↦ omega arith ]) was)
            | inr above ↦ inr (still k apart above)
          ]
          | inr here ↦ inr (0, omega arith)
        ]
      ]

-- at the root
pub walk_ends : (width place last_moment : ℕ) (old tree : List ℕ) (node : ℕ) → Walks width place last_moment old tree node → node ≤ 1
    → SetsLastMoment width place last_moment old tree
walk_ends width place last_moment old tree node w end = record {
  tree = record {
    long = w.long;
    lesser = λ k one less. elim (w.lesser k one less) [ inl is ↦ is | inr above ↦ absurd (none k one above) ];
  };
  there = w.there;
  others = w.others;
} where
  none : (k : ℕ) → 1 ≤ k → Above k node → ⊥
  none k one above =
      let low = w.low in
      let root : node ≡ 1 = omega arith in
      let e : half (suc above.0) 1 ≡ k = subst (λ m. half (suc above.0) m ≡ k) root above.1 in
      let z : half above.0 0 ≡ k = e in
      let o = sym (half_of_none above.0) ∙ z in omega arith

-- what stands at the root is no greater than what stands anywhere
least_by : (fuel width : ℕ) (tree : List ℕ) → IsTree width tree → (k : ℕ) → k ≤ fuel → 1 ≤ k → k < 2 * width → node_value tree 1 ≤
    node_value tree k
least_by zero width tree t k few one less = absurd (omega arith)
least_by (suc fuel) width tree t k few one less =
    elim (cases_lt 1 k) [
      | inl more ↦
          let h = half_of k in
          let p : 1 ≤ k / 2 = elim h.is [ inl e ↦ omega arith | inr e ↦ omega arith ] in
          let q : k / 2 < width = elim h.is [ inl e ↦ omega arith | inr e ↦ omega arith ] in
          let f : k / 2 ≤ fuel = elim h.is [ inl e ↦ omega arith | inr e ↦ omega arith ] in
          let up : node_value tree 1 ≤ node_value tree (k / 2) = least_by fuel width tree t (k / 2) f p (omega arith) in
          let is = t.lesser (k / 2) p q in
          elim h.is [
            | inl e ↦ subst (λ j. node_value tree 1 ≤ node_value tree j) (sym e) (omega arith)
            | inr e ↦ subst (λ j. node_value tree 1 ≤ node_value tree j) (sym e) (omega arith)
          ]
      | inr here ↦ let e : k ≡ 1 = omega arith in subst (λ j. node_value tree 1 ≤ node_value tree j) (sym e) (omega arith)
    ]

pub root_least : (width : ℕ) (tree : List ℕ) → IsTree width tree → (k : ℕ) → 1 ≤ k → k < 2 * width → node_value tree 1 ≤ node_value tree k
root_least width tree t k one less = least_by k width tree t k (omega arith) one less

-- what stands at a node stands at a place too
place_by : (fuel width : ℕ) (tree : List ℕ) → IsTree width tree → (k : ℕ) → 2 * width ≤ fuel + k → 1 ≤ k → k < 2 * width
    → (place : ℕ) × (place < width) × (node_value tree (width + place) ≡ node_value tree k)
place_by zero width tree t k few one less = absurd (omega arith)
place_by (suc fuel) width tree t k few one less =
    elim (cases_lt k width) [
      | inl inner ↦
          let is = t.lesser k one inner in
          elim (cases_lt (node_value tree (2 * k)) (node_value tree (2 * k + 1))) [
            | inl l ↦ let p = place_by fuel width tree t (2 * k) (omega arith) (omega arith) (omega arith) in (p.0, p.1, omega arith)
            | inr g ↦ let p = place_by fuel width tree t (2 * k + 1) (omega arith) (omega arith) (omega arith) in (p.0, p.1, omega arith)
          ]
      | inr outer ↦ (k - width, omega arith, ap (node_value tree) (omega arith))
    ]

pub root_there : (width : ℕ) (tree : List ℕ) → IsTree width tree → 1 ≤ width
    → (place : ℕ) × (place < width) × (node_value tree (width + place) ≡ node_value tree 1)
root_there width tree t some = place_by (2 * width) width tree t 1 (omega arith) (omega arith) (omega arith)

-- levels
double_again : (times n : ℕ) → doubled_number times (2 * n) ≡ 2 * doubled_number times n
double_again zero n = refl
double_again (suc times) n = double_again times (2 * n)

no_less : (times n : ℕ) → n ≤ doubled_number times n
no_less zero n = omega arith
no_less (suc times) n = let h = no_less times (2 * n) in omega arith

pub power_again : (width : ℕ) → IsPower width → IsPower (2 * width)
power_again width p = (suc p.0, ap (λ n. 2 * n) p.1 ∙ sym (double_again p.0 1))

-- where a walk down stands: at a level that is full
pub record Level (width : ℕ) (tree : List ℕ) (limit : ℕ) (nodes : List ℕ) (first : ℕ) : Type 0 where
  pub low : 1 ≤ first
  pub up : (times : ℕ) × (width ≡ doubled_number times first)
  pub due : nodes ≡ filter (is_due tree limit) (numbers_from first first)

pub root_within : (width : ℕ) (tree : List ℕ) → IsTree width tree → IsPower width → 1 < length tree
root_within width tree t p = let n = no_less p.0 1 in let e = p.1 in let long = t.long in omega arith

pub level_begins : (width : ℕ) (tree : List ℕ) (limit : ℕ) → IsPower width → Level width tree limit (filter (is_due tree limit) (1 ∷ [])) 1
level_begins width tree limit p = record { low = omega arith; up = p; due = refl }

twice_fits : (width first times : ℕ) → width ≡ doubled_number times first → first < width → (n : ℕ) × (width ≡ doubled_number n (2 * first))
twice_fits width first zero e less = absurd (omega arith)
twice_fits width first (suc times) e less = (times, e)

all_numbers : (P : ℕ → Type 0) (first n : ℕ) → ((k : ℕ) → first ≤ k → k < first + n → P k) → AllByRecursion P (numbers_from first n)
all_numbers P first zero f = tt
all_numbers P first (suc n) f =
    (f first (omega arith) (omega arith), all_numbers P (first + 1) n (λ k low high. f k (omega arith) (omega arith)))

level_within : (width : ℕ) (tree : List ℕ) (limit first : ℕ) (nodes : List ℕ) → Level width tree limit nodes first → first < width
    → 2 * first ≤ width
level_within width tree limit first nodes l less =
    let t = twice_fits width first l.up.0 l.up.1 less in let n = no_less t.0 (2 * first) in let e = t.1 in omega arith

pub level_children : (width : ℕ) (tree : List ℕ) (limit first : ℕ) (nodes : List ℕ) → IsTree width tree → Level width tree limit nodes first
    → first < width → All (λ node. 2 * node + 1 < length tree) nodes
level_children width tree limit first nodes t l less =
    let fits = level_within width tree limit first nodes l less in
    let long = t.long in
    rw l.due (All-from_recursion (λ node. 2 * node + 1 < length tree) (filter (is_due tree limit) (numbers_from first first))
    (all_filter (λ node. 2 * node + 1 < length tree) (is_due tree limit) (numbers_from first first)
    (all_numbers (λ node. 2 * node + 1 < length tree) first first (λ k low high. omega arith))))

children_twice : (first n : ℕ) → children_of (numbers_from first n) ≡ numbers_from (2 * first) (2 * n)
children_twice first zero = refl
children_twice first (suc n) =
    let two : 2 * suc n ≡ suc (suc (2 * n)) = omega arith in
    let next : 2 * (first + 1) ≡ 2 * first + 1 + 1 = omega arith in
    rw two (ap (λ xs. (2 * first) ∷ ((2 * first + 1) ∷ xs)) (children_twice (first + 1) n ∙ ap (λ k. numbers_from k (2 * n)) next))

-- two more in front
front_two : (p : ℕ → Bool) (a b : ℕ) (xs ys : List ℕ) → filter p xs ≡ filter p ys → filter p (a ∷ (b ∷ xs)) ≡ filter p (a ∷ (b ∷ ys))
front_two p a b xs ys e =
    ap (λ zs. cond (p a) (a ∷ cond (p b) (b ∷ zs) zs) (cond (p b) (b ∷ zs) zs)) e

not_due : (tree : List ℕ) (limit x y : ℕ) → is_due tree limit x ≡ false → node_value tree x ≤ node_value tree y → is_due tree limit y ≡
    false
not_due tree limit x y e le = grind (arith, nat_tests)

due_below : (tree : List ℕ) (limit : ℕ) (xs : List ℕ) → AllByRecursion (IsLesser tree) xs
    → filter (is_due tree limit) (children_of (filter (is_due tree limit) xs)) ≡ filter (is_due tree limit) (children_of xs)
due_below tree limit [] all = refl
due_below tree limit (x ∷ xs) all =
    elim (cases_Bool (is_due tree limit x)) [
      | inl hit ↦ rw hit (front_two (is_due tree limit) (2 * x) (2 * x + 1) (children_of (filter (is_due tree limit) xs)) (children_of xs)
          (due_below tree limit xs all.1))
      | inr miss ↦
          let lesser = all.0 in
          let left : is_due tree limit (2 * x) ≡ false = not_due tree limit x (2 * x) miss (omega arith) in
          let right : is_due tree limit (2 * x + 1) ≡ false = not_due tree limit x (2 * x + 1) miss (omega arith) in
          rw (miss, left, right) (due_below tree limit xs all.1)
    ]

pub level_next : (width : ℕ) (tree : List ℕ) (limit first : ℕ) (nodes next : List ℕ) → IsTree width tree
    → Level width tree limit nodes first → first < width → next ≡ filter (is_due tree limit) (children_of nodes)
    → Level width tree limit next (first * 2)
level_next width tree limit first nodes next t l less e =
    let fits = level_within width tree limit first nodes l less in
    let twice : first * 2 ≡ 2 * first = omega arith in
    let low = l.low in
    rw twice (record {
      low = omega arith;
      up = twice_fits width first l.up.0 l.up.1 less;
      due = e ∙ ap (λ ns. filter (is_due tree limit) (children_of ns)) l.due
          ∙ due_below tree limit (numbers_from first first) (all_numbers (IsLesser tree) first first
          (λ k below above. t.lesser k (omega arith) (omega arith)))
          ∙ ap (filter (is_due tree limit)) (children_twice first first);
    })

last_level : (width first times : ℕ) → width ≡ doubled_number times first → width ≤ first → 1 ≤ first → first ≡ width
last_level width first zero e less low = sym e
last_level width first (suc times) e less low = let n = no_less times (2 * first) in absurd (omega arith)

pub level_ends : (width : ℕ) (tree : List ℕ) (limit first : ℕ) (nodes : List ℕ) → Level width tree limit nodes first → width ≤ first
    → nodes ≡ due_nodes width tree limit
level_ends width tree limit first nodes l less =
    l.due ∙ ap (λ k. filter (is_due tree limit) (numbers_from k k)) (last_level width first l.up.0 l.up.1 less l.low)

pub first_power : IsPower 64
first_power = (6, refl)
