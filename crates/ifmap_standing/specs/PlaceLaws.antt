-- Subscriptions place by place.
use Rattle.std.proofs.Common.{◌≡◌, ℕ, zero, suc, List, [], ◌∷◌, map, ◌∙◌, refl, ap, sym, subst, Option, None, Some, arith}
use Rattle.ifmap_lemmas.specs.Places.{something_at}
use Rattle.ifmap_standing.specs.Kept.{AtEach, KeepsSame, StaysRelated}
use Rattle.std.proofs.lemmas.Option.{same_Some}
use Rattle.ifmap_delta.specs.declared.subscriptions.Subscription.{Subscription}
use Rattle.ifmap_delta.specs.SameSearches.{HasSameSearch}
use Rattle.ifmap_standing.specs.declared.standing.Standing.{Standing}
use Rattle.ifmap_standing.specs.Ways.{LeadsBackWhere, Way}

-- relations at each place
pub at_each_joined : {X : Type 0} (R S T : ℕ → X → X → Type 0) → ((i : ℕ) (x y z : X) → R i x y → S i y z → T i x z) → (a b c : List X)
    → AtEach R a b → AtEach S b c → AtEach T a c
at_each_joined R S T f a b c r s = record {
  long = s.long ∙ r.long;
  at = λ i x z p q. let y = something_at a b i x r.long p in f i x y.0 z (r.at i x y.0 p y.1) (s.at i y.0 z y.1 q);
}

-- a relation that holds of each with itself
pub at_each_same : {X : Type 0} (R : ℕ → X → X → Type 0) → ((i : ℕ) (x : X) → R i x x) → (xs : List X) → AtEach R xs xs
at_each_same R f xs = record {
  long = refl;
  at = λ i x y p q. subst (λ z. R i x z) (same_Some x y (sym p ∙ q)) (f i x);
}

-- where one relation gives another
pub at_each_weaker : {X : Type 0} (R S : ℕ → X → X → Type 0) → ((i : ℕ) (x y : X) → R i x y → S i x y) → (a b : List X)
    → AtEach R a b → AtEach S a b
at_each_weaker R S f a b r = record { long = r.long; at = λ i x y p q. f i x y (r.at i x y p q) }

-- of the rest of both lists
pub at_each_rest : {X : Type 0} (R : ℕ → X → X → Type 0) (x y : X) (xs ys : List X) → AtEach R (x ∷ xs) (y ∷ ys)
    → AtEach (λ i. R (suc i)) xs ys
at_each_rest R x y xs ys r = record { long = omega (arith, r.long); at = λ i a b p q. r.at (suc i) a b p q }

-- what a map makes the same of each, it makes the same of both
pub at_each_map : {X Y : Type 0} (f : X → Y) (R : ℕ → X → X → Type 0) → ((i : ℕ) (x y : X) → R i x y → f y ≡ f x) → (a b : List X)
    → AtEach R a b → map f b ≡ map f a
at_each_map f R e [] [] r = refl
at_each_map f R e [] (y ∷ b) r = absurd (omega (arith, r.long))
at_each_map f R e (x ∷ a) [] r = absurd (omega (arith, r.long))
at_each_map f R e (x ∷ a) (y ∷ b) r =
    ap (λ z. z ∷ map f b) (e zero x y (r.at zero x y refl refl))
    ∙ ap (λ t. f x ∷ t) (at_each_map f (λ i. R (suc i)) (λ i. e (suc i)) a b (at_each_rest R x y a b r))

pub search_itself : (a : Subscription) → HasSameSearch a a
search_itself a = record { search = refl; start = refl; max_depth = refl }

pub keeps_itself : (a : Subscription) → KeepsSame a a
keeps_itself a = record { search = search_itself a; size = refl; marks = λ v. refl; rows = λ v r. r }

-- what keeps the same keeps the same twice
pub searches_twice : (a b c : Subscription) → HasSameSearch a b → HasSameSearch b c → HasSameSearch a c
searches_twice a b c s t = record {
  search = t.search ∙ s.search;
  start = t.start ∙ s.start;
  max_depth = t.max_depth ∙ s.max_depth;
}

pub keeps_twice : (a b c : Subscription) → KeepsSame a b → KeepsSame b c → KeepsSame a c
keeps_twice a b c s t = record {
  search = searches_twice a b c s.search t.search;
  size = t.size ∙ s.size;
  marks = λ v. t.marks v ∙ s.marks v;
  rows = λ v r. t.rows v (s.rows v r);
}

pub stands_itself : (R : Subscription → Subscription → Type 0) → ((x : Subscription) → R x x) → (x : Standing) → StaysRelated R x x
stands_itself R f x = record { serial = refl; name = refl; subscription = f x.subscription }

pub kept_itself : (a : List Standing) → AtEach (λ _. StaysRelated KeepsSame) a a
kept_itself a = at_each_same (λ _. StaysRelated KeepsSame) (λ i. stands_itself KeepsSame keeps_itself) a

pub keep_searches : (old new : List Standing) → AtEach (λ _. StaysRelated KeepsSame) old new → AtEach (λ _. StaysRelated HasSameSearch) old
    new
keep_searches old new keep = record {
  long = keep.long;
  at = λ i x y p q. let s = keep.at i x y p q in record { serial = s.serial; name = s.name; subscription = s.subscription.search };
}

pub stands_twice : (R : Subscription → Subscription → Type 0) → ((a b c : Subscription) → R a b → R b c → R a c) → (x y z : Standing)
    → StaysRelated R x y → StaysRelated R y z → StaysRelated R x z
stands_twice R f x y z r s = record {
  serial = s.serial ∙ r.serial;
  name = s.name ∙ r.name;
  subscription = f x.subscription y.subscription z.subscription r.subscription s.subscription;
}

pub searched_twice : (a b c : List Standing) → AtEach (λ _. StaysRelated HasSameSearch) a b → AtEach (λ _. StaysRelated HasSameSearch) b c
    → AtEach (λ _. StaysRelated HasSameSearch) a c
searched_twice a b c r s =
    at_each_joined (λ _. StaysRelated HasSameSearch) (λ _. StaysRelated HasSameSearch) (λ _. StaysRelated HasSameSearch)
    (λ i x y z. stands_twice HasSameSearch searches_twice x y z) a b c r s

pub leads_search : (way : Option (Option Way)) (x y : Subscription) → LeadsBackWhere way x y → HasSameSearch x y
leads_search None x y e = e.search
leads_search (Some None) x y e = e.search
leads_search (Some (Some way)) x y e = e.search
