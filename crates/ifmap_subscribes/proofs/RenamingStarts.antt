-- What others than items hold while subscriptions stand: the order of these does not matter, and each of them can be let go of.
-- First: `IsSteady` of a list whose middle moves to the front or back (`steady_front`, `steady_back`). Then: how often the start of each is
-- held (`each_counts`). Then: what `Graph::release` of a start leaves (`released_steady`), and several (`ReleasesOn`). Last: what is kept
-- still (`kept_still`).
use Rattle.std.proofs.Common.{◌≡◌, refl, sym, ◌∙◌, ap, subst, ℕ, ◌+◌, ◌-◌, ◌<◌, ◌≤◌, List, [], ◌∷◌, ◌++◌, append-nil, append_assoc, drop, suc, take, option_to_list, Option, Some, arith, inl, inr}
use Rattle.std.proofs.lemmas.Option.{same_Some}
use Rattle.std.specs.List.{AllByRecursion, remove}
use Rattle.std.specs.Option.{option_map}
use Rattle.ifmap_changes.specs.Between.{IsSteady, seen_now, starts_of, HasStartNumber}
use Rattle.ifmap_changes.specs.ifmap_graph.Inside.{GraphInside, IsOwn, links_at}
use Rattle.ifmap_changes.specs.ifmap_graph.Named.{uses_in}
use Rattle.ifmap_changes.specs.ifmap_delta.SeenViews.{IsUpToDate}
use Rattle.ifmap_changes.specs.ifmap_graph.Seen.{IsStill, links_now, rows_now}
use Rattle.ifmap_changes.specs.ifmap_graph.Shelved.{list_at, rows_by}
use Rattle.ifmap_changes.specs.ifmap_graph.Sides.{list_now}
use Rattle.ifmap_ident.specs.Canon.{IsIdentifier}
use Rattle.ifmap_ident.specs.Identifiers.{identifier_bytes, identifier_order}
use Rattle.ifmap_ident.specs.declared.identifiers.Identifier.{Identifier}
use Rattle.ifmap_lemmas.specs.Filters.{all_weaker}
use Rattle.ifmap_lemmas.specs.Members.{all_both, both_all}
use Rattle.ifmap_lemmas.specs.Texts.{same_texts}
use Rattle.ifmap_changes.specs.ifmap_plans.Plans.{AreWhole}
use Rattle.ifmap_changes.specs.ifmap_pool.Holdings.{IsHeld, Names, holds_at, key_at, once}
use Rattle.ifmap_changes.specs.ifmap_standing.declared.standing.Standing.{Standing}
use Rattle.ifmap_subscribes.specs.declared.renamings.Renaming.{Renaming}
use Rattle.ifmap_subscribes.specs.Renamings.{KeepsNumbered, LetsNumbersGo, StandsAmong, starts_by}
use Rattle.ifmap_changes.specs.ifmap_view.Views.{IsView}
use Rattle.ifmap_changes.specs.ifmap_graph.NumberLaws.{once_itself}
use Rattle.ifmap_changes.specs.StartLaws.{starts_cons, starts_append}

-- ---- some move to the front, or back

module _ (h : GraphInside) (front xs back : List Standing) where
  same_starts : (a : Identifier) → starts_of a (xs ++ (front ++ back)) ≡ starts_of a (front ++ (xs ++ back))
  same_starts a =
      let one = starts_append a front (xs ++ back) in
      let two = starts_append a xs back in
      let three = starts_append a front back in
      let four = starts_append a xs (front ++ back) in
      omega (arith, one, two, three, four)

  pub steady_front : IsSteady h (front ++ (xs ++ back)) → IsSteady h (xs ++ (front ++ back))
  steady_front s = record {
    still = s.still;
    whole = s.whole;
    own = λ a. subst (λ n. IsOwn h a n) (sym (same_starts a)) (s.own a);
    numbered =
        let outer = all_both (HasStartNumber h) front (xs ++ back) s.numbered in
        let inner = all_both (HasStartNumber h) xs back outer.1 in
        both_all (HasStartNumber h) xs (front ++ back) inner.0 (both_all (HasStartNumber h) front back outer.0 inner.1);
  }

  pub steady_back : IsSteady h (xs ++ (front ++ back)) → IsSteady h (front ++ (xs ++ back))
  steady_back s = record {
    still = s.still;
    whole = s.whole;
    own = λ a. subst (λ n. IsOwn h a n) (same_starts a) (s.own a);
    numbered =
        let outer = all_both (HasStartNumber h) xs (front ++ back) s.numbered in
        let inner = all_both (HasStartNumber h) front back outer.1 in
        both_all (HasStartNumber h) front (xs ++ back) inner.0 (both_all (HasStartNumber h) xs back outer.0 inner.1);
  }

-- ---- how often the start of each is held

each_counts : (standing : List Standing)
    → AllByRecursion (λ x. 1 ≤ starts_of x.subscription.search.start standing) standing
each_counts [] = tt
each_counts (x ∷ xs) = (
  (let one = once_itself x.subscription.search.start in
      let sum = starts_cons x.subscription.search.start x xs in omega (arith, one, sum)),
  all_weaker (λ y. 1 ≤ starts_of y.subscription.search.start xs) (λ y. 1 ≤ starts_of y.subscription.search.start (x ∷ xs))
      (λ y le. let sum = starts_cons y.subscription.search.start x xs in omega (arith, le, sum)) xs (each_counts xs),
)

-- ---- one is let go of

module _ (old new : GraphInside) (x : Standing)
    (tells : (one other : Identifier) → IsIdentifier one → IsIdentifier other → identifier_bytes one ≡ identifier_bytes other → one ≡ other)
    (view : IsView (rows_now old) (key_at old.names) (links_now old)) where
  -- the number that has an identifier is the one that is held
  number_is : (number v : ℕ) (a : Identifier) → Names identifier_order old.names number a → key_at old.names v ≡ Some a → number ≡ v
  number_is number v a n e =
      let key : key_at old.names number ≡ Some n.0.0 = ap (option_map (λ p. p.0)) n.1 in
      let same : n.0.0 ≡ a = tells n.0.0 a (view.canon number n.0.0 key) (view.canon v a e)
      (same_texts (identifier_bytes n.0.0) (identifier_bytes a) n.2) in
      view.one_to_one number v a (key ∙ ap Some same) e

  held_often : (v : ℕ) (a : Identifier) (n : ℕ) → key_at old.names v ≡ Some a → IsOwn old a n → 1 < n → 1 < holds_at old.names v
  held_often v a n e own many = by own
    where
      by : IsHeld identifier_order old.names a (uses_in old.shelves a + n) → 1 < holds_at old.names v
      by (inl h) =
          let at = ap (holds_at old.names) (number_is h.0 v a h.1 e) in
          let count = h.2 in
          omega (arith, at, count, many)
      by (inr h) = let none = h.1 in absurd (omega (arith, none, many))

  module _ (own : (a other : Identifier) (n : ℕ) → key_at old.names x.subscription.region.start ≡ Some a → IsOwn old other n
      → IsOwn new other (n - once identifier_order a other))
      (stays : (v : ℕ) → (v ≡ x.subscription.region.start → 1 < holds_at old.names v) → key_at new.names v ≡ key_at old.names v)
      (rows : rows_now new ≡ rows_now old) (still : IsStill old → IsStill new) where
    pub released_steady : (more : List Standing) → IsSteady old (x ∷ more) → IsSteady new more
    released_steady more s = record {
      still = still s.still;
      whole = subst AreWhole (sym rows) s.whole;
      own = λ a. subst (λ n. IsOwn new a n) (less a) (own x.subscription.search.start a (starts_of a (x ∷ more)) s.numbered.0 (s.own a));
      numbered = each more (λ y counted key. stays y.subscription.region.start (λ same. twice y counted key same) ∙ key) (each_counts more)
          s.numbered.1;
    }
      where
        less : (a : Identifier) → starts_of a (x ∷ more) - once identifier_order x.subscription.search.start a ≡ starts_of a more
        less a = let sum = starts_cons a x more in omega (arith, sum)

        twice : (y : Standing) → 1 ≤ starts_of y.subscription.search.start more → HasStartNumber old y
            → y.subscription.region.start ≡ x.subscription.region.start → 1 < holds_at old.names y.subscription.region.start
        twice y counted key same =
            let start : x.subscription.search.start ≡ y.subscription.search.start = same_Some x.subscription.search.start
            y.subscription.search.start (sym s.numbered.0 ∙ ap (key_at old.names) (sym same) ∙ key) in
            let one : once identifier_order x.subscription.search.start y.subscription.search.start ≡ 1 =
            ap (λ a. once identifier_order a y.subscription.search.start) start ∙ once_itself y.subscription.search.start in
            let sum = starts_cons y.subscription.search.start x more in
            held_often y.subscription.region.start y.subscription.search.start (starts_of y.subscription.search.start (x ∷ more)) key
            (s.own y.subscription.search.start) (omega (arith, sum, one, counted))

        each : (ys : List Standing)
            → ((y : Standing) → 1 ≤ starts_of y.subscription.search.start more → HasStartNumber old y → HasStartNumber new y)
            → AllByRecursion (λ y. 1 ≤ starts_of y.subscription.search.start more) ys → AllByRecursion (HasStartNumber old) ys
            → AllByRecursion (HasStartNumber new) ys
        each [] f p q = tt
        each (y ∷ ys) f p q = (f y p.0 q.0, each ys f p.1 q.1)

-- what `Graph::release` asks for
pub can_release : (h : GraphInside) (x : Standing) (more : List Standing) → IsSteady h (x ∷ more)
    → (a : Identifier) × (own : ℕ) × (key_at h.names x.subscription.region.start ≡ Some a) × IsOwn h a own × (0 < own)
can_release h x more s =
    let counted = (each_counts (x ∷ more)).0 in (
      x.subscription.search.start,
      starts_of x.subscription.search.start (x ∷ more),
      s.numbered.0,
      s.own x.subscription.search.start,
      omega (arith, counted),
    )

-- ---- a graph of which only a number went

pub rows_same : (old new : GraphInside) → new.shelves ≡ old.shelves → rows_now new ≡ rows_now old
rows_same old new e = ap (λ s. rows_by (list_at list_now) s) e

pub links_same : (old new : GraphInside) → new.links ≡ old.links → (v : ℕ) → links_now new v ≡ links_now old v
links_same old new e v = ap (λ l. links_at list_now l v) e

-- ---- several numbers went, one after the other

pub released_none : (h : GraphInside) → LetsNumbersGo h h
released_none h = record {
  rows = refl;
  links = λ v. refl;
  numbers = λ v a e. e;
  backs = λ u rows links b. b;
  waits = λ rest w. w;
  lean = λ rest l. l;
  kept = λ sub e k. k;
}

pub released_both : (old mid new : GraphInside) → LetsNumbersGo old mid → LetsNumbersGo mid new → LetsNumbersGo old new
released_both old mid new a b = record {
  rows = b.rows ∙ a.rows;
  links = λ v. b.links v ∙ a.links v;
  numbers = λ v i e. a.numbers v i (b.numbers v i e);
  backs = λ u rows links w. b.backs u rows links (a.backs u rows links w);
  waits = λ rest w. b.waits rest (a.waits rest w);
  lean = λ rest l. b.lean rest (a.lean rest l);
  kept = λ sub e k. b.kept sub e (a.kept sub (b.numbers sub.region.start sub.search.start e) k);
}

-- what some have of the starts of these renamings, once the first are let go of
pub record ReleasesOn (all : List Renaming) (old now : GraphInside) (rest : List Renaming) : Type 0 where
  pub steady : (standing : List Standing) → IsSteady old (standing ++ starts_by all) → IsSteady now (standing ++ starts_by rest)
  pub released : LetsNumbersGo old now

pub releases_none : (all rest : List Renaming) (old : GraphInside) → rest ≡ all → ReleasesOn all old old rest
releases_none all rest old is = record {
  steady = λ standing s. subst (λ rs. IsSteady old (standing ++ starts_by rs)) (sym is) s;
  released = released_none old;
}

module _ (all : List Renaming) (old now : GraphInside) (left : List Renaming) (r : Renaming) (rest : List Renaming)
    (so : ReleasesOn all old now left) (cut : left ≡ r ∷ rest) where
  next_steady : (standing : List Standing) → IsSteady old (standing ++ starts_by all)
      → IsSteady now (option_to_list r.standing ++ (standing ++ starts_by rest))
  next_steady standing s =
      steady_front now standing (option_to_list r.standing) (starts_by rest)
      (subst (λ rs. IsSteady now (standing ++ starts_by rs)) cut (so.steady standing s))

  pub can_go_on : (standing : List Standing) × IsSteady old (standing ++ starts_by all)
      → (more : List Standing) × IsSteady now (option_to_list r.standing ++ more)
  can_go_on some = (some.0 ++ starts_by rest, next_steady some.0 some.1)

  pub releases_more : (new : GraphInside) → ((more : List Standing) → IsSteady now (option_to_list r.standing ++ more) → IsSteady new more)
      → LetsNumbersGo now new → ReleasesOn all old new rest
  releases_more new steady released = record {
    steady = λ standing s. steady (standing ++ starts_by rest) (next_steady standing s);
    released = released_both old now new so.released released;
  }

pub releases_all : (all : List Renaming) (old now : GraphInside) (rest : List Renaming) → ReleasesOn all old now rest → rest ≡ []
    → (standing : List Standing) → IsSteady old (standing ++ starts_by all) → IsSteady now standing
releases_all all old now rest so none standing s =
    let there : IsSteady now (standing ++ []) = subst (λ rs. IsSteady now (standing ++ starts_by rs)) none (so.steady standing s) in
    subst (IsSteady now) (append-nil standing) there

-- ---- what is kept

-- what was kept is kept, where it is numbered still
pub kept_still : (old new : GraphInside) (xs : List Standing) → KeepsNumbered old new
    → AllByRecursion (HasStartNumber new) xs → AllByRecursion (λ x. IsUpToDate (seen_now old) x.subscription) xs
    → AllByRecursion (λ x. IsUpToDate (seen_now new) x.subscription) xs
kept_still old new [] keeps numbered kept = tt
kept_still old new (x ∷ xs) keeps numbered kept =
    (keeps x.subscription numbered.0 kept.0, kept_still old new xs keeps numbered.1 kept.1)

-- one of several goes, or one more stands among them
pub steady_without : (h : GraphInside) (xs : List Standing) (i : ℕ) (x : Standing) (more : List Standing)
    → xs ≡ take i xs ++ x ∷ drop (suc i) xs → IsSteady h (xs ++ more) → IsSteady h (x ∷ (remove xs i ++ more))
steady_without h xs i x more cut s =
    let front = take i xs in
    let back = drop (suc i) xs in
    let cut_long : xs ++ more ≡ front ++ (x ∷ (back ++ more)) = ap (λ t. t ++ more) cut ∙ append_assoc front (x ∷ back) more in
    subst (λ t. IsSteady h (x ∷ t)) (sym (append_assoc front back more))
    (steady_front h front (x ∷ []) (back ++ more) (subst (IsSteady h) cut_long s))

pub steady_among : (h : GraphInside) (begun : Option Standing) (old new more : List Standing) → StandsAmong begun old new
    → IsSteady h (old ++ (option_to_list begun ++ more)) → IsSteady h (new ++ more)
steady_among h begun old new more among s =
    let front = among.0 in
    let back = among.1 in
    let mid = option_to_list begun in
    let split : old ++ (mid ++ more) ≡ front ++ (back ++ (mid ++ more)) =
    ap (λ t. t ++ (mid ++ more)) among.2 ∙ append_assoc front back (mid ++ more) in
    let first : IsSteady h (front ++ (back ++ (mid ++ more))) = subst (IsSteady h) split s in
    let second : IsSteady h (back ++ (front ++ (mid ++ more))) = steady_front h front back (mid ++ more) first in
    let joined : front ++ (mid ++ more) ≡ (front ++ mid) ++ more = sym (append_assoc front mid more) in
    let third : IsSteady h (back ++ ((front ++ mid) ++ more)) = subst (λ t. IsSteady h (back ++ t)) joined second in
    let fourth : IsSteady h ((front ++ mid) ++ (back ++ more)) = steady_back h (front ++ mid) back more third in
    let whole : (front ++ mid) ++ (back ++ more) ≡ new ++ more =
    append_assoc front mid (back ++ more) ∙ ap (λ t. front ++ t) (sym (append_assoc mid back more))
    ∙ sym (append_assoc front (mid ++ back) more) ∙ ap (λ t. t ++ more) (sym among.3) in
    subst (IsSteady h) whole fourth
