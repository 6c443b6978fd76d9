-- No place is named twice.
use Rattle.std.proofs.Common.{◌≡◌, ◌&&◌, ℕ, Bool, true, false, not, cond, nat_eq, Option, Some, None, List, [], ◌∷◌, ◌++◌, refl, ap, ◌∙◌, sym, inl, inr}
use Rattle.std.proofs.lemmas.Bool.{cases_Bool}
use Rattle.std.specs.List.{AllByRecursion, IsDistinct, filter, cons_option}
use Rattle.std.proofs.lemmas.Map.Keys.{IsDistinct-cons, IsDistinct-head, IsDistinct-tail}
use Rattle.ifmap_view.specs.declared.views.LinkSeen.{LinkSeen}
use Rattle.ifmap_graph.specs.Linked.{AreListed, link_places, changed_links, coming_links, far_of, seen_at}
use Rattle.ifmap_lemmas.specs.Branches.{one_without_other}
use Rattle.ifmap_lemmas.specs.Having.{from_has, has_all}
use Rattle.ifmap_lemmas.specs.Numbers.{equal_numbers}
use Rattle.ifmap_lemmas.specs.Filters.{all_filter}
use Rattle.ifmap_lemmas.specs.Members.{map_of_all}
use Rattle.ifmap_lemmas.specs.Rising.{to_distinct}

-- the place is not among those of the links
abbrev Out : ℕ → List LinkSeen → Type 0
Out k ls = AllByRecursion (λ y. nat_eq k y ≡ false) (link_places ls)

abbrev Once : List LinkSeen → Type 0
Once ls = IsDistinct nat_eq (link_places ls)

out_filter : (k : ℕ) (p : LinkSeen → Bool) (ls : List LinkSeen) → Out k ls → Out k (filter p ls)
out_filter k p [] o = tt
out_filter k p (l ∷ ls) o = at (p l) (out_filter k p ls o.1)
  where
    at : (b : Bool) → Out k (filter p ls) → Out k (cond b (l ∷ filter p ls) (filter p ls))
    at true rest = (o.0, rest)
    at false rest = rest

once_filter : (p : LinkSeen → Bool) (ls : List LinkSeen) → Once ls → Once (filter p ls)
once_filter p [] d = to_distinct nat_eq [] tt
once_filter p (l ∷ ls) d = at (p l) (once_filter p ls (IsDistinct-tail nat_eq l.at (link_places ls) d))
  where
    at : (b : Bool) → Once (filter p ls) → Once (cond b (l ∷ filter p ls) (filter p ls))
    at true rest = IsDistinct-cons nat_eq l.at (link_places (filter p ls))
        (out_filter l.at p ls (IsDistinct-head nat_eq l.at (link_places ls) d)) rest
    at false rest = rest

out_append : (k : ℕ) (xs ys : List LinkSeen) → Out k xs → Out k ys → Out k (xs ++ ys)
out_append k [] ys a b = b
out_append k (x ∷ xs) ys a b = (a.0, out_append k xs ys a.1 b)

once_append : (xs ys : List LinkSeen) → Once xs → Once ys → AllByRecursion (λ l. Out l.at ys) xs → Once (xs ++ ys)
once_append [] ys a b c = b
once_append (x ∷ xs) ys a b c =
    IsDistinct-cons nat_eq x.at (link_places (xs ++ ys)) (out_append x.at xs ys (IsDistinct-head nat_eq x.at (link_places xs) a) c.0)
    (once_append xs ys (IsDistinct-tail nat_eq x.at (link_places xs) a) b c.1)

module _ (joins : ℕ → Option (ℕ × ℕ)) (before after : ℕ → Bool) (v : ℕ) where
  abbrev pick : ℕ → Option LinkSeen
  pick at = cond (after at && not (before at)) (seen_at at (far_of (joins at) v)) None

  -- what comes from a place is at that place, which was empty
  from_place : (P : ℕ → Type 0) (at : ℕ) (b : Bool) (o : Option ℕ) (ls : List LinkSeen) → (b ≡ true → P at) → AllByRecursion (λ l. P l.at)
      ls
      → AllByRecursion (λ l. P l.at) (cons_option (cond b (seen_at at o) None) ls)
  from_place P at false o ls p a = a
  from_place P at true None ls p a = a
  from_place P at true (Some w) ls p a = (p refl, a)

  comers_empty : (touched : List ℕ) → AllByRecursion (λ l. before l.at ≡ false) (coming_links joins before after touched v)
  comers_empty [] = tt
  comers_empty (at ∷ ats) = from_place (λ n. before n ≡ false) at (after at && not (before at)) (far_of (joins at) v)
      (coming_links joins before after ats v)
      (λ e. (one_without_other (after at) (before at) e).1) (comers_empty ats)

  comers_out : (k : ℕ) (touched : List ℕ) → AllByRecursion (λ y. nat_eq k y ≡ false) touched → AllByRecursion (λ l. nat_eq k l.at ≡ false)
      (coming_links joins before after touched v)
  comers_out k [] a = tt
  comers_out k (at ∷ ats) a = from_place (λ n. nat_eq k n ≡ false) at (after at && not (before at)) (far_of (joins at) v)
      (coming_links joins before after ats v) (λ _. a.0) (comers_out k ats a.1)

  comers_once : (touched : List ℕ) → IsDistinct nat_eq touched → Once (coming_links joins before after touched v)
  comers_once [] d = to_distinct nat_eq [] tt
  comers_once (at ∷ rest) d = put (after at && not (before at)) (far_of (joins at) v) (comers_once rest (IsDistinct-tail nat_eq at rest d))
    where
      put : (b : Bool) (o : Option ℕ) → Once (coming_links joins before after rest v) → Once (cons_option (cond b (seen_at at o) None)
          (coming_links joins before after rest v))
      put false o a = a
      put true None a = a
      put true (Some w) a = IsDistinct-cons nat_eq at (link_places (coming_links joins before after rest v))
          (map_of_all (λ y. nat_eq at y ≡ false) (λ (l : LinkSeen). l.at) (coming_links joins before after rest v)
          (comers_out at rest (IsDistinct-head nat_eq at rest d))) a

  apart_from : (k : ℕ) (ls : List LinkSeen) → before k ≡ true → AllByRecursion (λ l. before l.at ≡ false) ls → Out k ls
  apart_from k [] full a = tt
  apart_from k (l ∷ ls) full a = (
    elim (cases_Bool (nat_eq k l.at)) [
      | inl e ↦ let r : false ≡ true = sym a.0 ∙ ap before (sym (equal_numbers k l.at e)) ∙ full in cc
      | inr e ↦ e
    ],
    apart_from k ls full a.1,
  )

  pub changed_apart : (touched : List ℕ) (links : ℕ → List LinkSeen) → AreListed joins before links → IsDistinct nat_eq touched
      → Once (links v) → Once (changed_links joins before after touched links v)
  changed_apart touched links listed t d =
      once_append (filter (λ l. after l.at) (links v)) (coming_links joins before after touched v)
      (once_filter (λ l. after l.at) (links v) d)
      (comers_once touched t)
      (all_filter (λ l. Out l.at (coming_links joins before after touched v)) (λ l. after l.at) (links v)
      (has_all (λ l. Out l.at (coming_links joins before after touched v)) (links v)
      (λ l h. apart_from l.at (coming_links joins before after touched v) (listed.only v l (from_has (links v) l h)).1
      (comers_empty touched))))
