-- Lists turn, one place after another.
use Rattle.std.proofs.Common.{◌≡◌, ℕ, ◌+◌, ◌<◌, ◌≤◌, List, [], ◌∷◌, ◌++◌, IsSome, length, get_or, set, take, drop, refl, ap, ◌∙◌, sym, subst, arith, append_assoc}
use Rattle.std.proofs.lemmas.List.{drop-set-lt, take_more_set, append-nil, length-set, drop_all, take_all, drop_more}
use Rattle.ifmap_graph.specs.Sides.{Sides}
use Rattle.ifmap_graph.specs.Turning.{sides_at, accepted_sides, accept_each, backs, AreDrafted}

module _ {T : Type 0} (all : List (ℕ × List T)) (first : List (Sides T)) where
  pub record Going (ways : List (ℕ × List T)) (lists : List (Sides T)) (i : ℕ) : Type 0 where
    pub drafted : AreDrafted (drop i ways) lists
    pub same : accept_each (drop i ways) lists ≡ accept_each all first
    pub long : length ways ≡ length all
    pub made : take i ways ++ backs (drop i ways) lists ≡ backs all first

  pub begins : AreDrafted all first → Going all first 0
  begins d = record { drafted = d; same = refl; long = refl; made = refl }

  module _ (ways : List (ℕ × List T)) (lists : List (Sides T)) (i : ℕ) (h : i < length ways) (g : Going ways lists i) (w : ℕ × List T) where
    here : drop i ways ≡ get_or ways i w ∷ drop (i + 1) ways
    here = drop_more ways i w h

    way : ℕ × List T
    way = get_or ways i w

    now_drafted : AreDrafted (get_or ways i w ∷ drop (i + 1) ways) lists
    now_drafted = subst (λ ws. AreDrafted ws lists) here g.drafted

    pub is_within_lists : (get_or ways i w).0 < length lists
    is_within_lists = now_drafted.0

    pub drafted_at : IsSome (sides_at lists (get_or ways i w).0).draft
    drafted_at = now_drafted.1

    module _ (ways' : List (ℕ × List T)) (lists' : List (Sides T))
        (ls : lists' ≡ set lists (get_or ways i w).0 (accepted_sides (sides_at lists (get_or ways i w).0)))
        (ws : ways' ≡ set ways i ((get_or ways i w).0, (sides_at lists (get_or ways i w).0).now)) where
      rest : drop (i + 1) ways' ≡ drop (i + 1) ways
      rest = ap (λ l. drop (i + 1) l) ws ∙ drop-set-lt (i + 1) ways i _ (omega arith)

      front : take (i + 1) ways' ≡ take i ways ++ ((get_or ways i w).0, (sides_at lists (get_or ways i w).0).now) ∷ []
      front = ap (λ l. take (i + 1) l) ws ∙ take_more_set ways i _ h

      pub goes_on : Going ways' lists' (i + 1)
      goes_on = record {
        drafted = subst (λ l. AreDrafted l lists') (sym rest) (subst (λ l. AreDrafted (drop (i + 1) ways) l) (sym ls) now_drafted.2);
        same = ap (λ l. accept_each l lists') rest ∙ ap (λ l. accept_each (drop (i + 1) ways) l) ls
            ∙ sym (ap (λ l. accept_each l lists) here) ∙ g.same;
        long = ap length ws ∙ length-set ways i ((get_or ways i w).0, (sides_at lists (get_or ways i w).0).now) ∙ g.long;
        made = ap (λ l. l ++ backs (drop (i + 1) ways') lists') front ∙ append_assoc (take i ways)
            (((get_or ways i w).0, (sides_at lists (get_or ways i w).0).now) ∷ []) (backs (drop (i + 1) ways') lists')
            ∙ ap (λ l. take i ways ++ ((get_or ways i w).0, (sides_at lists (get_or ways i w).0).now) ∷ backs l lists') rest
            ∙ ap (λ l. take i ways ++ ((get_or ways i w).0, (sides_at lists (get_or ways i w).0).now) ∷ backs (drop (i + 1) ways) l) ls
            ∙ sym (ap (λ l. take i ways ++ backs l lists) here) ∙ g.made;
      }

  module _ (ways : List (ℕ × List T)) (lists : List (Sides T)) (i : ℕ) (e : length ways ≤ i) (g : Going ways lists i) where
    none_left : drop i ways ≡ []
    none_left = drop_all i ways e

    whole : take i ways ≡ ways
    whole = take_all i ways e

    pub ends_lists : lists ≡ accept_each all first
    ends_lists = sym (ap (λ l. accept_each l lists) none_left) ∙ g.same

    pub ends_ways : ways ≡ backs all first
    ends_ways = sym whole ∙ sym (append-nil (take i ways)) ∙ sym (ap (λ l. take i ways ++ backs l lists) none_left) ∙ g.made
