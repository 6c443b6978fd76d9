-- Lists stand at their places again, one after another.
use Rattle.std.proofs.Common.{◌≡◌, ℕ, ◌+◌, ◌<◌, ◌≤◌, List, ◌∷◌, length, get_or, set, drop, refl, ap, ◌∙◌, sym, subst, arith}
use Rattle.std.proofs.lemmas.List.{drop-set-lt, drop_all, length-set, drop_more}
use Rattle.ifmap_graph.specs.Sides.{Sides}
use Rattle.ifmap_graph.specs.Turning.{AreWithin, restore_each, restored_sides, sides_at}

module _ {T : Type 0} (all : List (ℕ × List T)) (first : List (Sides T)) where
  -- so many lists stand again; what is left makes the same of all
  pub record Returning (ways : List (ℕ × List T)) (lists : List (Sides T)) (i : ℕ) : Type 0 where
    pub within : AreWithin (drop i ways) (length lists)
    pub same : restore_each (drop i ways) lists ≡ restore_each all first
    pub long : length ways ≡ length all

  pub begins_returning : AreWithin all (length first) → Returning all first 0
  begins_returning w = record { within = w; same = refl; long = refl }

  module _ (ways : List (ℕ × List T)) (lists : List (Sides T)) (i : ℕ) (h : i < length ways) (g : Returning ways lists i)
      (w : ℕ × List T) where
    here : drop i ways ≡ get_or ways i w ∷ drop (i + 1) ways
    here = drop_more ways i w h

    now_within : AreWithin (get_or ways i w ∷ drop (i + 1) ways) (length lists)
    now_within = subst (λ ws. AreWithin ws (length lists)) here g.within

    pub place_within : (get_or ways i w).0 < length lists
    place_within = now_within.0

    pub returns_on : (ways' : List (ℕ × List T)) (lists' : List (Sides T))
        → lists' ≡ set lists (get_or ways i w).0 (restored_sides (sides_at lists (get_or ways i w).0) (get_or ways i w).1)
        → ways' ≡ set ways i ((get_or ways i w).0, (sides_at lists (get_or ways i w).0).now) → Returning ways' lists' (i + 1)
    returns_on ways' lists' ls ws =
        let rest : drop (i + 1) ways' ≡ drop (i + 1) ways = ap (λ l. drop (i + 1) l) ws ∙ drop-set-lt (i + 1) ways i _ (omega arith)
        in let long : length lists' ≡ length lists = ap length ls ∙ length-set lists (get_or ways i w).0 _
        in record {
          within = subst (λ l. AreWithin l (length lists')) (sym rest)
              (subst (λ n. AreWithin (drop (i + 1) ways) n) (sym long) now_within.1);
          same = ap (λ l. restore_each l lists') rest ∙ ap (λ l. restore_each (drop (i + 1) ways) l) ls
              ∙ sym (ap (λ l. restore_each l lists) here) ∙ g.same;
          long = ap length ws ∙ length-set ways i _ ∙ g.long;
        }

  pub all_returned : (ways : List (ℕ × List T)) (lists : List (Sides T)) (i : ℕ) → length ways ≤ i → Returning ways lists i
      → lists ≡ restore_each all first
  all_returned ways lists i e g = sym (ap (λ l. restore_each l lists) (drop_all i ways e)) ∙ g.same
