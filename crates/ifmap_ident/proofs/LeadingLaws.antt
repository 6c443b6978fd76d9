-- How texts compare by what they begin with: beginnings in a row, alike, and that no text goes on from.
use Rattle.std.proofs.Common.{◌≡◌, ℕ, List, [], ◌∷◌, ◌++◌, false, refl, ap, sym, ◌∙◌, append_assoc}
use Rattle.std.proofs.lemmas.List.{append-nil}
use Rattle.std.proofs.lemmas.Map.Lookups.{exact_unsigned}
use Rattle.std.specs.Cmp.{nat_cmp_total, tied_itself}
use Rattle.std.specs.Cmp.Lexicographic.{slice_cmp}
use Rattle.std.specs.Ordering.{is_eq, nat_cmp, ordering_then}
use Rattle.std.specs.declared.cmp.Ordering.{Ordering}
use Rattle.std.specs.declared.cmp.Ordering.TheVariants.{Equal}
use Rattle.ifmap_ident.specs.Leading.{FrontsCompare}
use Rattle.ifmap_lemmas.specs.Orderings.{both_equal, then_decided, then_equal, then_then, then_where_equal}
use Rattle.ifmap_lemmas.specs.Texts.{slice_cmp-same}

-- one byte each
pub leads_one : (b c : ℕ) → FrontsCompare (nat_cmp b c) (b ∷ []) (c ∷ [])
leads_one b c = record { compares = λ x y. refl }

-- one beginning, and then another
pub leads_both : {o r : Ordering} {p q s t : List ℕ} → FrontsCompare o p q → FrontsCompare r s t
    → FrontsCompare (ordering_then o r) (p ++ s) (q ++ t)
leads_both {o} {r} {p} {q} {s} {t} f g =
    record {
      compares = λ x y. rw (append_assoc p s x, append_assoc q t y) (f.compares (s ++ x) (t ++ y)
          ∙ ap (ordering_then o) (g.compares x y) ∙ then_then o r (slice_cmp nat_cmp x y));
    }

-- the same beginning
pub leads_same : (p : List ℕ) → FrontsCompare Equal p p
leads_same [] = record { compares = λ x y. refl }
leads_same (b ∷ bs) =
    record {
      compares = λ x y. ap (λ o. ordering_then o (slice_cmp nat_cmp (bs ++ x) (bs ++ y))) (tied_itself nat_cmp_total b)
          ∙ (leads_same bs).compares x y;
    }

-- the same in front of two others
pub leads_after : {o : Ordering} {p q : List ℕ} → (s : List ℕ) → FrontsCompare o p q → FrontsCompare o (s ++ p) (s ++ q)
leads_after s f = leads_both (leads_same s) f

-- once they differ, whatever follows
pub leads_decided : {o : Ordering} {p q : List ℕ} → FrontsCompare o p q → is_eq o ≡ false → (s t : List ℕ)
    → FrontsCompare o (p ++ s) (q ++ t)
leads_decided {o} {p} {q} f e s t =
    record {
      compares = λ x y. rw (append_assoc p s x, append_assoc q t y) (f.compares (s ++ x) (t ++ y)
          ∙ then_decided o (slice_cmp nat_cmp (s ++ x) (t ++ y)) (slice_cmp nat_cmp x y) e);
    }

-- with nothing after them
pub leads_whole : {o : Ordering} {p q : List ℕ} → FrontsCompare o p q → slice_cmp nat_cmp p q ≡ o
leads_whole {o} {p} {q} f = (λ i. slice_cmp nat_cmp (sym (append-nil p) i) (sym (append-nil q) i)) ∙ f.compares [] [] ∙ then_equal o

-- neither goes on from the other
abbrev pub Parted : List ℕ → List ℕ → Type 0
Parted [] [] = Unit {0}
Parted [] (c ∷ cs) = ⊥
Parted (b ∷ bs) [] = ⊥
Parted (b ∷ bs) (c ∷ cs) = b ≡ c → Parted bs cs

pub leads_parted : (p q : List ℕ) → Parted p q → FrontsCompare (slice_cmp nat_cmp p q) p q
leads_parted [] [] h = leads_same []
leads_parted [] (c ∷ cs) h = absurd h
leads_parted (b ∷ bs) [] h = absurd h
leads_parted (b ∷ bs) (c ∷ cs) h =
    record {
      compares = λ x y. then_where_equal (nat_cmp b c) (slice_cmp nat_cmp (bs ++ x) (cs ++ y)) (slice_cmp nat_cmp bs cs)
          (slice_cmp nat_cmp x y) (λ e. (leads_parted bs cs (h (exact_unsigned b c e))).compares x y);
    }

-- texts alike begin alike, where neither beginning goes on from the other
pub parted_alike : (p q s t : List ℕ) → Parted p q → p ++ s ≡ q ++ t → (p ≡ q) × (s ≡ t)
parted_alike [] [] s t h e = (refl, e)
parted_alike [] (c ∷ cs) s t h e = absurd h
parted_alike (b ∷ bs) [] s t h e = absurd h
parted_alike (b ∷ bs) (c ∷ cs) s t h e =
    let first : b ≡ c = cc in
    let others : bs ++ s ≡ cs ++ t = cc in
    let rest = parted_alike bs cs s t (h first) others in
    ((λ i. first i ∷ rest.0 i), rest.1)

-- and they compare alike there
pub leads_alike : {o : Ordering} {p q : List ℕ} → (s t : List ℕ) → FrontsCompare o p q → p ++ s ≡ q ++ t → o ≡ Equal
leads_alike {o} {p} {q} s t f e = (both_equal o (slice_cmp nat_cmp s t) (sym (f.compares s t) ∙ slice_cmp-same (p ++ s) (q ++ t) e)).0
