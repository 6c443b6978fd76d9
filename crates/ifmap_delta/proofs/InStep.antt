-- Lists that go in step, and what the number of an identifier tells.
use Rattle.std.proofs.Common.{◌≡◌, ℕ, zero, suc, ◌<◌, Option, Some, None, IfSome, List, [], ◌∷◌, ◌++◌, take, length, get_or, ap, sym, subst, refl, arith, ◌∙◌, ◌+◌}
use Rattle.std.proofs.lemmas.List.{take_more}
use Rattle.std.proofs.lemmas.Option.{none-some}
use Rattle.ifmap_ident.specs.declared.identifiers.Identifier.{Identifier}
use Rattle.ifmap_delta.specs.Located.{AreEach, IsNumberOf}
use Rattle.ifmap_delta.specs.SeenViews.{ViewSeen}

module _ {X Y : Type 0} (R : X → Y → Type 0) where
  pub each_long : (xs : List X) (ys : List Y) → AreEach R xs ys → length ys ≡ length xs
  each_long [] [] a = refl
  each_long [] (y ∷ ys) a = absurd a
  each_long (x ∷ xs) [] a = absurd a
  each_long (x ∷ xs) (y ∷ ys) a = omega (arith, each_long xs ys a.1)

  -- the relation at a place
  pub each_at : (xs : List X) (ys : List Y) (i : ℕ) (x : X) (y : Y) → AreEach R xs ys → i < length xs → x ≡ get_or xs i x
      → y ≡ get_or ys i y → R x y
  each_at [] ys i x y a h e f = absurd (omega (arith, h))
  each_at (z ∷ xs) [] i x y a h e f = absurd a
  each_at (z ∷ xs) (w ∷ ys) zero x y a h e f = subst (λ q. R q y) (sym e) (subst (λ q. R z q) (sym f) a.0)
  each_at (z ∷ xs) (w ∷ ys) (suc i) x y a h e f = each_at xs ys i x y a.1 (omega (arith, h)) e f

  -- one more at the end of both
  each_push : (xs : List X) (ys : List Y) (x : X) (y : Y) → AreEach R xs ys → R x y → AreEach R (xs ++ x ∷ []) (ys ++ y ∷ [])
  each_push [] [] x y a r = (r, tt)
  each_push [] (w ∷ ys) x y a r = absurd a
  each_push (z ∷ xs) [] x y a r = absurd a
  each_push (z ∷ xs) (w ∷ ys) x y a r = (a.0, each_push xs ys x y a.1 r)

  -- one place more
  pub each_more : (xs : List X) (ys : List Y) (i : ℕ) (x : X) (y : Y) → AreEach R (take i xs) ys → i < length xs
      → x ≡ get_or xs i x → R x y → AreEach R (take (i + 1) xs) (ys ++ y ∷ [])
  each_more xs ys i x y a h e r =
      subst (λ l. AreEach R l (ys ++ y ∷ [])) (sym (take_more xs i x h ∙ ap (λ z. take i xs ++ z ∷ []) (sym e)))
      (each_push (take i xs) ys x y a r)

module _ (g : ViewSeen) (a : Identifier) where
  pub number_found : (o : Option ℕ) (v : ℕ) → IsNumberOf g a o → o ≡ Some v → g.id_at v ≡ Some a
  number_found o v n e = subst (λ q. IfSome q (λ w. g.id_at w ≡ Some a)) e n.found

  pub number_none : (o : Option ℕ) → IsNumberOf g a o → o ≡ None → (v : ℕ) → g.id_at v ≡ Some a → ⊥
  number_none o n e v i = none-some v (sym e ∙ n.only v i)
