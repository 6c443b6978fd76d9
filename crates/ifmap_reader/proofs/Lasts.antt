-- What is written at the last place of a list.
use Rattle.std.proofs.Common.{◌≡◌, ℕ, ◌+◌, ◌-◌, ◌<◌, List, [], ◌∷◌, ◌++◌, length, take, set, get_or, ap, sym, ◌∙◌, arith}
use Rattle.std.proofs.lemmas.List.{take_all, take_more, take_more_set, length-set}
use Rattle.ifmap_reader.specs.OpenElements.{ChangesLast}

-- what is written at the last place
pub last_changed : {X : Type 0} (change : X → X) (old new : List X) (last : ℕ) (x y : X) → last + 1 ≡ length old → x ≡ get_or old last x
    → y ≡ change x → new ≡ set old last y → ChangesLast change old new
last_changed change old new last x y end is made written = record {
  before = take last old;
  last = x;
  old_is = sym (take_all (last + 1) old (omega (arith, end))) ∙ take_more old last x (omega (arith, end))
      ∙ ap (λ z. take last old ++ z ∷ []) (sym is);
  new_is = written ∙ sym (take_all (last + 1) (set old last y) (let h = length-set old last y in omega (arith, end, h)))
      ∙ take_more_set old last y (omega (arith, end)) ∙ ap (λ z. take last old ++ z ∷ []) made;
}
