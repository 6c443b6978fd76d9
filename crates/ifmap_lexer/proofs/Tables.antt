-- Tables of bytes, held against a test at each of the 256 bytes by computing.
use Rattle.std.proofs.Common.{◌≡◌, ℕ, zero, suc, ◌<◌, Bool, true, false, ◌&&◌, not, nat_eq, get_or, List, refl, arith, inl, inr}
use Rattle.std.specs.Bool.{beq}
use Rattle.std.proofs.lemmas.Bool.{cases_eq}
use Rattle.std.specs.Str.{byte}
use Rattle.ifmap_lemmas.specs.Branches.{agree_and}

-- two tests agree below a number
unfoldable pub agree_below : (ℕ → Bool) → (ℕ → Bool) → ℕ → Bool
agree_below f g zero = true
agree_below f g (suc n) = beq (f n) (g n) && agree_below f g n

agree_at : (f g : ℕ → Bool) (n : ℕ) → agree_below f g n ≡ true → (b : ℕ) → b < n → f b ≡ g b
unfolding agree_below
agree_at f g zero h b l = absurd (omega arith)
agree_at f g (suc n) h b l =
    let both = agree_and (f n) (g n) (agree_below f g n) h in
    elim (cases_eq b n) [ inl same ↦ rw same both.0 | inr other ↦ agree_at f g n both.1 b (omega arith) ]

-- a byte passes where the table has no comma (44) at its place
pub from_table : (table : List ℕ) (g : ℕ → Bool) (b : ℕ) → b < 256
    → agree_below (λ k. not (nat_eq (get_or table k 0) (byte ","))) g 256 ≡ true
    → not (nat_eq (get_or table b 0) (byte ",")) ≡ g b
from_table table g b l h = agree_at _ _ 256 h b l
