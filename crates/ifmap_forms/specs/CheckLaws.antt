-- Checks find one thing: what is composed of checks that find one thing at most does so too, and what is composed of checks that find
-- something finds something. So it is enough to know it of the smallest ones.
use Rattle.std.specs.Prelude.{◌≡◌, ℕ, ◌^◌, nat_lt, Bool, true, false, List, Option, None, Some, Result, Ok, Err, refl}
use Rattle.std.proofs.Common.{◌∙◌, inl, inr, subst, sym}
use Rattle.ifmap_ident.specs.declared.codes.Code.{Code}
use Rattle.ifmap_ident.specs.declared.codes.Code.TheVariants.{Failure}
use Rattle.ifmap_forms.specs.Checks.{Check, IsConclusive, IsSingle, check_if, check_then, err_value, fail, need, need_some, ok_value, pass}
use Rattle.ifmap_forms.specs.Values.{number_of_digits, word_check}

module _ {X : Type 0} where
  pub pass_single : (x : X) → IsSingle (pass x)
  pass_single x one other a b = a ∙ sym b

  pub pass_done : (x : X) → IsConclusive (pass x)
  pass_done x = (ok_value x, refl)

  pub fail_single : (code : Code) → IsSingle {X = X} (fail code)
  fail_single code one other a b = a ∙ sym b

  pub fail_done : (code : Code) → IsConclusive {X = X} (fail code)
  fail_done code = (err_value code, refl)

  pub need_single : (b : Bool) (code : Code) (check : Check X) → IsSingle check → IsSingle (need b code check)
  need_single true code check single = single
  need_single false code check single = fail_single code

  pub need_done : (b : Bool) (code : Code) (check : Check X) → IsConclusive check → IsConclusive (need b code check)
  need_done true code check done = done
  need_done false code check done = fail_done code

  pub if_single : (b : Bool) (one other : Check X) → IsSingle one → IsSingle other → IsSingle (check_if b one other)
  if_single true one other s t = s
  if_single false one other s t = t

  pub if_done : (b : Bool) (one other : Check X) → IsConclusive one → IsConclusive other → IsConclusive (check_if b one other)
  if_done true one other s t = s
  if_done false one other s t = t

module _ {X Y : Type 0} where
  pub some_single : (code : Code) (o : Option X) (check : X → Check Y) → ((x : X) → IsSingle (check x))
      → IsSingle (need_some code o check)
  some_single code None check s = fail_single code
  some_single code (Some x) check s = s x

  pub some_done : (code : Code) (o : Option X) (check : X → Check Y) → ((x : X) → IsConclusive (check x)) → IsConclusive
      (need_some code o check)
  some_done code None check s = fail_done code
  some_done code (Some x) check s = s x

module _ {X Y : Type 0} (first : Check X) (second : X → Check Y) where
  module _ (s : IsSingle first) (t : (x : X) → IsSingle (second x)) where
    -- the first found one value at most
    one_value : (x y : X) → first (ok_value x) → first (ok_value y) → x ≡ y
    one_value x y a b = let e : ok_value x ≡ ok_value y = s (ok_value x) (ok_value y) a b in cc

    -- and no value beside a code
    not_both : (x : X) (code : Code) → first (ok_value x) → first (err_value code) → ⊥
    not_both x code a b = let e : ok_value x ≡ err_value code = s (ok_value x) (err_value code) a b in cc

    -- two findings of the second, of values that the first found
    seconds : (x y : X) (one other : Result Y Code) → first (ok_value x) → first (ok_value y) → second x one → second y other → one ≡ other
    seconds x y one other a b c d =
        t y one other (subst (λ (z : X). second z one) (one_value x y a b) c) d

    pub then_single : IsSingle (check_then first second)
    then_single (Ok y) (Ok z) a b = seconds a.0 b.0 (Ok y) (Ok z) a.1 b.1 a.2 b.2
    then_single (Ok y) (Err d) a (inl b) = absurd (not_both a.0 d a.1 b)
    then_single (Ok y) (Err d) a (inr b) = seconds a.0 b.0 (Ok y) (Err d) a.1 b.1 a.2 b.2
    then_single (Err c) (Ok z) (inl a) b = absurd (not_both b.0 c b.1 a)
    then_single (Err c) (Ok z) (inr a) b = seconds a.0 b.0 (Err c) (Ok z) a.1 b.1 a.2 b.2
    then_single (Err c) (Err d) (inl a) (inl b) =
        let e : err_value {X = X} c ≡ err_value {X = X} d = s (err_value c) (err_value d) a b in
        let same : c ≡ d = cc in
        cc
    then_single (Err c) (Err d) (inl a) (inr b) = absurd (not_both b.0 c b.1 a)
    then_single (Err c) (Err d) (inr a) (inl b) = absurd (not_both a.0 d a.1 b)
    then_single (Err c) (Err d) (inr a) (inr b) = seconds a.0 b.0 (Err c) (Err d) a.1 b.1 a.2 b.2

  module _ (t : (x : X) → first (ok_value x) → IsConclusive (second x)) where
    after_value : (x : X) → first (ok_value x) → (found : Result Y Code) → second x found → IsConclusive (check_then first second)
    after_value x f (Ok y) g = (Ok y, (x, f, g))
    after_value x f (Err code) g = (Err code, inr (x, f, g))

    after_first : (found : Result X Code) → first found → IsConclusive (check_then first second)
    after_first (Ok x) f = let g = t x f in after_value x f g.0 g.1
    after_first (Err code) f = (Err code, inl f)

    -- it is enough that the second finds something of each value that the first finds
    pub then_done : IsConclusive first → IsConclusive (check_then first second)
    then_done s = after_first s.0 s.1

-- ---- numbers below 2^32

pub word_check_single : (text : List ℕ) → IsSingle (word_check text)
word_check_single text =
    some_single Failure (number_of_digits text) (λ n. need (nat_lt n (2 ^ 32)) Failure (pass n))
    (λ n. need_single (nat_lt n (2 ^ 32)) Failure (pass n) (pass_single n))

pub word_check_done : (text : List ℕ) → IsConclusive (word_check text)
word_check_done text =
    some_done Failure (number_of_digits text) (λ n. need (nat_lt n (2 ^ 32)) Failure (pass n))
    (λ n. need_done (nat_lt n (2 ^ 32)) Failure (pass n) (pass_done n))
