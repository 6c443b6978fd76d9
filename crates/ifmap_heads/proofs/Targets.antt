-- When bytes end inside a request's target.
use Rattle.std.proofs.Common.{◌≡◌, ℕ, ◌<◌, Bool, true, false, List, [], ◌∷◌, ◌++◌, length, refl, sym, ap, ◌∙◌, arith, append_assoc}
use Rattle.std.specs.Prelude.{◌&&◌, ◌==◌}
use Rattle.std.specs.List.{list_all}
use Rattle.std.proofs.lemmas.Bool.{eqb-true}
use Rattle.std.proofs.lemmas.List.Elements.{All-head, All-tail, All-nil, All-cons}
use Rattle.std.proofs.lemmas.List.Sums.{AllPass-from_list_all, list_all-from_AllPass}
use Rattle.ifmap_lemmas.specs.Branches.{all_three}
use Rattle.httparse.specs.Ascii.{space}
use Rattle.httparse.specs.Grammar.{AllPass, EndsInTarget, IsToken, LineEnd, is_token_byte, is_uri_byte, print_blank, print_end}
use Rattle.httparse.proofs.PieceLemmas.{newline_not_stopped, print_end_unique, space_ends_token, Stops_token}
use Rattle.ifmap_heads.specs.Empty.{BeginsNoLineEnd, is_cut_target}

to_begun : (m t : List ℕ) → AllPass is_token_byte m → AllPass is_uri_byte t → is_cut_target true (m ++ space ∷ t) ≡ true
to_begun [] t p q = rw (space_ends_token, list_all-from_AllPass is_uri_byte t q)
to_begun (b ∷ m) t p q =
    let first = All-head (λ v. is_token_byte v ≡ true) b m p in
    rw first (to_begun m t (All-tail (λ v. is_token_byte v ≡ true) b m p) q)

pub target_cut : (m t : List ℕ) → IsToken m → AllPass is_uri_byte t → is_cut_target false (m ++ space ∷ t) ≡ true
target_cut [] t p q = absurd (omega (arith, p.0))
target_cut (b ∷ m) t p q =
    let first = All-head (λ v. is_token_byte v ≡ true) b m p.1 in
    rw first (to_begun m t (All-tail (λ v. is_token_byte v ≡ true) b m p.1) q)

-- a line that ends inside a target
pub record CutLine (begun : Bool) (line : List ℕ) : Type 0 where
  pub method : List ℕ
  pub target : List ℕ
  pub token : AllPass is_token_byte method
  pub uri : AllPass is_uri_byte target
  pub is : line ≡ method ++ space ∷ target
  pub some : begun ≡ false → 0 < length method

pub cut_line : (begun : Bool) (line : List ℕ) → is_cut_target begun line ≡ true → CutLine begun line
cut_line begun [] e = cc
cut_line begun (b ∷ line) e = by_test (cut_line true line) (is_token_byte b) refl
  where
    by_test : (is_cut_target true line ≡ true → CutLine true line) → (t : Bool) → is_token_byte b ≡ t → CutLine begun (b ∷ line)
    by_test step true letter =
        let later = step (rw letter at e) in
        record {
          method = b ∷ later.method;
          target = later.target;
          token = All-cons (λ v. is_token_byte v ≡ true) b later.method letter later.token;
          uri = later.uri;
          is = ap (λ (xs : List ℕ). b ∷ xs) later.is;
          some = λ _. omega arith;
        }
    by_test step false other =
        let parts = all_three begun (b == space) (list_all is_uri_byte line) (rw other at e) in
        let same : b ≡ space = eqb-true b space parts.1 in
        record {
          method = [];
          target = line;
          token = All-nil (λ v. is_token_byte v ≡ true);
          uri = AllPass-from_list_all is_uri_byte line parts.2;
          is = ap (λ (x : ℕ). x ∷ line) same;
          some = λ not_begun. let begins = parts.0 in cc;
        }

pub line_unique : (blank ends : List LineEnd) (line m t : List ℕ) → BeginsNoLineEnd line → IsToken m
    → print_blank blank ++ line ≡ print_blank ends ++ (m ++ space ∷ t) → line ≡ m ++ space ∷ t
line_unique [] [] line m t none token e = e
line_unique [] (d ∷ ends) line m t none token e =
    absurd (none d _ (e ∙ append_assoc (print_end d) (print_blank ends) (m ++ space ∷ t)))
line_unique (a ∷ blank) [] line m t none token e =
    absurd (newline_not_stopped a (print_blank blank ++ line) (m ++ space ∷ t)
    (sym (append_assoc (print_end a) (print_blank blank) line) ∙ e) (Stops_token m (space ∷ t) token.0 token.1))
line_unique (a ∷ blank) (d ∷ ends) line m t none token e =
    let tails = print_end_unique a d (print_blank blank ++ line) (print_blank ends ++ (m ++ space ∷ t))
    (sym (append_assoc (print_end a) (print_blank blank) line) ∙ e ∙ append_assoc (print_end d) (print_blank ends) (m ++ space ∷ t)) in
    line_unique blank ends line m t none token tails.1

pub ends_in_target : (bytes : List ℕ) (blank : List LineEnd) (line : List ℕ) → bytes ≡ print_blank blank ++ line
    → is_cut_target false line ≡ true → EndsInTarget bytes
ends_in_target bytes blank line e test =
    let cut = cut_line false line test in (
      blank,
      cut.method,
      cut.target,
      (cut.some refl, cut.token),
      cut.uri,
      e ∙ ap (λ (xs : List ℕ). print_blank blank ++ xs) cut.is
          ∙ sym (append_assoc (print_blank blank) cut.method (space ∷ cut.target)),
    )

pub target_ends : (bytes : List ℕ) (blank : List LineEnd) (line : List ℕ) → bytes ≡ print_blank blank ++ line
    → BeginsNoLineEnd line → EndsInTarget bytes → is_cut_target false line ≡ true
target_ends bytes blank line e none (ends, m, t, token, uri, cut) =
    let same = line_unique blank ends line m t none token
    (sym e ∙ cut ∙ append_assoc (print_blank ends) m (space ∷ t)) in
    rw same (target_cut m t token uri)
