-- The assignments of a tag, up to its end.
use Rattle.std.specs.Prelude.{◌≡◌, ℕ, true, ◌==◌, ◌||◌, List, [], ◌∷◌, ◌++◌}
use Rattle.std.specs.Str.{byte}
use Rattle.ifmap_lemmas.specs.Items.{To}
use Rattle.ifmap_elem.specs.Chars.{IsWhite, greater_than}
use Rattle.ifmap_elem.specs.declared.tokens.Assignment.{Assignment}
use Rattle.ifmap_elem.specs.Tokens.{TakesAssignment}

-- a tag's end begins with `>` or `/`
abbrev pub ClosesTag : List ℕ → Type 0
ClosesTag [] = ⊥
ClosesTag (b ∷ bs) = (b == greater_than || b == byte "/") ≡ true

-- assignments and white space, up to a tag's end
pub record TakesAssignments (bytes : List ℕ) (assignments : List Assignment) (end : List ℕ) : Type 0 where
  pub white : List ℕ
  pub assigned : To TakesAssignment bytes assignments (white ++ end)
  pub is_white : IsWhite white
  pub closes : ClosesTag end

-- white space, and then a tag's end
abbrev pub IsAtEnd : List ℕ → Type 0
IsAtEnd bytes = (white : List ℕ) × (end : List ℕ) × (bytes ≡ white ++ end) × IsWhite white × ClosesTag end
