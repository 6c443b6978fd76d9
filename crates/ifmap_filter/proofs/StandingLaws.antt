-- What the code of `standing` does beside its definitions: the depth, the stack with the innermost last, and tokens that are not allowed.
use Rattle.std.proofs.Common.{◌≡◌, ◌≢◌, ◌<◌, ◌≤◌, true, false, List, [], ◌∷◌, ◌++◌, length, refl, ap, arith, Option, Some, None, reverse}
use Rattle.std.specs.Prelude.{nat_lt}
use Rattle.std.proofs.lemmas.Bool.Decides.{nat_tests}
use Rattle.std.proofs.lemmas.List.{length-reverse, reverse-append}
use Rattle.ifmap_elem.specs.declared.elements.Name as element
use Rattle.ifmap_prefixes.specs.ifmap_reader.declared.scoping.Scope.{Scope}
use Rattle.ifmap_filter.specs.declared.filters.Predicate.{Predicate, Or}
use Rattle.ifmap_filter.specs.declared.filters.Test.{Test}
use Rattle.ifmap_filter.specs.declared.progress.OuterPart.{OuterPart}
use Rattle.ifmap_filter.specs.declared.progress.OpenPart.{OpenPart}
use Rattle.ifmap_filter.specs.declared.progress.Operand.{Operand}
use Rattle.ifmap_filter.specs.declared.raw_tokens.RawToken.{RawToken}
use Rattle.ifmap_filter.specs.declared.raw_tokens.RawToken.TheVariants as raw
use Rattle.ifmap_filter.specs.Grammar.{depth_limit}
use Rattle.ifmap_filter.specs.RawTokens.{token_of_raw}
use Rattle.ifmap_filter.specs.Progress.{Context, FactorDue, context, join_parts, inner_context, inner_place, IsNotSingle, follow_done, follow_equals, follow_factor, follow_literal, follow_local, follow_named, follow_test, follow_tested, test_of}

pub depth_limit_is : depth_limit ≡ 64
unfolding depth_limit
depth_limit_is = refl

pub too_deep : (i : OpenPart) → 64 ≤ length i.outer → inner_place (context i) ≡ None
too_deep i far =
    let e : nat_lt (length (reverse i.outer)) depth_limit ≡ false =
    (let l = length-reverse i.outer in let d = depth_limit_is in grind (arith, nat_tests, l, d, far)) in
    rw e refl

pub goes_deeper : (i : OpenPart) → length i.outer < 64 → inner_place (context i) ≡ Some (FactorDue (inner_context (context i)))
goes_deeper i near =
    let e : nat_lt (length (reverse i.outer)) depth_limit ≡ true =
    (let l = length-reverse i.outer in let d = depth_limit_is in grind (arith, nat_tests, l, d, near)) in
    rw e refl

pub reverse_push : (outer : List OuterPart) (outer_part : OuterPart) → reverse (outer ++ outer_part ∷ []) ≡ outer_part ∷ reverse outer
reverse_push outer outer_part = reverse-append outer (outer_part ∷ [])

pub not_single : (join : List Predicate → Predicate) (parts : List Predicate) → IsNotSingle parts → join_parts join parts ≡ join parts
not_single join [] other = refl
not_single join (p ∷ []) other = absurd (other p refl)
not_single join (p ∷ (q ∷ ps)) other = refl

pub many_not_single : (parts : List Predicate) → length parts ≢ 1 → IsNotSingle parts
many_not_single parts other p e = other (ap length e)

pub more_than_one : (ors : List Predicate) (p : Predicate) → ors ≢ [] → join_parts Or (ors ++ p ∷ []) ≡ Or (ors ++ p ∷ [])
more_than_one [] p some = absurd (some refl)
more_than_one (o ∷ []) p some = refl
more_than_one (o ∷ (q ∷ os)) p some = refl

-- tokens that are not allowed at a place

abbrev pub IsNoName : RawToken → Type 0
IsNoName m = (prefix local : _) → m ≢ raw.Name prefix local

abbrev pub IsNoLiteral : RawToken → Type 0
IsNoLiteral m = (value : _) → m ≢ raw.Literal value

-- what holds of each kind of raw, where the raw is of that kind, holds of the raw
by_kind : (P : RawToken → Type 0) (m : RawToken)
    → (m ≡ raw.Any → P raw.Any) → (m ≡ raw.OpenBracket → P raw.OpenBracket) → (m ≡ raw.CloseBracket → P raw.CloseBracket)
    → (m ≡ raw.OpenParenthesis → P raw.OpenParenthesis) → (m ≡ raw.CloseParenthesis → P raw.CloseParenthesis)
    → (m ≡ raw.EqualsSign → P raw.EqualsSign) → (m ≡ raw.At → P raw.At)
    → ((prefix local : _) → m ≡ raw.Name prefix local → P (raw.Name prefix local))
    → ((value : _) → m ≡ raw.Literal value → P (raw.Literal value)) → P m
by_kind P raw.Any on_any on_open on_close on_group on_end on_equals on_at on_name on_literal = on_any refl
by_kind P raw.OpenBracket on_any on_open on_close on_group on_end on_equals on_at on_name on_literal = on_open refl
by_kind P raw.CloseBracket on_any on_open on_close on_group on_end on_equals on_at on_name on_literal = on_close refl
by_kind P raw.OpenParenthesis on_any on_open on_close on_group on_end on_equals on_at on_name on_literal = on_group refl
by_kind P raw.CloseParenthesis on_any on_open on_close on_group on_end on_equals on_at on_name on_literal = on_end refl
by_kind P raw.EqualsSign on_any on_open on_close on_group on_end on_equals on_at on_name on_literal = on_equals refl
by_kind P raw.At on_any on_open on_close on_group on_end on_equals on_at on_name on_literal = on_at refl
by_kind P (raw.Name prefix local) on_any on_open on_close on_group on_end on_equals on_at on_name on_literal = on_name prefix local refl
by_kind P (raw.Literal value) on_any on_open on_close on_group on_end on_equals on_at on_name on_literal = on_literal value refl

pub test_refused : (scope : Scope) (done : List Test) (m : RawToken) → m ≢ raw.Any → IsNoName m
    → None ≡ follow_test scope done (token_of_raw m)
test_refused scope done m no_Any no_Name =
    by_kind (λ n. None ≡ follow_test scope done (token_of_raw n)) m
    (λ e. absurd (no_Any e)) (λ e. refl) (λ e. refl) (λ e. refl) (λ e. refl) (λ e. refl) (λ e. refl)
    (λ prefix local e. absurd (no_Name prefix local e)) (λ value e. refl)

pub tested_refused : (done : List Test) (m : RawToken) → IsNoName m
    → None ≡ follow_tested done (token_of_raw m)
tested_refused done m no_Name =
    by_kind (λ n. None ≡ follow_tested done (token_of_raw n)) m
    (λ e. refl) (λ e. refl) (λ e. refl) (λ e. refl) (λ e. refl) (λ e. refl) (λ e. refl)
    (λ prefix local e. absurd (no_Name prefix local e)) (λ value e. refl)

pub factor_refused : (scope : Scope) (c : Context) (m : RawToken) → m ≢ raw.OpenParenthesis → m ≢ raw.At → IsNoName m
    → None ≡ follow_factor scope c (token_of_raw m)
factor_refused scope c m no_OpenParenthesis no_At no_Name =
    by_kind (λ n. None ≡ follow_factor scope c (token_of_raw n)) m
    (λ e. refl) (λ e. refl) (λ e. refl) (λ e. absurd (no_OpenParenthesis e)) (λ e. refl) (λ e. refl) (λ e. absurd (no_At e))
    (λ prefix local e. absurd (no_Name prefix local e)) (λ value e. refl)

pub local_refused : (c : Context) (m : RawToken) → IsNoName m
    → None ≡ follow_local c (token_of_raw m)
local_refused c m no_Name =
    by_kind (λ n. None ≡ follow_local c (token_of_raw n)) m
    (λ e. refl) (λ e. refl) (λ e. refl) (λ e. refl) (λ e. refl) (λ e. refl) (λ e. refl)
    (λ prefix local e. absurd (no_Name prefix local e)) (λ value e. refl)

pub equals_refused : (c : Context) (a : Operand) (m : RawToken) → m ≢ raw.EqualsSign
    → None ≡ follow_equals c a (token_of_raw m)
equals_refused c a m no_EqualsSign =
    by_kind (λ n. None ≡ follow_equals c a (token_of_raw n)) m
    (λ e. refl) (λ e. refl) (λ e. refl) (λ e. refl) (λ e. refl) (λ e. absurd (no_EqualsSign e)) (λ e. refl) (λ prefix local e. refl)
    (λ value e. refl)

pub literal_refused : (c : Context) (a : Operand) (m : RawToken) → IsNoLiteral m
    → None ≡ follow_literal c a (token_of_raw m)
literal_refused c a m no_Literal =
    by_kind (λ n. None ≡ follow_literal c a (token_of_raw n)) m
    (λ e. refl) (λ e. refl) (λ e. refl) (λ e. refl) (λ e. refl) (λ e. refl) (λ e. refl) (λ prefix local e. refl)
    (λ value e. absurd (no_Literal value e))

pub done_refused : (c : Context) (m : RawToken) → IsNoName m → m ≢ raw.CloseParenthesis → m ≢ raw.CloseBracket
    → None ≡ follow_done c (token_of_raw m)
done_refused c m no_Name no_CloseParenthesis no_CloseBracket =
    by_kind (λ n. None ≡ follow_done c (token_of_raw n)) m
    (λ e. refl) (λ e. refl) (λ e. absurd (no_CloseBracket e)) (λ e. refl) (λ e. absurd (no_CloseParenthesis e)) (λ e. refl)
    (λ e. refl) (λ prefix local e. absurd (no_Name prefix local e)) (λ value e. refl)

pub named_other : (done : List Test) (name : Option element.Name) (m : RawToken) → m ≢ raw.OpenBracket
    → follow_named done name (token_of_raw m) ≡ follow_tested (done ++ test_of name None ∷ []) (token_of_raw m)
named_other done name m no_OpenBracket =
    by_kind (λ n. follow_named done name (token_of_raw n) ≡ follow_tested (done ++ test_of name None ∷ []) (token_of_raw n)) m
    (λ e. refl) (λ e. absurd (no_OpenBracket e)) (λ e. refl) (λ e. refl) (λ e. refl) (λ e. refl) (λ e. refl) (λ prefix local e. refl)
    (λ value e. refl)
