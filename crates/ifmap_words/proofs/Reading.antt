-- What a parse of a command that takes two words comes to.
use Rattle.std.proofs.Common.{◌≡◌, ◌∙◌, List, [], ◌∷◌, true, false, Option, Some, None, IfNone, IfSome, ap, sym, subst, refl, inl, inr}
use Rattle.std.specs.Prelude.{IsSomeAnd, option_map, unwrap_or}
use Rattle.std.specs.Borrow.{Bor}
use Rattle.clap.proofs.WalkLemmas.{first_value-rows}
use Rattle.clap.specs.Matches.{first_value}
use Rattle.clap.specs.declared.parser.matches.Found.{Found}
use Rattle.std.specs.List.{list_any}
use Rattle.clap.specs.Walk.{Row, Text, first_of, rows_of, nothing_held}
use Rattle.clap.specs.Simple.{App, built, is_simple, matches_of}
use Rattle.clap.specs.Values.{kind_of}
use Rattle.clap.specs.Kinds.{HasKind}
use Rattle.clap.specs.Faults.{fault_of, is_simple_and_free, level_fault}
use Rattle.clap.specs.declared.error.Error.{Error}
use Rattle.clap.specs.declared.error.kind.ErrorKind.TheVariants.{OutOfMemory}
use Rattle.ifmap_words.specs.declared.pairs.Pair.{Pair}
use Rattle.ifmap_words.specs.Options.{is_option}
use Rattle.ifmap_words.specs.Pairs.{HasPair, IsPair, first_id, pair_app, second_id}
use Rattle.ifmap_words.specs.PairLaws.{AreTwo, no_option_among, pair_built, pair_faults, pair_is_simple, pair_only, pair_passes, pair_rows}

-- a pair has no option
pub pair_is_plain : (words : List Text) (x y : Text) → IsPair words x y → list_any is_option words ≡ false
pair_is_plain words x y is = rw (is.0, is.1, is.2) refl

some_found : (words : List Text) (x y : Text) (found : Option Pair) → IsPair words x y
    → IsSomeAnd found (λ pair. (pair.first.now ≡ x) × (pair.second.now ≡ y))
    → IfSome found (λ pair. IsPair words pair.first.now pair.second.now)
some_found words x y None is got = absurd got
some_found words x y (Some pair) is got = rw (got.0, got.1) is

none_found : (words : List Text) (x y : Text) (found : Option Pair) (P : Type 0)
    → IsSomeAnd found (λ pair. (pair.first.now ≡ x) × (pair.second.now ≡ y)) → IfNone found P
none_found words x y None P got = absurd got
none_found words x y (Some pair) P got = tt

passes_as : (app : App) (name : Text) (words : List Text) → app ≡ pair_app name → (is_simple_and_free app ≡ true → fault_of app words ≡ [])
    → fault_of (pair_app name) words ≡ []
passes_as app name words is kinds =
    sym (ap (λ a. fault_of a words) is) ∙ kinds (ap is_simple_and_free is ∙ pair_is_simple name)

rows_as : (app : App) (name : Text) (words : List Text) (rows : List Row) (Q : Type 0) → app ≡ pair_app name
    → (is_simple app ≡ true → (rows ≡ matches_of app words) × Q) → rows ≡ matches_of (pair_app name) words
rows_as app name words rows Q is matches = (matches (ap is_simple is)).0 ∙ ap (λ a. matches_of a words) is

none≢some : {x : Text} → None ≡ Some x → ⊥
none≢some {x} e = cc

-- two words are found where the parse passes
found_pair : (name : Text) (words : List Text) (rows : List Row) (found : Option Pair) → list_any is_option words ≡ false
    → fault_of (pair_app name) words ≡ [] → rows ≡ matches_of (pair_app name) words → HasPair rows found
    → (x : Text) × (y : Text) × IsPair words x y × IsSomeAnd found (λ pair. (pair.first.now ≡ x) × (pair.second.now ≡ y))
found_pair name words rows found plain passes are has =
    let two : AreTwo words = pair_only (built (pair_app name)).top words plain (sym (pair_faults name words) ∙ passes) in
    let x = two.0 in
    let y = two.1 in
    let here : list_any is_option (x ∷ y ∷ []) ≡ false = subst (λ (ws : List Text). list_any is_option ws ≡ false) two.2 plain in
    let one = no_option_among x (y ∷ []) here in
    let other = no_option_among y [] one.1 in
    let got = pair_rows x y one.0 other.0 in
    let is = are ∙ ap (λ ws. matches_of (pair_app name) ws) two.2 in
    (x, y, (two.2, one.0, other.0), has x y (ap (first_of first_id) is ∙ got.0) (ap (first_of second_id) is ∙ got.1))

pub some_pair : (app : App) (name : Text) (words : List Text) (rows : List Row) (Q : Type 0) (found : Option Pair) → app ≡ pair_app name
    → list_any is_option words ≡ false → (is_simple_and_free app ≡ true → fault_of app words ≡ [])
    → (is_simple app ≡ true → (rows ≡ matches_of app words) × Q) → HasPair rows found
    → IfSome found (λ pair. IsPair words pair.first.now pair.second.now)
some_pair app name words rows Q found is plain kinds matches has =
    let got = found_pair name words rows found plain (passes_as app name words is kinds) (rows_as app name words rows Q is matches) has in
    some_found words got.0 got.1 found got.2 got.3

pub no_pair_missed : (app : App) (name : Text) (words : List Text) (rows : List Row) (Q : Type 0) (found : Option Pair) (P : Type 0)
    → app ≡ pair_app name
    → list_any is_option words ≡ false → (is_simple_and_free app ≡ true → fault_of app words ≡ [])
    → (is_simple app ≡ true → (rows ≡ matches_of app words) × Q) → HasPair rows found → IfNone found P
no_pair_missed app name words rows Q found P is plain kinds matches has =
    let got = found_pair name words rows found plain (passes_as app name words is kinds) (rows_as app name words rows Q is matches) has in
    none_found words got.0 got.1 found P got.3

-- no pair fails but for want of memory
pub pair_fails : (app : App) (name : Text) (words : List Text) (error : Error) → app ≡ pair_app name
    → (is_simple_and_free app ≡ true → HasKind (fault_of app words) error)
    → (kind_of error ≡ OutOfMemory → ⊥) → (x y : Text) → IsPair words x y → ⊥
pair_fails app name words error is kinds other x y pair =
    let passes : fault_of (pair_app name) words ≡ [] =
    pair_faults name words
    ∙ ap (λ (ws : List Text). level_fault (pair_built (built (pair_app name)).top) [] nothing_held ws false []) pair.0
    ∙ pair_passes (built (pair_app name)).top x y pair.1 pair.2 in
    let has : HasKind (fault_of app words) error = kinds (ap is_simple_and_free is ∙ pair_is_simple name) in
    elim (subst (λ faults. HasKind faults error) (ap (λ a. fault_of a words) is ∙ passes) has) [
      | inl memory ↦ other memory
      | inr none ↦ none
    ]

-- ---- what a getter tells

pub no_value_is_none : (f : Found) (id x : Text) (o : Option (Bor Text)) → option_map (λ s. s.now) o ≡ first_value f id → o ≡ None
    → first_of id (rows_of f) ≡ Some x → ⊥
no_value_is_none f id x o got none first =
    none≢some (sym (ap (option_map (λ s. s.now)) none) ∙ got ∙ first_value-rows f id ∙ first)

pub value_is_found : (f : Found) (id x : Text) (o : Option (Bor Text)) (s : Bor Text) → option_map (λ s. s.now) o ≡ first_value f id
    → o ≡ Some s
    → first_of id (rows_of f) ≡ Some x → s.now ≡ x
value_is_found f id x o s got some first =
    ap (λ (t : Option Text). unwrap_or t x) (sym (ap (option_map (λ s. s.now)) some) ∙ got ∙ first_value-rows f id ∙ first)
