-- What becomes of words of which none is an option.
use Rattle.std.proofs.Common.{is_some, ◌≡◌, ℕ, true, false, List, [], ◌∷◌, codes, Option, Some, None, refl, ap, ap₂, sym, ◌∙◌}
use Rattle.std.proofs.lemmas.Bool.{or_parts}
use Rattle.std.specs.List.{list_any}
use Rattle.std.specs.Str.{bytes_eq}
use Rattle.clap.specs.Lexer.{long_of, short_of}
use Rattle.clap.specs.Walk.{after_step, finished, settled, Held, Names, Rule, Step, Text, Walk, arg_by_index, idle, first_of, nothing_held, rows_after, subcommand_met, to_positional, value, walk, walk_from, walked, word_met}
use Rattle.clap.specs.Simple.{Shape, built, entered}
use Rattle.clap.specs.declared.error.kind.ErrorKind.{ErrorKind}
use Rattle.clap.specs.Kinds.{Kinds, or_else}
use Rattle.clap.specs.Faults.{check_fault, defaults_fault, entered_fault, fault_of, is_simple_and_free, level_fault, settle_fault, step_fault, turn_fault, walk_fault, word_fault}
use Rattle.ifmap_words.specs.Options.{is_option}
use Rattle.ifmap_words.specs.Pairs.{first_id, pair_app, second_id}

-- between two words, where the next one is that positional's turn
abbrev pub ready_walk : Held → ℕ → Walk
ready_walk held position =
    record { held = held; waiting = idle; position = position; is_trailing = false; stopped = None }

no_dashes : (word : Text) → is_option word ≡ false → bytes_eq word (codes "--") ≡ false
no_dashes [] plain = refl
no_dashes (c ∷ cs) plain = rw plain refl

no_long : (word : Text) → is_option word ≡ false → long_of word ≡ None
no_long [] plain = refl
no_long (c ∷ cs) plain = rw plain refl

no_short : (word : Text) → is_option word ≡ false → short_of word ≡ None
no_short [] plain = refl
no_short (c ∷ cs) plain = rw plain refl

met_other : (rules : List Rule) (names : Names) (position : ℕ) (word : Text) (h : Held) → is_option word ≡ false
    → subcommand_met names idle word ≡ None → word_met rules names false idle position word h ≡ (h, value)
met_other rules names position word h plain none =
    rw none (rw (no_dashes word plain) (rw (no_long word plain) (rw (no_short word plain) refl)))

pub walked_on : (rules : List Rule) (names : Names) (h : Held) (position : ℕ) (word : Text) → is_option word ≡ false
    → subcommand_met names idle word ≡ None
    → walked rules names (ready_walk h position) word ≡ to_positional rules (arg_by_index rules position) word (ready_walk h position) h
unfolding walked
walked_on rules names h position word plain none =
    ap (λ (met : Held × Step). after_step rules word (ready_walk h position) met.0 met.1) (met_other rules names position word h plain none)

word_fails : (s : Shape) (names : Names) (word : Text) (h : Held) → is_option word ≡ false
    → subcommand_met names idle word ≡ None → word_fault s names false idle word h ≡ []
word_fails s names word h plain none = rw none (rw (no_dashes word plain) (rw (no_long word plain) (rw (no_short word plain) refl)))

pub turn_fails : (s : Shape) (names : Names) (h : Held) (position : ℕ) (word : Text) → is_option word ≡ false
    → subcommand_met names idle word ≡ None → turn_fault s names (ready_walk h position) word ≡ step_fault s position h value
turn_fails s names h position word plain none =
    ap (λ (met : Held × Step). or_else (word_fault s names false idle word h) (step_fault s position met.0 met.1))
    (met_other s.rules names position word h plain none)
    ∙ ap (λ kinds. or_else kinds (step_fault s position h value)) (word_fails s names word h plain none)

pub walk_fails : (s : Shape) (names : Names) (h : Held) (position : ℕ) (word : Text) (rest : List Text) → is_option word ≡ false
    → subcommand_met names idle word ≡ None
    → walk_fault s names (ready_walk h position) (word ∷ rest)
    ≡ or_else (step_fault s position h value)
    (walk_fault s names (to_positional s.rules (arg_by_index s.rules position) word (ready_walk h position) h) rest)
unfolding walk_fault
walk_fails s names h position word rest plain none =
    ap₂ or_else (turn_fails s names h position word plain none)
    (ap (λ w. walk_fault s names w rest) (walked_on s.rules names h position word plain none))

-- none of the words is an option
pub no_option_among : (word : Text) (rest : List Text) → list_any is_option (word ∷ rest) ≡ false
    → (is_option word ≡ false) × (list_any is_option rest ≡ false)
no_option_among word rest plain = or_parts (is_option word) (list_any is_option rest) plain

-- ---- a command that takes two words

-- the command with what it left out, inside any other
abbrev pub pair_built : Shape → Shape
pair_built s = record s {
  rules = (built (pair_app [])).top.rules;
  is_leaf = true;
  args_override_self = false;
  arg_required_else_help = false;
  subcommand_required = false;
  subcommand_negates_reqs = false;
}

abbrev rules : List Rule
rules = (built (pair_app [])).top.rules

abbrev after_one : Text → Walk
after_one x = to_positional rules (arg_by_index rules 1) x (ready_walk nothing_held 1) nothing_held

abbrev after_two : Text → Text → Walk
after_two x y = to_positional rules (arg_by_index rules 2) y (ready_walk (after_one x).held 2) (after_one x).held

one_walked : (x : Text) → is_option x ≡ false → walk rules [] nothing_held (x ∷ []) ≡ after_one x
one_walked x plain = walked_on rules [] nothing_held 1 x plain refl

two_walked : (x y : Text) → is_option x ≡ false → is_option y ≡ false → walk rules [] nothing_held (x ∷ y ∷ []) ≡ after_two x y
two_walked x y plain_x plain_y =
    ap (λ w. walked rules [] w y) (walked_on rules [] nothing_held 1 x plain_x refl)
    ∙ walked_on rules [] (after_one x).held 2 y plain_y refl

two_fail : (s : Shape) (x y : Text) (rest : List Text) → is_option x ≡ false → is_option y ≡ false
    → walk_fault (pair_built s) [] (walk_from nothing_held) (x ∷ y ∷ rest) ≡ walk_fault (pair_built s) [] (after_two x y) rest
two_fail s x y rest plain_x plain_y =
    walk_fails (pair_built s) [] nothing_held 1 x (y ∷ rest) plain_x refl
    ∙ walk_fails (pair_built s) [] (after_one x).held 2 y rest plain_y refl

-- what a level fails by, from where its walk ends and what the walk fails by
abbrev level_at : Shape → Walk → Kinds → Kinds
level_at s end faults =
    or_else faults
    (or_else (settle_fault s.rules s.args_override_self end.held)
    (or_else (defaults_fault (settled s.rules end.held).rows s.rules) (check_fault s (finished s.rules end.held) false)))

pub pair_passes : (s : Shape) (x y : Text) → is_option x ≡ false → is_option y ≡ false
    → level_fault (pair_built s) [] nothing_held (x ∷ y ∷ []) false [] ≡ []
unfolding walk_fault defaults_fault
pair_passes s x y plain_x plain_y =
    ap₂ (level_at (pair_built s)) (two_walked x y plain_x plain_y) (two_fail s x y [] plain_x plain_y)

pub pair_rows : (x y : Text) → is_option x ≡ false → is_option y ≡ false
    → (first_of first_id (rows_after rules [] (x ∷ y ∷ [])) ≡ Some x) × (first_of second_id (rows_after rules [] (x ∷ y ∷ [])) ≡ Some y)
pair_rows x y plain_x plain_y = (
  ap (λ w. first_of first_id (finished rules w.held)) (two_walked x y plain_x plain_y),
  ap (λ w. first_of second_id (finished rules w.held)) (two_walked x y plain_x plain_y),
)

pub some_kind : (k : ErrorKind) (ks : Kinds) → k ∷ ks ≡ [] → ⊥
some_kind k ks e = cc

-- the words are two
abbrev pub AreTwo : List Text → Type 0
AreTwo words = (x : Text) × (y : Text) × (words ≡ x ∷ y ∷ [])

pub first_none : (a b : Kinds) → or_else a b ≡ [] → a ≡ []
first_none [] b e = refl
first_none (k ∷ ks) b e = e

pub pair_only : (s : Shape) (words : List Text) → list_any is_option words ≡ false
    → level_fault (pair_built s) [] nothing_held words false [] ≡ [] → AreTwo words
unfolding walk_fault defaults_fault
pair_only s [] plain e = absurd (some_kind _ _ e)
pair_only s (x ∷ []) plain e =
    let plain_x : is_option x ≡ false = (no_option_among x [] plain).0 in
    absurd (some_kind _ _ (sym (ap₂ (level_at (pair_built s)) (one_walked x plain_x)
    (walk_fails (pair_built s) [] nothing_held 1 x [] plain_x refl)) ∙ e))
pair_only s (x ∷ y ∷ []) plain e = (x, y, refl)
pair_only s (x ∷ y ∷ z ∷ rest) plain e =
    let one = no_option_among x (y ∷ z ∷ rest) plain in
    let two = no_option_among y (z ∷ rest) one.1 in
    let three = no_option_among z rest two.1 in
    absurd (some_kind _ _ (sym (two_fail s x y (z ∷ rest) one.0 two.0
    ∙ walk_fails (pair_built s) [] (after_two x y).held 3 z rest three.0 refl)
    ∙ first_none _ _ e))

-- ---- the same of the command by itself

nothing_entered : (s : Shape) (stop : Option (Text × List Text))
    → (is_some (entered (record { top = s; subs = [] }) stop) ≡ false) × (entered_fault (record { top = s; subs = [] }) stop ≡ [])
nothing_entered s None = (refl, refl)
nothing_entered s (Some p) = (refl, refl)

pub pair_faults : (name : Text) (words : List Text)
    → fault_of (pair_app name) words ≡ level_fault (pair_built (built (pair_app name)).top) [] nothing_held words false []
pair_faults name words =
    let top = (built (pair_app name)).top in
    let none = nothing_entered top (walk rules [] nothing_held words).stopped in
    ap₂ (λ inner below. level_fault top [] nothing_held words inner below) none.0 none.1

pub pair_is_simple : (name : Text) → is_simple_and_free (pair_app name) ≡ true
pair_is_simple name = refl
