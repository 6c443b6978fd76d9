-- What a parse of the command comes to, where no word is an option. A walk over words stops at the name of a subcommand, which has
-- the rest of them: `stopped_walk` and `stopped_faults`, by induction over the rest. `replay_faults` and its like join the two for a
-- name, `unnamed_word_fails` says that another first word fails, and so does no word at all. `found_words` is what an `Ok` shows, and
-- `failed_words` what an `Err` does.
use Rattle.std.proofs.Common.{◌≡◌, ◌∙◌, ℕ, Bool, true, false, List, [], ◌∷◌, ◌++◌, Option, Some, None, arith, append-nil, append_assoc, codes, refl, sym, ap, ap₂, subst, inl, inr, ◌⊎◌}
use Rattle.std.proofs.lemmas.Slice.Eq.{bytes_eq-Decides}
use Rattle.std.specs.List.{fold, list_any, slice_index_or}
use Rattle.std.specs.Prelude.{is_some}
use Rattle.std.specs.Str.{bytes_eq}
use Rattle.clap.specs.Walk.{Names, Row, Rule, Text, Walk, finished, idle, nothing_held, rows_after, settled, subcommand_met, walk, walk_from, walked}
use Rattle.clap.specs.Simple.{App, Shape, built, entered, is_simple, names_of, subcommand_of}
use Rattle.clap.specs.Kinds.{HasKind, Kinds, or_else}
use Rattle.clap.specs.Values.{kind_of}
use Rattle.clap.specs.Faults.{check_fault, defaults_fault, entered_fault, fault_of, is_simple_and_free, level_fault, settle_fault, walk_fault}
use Rattle.clap.specs.declared.error.Error.{Error}
use Rattle.clap.specs.declared.error.kind.ErrorKind.TheVariants.{OutOfMemory}
use Rattle.ifmap_words.specs.Options.{is_option}
use Rattle.ifmap_words.specs.PairLaws.{no_option_among, pair_built, pair_only, pair_passes, pair_rows, walk_fails, some_kind, first_none}
use Rattle.ifmap_words.specs.Pairs.{pair_shape}
use Rattle.std.specs.Fmt.{decimal}
use Rattle.ifmap_command.specs.Commands.{FindsCommand, FindsPair, IsCall, command_app}
use Rattle.ifmap_command.specs.Words.{IsWrong}
use Rattle.ifmap_command.proofs.Asking.{decimal_plain}

abbrev app : App
app = built command_app

abbrev replay : Text
replay = codes "replay"

abbrev drill : Text
drill = codes "drill"

abbrev serve : Text
serve = codes "serve"

abbrev stopped_at : Text → List Text → Walk
stopped_at name words =
    record { held = nothing_held; waiting = idle; position = 1; is_trailing = false; stopped = Some (name, words) }

-- ---- words after a name

stopped_step : (rules : List Rule) (names : Names) (name : Text) (words : List Text) (word : Text)
    → walked rules names (stopped_at name words) word ≡ stopped_at name (words ++ word ∷ [])
unfolding walked
stopped_step rules names name words word = refl

stopped_walk : (rules : List Rule) (names : Names) (name : Text) (words rest : List Text)
    → fold (walked rules names) (stopped_at name words) rest ≡ stopped_at name (words ++ rest)
stopped_walk rules names name words [] = ap (stopped_at name) (sym (append-nil words))
stopped_walk rules names name words (word ∷ rest) =
    ap (λ w. fold (walked rules names) w rest) (stopped_step rules names name words word)
    ∙ stopped_walk rules names name (words ++ word ∷ []) rest
    ∙ ap (stopped_at name) (append_assoc words (word ∷ []) rest)

stopped_faults : (s : Shape) (names : Names) (name : Text) (words rest : List Text)
    → walk_fault s names (stopped_at name words) rest ≡ []
unfolding walk_fault
stopped_faults s names name words [] = refl
stopped_faults s names name words (word ∷ rest) =
    ap (λ w. walk_fault s names w rest) (stopped_step s.rules names name words word)
    ∙ stopped_faults s names name (words ++ word ∷ []) rest

-- ---- the whole level

-- what the words fail by, from where the walk ends and what it fails by
abbrev fault_at : Walk → Kinds → Kinds
fault_at end faults =
    or_else faults
    (or_else (entered_fault app end.stopped)
    (or_else (settle_fault app.top.rules app.top.args_override_self end.held)
    (or_else (defaults_fault (settled app.top.rules end.held).rows app.top.rules)
    (check_fault app.top (finished app.top.rules end.held) (is_some (entered app end.stopped))))))

or_else-nil : (a : Kinds) → or_else a [] ≡ a
or_else-nil [] = refl
or_else-nil (k ∷ ks) = refl

-- the walk that begins with a name
abbrev EndsWalk : Text → Type 0
EndsWalk name = (rest : List Text)
    → (walk app.top.rules (names_of app) nothing_held (name ∷ rest) ≡ stopped_at name rest)
    × (walk_fault app.top (names_of app) (walk_from nothing_held) (name ∷ rest) ≡ [])

stops_replay : EndsWalk replay
unfolding walk_fault walked
stops_replay rest = (
  stopped_walk app.top.rules (names_of app) replay [] rest,
  stopped_faults app.top (names_of app) replay [] rest,
)

stops_drill : EndsWalk drill
unfolding walk_fault walked
stops_drill rest = (
  stopped_walk app.top.rules (names_of app) drill [] rest,
  stopped_faults app.top (names_of app) drill [] rest,
)

stops_serve : EndsWalk serve
unfolding walk_fault walked
stops_serve rest = (
  stopped_walk app.top.rules (names_of app) serve [] rest,
  stopped_faults app.top (names_of app) serve [] rest,
)

-- a command that takes no word, inside any other
abbrev bare_built : Shape → Shape
bare_built s = record s {
  rules = [];
  is_leaf = true;
  args_override_self = false;
  arg_required_else_help = false;
  subcommand_required = false;
  subcommand_negates_reqs = false;
}

bare_passes : (s : Shape) → level_fault (bare_built s) [] nothing_held [] false [] ≡ []
unfolding walk_fault defaults_fault
bare_passes s = refl

bare_only : (s : Shape) (words : List Text) → list_any is_option words ≡ false
    → level_fault (bare_built s) [] nothing_held words false [] ≡ [] → words ≡ []
bare_only s [] plain e = refl
bare_only s (word ∷ rest) plain e =
    absurd (some_kind _ _ (sym (walk_fails (bare_built s) [] nothing_held 1 word rest (no_option_among word rest plain).0 refl)
    ∙ first_none _ _ e))

-- the subcommands as they were built
abbrev shape_at : ℕ → List Shape → Shape
shape_at n shapes = slice_index_or shapes n (pair_shape [])

-- what the words after each name fail by

replay_faults : (rest : List Text)
    → (s : Shape) × (fault_of command_app (replay ∷ rest) ≡ level_fault (bare_built s) [] nothing_held rest false [])
unfolding walk_fault defaults_fault
replay_faults rest = (shape_at 0 app.subs, ap₂ fault_at (stops_replay rest).0 (stops_replay rest).1 ∙ or_else-nil _)

drill_faults : (rest : List Text)
    → (s : Shape) × (fault_of command_app (drill ∷ rest) ≡ level_fault (pair_built s) [] nothing_held rest false [])
unfolding walk_fault defaults_fault
drill_faults rest = (shape_at 1 app.subs, ap₂ fault_at (stops_drill rest).0 (stops_drill rest).1 ∙ or_else-nil _)

serve_faults : (rest : List Text)
    → (s : Shape) × (fault_of command_app (serve ∷ rest) ≡ level_fault (pair_built s) [] nothing_held rest false [])
unfolding walk_fault defaults_fault
serve_faults rest = (shape_at 2 app.subs, ap₂ fault_at (stops_serve rest).0 (stops_serve rest).1 ∙ or_else-nil _)

abbrev pair_rules : List Rule
pair_rules = (pair_built (pair_shape [])).rules

replay_found : (rest : List Text) → subcommand_of command_app (replay ∷ rest) ≡ Some (replay, rows_after [] [] rest)
replay_found rest = ap (λ (w : Walk). entered app w.stopped) (stops_replay rest).0

drill_found : (rest : List Text) → subcommand_of command_app (drill ∷ rest) ≡ Some (drill, rows_after pair_rules [] rest)
drill_found rest = ap (λ (w : Walk). entered app w.stopped) (stops_drill rest).0

serve_found : (rest : List Text) → subcommand_of command_app (serve ∷ rest) ≡ Some (serve, rows_after pair_rules [] rest)
serve_found rest = ap (λ (w : Walk). entered app w.stopped) (stops_serve rest).0

-- ---- other words

none_fails : fault_of command_app [] ≡ [] → ⊥
unfolding walk_fault defaults_fault
none_fails e = some_kind _ _ e

unnamed_word_fails : (word : Text) (rest : List Text) → is_option word ≡ false → subcommand_met (names_of app) idle word ≡ None
    → fault_of command_app (word ∷ rest) ≡ [] → ⊥
unnamed_word_fails word rest plain none e =
    some_kind _ _ (sym (walk_fails app.top (names_of app) nothing_held 1 word rest plain none) ∙ first_none _ _ e)

-- which name a word is
abbrev IsNamed : Text → Type 0
IsNamed word =
    (replay ≡ word) ⊎ ((drill ≡ word) ⊎ ((serve ≡ word) ⊎ (subcommand_met (names_of app) idle word ≡ None)))

named_at : (word : Text) (r d s : Bool) → bytes_eq replay word ≡ r → bytes_eq drill word ≡ d → bytes_eq serve word ≡ s → IsNamed word
named_at word true d s er ed es = inl ((bytes_eq-Decides replay word).0 er)
named_at word false true s er ed es = inr (inl ((bytes_eq-Decides drill word).0 ed))
named_at word false false true er ed es = inr (inr (inl ((bytes_eq-Decides serve word).0 es)))
named_at word false false false er ed es = inr (inr (inr (rw (er, ed, es) refl)))

word_is_named : (word : Text) → IsNamed word
word_is_named word = named_at word (bytes_eq replay word) (bytes_eq drill word) (bytes_eq serve word) refl refl refl

-- ---- what is found

abbrev Passes : List Text → Type 0
Passes words = (list_any is_option words ≡ false) × (fault_of command_app words ≡ [])

found_replay : (rest : List Text) → Passes (replay ∷ rest) → FindsCommand (replay ∷ rest) (subcommand_of command_app (replay ∷ rest))
found_replay rest p =
    let fails = replay_faults rest in
    let none : rest ≡ [] = bare_only fails.0 rest p.0 (sym fails.1 ∙ p.1) in
    inl (ap (λ ws. replay ∷ ws) none, (rows_after [] [] rest, replay_found rest))

-- two words after a name, which took them
found_two : (name x y : Text) (rest : List Text) → list_any is_option rest ≡ false → rest ≡ x ∷ y ∷ []
    → subcommand_of command_app (name ∷ rest) ≡ Some (name, rows_after pair_rules [] rest)
    → IsCall (name ∷ rest) name x y × FindsPair (subcommand_of command_app (name ∷ rest)) name x y
found_two name x y rest plain two found =
    let here : list_any is_option (x ∷ y ∷ []) ≡ false = subst (λ (ws : List Text). list_any is_option ws ≡ false) two plain in
    let one = no_option_among x (y ∷ []) here in
    let other = no_option_among y [] one.1 in
    let got = pair_rows x y one.0 other.0 in (
      record { words_are = ap (λ ws. name ∷ ws) two; plain = one.0 },
      record {
        rows = rows_after pair_rules [] (x ∷ y ∷ []);
        found_is = found ∙ ap (λ ws. Some (name, rows_after pair_rules [] ws)) two;
        first = got.0;
        second = got.1;
      },
    )

found_drill : (rest : List Text) → Passes (drill ∷ rest) → FindsCommand (drill ∷ rest) (subcommand_of command_app (drill ∷ rest))
found_drill rest p =
    let fails = drill_faults rest in
    let two = pair_only fails.0 rest p.0 (sym fails.1 ∙ p.1) in
    let got = found_two drill two.0 two.1 rest p.0 two.2 (drill_found rest) in
    inr (inl (two.0, two.1, got.0, got.1))

found_serve : (rest : List Text) → Passes (serve ∷ rest) → FindsCommand (serve ∷ rest) (subcommand_of command_app (serve ∷ rest))
found_serve rest p =
    let fails = serve_faults rest in
    let two = pair_only fails.0 rest p.0 (sym fails.1 ∙ p.1) in
    let got = found_two serve two.0 two.1 rest p.0 two.2 (serve_found rest) in
    inr (inr (two.0, two.1, got.0, got.1))

pub found_words : (words : List Text) → Passes words → FindsCommand words (subcommand_of command_app words)
found_words [] p = absurd (none_fails p.1)
found_words (word ∷ rest) p = elim (word_is_named word) [
  | inl e ↦ subst (λ w. Passes (w ∷ rest) → FindsCommand (w ∷ rest) (subcommand_of command_app (w ∷ rest))) e (found_replay rest) p
  | inr (inl e) ↦ subst (λ w. Passes (w ∷ rest) → FindsCommand (w ∷ rest) (subcommand_of command_app (w ∷ rest))) e (found_drill rest) p
  | inr (inr (inl e)) ↦
      subst (λ w. Passes (w ∷ rest) → FindsCommand (w ∷ rest) (subcommand_of command_app (w ∷ rest))) e (found_serve rest) p
  | inr (inr (inr none)) ↦ absurd (unnamed_word_fails word rest (no_option_among word rest p.0).0 none p.1)
]

-- ---- what passes

pub replay_taken : fault_of command_app (replay ∷ []) ≡ []
replay_taken = (replay_faults []).1 ∙ bare_passes (replay_faults []).0

pub drill_taken : (x y : Text) → is_option x ≡ false → is_option y ≡ false → fault_of command_app (drill ∷ x ∷ y ∷ []) ≡ []
drill_taken x y plain_x plain_y =
    (drill_faults (x ∷ y ∷ [])).1 ∙ pair_passes (drill_faults (x ∷ y ∷ [])).0 x y plain_x plain_y

pub serve_taken : (x y : Text) → is_option x ≡ false → is_option y ≡ false → fault_of command_app (serve ∷ x ∷ y ∷ []) ≡ []
serve_taken x y plain_x plain_y =
    (serve_faults (x ∷ y ∷ [])).1 ∙ pair_passes (serve_faults (x ∷ y ∷ [])).0 x y plain_x plain_y

pub command_is_simple : is_simple_and_free command_app ≡ true
command_is_simple = refl

-- ---- the answers

pub parsed_words : (it : App) (words : List Text) (found : Option (Text × List Row)) (Q : Type 0) → it ≡ command_app
    → list_any is_option words ≡ false → (is_simple_and_free it ≡ true → fault_of it words ≡ [])
    → (is_simple it ≡ true → Q × (found ≡ subcommand_of it words)) → FindsCommand words found
parsed_words it words found Q is plain kinds matches =
    let passes = sym (ap (λ a. fault_of a words) is) ∙ kinds (ap is_simple_and_free is ∙ command_is_simple) in
    let same = (matches (ap is_simple is)).1 ∙ ap (λ a. subcommand_of a words) is in
    subst (FindsCommand words) (sym same) (found_words words (plain, passes))

-- words that fail, but not for want of memory, do not pass
failed_words_do_not_pass : (it : App) (words : List Text) (error : Error) → it ≡ command_app
    → (is_simple_and_free it ≡ true → HasKind (fault_of it words) error) → (kind_of error ≡ OutOfMemory → ⊥)
    → fault_of command_app words ≡ [] → ⊥
failed_words_do_not_pass it words error is kinds other passes =
    let has = kinds (ap is_simple_and_free is ∙ command_is_simple) in
    elim (subst (λ faults. HasKind faults error) (ap (λ a. fault_of a words) is ∙ passes) has) [
      | inl memory ↦ other memory
      | inr none ↦ none
    ]

pub failed_words : (it : App) (words : List Text) (error : Error) → it ≡ command_app
    → (is_simple_and_free it ≡ true → HasKind (fault_of it words) error) → (kind_of error ≡ OutOfMemory → ⊥) → IsWrong words
failed_words it words error is kinds other = record {
  no_replay = λ e. failed_words_do_not_pass it words error is kinds other (ap (fault_of command_app) e ∙ replay_taken);
  no_drill = λ key count d. failed_words_do_not_pass it words error is kinds other (ap (fault_of command_app) d.words_are
      ∙ drill_taken (decimal key) (decimal count) (decimal_plain key d.key_fits)
      (let few = d.few in decimal_plain count (omega arith)));
  no_serve = λ address workers s. failed_words_do_not_pass it words error is kinds other (ap (fault_of command_app) s.words_are
      ∙ serve_taken address (decimal workers) s.plain (let few = s.few in decimal_plain workers (omega arith)));
}
