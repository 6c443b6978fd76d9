-- What the words ask for.
use Rattle.std.proofs.Common.{◌≡◌, ◌≢◌, zero, suc, Bool, true, false, ◌||◌, ◌++◌, ◌+◌, ◌%◌, ◌∙◌, ◌≤◌, ◌<◌, ◌^◌, ℕ, List, [], ◌∷◌, codes, length, refl, sym, ap, ap₂, arith}
use Rattle.std.proofs.lemmas.Fmt.{decimal_by_steps, decimal_injective}
use Rattle.std.proofs.lemmas.Bool.{true≢false}
use Rattle.std.proofs.lemmas.Bool.Decides.{nat_tests}
use Rattle.std.specs.List.{list_any}
use Rattle.std.specs.Fmt.{decimal}
use Rattle.ifmap_lemmas.specs.Branches.{neither}
use Rattle.ifmap_io.specs.Limits.{most_events, most_workers}
use Rattle.ifmap_words.specs.Options.{is_option}
use Rattle.ifmap_command.specs.declared.forms.Form.TheVariants as form
use Rattle.ifmap_command.specs.Laws.{OneForm}
use Rattle.ifmap_command.specs.Words.{IsDrill, IsReplay, IsServe, IsWrong}

-- the first letter, the second word and the third
abbrev letter : List (List ℕ) → ℕ
letter [] = 0
letter ([] ∷ ws) = 0
letter ((c ∷ cs) ∷ ws) = c

abbrev second : List (List ℕ) → List ℕ
second (a ∷ b ∷ ws) = b
second _ = []

abbrev third : List (List ℕ) → List ℕ
third (a ∷ b ∷ c ∷ ws) = c
third _ = []

-- ---- numbers are no options

plain_digit : (n : ℕ) → n < 10 → is_option ((48 + n) ∷ []) ≡ false
plain_digit n low = grind (arith, nat_tests)

plain_more : (ds : List ℕ) (d : ℕ) → is_option ds ≡ false → is_option (d ∷ []) ≡ false → is_option (ds ++ d ∷ []) ≡ false
plain_more [] d plain last = last
plain_more (c ∷ cs) d plain last = plain

pub decimal_plain : (n : ℕ) → n < 2 ^ 64 → is_option (decimal n) ≡ false
decimal_plain = decimal_by_steps (λ n ds. is_option ds ≡ false) plain_digit
    (λ n ds many plain. plain_more ds (48 + n % 10) plain (plain_digit (n % 10) (omega arith)))

three_plain : (words : List (List ℕ)) (x y z : List ℕ) → words ≡ x ∷ y ∷ z ∷ [] → is_option x ≡ false → is_option y ≡ false
    → is_option z ≡ false
    → list_any is_option words ≡ false
three_plain words x y z e p q r = ap (list_any is_option) e
    ∙ neither (is_option x) (list_any is_option (y ∷ z ∷ [])) p
    (neither (is_option y) (list_any is_option (z ∷ [])) q (neither (is_option z) false r refl))

-- where a word is an option the words are of no form
pub option_is_wrong : (words : List (List ℕ)) → list_any is_option words ≡ true → IsWrong words
option_is_wrong words has = record {
  no_replay = λ e. true≢false (sym has ∙ ap (list_any is_option) e);
  no_drill = λ key count d. true≢false (sym has ∙ three_plain words (codes "drill") (decimal key) (decimal count) d.words_are refl
      (decimal_plain key d.key_fits) (let few = d.few in decimal_plain count (omega arith)));
  no_serve = λ address workers s. true≢false (sym has ∙ three_plain words (codes "serve") address (decimal workers) s.words_are refl s.plain
      (let few = s.few in decimal_plain workers (omega arith)));
}

-- ---- words that begin with one name are of no other form

drill_no_replay : (words : List (List ℕ)) (x y : List ℕ) → words ≡ codes "drill" ∷ x ∷ y ∷ [] → IsReplay words → ⊥
drill_no_replay words x y e f = let bad : 100 ≡ 114 = ap letter (sym e ∙ f) in absurd (omega (arith, bad))

serve_no_replay : (words : List (List ℕ)) (x y : List ℕ) → words ≡ codes "serve" ∷ x ∷ y ∷ [] → IsReplay words → ⊥
serve_no_replay words x y e f = let bad : 115 ≡ 114 = ap letter (sym e ∙ f) in absurd (omega (arith, bad))

drill_no_serve : (words : List (List ℕ)) (x y a b : List ℕ) → words ≡ codes "drill" ∷ x ∷ y ∷ [] → words ≡ codes "serve" ∷ a ∷ b ∷ [] → ⊥
drill_no_serve words x y a b e f = let bad : 100 ≡ 115 = ap letter (sym e ∙ f) in absurd (omega (arith, bad))

-- ---- what two words after a name ask for

abbrev drill_words : List ℕ → List ℕ → List (List ℕ)
drill_words x y = codes "drill" ∷ x ∷ y ∷ []

abbrev serve_words : List ℕ → List ℕ → List (List ℕ)
serve_words x y = codes "serve" ∷ x ∷ y ∷ []

pub no_drill : (x y : List ℕ) → ((key count : ℕ) → IsDrill (drill_words x y) key count → ⊥) → IsWrong (drill_words x y)
no_drill x y none = record {
  no_replay = drill_no_replay (drill_words x y) x y refl;
  no_drill = none;
  no_serve = λ a w is. drill_no_serve (drill_words x y) x y a (decimal w) refl is.words_are;
}

pub no_key : (x y : List ℕ) → ((n : ℕ) → n < 2 ^ 64 → x ≢ decimal n) → IsWrong (drill_words x y)
no_key x y none = no_drill x y (λ key count is. none key is.key_fits (ap second is.words_are))

pub no_count : (x y : List ℕ) → ((n : ℕ) → 1 ≤ n → n ≤ most_events → y ≢ decimal n) → IsWrong (drill_words x y)
no_count x y none = no_drill x y (λ key count is. none count is.some is.few (ap third is.words_are))

pub is_drill : (x y : List ℕ) (key count : ℕ) → (key < 2 ^ 64) × (x ≡ decimal key)
    → (1 ≤ count) × (count ≤ most_events) × (y ≡ decimal count) → IsDrill (drill_words x y) key count
is_drill x y key count k c = record {
  words_are = ap₂ drill_words k.1 c.2;
  key_fits = k.0;
  some = c.0;
  few = c.1;
}

pub no_serve : (x y : List ℕ) → ((a : List ℕ) (w : ℕ) → IsServe (serve_words x y) a w → ⊥) → IsWrong (serve_words x y)
no_serve x y none = record {
  no_replay = serve_no_replay (serve_words x y) x y refl;
  no_drill = λ key count is. drill_no_serve (serve_words x y) (decimal key) (decimal count) x y is.words_are refl;
  no_serve = none;
}

pub no_address : (x y : List ℕ) → length x ≡ 0 → IsWrong (serve_words x y)
no_address x y none = no_serve x y (λ a w is. let same : length x ≡ length a = ap (λ ws. length (second ws)) is.words_are in
    let some = is.nonempty in
    absurd (omega arith))

pub no_workers : (x y : List ℕ) → ((n : ℕ) → 1 ≤ n → n ≤ most_workers → y ≢ decimal n) → IsWrong (serve_words x y)
no_workers x y none = no_serve x y (λ a w is. none w is.some is.few (ap third is.words_are))

at_least : (n : ℕ) → (n ≡ 0 → ⊥) → 1 ≤ n
at_least zero some = absurd (some refl)
at_least (suc n) some = omega arith

pub is_serve : (x y a : List ℕ) (w : ℕ) → is_option x ≡ false → (length x ≡ 0 → ⊥) → a ≡ x → (1 ≤ w) × (w ≤ most_workers) × (y ≡ decimal w)
    → IsServe (serve_words x y) a w
is_serve x y a w plain some same c = record {
  words_are = ap₂ serve_words (sym same) c.2;
  plain = ap is_option same ∙ plain;
  nonempty = let long : length a ≡ length x = ap length same in at_least (length a) (λ e. some (sym long ∙ e));
  some = c.0;
  few = c.1;
}

-- ---- words ask for one form

one_drill : (words : List (List ℕ)) (key count k c : ℕ) → IsDrill words key count → IsDrill words k c
    → form.Drill key count ≡ form.Drill k c
one_drill words key count k c is other =
    let e = sym is.words_are ∙ other.words_are in
    let small = is.few in
    let low = other.few in
    ap₂ (λ a b. form.Drill a b) (decimal_injective key k is.key_fits other.key_fits (ap second e))
    (decimal_injective count c (omega arith) (omega arith) (ap third e))

one_serve : (words : List (List ℕ)) (a b : List ℕ) (w v : ℕ) → IsServe words a w → IsServe words b v → form.Serve a w ≡ form.Serve b v
one_serve words a b w v is other =
    let e = sym is.words_are ∙ other.words_are in
    let small = is.few in
    let low = other.few in
    ap₂ (λ x y. form.Serve x y) (ap second e) (decimal_injective w v (omega arith) (omega arith) (ap third e))

pub one_form : OneForm
one_form words form.NoMemory other n m a b = absurd (n refl)
one_form words one form.NoMemory n m a b = absurd (m refl)
one_form words form.Replay form.Replay n m a b = refl
one_form words form.Replay (form.Drill key count) n m a b = absurd (drill_no_replay words (decimal key) (decimal count) b.words_are a)
one_form words form.Replay (form.Serve address workers) n m a b = absurd (serve_no_replay words address (decimal workers) b.words_are a)
one_form words form.Replay form.Wrong n m a b = absurd (b.no_replay a)
one_form words (form.Drill key count) form.Replay n m a b = absurd (drill_no_replay words (decimal key) (decimal count) a.words_are b)
one_form words (form.Drill key count) (form.Drill k c) n m a b = one_drill words key count k c a b
one_form words (form.Drill key count) (form.Serve address workers) n m a b =
    absurd (drill_no_serve words (decimal key) (decimal count) address (decimal workers) a.words_are b.words_are)
one_form words (form.Drill key count) form.Wrong n m a b = absurd (b.no_drill key count a)
one_form words (form.Serve address workers) form.Replay n m a b = absurd (serve_no_replay words address (decimal workers) a.words_are b)
one_form words (form.Serve address workers) (form.Drill k c) n m a b =
    absurd (drill_no_serve words (decimal k) (decimal c) address (decimal workers) b.words_are a.words_are)
one_form words (form.Serve address workers) (form.Serve x y) n m a b = one_serve words address x workers y a b
one_form words (form.Serve address workers) form.Wrong n m a b = absurd (b.no_serve address workers a)
one_form words form.Wrong form.Replay n m a b = absurd (a.no_replay b)
one_form words form.Wrong (form.Drill k c) n m a b = absurd (a.no_drill k c b)
one_form words form.Wrong (form.Serve address workers) n m a b = absurd (a.no_serve address workers b)
one_form words form.Wrong form.Wrong n m a b = refl

-- ---- numbers within a limit

pub number_beyond : (n most k : ℕ) (text : List ℕ) → (n < 2 ^ 64) × (text ≡ decimal n) → most < 2 ^ 32 → ((1 ≤ n) × (n ≤ most) → ⊥)
    → 1 ≤ k → k ≤ most → text ≢ decimal k
number_beyond n most k text is fits beyond some few e =
    let same : n ≡ k = decimal_injective n k is.0 (omega arith) (sym is.1 ∙ e) in
    beyond (omega arith, omega arith)
