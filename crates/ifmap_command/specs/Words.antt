-- The words of the program.
use Rattle.std.specs.Prelude.{◌≡◌, ◌<◌, ◌≤◌, ◌^◌, ℕ, false, List, [], ◌∷◌, codes, length}
use Rattle.std.specs.Fmt.{decimal}
use Rattle.ifmap_io.specs.Limits.{most_events, most_workers}
use Rattle.ifmap_words.specs.Options.{is_option}
use Rattle.ifmap_command.specs.declared.forms.Form.{Form}
use Rattle.ifmap_command.specs.declared.forms.Form.TheVariants as form

-- `replay`
abbrev pub IsReplay : List (List ℕ) → Type 0
IsReplay words = words ≡ codes "replay" ∷ []

-- `drill KEY COUNT`
pub record IsDrill (words : List (List ℕ)) (key count : ℕ) : Type 0 where
  pub words_are : words ≡ codes "drill" ∷ decimal key ∷ decimal count ∷ []
  pub key_fits : key < 2 ^ 64
  pub some : 1 ≤ count
  pub few : count ≤ most_events

-- `serve ADDRESS WORKERS`
pub record IsServe (words : List (List ℕ)) (address : List ℕ) (workers : ℕ) : Type 0 where
  pub words_are : words ≡ codes "serve" ∷ address ∷ decimal workers ∷ []
  pub plain : is_option address ≡ false
  pub nonempty : 1 ≤ length address
  pub some : 1 ≤ workers
  pub few : workers ≤ most_workers

-- none of the three
pub record IsWrong (words : List (List ℕ)) : Type 0 where
  pub no_replay : IsReplay words → ⊥
  pub no_drill : (key count : ℕ) → IsDrill words key count → ⊥
  pub no_serve : (address : List ℕ) (workers : ℕ) → IsServe words address workers → ⊥

-- the words ask for the form; at want of memory nothing is said of them
abbrev pub Asks : List (List ℕ) → Form → Type 0
Asks words form.Replay = IsReplay words
Asks words (form.Drill key count) = IsDrill words key count
Asks words (form.Serve address workers) = IsServe words address workers
Asks words form.Wrong = IsWrong words
Asks words form.NoMemory = Unit {0}
