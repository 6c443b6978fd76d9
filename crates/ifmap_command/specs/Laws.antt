-- What holds of all words.
use Rattle.std.specs.Prelude.{◌≡◌, ◌≢◌, ℕ, List}
use Rattle.ifmap_command.specs.declared.forms.Form.{Form}
use Rattle.ifmap_command.specs.declared.forms.Form.TheVariants.{NoMemory}
use Rattle.ifmap_command.specs.Words.{Asks}

-- words ask for one form, but for want of memory
abbrev pub OneForm : Type 0
OneForm =
    (words : List (List ℕ)) (one other : Form) → one ≢ NoMemory → other ≢ NoMemory → Asks words one → Asks words other → one ≡ other
