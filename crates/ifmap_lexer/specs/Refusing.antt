-- What a refusal says.
use Rattle.std.specs.Prelude.{}
use Rattle.ifmap_lexer.specs.declared.errors.LexError.{LexError}
use Rattle.ifmap_lexer.specs.declared.errors.LexError.TheVariants.{Malformed, NoMemory}

-- that nothing of this kind is there, unless there is want of memory
abbrev pub Refuses : LexError → Type 0 → Type 0
Refuses Malformed There = There → ⊥
Refuses NoMemory There = Unit {0}
