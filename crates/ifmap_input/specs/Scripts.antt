-- How far a script is read.
use Rattle.std.specs.Prelude.{ℕ, ◌^◌}

-- how many bytes of a script may be frames, or lines without the newline of the last one
abbrev pub longest_script : ℕ
longest_script = 2 ^ 32
