-- The random word of an event: four words of a stream, the lowest first.
use Rattle.std.specs.Prelude.{ℕ, ◌+◌, ◌*◌, ◌^◌}
use Rattle.rand_chacha.specs.ChaCha.{ChaCha, next_word}

-- the next word of the stream
abbrev pub head_word : ChaCha → ℕ
head_word words = (next_word 10 words).0

-- the stream after its next word
abbrev pub after_one_word : ChaCha → ChaCha
after_one_word words = (next_word 10 words).1

-- the next four words as one
abbrev pub random_word : ChaCha → ℕ
random_word words =
    let second = after_one_word words in
    let third = after_one_word second in
    let fourth = after_one_word third in
    head_word words + 2 ^ 32 * head_word second + 2 ^ 64 * head_word third + 2 ^ 96 * head_word fourth

-- the stream after these
abbrev pub after_random : ChaCha → ChaCha
after_random words = after_one_word (after_one_word (after_one_word (after_one_word words)))
