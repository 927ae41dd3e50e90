-- Numbers from a seed (own): a linear congruential generator over 64 bits, whose bits are mixed before they are used.
use Rattle.std.specs.Prelude.{ℕ, ◌+◌, ◌*◌, ◌/◌, ◌%◌, ◌^◌, bit_xor}

-- the low 64 bits
abbrev pub low_word : ℕ → ℕ
low_word n = n % 2 ^ 64

-- the seed after a seed: a step of the generator
abbrev pub next_seed : ℕ → ℕ
next_seed seed = low_word (low_word (seed * 6364136223846793005) + 1442695040888963407)

-- its bits, mixed: neighbours differ in most of them
abbrev pub seed_mixture : ℕ → ℕ
seed_mixture seed = low_word (bit_xor seed (seed / 2 ^ 29) * 11400714819323198485)

-- the number of a seed: the high bits of that
abbrev pub seed_number : ℕ → ℕ
seed_number seed = seed_mixture seed / 2 ^ 33
