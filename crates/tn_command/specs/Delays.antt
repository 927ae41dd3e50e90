-- How often a turn gives way before it, by a seed (own): a number of both, by which neighbours differ.
-- Depends on numbers from a seed.
use Rattle.std.specs.Prelude.{ℕ, ◌+◌, ◌%◌}
use Rattle.def_random_run.specs.Numbers.{low_word, next_seed, seed_number}

-- the number of the seed after the sum of both: one below 16
abbrev pub delay_of : (seed turn : ℕ) → ℕ
delay_of seed turn = seed_number (next_seed (low_word (seed + turn))) % 16
