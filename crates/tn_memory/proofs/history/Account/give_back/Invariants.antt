use Rattle.std.proofs.Common.{◌≡◌}
use mathlib.Core.List.{IsPrefix}
use Rattle.tn_memory.specs.Count.{FindsCount}
use Rattle.tn_memory.proofs.history.Account.give_back.Given as goal

-- the history that was reached is one of the account's, and what was found is how many bytes are in use after it
abbrev pub invariant-loop : goal.invariant-loop
invariant-loop l = (l.reached.book ≡ l.self.start.book) × IsPrefix l.self.start.log l.reached.log × FindsCount l.found l.reached.log
