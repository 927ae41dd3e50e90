-- Lists of entries.
use Rattle.std.specs.Prelude.{ℕ, suc, nat_eq, List, [], ◌∷◌, map, Option, Some, None, cond}
use Rattle.std.specs.List.{count_by}
use Rattle.tn_live.specs.declared.entry.Entry.{Entry}

abbrev pub entry : ℕ → ℕ → Entry
entry seat pick = record { seat = seat; pick = pick }

abbrev pub picks_of : List Entry → List ℕ
picks_of entries = map (λ e. e.pick) entries

-- how many entries are the seat's
abbrev pub made_by : ℕ → List Entry → ℕ
made_by seat entries = count_by (λ e. nat_eq e.seat seat) entries

-- the number of the seat's latest entry, the first of these having the number n
abbrev pub last_from : ℕ → ℕ → List Entry → Option ℕ → Option ℕ
last_from seat n [] found = found
last_from seat n (e ∷ es) found = last_from seat (suc n) es (cond (nat_eq e.seat seat) (Some n) found)

abbrev pub last_by : ℕ → List Entry → Option ℕ
last_by seat entries = last_from seat 0 entries None
