-- To strike one session's commands leaves what the others see.
use Rattle.std.proofs.Common.{◌≡◌, ℕ, zero, suc, ◌<◌, ◌≤◌, List, [], ◌∷◌, ◌++◌, map, length, Bool, true, false, not, cond, if◌then◌else◌, refl, sym, ap, ◌∙◌, arith}
use Rattle.std.specs.Prelude.{filter}
use Rattle.std.specs.Str.{bytes_eq}
use Rattle.std.proofs.lemmas.Slice.Eq.{bytes_eq-Decides}
use Rattle.def_term.specs.Names.{Name}
use Rattle.def_script.specs.Program.{Function, Program, Command, session_of}
use Rattle.def_node.specs.Node.{World, Move, moved, idle, next_of, opening_world}
use Rattle.def_run.specs.Run.{event_item, command_item, RunState, goes_to, history_from, moves_from, moves}
use Rattle.def_script.specs.Exports.{exports_of}
use Rattle.def_run.specs.View.{is_own, view, strike_commands, strike_program, strike_picks}
use Rattle.def_run.proofs.Appends.{own-append}

abbrev at : World → List Command → ℕ → RunState
at w cs k = record { world = w; commands = cs; room = k }

same_name-is : (a b : Name) → bytes_eq a b ≡ true → a ≡ b
same_name-is a b e = (bytes_eq-Decides a b).0 e

-- names that are the same as one name are the same
no_longer_own : (r s c : Name) → bytes_eq r s ≡ false → bytes_eq r c ≡ true → bytes_eq s c ≡ false
no_longer_own r s c apart e = go (bytes_eq s c) refl
  where
    go : (b : Bool) → bytes_eq s c ≡ b → b ≡ false
    go false f = refl
    go true f = cc (apart, sym (ap (bytes_eq r) (same_name-is s c f)), e)

abbrev Goal : List Function → Name → RunState → List ℕ → RunState → List ℕ → Type 0
Goal ks s q struck p picks = filter (is_own s) (history_from ks q struck) ≡ filter (is_own s) (history_from ks p picks)

struck : (ks : List Function) (s r : Name) → bytes_eq r s ≡ false → (picks : List ℕ) (w : World) (cs : List Command) (k j : ℕ) → length (moves_from ks (at w cs k) picks) < k → k ≤ j → Goal ks s (at w (strike_commands r cs) j) (strike_picks r picks cs) (at w cs k) picks
struck ks s r apart [] w cs k j h g = refl
struck ks s r apart (pick ∷ picks) w cs zero j h g = absurd (omega arith)
struck ks s r apart (pick ∷ picks) w cs (suc k) zero h g = absurd (omega arith)
struck ks s r apart (zero ∷ picks) w [] (suc k) (suc j) h g = struck ks s r apart picks w [] (suc k) (suc j) h g
struck ks s r apart (zero ∷ picks) w (c ∷ cs) (suc k) (suc j) h g = go (bytes_eq r (session_of c)) refl (struck ks s r apart picks w cs k (suc j) (omega arith) (omega arith)) (struck ks s r apart picks w cs k j (omega arith) (omega arith))
  where
    go : (b : Bool) → bytes_eq r (session_of c) ≡ b
        → Goal ks s (at w (strike_commands r cs) (suc j)) (strike_picks r picks cs) (at w cs k) picks
        → Goal ks s (at w (strike_commands r cs) j) (strike_picks r picks cs) (at w cs k) picks
        → Goal ks s (at w (cond (not b) (c ∷ strike_commands r cs) (strike_commands r cs)) (suc j)) (if b then strike_picks r picks cs else zero ∷ strike_picks r picks cs) (at w (c ∷ cs) (suc k)) (zero ∷ picks)
    go true e f i = f ∙ ap (λ b. cond b (command_item c ∷ filter (is_own s) (history_from ks (at w cs k) picks)) (filter (is_own s) (history_from ks (at w cs k) picks))) (sym (no_longer_own r s (session_of c) apart e))
    go false e f i = ap (λ xs. cond (bytes_eq s (session_of c)) (command_item c ∷ xs) xs) i
struck ks s r apart (suc n ∷ picks) w cs (suc k) (suc j) h g = go (λ v l i a b. struck ks s r apart picks v cs l i a b) (next_of ks w (suc n)) h
  where
    go : ((v : World) (l i : ℕ) → length (moves_from ks (at v cs l) picks) < l → l ≤ i → Goal ks s (at v (strike_commands r cs) i) (strike_picks r picks cs) (at v cs l) picks)
        → (m : Move) → length ((if (goes_to (at w cs (suc k)) k m).moved then suc n ∷ [] else []) ++ moves_from ks (goes_to (at w cs (suc k)) k m).after picks) < suc k
        → filter (is_own s) ((goes_to (at w (strike_commands r cs) (suc j)) j m).shown ++ history_from ks (goes_to (at w (strike_commands r cs) (suc j)) j m).after (strike_picks r picks cs))
        ≡ filter (is_own s) ((goes_to (at w cs (suc k)) k m).shown ++ history_from ks (goes_to (at w cs (suc k)) k m).after picks)
    go ih (idle v) f = ih w (suc k) (suc j) f g
    go ih (moved v es) f =
        own-append s (map event_item es) (history_from ks (at v (strike_commands r cs) j) (strike_picks r picks cs))
        ∙ ap (filter (is_own s) (map event_item es) ++◌) (ih v k j (omega arith) (omega arith))
        ∙ sym (own-append s (map event_item es) (history_from ks (at v cs k) picks))

pub struck_view : (s r : Name) (p : Program) (picks : List ℕ) → bytes_eq r s ≡ false → length (moves p picks) < 65536 → view s (strike_program r p) (strike_picks r picks p.commands) ≡ view s p picks
struck_view s r p picks apart h = λ i. record { opening = exports_of p; items = struck p.functions s r apart picks (opening_world p.entries) p.commands 65536 65536 h (omega arith) i }
