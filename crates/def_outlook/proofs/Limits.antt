-- The error of a limit is of the limit that is passed.
use Rattle.std.proofs.Common.{◌≡◌, ℕ, suc, Bool, true, false, cond, List, [], ◌∷◌, length, map, slice_get, Option, Some, None, refl, subst}
use Rattle.std.specs.Bool.{⊤}
use Rattle.std.specs.Prelude.{nat_le}
use Rattle.def_term.specs.Tree.{Tree, pid_in}
use Rattle.def_term.specs.Names.{Name}
use Rattle.def_script.specs.Program.{Step, send, receive, call_remote, call_local, catch, spawn, link, unlink, give_back, raise, Function, Entry, entry_mfa, number_from}
use Rattle.def_node.specs.Values.{instance_of, fits, all_fit}
use Rattle.def_node.specs.Process.{FRAMES, Frame}
use Rattle.def_outlook.specs.Outlook.{RuntimeError, calls_past_limit, sends_to_no_pid, links_to_no_pid, unlinks_from_no_pid, error_past, error_without_pid, error_entering, error_entering_at, error_calling, error_without_child, error_of_step, error_ahead, upcoming_in, upcoming_of, upcoming_first, upcoming_after, runtime_error}
use Rattle.def_outlook.specs.Laws.{IsPastLimit, ErrorIsOfItsLimit}

-- where there is an error, it is of its limit
abbrev IsOfLimit : Option RuntimeError → ℕ → Option ℕ → Type 0
IsOfLimit None count child = ⊤
IsOfLimit (Some x) count child = IsPastLimit x count child

module _ (count : ℕ) (child : Option ℕ) where
  past : (b : Bool) (o : Option RuntimeError) → IsOfLimit o count child → IsOfLimit (error_past b o) count child
  past true o h = h
  past false o h = tt

  without_pid : (x : RuntimeError) (o : Option ℕ) → IsPastLimit x count child → IsOfLimit (error_without_pid x o) count child
  without_pid x None h = h
  without_pid x (Some n) h = tt

  entering_at : (o : Option Function) → IsOfLimit (error_entering_at count o) count child
  entering_at None = tt
  entering_at (Some k) = go (nat_le FRAMES count) refl
    where
      go : (b : Bool) → nat_le FRAMES count ≡ b → IsOfLimit (cond b (Some calls_past_limit) None) count child
      go true e = e
      go false e = tt

  entering : (ks : List Function) (o : Option ℕ) → IsOfLimit (error_entering ks count o) count child
  entering ks None = tt
  entering ks (Some i) = entering_at (slice_get ks i)

  without_child : IsOfLimit (error_without_child child) count child
  without_child = go child refl
    where
      go : (o : Option ℕ) → child ≡ o → IsOfLimit (error_without_child o) count child
      go None e = e
      go (Some n) e = tt

  of_call : (ks : List Function) (m g : Name) (args : List Tree) → IsOfLimit (error_calling ks count m g args) count child
  of_call ks m g args =
      let number : Option ℕ = number_from 0 ks (record { module_name = m; function_name = g; arity = length args }) in
      past (all_fit args) (error_entering ks count number) (entering ks number)

  of_target : (x : RuntimeError) (t : Tree) → IsPastLimit x count child → IsOfLimit (error_past (fits t) (error_without_pid x (pid_in t))) count child
  of_target x t h = past (fits t) (error_without_pid x (pid_in t)) (without_pid x (pid_in t) h)

  of_step : (ks : List Function) (k : Function) (f : Frame) (s : Option Step) → IsOfLimit (error_of_step ks child k f count s) count child
  of_step ks k f None = tt
  of_step ks k f (Some (send to t)) =
      let last : Option RuntimeError = error_without_pid sends_to_no_pid (pid_in (instance_of f.env to)) in
      past (fits (instance_of f.env to)) (error_past (fits (instance_of f.env t)) last) (past (fits (instance_of f.env t)) last (without_pid sends_to_no_pid (pid_in (instance_of f.env to)) tt))
  of_step ks k f (Some (receive x)) = tt
  of_step ks k f (Some (call_remote x m g ts)) = of_call ks m g (map (instance_of f.env) ts)
  of_step ks k f (Some (call_local x g ts)) = of_call ks k.module_name g (map (instance_of f.env) ts)
  of_step ks k f (Some (catch x m g ts)) = of_call ks m g (map (instance_of f.env) ts)
  of_step ks k f (Some (spawn x m g ts)) = past (all_fit (map (instance_of f.env) ts)) (error_without_child child) without_child
  of_step ks k f (Some (link t)) = of_target links_to_no_pid (instance_of f.env t) tt
  of_step ks k f (Some (unlink t)) = of_target unlinks_from_no_pid (instance_of f.env t) tt
  of_step ks k f (Some (give_back t)) = past (fits (instance_of f.env t)) None tt
  of_step ks k f (Some (raise c t)) = past (fits (instance_of f.env t)) None tt

of_newest : (ks : List Function) (child : Option ℕ) (fs : List Frame) → IsOfLimit (error_ahead ks child (length fs) (upcoming_of ks fs)) (length fs) child
of_newest ks child [] = tt
of_newest ks child (f ∷ fs) = go (slice_get ks f.function)
  where
    go : (o : Option Function) → IsOfLimit (error_ahead ks child (suc (length fs)) (upcoming_in f (suc (length fs)) o)) (suc (length fs)) child
    go None = tt
    go (Some k) = of_step (suc (length fs)) child ks k f (slice_get k.steps f.place)

of_first : (ks : List Function) (child : Option ℕ) (fs : List Frame) (o : Option Entry) → IsOfLimit (error_ahead ks child (length fs) (upcoming_first ks fs o)) (length fs) child
of_first ks child fs None = of_newest ks child fs
of_first ks child fs (Some e) = entering (length fs) child ks (number_from 0 ks (entry_mfa e))

of_next : (ks : List Function) (child : Option ℕ) (fs : List Frame) (e : Option Entry) (o : Option Tree) → IsOfLimit (error_ahead ks child (length fs) (upcoming_after ks fs e o)) (length fs) child
of_next ks child fs e None = of_first ks child fs e
of_next ks child fs e (Some r) = tt

that_one : (o : Option RuntimeError) (x : RuntimeError) (count : ℕ) (child : Option ℕ) → IsOfLimit o count child → o ≡ Some x → IsPastLimit x count child
that_one o x count child h e = subst (λ p. IsOfLimit p count child) e h

pub error_is_of_its_limit : ErrorIsOfItsLimit
error_is_of_its_limit ks child q x e = that_one (runtime_error ks child q) x (length q.frames) child (of_next ks child q.frames q.entry q.signal) e
