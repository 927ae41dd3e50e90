-- Sets of flags, flag by flag.
use Rattle.std.proofs.Common.{◌≡◌, ◌∙◌, ◌||◌, ◌&&◌, Bool, not, true, false, if◌then◌else◌, refl, sym, ap}
use Rattle.def_spec.specs.Flags as flag
use Rattle.def_spec.specs.Flags.{Flag, send_flag, receive_flag, call_flag, procs_flag, silent_flag, arity_flag, set_on_spawn, set_on_first_spawn, set_on_link, set_on_first_link, union, without, no_flags, only, given_and_kept}
use Rattle.tn_flags.specs.declared.flags.Flags.{Flags}
use Rattle.tn_flags.specs.Views.{flags_of}

-- a truth value for each flag, from the code's three sets, is a fact for each flag
pub record OfEach (f : Bool → Bool → Bool) (s o r : Flags) : Type 0 where
  pub of_send : r.send ≡ f s.send o.send
  pub of_receive : r.receive ≡ f s.receive o.receive
  pub of_call : r.call ≡ f s.call o.call
  pub of_procs : r.procs ≡ f s.procs o.procs
  pub of_silent : r.silent ≡ f s.silent o.silent
  pub of_arity : r.arity ≡ f s.arity o.arity
  pub of_spawn : r.set_on_spawn ≡ f s.set_on_spawn o.set_on_spawn
  pub of_first_spawn : r.set_on_first_spawn ≡ f s.set_on_first_spawn o.set_on_first_spawn
  pub of_link : r.set_on_link ≡ f s.set_on_link o.set_on_link
  pub of_first_link : r.set_on_first_link ≡ f s.set_on_first_link o.set_on_first_link

at : (f : Bool → Bool → Bool) (s o r : Flags) → OfEach f s o r → (x : Flag) → flags_of r x ≡ f (flags_of s x) (flags_of o x)
at f s o r e send_flag = e.of_send
at f s o r e receive_flag = e.of_receive
at f s o r e call_flag = e.of_call
at f s o r e procs_flag = e.of_procs
at f s o r e silent_flag = e.of_silent
at f s o r e arity_flag = e.of_arity
at f s o r e set_on_spawn = e.of_spawn
at f s o r e set_on_first_spawn = e.of_first_spawn
at f s o r e set_on_link = e.of_link
at f s o r e set_on_first_link = e.of_first_link

pub joined_is : (s o r : Flags) → OfEach (λ a b. a || b) s o r → flags_of r ≡ union (flags_of s) (flags_of o)
joined_is s o r e = λ i x. at (λ a b. a || b) s o r e x i

pub without_is : (s o r : Flags) → OfEach (λ a b. a && not b) s o r → flags_of r ≡ without (flags_of s) (flags_of o)
without_is s o r e = λ i x. at (λ a b. a && not b) s o r e x i

-- the three ways in which flags are given on
pub given_first : (a f : Flag) (s both rest : flag.Flags) → both ≡ union (only a) (only f) → s f ≡ true → rest ≡ without s both → (rest, rest) ≡ given_and_kept a f s
given_first a f s both rest b h r =
    ap (λ x. (x, x)) (r ∙ ap (λ x. without s x) b)
    ∙ sym (ap (λ q. if q then (without s (union (only a) (only f)), without s (union (only a) (only f))) else (if s a then s else no_flags, s)) h)

pub given_always : (a f : Flag) (s : flag.Flags) → s f ≡ false → s a ≡ true → (s, s) ≡ given_and_kept a f s
given_always a f s h k =
    sym (ap (λ q. if q then (without s (union (only a) (only f)), without s (union (only a) (only f))) else (if s a then s else no_flags, s)) h
    ∙ ap (λ q. (if q then s else no_flags, s)) k)

pub given_none : (a f : Flag) (s none : flag.Flags) → none ≡ no_flags → s f ≡ false → s a ≡ false → (none, s) ≡ given_and_kept a f s
given_none a f s none e h k =
    ap (λ x. (x, s)) e
    ∙ sym (ap (λ q. if q then (without s (union (only a) (only f)), without s (union (only a) (only f))) else (if s a then s else no_flags, s)) h
    ∙ ap (λ q. (if q then s else no_flags, s)) k)

abbrev pub pair_of : flag.Flags → flag.Flags → flag.Flags × flag.Flags
pair_of f g = (f, g)

-- what is kept, and what the other has then
pub passed_on : (before given kept after : flag.Flags) (pair : flag.Flags × flag.Flags) → pair_of given kept ≡ pair → after ≡ union before given → pair_of kept after ≡ pair_of pair.1 (union before pair.0)
passed_on before given kept after pair e h = ap (pair_of kept) h ∙ ap (λ p. pair_of p.1 (union before p.0)) e

on_spawn : (s : Flags) → flags_of s ≡ no_flags → (x : Flag) → flags_of (record s { set_on_spawn = true; set_on_first_spawn = true }) x ≡ union (only set_on_spawn) (only set_on_first_spawn) x
on_spawn s e send_flag = ap (λ g. g send_flag) e
on_spawn s e receive_flag = ap (λ g. g receive_flag) e
on_spawn s e call_flag = ap (λ g. g call_flag) e
on_spawn s e procs_flag = ap (λ g. g procs_flag) e
on_spawn s e silent_flag = ap (λ g. g silent_flag) e
on_spawn s e arity_flag = ap (λ g. g arity_flag) e
on_spawn s e set_on_spawn = refl
on_spawn s e set_on_first_spawn = refl
on_spawn s e set_on_link = ap (λ g. g set_on_link) e
on_spawn s e set_on_first_link = ap (λ g. g set_on_first_link) e

pub both_on_spawn : (s : Flags) → flags_of s ≡ no_flags → flags_of (record s { set_on_spawn = true; set_on_first_spawn = true }) ≡ union (only set_on_spawn) (only set_on_first_spawn)
both_on_spawn s e = λ i x. on_spawn s e x i

on_link : (s : Flags) → flags_of s ≡ no_flags → (x : Flag) → flags_of (record s { set_on_link = true; set_on_first_link = true }) x ≡ union (only set_on_link) (only set_on_first_link) x
on_link s e send_flag = ap (λ g. g send_flag) e
on_link s e receive_flag = ap (λ g. g receive_flag) e
on_link s e call_flag = ap (λ g. g call_flag) e
on_link s e procs_flag = ap (λ g. g procs_flag) e
on_link s e silent_flag = ap (λ g. g silent_flag) e
on_link s e arity_flag = ap (λ g. g arity_flag) e
on_link s e set_on_spawn = ap (λ g. g set_on_spawn) e
on_link s e set_on_first_spawn = ap (λ g. g set_on_first_spawn) e
on_link s e set_on_link = refl
on_link s e set_on_first_link = refl

pub both_on_link : (s : Flags) → flags_of s ≡ no_flags → flags_of (record s { set_on_link = true; set_on_first_link = true }) ≡ union (only set_on_link) (only set_on_first_link)
both_on_link s e = λ i x. on_link s e x i
