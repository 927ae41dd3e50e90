-- A form breaks a rule exactly where there is a reason.
use Rattle.std.proofs.Common.{◌≡◌, ◌≢◌, Bool, true, false, ◌&&◌, ◌||◌, not, cond, is_some, List, [], ◌∷◌, ◌++◌, Option, Some, None, refl, ap, ap₂, ◌∙◌}
use Rattle.std.specs.List.{list_any}
use Rattle.std.specs.Option.{option_map, option_or}
use Rattle.def_term.specs.Tree.{Tree, int, atom, pid, tuple, list, Trees, none, more}
use Rattle.def_term.specs.Names.{Name, Mfa, same_mfa}
use Rattle.def_term.specs.Text.{is_among}
use Rattle.def_script.specs.Program.{is_variable, Step, Function, mfa_of, entry_mfa, Command, create, destroy, set_processes, set_function, set_send, set_receive, session_of, Form, declares, starts, controls}
use Rattle.def_script.specs.Rules.{Rule, duplicate, undeclared, not_exported, unbound, tracer_taken, wrong_arity, past_limit, breaks, any_with_earlier, on_some, declares_one, is_declared_at_all, is_internal, is_misnamed, named_by, has_other_variable, have_other_variable, any_has_other, bound_before, terms_of, commands_of, creates_session, gives_tracer, creates_again, commands_unmade, takes_tracer, first_passing}
use Rattle.def_wording.specs.Firsts.{first_with_earlier}
use Rattle.def_wording.specs.RuleTexts.{declared_too, without_creation, free_in_process, breaks_by_name, wrong_name, names_of_step, step_name, step_reason_of, again_at, first_free, first_free_of, first_free_in, free_at, free_reason_of, session_passing, session_holder, tracer_holder, unless_there, unmade_session, rule_reason}

some_map : {X Y : Type 0} (g : X → Y) (o : Option X) → is_some o ≡ is_some (option_map g o)
some_map g None = refl
some_map g (Some x) = refl

some_or : {X : Type 0} (o p : Option X) → (is_some o || is_some p) ≡ is_some (option_or o p)
some_or None p = refl
some_or (Some x) p = refl

some_if : {X : Type 0} (b : Bool) (x : X) → b ≡ is_some (cond b (Some x) None)
some_if true x = refl
some_if false x = refl

-- the first of a list, where one passes
first_some : {X Y : Type 0} (q : List X → X → Bool) (p : List X → X → Option Y) → ((before : List X) (x : X) → q before x ≡ is_some (p before x))
    → (earlier xs : List X) → any_with_earlier q earlier xs ≡ is_some (first_with_earlier p earlier xs)
first_some q p same earlier [] = refl
first_some q p same earlier (x ∷ xs) =
    ap₂ (λ a b. a || b) (same earlier x) (first_some q p same (earlier ++ x ∷ []) xs) ∙ some_or (p earlier x) (first_with_earlier p (earlier ++ x ∷ []) xs)

any_some : {X Y : Type 0} (q : X → Bool) (p : List X → X → Option Y) → ((before : List X) (x : X) → q x ≡ is_some (p before x))
    → (earlier xs : List X) → list_any q xs ≡ is_some (first_with_earlier p earlier xs)
any_some q p same earlier [] = refl
any_some q p same earlier (x ∷ xs) =
    ap₂ (λ a b. a || b) (same earlier x) (any_some q p same (earlier ++ x ∷ []) xs) ∙ some_or (p earlier x) (first_with_earlier p (earlier ++ x ∷ []) xs)

none_any : {X : Type 0} (xs : List X) → false ≡ list_any (λ x. false) xs
none_any [] = refl
none_any (x ∷ xs) = none_any xs

-- ---- names

named_some : (r : Rule) (fs : List Form) (q : Mfa → Bool) → ((f : Mfa) → q f ≡ breaks_by_name r fs f) → (o : Option Mfa) → on_some q o ≡ is_some (wrong_name r fs o)
named_some r fs q same None = refl
named_some r fs q same (Some f) = same f ∙ some_if (breaks_by_name r fs f) f

step_some : (r : Rule) (fs : List Form) (m : Name) (q : Mfa → Bool) → ((f : Mfa) → q f ≡ breaks_by_name r fs f) → (before : List Step) (s : Step)
    → on_some q (names_of_step r m s) ≡ is_some (step_name r fs m before s)
step_some r fs m q same before s = named_some r fs q same (names_of_step r m s) ∙ some_map _ (wrong_name r fs (names_of_step r m s))

steps_some : (r : Rule) (fs : List Form) (m : Name) (q : Mfa → Bool) → ((f : Mfa) → q f ≡ breaks_by_name r fs f) → (ss : List Step)
    → list_any (λ s. on_some q (names_of_step r m s)) ss ≡ is_some (option_map (step_reason_of r fs) (first_with_earlier (step_name r fs m) [] ss))
steps_some r fs m q same ss =
    any_some (λ s. on_some q (names_of_step r m s)) (step_name r fs m) (step_some r fs m q same) [] ss ∙ some_map (step_reason_of r fs) (first_with_earlier (step_name r fs m) [] ss)

no_name : (o : Option Mfa) → false ≡ on_some (λ f. false) o
no_name None = refl
no_name (Some f) = refl

no_names : (m : Name) (ss : List Step) → false ≡ list_any (λ s. on_some (λ f. false) (named_by m s)) ss
no_names m [] = refl
no_names m (s ∷ ss) = ap₂ (λ a b. a || b) (no_name (named_by m s)) (no_names m ss)

again_some : (f : Mfa) (before : List Form) (g : Form) → declares_one (λ k. same_mfa (mfa_of k) f) g ≡ is_some (again_at f before g)
again_some f before g = some_if (declares_one (λ k. same_mfa (mfa_of k) f) g) _

-- ---- variables

mutual
  free_some : (bound : List Name) (t : Tree) → has_other_variable bound t ≡ is_some (first_free bound t)
  free_some bound (int n) = refl
  free_some bound (atom s) = some_if (is_variable s && not (is_among bound s)) s
  free_some bound (pid n) = refl
  free_some bound (tuple ts) = frees_some bound ts
  free_some bound (list ts) = frees_some bound ts

  frees_some : (bound : List Name) (ts : Trees) → have_other_variable bound ts ≡ is_some (first_free_of bound ts)
  frees_some bound none = refl
  frees_some bound (more t ts) = ap₂ (λ a b. a || b) (free_some bound t) (frees_some bound ts) ∙ some_or (first_free bound t) (first_free_of bound ts)

free_in_some : (bound : List Name) (ts : List Tree) → any_has_other bound ts ≡ is_some (first_free_in bound ts)
free_in_some bound [] = refl
free_in_some bound (t ∷ ts) = ap₂ (λ a b. a || b) (free_some bound t) (free_in_some bound ts) ∙ some_or (first_free bound t) (first_free_in bound ts)

free_at_some : (k : Function) (before : List Step) (s : Step) → any_has_other (bound_before k.params before) (terms_of s) ≡ is_some (free_at k before s)
free_at_some k before s = free_in_some (bound_before k.params before) (terms_of s) ∙ some_map _ (first_free_in (bound_before k.params before) (terms_of s))

-- ---- sessions

passing_first : {X : Type 0} (b : Bool) (x : X) (a : Bool) (o : Option X) → a ≡ is_some o → (b || a) ≡ is_some (cond b (Some x) o)
passing_first true x a o e = refl
passing_first false x a o e = e

passing_some : {X : Type 0} (p : X → Bool) (xs : List X) → list_any p xs ≡ is_some (first_passing p xs)
passing_some p [] = refl
passing_some p (x ∷ xs) = passing_first (p x) x (list_any p xs) (first_passing p xs) (passing_some p xs)

session_some : (p : Command → Bool) (cs : List Command) → list_any p cs ≡ is_some (session_passing p cs)
session_some p cs = passing_some p cs ∙ some_map session_of (first_passing p cs)

holder_some : (before : List Command) (c : Command) → creates_again before c ≡ is_some (session_holder before c)
holder_some before (create s t) = session_some (creates_session s) before ∙ some_map _ (session_passing (creates_session s) before)
holder_some before (destroy s) = refl
holder_some before (set_processes s p h f) = refl
holder_some before (set_function s m p o) = refl
holder_some before (set_send s p) = refl
holder_some before (set_receive s p) = refl

tracer_some : (before : List Command) (c : Command) → takes_tracer before c ≡ is_some (tracer_holder before c)
tracer_some before (create s t) = session_some (gives_tracer t) before ∙ some_map _ (session_passing (gives_tracer t) before)
tracer_some before (destroy s) = refl
tracer_some before (set_processes s p h f) = refl
tracer_some before (set_function s m p o) = refl
tracer_some before (set_send s p) = refl
tracer_some before (set_receive s p) = refl

unless_some : (n : Name) (o : Option Name) → not (is_some o) ≡ is_some (unless_there n o)
unless_some n None = refl
unless_some n (Some s) = refl

uncreated : (n : Name) (before : List Command) → not (list_any (creates_session n) before) ≡ is_some (unless_there n (session_passing (creates_session n) before))
uncreated n before = ap not (session_some (creates_session n) before) ∙ unless_some n (session_passing (creates_session n) before)

unmade_some : (before : List Command) (c : Command) → commands_unmade before c ≡ is_some (unmade_session before c)
unmade_some before (create s t) = refl
unmade_some before (destroy s) = uncreated s before
unmade_some before (set_processes s p h f) = uncreated s before
unmade_some before (set_function s m p o) = uncreated s before
unmade_some before (set_send s p) = uncreated s before
unmade_some before (set_receive s p) = uncreated s before

-- ---- the rules

pub reasoned : (fs earlier : List Form) (f : Form) (r : Rule) → r ≢ past_limit → breaks fs earlier f r ≡ is_some (rule_reason fs earlier f r)
reasoned fs earlier (declares k) duplicate h =
    any_some _ (again_at (mfa_of k)) (again_some (mfa_of k)) [] earlier ∙ some_map (declared_too (mfa_of k)) (first_with_earlier (again_at (mfa_of k)) [] earlier)
reasoned fs earlier (declares k) undeclared h = steps_some undeclared fs k.module_name (λ f. not (is_declared_at_all fs f)) (λ f. refl) k.steps
reasoned fs earlier (declares k) not_exported h = steps_some not_exported fs k.module_name (is_internal fs) (λ f. refl) k.steps
reasoned fs earlier (declares k) unbound h =
    first_some _ (free_at k) (free_at_some k) [] k.steps ∙ some_map (free_reason_of k) (first_with_earlier (free_at k) [] k.steps)
reasoned fs earlier (declares k) tracer_taken h = no_names k.module_name k.steps ∙ steps_some tracer_taken fs k.module_name (λ f. false) (λ f. refl) k.steps
reasoned fs earlier (declares k) wrong_arity h = steps_some wrong_arity fs k.module_name (is_misnamed fs) (λ f. refl) k.steps
reasoned fs earlier (declares k) past_limit h = absurd (h refl)
reasoned fs earlier (starts e) duplicate h = refl
reasoned fs earlier (starts e) undeclared h = some_if (not (is_declared_at_all fs (entry_mfa e))) _
reasoned fs earlier (starts e) not_exported h = some_if (is_internal fs (entry_mfa e)) _
reasoned fs earlier (starts e) unbound h = free_in_some [] e.args ∙ some_map free_in_process (first_free_in [] e.args)
reasoned fs earlier (starts e) tracer_taken h = refl
reasoned fs earlier (starts e) wrong_arity h = some_if (is_misnamed fs (entry_mfa e)) _
reasoned fs earlier (starts e) past_limit h = absurd (h refl)
reasoned fs earlier (controls cs) duplicate h =
    first_some creates_again session_holder holder_some (commands_of earlier) cs ∙ some_map _ (first_with_earlier session_holder (commands_of earlier) cs)
reasoned fs earlier (controls cs) undeclared h =
    first_some commands_unmade unmade_session unmade_some (commands_of earlier) cs ∙ some_map without_creation (first_with_earlier unmade_session (commands_of earlier) cs)
reasoned fs earlier (controls cs) not_exported h = refl
reasoned fs earlier (controls cs) unbound h = refl
reasoned fs earlier (controls cs) tracer_taken h =
    first_some takes_tracer tracer_holder tracer_some (commands_of earlier) cs ∙ some_map _ (first_with_earlier tracer_holder (commands_of earlier) cs)
reasoned fs earlier (controls cs) wrong_arity h = refl
reasoned fs earlier (controls cs) past_limit h = absurd (h refl)
