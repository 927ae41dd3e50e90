-- Whether a call leaves open what a session reports, by the newest command that covers the function.
use Rattle.std.proofs.Common.{◌≡◌, ◌∙◌, ℕ, Bool, true, false, ◌||◌, if◌then◌else◌, List, [], ◌∷◌, Option, Some, None, refl, sym, ap}
use Rattle.std.specs.Prelude.{not}
use Rattle.std.specs.Borrow.{Bor}
use Rattle.std.specs.List.{list_any}
use Rattle.std.specs.Option.{option_map}
use Rattle.def_term.specs.Alive.{Alive}
use Rattle.def_term.specs.Names.{Mfa}
use Rattle.def_term.specs.Tree.{Tree}
use Rattle.def_spec.specs.Expressions.{Context}
use Rattle.def_spec.specs.Flags.{FlagTable, call_flag}
use Rattle.def_node.specs.Event.{Call, called}
use Rattle.def_session.specs.State.{Session, flags_at}
use Rattle.def_session.specs.Session.{context}
use Rattle.def_session.specs.Settings.{FunctionSetting, Setting, off, has_among, setting_for}
use Rattle.def_explain.specs.Causes.{newest_of}
use Rattle.def_explain.specs.Differences.{setting_differences, differences_if}
use Rattle.def_running_node.specs.NodeRuns.{is_open_difference, opens}
use Rattle.tn_term.specs.Views.{mfa_seen}
use Rattle.tn_term.specs.declared.mfa.Mfa as mfas
use Rattle.tn_session.specs.Looks.{parts_of}
use Rattle.tn_session.specs.Newest.{newest_with}
use Rattle.tn_running_node.proofs.OpenClauses.{with_flag}

-- ---- parts of a context

abbrev pub context_of : ℕ → List Tree → Option Mfa → Alive → FlagTable → Context
context_of self_pid ts f a t = record { matched_list = ts; self_pid = self_pid; caller_mfa = f; alive = a; flags = t }

pub same_context : (self_pid : ℕ) (ts us : List Tree) (f h : Option Mfa) (a b : Alive) (t u : FlagTable) → ts ≡ us → f ≡ h → a ≡ b → t ≡ u → context_of self_pid ts f a t ≡ context_of self_pid us h b u
same_context self_pid ts us f h a b t u x y z v = ap (λ l. context_of self_pid l f a t) x ∙ ap (λ o. context_of self_pid us o a t) y ∙ ap (λ i. context_of self_pid us h i t) z ∙ ap (context_of self_pid us h b) v

-- a caller that is lent
pub caller_lent : {A : Type 0} (r : Option (Bor (mfas.Mfa A))) (o : Option (mfas.Mfa A)) → option_map (λ x. x.now) r ≡ o → option_map (λ m. mfa_seen m.now) r ≡ option_map mfa_seen o
caller_lent {A} r o h = go r ∙ ap (option_map mfa_seen) h
  where
    go : (q : Option (Bor (mfas.Mfa A))) → option_map (λ m. mfa_seen m.now) q ≡ option_map mfa_seen (option_map (λ x. x.now) q)
    go None = refl
    go (Some m) = refl

-- a test by what its contrary is
pub is_true : (b : Bool) → not b ≡ false → b ≡ true
is_true true h = refl
is_true false h = absurd (cc h)

-- ---- the setting of a call

newest-is : (ks : List FunctionSetting) (c : Call) → newest_of ks c ≡ newest_with ks c.mfa c.exported
newest-is [] c = refl
newest-is (k ∷ ks) c = ap (λ o. if has_among k c.mfa c.exported then Some k else o) (newest-is ks c)

abbrev by-newest : Option FunctionSetting → Call → Setting
by-newest None c = off
by-newest (Some k) c = if k.local || c.named then k.setting else off

setting-after : (k : FunctionSetting) (rest : Setting) (o : Option FunctionSetting) (c : Call) (q : Bool) → rest ≡ by-newest o c → (if q then (if k.local || c.named then k.setting else off) else rest) ≡ by-newest (if q then Some k else o) c
setting-after k rest o c true e = refl
setting-after k rest o c false e = e

setting-is : (ks : List FunctionSetting) (c : Call) → setting_for ks c ≡ by-newest (newest_of ks c) c
setting-is [] c = refl
setting-is (k ∷ ks) c = setting-after k (setting_for ks c) (newest_of ks c) c (has_among k c.mfa c.exported) (setting-is ks c)

-- by what is known of the newest command that covers the function
abbrev by-parts : Option (Setting × Bool) → Call → Setting
by-parts None c = off
by-parts (Some k) c = if k.1 || c.named then k.0 else off

parts-are : (o : Option FunctionSetting) (c : Call) → by-newest o c ≡ by-parts (option_map parts_of o) c
parts-are None c = refl
parts-are (Some k) c = refl

setting-by : (ks : List FunctionSetting) (c : Call) (o : Option (Setting × Bool)) → o ≡ option_map parts_of (newest_with ks c.mfa c.exported) → setting_for ks c ≡ by-parts o c
setting-by ks c o h =
    setting-is ks c ∙ parts-are (newest_of ks c) c ∙ ap (λ n. by-parts (option_map parts_of n) c) (newest-is ks c) ∙ ap (λ q. by-parts q c) (sym h)

module _ (ks : List FunctionSetting) (c : Call) where
  uncovered-setting : None ≡ option_map parts_of (newest_with ks c.mfa c.exported) → off ≡ setting_for ks c
  uncovered-setting h = sym (setting-by ks c None h)

  unnamed-setting : (g : Setting) (local : Bool) → Some (g, local) ≡ option_map parts_of (newest_with ks c.mfa c.exported) → (local || c.named) ≡ false → off ≡ setting_for ks c
  unnamed-setting g local h other = sym (setting-by ks c (Some (g, local)) h ∙ ap (λ b. if b then g else off) other)

  covering-setting : (g : Setting) (local : Bool) → Some (g, local) ≡ option_map parts_of (newest_with ks c.mfa c.exported) → (local || c.named) ≡ true → g ≡ setting_for ks c
  covering-setting g local h named = sym (setting-by ks c (Some (g, local)) h ∙ ap (λ b. if b then g else off) named)

-- ---- a call

nothing-by : (b : Bool) (g : Setting) (c : Context) → off ≡ g → false ≡ list_any is_open_difference (differences_if b (setting_differences g c))
nothing-by true g c h = ap (λ x. list_any is_open_difference (setting_differences x c)) h
nothing-by false g c h = refl

module _ (s : Session) (p : ℕ) (c : Call) where
  pub call_uncovered : None ≡ option_map parts_of (newest_with s.functions c.mfa c.exported) → false ≡ opens s (called p c)
  call_uncovered h = nothing-by (flags_at s p call_flag) _ (context s p c.args c.caller) (uncovered-setting s.functions c h)

  pub call_unnamed : (g : Setting) (local : Bool) → Some (g, local) ≡ option_map parts_of (newest_with s.functions c.mfa c.exported) → (local || c.named) ≡ false → false ≡ opens s (called p c)
  call_unnamed g local h other = nothing-by (flags_at s p call_flag) _ (context s p c.args c.caller) (unnamed-setting s.functions c g local h other)

  pub call_covered : (g : Setting) (local b : Bool) (d : Context) → Some (g, local) ≡ option_map parts_of (newest_with s.functions c.mfa c.exported) → (local || c.named) ≡ true → flags_at s p call_flag ≡ true
      → d ≡ context s p c.args c.caller → b ≡ list_any is_open_difference (setting_differences g d) → b ≡ opens s (called p c)
  call_covered g local b d h named flag same is =
      with_flag (flags_at s p call_flag) b _ _ flag (ap (λ x. setting_differences x d) (covering-setting s.functions c g local h named) ∙ ap (setting_differences (setting_for s.functions c)) same) is
