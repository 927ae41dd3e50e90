-- The newest covering command decides.
use Rattle.std.proofs.Common.{◌≡◌, List, [], ◌∷◌, ◌++◌, Bool, ◌||◌, true, false, if◌then◌else◌, refl, ap, ◌∙◌, All, Some}
use Rattle.std.proofs.lemmas.List.Elements.{All-head, All-tail}
use Rattle.def_node.specs.Event.{Call}
use Rattle.def_script.specs.Program.{set_function}
use Rattle.def_session.specs.Settings.{Setting, off, FunctionSetting, has_among, setting_for, options_of}
use Rattle.def_session.specs.Commands.{function_set, function_set_if, done_in}
use Rattle.def_session.specs.Laws.{NewestSettingWins, FalseRemoves, NoSetting, FunctionCommandIsNewest}

module _ (c : Call) where
  abbrev IsOther : FunctionSetting → Type 0
  IsOther j = has_among j c.mfa c.exported ≡ false

  wins : (newer older : List FunctionSetting) (k : FunctionSetting) → All IsOther newer → has_among k c.mfa c.exported ≡ true → setting_for (newer ++ k ∷ older) c ≡ (if k.local || c.named then k.setting else off)
  wins [] older k h e = ap (λ b. if b then (if k.local || c.named then k.setting else off) else setting_for older c) e
  wins (j ∷ newer) older k h e =
      ap (λ b. if b then (if j.local || c.named then j.setting else off) else setting_for (newer ++ k ∷ older) c) (All-head IsOther j newer h)
      ∙ wins newer older k (All-tail IsOther j newer h) e

  none_wins : (ks : List FunctionSetting) → All IsOther ks → setting_for ks c ≡ off
  none_wins [] h = refl
  none_wins (j ∷ ks) h =
      ap (λ b. if b then (if j.local || c.named then j.setting else off) else setting_for ks c) (All-head IsOther j ks h)
      ∙ none_wins ks (All-tail IsOther j ks h)

pub newest_wins : NewestSettingWins
newest_wins newer older k c h e = wins c newer older k h e

either_way : (b : Bool) (x : Setting) → x ≡ off → (if b then x else off) ≡ off
either_way true x e = e
either_way false x e = refl

pub false_removes : FalseRemoves
false_removes newer older k c h e f = wins c newer older k h e ∙ either_way (k.local || c.named) k.setting f

pub no_setting : NoSetting
no_setting ks c h = none_wins c ks h

pub newest_command : FunctionCommandIsNewest
newest_command o s name mfa spec options covered local setting h a b r =
    ap (λ p. done_in p o s (set_function name mfa spec options)) h
    ∙ ap (λ x. function_set_if o s x (options_of options) spec) a
    ∙ ap (λ y. function_set_if o s (Some covered) y spec) b
    ∙ ap (function_set o s covered local) r
