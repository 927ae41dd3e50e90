-- What is written for a refusal (own): its line, an object of JSON, or nothing.
-- Depends on the refusals of scripts, on the words that say where and why a text is refused, and on refusals as JSON.
use Rattle.std.specs.Prelude.{◌≡◌, ℕ, List, [], ◌++◌, codes}
use Rattle.def_script.specs.Script as script
use Rattle.def_script.specs.Script.{Refusal}
use Rattle.def_run.specs.Output.{refusal_text}
use Rattle.def_wording.specs.SyntaxTexts.{of_script}
use Rattle.def_formats.specs.RefusalRows.{refusal_json}
use Rattle.tn_refusal.specs.Lines.{IsExplained}
use Rattle.tn_refusal.specs.Words.{words}
use Rattle.tn_run.specs.declared.refusal_form.RefusalForm.{RefusalForm}
use Rattle.tn_run.specs.declared.refusal_form.RefusalForm.TheVariants.{Line, Json, Nothing}

-- the text that the words of a refusal are of: none where it is too long, and none where picks are refused
abbrev pub text_of_refusal : Refusal → List ℕ → List ℕ
text_of_refusal script.too_long bytes = []
text_of_refusal script.bad_picks bytes = []
text_of_refusal r bytes = bytes

-- what is said of a refusal, without the name of the text: the rule alone of a script that is too long and of picks,
-- whose text isn't kept
abbrev pub IsRefusalNote : (bytes : List ℕ) → Refusal → List ℕ → Type 0
IsRefusalNote bytes script.too_long note = note ≡ codes ": " ++ words script.too_long
IsRefusalNote bytes script.bad_picks note = note ≡ codes ": " ++ words script.bad_picks
IsRefusalNote bytes r note = IsExplained of_script [] bytes r note

-- {"refused":N,"line":LINE,"place":PLACE,"why":WHY}, by words that say where and why the text is refused
pub record IsRefusalObject (bytes : List ℕ) (r : Refusal) (output : List ℕ) : Type 0 where
  pub note : List ℕ
  pub explained : IsRefusalNote bytes r note
  pub output_is : output ≡ refusal_json (refusal_text r) note

-- what is written in a form for the refusal of a text
abbrev pub IsRefusalOutput : RefusalForm → (bytes : List ℕ) → Refusal → List ℕ → Type 0
IsRefusalOutput Line bytes r output = output ≡ refusal_text r
IsRefusalOutput Json bytes r output = IsRefusalObject bytes r output
IsRefusalOutput Nothing bytes r output = output ≡ []
