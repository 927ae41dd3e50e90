-- What two comparisons that stand for one make of a move.
use Rattle.std.proofs.Common.{◌≡◌, ◌∙◌, ◌++◌, ℕ, List, [], ◌∷◌, map, flat_map, sym, ap}
use Rattle.std.specs.declared.vec.Vec.{Vec}
use Rattle.def_outlook.specs.Outlook.{nothing_ahead}
use Rattle.def_run.specs.Run.{event_item, command_item}
use Rattle.def_running_node.specs.NodeComparisons.{NamedLine, named_line_text, after_pick}
use Rattle.tn_flags.specs.Views.{event_of, command_of}
use Rattle.tn_flags.specs.declared.event.Event as flags
use Rattle.tn_flags.specs.declared.command.Command as commands
use Rattle.tn_script.specs.declared.form.Function.{Function}
use Rattle.tn_node.specs.Outlooks.{outlook_seen}
use Rattle.tn_node.specs.declared.outlook.Outlook.{Outlook}
use Rattle.tn_running_node.specs.Comparisons.{PutsNamed, ComparesOneMove, ComparesCommand}
use Rattle.tn_running_node.specs.declared.comparison.Comparison.{Comparison}
use Rattle.tn_running_node.specs.declared.lines.LineKinds.{LineKinds}
use Rattle.complete_running_node.specs.SameComparisons.{StandForOne, StandForOneOver}
use Rattle.complete_running_node.proofs.SameKinds.{same_kinds}

-- one text and one answer
kinds_of_lines : {A : Type 0} (ls : List NamedLine) (first first' second second' : Vec ℕ A) (k l : LineKinds) → PutsNamed ls first first' k → PutsNamed ls second second' l → k ≡ l
kinds_of_lines ls first first' second second' k l h i = same_kinds k l (h.differs ∙ sym i.differs) (h.open_lines ∙ sym i.open_lines)

text_of_lines : {A : Type 0} (ls : List NamedLine) (first first' second second' : Vec ℕ A) (k l : LineKinds) → first.items ≡ second.items → PutsNamed ls first first' k → PutsNamed ls second second' l → first'.items ≡ second'.items
text_of_lines ls first first' second second' k l same h i = h.written ∙ ap (λ v. v ++ flat_map named_line_text ls) same ∙ sym i.written

-- ---- a step

module _ {A : Type 0} (pick : ℕ) (l : Outlook) (events : List (flags.Event A)) (one one' other other' : Comparison A) (first first' second second' : Vec ℕ A) where
  -- each did it
  abbrev First : LineKinds → Type 0
  First = ComparesOneMove pick l events one one' first first'

  abbrev Second : LineKinds → Type 0
  Second = ComparesOneMove pick l events other other' second second'

  pub step_kinds : StandForOne one other → (k m : LineKinds) → First k → Second m → k ≡ m
  step_kinds s k m h i = kinds_of_lines _ first first' second second' k m (h s.exports s.compared s.one_is).lines (i s.exports s.compared s.other_is).lines

  pub step_text : StandForOne one other → first.items ≡ second.items → (k m : LineKinds) → First k → Second m → first'.items ≡ second'.items
  step_text s same k m h i = text_of_lines _ first first' second second' k m same (h s.exports s.compared s.one_is).lines (i s.exports s.compared s.other_is).lines

  pub step_after : StandForOne one other → (k m : LineKinds) → First k → Second m → StandForOne one' other'
  step_after s k m h i = record {
    exports = s.exports;
    compared = after_pick s.exports (outlook_seen l) pick s.compared (map event_item (map event_of events));
    one_is = (h s.exports s.compared s.one_is).comparison;
    other_is = (i s.exports s.compared s.other_is).comparison;
  }

-- ---- a command

module _ {A : Type 0} (pick : ℕ) (functions : List (Function A)) (command : commands.Command A) (one one' other other' : Comparison A) (first first' second second' : Vec ℕ A) where
  abbrev FirstObeys : LineKinds → Type 0
  FirstObeys = ComparesCommand pick functions command one one' first first'

  abbrev SecondObeys : LineKinds → Type 0
  SecondObeys = ComparesCommand pick functions command other other' second second'

  pub command_kinds : StandForOneOver functions one other → (k m : LineKinds) → FirstObeys k → SecondObeys m → k ≡ m
  command_kinds s k m h i =
      kinds_of_lines _ first first' second second' k m (h s.exports nothing_ahead s.compared s.are_functions s.one_is).lines (i s.exports nothing_ahead s.compared s.are_functions s.other_is).lines

  pub command_text : StandForOneOver functions one other → first.items ≡ second.items → (k m : LineKinds) → FirstObeys k → SecondObeys m → first'.items ≡ second'.items
  command_text s same k m h i =
      text_of_lines _ first first' second second' k m same (h s.exports nothing_ahead s.compared s.are_functions s.one_is).lines (i s.exports nothing_ahead s.compared s.are_functions s.other_is).lines

  pub command_after : StandForOneOver functions one other → (k m : LineKinds) → FirstObeys k → SecondObeys m → StandForOneOver functions one' other'
  command_after s k m h i = record {
    exports = s.exports;
    compared = after_pick s.exports nothing_ahead pick s.compared (command_item (command_of command) ∷ []);
    are_functions = s.are_functions;
    one_is = (h s.exports nothing_ahead s.compared s.are_functions s.one_is).comparison;
    other_is = (i s.exports nothing_ahead s.compared s.are_functions s.other_is).comparison;
  }
