-- What the code's directives stand for.
use Rattle.def_moves.specs.Directives as definition
use Rattle.def_moves.specs.Directives.{times, until_idle, everybody}
use Rattle.tn_moves.specs.declared.directive.Directive.{Directive}
use Rattle.tn_moves.specs.declared.directive.Directive.TheVariants.{Times, UntilIdle, Everybody}

abbrev pub directive_seen : Directive → definition.Directive
directive_seen (Times count pick) = times count pick
directive_seen (UntilIdle pick) = until_idle pick
directive_seen Everybody = everybody
