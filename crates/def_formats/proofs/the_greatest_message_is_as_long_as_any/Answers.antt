use Rattle.def_formats.proofs.Longest.{longest_is_longest}
use Rattle.def_formats.proofs.the_greatest_message_is_as_long_as_any.Goals as goal

pub returns : goal.returns
returns c = longest_is_longest
