use Rattle.def_node.proofs.Raises.{leaves_down_to_a_catch, leaves_all_frames, left_have_their_depths}
use Rattle.def_node.proofs.a_raise_leaves_frames.Goals as goal

pub returns : goal.returns
returns c = record { caught = leaves_down_to_a_catch; uncaught = leaves_all_frames; depths = left_have_their_depths }
