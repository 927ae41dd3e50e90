use Rattle.tn_flags.proofs.FlagLemmas.{joined_is}
use Rattle.tn_flags.proofs.flags.Flags.join.Goals as goal

pub returns : goal.returns
returns c = joined_is _ _ _ (record {
  of_send = c.either.ensures;
  of_receive = c.either-2.ensures;
  of_call = c.either-3.ensures;
  of_procs = c.either-4.ensures;
  of_silent = c.either-5.ensures;
  of_arity = c.either-6.ensures;
  of_spawn = c.either-7.ensures;
  of_first_spawn = c.either-8.ensures;
  of_link = c.either-9.ensures;
  of_first_link = c.either-10.ensures;
})
