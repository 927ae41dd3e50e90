use Rattle.tn_flags.proofs.FlagLemmas.{without_is}
use Rattle.tn_flags.proofs.flags.Flags.without.Goals as goal

pub returns : goal.returns
returns c = without_is _ _ _ (record {
  of_send = c.but_not.ensures;
  of_receive = c.but_not-2.ensures;
  of_call = c.but_not-3.ensures;
  of_procs = c.but_not-4.ensures;
  of_silent = c.but_not-5.ensures;
  of_arity = c.but_not-6.ensures;
  of_spawn = c.but_not-7.ensures;
  of_first_spawn = c.but_not-8.ensures;
  of_link = c.but_not-9.ensures;
  of_first_link = c.but_not-10.ensures;
})
