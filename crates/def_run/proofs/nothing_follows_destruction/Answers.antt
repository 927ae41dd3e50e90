use Rattle.def_run.proofs.DestroyedSessions.{destroyed_listing, destroyed_stays}
use Rattle.def_run.proofs.nothing_follows_destruction.Goals as goal

pub returns : goal.returns
returns c = record { listing = destroyed_listing; stays = destroyed_stays }
