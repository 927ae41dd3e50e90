use Rattle.def_picture.proofs.RowMessages.{picture_shows_the_listing, picture_shows_sessions_alone, picture_shows_the_events}
use Rattle.def_picture.proofs.a_picture_shows_the_listing.Goals as goal

pub returns : goal.returns
returns c = record { events = picture_shows_the_events; listing = picture_shows_the_listing; alone = picture_shows_sessions_alone }
