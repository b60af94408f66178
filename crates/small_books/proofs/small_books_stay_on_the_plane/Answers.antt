use Rattle.small_books.proofs.Whole.{stays}
use Rattle.small_books.proofs.small_books_stay_on_the_plane.Goals as goal

pub returns : goal.returns
returns g c = stays g.R.Ring.exact g.met.R.Ring.lawful g.met.R.SmallRing.small
