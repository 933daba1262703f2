-- Every worked run, over routes counted by number: of a register over so many cells, and of the plain set by hand.
use Rattle.edges.specs.Tables.{Holds}
use Rattle.edges.specs.Worked.{routes_by_number}
use Rattle.edges.specs.Helping.{helping}
use Rattle.edges.specs.Waiting.{waiting}
use Rattle.edges.specs.Forking.{forking}
use Rattle.edges.specs.Small.{served_by_another, counting_nothing, one_key, seen_undecided, seen_decided, out_of_range}
use Rattle.edges.specs.Turns.{in_the_middle, walk_overtaken, walk_outlived, halves_shared, last_decides}
use Rattle.edges.specs.Rooms.{one_cell, no_cell}
use Rattle.edges.specs.Pencil.{PencilAgrees, one_key_by_hand, archive_by_hand}

-- all of them
pub record Vectors : Type 0 where
  pub helping : Holds routes_by_number 64 helping
  pub waiting : Holds routes_by_number 64 waiting
  pub forking : Holds routes_by_number 64 forking
  pub served_by_another : Holds routes_by_number 64 served_by_another
  pub counting_nothing : Holds routes_by_number 64 counting_nothing
  pub one_key : Holds routes_by_number 64 one_key
  pub seen_undecided : Holds routes_by_number 64 seen_undecided
  pub seen_decided : Holds routes_by_number 64 seen_decided
  pub out_of_range : Holds routes_by_number 64 out_of_range
  pub in_the_middle : Holds routes_by_number 64 in_the_middle
  pub walk_overtaken : Holds routes_by_number 64 walk_overtaken
  pub walk_outlived : Holds routes_by_number 64 walk_outlived
  pub halves_shared : Holds routes_by_number 64 halves_shared
  pub last_decides : Holds routes_by_number 64 last_decides
  pub one_cell : Holds routes_by_number 1 one_cell
  pub no_cell : Holds routes_by_number 0 no_cell
  pub one_key_by_hand : PencilAgrees routes_by_number one_key_by_hand
  pub archive_by_hand : PencilAgrees routes_by_number archive_by_hand
