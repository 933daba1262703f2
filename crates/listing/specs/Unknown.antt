-- What is told of a word that names no kind.
use Rattle.std.specs.Prelude.{ℕ, List, codes}
use Rattle.listing.specs.declared.unknown.UnknownKind.{UnknownKind}
use Rattle.listing.specs.declared.unknown.UnknownKind.TheVariants.{Keys, Tallies}

abbrev pub unknown_text : UnknownKind → List ℕ
unknown_text Keys = codes "KEYS is route, section, area-route or area-section"
unknown_text Tallies = codes "TALLIES is number, classes or number+classes"
