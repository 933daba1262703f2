-- How long an archive is, and where its answer rows start, at the smallest.
use Rattle.std.specs.Prelude.{◌≡◌, [], ◌∷◌, length, take, drop}
use Rattle.keys.specs.declared.route.Route.{Route}
use Rattle.tallies.specs.declared.number.Number.{Number}
use Rattle.requests.specs.declared.row.Row.{Row}
use Rattle.stored.specs.Forms.{KeyForm, TallyForm}
use Rattle.stored.specs.RouteBytes.{route_form}
use Rattle.stored.specs.NumberBytes.{number_form}
use Rattle.archive.specs.Format.{file, header, request_row, answer_row}

-- An archive without rows is its header, of 36 bytes, whatever the kinds.
abbrev pub EmptyArchive : {K T : Type 0} → KeyForm K → TallyForm T → Type 0
EmptyArchive keys tallies =
    (file keys tallies [] ≡ header 0 keys.size tallies.size) × (length (file keys tallies []) ≡ 36)

-- An archive of one row, of a route and a number, has 58 bytes: its request row at 36 and its answer row at 50.
abbrev pub OneRow : Type 0
OneRow =
    (row : Row Route Number)
    → (length (file route_form number_form (row ∷ [])) ≡ 58)
    × (take 36 (file route_form number_form (row ∷ [])) ≡ header 1 5 4)
    × (take 14 (drop 36 (file route_form number_form (row ∷ []))) ≡ request_row route_form row)
    × (drop 50 (file route_form number_form (row ∷ [])) ≡ answer_row number_form row)

-- both, for these kinds
pub record ArchiveSizes {K T : Type 0} (keys : KeyForm K) (tallies : TallyForm T) : Type 0 where
  pub empty_archive : EmptyArchive keys tallies
  pub one_row : OneRow
