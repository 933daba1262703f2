-- Stations are numbered from 1 to 8.
use Rattle.std.specs.Prelude.{ℕ, Bool, ◌&&◌, List, [], ◌∷◌, nat_le}

abbrev pub is_station : ℕ → Bool
is_station number = nat_le 1 number && nat_le number 8

-- the numbers of all stations, in order
abbrev pub station_numbers : List ℕ
station_numbers = 1 ∷ 2 ∷ 3 ∷ 4 ∷ 5 ∷ 6 ∷ 7 ∷ 8 ∷ []
