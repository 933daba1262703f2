-- The archive: the bytes of a file, from its rows.
use Rattle.std.specs.Prelude.{ℕ, ◌+◌, ◌*◌, List, [], ◌∷◌, ◌++◌, length, replicate, Some, None, Option}
use Rattle.std.specs.List.{flat_map}
use Rattle.requests.specs.declared.answer.Answer.{Answer}
use Rattle.requests.specs.declared.answer.Answer.TheVariants.{Changed, Unchanged, Present, Absent, Counted}
use Rattle.requests.specs.declared.request.Request.{Request}
use Rattle.requests.specs.declared.request.Request.TheVariants.{Enter, Withdraw, LookUp, Count}
use Rattle.requests.specs.declared.row.Row.{Row}
use Rattle.requests.specs.Answers.{answer_code}
use Rattle.requests.specs.Kinds.{kind_number}
use Rattle.requests.specs.Requests.{kind_of}
use Rattle.stored.specs.Forms.{KeyForm, TallyForm}
use Rattle.stored.specs.Numerals.{four}

abbrev pub edition : ℕ
edition = 1

-- an archive has at most so many rows
abbrev pub most_rows : ℕ
most_rows = 1024

-- the header's length: nine fields of four bytes
abbrev pub header_length : ℕ
header_length = 36

-- the lengths of a request row and of an answer row, from the widths of key and tally
abbrev pub request_length : ℕ → ℕ
request_length key = 4 + 2 * key

abbrev pub answer_length : ℕ → ℕ
answer_length tally = 4 + tally

-- where the answer rows start, and where the file ends
abbrev pub answers_start : ℕ → ℕ → ℕ
answers_start rows key = header_length + rows * request_length key

abbrev pub file_length : ℕ → ℕ → ℕ → ℕ
file_length rows key tally = header_length + rows * (8 + 2 * key + tally)

-- the last seven fields of a header, which the first two of them and the kinds settle
abbrev pub later_fields : ℕ → ℕ → ℕ → List ℕ
later_fields rows key tally =
    key ∷ tally ∷ request_length key ∷ answer_length tally ∷ header_length ∷ answers_start rows key ∷ file_length rows key tally ∷ []

-- the nine fields of a header
abbrev pub header_fields : ℕ → ℕ → ℕ → List ℕ
header_fields rows key tally = edition ∷ rows ∷ later_fields rows key tally

abbrev pub header : ℕ → ℕ → ℕ → List ℕ
header rows key tally = flat_map four (header_fields rows key tally)

abbrev pub zeros : ℕ → List ℕ
zeros n = replicate {A = ℕ} n 0

-- first key, and a count's second key or zeros
abbrev pub key_fields : {K : Type 0} → KeyForm K → Request K → List ℕ
key_fields keys (Enter k) = keys.written k ++ zeros keys.size
key_fields keys (Withdraw k) = keys.written k ++ zeros keys.size
key_fields keys (LookUp k) = keys.written k ++ zeros keys.size
key_fields keys (Count lo hi) = keys.written lo ++ keys.written hi

-- a request row: kind, station, two zero bytes, keys
abbrev pub request_row : {K T : Type 0} → KeyForm K → Row K T → List ℕ
request_row keys row = kind_number (kind_of row.request) ∷ row.station.number ∷ 0 ∷ 0 ∷ key_fields keys row.request

-- code 0 says that the request is unfinished
abbrev pub code_of : {T : Type 0} → Option (Answer T) → ℕ
code_of None = 0
code_of (Some answer) = answer_code answer

-- a count's tally; zeros where there is none
abbrev pub tally_field : {T : Type 0} → TallyForm T → Option (Answer T) → List ℕ
tally_field tallies None = zeros tallies.size
tally_field tallies (Some Changed) = zeros tallies.size
tally_field tallies (Some Unchanged) = zeros tallies.size
tally_field tallies (Some Present) = zeros tallies.size
tally_field tallies (Some Absent) = zeros tallies.size
tally_field tallies (Some (Counted t)) = tallies.written t

-- an answer row: code, three zero bytes, tally
abbrev pub answer_row : {K T : Type 0} → TallyForm T → Row K T → List ℕ
answer_row tallies row = code_of row.answer ∷ 0 ∷ 0 ∷ 0 ∷ tally_field tallies row.answer

-- the file of rows: header, all request rows, all answer rows
abbrev pub file : {K T : Type 0} → KeyForm K → TallyForm T → List (Row K T) → List ℕ
file keys tallies rows =
    header (length rows) keys.size tallies.size ++ (flat_map (request_row keys) rows ++ flat_map (answer_row tallies) rows)
