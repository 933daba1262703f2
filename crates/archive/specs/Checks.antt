-- The checks of a file in their order, and the first that fails.
use Rattle.std.specs.Prelude.{ℕ, zero, suc, ◌+◌, ◌*◌, Bool, false, cond, ◌&&◌, ◌||◌, List, [], ◌∷◌, ◌++◌, length, take, drop, is_some, Some, None, Ok, Err, Option, Result, ◌==◌, nat_le, slice_index}
use Rattle.octets.specs.Runs.{all_are}
use Rattle.keys.specs.declared.refusal.Refusal.{Refusal}
use Rattle.keys.specs.declared.refusal.Refusal.TheVariants.{TooWide, FileLength, HeaderField, RequestRow, AnswerRow}
use Rattle.requests.specs.declared.kind.Kind.{Kind}
use Rattle.requests.specs.declared.kind.Kind.TheVariants.{Enter, Withdraw, LookUp, Count}
use Rattle.requests.specs.Answers.{answers}
use Rattle.requests.specs.Stations.{is_station}
use Rattle.stored.specs.Forms.{KeyForm, TallyForm, widest}
use Rattle.stored.specs.Numerals.{value}
use Rattle.archive.specs.declared.fault.Fault.{Fault}
use Rattle.archive.specs.declared.layer.Layer.TheVariants.{Header, Requests, Answers}
use Rattle.archive.specs.Format.{edition, most_rows, header_length, request_length, answer_length, answers_start, later_fields}

-- something that must hold, and what is told if it does not
pub record Check : Type 0 where
  pub holds : Bool
  pub fault : Fault

-- what the first check that fails tells
abbrev pub first_fault : List Check → Option Fault
first_fault [] = None
first_fault (c ∷ cs) = cond c.holds (first_fault cs) (Some c.fault)

-- what checking answers: nothing more, or what the first check that fails tells
abbrev pub passed : List Check → Result (Unit {0}) Fault
passed [] = Ok tt
passed (c ∷ cs) = cond c.holds (passed cs) (Err c.fault)

abbrev pub in_header : Refusal → ℕ → Fault
in_header refusal offset = record { refusal = refusal; layer = Header; row = 0; offset = offset }

abbrev pub in_request : ℕ → ℕ → Fault
in_request row offset = record { refusal = RequestRow; layer = Requests; row = row; offset = offset }

abbrev pub in_answer : ℕ → ℕ → Fault
in_answer row offset = record { refusal = AnswerRow; layer = Answers; row = row; offset = offset }

-- the header field at an offset
abbrev pub field_at : List ℕ → ℕ → ℕ
field_at bytes offset = value (take 4 (drop offset bytes))

-- the number of rows that the header tells
abbrev pub rows_told : List ℕ → ℕ
rows_told bytes = field_at bytes 4

-- the field at an offset must be that number
abbrev pub field_check : List ℕ → ℕ → ℕ → Check
field_check bytes offset n = record { holds = (field_at bytes offset == n); fault = in_header HeaderField offset }

-- fields one after the other, each with the number that it must be
abbrev pub field_checks : List ℕ → ℕ → List ℕ → List Check
field_checks bytes offset [] = []
field_checks bytes offset (n ∷ ns) = field_check bytes offset n ∷ field_checks bytes (offset + 4) ns

-- no more rows than an archive has
abbrev pub rows_check : List ℕ → Check
rows_check bytes = record { holds = nat_le (rows_told bytes) most_rows; fault = in_header HeaderField 4 }

-- the nine fields: the later seven are reckoned from the number of rows in the file and the kinds meant
abbrev pub nine_checks : ℕ → ℕ → List ℕ → List Check
nine_checks key tally bytes =
    field_check bytes 0 edition ∷ rows_check bytes ∷ field_checks bytes 8 (later_fields (rows_told bytes) key tally)

-- neither kind is too wide
abbrev pub widths_check : ℕ → ℕ → Check
widths_check key tally = record { holds = nat_le key widest && nat_le tally widest; fault = in_header TooWide 0 }

-- there is room for a header
abbrev pub room_check : List ℕ → Check
room_check bytes = record { holds = nat_le header_length (length bytes); fault = in_header FileLength (length bytes) }

-- the file ends where its ninth field says
abbrev pub end_check : List ℕ → Check
end_check bytes = record { holds = (length bytes == field_at bytes 32); fault = in_header FileLength (length bytes) }

-- widths, room, fields, and the end
abbrev pub header_checks : ℕ → ℕ → List ℕ → List Check
header_checks key tally bytes =
    widths_check key tally ∷ room_check bytes ∷ (nine_checks key tally bytes ++ (end_check bytes ∷ []))

-- the kind of that number
abbrev pub kind_numbered : ℕ → Option Kind
kind_numbered n =
    cond (n == 1) (Some Enter) (cond (n == 2) (Some Withdraw) (cond (n == 3) (Some LookUp) (cond (n == 4) (Some Count) None)))

-- a count has a second key, and every other kind zeros
abbrev pub is_second : {K : Type 0} → KeyForm K → ℕ → List ℕ → Bool
is_second keys kind bytes = cond (kind == 4) (is_some (keys.read bytes)) (all_are 0 bytes)

-- the fields of a request row that starts at an offset
abbrev pub request_checks : {K : Type 0} → KeyForm K → ℕ → ℕ → List ℕ → List Check
request_checks keys number offset row =
    record { holds = is_some (kind_numbered (slice_index row 0)); fault = in_request number offset }
    ∷ record { holds = is_station (slice_index row 1); fault = in_request number (offset + 1) }
    ∷ record { holds = all_are 0 (take 2 (drop 2 row)); fault = in_request number (offset + 2) }
    ∷ record { holds = is_some (keys.read (take keys.size (drop 4 row))); fault = in_request number (offset + 4) }
    ∷ record { holds = is_second keys (slice_index row 0) (drop (4 + keys.size) row); fault = in_request number (offset + 4 + keys.size) }
    ∷ []

-- so many request rows, from one of that number and offset on
abbrev pub requests_checks : {K : Type 0} → KeyForm K → ℕ → ℕ → ℕ → List ℕ → List Check
requests_checks keys zero number offset bytes = []
requests_checks keys (suc left) number offset bytes =
    request_checks keys number offset (take (request_length keys.size) bytes) ++ requests_checks keys left (number + 1) (offset + request_length keys.size) (drop (request_length keys.size) bytes)

-- code 0, or a code that answers requests of that kind
abbrev pub is_code : Option Kind → ℕ → Bool
is_code None code = false
is_code (Some kind) code = code == 0 || answers kind code

-- the fields of an answer row that starts at an offset, to a request of that kind
abbrev pub answer_checks : ℕ → ℕ → ℕ → List ℕ → List Check
answer_checks kind number offset row =
    record { holds = is_code (kind_numbered kind) (slice_index row 0); fault = in_answer number offset }
    ∷ record { holds = all_are 0 (take 3 (drop 1 row)); fault = in_answer number (offset + 1) }
    ∷ record { holds = slice_index row 0 == 5 || all_are 0 (drop 4 row); fault = in_answer number (offset + 4) }
    ∷ []

-- so many answer rows, from one of that number and offset on, beside the request rows
abbrev pub answers_checks : ℕ → ℕ → ℕ → ℕ → ℕ → List ℕ → List ℕ → List Check
answers_checks key tally zero number offset requests bytes = []
answers_checks key tally (suc left) number offset requests bytes =
    answer_checks (slice_index requests 0) number offset (take (answer_length tally) bytes) ++ answers_checks key tally left (number + 1) (offset + answer_length tally) (drop (request_length key) requests) (drop (answer_length tally) bytes)

-- the request rows and the answer rows of a file that tells so many
abbrev pub requests_part : ℕ → ℕ → List ℕ → List ℕ
requests_part rows key bytes = take (rows * request_length key) (drop header_length bytes)

abbrev pub answers_part : ℕ → ℕ → List ℕ → List ℕ
answers_part rows key bytes = drop (answers_start rows key) bytes

-- all checks of a file: header, request rows, answer rows
abbrev pub checks : {K T : Type 0} → KeyForm K → TallyForm T → List ℕ → List Check
checks keys tallies bytes =
    header_checks keys.size tallies.size bytes ++ (requests_checks keys (rows_told bytes) 1 header_length (requests_part (rows_told bytes) keys.size bytes) ++ answers_checks keys.size tallies.size (rows_told bytes) 1 (answers_start (rows_told bytes) keys.size) (requests_part (rows_told bytes) keys.size bytes) (answers_part (rows_told bytes) keys.size bytes))

-- the first fault of a file, or that it has none
abbrev pub fault_of : {K T : Type 0} → KeyForm K → TallyForm T → List ℕ → Option Fault
fault_of keys tallies bytes = first_fault (checks keys tallies bytes)
