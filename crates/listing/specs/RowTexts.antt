-- Rows as lines, and the listing of an archive.
use Rattle.std.specs.Prelude.{ℕ, ◌+◌, List, [], ◌∷◌, ◌++◌, length, Some, None, codes, decimal, Option}
use Rattle.requests.specs.declared.answer.Answer.{Answer}
use Rattle.requests.specs.declared.answer.Answer.TheVariants.{Changed, Unchanged, Present, Absent, Counted}
use Rattle.requests.specs.declared.request.Request.{Request}
use Rattle.requests.specs.declared.request.Request.TheVariants.{Enter, Withdraw, LookUp, Count}
use Rattle.requests.specs.declared.row.Row.{Row}

-- the kind's word and the key or keys
abbrev pub request_text : {K : Type 0} → (K → List ℕ) → Request K → List ℕ
request_text key (Enter k) = codes "enter " ++ key k
request_text key (Withdraw k) = codes "withdraw " ++ key k
request_text key (LookUp k) = codes "lookup " ++ key k
request_text key (Count lo hi) = codes "count " ++ (key lo ++ (codes " " ++ key hi))

-- the answer's code, and a count's tally
abbrev pub answer_text : {T : Type 0} → (T → List ℕ) → Option (Answer T) → List ℕ
answer_text tally None = codes "unfinished"
answer_text tally (Some Changed) = codes "answer 1"
answer_text tally (Some Unchanged) = codes "answer 2"
answer_text tally (Some Present) = codes "answer 3"
answer_text tally (Some Absent) = codes "answer 4"
answer_text tally (Some (Counted t)) = codes "answer 5 tally " ++ tally t

abbrev pub row_line : {K T : Type 0} → (K → List ℕ) → (T → List ℕ) → ℕ → Row K T → List ℕ
row_line key tally number row =
    codes "row " ++ (decimal number ++ (codes " station " ++ (decimal row.station.number ++ (codes " " ++ (request_text key row.request ++ (codes " " ++ (answer_text tally row.answer ++ codes "\n")))))))

-- rows, of which the first has that number
abbrev pub row_lines : {K T : Type 0} → (K → List ℕ) → (T → List ℕ) → ℕ → List (Row K T) → List ℕ
row_lines key tally number [] = []
row_lines key tally number (row ∷ rows) = row_line key tally number row ++ row_lines key tally (number + 1) rows

-- a last line counts the rows
abbrev pub last_line : ℕ → List ℕ
last_line count = codes "rows " ++ (decimal count ++ codes "\n")

abbrev pub listing_text : {K T : Type 0} → (K → List ℕ) → (T → List ℕ) → List (Row K T) → List ℕ
listing_text key tally rows = row_lines key tally 1 rows ++ last_line (length rows)
