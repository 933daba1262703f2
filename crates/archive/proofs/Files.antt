-- What was written is read back, and what was read is written again. Rests on Headers, RowsWritten, RowsRead and RowsSame.
use Rattle.std.proofs.Common.{◌≡◌, ℕ, ◌+◌, ◌-◌, ◌*◌, ◌≤◌, List, ◌++◌, length, drop, None, sym, ap, ◌∙◌, ap₂, mul-add, arith, length-append, length-drop}
use Rattle.std.proofs.lemmas.List.{take_at, drop_at, drop-drop, take-append-drop, length-take-le}
use Rattle.std.specs.List.{flat_map}
use Rattle.requests.specs.declared.row.Row.{Row}
use Rattle.stored.specs.Forms.{KeyForm, TallyForm}
use Rattle.stored.specs.PairBytesLemmas.{all_bytes-drop}
use Rattle.archive.specs.Format.{request_length, answer_length, answers_start, file_length, header, request_row, answer_row, file}
use Rattle.archive.specs.Checks.{first_fault, rows_told, header_checks, requests_checks, answers_checks, requests_part, answers_part, fault_of}
use Rattle.archive.specs.Theorems.{WrittenIsRead, ReadIsWritten}
use Rattle.archive.proofs.Laws.{KeyLaws, TallyLaws}
use Rattle.archive.proofs.Faults.{first_after, none_front, none_back}
use Rattle.archive.proofs.RowBytes.{joined_long, request_row_long, answer_row_long}
use Rattle.archive.proofs.Headers.{header_tells_rows, header_sound, header_known}
use Rattle.archive.proofs.RowsWritten.{requests_sound, answers_sound}
use Rattle.archive.proofs.RowsRead.{rows_from}
use Rattle.archive.proofs.RowsSame.{rows_same}

-- request rows and answer rows together
pub rows_long : (n key tally : ℕ) → n * (8 + 2 * key + tally) ≡ n * request_length key + n * answer_length tally
rows_long n key tally =
    let together : 8 + 2 * key + tally ≡ request_length key + answer_length tally = omega arith in
    ap (λ m. n * m) together ∙ mul-add n (request_length key) (answer_length tally)

module _ {K T : Type 0} (keys : KeyForm K) (tallies : TallyForm T) (key_laws : KeyLaws keys) (tally-laws : TallyLaws tallies) where
  requests_long : (rows : List (Row K T)) → length (flat_map (request_row keys) rows) ≡ length rows * request_length keys.size
  requests_long rows = joined_long (request_row keys) (request_length keys.size) (request_row_long keys key_laws) rows

  answers_long : (rows : List (Row K T)) → length (flat_map (answer_row tallies) rows) ≡ length rows * answer_length tallies.size
  answers_long rows = joined_long (answer_row tallies) (answer_length tallies.size) (answer_row_long tallies tally-laws) rows

  -- the length that a header tells is the file's
  pub file_long : (rows : List (Row K T)) → length (file keys tallies rows) ≡ file_length (length rows) keys.size tallies.size
  file_long rows =
      let p = requests_long rows in
      let q = answers_long rows in
      let r = rows_long (length rows) keys.size tallies.size in
      let s : length (flat_map (request_row keys) rows ++ flat_map (answer_row tallies) rows) ≡ length (flat_map (request_row keys) rows) + length (flat_map (answer_row tallies) rows) = length-append _ _ in
      omega arith

  -- the parts of a file
  pub requests_of : (rows : List (Row K T)) → requests_part (length rows) keys.size (file keys tallies rows) ≡ flat_map (request_row keys) rows
  requests_of rows = take_at (flat_map (request_row keys) rows) (flat_map (answer_row tallies) rows) (length rows * request_length keys.size) (requests_long rows)

  pub answers_of : (rows : List (Row K T)) → answers_part (length rows) keys.size (file keys tallies rows) ≡ flat_map (answer_row tallies) rows
  answers_of rows =
      sym (drop-drop (length rows * request_length keys.size) 36 (file keys tallies rows)) ∙ drop_at (flat_map (request_row keys) rows) (flat_map (answer_row tallies) rows) (length rows * request_length keys.size) (requests_long rows)

  pub told_by : (rows : List (Row K T)) → rows_told (file keys tallies rows) ≡ length rows
  told_by rows = header_tells_rows (length rows) keys.size tallies.size (flat_map (request_row keys) rows ++ flat_map (answer_row tallies) rows)

  -- the file of rows has no fault
  pub file_sound : (rows : List (Row K T)) → keys.size ≤ 16 → tallies.size ≤ 16 → length rows ≤ 1024 → fault_of keys tallies (file keys tallies rows) ≡ None
  file_sound rows k t few =
      let n : ℕ = length rows in
      let bytes = file keys tallies rows in
      let told = told_by rows in
      let header-none = header_sound n keys.size tallies.size (flat_map (request_row keys) rows ++ flat_map (answer_row tallies) rows) k t few (file_long rows) in
      let asked : first_fault (requests_checks keys (rows_told bytes) 1 36 (requests_part (rows_told bytes) keys.size bytes)) ≡ None = ap (λ m. first_fault (requests_checks keys m 1 36 (requests_part m keys.size bytes))) told ∙ ap (λ l. first_fault (requests_checks keys n 1 36 l)) (requests_of rows) ∙ requests_sound keys key_laws rows 1 36 in
      let answered : first_fault (answers_checks keys.size tallies.size (rows_told bytes) 1 (answers_start (rows_told bytes) keys.size) (requests_part (rows_told bytes) keys.size bytes) (answers_part (rows_told bytes) keys.size bytes)) ≡ None = ap (λ m. first_fault (answers_checks keys.size tallies.size m 1 (answers_start m keys.size) (requests_part m keys.size bytes) (answers_part m keys.size bytes))) told ∙ ap₂ (λ l m. first_fault (answers_checks keys.size tallies.size n 1 (answers_start n keys.size) l m)) (requests_of rows) (answers_of rows) ∙ answers_sound keys tallies key_laws tally-laws rows 1 (answers_start n keys.size) in
      first_after (header_checks keys.size tallies.size bytes) (requests_checks keys (rows_told bytes) 1 36 (requests_part (rows_told bytes) keys.size bytes) ++ answers_checks keys.size tallies.size (rows_told bytes) 1 (answers_start (rows_told bytes) keys.size) (requests_part (rows_told bytes) keys.size bytes) (answers_part (rows_told bytes) keys.size bytes)) header-none ∙ first_after (requests_checks keys (rows_told bytes) 1 36 (requests_part (rows_told bytes) keys.size bytes)) (answers_checks keys.size tallies.size (rows_told bytes) 1 (answers_start (rows_told bytes) keys.size) (requests_part (rows_told bytes) keys.size bytes) (answers_part (rows_told bytes) keys.size bytes)) asked ∙ answered

  -- rows with one file are the same
  pub file-same : (rows others : List (Row K T)) → file keys tallies rows ≡ file keys tallies others → rows ≡ others
  file-same rows others e =
      let count : length rows ≡ length others = sym (told_by rows) ∙ ap rows_told e ∙ told_by others in
      let asked : flat_map (request_row keys) rows ≡ flat_map (request_row keys) others = sym (requests_of rows) ∙ ap₂ (λ n l. requests_part n keys.size l) count e ∙ requests_of others in
      let answered : flat_map (answer_row tallies) rows ≡ flat_map (answer_row tallies) others = sym (answers_of rows) ∙ ap₂ (λ n l. answers_part n keys.size l) count e ∙ answers_of others in
      rows_same keys tallies key_laws tally-laws rows others count asked answered

  pub written_is_read : WrittenIsRead keys tallies
  written_is_read bytes rows f =
      (ap (fault_of keys tallies) f.same ∙ file_sound rows f.key_fits f.tally_fits f.few, λ others g. file-same others rows (sym g.same ∙ f.same))

  pub read_is_written : ReadIsWritten keys tallies
  read_is_written bytes b h =
      let n : ℕ = rows_told bytes in
      let lr : ℕ = request_length keys.size in
      let la : ℕ = answer_length tallies.size in
      let asking = requests_checks keys n 1 36 (requests_part n keys.size bytes) in
      let answering = answers_checks keys.size tallies.size n 1 (answers_start n keys.size) (requests_part n keys.size bytes) (answers_part n keys.size bytes) in
      let known = header_known keys.size tallies.size bytes b (none_front (header_checks keys.size tallies.size bytes) (asking ++ answering) h) in
      let rest = none_back (header_checks keys.size tallies.size bytes) (asking ++ answering) h in
      let split : n * (8 + 2 * keys.size + tallies.size) ≡ n * lr + n * la = rows_long n keys.size tallies.size in
      let long : length bytes ≡ 36 + n * (8 + 2 * keys.size + tallies.size) = known.long in
      let behind : length (drop 36 bytes) ≡ length bytes - 36 = length-drop 36 bytes in
      let asked-long : length (requests_part n keys.size bytes) ≡ n * lr = length-take-le (n * lr) (drop 36 bytes) (omega arith) in
      let answered-long : length (answers_part n keys.size bytes) ≡ n * la = length-drop (36 + n * lr) bytes ∙ omega arith in
      let found = rows_from keys tallies key_laws tally-laws n 1 36 1 (answers_start n keys.size) (requests_part n keys.size bytes) (answers_part n keys.size bytes) asked-long answered-long (all_bytes-drop (36 + n * lr) bytes b) (none_front asking answering rest) (none_back asking answering rest) in
      let body : flat_map (request_row keys) found.rows ++ flat_map (answer_row tallies) found.rows ≡ drop 36 bytes = ap₂ (λ x y. x ++ y) found.asked (found.answered ∙ sym (drop-drop (n * lr) 36 bytes)) ∙ take-append-drop (n * lr) (drop 36 bytes) in (
        found.rows,
        record {
          key_fits = known.key_fits;
          tally_fits = known.tally_fits;
          few = omega (arith, found.counted, known.few);
          same = known.headed ∙ sym (ap₂ (λ m l. header m keys.size tallies.size ++ l) found.counted body);
        },
      )
