-- The rows of a file by number. Rests on Files.
use Rattle.std.proofs.Common.{◌≡◌, ℕ, zero, suc, ◌+◌, ◌-◌, ◌*◌, ◌<◌, ◌≤◌, false, ltb, List, [], ◌∷◌, ◌++◌, length, take, drop, Some, None, Option, sym, refl, ap, ◌∙◌, ap₂, suc-mul, zero-mul, arith, length-append, le-ltb}
use Rattle.std.proofs.lemmas.List.{take_at, drop_at, drop-drop, append_assoc, append-nil}
use Rattle.std.proofs.lemmas.Option.{slice_get_past}
use Rattle.std.specs.List.{slice_get, flat_map}
use Rattle.requests.specs.declared.row.Row.{Row}
use Rattle.stored.specs.Forms.{KeyForm, TallyForm}
use Rattle.archive.specs.Format.{request_length, answer_length, answers_start, header, request_row, answer_row, file}
use Rattle.archive.specs.Opened.{row_numbered, part_of}
use Rattle.archive.specs.Theorems.{FileOf}
use Rattle.archive.proofs.Laws.{KeyLaws, TallyLaws}
use Rattle.archive.proofs.RowBytes.{joined_long, request_row_long, answer_row_long}

-- a row that is there
pub nth_there : {X : Type 0} (xs : List X) (i : ℕ) → i < length xs → (x : X) × (slice_get xs i ≡ Some x)
nth_there [] i h = absurd (omega arith)
nth_there (x ∷ xs) zero h = (x, refl)
nth_there (x ∷ xs) (suc i) h = nth_there xs i (omega arith)

pub numbered : {K T : Type 0} (rows : List (Row K T)) (number : ℕ) → 1 ≤ number → row_numbered rows number ≡ slice_get rows (number - 1)
numbered rows zero h = absurd (omega arith)
numbered rows (suc i) h = ap (slice_get rows) (omega arith)

pub numbered-past : {K T : Type 0} (rows : List (Row K T)) (number : ℕ) → length rows < number → row_numbered rows number ≡ None
numbered-past rows zero h = absurd (omega arith)
numbered-past rows (suc i) h = slice_get_past rows i (omega arith)

module _ {X : Type 0} (f : X → List ℕ) (size : ℕ) (long : (x : X) → length (f x) ≡ size) where
  run_at : (xs : List X) (i : ℕ) (x : X) (rest : List ℕ) → slice_get xs i ≡ Some x → take size (drop (i * size) (flat_map f xs ++ rest)) ≡ f x
  run_at [] i x rest h = absurd cc
  run_at (y ∷ ys) zero x rest h =
      let same : y ≡ x = cc in
      ap (λ n. take size (drop n ((f y ++ flat_map f ys) ++ rest))) (zero-mul size) ∙ ap (take size) (append_assoc (f y) (flat_map f ys) rest) ∙ take_at (f y) (flat_map f ys ++ rest) size (long y) ∙ ap f same
  run_at (y ∷ ys) (suc j) x rest h =
      let step : suc j * size ≡ size + j * size = suc-mul j size ∙ omega arith in
      let behind : drop size ((f y ++ flat_map f ys) ++ rest) ≡ flat_map f ys ++ rest = ap (drop size) (append_assoc (f y) (flat_map f ys) rest) ∙ drop_at (f y) (flat_map f ys ++ rest) size (long y) in
      ap (λ n. take size (drop n ((f y ++ flat_map f ys) ++ rest))) step ∙ ap (take size) (sym (drop-drop (j * size) size ((f y ++ flat_map f ys) ++ rest)) ∙ ap (drop (j * size)) behind) ∙ run_at ys j x rest h

  run_fits : (xs : List X) (i : ℕ) → i < length xs → i * size + size ≤ length (flat_map f xs)
  run_fits [] i h = absurd (omega arith)
  run_fits (y ∷ ys) zero h =
      let here = long y in
      let sum = length-append (f y) (flat_map f ys) in
      let none = zero-mul size in
      omega arith
  run_fits (y ∷ ys) (suc j) h =
      let ih = run_fits ys j (omega arith) in
      let here = long y in
      let sum = length-append (f y) (flat_map f ys) in
      let step = suc-mul j size in
      omega arith

  -- one of the parts behind a front
  pub part_run : (xs : List X) (i : ℕ) (x : X) (front rest : List ℕ) (start : ℕ) → i < length xs → length front ≡ start → slice_get xs i ≡ Some x → part_of start size i (front ++ (flat_map f xs ++ rest)) ≡ Some (f x)
  part_run xs i x front rest start l e h =
      let room = run_fits xs i l in
      let sum : length (front ++ (flat_map f xs ++ rest)) ≡ length front + (length (flat_map f xs) + length rest) = length-append front (flat_map f xs ++ rest) ∙ ap (λ n. length front + n) (length-append (flat_map f xs) rest) in
      let fits : ltb (length (front ++ (flat_map f xs ++ rest))) (start + i * size + size) ≡ false = le-ltb _ _ (omega arith) in
      let cut : take size (drop (start + i * size) (front ++ (flat_map f xs ++ rest))) ≡ f x = ap (take size) (sym (drop-drop (i * size) start (front ++ (flat_map f xs ++ rest))) ∙ ap (drop (i * size)) (drop_at front (flat_map f xs ++ rest) start e)) ∙ run_at xs i x rest h in
      rw (fits, cut)

module _ {K T : Type 0} (keys : KeyForm K) (tallies : TallyForm T) (key_laws : KeyLaws keys) (tally-laws : TallyLaws tallies) (rows : List (Row K T)) (i : ℕ) (w : Row K T) (there : i < length rows) (found : slice_get rows i ≡ Some w) where
  request_handed : part_of 36 (request_length keys.size) i (file keys tallies rows) ≡ Some (request_row keys w)
  request_handed = part_run (request_row keys) (request_length keys.size) (request_row_long keys key_laws) rows i w (header (length rows) keys.size tallies.size) (flat_map (answer_row tallies) rows) 36 there refl found

  answer_handed : part_of (36 + length rows * request_length keys.size) (answer_length tallies.size) i (file keys tallies rows) ≡ Some (answer_row tallies w)
  answer_handed =
      let front = header (length rows) keys.size tallies.size ++ flat_map (request_row keys) rows in
      let long : length (header (length rows) keys.size tallies.size ++ flat_map (request_row keys) rows) ≡ 36 + length rows * request_length keys.size = length-append (header (length rows) keys.size tallies.size) (flat_map (request_row keys) rows) ∙ ap (λ n. 36 + n) (joined_long (request_row keys) (request_length keys.size) (request_row_long keys key_laws) rows) in
      let same : file keys tallies rows ≡ (header (length rows) keys.size tallies.size ++ flat_map (request_row keys) rows) ++ (flat_map (answer_row tallies) rows ++ []) = sym (append_assoc (header (length rows) keys.size tallies.size) (flat_map (request_row keys) rows) (flat_map (answer_row tallies) rows)) ∙ ap (λ l. (header (length rows) keys.size tallies.size ++ flat_map (request_row keys) rows) ++ l) (sym (append-nil (flat_map (answer_row tallies) rows))) in
      ap (part_of (36 + length rows * request_length keys.size) (answer_length tallies.size) i) same ∙ part_run (answer_row tallies) (answer_length tallies.size) (answer_row_long tallies tally-laws) rows i w (header (length rows) keys.size tallies.size ++ flat_map (request_row keys) rows) [] (36 + length rows * request_length keys.size) there long found

-- the row of a number that is given, and its parts as they are cut out
pub record Handed {K T : Type 0} (keys : KeyForm K) (tallies : TallyForm T) (rows : List (Row K T)) (number : ℕ) (asked answered : Option (List ℕ)) : Type 0 where
  pub row : Row K T
  pub given : row_numbered rows number ≡ Some row
  pub request : asked ≡ Some (request_row keys row)
  pub answer : answered ≡ Some (answer_row tallies row)

pub handed : {K T : Type 0} (keys : KeyForm K) (tallies : TallyForm T) (key_laws : KeyLaws keys) (tally-laws : TallyLaws tallies) (bytes : List ℕ) (rows : List (Row K T)) (number lr la start : ℕ) (asked answered : Option (List ℕ)) → FileOf keys tallies bytes rows → 1 ≤ number → number ≤ length rows → lr ≡ request_length keys.size → la ≡ answer_length tallies.size → start ≡ answers_start (length rows) keys.size → asked ≡ part_of 36 lr (number - 1) bytes → answered ≡ part_of start la (number - 1) bytes → Handed keys tallies rows number asked answered
handed keys tallies key_laws tally-laws bytes rows number lr la start asked answered file-of low high p q s a b =
    let there : number - 1 < length rows = omega arith in
    let found = nth_there rows (number - 1) there in
    let request-part : asked ≡ part_of 36 (request_length keys.size) (number - 1) (file keys tallies rows) = a ∙ ap₂ (λ m l. part_of 36 m (number - 1) l) p file-of.same in
    let answer-part : answered ≡ part_of (answers_start (length rows) keys.size) (answer_length tallies.size) (number - 1) (file keys tallies rows) = b ∙ ap (λ n. part_of n la (number - 1) bytes) s ∙ ap₂ (λ m l. part_of (answers_start (length rows) keys.size) m (number - 1) l) q file-of.same in
    record {
      row = found.0;
      given = numbered rows number low ∙ found.1;
      request = request-part ∙ request_handed keys tallies key_laws tally-laws rows (number - 1) found.0 there found.1;
      answer = answer-part ∙ answer_handed keys tallies key_laws tally-laws rows (number - 1) found.0 there found.1;
    }
