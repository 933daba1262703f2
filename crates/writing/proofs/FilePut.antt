-- Header, request rows and answer rows, put one after the other, are the file. Rests on the file's length.
use Rattle.std.proofs.Common.{◌≡◌, ℕ, ◌+◌, ◌-◌, ◌*◌, ◌<◌, ◌≤◌, Bool, true, false, ◌||◌, ltb, List, ◌++◌, length, take, drop, Some, None, Ok, Err, sym, refl, ap, ◌∙◌, ap₂, arith, length-append, le-ltb, lt-ltb}
use borrow.Rule.Slice.PartMut.{put_mid}
use Rattle.std.proofs.lemmas.List.{take_at, drop_at, drop-drop, append_assoc}
use Rattle.std.specs.List.{flat_map}
use Rattle.keys.specs.declared.refusal.Refusal.{Refusal}
use Rattle.keys.specs.declared.refusal.Refusal.TheVariants.{TooShort, TooWide}
use Rattle.requests.specs.declared.row.Row.{Row}
use Rattle.stored.specs.Forms.{KeyForm, TallyForm}
use Rattle.archive.specs.Format.{request_length, answer_length, answers_start, file_length, header, request_row, answer_row, file}
use Rattle.archive.specs.Layouts.{layout_refused}
use Rattle.archive.proofs.Laws.{KeyLaws, TallyLaws}
use Rattle.archive.proofs.RowBytes.{joined_long, request_row_long, answer_row_long}
use Rattle.archive.proofs.Files.{file_long, rows_long}
use Rattle.writing.specs.Written.{write_answer, write_after}

-- three parts put one after the other into the front
put_three : (before first H R A : List ℕ) (a e : ℕ) → length H ≡ 36 → a ≡ 36 + length R → e ≡ a + length A → first ≡ H ++ drop 36 before → put_mid a (e - a) (put_mid 36 (a - 36) first R) A ≡ (H ++ (R ++ A)) ++ drop e before
put_three before first H R A a e h ra ea f =
    let front : take 36 first ≡ H = ap (take 36) f ∙ take_at H (drop 36 before) 36 h in
    let back : drop 36 first ≡ drop 36 before = ap (drop 36) f ∙ drop_at H (drop 36 before) 36 h in
    let reach : 36 + (a - 36) ≡ a = omega arith in
    let past : drop (a - 36) (drop 36 first) ≡ drop a before = ap (drop (a - 36)) back ∙ drop-drop (a - 36) 36 before ∙ ap (λ n. drop n before) reach in
    let two : put_mid 36 (a - 36) first R ≡ (H ++ R) ++ drop a before = ap₂ (λ x y. x ++ y) front (ap (λ l. R ++ l) past) ∙ sym (append_assoc H R (drop a before)) in
    let long : length (H ++ R) ≡ a = length-append H R ∙ omega arith in
    let front-two : take a (put_mid 36 (a - 36) first R) ≡ H ++ R = ap (take a) two ∙ take_at (H ++ R) (drop a before) a long in
    let back-two : drop a (put_mid 36 (a - 36) first R) ≡ drop a before = ap (drop a) two ∙ drop_at (H ++ R) (drop a before) a long in
    let reach-end : a + (e - a) ≡ e = omega arith in
    let past_two : drop (e - a) (drop a (put_mid 36 (a - 36) first R)) ≡ drop e before = ap (drop (e - a)) back-two ∙ drop-drop (e - a) a before ∙ ap (λ n. drop n before) reach-end in
    ap₂ (λ x y. x ++ y) front-two (ap (λ l. A ++ l) past_two) ∙ sym (append_assoc (H ++ R) A (drop e before)) ∙ ap (λ l. l ++ drop e before) (append_assoc H R A)

-- a kind that is too wide is told
pub wide-answer : {K T : Type 0} (keys : KeyForm K) (tallies : TallyForm T) (rows : List (Row K T)) (count : ℕ) (e : Refusal) (buffer : List ℕ) → count ≤ 1024 → layout_refused count keys.size tallies.size ≡ Some e → (Err e ≡ write_answer keys tallies rows buffer) × (buffer ≡ write_after keys tallies rows buffer)
wide-answer keys tallies rows count e buffer few h = go (ltb 16 keys.size || ltb 16 tallies.size) refl
  where
    enough : ltb 1024 count ≡ false
    enough = le-ltb _ _ few

    go : (b : Bool) → (ltb 16 keys.size || ltb 16 tallies.size) ≡ b → (Err e ≡ write_answer keys tallies rows buffer) × (buffer ≡ write_after keys tallies rows buffer)
    go true w =
        let told : Some TooWide ≡ Some e = rw w at h in
        let same : e ≡ TooWide = cc in
        (rw w (ap Err same), rw w)
    go false w = let none : None ≡ Some e = rw (w, enough) at h in absurd cc

module _ {K T : Type 0} (keys : KeyForm K) (tallies : TallyForm T) (key_laws : KeyLaws keys) (tally-laws : TallyLaws tallies) (rows : List (Row K T)) (count start end : ℕ) (counted : count ≡ length rows) (key_fits : keys.size ≤ 16) (tally_fits : tallies.size ≤ 16) (starts : start ≡ answers_start count keys.size) (ends : end ≡ file_length count keys.size tallies.size) where
  narrow : (ltb 16 keys.size || ltb 16 tallies.size) ≡ false
  narrow =
      let p : ltb 16 keys.size ≡ false = le-ltb _ _ key_fits in
      let q : ltb 16 tallies.size ≡ false = le-ltb _ _ tally_fits in
      rw (p, q)

  -- the file ends where its rows do
  end_same : end ≡ length (file keys tallies rows)
  end_same = ends ∙ ap (λ n. file_length n keys.size tallies.size) counted ∙ sym (file_long keys tallies key_laws tally-laws rows)

  pub short-answer : (buffer : List ℕ) → length buffer < end → Err TooShort ≡ write_answer keys tallies rows buffer
  short-answer buffer h =
      let short : ltb (length buffer) (length (file keys tallies rows)) ≡ true = lt-ltb _ _ (omega (arith, end_same)) in
      rw (narrow, short)

  pub short-after : (buffer : List ℕ) → length buffer < end → buffer ≡ write_after keys tallies rows buffer
  short-after buffer h =
      let short : ltb (length buffer) (length (file keys tallies rows)) ≡ true = lt-ltb _ _ (omega (arith, end_same)) in
      rw (narrow, short)

  pub whole-answer : (buffer : List ℕ) → end ≤ length buffer → Ok end ≡ write_answer keys tallies rows buffer
  whole-answer buffer h =
      let enough : ltb (length buffer) (length (file keys tallies rows)) ≡ false = le-ltb _ _ (omega (arith, end_same)) in
      rw (narrow, enough) (ap Ok end_same)

  pub whole-after : (buffer first asked answered : List ℕ) → end ≤ length buffer → first ≡ header count keys.size tallies.size ++ drop 36 buffer → asked ≡ flat_map (request_row keys) rows → answered ≡ flat_map (answer_row tallies) rows → put_mid start (end - start) (put_mid 36 (start - 36) first asked) answered ≡ write_after keys tallies rows buffer
  whole-after buffer first asked answered h f p q =
      let enough : ltb (length buffer) (length (file keys tallies rows)) ≡ false = le-ltb _ _ (omega (arith, end_same)) in
      let asked-long : length asked ≡ count * request_length keys.size = ap length p ∙ joined_long (request_row keys) (request_length keys.size) (request_row_long keys key_laws) rows ∙ ap (λ n. n * request_length keys.size) (sym counted) in
      let answered-long : length answered ≡ count * answer_length tallies.size = ap length q ∙ joined_long (answer_row tallies) (answer_length tallies.size) (answer_row_long tallies tally-laws) rows ∙ ap (λ n. n * answer_length tallies.size) (sym counted) in
      let split = rows_long count keys.size tallies.size in
      let put = put_three buffer first (header count keys.size tallies.size) asked answered start end refl (omega arith) (omega arith) f in
      let headed : header count keys.size tallies.size ≡ header (length rows) keys.size tallies.size = ap (λ n. header n keys.size tallies.size) counted in
      let filed : header count keys.size tallies.size ++ (asked ++ answered) ≡ file keys tallies rows = ap₂ (λ x y. x ++ y) headed (ap₂ (λ x y. x ++ y) p q) in
      put ∙ ap₂ (λ l n. l ++ drop n buffer) filed end_same ∙ sym (rw (narrow, enough))
