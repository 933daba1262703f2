-- The file of an accepted archive's rows is that archive. Assumes nothing.
use Rattle.std.proofs.Common.{◌≡◌, ℕ, ◌<◌, ◌≤◌, true, false, ◌||◌, ltb, List, ◌++◌, length, drop, Ok, Err, sym, ap, arith, le-ltb, lt-ltb}
use Rattle.keys.specs.declared.refusal.Refusal.TheVariants.{TooShort}
use Rattle.requests.specs.declared.row.Row.{Row}
use Rattle.stored.specs.Forms.{KeyForm, TallyForm}
use Rattle.archive.specs.Format.{file}
use Rattle.archive.specs.Theorems.{FileOf}
use Rattle.writing.specs.Written.{write_answer, write_after}

module _ {K T : Type 0} (keys : KeyForm K) (tallies : TallyForm T) (bytes buffer : List ℕ) (rows : List (Row K T)) (f : FileOf keys tallies bytes rows) where
  narrow : (ltb 16 keys.size || ltb 16 tallies.size) ≡ false
  narrow =
      let p : ltb 16 keys.size ≡ false = le-ltb _ _ f.key_fits in
      let q : ltb 16 tallies.size ≡ false = le-ltb _ _ f.tally_fits in
      rw (p, q)

  enough : length bytes ≤ length buffer → ltb (length buffer) (length (file keys tallies rows)) ≡ false
  enough room = le-ltb _ _ (omega (arith, room, ap length f.same))

  pub again_answer : length bytes ≤ length buffer → write_answer keys tallies rows buffer ≡ Ok (length bytes)
  again_answer room = let e = enough room in rw (narrow, e) (ap (λ l. Ok (length l)) (sym f.same))

  pub again_after : length bytes ≤ length buffer → write_after keys tallies rows buffer ≡ bytes ++ drop (length bytes) buffer
  again_after room = let e = enough room in rw (narrow, e) (ap (λ l. l ++ drop (length l) buffer) (sym f.same))

  pub again_short : length buffer < length bytes → write_answer keys tallies rows buffer ≡ Err TooShort
  again_short few =
      let short : ltb (length buffer) (length (file keys tallies rows)) ≡ true = lt-ltb _ _ (omega (arith, few, ap length f.same)) in
      rw (narrow, short)
