-- Headers: one that was written has no fault, and bytes without one are a header. Rests on Faults.
use Rattle.std.proofs.Common.{◌≡◌, ℕ, ◌+◌, ◌-◌, ◌*◌, ◌≤◌, true, ◌&&◌, eqb, leb, List, [], ◌∷◌, ◌++◌, length, take, drop, None, sym, refl, ap, ◌∙◌, ap₂, arith, length-append, length-drop, eq-eqb, eqb-true, leb-true}
use Rattle.std.proofs.lemmas.List.{drop_at, append_assoc, take-append-drop, drop-drop, length-take-le}
use Rattle.std.specs.List.{flat_map}
use Rattle.stored.specs.Numerals.{four, value, all_bytes}
use Rattle.stored.specs.HighFirst.{four_read, four_written}
use Rattle.stored.specs.PairBytesLemmas.{all_bytes-take, all_bytes-drop}
use Rattle.archive.specs.Format.{edition, header_fields, later_fields, header, file_length}
use Rattle.archive.specs.Checks.{Check, first_fault, field_at, rows_told, field_check, field_checks, rows_check, nine_checks, widths_check, room_check, end_check, header_checks}
use Rattle.archive.proofs.Faults.{first_past, first_after, none_first, none_others, none_front, none_back}

-- four bytes are those of their number
four_kept : (bytes : List ℕ) → length bytes ≡ 4 → all_bytes bytes ≡ true → four (value bytes) ≡ bytes
four_kept [] e h = absurd (omega arith)
four_kept (a ∷ []) e h = absurd (omega arith)
four_kept (a ∷ b ∷ []) e h = absurd (omega arith)
four_kept (a ∷ b ∷ c ∷ []) e h = absurd (omega arith)
four_kept (a ∷ b ∷ c ∷ d ∷ []) e h = four_written a b c d (grind arith) (grind arith) (grind arith)
four_kept (a ∷ b ∷ c ∷ d ∷ x ∷ rest) e h = absurd (omega arith)

-- a field that was written is read back
field_behind : (front rest : List ℕ) (n offset : ℕ) → length front ≡ offset → field_at (front ++ (four n ++ rest)) offset ≡ n
field_behind front rest n offset e =
    ap (λ l. value (take 4 l)) (drop_at front (four n ++ rest) offset e) ∙ four_read n

-- fields that were written have no fault
pub fields_sound : (ns front rest : List ℕ) (offset : ℕ) → length front ≡ offset → first_fault (field_checks (front ++ (flat_map four ns ++ rest)) offset ns) ≡ None
fields_sound [] front rest offset e = refl
fields_sound (n ∷ ns) front rest offset e =
    let inner : (four n ++ flat_map four ns) ++ rest ≡ four n ++ (flat_map four ns ++ rest) = append_assoc (four n) (flat_map four ns) rest in
    let near : front ++ ((four n ++ flat_map four ns) ++ rest) ≡ front ++ (four n ++ (flat_map four ns ++ rest)) = ap (λ l. front ++ l) inner in
    let far : front ++ ((four n ++ flat_map four ns) ++ rest) ≡ (front ++ four n) ++ (flat_map four ns ++ rest) = near ∙ sym (append_assoc front (four n) (flat_map four ns ++ rest)) in
    let long : length (front ++ four n) ≡ offset + 4 = length-append front (four n) ∙ omega arith in
    let here : field_at (front ++ ((four n ++ flat_map four ns) ++ rest)) offset ≡ n = ap (λ l. field_at l offset) near ∙ field_behind front (flat_map four ns ++ rest) n offset e in
    let ih = fields_sound ns (front ++ four n) rest (offset + 4) long in
    rw (eq-eqb _ n here) (ap (λ l. first_fault (field_checks l (offset + 4) ns)) far ∙ ih)

-- fields without a fault are those that they must be
pub fields_known : (ns bytes : List ℕ) (offset : ℕ) → all_bytes bytes ≡ true → offset + 4 * length ns ≤ length bytes → first_fault (field_checks bytes offset ns) ≡ None → drop offset bytes ≡ flat_map four ns ++ drop (offset + 4 * length ns) bytes
fields_known [] bytes offset a l h = ap (λ n. drop n bytes) (omega arith)
fields_known (n ∷ ns) bytes offset a l h =
    let first : eqb (field_at bytes offset) n ≡ true = none_first (field_check bytes offset n) (field_checks bytes (offset + 4) ns) h in
    let others : first_fault (field_checks bytes (offset + 4) ns) ≡ None = none_others (field_check bytes offset n) (field_checks bytes (offset + 4) ns) h in
    let same : field_at bytes offset ≡ n = eqb-true _ n first in
    let left : length (drop offset bytes) ≡ length bytes - offset = length-drop offset bytes in
    let long : length (take 4 (drop offset bytes)) ≡ 4 = length-take-le 4 (drop offset bytes) (omega arith) in
    let kept = four_kept (take 4 (drop offset bytes)) long (all_bytes-take 4 (drop offset bytes) (all_bytes-drop offset bytes a)) in
    let here : take 4 (drop offset bytes) ≡ four n = sym kept ∙ ap four same in
    let later : drop 4 (drop offset bytes) ≡ drop (offset + 4) bytes = drop-drop 4 offset bytes in
    let ih = fields_known ns bytes (offset + 4) a (omega arith) others in
    let end : offset + 4 + 4 * length ns ≡ offset + 4 * length (n ∷ ns) = omega arith in
    sym (take-append-drop 4 (drop offset bytes)) ∙ ap₂ (λ x y. x ++ y) here (later ∙ ih ∙ ap (λ k. flat_map four ns ++ drop k bytes) end) ∙ sym (append_assoc (four n) (flat_map four ns) _)

module _ (rows key tally : ℕ) where
  -- what a header tells
  pub header_tells_rows : (rest : List ℕ) → rows_told (header rows key tally ++ rest) ≡ rows
  header_tells_rows rest = four_read rows

  header_tells_length : (rest : List ℕ) → field_at (header rows key tally ++ rest) 32 ≡ file_length rows key tally
  header_tells_length rest = four_read (file_length rows key tally)

  -- a header that was written has no fault
  pub header_sound : (rest : List ℕ) → key ≤ 16 → tally ≤ 16 → rows ≤ 1024 → length (header rows key tally ++ rest) ≡ file_length rows key tally → first_fault (header_checks key tally (header rows key tally ++ rest)) ≡ None
  header_sound rest k t r long =
      let bytes = header rows key tally ++ rest in
      let widths : (leb key 16 && leb tally 16) ≡ true = grind arith in
      let enough : leb 36 (length (header rows key tally ++ rest)) ≡ true = grind arith in
      let told = header_tells_rows rest in
      let few : leb rows 1024 ≡ true = grind arith in
      let wanted : List ℕ = later_fields rows key tally in
      let fields = fields_sound (header_fields rows key tally) [] rest 0 refl in
      let edited = none_first (field_check bytes 0 edition) (field_checks bytes 4 (rows ∷ wanted)) fields in
      let from-rows = none_others (field_check bytes 0 edition) (field_checks bytes 4 (rows ∷ wanted)) fields in
      let from_key = none_others (field_check bytes 4 rows) (field_checks bytes 8 wanted) from-rows in
      let reckoned : List Check = field_checks bytes 8 (later_fields (rows_told bytes) key tally) in
      let later : first_fault reckoned ≡ None = ap (λ n. first_fault (field_checks bytes 8 (later_fields n key tally))) told ∙ from_key in
      let nine : first_fault (nine_checks key tally bytes) ≡ None = first_past (field_check bytes 0 edition) (rows_check bytes ∷ reckoned) edited ∙ first_past (rows_check bytes) reckoned (ap (λ n. leb n 1024) told ∙ few) ∙ later in
      let ends : eqb (length bytes) (field_at bytes 32) ≡ true = eq-eqb _ _ (long ∙ sym (header_tells_length rest)) in
      let last : List Check = nine_checks key tally bytes ++ (end_check bytes ∷ []) in
      first_past (widths_check key tally) (room_check bytes ∷ last) widths ∙ first_past (room_check bytes) last enough ∙ first_after (nine_checks key tally bytes) (end_check bytes ∷ []) nine ∙ first_past (end_check bytes) [] ends

-- two widths that are not too great
widths_fit : (key tally : ℕ) → (leb key 16 && leb tally 16) ≡ true → (key ≤ 16) × (tally ≤ 16)
widths_fit key tally h = (grind arith, grind arith)

-- what is known of bytes whose header has no fault
pub record Headed (key tally : ℕ) (bytes : List ℕ) : Type 0 where
  pub key_fits : key ≤ 16
  pub tally_fits : tally ≤ 16
  pub few : rows_told bytes ≤ 1024
  pub long : length bytes ≡ file_length (rows_told bytes) key tally
  pub headed : bytes ≡ header (rows_told bytes) key tally ++ drop 36 bytes

pub header_known : (key tally : ℕ) (bytes : List ℕ) → all_bytes bytes ≡ true → first_fault (header_checks key tally bytes) ≡ None → Headed key tally bytes
header_known key tally bytes a h =
    let reckoned : List Check = field_checks bytes 8 (later_fields (rows_told bytes) key tally) in
    let last : List Check = nine_checks key tally bytes ++ (end_check bytes ∷ []) in
    let widths = none_first (widths_check key tally) (room_check bytes ∷ last) h in
    let from-room = none_others (widths_check key tally) (room_check bytes ∷ last) h in
    let enough = none_first (room_check bytes) last from-room in
    let from-nine = none_others (room_check bytes) last from-room in
    let nine = none_front (nine_checks key tally bytes) (end_check bytes ∷ []) from-nine in
    let ends = none_first (end_check bytes) [] (none_back (nine_checks key tally bytes) (end_check bytes ∷ []) from-nine) in
    let edited = none_first (field_check bytes 0 edition) (rows_check bytes ∷ reckoned) nine in
    let from-rows = none_others (field_check bytes 0 edition) (rows_check bytes ∷ reckoned) nine in
    let few = none_first (rows_check bytes) reckoned from-rows in
    let later = none_others (rows_check bytes) reckoned from-rows in
    let wanted : List ℕ = later_fields (rows_told bytes) key tally in
    let itself : eqb (rows_told bytes) (rows_told bytes) ≡ true = eq-eqb _ _ refl in
    let all : first_fault (field_checks bytes 0 (header_fields (rows_told bytes) key tally)) ≡ None = first_past (field_check bytes 0 edition) (field_checks bytes 4 (rows_told bytes ∷ wanted)) edited ∙ first_past (field_check bytes 4 (rows_told bytes)) (field_checks bytes 8 wanted) itself ∙ later in
    let known : bytes ≡ header (rows_told bytes) key tally ++ drop 36 bytes = fields_known (header_fields (rows_told bytes) key tally) bytes 0 a (leb-true 36 (length bytes) enough) all in
    let told : field_at bytes 32 ≡ file_length (rows_told bytes) key tally = ap (λ l. field_at l 32) known ∙ header_tells_length (rows_told bytes) key tally (drop 36 bytes) in
    record {
      key_fits = (widths_fit key tally widths).0;
      tally_fits = (widths_fit key tally widths).1;
      few = leb-true (rows_told bytes) 1024 few;
      long = eqb-true _ _ ends ∙ told;
      headed = known;
    }
