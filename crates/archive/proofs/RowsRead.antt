-- Rows without a fault are the bytes of some rows. Rests on Holds and RowBytes.
use Rattle.std.proofs.Common.{◌≡◌, ℕ, zero, suc, ◌+◌, ◌*◌, ◌≤◌, Bool, true, false, ◌||◌, eqb, ◌⊎◌, List, [], ◌∷◌, ◌++◌, length, get_or, take, drop, is_some, Some, None, Option, sym, refl, ap, ◌∙◌, ap₂, inl, inr, ⊎_elim, true≢false, suc-mul, zero-mul, arith, length-drop, eqb-true}
use Rattle.std.proofs.lemmas.List.{take-append-drop, length-take-le, nil_from_length, get_or-take}
use Rattle.octets.specs.Runs.{all_are}
use Rattle.std.specs.List.{flat_map}
use Rattle.requests.specs.declared.kind.Kind.{Kind}
use Rattle.requests.specs.declared.kind.Kind.TheVariants as kind
use Rattle.requests.specs.declared.answer.Answer.{Answer}
use Rattle.requests.specs.declared.answer.Answer.TheVariants.{Changed, Unchanged, Present, Absent, Counted}
use Rattle.requests.specs.declared.request.Request.{Request}
use Rattle.requests.specs.declared.request.Request.TheVariants.{Enter, Withdraw, LookUp, Count}
use Rattle.requests.specs.declared.row.Row.{Row}
use Rattle.requests.specs.declared.station.Station.{Station}
use Rattle.requests.specs.Answers.{answers, answer_code}
use Rattle.requests.specs.Fits.{fits}
use Rattle.requests.specs.Kinds.{kind_number}
use Rattle.requests.specs.Requests.{kind_of}
use Rattle.requests.specs.Stations.{is_station}
use Rattle.stored.specs.Forms.{KeyForm, TallyForm}
use Rattle.stored.specs.Numerals.{all_bytes}
use Rattle.stored.specs.PairBytesLemmas.{all_bytes-take, all_bytes-drop}
use Rattle.archive.specs.Format.{request_length, answer_length, zeros, key_fields, tally_field, code_of, request_row, answer_row}
use Rattle.archive.specs.Checks.{first_fault, kind_numbered, is_second, is_code, request_checks, requests_checks, answer_checks, answers_checks}
use Rattle.archive.proofs.Laws.{KeyLaws, TallyLaws}
use Rattle.archive.proofs.Faults.{none_front, none_back}
use Rattle.archive.proofs.RowsWritten.{kind_reread}
use Rattle.archive.proofs.Holds.{RequestHolds, request_holds, answer-holds}

-- the value that is there
abbrev pub Given : {X : Type 0} → Option X → Type 0
Given {X} o = (x : X) × (o ≡ Some x)

pub given : {X : Type 0} (o : Option X) → is_some o ≡ true → Given o
given None h = absurd (true≢false (sym h))
given (Some x) h = (x, refl)

-- a number with a kind is the kind's number
pub kind_rewritten : (n : ℕ) (k : Kind) → kind_numbered n ≡ Some k → kind_number k ≡ n
kind_rewritten n k h = grind arith

-- bytes that are all zero
pub zeros_from : (bytes : List ℕ) → all_are 0 bytes ≡ true → bytes ≡ zeros (length bytes)
zeros_from [] h = refl
zeros_from (b ∷ bs) h =
    let here : b ≡ 0 = grind arith in
    let rest : all_are 0 bs ≡ true = grind arith in
    ap₂ (λ x xs. x ∷ xs) here (zeros_from bs rest)

station_from : (n : ℕ) → is_station n ≡ true → (s : Station) × (s.number ≡ n)
station_from n h =
    let low : 1 ≤ n = grind arith in
    let high : n ≤ 8 = grind arith in
    (record { number = n; known = (low, high) }, refl)

module _ {K : Type 0} (keys : KeyForm K) (laws : KeyLaws keys) where
  -- a request of that kind with these key fields
  abbrev Keyed : Kind → List ℕ → Type 0
  Keyed k bytes = (q : Request K) × (kind_of q ≡ k) × (key_fields keys q ≡ bytes)

  keys_from : (k : Kind) (front back : List ℕ) → is_some (keys.read front) ≡ true → is_second keys (kind_number k) back ≡ true → length back ≡ keys.size → Keyed k (front ++ back)
  keys_from kind.Enter front back f s long =
      let one = given (keys.read front) f in
      (Enter one.0, refl, ap₂ (λ x y. x ++ y) (laws.rewritten front one.0 one.1) (sym (zeros_from back s ∙ ap zeros long)))
  keys_from kind.Withdraw front back f s long =
      let one = given (keys.read front) f in
      (Withdraw one.0, refl, ap₂ (λ x y. x ++ y) (laws.rewritten front one.0 one.1) (sym (zeros_from back s ∙ ap zeros long)))
  keys_from kind.LookUp front back f s long =
      let one = given (keys.read front) f in
      (LookUp one.0, refl, ap₂ (λ x y. x ++ y) (laws.rewritten front one.0 one.1) (sym (zeros_from back s ∙ ap zeros long)))
  keys_from kind.Count front back f s long =
      let one = given (keys.read front) f in
      let two = given (keys.read back) s in
      (Count one.0 two.0, refl, ap₂ (λ x y. x ++ y) (laws.rewritten front one.0 one.1) (laws.rewritten back two.0 two.1))

  -- the station and the request of a row
  pub record Asked (row : List ℕ) : Type 0 where
    pub station : Station
    pub request : Request K
    pub same : kind_number (kind_of request) ∷ station.number ∷ 0 ∷ 0 ∷ key_fields keys request ≡ row

  pub asked_from : (row : List ℕ) → length row ≡ request_length keys.size → RequestHolds keys row → Asked row
  asked_from [] e h = absurd (omega arith)
  asked_from (a ∷ []) e h = absurd (omega arith)
  asked_from (a ∷ b ∷ []) e h = absurd (omega arith)
  asked_from (a ∷ b ∷ c ∷ []) e h = absurd (omega arith)
  asked_from (a ∷ b ∷ c ∷ d ∷ rest) e h =
      let k = given (kind_numbered a) h.kind in
      let s = station_from b h.station in
      let number : kind_number k.0 ≡ a = kind_rewritten a k.0 k.1 in
      let long : length rest ≡ keys.size + keys.size = omega arith in
      let behind : length (drop keys.size rest) ≡ keys.size = length-drop keys.size rest ∙ omega arith in
      let past : 4 + keys.size ≡ suc (suc (suc (suc keys.size))) = omega arith in
      let back : is_second keys (kind_number k.0) (drop keys.size rest) ≡ true = ap₂ (λ n m. is_second keys n (drop m (a ∷ b ∷ c ∷ d ∷ rest))) number (sym past) ∙ h.second in
      let q = keys_from k.0 (take keys.size rest) (drop keys.size rest) h.first back behind in
      let zero-c : c ≡ 0 = gap_first c d h.gap in
      let zero-d : d ≡ 0 = gap_second c d h.gap in
      let kinds : kind_number (kind_of q.0) ≡ a = ap kind_number q.1 ∙ number in
      let fields : key_fields keys q.0 ≡ rest = q.2 ∙ take-append-drop keys.size rest in
      record {
        station = s.0;
        request = q.0;
        same = five kinds s.1 (sym zero-c) (sym zero-d) fields;
      }
    where
      gap_first : (c d : ℕ) → all_are 0 (c ∷ d ∷ []) ≡ true → c ≡ 0
      gap_first c d h = grind arith

      gap_second : (c d : ℕ) → all_are 0 (c ∷ d ∷ []) ≡ true → d ≡ 0
      gap_second c d h = grind arith

      five : {a b c d a' b' c' d' : ℕ} {r r' : List ℕ} → a ≡ a' → b ≡ b' → c ≡ c' → d ≡ d' → r ≡ r' → a ∷ b ∷ c ∷ d ∷ r ≡ a' ∷ b' ∷ c' ∷ d' ∷ r'
      five p q r s t = cc

one_of : (a x : ℕ) → (eqb a 0 || eqb a x) ≡ true → (a ≡ 0) ⊎ (a ≡ x)
one_of a x h = go (eqb a 0) refl
  where
    go : (b : Bool) → eqb a 0 ≡ b → (a ≡ 0) ⊎ (a ≡ x)
    go true e = inl (eqb-true a 0 e)
    go false e = let u : eqb a x ≡ true = rw e at h in inr (eqb-true a x u)

one_of_two : (a x y : ℕ) → (eqb a 0 || (eqb a x || eqb a y)) ≡ true → (a ≡ 0) ⊎ ((a ≡ x) ⊎ (a ≡ y))
one_of_two a x y h = go (eqb a 0) refl (eqb a x) refl
  where
    go : (b : Bool) → eqb a 0 ≡ b → (c : Bool) → eqb a x ≡ c → (a ≡ 0) ⊎ ((a ≡ x) ⊎ (a ≡ y))
    go true e c f = inl (eqb-true a 0 e)
    go false e true f = inr (inl (eqb-true a x f))
    go false e false f = let u : eqb a y ≡ true = rw (e, f) at h in inr (inr (eqb-true a y u))

-- an answer, or none yet, that a request of that kind can have
abbrev answerable : {T : Type 0} → Kind → Option (Answer T) → Bool
answerable k None = true
answerable k (Some a) = answers k (answer_code a)

module _ {T : Type 0} (tallies : TallyForm T) (laws : TallyLaws tallies) where
  -- an answer of a code without a tally
  record Plain (k : Kind) (code : ℕ) : Type 0 where
    answer : Option (Answer T)
    coded : code_of answer ≡ code
    bare : tally_field tallies answer ≡ zeros tallies.size
    fitting : answerable k answer ≡ true
    other : eqb code 5 ≡ false

  plain : (k : Kind) (code : ℕ) (o : Option (Answer T)) (n : ℕ) → code ≡ n → code_of o ≡ n → tally_field tallies o ≡ zeros tallies.size → answerable k o ≡ true → eqb n 5 ≡ false → Plain k code
  plain k code o n e f g h i = record { answer = o; coded = f ∙ sym e; bare = g; fitting = h; other = ap (λ m. eqb m 5) e ∙ i }

  -- a code that a kind can have: one without a tally, or a count's
  coded_from : (k : Kind) (code : ℕ) → is_code (Some k) code ≡ true → (Plain k code) ⊎ ((k ≡ kind.Count) × (code ≡ 5))
  coded_from kind.Enter code h =
      ⊎_elim (λ e. inl (plain kind.Enter code None 0 e refl refl refl refl)) (⊎_elim (λ e. inl (plain kind.Enter code (Some Changed) 1 e refl refl refl refl)) (λ e. inl (plain kind.Enter code (Some Unchanged) 2 e refl refl refl refl))) (one_of_two code 1 2 h)
  coded_from kind.Withdraw code h =
      ⊎_elim (λ e. inl (plain kind.Withdraw code None 0 e refl refl refl refl)) (⊎_elim (λ e. inl (plain kind.Withdraw code (Some Changed) 1 e refl refl refl refl)) (λ e. inl (plain kind.Withdraw code (Some Unchanged) 2 e refl refl refl refl))) (one_of_two code 1 2 h)
  coded_from kind.LookUp code h =
      ⊎_elim (λ e. inl (plain kind.LookUp code None 0 e refl refl refl refl)) (⊎_elim (λ e. inl (plain kind.LookUp code (Some Present) 3 e refl refl refl refl)) (λ e. inl (plain kind.LookUp code (Some Absent) 4 e refl refl refl refl))) (one_of_two code 3 4 h)
  coded_from kind.Count code h =
      ⊎_elim (λ e. inl (plain kind.Count code None 0 e refl refl refl refl)) (λ e. inr (refl, e)) (one_of code 5 h)

  -- the answer of a row
  pub record Answered (k : Kind) (row : List ℕ) : Type 0 where
    pub answer : Option (Answer T)
    pub fitting : answerable k answer ≡ true
    pub same : code_of answer ∷ 0 ∷ 0 ∷ 0 ∷ tally_field tallies answer ≡ row

  pub answered_from : (k : Kind) (row : List ℕ) → length row ≡ answer_length tallies.size → all_bytes row ≡ true → is_code (Some k) (get_or row 0 0) ≡ true → all_are 0 (take 3 (drop 1 row)) ≡ true → (eqb (get_or row 0 0) 5 || all_are 0 (drop 4 row)) ≡ true → Answered k row
  answered_from k [] e b h g t = absurd (omega arith)
  answered_from k (x ∷ []) e b h g t = absurd (omega arith)
  answered_from k (x ∷ y ∷ []) e b h g t = absurd (omega arith)
  answered_from k (x ∷ y ∷ z ∷ []) e b h g t = absurd (omega arith)
  answered_from k (x ∷ y ∷ z ∷ w ∷ rest) e b h g t =
      let long : length rest ≡ tallies.size = omega arith in
      ⊎_elim
      (λ p.
      let bare : all_are 0 rest ≡ true = rw p.other at t in
      record { answer = p.answer; fitting = p.fitting; same = five p.coded (sym (gap_y y z w g)) (sym (gap_z y z w g)) (sym (gap_w y z w g)) (p.bare ∙ sym (zeros_from rest bare ∙ ap zeros long)) })
      (λ p.
      record { answer = Some (Counted (tallies.read rest)); fitting = ap (λ q. answers q 5) p.0; same = five (sym p.1) (sym (gap_y y z w g)) (sym (gap_z y z w g)) (sym (gap_w y z w g)) (laws.rewritten rest long (all_bytes-drop 4 (x ∷ y ∷ z ∷ w ∷ rest) b)) })
      (coded_from k x h)
    where
      gap_y : (y z w : ℕ) → all_are 0 (y ∷ z ∷ w ∷ []) ≡ true → y ≡ 0
      gap_y y z w h = grind arith

      gap_z : (y z w : ℕ) → all_are 0 (y ∷ z ∷ w ∷ []) ≡ true → z ≡ 0
      gap_z y z w h = grind arith

      gap_w : (y z w : ℕ) → all_are 0 (y ∷ z ∷ w ∷ []) ≡ true → w ≡ 0
      gap_w y z w h = grind arith

      five : {a b c d a' b' c' d' : ℕ} {r r' : List ℕ} → a ≡ a' → b ≡ b' → c ≡ c' → d ≡ d' → r ≡ r' → a ∷ b ∷ c ∷ d ∷ r ≡ a' ∷ b' ∷ c' ∷ d' ∷ r'
      five p q r s t = cc

fits_from : {K T : Type 0} (q : Request K) (a : Option (Answer T)) → answerable (kind_of q) a ≡ true → fits q a ≡ true
fits_from q None h = refl
fits_from q (Some a) h = h

module _ {K T : Type 0} (keys : KeyForm K) (tallies : TallyForm T) (key_laws : KeyLaws keys) (tally-laws : TallyLaws tallies) where
  -- the rows that request rows and answer rows are
  pub record RowsFrom (count : ℕ) (requests answers : List ℕ) : Type 0 where
    pub rows : List (Row K T)
    pub counted : length rows ≡ count
    pub asked : flat_map (request_row keys) rows ≡ requests
    pub answered : flat_map (answer_row tallies) rows ≡ answers

  pub rows_from : (count number offset number' offset' : ℕ) (requests answers : List ℕ) → length requests ≡ count * request_length keys.size → length answers ≡ count * answer_length tallies.size → all_bytes answers ≡ true → first_fault (requests_checks keys count number offset requests) ≡ None → first_fault (answers_checks keys.size tallies.size count number' offset' requests answers) ≡ None → RowsFrom count requests answers
  rows_from zero number offset number' offset' requests answers p q b h k =
      record { rows = []; counted = refl; asked = sym (nil_from_length requests (p ∙ zero-mul _)); answered = sym (nil_from_length answers (q ∙ zero-mul _)) }
  rows_from (suc count) number offset number' offset' requests answers p q b h k =
      let lr : ℕ = request_length keys.size in
      let la : ℕ = answer_length tallies.size in
      let more-r : suc count * lr ≡ count * lr + lr = suc-mul count lr in
      let more-a : suc count * la ≡ count * la + la = suc-mul count la in
      let row = take lr requests in
      let reply = take la answers in
      let row-long : length row ≡ lr = length-take-le lr requests (omega arith) in
      let reply-long : length reply ≡ la = length-take-le la answers (omega arith) in
      let rest_long : length (drop lr requests) ≡ count * lr = length-drop lr requests ∙ omega arith in
      let replies-long : length (drop la answers) ≡ count * la = length-drop la answers ∙ omega arith in
      let here = none_front (request_checks keys number offset row) (requests_checks keys count (number + 1) (offset + lr) (drop lr requests)) h in
      let later = none_back (request_checks keys number offset row) (requests_checks keys count (number + 1) (offset + lr) (drop lr requests)) h in
      let reply-here = none_front (answer_checks (get_or requests 0 0) number' offset' reply) (answers_checks keys.size tallies.size count (number' + 1) (offset' + la) (drop lr requests) (drop la answers)) k in
      let reply-later = none_back (answer_checks (get_or requests 0 0) number' offset' reply) (answers_checks keys.size tallies.size count (number' + 1) (offset' + la) (drop lr requests) (drop la answers)) k in
      let a = asked_from keys key_laws row row-long (request_holds keys number offset row here) in
      let r = answer-holds (get_or requests 0 0) number' offset' reply reply-here in
      let front : get_or requests 0 0 ≡ kind_number (kind_of a.request) = sym (get_or-take lr requests 0 0 (omega arith)) ∙ ap (λ l. get_or l 0 0) (sym a.same) in
      let kind-known : kind_numbered (get_or requests 0 0) ≡ Some (kind_of a.request) = ap kind_numbered front ∙ kind_reread (kind_of a.request) in
      let code : is_code (Some (kind_of a.request)) (get_or reply 0 0) ≡ true = ap (λ o. is_code o (get_or reply 0 0)) (sym kind-known) ∙ r.code in
      let w = answered_from tallies tally-laws (kind_of a.request) reply reply-long (all_bytes-take la answers b) code r.gap r.tally in
      let others = rows_from count (number + 1) (offset + lr) (number' + 1) (offset' + la) (drop lr requests) (drop la answers) rest_long replies-long (all_bytes-drop la answers b) later reply-later in
      let this : Row K T = record { station = a.station; request = a.request; answer = w.answer; answered = fits_from a.request w.answer w.fitting } in
      record {
        rows = this ∷ others.rows;
        counted = ap suc others.counted;
        asked = ap₂ (λ x y. x ++ y) a.same others.asked ∙ take-append-drop lr requests;
        answered = ap₂ (λ x y. x ++ y) w.same others.answered ∙ take-append-drop la answers;
      }
