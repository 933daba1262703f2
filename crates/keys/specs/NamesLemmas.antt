-- The eight bytes that hold a name: filled one by one, read back, compared. Rests on Orders.
use Rattle.std.specs.Prelude.{◌≡◌, ℕ, zero, suc, ◌+◌, ◌-◌, ◌<◌, ◌≤◌, Bool, true, false, List, [], ◌∷◌, ◌++◌, length, take, drop, replicate, ◌==◌, nat_eq, slice_index, slice_set, refl}
use Rattle.std.proofs.Common.{sym, ap, ◌∙◌, append_assoc, arith, length-append, length-drop, take_all, length-take-le}
use Rattle.std.proofs.Math.Seq.{drop-append_seam}
use Rattle.std.proofs.lemmas.List.{take_more, set-append_right, length-replicate}
use Rattle.octets.specs.Runs.{all_are}
use Rattle.keys.specs.Names.{filled, name_in, all_characters, is_name, is_section}
use Rattle.keys.specs.Orders.{text_le, by_first}

-- a zero more
zeros_more : (n : ℕ) → 0 < n → replicate {A = ℕ} n 0 ≡ 0 ∷ replicate (n - 1) 0
zeros_more zero h = absurd (omega arith)
zeros_more (suc n) h = ap (λ m. 0 ∷ replicate m 0) (omega arith)

-- one byte of the name more, one zero less
pub fill_more : (name : List ℕ) (i : ℕ) → i < length name → length name ≤ 8 → slice_set (take i name ++ replicate (8 - i) 0) i (slice_index name i) ≡ take (i + 1) name ++ replicate (8 - (i + 1)) 0
fill_more name i h k =
    let long : length (take i name) ≡ i = length-take-le i name (omega arith) in
    let first = set-append_right (take i name) (replicate (8 - i) 0) i i (slice_index name i) long (omega arith) in
    let here : i - i ≡ 0 = omega arith in
    let zeros : replicate {A = ℕ} (8 - i) 0 ≡ 0 ∷ replicate (8 - (i + 1)) 0 = zeros_more (8 - i) (omega arith) ∙ ap (λ m. 0 ∷ replicate m 0) (omega arith) in
    first ∙ rw (zeros, here, take_more name i 0 h, append_assoc)

-- the whole name
pub fill_all : (name : List ℕ) (i : ℕ) → i ≡ length name → take i name ++ replicate (8 - i) 0 ≡ filled name
fill_all name i e = rw (e, take_all (length name) name (omega arith))

-- zeros hold no name
zeros-nameless : (n : ℕ) → name_in (replicate n 0) ≡ []
zeros-nameless zero = refl
zeros-nameless (suc n) = refl

-- a name filled up is the name that its bytes hold
pub name_filled : (name zeros : List ℕ) → all_characters name ≡ true → name_in zeros ≡ [] → name_in (name ++ zeros) ≡ name
name_filled [] zeros h z = z
name_filled (c ∷ cs) zeros h z =
    let t : all_characters cs ≡ true = grind arith in
    let ih = name_filled cs zeros t z in
    let n : nat_eq c 0 ≡ false = grind arith in
    rw (n, ih)

all_are-zeros : (n : ℕ) → all_are 0 (replicate n 0) ≡ true
all_are-zeros zero = refl
all_are-zeros (suc n) = all_are-zeros n

zeros_least : (xs ys : List ℕ) → length xs ≡ length ys → all_are 0 xs ≡ true → text_le xs ys ≡ true
zeros_least [] ys e h = refl
zeros_least (x ∷ xs) [] e h = absurd (omega arith)
zeros_least (x ∷ xs) (y ∷ ys) e h =
    let t : all_are 0 xs ≡ true = grind arith in
    let ih = zeros_least xs ys (omega arith) t in
    let z : x ≡ 0 = grind arith in
    grind arith

-- compared byte by byte, bytes that hold names are in the order of the names
pub filled-le : (a b : List ℕ) → length a ≡ length b → all_are 0 (drop (length (name_in a)) a) ≡ true → all_are 0 (drop (length (name_in b)) b) ≡ true → text_le (name_in a) (name_in b) ≡ text_le a b
filled-le [] ys e h k = refl
filled-le (x ∷ xs) [] e h k = absurd (omega arith)
filled-le (x ∷ xs) (y ∷ ys) e h k = go (filled-le xs ys (omega arith)) (x == 0) (y == 0) refl refl
  where
    go : (all_are 0 (drop (length (name_in xs)) xs) ≡ true → all_are 0 (drop (length (name_in ys)) ys) ≡ true → text_le (name_in xs) (name_in ys) ≡ text_le xs ys) → (b d : Bool) → (x == 0) ≡ b → (y == 0) ≡ d → text_le (name_in (x ∷ xs)) (name_in (y ∷ ys)) ≡ text_le (x ∷ xs) (y ∷ ys)
    go ih true true p q =
        let l : length xs ≡ length ys = omega arith in
        let z : all_are 0 (x ∷ xs) ≡ true = rw p at h in
        let t : all_are 0 xs ≡ true = grind arith in
        let least = zeros_least xs ys l t in
        let same : by_first x y (text_le xs ys) ≡ text_le xs ys = grind arith in
        rw p (sym (same ∙ least))
    go ih true false p q = let less : by_first x y (text_le xs ys) ≡ true = grind arith in rw p (sym less)
    go ih false true p q = let more : by_first x y (text_le xs ys) ≡ false = grind arith in rw (p, q) (sym more)
    go ih false false p q =
        let u : all_are 0 (drop (length (name_in xs)) xs) ≡ true = rw p at h in
        let v : all_are 0 (drop (length (name_in ys)) ys) ≡ true = rw q at k in
        rw (p, q) (ap (λ r. by_first x y r) (ih u v))

-- a name filled up is eight bytes that hold it
pub is_section-filled : (name : List ℕ) → is_name name ≡ true → is_section (filled name) ≡ true
is_section-filled name h =
    let few : length name ≤ 8 = grind arith in
    let good : all_characters name ≡ true = grind arith in
    let zeros = length-replicate {A = ℕ} (8 - length name) 0 in
    let long : length (filled name) ≡ 8 = rw length-append (omega arith) in
    let back : name_in (filled name) ≡ name = name_filled name _ good (zeros-nameless (8 - length name)) in
    let rest : drop (length name) (filled name) ≡ replicate (8 - length name) 0 = drop-append_seam name _ in
    rw (back, long, h, rest, all_are-zeros (8 - length name))

-- eight bytes with a name in front hold it where the rest are zeros
pub section_by_rest : (bytes name : List ℕ) → name ≡ name_in bytes → length bytes ≡ 8 → is_name name ≡ true → all_are 0 (take (length bytes - length name) (drop (length name) bytes)) ≡ is_section bytes
section_by_rest bytes name e long h =
    let named : is_name (name_in bytes) ≡ true = ap is_name (sym e) ∙ h in
    let rest : length (drop (length name) bytes) ≡ length bytes - length name = length-drop (length name) bytes in
    let whole : take (length bytes - length name) (drop (length name) bytes) ≡ drop (length name) bytes = take_all _ _ (omega arith) in
    let same : drop (length name) bytes ≡ drop (length (name_in bytes)) bytes = ap (λ n. drop (length n) bytes) e in
    ap (all_are 0) (whole ∙ same) ∙ rw (long, named)
