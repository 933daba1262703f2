-- Routes and their five bytes. Rests on HighFirst and Puts.
use Rattle.std.specs.Prelude.{◌≡◌, ℕ, ◌+◌, ◌*◌, ◌%◌, ◌<◌, ◌≤◌, Bool, true, false, cond, ◌&&◌, List, [], ◌∷◌, ◌++◌, length, take, Some, None, Ok, Err, Option, ◌≢◌, slice_index, refl}
use Rattle.std.proofs.Common.{sym, ap, ap₂, ◌∙◌, arith}
use Rattle.keys.specs.declared.refusal.Refusal.TheVariants.{OutOfRange}
use Rattle.keys.specs.declared.class.Class.{Class}
use Rattle.keys.specs.declared.class.Class.TheVariants.{M, W, C, S}
use Rattle.keys.specs.declared.route.Route.{Route}
use Rattle.keys.specs.Classes.{class_number}
use Rattle.keys.specs.Ranges.{is_signal}
use Rattle.keys.specs.Routes.{route_made, route_of}
use Rattle.keys.specs.RoutesLemmas.{route_path}
use Rattle.stored.specs.Numerals.{two, value, all_bytes}
use Rattle.stored.specs.Forms.{in_range, key_got}
use Rattle.stored.specs.Puts.{checked_through}
use Rattle.stored.specs.RouteBytes.{route_form, route_written, route_read, route_in, class_numbered}
use Rattle.stored.specs.HighFirst.{two_read, two_written}

-- a class is the one of its number
pub class_reread : (c : Class) → class_numbered (class_number c) ≡ Some c
class_reread M = refl
class_reread W = refl
class_reread C = refl
class_reread S = refl

-- there is a class of a number, or none
pub class_rewritten : (n : ℕ) (c : Class) → class_numbered n ≡ Some c → class_number c ≡ n
class_rewritten n c h = grind arith

-- a route is the one of its fields
route_in_fields : (k : Route) → route_in k.entry k.exit (Some k.class) ≡ Some k
route_in_fields k =
    let s : is_signal k.entry ≡ true = grind arith in
    let t : is_signal k.exit ≡ true = grind arith in
    rw (s, t) (ap Some (route_path _ k (omega arith) (omega arith) refl))

-- a route that was written is read back
pub route_reread : (k : Route) → route_read (route_written k) ≡ Some k
route_reread k =
    let bytes : all_bytes (k.entry % 256 ∷ k.exit % 256 ∷ []) ≡ true = grind arith in
    rw (bytes, two_read k.entry, two_read k.exit, class_reread k.class) (route_in_fields k)

-- the fields of a route that numbers and a class make
route_in_parts : (m n : ℕ) (c : Option Class) (k : Route) → route_in m n c ≡ Some k → (k.entry ≡ m) × (k.exit ≡ n) × (c ≡ Some k.class)
route_in_parts m n None k h = absurd cc
route_in_parts m n (Some c) k h = go (is_signal m && is_signal n) refl
  where
    made : Route
    made = route_made (record { entry = m; exit = n; class = c })

    go : (b : Bool) → (is_signal m && is_signal n) ≡ b → (k.entry ≡ m) × (k.exit ≡ n) × (Some c ≡ Some k.class)
    go true e =
        let known : Some made ≡ Some k = rw e at h in
        let same : made ≡ k = cc in
        let p : made.entry ≡ m = grind arith in
        let q : made.exit ≡ n = grind arith in
        (ap (λ r. r.entry) (sym same) ∙ p, ap (λ r. r.exit) (sym same) ∙ q, ap (λ r. Some r.class) same)
    go false e = let none : None ≡ Some k = rw e at h in absurd cc

-- bytes that read as a route are those that it writes
pub route_rewritten : (bytes : List ℕ) (k : Route) → route_read bytes ≡ Some k → route_written k ≡ bytes
route_rewritten [] k h = absurd cc
route_rewritten (a ∷ []) k h = absurd cc
route_rewritten (a ∷ b ∷ []) k h = absurd cc
route_rewritten (a ∷ b ∷ c ∷ []) k h = absurd cc
route_rewritten (a ∷ b ∷ c ∷ d ∷ []) k h = absurd cc
route_rewritten (a ∷ b ∷ c ∷ d ∷ e ∷ []) k h = go (all_bytes (b ∷ d ∷ [])) refl
  where
    go : (t : Bool) → all_bytes (b ∷ d ∷ []) ≡ t → route_written k ≡ a ∷ b ∷ c ∷ d ∷ e ∷ []
    go true t =
        let u : route_in (value (a ∷ b ∷ [])) (value (c ∷ d ∷ [])) (class_numbered e) ≡ Some k = rw t at h in
        let p : b < 256 = grind arith in
        let q : d < 256 = grind arith in
        let parts = route_in_parts _ _ _ k u in
        let entry : two k.entry ≡ a ∷ b ∷ [] = ap two parts.0 ∙ two_written a b p in
        let exit : two k.exit ≡ c ∷ d ∷ [] = ap two parts.1 ∙ two_written c d q in
        let class : class_number k.class ≡ e = class_rewritten e k.class parts.2 in
        ap (λ l. l ++ (two k.exit ++ (class_number k.class ∷ []))) entry ∙ ap (λ l. (a ∷ b ∷ []) ++ (l ++ (class_number k.class ∷ []))) exit ∙ ap (λ n. a ∷ b ∷ c ∷ d ∷ n ∷ []) class
    go false t = let u : None ≡ Some k = rw t at h in absurd cc
route_rewritten (a ∷ b ∷ c ∷ d ∷ e ∷ f ∷ rest) k h = absurd cc

-- five bytes with a class are the route of their numbers, if these are signals
pub route_read-class : (a b c d e : ℕ) (class : Class) → b < 256 → d < 256 → class_number class ≡ e → route_of (value (a ∷ b ∷ [])) (value (c ∷ d ∷ [])) class ≡ in_range (route_read (a ∷ b ∷ c ∷ d ∷ e ∷ []))
route_read-class a b c d e class h k same =
    let bytes : all_bytes (b ∷ d ∷ []) ≡ true = grind arith in
    let known : class_numbered e ≡ Some class = ap class_numbered (sym same) ∙ class_reread class in
    rw (bytes, known) (go (value (a ∷ b ∷ [])) (value (c ∷ d ∷ [])))
  where
    go : (m n : ℕ) → route_of m n class ≡ in_range (route_in m n (Some class))
    go m n = by (is_signal m && is_signal n)
      where
        made : Route
        made = route_made (record { entry = m; exit = n; class = class })

        by : (t : Bool) → cond t (Ok made) (Err OutOfRange) ≡ in_range (cond t (Some made) None)
        by true = refl
        by false = refl

-- five bytes without a class are no route
pub route_read-none : (a b c d e : ℕ) → ((class : Class) → class_number class ≢ e) → Err OutOfRange ≡ in_range (route_read (a ∷ b ∷ c ∷ d ∷ e ∷ []))
route_read-none a b c d e h = go (class_numbered e) refl
  where
    go : (o : Option Class) → class_numbered e ≡ o → Err OutOfRange ≡ in_range (route_read (a ∷ b ∷ c ∷ d ∷ e ∷ []))
    go None p = rw p (by (all_bytes (b ∷ d ∷ [])))
      where
        by : (t : Bool) → Err OutOfRange ≡ in_range (cond t (route_in (value (a ∷ b ∷ [])) (value (c ∷ d ∷ [])) None) None)
        by true = refl
        by false = refl
    go (Some class) p = absurd (h class (class_rewritten e class p))

-- the first five bytes of a row, one by one
five_in_front : (row : List ℕ) → 5 ≤ length row → take 5 row ≡ slice_index row 0 ∷ slice_index row 1 ∷ slice_index row 2 ∷ slice_index row 3 ∷ slice_index row 4 ∷ []
five_in_front [] h = absurd (omega arith)
five_in_front (a ∷ []) h = absurd (omega arith)
five_in_front (a ∷ b ∷ []) h = absurd (omega arith)
five_in_front (a ∷ b ∷ c ∷ []) h = absurd (omega arith)
five_in_front (a ∷ b ∷ c ∷ d ∷ []) h = absurd (omega arith)
five_in_front (a ∷ b ∷ c ∷ d ∷ e ∷ rest) h = refl

module _ (row : List ℕ) (long : 5 ≤ length row) where
  got : in_range (route_read (slice_index row 0 ∷ slice_index row 1 ∷ slice_index row 2 ∷ slice_index row 3 ∷ slice_index row 4 ∷ [])) ≡ key_got route_form row
  got = sym (checked_through 5 row (in_range (route_read (take 5 row))) (omega arith) long ∙ ap (λ l. in_range (route_read l)) (five_in_front row long))

  -- getting a route from a row whose fifth byte is a class
  pub route_got-class : (entry exit : ℕ) (class : Class) → slice_index row 1 < 256 → slice_index row 3 < 256 → entry ≡ slice_index row 0 * 256 + slice_index row 1 → exit ≡ slice_index row 2 * 256 + slice_index row 3 → class_number class ≡ slice_index row 4 → route_of entry exit class ≡ key_got route_form row
  route_got-class entry exit class h k p q same =
      let m : entry ≡ value (slice_index row 0 ∷ slice_index row 1 ∷ []) = omega arith in
      let n : exit ≡ value (slice_index row 2 ∷ slice_index row 3 ∷ []) = omega arith in
      ap₂ (λ m n. route_of m n class) m n ∙ route_read-class _ _ _ _ _ class h k same ∙ got

  -- getting one from a row whose fifth byte is none
  pub route_got-none : ((class : Class) → class_number class ≢ slice_index row 4) → Err OutOfRange ≡ key_got route_form row
  route_got-none h = route_read-none (slice_index row 0) (slice_index row 1) (slice_index row 2) (slice_index row 3) (slice_index row 4) h ∙ got
