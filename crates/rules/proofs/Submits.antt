-- A request more keeps the invariant. Rests on Keeps.
use Rattle.std.proofs.Common.{◌≡◌, ℕ, suc, ◌≤◌, Bool, true, false, cond, ◌&&◌, eqb, ◌⊎◌, List, [], ◌∷◌, ◌++◌, length, Some, None, Option, sym, refl, ap, ◌∙◌, subst, inl, inr, ⊎_elim, arith, length-append}
use Rattle.std.proofs.lemmas.Bool.{cases_lt, eqb-true, false_from_ne_true, ne_eqb}
use Rattle.requests.specs.declared.request.Request.{Request}
use Rattle.requests.specs.declared.request.Request.TheVariants.{Enter, Withdraw, LookUp, Count}
use Rattle.rules.specs.declared.mode.Mode.{Mode}
use Rattle.rules.specs.declared.mode.Mode.TheVariants.{Between}
use Rattle.rules.specs.Kinds.{Kinds, Lawful, before}
use Rattle.rules.specs.Plain.{has, answered, weight_of, within}
use Rattle.rules.specs.States.{State, Waiter}
use Rattle.rules.specs.Queues.{numbered, given}
use Rattle.rules.specs.Changes.{with_request, with_waiter, with_uncollected}
use Rattle.rules.specs.Moves.{wanted}
use Rattle.rules.specs.Carries.{sought, says, later, last_word}
use Rattle.rules.proofs.Bools.{bool_map}
use Rattle.rules.proofs.Times.{numbered_within, numbered_append}
use Rattle.rules.proofs.Befores.{was, before_append}
use Rattle.rules.proofs.Trees.{Tree, bare, leaf, node, inside}
use Rattle.rules.proofs.Goods.{below, Lined, left_of, right_of, WaiterFits, QueueFits, Good}
use Rattle.rules.proofs.Later.{lined_below}
use Rattle.rules.proofs.Insides.{inside_over}
use Rattle.rules.proofs.Pends.{share, queue_share, pending, OnWay}
use Rattle.rules.proofs.Puts.{put-here, put_other, drawn-put-queue}
use Rattle.rules.proofs.Holds.{InTurn, Everywhere, Bears, Holds}
use Rattle.rules.proofs.Descents.{in_turn_end}

in_turn_append : (lo : ℕ) (q : List Waiter) (hi : ℕ) (m : Mode) → InTurn lo q hi → InTurn lo (q ++ (record { number = hi; mode = m } ∷ [])) (suc hi)
in_turn_append lo [] hi m d = (sym d, ap suc d)
in_turn_append lo (e ∷ q) hi m d = (d.0, in_turn_append (suc lo) q hi m d.1)

module _ {K T : Type 0} (w : Kinds K T) (l : Lawful w) (rs : List (Request K)) (r : Request K) where
  abbrev more : List (Request K)
  more = rs ++ (r ∷ [])

  was_more : (t : ℕ) (k : K) → t ≤ suc (length rs) → was w more t k ≡ was w rs t k
  was_more t k h = ap (λ ks. has w k ks) (before_append w l rs r t h)

  numbered_more : (i : ℕ) (x : Request K) → numbered rs i ≡ Some x → numbered more i ≡ Some x
  numbered_more i x e = let b = numbered_within rs i x e in numbered_append rs r i b.1 ∙ e

  fits_more : (R : K → Bool) (t : ℕ) (m : Mode) (o : Option (Request K)) → numbered rs t ≡ o → t ≤ suc (length rs) → WaiterFits w rs R t m o → WaiterFits w more R t m (numbered more t)
  fits_more R t m None e h f = absurd f
  fits_more R t m (Some (Enter k)) e h f = subst (WaiterFits w more R t m) (sym (numbered_more t (Enter k) e)) (f.0, was_more t k h ∙ f.1)
  fits_more R t m (Some (Withdraw k)) e h f = subst (WaiterFits w more R t m) (sym (numbered_more t (Withdraw k) e)) (f.0, was_more t k h ∙ f.1)
  fits_more R t m (Some (LookUp k)) e h f = absurd f
  fits_more R t m (Some (Count lo hi)) e h f = subst (WaiterFits w more R t m) (sym (numbered_more t (Count lo hi) e)) f

  queue_more : (R : K → Bool) (lo : ℕ) (q : List Waiter) (now : ℕ) → now ≤ suc (length rs) → Lined lo q now → QueueFits w rs R q → QueueFits w more R q
  queue_more R lo [] now h d f = tt
  queue_more R lo (e ∷ q) now h d f =
      let far = lined_below e.number q now d.1 in
      (fits_more R e.number e.mode (numbered rs e.number) refl (omega (arith, far.0, far.1)) f.0, queue_more R e.number q now h d.1 f.1)

  good_more : (R : K → Bool) (now : ℕ) (x : Tree K T) → now ≤ suc (length rs) → Good w rs R now x → Good w more R now x
  good_more R now bare h g = λ k e. was_more now k h ∙ g k e
  good_more R now (leaf j) h g = (g.0, λ k e. was_more now k h ∙ g.1 k e)
  good_more R now (node p s t q a b) h g =
      let far = lined_below p q now g.0.lined in (
        record {
          maker = g.0.maker;
          made = numbered_more p (Enter g.0.maker) g.0.made;
          maker_here = g.0.maker_here;
          split_here = g.0.split_here;
          weighs = g.0.weighs ∙ sym (ap (weight_of w R) (before_append w l rs r now h));
          lined = g.0.lined;
          fits = queue_more R p q now h g.0.lined g.0.fits;
          still = λ i lo hi out k e. was_more (suc i) k (omega arith) ∙ g.0.still i lo hi out k e ∙ sym (was_more i k (omega arith));
        },
        g.1,
        good_more (left_of w R s) (below q now) a (omega (arith, far.1)) g.2,
        good_more (right_of w R s) (below q now) b (omega (arith, far.1)) g.3,
      )

  -- counts and ways see no difference
  queue_share_more : (i : ℕ) (lo hi : K) (R : K → Bool) (q : List Waiter) → i ≤ suc (length rs) → queue_share w more i lo hi R q ≡ queue_share w rs i lo hi R q
  queue_share_more i lo hi R [] h = refl
  queue_share_more i lo hi R (e ∷ q) h =
      let rest = queue_share_more i lo hi R q h in
      ap (λ ks. w.joined (cond (eqb e.number i) (weight_of w (λ k. R k && wanted w lo hi e.mode k) ks) w.none) (queue_share w more i lo hi R q)) (before_append w l rs r i h)
      ∙ ap (w.joined (share w rs i lo hi R e)) rest

  pending_more : (i : ℕ) (lo hi : K) (R : K → Bool) (x : Tree K T) → i ≤ suc (length rs) → pending w more i lo hi R x ≡ pending w rs i lo hi R x
  pending_more i lo hi R bare h = refl
  pending_more i lo hi R (leaf k) h = refl
  pending_more i lo hi R (node p s t q a b) h =
      let here = queue_share_more i lo hi R q h in
      let one = pending_more i lo hi (left_of w R s) a h in
      let two = pending_more i lo hi (right_of w R s) b h in
      cc

  last_word_more : (k : K) (lo : ℕ) (q : List Waiter) (now : ℕ) → now ≤ suc (length rs) → Lined lo q now → last_word w more k q ≡ last_word w rs k q
  last_word_more k lo [] now h d = refl
  last_word_more k lo (e ∷ q) now h d =
      let far = lined_below e.number q now d.1 in
      let rest = last_word_more k e.number q now h d.1 in
      let same : numbered more e.number ≡ numbered rs e.number = numbered_append rs r e.number (omega (arith, far.0, far.1)) in
      ap (λ v. later v (elim (numbered more e.number) [ None ↦ None | Some y ↦ says w k y ])) rest
      ∙ ap (λ o. later (last_word w rs k q) (elim o [ None ↦ None | Some y ↦ says w k y ])) same

  way_more : (k : K) (p : ℕ) (R : K → Bool) (now : ℕ) (x : Tree K T) → now ≤ suc (length rs) → Good w rs R now x → OnWay w rs k p x → OnWay w more k p x
  way_more k p R now bare h g o = o
  way_more k p R now (leaf j) h g o = o
  way_more k p R now (node f s t q a b) h g o =
      let far = lined_below f q now g.0.lined in
      let one = way_more k p (left_of w R s) (below q now) a (omega (arith, far.1)) g.2 in
      let two = way_more k p (right_of w R s) (below q now) b (omega (arith, far.1)) g.3 in
      ⊎_elim inl (λ d. inr (last_word_more k f q now h g.0.lined ∙ d.0, bool_map (before w k s) one two d.1)) o

-- a request is submitted by station n
module _ {K T : Type 0} (w : Kinds K T) (l : Lawful w) (rs : List (Request K)) (x : Tree K T) (time : ℕ) (s : State K T) (h : Holds w rs s x time) (n : ℕ) (r : Request K) where
  abbrev next : ℕ
  next = suc (given s)

  abbrev after_submit : State K T
  after_submit = with_uncollected (with_waiter (with_request s next n r) 0 next Between) n (Some next)

  count_is : given s ≡ length rs
  count_is = ap length h.requests

  longer : length (rs ++ (r ∷ [])) ≡ suc (length rs)
  longer = length-append rs (r ∷ []) ∙ omega arith

  near : time ≤ suc (length rs)
  near = in_turn_end time (s.queue 0) (suc (length rs)) h.gate

  no_gate : inside 0 x ≡ false
  no_gate = false_from_ne_true (inside 0 x) (λ e. let o = inside_over w rs (Everywhere w rs) time x 0 0 h.good h.over e in omega arith)

  -- an older request is as it was
  old : (i : ℕ) (r₁ : Request K) → i ≤ length rs → numbered (rs ++ (r ∷ [])) i ≡ Some r₁ → numbered rs i ≡ Some r₁
  old i r₁ le asked = sym (numbered_append rs r i le) ∙ asked

  bears_more : (i : ℕ) (r₁ : Request K) → i ≤ suc (length rs) → Bears w rs s i r₁ → Bears w (rs ++ (r ∷ [])) after_submit i r₁
  bears_more i (Enter k) le b = b ∙ ap (λ ks. Some (answered w (Enter k) ks)) (sym (before_append w l rs r i le))
  bears_more i (Withdraw k) le b = b ∙ ap (λ ks. Some (answered w (Withdraw k) ks)) (sym (before_append w l rs r i le))
  bears_more i (LookUp k) le b = b ∙ ap (λ ks. Some (answered w (LookUp k) ks)) (sym (before_append w l rs r i le))
  bears_more i (Count lo hi) le b = tt

  decided_more : (i : ℕ) (r₁ : Request K) (k : K) → numbered (rs ++ (r ∷ [])) i ≡ Some r₁ → sought r₁ ≡ Some k → (s.decision i ≡ Some (was w (rs ++ (r ∷ [])) i k)) ⊎ ((s.decision i ≡ None) × (time ≤ i))
  decided_more i r₁ k asked seeks =
      ⊎_elim
      (λ lt. ⊎_elim (λ d. inl (d ∙ ap Some (sym (was_more w l rs r i k (omega arith))))) (λ d. inr d) (h.decided i r₁ k (old i r₁ (omega arith) asked) seeks))
      (λ ge. inr (h.unasked i (omega arith), omega (arith, near)))
      (cases_lt i (suc (length rs)))

  pub submits : Holds w (rs ++ (r ∷ [])) after_submit x time
  submits = record {
    requests = ap (λ v. v ++ (r ∷ [])) h.requests;
    rooted = h.rooted;
    drawn = drawn-put-queue s.place s.queue x 0 _ no_gate h.drawn;
    others = λ i out. ((h.others i out).0, λ z. put_other s.queue 0 _ i (ne_eqb i 0 (λ e. omega arith)) ∙ (h.others i out).1 z);
    over = h.over;
    gate = subst (λ m. InTurn time (after_submit.queue 0) (suc m)) (sym longer) (subst (λ q. InTurn time q (suc (suc (length rs)))) (sym (put-here s.queue 0 _)) (subst (λ m. InTurn time (s.queue 0 ++ (record { number = suc m; mode = Between } ∷ [])) (suc (suc (length rs)))) (sym count_is) (in_turn_append time (s.queue 0) (suc (length rs)) Between h.gate)));
    started = h.started;
    good = good_more w l rs r (Everywhere w rs) time x near h.good;
    decided = decided_more;
    unasked = λ i over. h.unasked i (omega (arith, longer));
    answers = λ i r₁ asked lt out. bears_more i r₁ (omega (arith, near)) (h.answers i r₁ (old i r₁ (omega (arith, near)) asked) lt out);
    counts = λ i lo hi asked lt.
        ap (w.joined (s.counted i)) (pending_more w l rs r i lo hi (Everywhere w rs) x (omega (arith, near)))
        ∙ h.counts i lo hi (old i (Count lo hi) (omega (arith, near)) asked) lt
        ∙ ap (weight_of w (within w lo hi)) (sym (before_append w l rs r i (omega (arith, near))));
    uncounted = h.uncounted;
    walks = λ i t p noted undone.
        let back = h.walks i t p (sym (note_kept i) ∙ noted) undone in
        record { head = back.head; request = back.request; key = back.key; asked = numbered_more w l rs r t back.request back.asked; seeks = back.seeks; way = way_more w l rs r back.key p (Everywhere w rs) time x near h.good back.way };
  }
    where
      note_kept : (i : ℕ) → (after_submit.desk i).note ≡ (s.desk i).note
      note_kept i = go (eqb i n) refl
        where
          go : (b : Bool) → eqb i n ≡ b → (after_submit.desk i).note ≡ (s.desk i).note
          go true e = ap (λ v. (cond v (record { note = (s.desk n).note; uncollected = Some next }) (s.desk i)).note) e ∙ ap (λ j. (s.desk j).note) (sym (eqb-true i n e))
          go false e = ap (λ v. (cond v (record { note = (s.desk n).note; uncollected = Some next }) (s.desk i)).note) e
