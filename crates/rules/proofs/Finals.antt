-- Finished requests: where they do not wait, and the answers that they bear. Rests on Holds and Unmade.
use Rattle.std.proofs.Common.{◌≡◌, ℕ, zero, suc, ◌<◌, ◌≤◌, Bool, true, false, cond, not, ◌||◌, eqb, ◌⊎◌, List, [], ◌∷◌, is_some, Some, None, Option, sym, refl, ap, ◌∙◌, inl, inr, ⊎_elim, true≢false, arith}
use Rattle.std.proofs.lemmas.Bool.{cases_lt, cases_eq, false_from_ne_true, or_left, or_right}
use Rattle.requests.specs.declared.answer.Answer.TheVariants.{Counted}
use Rattle.requests.specs.declared.request.Request.{Request}
use Rattle.requests.specs.declared.request.Request.TheVariants.{Enter, Withdraw, LookUp, Count}
use Rattle.rules.specs.Kinds.{Kinds, Lawful}
use Rattle.rules.specs.Plain.{answered, set_before}
use Rattle.rules.specs.States.{State, Place, Waiter}
use Rattle.rules.specs.Queues.{numbered, lowest, stands, given, waits, finished, bears}
use Rattle.rules.specs.Laws.{AnswersArePlain}
use Rattle.rules.proofs.Weights.{neutral-right}
use Rattle.rules.proofs.Times.{numbered_within}
use Rattle.rules.proofs.Trees.{Tree, bare, leaf, node, inside, Drawn}
use Rattle.rules.proofs.Insides.{inside_maker}
use Rattle.rules.proofs.Pends.{waiting}
use Rattle.rules.proofs.Unmade.{waiting_cases}
use Rattle.rules.proofs.Passing.{pending_none}
use Rattle.rules.proofs.Holds.{InTurn, Everywhere, Holds}

-- one more number to try
next_lowest : (o : Option ℕ) (b : ℕ) (c : Bool) → (is_some o ≡ true) ⊎ (c ≡ true) → is_some (elim o [ Some p ↦ Some p | None ↦ cond c (Some b) None ]) ≡ true
next_lowest None b true h = refl
next_lowest None b false h = ⊎_elim (λ e. e) (λ e. e) h
next_lowest (Some p) b c h = refl

-- where a number passes, there is a lowest one
pub lowest_finds : (test : ℕ → Bool) (b p : ℕ) → p < b → test p ≡ true → is_some (lowest test b) ≡ true
lowest_finds test zero p h e = absurd (omega arith)
lowest_finds test (suc b) p h e =
    next_lowest (lowest test b) b (test b)
    (⊎_elim (λ lt. inl (lowest_finds test b p lt e)) (λ ge. let same : p ≡ b = omega arith in inr (ap test (sym same) ∙ e)) (cases_lt p b))

-- who is in turn stands in the queue
pub in_turn-stands : (lo : ℕ) (q : List Waiter) (hi i : ℕ) → InTurn lo q hi → lo ≤ i → i < hi → stands i q ≡ true
in_turn-stands lo [] hi i d h k = absurd (omega arith)
in_turn-stands lo (e ∷ q) hi i d h k =
    ⊎_elim
    (λ same. or_left (eqb e.number i) (stands i q) (equal e.number i (d.0 ∙ sym same)))
    (λ other. or_right (eqb e.number i) (stands i q) (in_turn-stands (suc lo) q hi i d.1 (omega arith) k))
    (cases_eq i lo)
  where
    equal : (a b : ℕ) → a ≡ b → eqb a b ≡ true
    equal a b same = grind arith

-- who waits in the tree stands in the queue of one of its places
pub waiting_where : {K T : Type 0} (place : ℕ → Option (Place K T)) (queue : ℕ → List Waiter) (x : Tree K T) (i : ℕ) → Drawn place queue x → waiting i x ≡ true → (p : ℕ) × (inside p x ≡ true) × (stands i (queue p) ≡ true)
waiting_where pl qu bare i d e = absurd (true≢false (sym e))
waiting_where pl qu (leaf k) i d e = absurd (true≢false (sym e))
waiting_where pl qu (node p s t q a b) i d e =
    let one = waiting_where pl qu a i d.2 in
    let two = waiting_where pl qu b i d.3 in
    waiting_cases i p s t q a b e
    (λ h. (p, or_left (eqb p p) (inside p a || inside p b) (self p), ap (stands i) d.1 ∙ h))
    (λ h. let f = one h in (f.0, or_right (eqb f.0 p) (inside f.0 a || inside f.0 b) (or_left (inside f.0 a) (inside f.0 b) f.1), f.2))
    (λ h. let f = two h in (f.0, or_right (eqb f.0 p) (inside f.0 a || inside f.0 b) (or_right (inside f.0 a) (inside f.0 b) f.1), f.2))
  where
    self : (j : ℕ) → eqb j j ≡ true
    self j = grind arith

module _ {K T : Type 0} (w : Kinds K T) (l : Lawful w) (s : State K T) (x : Tree K T) (time : ℕ) (h : Holds w s.requests s x time) where
  -- a request that waits somewhere is not finished
  unfinished : (t p : ℕ) → p < suc (given s) → waits s t p ≡ true → finished s t ≡ false
  unfinished t p le e = ap not (lowest_finds (waits s t) (suc (given s)) p le e)

  -- a finished request has passed the gate and waits nowhere in the tree
  pub finished_out : (t : ℕ) → t ≤ given s → finished s t ≡ true → (t < time) × (waiting t x ≡ false)
  finished_out t le done = (
    ⊎_elim (λ lt. lt) (λ ge. absurd (true≢false (sym done ∙ unfinished t 0 (omega arith) (in_turn-stands time (s.queue 0) (suc (given s)) t h.gate ge (omega arith))))) (cases_lt t time),
    false_from_ne_true (waiting t x) (λ e.
        let at = waiting_where s.place s.queue x t h.drawn e in
        let made = inside_maker w s.requests (Everywhere w s.requests) time x at.0 h.good at.1 in
        let known = numbered_within s.requests at.0 (Enter made.0) made.1 in
        true≢false (sym done ∙ unfinished t at.0 (omega (arith, known.1)) at.2)),
  )

  -- so it bears the plain set's answer
  borne : (t : ℕ) (r : Request K) → numbered s.requests t ≡ Some r → t < time → waiting t x ≡ false → bears s t r ≡ Some (answered w r (set_before w s.requests t))
  borne t (Enter k) num lt out = h.answers t (Enter k) num lt out
  borne t (Withdraw k) num lt out = h.answers t (Withdraw k) num lt out
  borne t (LookUp k) num lt out = h.answers t (LookUp k) num lt out
  borne t (Count lo hi) num lt out =
      let sum = h.counts t lo hi num lt in
      let none = pending_none w l s.requests t lo hi (Everywhere w s.requests) x out in
      ap (λ v. Some (Counted v)) (sym (neutral-right w l (s.counted t)) ∙ ap (w.joined (s.counted t)) (sym none) ∙ sum)

  pub answers-plain : AnswersArePlain w s
  answers-plain t r num done =
      let known = numbered_within s.requests t r num in
      let out = finished_out t known.1 done in
      ap (λ v. cond v (elim (numbered s.requests t) [ None ↦ None | Some r ↦ bears s t r ]) None) done
      ∙ ap (λ o. elim o [ None ↦ None | Some r ↦ bears s t r ]) num
      ∙ borne t r num out.0 out.1
