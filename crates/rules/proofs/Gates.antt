-- A request moves from the gate into the tree, or is finished there: the invariant holds after it. Rests on Descents.
use Rattle.std.proofs.Common.{◌≡◌, ℕ, suc, ◌<◌, ◌≤◌, true, false, eqb, List, [], ◌∷◌, ◌++◌, length, is_some, Some, None, sym, refl, ap, ◌∙◌, subst, inl, inr, ⊎_elim, true≢false, arith}
use Rattle.std.proofs.lemmas.Bool.{cases_eq, ne_eqb}
use Rattle.requests.specs.declared.request.Request.{Request}
use Rattle.requests.specs.declared.request.Request.TheVariants.{Count}
use Rattle.rules.specs.Kinds.{Kinds, Lawful}
use Rattle.rules.specs.Plain.{set_before, weight_of, within}
use Rattle.rules.specs.States.{State, Waiter}
use Rattle.rules.specs.Queues.{numbered, heads, behind}
use Rattle.rules.specs.Changes.{with_queue}
use Rattle.rules.specs.Moves.{moved}
use Rattle.rules.specs.Carries.{sought}
use Rattle.rules.proofs.Trees.{Tree, slot_of, inside, Drawn}
use Rattle.rules.proofs.Goods.{Over, Good}
use Rattle.rules.proofs.Pends.{waiting, pending}
use Rattle.rules.proofs.Puts.{put_other}
use Rattle.rules.proofs.Tames.{Tame, tame_acted, heads_grown}
use Rattle.rules.proofs.Falls.{Stays}
use Rattle.rules.proofs.Holds.{InTurn, Everywhere, Bears, Holds}
use Rattle.rules.proofs.MovedBy.{MovedBy}
use Rattle.rules.proofs.Descents.{heads_first, bears_kept}

module _ {K T : Type 0} (w : Kinds K T) (s : State K T) (x : Tree K T) (time : ℕ) (r : Request K) where
  -- what is to be shown for each request that leaves the gate: of the state and the tree y that then hangs there
  pub record Passes (s' : State K T) (y : Tree K T) : Type 0 where
    pub rooted : s'.slot ≡ slot_of y
    pub drawn : Drawn s'.place s'.queue y
    pub others : (i : ℕ) → inside i y ≡ false → (s'.place i ≡ None) × (0 < i → s'.queue i ≡ [])
    pub over : Over 0 y
    pub queue : s'.queue 0 ≡ behind (s.queue 0)
    pub good : Good w s.requests (Everywhere w s.requests) (suc time) y
    pub answer : waiting time y ≡ false → Bears w s.requests s' time r
    pub waits : (i : ℕ) → (i ≡ time → ⊥) → waiting i y ≡ waiting i x
    pub pends : (i : ℕ) (lo hi : K) → (i ≡ time → ⊥) → pending w s.requests i lo hi (Everywhere w s.requests) y ≡ pending w s.requests i lo hi (Everywhere w s.requests) x
    pub counts : (lo hi : K) → r ≡ Count lo hi → w.joined (s'.counted time) (pending w s.requests time lo hi (Everywhere w s.requests) y) ≡ weight_of w (within w lo hi) (set_before w s.requests time)
    pub stays : Stays time x y

module _ {K T : Type 0} (w : Kinds K T) (l : Lawful w) (s : State K T) (x y : Tree K T) (time : ℕ) (h : Holds w s.requests s x time)
    (e : Waiter) (q : List Waiter) (r : Request K) (line : s.queue 0 ≡ e ∷ q) (num : numbered s.requests e.number ≡ Some r)
    (done : (k : K) → sought r ≡ Some k → is_some (s.decision e.number) ≡ true) (pass : e.number ≡ time → Passes w s x time r (moved w s 0 e r) y) where
  turns : InTurn time (e ∷ q) (suc (length s.requests))
  turns = subst (λ g. InTurn time g (suc (length s.requests))) line h.gate

  first : e.number ≡ time
  first = turns.0

  through : Passes w s x time r (moved w s 0 e r) y
  through = pass first

  asked_now : numbered s.requests time ≡ Some r
  asked_now = ap (numbered s.requests) (sym first) ∙ num

  abbrev s' : State K T
  s' = moved w s 0 e r

  tame : Tame e.number (with_queue s 0 (behind (s.queue 0))) s'
  tame = tame_acted w e.number (with_queue s 0 (behind (s.queue 0))) 0 e.mode r

  away : (i : ℕ) → (i ≡ time → ⊥) → eqb i e.number ≡ false
  away i other = ne_eqb i e.number (λ same. other (same ∙ first))

  decided_now : (k : K) → sought r ≡ Some k → s.decision time ≡ None → ⊥
  decided_now k seeks none = true≢false (sym (done k seeks) ∙ ap is_some (ap s.decision first ∙ none))

  pub passed : Holds w s.requests s' y (suc time)
  passed = record {
    requests = tame.rest.requests;
    rooted = through.rooted;
    drawn = through.drawn;
    others = through.others;
    over = through.over;
    gate = subst (λ g. InTurn (suc time) g (suc (length s.requests))) (sym (through.queue ∙ ap behind line)) turns.1;
    started = omega arith;
    good = through.good;
    decided = λ i r₁ k asked seeks.
        ⊎_elim (λ d. inl (ap (λ f. f i) tame.rest.decision ∙ d))
        (λ d. inr (
          ap (λ f. f i) tame.rest.decision ∙ d.0,
          (let later : (i ≡ time → ⊥) = λ same. decided_now k (ap sought (one r₁ (sym asked_now ∙ ap (numbered s.requests) (sym same) ∙ asked)) ∙ seeks) (ap s.decision (sym same) ∙ d.0) in
              let from = d.1 in above i later from),
        ))
        (h.decided i r₁ k asked seeks);
    unasked = λ i over. ap (λ f. f i) tame.rest.decision ∙ h.unasked i over;
    answers = λ i r₁ asked lt out.
        ⊎_elim
        (λ same. subst (λ j. Bears w s.requests s' j r₁) (sym same) (subst (Bears w s.requests s' time) (one r₁ (sym asked_now ∙ ap (numbered s.requests) (sym same) ∙ asked)) (through.answer (ap (λ j. waiting j y) (sym same) ∙ out))))
        (λ differs. bears_kept w s.requests s s' i r₁ (tame.answers i (away i differs)) (h.answers i r₁ asked (earlier i differs lt) (sym (through.waits i differs) ∙ out)))
        (cases_eq i time);
    counts = λ i lo hi asked lt.
        ⊎_elim
        (λ same. subst (λ j. w.joined (s'.counted j) (pending w s.requests j lo hi (Everywhere w s.requests) y) ≡ weight_of w (within w lo hi) (set_before w s.requests j)) (sym same) (through.counts lo hi (one (Count lo hi) (sym asked_now ∙ ap (numbered s.requests) (sym same) ∙ asked))))
        (λ differs. ap (λ v. w.joined v (pending w s.requests i lo hi (Everywhere w s.requests) y)) (tame.counted i (away i differs)) ∙ ap (w.joined (s.counted i)) (through.pends i lo hi differs) ∙ h.counts i lo hi asked (earlier i differs lt))
        (cases_eq i time);
    uncounted = λ i late. tame.counted i (away i (λ same. omega arith)) ∙ h.uncounted i (omega arith);
    walks = λ n i p noted undone.
        let old = h.walks n i p (sym (ap (λ f. (f n).note) tame.rest.desk) ∙ noted) (sym (ap (λ f. f i) tame.rest.decision) ∙ undone) in
        absurd (decided_now old.key (ap sought (one old.request (sym asked_now ∙ ap (numbered s.requests) (sym old.head) ∙ old.asked)) ∙ old.seeks) (ap s.decision (sym old.head) ∙ (sym (ap (λ f. f i) tame.rest.decision) ∙ undone)));
  }
    where
      one : (r₁ : Request K) → Some r ≡ Some r₁ → r ≡ r₁
      one r₁ same = cc

      above : (i : ℕ) → (i ≡ time → ⊥) → time ≤ i → suc time ≤ i
      above i other from = omega arith

      earlier : (i : ℕ) → (i ≡ time → ⊥) → i < suc time → i < time
      earlier i other lt = omega arith

  pub passed_by : MovedBy s s' x y time (suc time) 0 e.number
  passed_by = record {
    headed = heads_first e q (s.queue 0) line;
    rest = record { capacity = tame.rest.capacity; requests = tame.rest.requests; asker = tame.rest.asker; decision = tame.rest.decision; desk = tame.rest.desk };
    stay = λ i r₁ no on.
        let grown = tame.grown i in
        let same = put_other s.queue 0 (behind (s.queue 0)) i (ne_eqb i 0 no) in
        ap (heads r₁) (grown.1 ∙ ap (λ g. g ++ grown.0) same) ∙ heads_grown r₁ (s.queue i) grown.0 on;
    waits = λ i no. through.waits i (λ same. no (same ∙ sym first));
    down = inr (refl, first, refl, λ i no. through.stays i (λ same. no (same ∙ sym first)));
  }
