-- Every call keeps the narrow counts quiet, so a count with an empty range bears zero after any run.
use Rattle.std.proofs.Common.{◌≡◌, ℕ, zero, suc, Bool, true, false, cond, eqb, List, [], ◌∷◌, ◌++◌, Some, None, Ok, Err, Option, Result, refl, ap, ◌∙◌, subst, ap₂, eqb-true}
use Rattle.keys.specs.declared.refusal.Refusal.{Refusal}
use Rattle.requests.specs.declared.answer.Answer.{Answer}
use Rattle.requests.specs.declared.answer.Answer.TheVariants.{Counted}
use Rattle.requests.specs.declared.request.Request.{Request}
use Rattle.requests.specs.declared.request.Request.TheVariants.{Count}
use Rattle.rules.specs.declared.mode.Mode.TheVariants.{Between}
use Rattle.rules.specs.declared.note.Note.{Note}
use Rattle.rules.specs.declared.note.Note.TheVariants as note
use Rattle.rules.specs.Kinds.{Kinds, Lawful}
use Rattle.rules.specs.States.{State, Slot, Waiter, empty, holds, leads, opening}
use Rattle.rules.specs.Queues.{given, numbered, behind, finished, bears, final_answer}
use Rattle.rules.specs.Changes.{with_queue, with_uncollected}
use Rattle.rules.specs.Moves.{moved, slot_for}
use Rattle.rules.specs.Carries.{sought, read_slot, at_gate, at_head, saw, look, walk, last_word, carried, late}
use Rattle.rules.specs.Calls.{Call, submit, follow, carry, collect, state_by, submit_refusal, follow_refusal, carry_refusal, collect_answer, after, after_all, run}
use Rattle.edges.specs.Cases.{EmptyRangeCountsZero}
use Rattle.edges.proofs.Room.{taken}
use Rattle.edges.proofs.TwoKeys.{not_true}
use Rattle.edges.proofs.Quiet.{Betweens, Quiet, Narrow, Still, waiter_still, behind_still}
use Rattle.edges.proofs.QuietMoves.{acted_still}

-- a request keeps its number when others come behind it
numbered_front : {X : Type 0} (xs ys : List X) (t : ℕ) (x : X) → numbered xs t ≡ Some x → numbered (xs ++ ys) t ≡ Some x
numbered_front [] ys t x e = absurd cc
numbered_front (a ∷ xs) ys zero x e = absurd cc
numbered_front (a ∷ xs) ys (suc zero) x e = e
numbered_front (a ∷ xs) ys (suc (suc t)) x e = numbered_front xs ys (suc t) x e

module _ {K T : Type 0} (w : Kinds K T) (law : Lawful w) where
  -- the narrow counts among a state's own requests are quiet
  abbrev Calm : State K T → Type 0
  Calm s = (t : ℕ) → Narrow w s.requests t → Quiet w s t

  calm_by : (s x : State K T) → Still w s.requests x → Calm x
  calm_by s x i t n = i.1 t (subst (λ rs. Narrow w rs t) i.0 n)

  refused_or : (o : Option Refusal) (old new : State K T) → Calm old → Calm new → Calm (state_by o old new)
  refused_or None old new i j = j
  refused_or (Some e) old new i j = i

  module _ (s : State K T) (n : ℕ) (i : Calm s) where
    still : Still w s.requests s
    still = (refl, i)

    taken_calm : (r : Request K) → Calm (taken s n r)
    taken_calm r t narrow =
        (waiter_still w s.requests s 0 (suc (given s)) Between (λ _. refl) still).1 t
        (λ lo hi e. narrow lo hi (numbered_front s.requests (r ∷ []) t (Count lo hi) e))

    -- the head of a queue is moved
    move_still : (p : ℕ) (e : Waiter) (q : List Waiter) (r : Request K) → s.queue p ≡ e ∷ q → numbered s.requests e.number ≡ Some r
        → Still w s.requests (moved w s p e r)
    move_still p e q r at_p is-r =
        acted_still w law s.requests (with_queue s p (behind (s.queue p))) e.number p e.mode r is-r
        (λ narrow. (subst (Betweens e.number) at_p ((i e.number narrow).1 p)).0 refl)
        (behind_still w s.requests s p still)

    read_still : (t : ℕ) (k : K) (x : Slot K) → Still w s.requests (read_slot w s n t k x).1
    read_still t k empty = still
    read_still t k (holds j) = still
    read_still t k (leads f) = still

    gate_still : (e : Waiter) (r : Request K) (k : Option K) (d : Option Bool) → Still w s.requests (moved w s 0 e r)
        → Still w s.requests (at_gate w s n e r k d).1
    gate_still e r None d m = m
    gate_still e r (Some k) (Some d) m = m
    gate_still e r (Some k) None m = read_still e.number k s.slot

    head_still : (p : ℕ) (e : Waiter) (r : Request K) → Still w s.requests (moved w s p e r) → Still w s.requests (at_head w s n p e r).1
    head_still zero e r m = gate_still e r (sought r) (s.decision e.number) m
    head_still (suc p) e r m = m

    saw_still : (t p : ℕ) (q : List Waiter) → s.queue p ≡ q → Still w s.requests (saw w s n t p q).1
    saw_still t p [] at_p = still
    saw_still t p (e ∷ q) at_p = go (eqb e.number t) refl (numbered s.requests t) refl
      where
        go : (b : Bool) → eqb e.number t ≡ b → (o : Option (Request K)) → numbered s.requests t ≡ o
            → Still w s.requests (cond b (elim o [ None ↦ late w s n | Some r ↦ at_head w s n p e r ]) (late w s n)).1
        go false eq o is-o = still
        go true eq None is-o = still
        go true eq (Some r) is-o =
            head_still p e r (move_still p e q r at_p (ap (numbered s.requests) (eqb-true e.number t eq) ∙ is-o))

    look_still : (t p : ℕ) (k : K) (d : Option Bool) → Still w s.requests (look w s n t p k d).1
    look_still t p k (Some d) = still
    look_still t p k None = read_still t k (slot_for w s p k)

    walk_still : (t p : ℕ) (d : Option Bool) (k : Option K) → Still w s.requests (walk w s n t p d k).1
    walk_still t p (Some d) k = still
    walk_still t p None None = still
    walk_still t p None (Some k) = look_still t p k (last_word w s.requests k (s.queue p))

    carried_still : (x : Note) → Still w s.requests (carried w s n x).1
    carried_still note.None = still
    carried_still (note.Saw t p) = saw_still t p (s.queue p) refl
    carried_still (note.Walk t p) = walk_still t p (s.decision t) (elim (numbered s.requests t) [ None ↦ None | Some r ↦ sought r ])

    collected_calm : (a : Result (ℕ × Answer T) Refusal) → Calm (elim a [ Ok x ↦ with_uncollected s n None | Err e ↦ s ])
    collected_calm (Ok x) = i
    collected_calm (Err e) = i

  call_calm : (s : State K T) (c : Call K) → Calm s → Calm (after w s c)
  call_calm s (submit n r) i = refused_or (submit_refusal w s n) s (taken s n r) i (taken_calm s n i r)
  call_calm s (follow n t) i = refused_or (follow_refusal w s n t) s _ i i
  call_calm s (carry n) i =
      let new = (carried w s n (s.desk n).note).1 in
      refused_or (carry_refusal w s n) s new i (calm_by s new (carried_still s n i (s.desk n).note))
  call_calm s (collect n) i = collected_calm s n i (collect_answer w s n)

  calls_calm : (s : State K T) (cs : List (Call K)) → Calm s → Calm (after_all w s cs)
  calls_calm s [] i = i
  calls_calm s (c ∷ cs) i = calls_calm (after w s c) cs (call_calm s c i)

  opening_calm : (cells : ℕ) → Calm (opening w cells)
  opening_calm cells t n = (refl, λ p. tt)

  -- a finished count bears its tally
  bears-tally : (s : State K T) (t : ℕ) (lo hi : K) → numbered s.requests t ≡ Some (Count lo hi) → finished s t ≡ true
      → final_answer s t ≡ Some (Counted (s.counted t))
  bears-tally s t lo hi e f =
      ap₂ (λ (b : Bool) (o : Option (Request K)). cond b (elim o as (λ _. Option (Answer T)) [ None ↦ None | Some r ↦ bears s t r ]) None) f e

  only_narrow : (rs : List (Request K)) (t : ℕ) (lo hi : K) → numbered rs t ≡ Some (Count lo hi) → w.le lo hi ≡ false → Narrow w rs t
  only_narrow rs t lo hi e f lo' hi' e' =
      let p : lo' ≡ lo = cc in
      let q : hi' ≡ hi = cc in
      ap₂ w.le p q ∙ f

  pub empty_range_counts_zero : EmptyRangeCountsZero w
  empty_range_counts_zero cells cs t lo hi e reversed ends =
      let s = run w cells cs in
      let narrow = only_narrow s.requests t lo hi e (not_true (w.le lo hi) reversed) in
      bears-tally s t lo hi e ends ∙ ap (λ x. Some (Counted x)) (calls_calm (opening w cells) cs (opening_calm cells) t narrow).0
