-- What a carry does with the head of a queue, by whether it wants a decision. Assumes nothing.
use Rattle.std.proofs.Common.{◌≡◌, ℕ, zero, suc, Bool, true, cond, eqb, List, [], ◌∷◌, Some, None, Option, sym, refl, ap, ◌∙◌, arith}
use Rattle.requests.specs.declared.request.Request.{Request}
use Rattle.rules.specs.declared.carried.Carried.{Carried}
use Rattle.rules.specs.declared.note.Note.TheVariants as note
use Rattle.rules.specs.Carries.{sought, at_head, at_gate, read_slot, move, carried, saw, late}
use Rattle.rules.specs.Kinds.{Kinds}
use Rattle.rules.specs.Queues.{head_of, numbered}
use Rattle.rules.specs.States.{State, Waiter}
use Rattle.carrying.specs.Notes.{gate_key}

module _ {K T : Type 0} (w : Kinds K T) (s : State K T) (n : ℕ) where
  pub head_decides : (p : ℕ) (e : Waiter) (r : Request K) (k : K) → gate_key p (sought r) (s.decision e.number) ≡ Some k
      → read_slot w s n e.number k s.slot ≡ at_head w s n p e r
  head_decides zero e r k is = go (sought r) (s.decision e.number) is
    where
      go : (o : Option K) (d : Option Bool) → gate_key 0 o d ≡ Some k → read_slot w s n e.number k s.slot ≡ at_gate w s n e r o d
      go None d u = absurd (let z : ◌≡◌ {A = ℕ} 0 1 = cc in omega arith)
      go (Some j) None u = let own : j ≡ k = cc in ap (λ v. read_slot w s n e.number v s.slot) (sym own)
      go (Some j) (Some d) u = absurd (let z : ◌≡◌ {A = ℕ} 0 1 = cc in omega arith)
  head_decides (suc p) e r k is = absurd (let z : ◌≡◌ {A = ℕ} 0 1 = cc in omega arith)

  pub head_moves : (p : ℕ) (e : Waiter) (r : Request K) → gate_key p (sought r) (s.decision e.number) ≡ None → move w s n p e r ≡ at_head w s n p e r
  head_moves zero e r is = go (sought r) (s.decision e.number) is
    where
      go : (o : Option K) (d : Option Bool) → gate_key 0 o d ≡ None → move w s n 0 e r ≡ at_gate w s n e r o d
      go None d u = refl
      go (Some j) None u = absurd (let z : ◌≡◌ {A = ℕ} 0 1 = cc in omega arith)
      go (Some j) (Some d) u = refl
  head_moves (suc p) e r is = refl

  -- a queue with that head
  pub headed : (q : List Waiter) (t : ℕ) → head_of q ≡ Some t → (e : Waiter) × (rest : List Waiter) × (q ≡ e ∷ rest) × (e.number ≡ t)
  headed [] t is = absurd (let z : ◌≡◌ {A = ℕ} 0 1 = cc in omega arith)
  headed (e ∷ rest) t is = (e, rest, refl, (let own : e.number ≡ t = cc in own))

  -- the note's request heads the queue still
  pub seen : (t p : ℕ) (e : Waiter) (rest : List Waiter) (r : Request K) → s.queue p ≡ e ∷ rest → e.number ≡ t → numbered s.requests t ≡ Some r
      → at_head w s n p e r ≡ carried w s n (note.Saw t p)
  seen t p e rest r line is num =
      let own : eqb e.number t ≡ true = grind arith in
      sym (ap (saw w s n t p) line
      ∙ ap (λ v. cond v (elim (numbered s.requests t) as (λ _. Carried × State K T) [ None ↦ late w s n | Some x ↦ at_head w s n p e x ]) (late w s n)) own
      ∙ ap (λ o. elim o as (λ _. Carried × State K T) [ None ↦ late w s n | Some x ↦ at_head w s n p e x ]) num)
