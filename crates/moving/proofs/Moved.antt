-- The head of a queue leaves it and acts: what the board then shows. Rests on Freed.
use Rattle.std.proofs.Common.{◌≡◌, ℕ, Bool, true, false, cond, eqb, List, ◌∷◌, is_some, Some, None, Option, unwrap_or, sym, refl, ap, ◌∙◌, subst, arith}
use Rattle.keys.specs.declared.key.Key as key
use Rattle.tallies.specs.declared.tally.Tally as tally
use Rattle.requests.specs.declared.answer.Answer.{Answer}
use Rattle.requests.specs.declared.request.Request.{Request}
use Rattle.rules.specs.Carries.{sought}
use Rattle.rules.specs.Changes.{with_queue, with_answer}
use Rattle.rules.specs.Kinds.{kinds_of}
use Rattle.rules.specs.Moves.{is_present, acted, moved}
use Rattle.rules.specs.Queues.{behind, heads, numbered}
use Rattle.rules.specs.Sound.{Sound}
use Rattle.rules.specs.States.{State, Waiter}
use Rattle.cells.specs.Rosters.{removed}
use Rattle.cells.proofs.Leaving.{roster-rises, removed_head}
use Rattle.cells.proofs.Singles.{waits_row}
use Rattle.board.specs.declared.board.Board.{Board}
use Rattle.board.specs.Of.{board_state, if_given}
use Rattle.moving.specs.Movable.{Passes}
use Rattle.moving.proofs.Freed.{may_pass}
use Rattle.moving.proofs.Kept.{given_then}

module _ {K F T : Type 0} (k : key.Ghosts K F) (t : tally.Ghosts T K F) (b : Board K T F k t) (n p : ℕ) (e : Waiter) (q : List Waiter) (line : (board_state k t b).queue p ≡ e ∷ q) (is : e.number ≡ n)
    (r : Request K) (num : numbered (board_state k t b).requests n ≡ Some r) where
  abbrev s : State K T
  s = board_state k t b

  abbrev pub left : State K T
  left = with_queue s p (behind (s.queue p))

  -- the head has left
  pub has_left : (b1 : Board K T F k t) → board_state k t b1 ≡ if_given (board_state k t b) n (with_queue (board_state k t b) p (removed n ((board_state k t b).queue p))) → board_state k t b1 ≡ left
  has_left b1 went =
      went
      ∙ given_then s n r (with_queue s p (removed n (s.queue p))) num
      ∙ ap (with_queue s p) (removed_head n 0 (s.queue p) (roster-rises 0 p 1 (waits_row b.cells.now b.count) (omega arith)) (ap (heads n) line ∙ (let own : eqb e.number n ≡ true = grind arith in own)))

  num_own : numbered s.requests e.number ≡ Some r
  num_own = ap (numbered s.requests) is ∙ num

  pub still_given : (b1 : Board K T F k t) → board_state k t b1 ≡ left → numbered (board_state k t b1).requests n ≡ Some r
  still_given b1 went = ap (λ (z : State K T). numbered z.requests n) went ∙ num

  pub passes : Sound (board_state k t b) → is_some (sought r) ≡ true → (j : K) (b1 : Board K T F k t) → board_state k t b1 ≡ left → Passes (kinds_of k t) (board_state k t b1) n p j
  passes sound wants j b1 went = subst (λ z. Passes (kinds_of k t) z n p j) (sym went) (subst (λ i. Passes (kinds_of k t) left i p j) is (may_pass (kinds_of k t) s sound p e q line r num_own wants j))

  -- what the head does once it has left is what the rules say of its moving
  pub acts : (request : Request K) → request ≡ r → (s' : State K T) → s' ≡ acted (kinds_of k t) left e.number p e.mode r → s' ≡ moved (kinds_of k t) s p e request
  acts request asked s' did = did ∙ ap (moved (kinds_of k t) s p e) (sym asked)

  -- a decision that is missing counts as absent
  pub present_as : (d : Option Bool) → d ≡ s.decision n → (present : Bool) → unwrap_or d false ≡ present → is_present (s.decision e.number) ≡ present
  present_as d at present told = ap (λ i. is_present (s.decision i)) is ∙ ap is_present (sym at) ∙ go d ∙ told
    where
      go : (o : Option Bool) → is_present o ≡ unwrap_or o false
      go None = refl
      go (Some v) = refl

  pub by_decision : (d : Option Bool) → d ≡ s.decision n → (present : Bool) → unwrap_or d false ≡ present → (s' was not_so : State K T) → s' ≡ cond present was not_so → s' ≡ cond (is_present (s.decision e.number)) was not_so
  by_decision d at present told s' was not_so did = did ∙ ap (λ v. cond v was not_so) (sym (present_as d at present told))

  -- the number is the head's, and the state is that which it left
  pub for_head : (b1 : Board K T F k t) → board_state k t b1 ≡ left → (act : State K T → ℕ → State K T) (s' : State K T) → s' ≡ act (board_state k t b1) n → s' ≡ act left e.number
  for_head b1 went act s' did = did ∙ ap (λ z. act z n) went ∙ ap (act left) (sym is)

  -- the head, having left, bears an answer
  pub answers : (b1 b2 : Board K T F k t) (a : Answer T) → board_state k t b1 ≡ left → board_state k t b2 ≡ if_given (board_state k t b1) n (with_answer (board_state k t b1) n a)
      → board_state k t b2 ≡ with_answer left e.number a
  answers b1 b2 a went told =
      told ∙ given_then (board_state k t b1) n r (with_answer (board_state k t b1) n a) (still_given b1 went)
      ∙ ap (λ z. with_answer z n a) went ∙ ap (λ i. with_answer left i a) (sym is)
