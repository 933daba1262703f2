-- The board with a request more shows the state with it. Rests on Boards and Named.
use Rattle.std.proofs.Common.{◌≡◌, ℕ, suc, ◌+◌, ◌-◌, ◌<◌, [], ◌∷◌, ◌++◌, length, get_or, take, set, Some, sym, refl, ap, ◌∙◌, subst, add-one, arith}
use Rattle.std.proofs.lemmas.List.{take_more_set}
use Rattle.keys.specs.declared.key.Key as key
use Rattle.tallies.specs.declared.tally.Tally as tally
use Rattle.requests.specs.declared.request.Request.{Request}
use Rattle.requests.specs.declared.request.Request.TheVariants.{Enter, Withdraw, LookUp, Count}
use Rattle.requests.specs.declared.station.Station.{Station}
use Rattle.rules.specs.declared.mode.Mode.TheVariants.{Between}
use Rattle.rules.specs.Changes.{with_request, with_waiter, with_uncollected}
use Rattle.rules.specs.States.{State}
use Rattle.cells.specs.declared.cell.Cell.{Cell}
use Rattle.cells.specs.declared.desk.Desk.{Desk}
use Rattle.cells.specs.Names.{SlotNamed, CellsNamed, CellNamed}
use Rattle.cells.specs.Views.{request_in, state_shown}
use Rattle.cells.proofs.Submitted.{NextCell, shown-submit}
use Rattle.board.specs.declared.board.Board.{Board}
use Rattle.board.specs.Cells.{live}
use Rattle.board.specs.Of.{board_state}
use Rattle.board.specs.Taken.{fresh_cell, taken}
use Rattle.board.proofs.Named.{cells-named_more}
use Rattle.board.proofs.Parts.{numbered_get}
use Rattle.board.proofs.Places.{given-count}

module _ {K F T : Type 0} (k : key.Ghosts K F) (t : tally.Ghosts T K F) where
  -- with the number written out
  abbrev taken_as : State K T → ℕ → ℕ → Request K → State K T
  taken_as s number n r = with_uncollected (with_waiter (with_request s number n r) 0 number Between) n (Some number)

  fresh_request : ((a : K) → k.made (k.parts a) ≡ a) → (n : ℕ) (r : Request K) → request_in k t (fresh_cell k t n r) ≡ r
  fresh_request again n (Enter v) = ap Enter (again v)
  fresh_request again n (Withdraw v) = ap Withdraw (again v)
  fresh_request again n (LookUp v) = ap LookUp (again v)
  fresh_request again n (Count lo hi) = ap (λ v. Count v (k.made (k.parts hi))) (again lo) ∙ ap (Count lo) (again hi)

  fresh_next : ((a : K) → k.made (k.parts a) ≡ a) → (n : ℕ) (r : Request K) → NextCell k t n r (fresh_cell k t n r)
  fresh_next again n r = record { station = refl; request = fresh_request again n r; decision = refl; outcome = refl; counted = refl; waits = refl; made = refl }

  module _ (b : Board K T F k t) (room : b.count < length b.cells.now) (again : (a : K) → k.made (k.parts a) ≡ a)
      (gate : SlotNamed b.count b.gate) (all : CellsNamed b.count (live b)) where
    pub taken_state : (n : Station) (r : Request K) (d : Desk) → n.number - 1 < length b.desks
        → state_shown k t (set b.cells.now b.count (fresh_cell k t n.number r)) (b.count + 1) b.gate (set b.desks (n.number - 1) (record { note = (get_or b.desks (n.number - 1) d).note; uncollected = Some (b.count + 1) }))
        ≡ taken (board_state k t b) n.number r
    taken_state n r d m =
        let one : suc (n.number - 1) ≡ n.number = omega (arith, n.known.0) in
        ap (λ v. state_shown k t (set b.cells.now b.count (fresh_cell k t n.number r)) v b.gate (set b.desks (n.number - 1) (record { note = (get_or b.desks (n.number - 1) d).note; uncollected = Some v }))) (add-one b.count)
        ∙ shown-submit k t b.cells.now b.count b.gate b.desks (n.number - 1) r (fresh_cell k t n.number r) (get_or b.desks (n.number - 1) d) room m (numbered_get b.desks (n.number - 1) d m) (subst (λ i. NextCell k t i r (fresh_cell k t n.number r)) (sym one) (fresh_next again n.number r)) gate all
        ∙ ap (λ i. taken_as (board_state k t b) (suc b.count) i r) one
        ∙ ap (λ v. taken_as (board_state k t b) (suc v) n.number r) (sym (given-count k t b (omega arith)))

  -- the cells still name only requests that were submitted
  pub taken-named : (b : Board K T F k t) → b.count < length b.cells.now → (c : Cell F T) → CellNamed (suc b.count) c → CellsNamed b.count (live b)
      → CellsNamed (b.count + 1) (take (b.count + 1) (set b.cells.now b.count c))
  taken-named b room c m all =
      subst (CellsNamed (b.count + 1)) (sym (take_more_set b.cells.now b.count c room))
      (subst (λ v. CellsNamed v (live b ++ (c ∷ []))) (sym (add-one b.count)) (cells-named_more b.count (live b) c all m))
