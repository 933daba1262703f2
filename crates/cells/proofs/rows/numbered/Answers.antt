-- The entry one before its number.
use Rattle.std.proofs.Common.{◌≡◌, ℕ, suc, List, length, ltb, get_or, is_some, Some, None, Option, Bor, sym, ap, ◌∙◌, arith}
use Rattle.std.specs.Option.{option_map, IfSome}
use Rattle.std.specs.Prelude.{slice_get}
use Rattle.std.proofs.lemmas.Bool.{ltb-true, ltb-false}
use Rattle.std.proofs.lemmas.Option.{slice_get_past, slice_get-get_or}
use Rattle.rules.specs.Queues.{numbered}
use Rattle.cells.proofs.Numbers.{numbered_zero, numbered-get}
use Rattle.cells.proofs.rows.numbered.Goals as goal

looked_up : {X : Type 0} (xs : List X) (i : ℕ) (o : Option (Bor X)) → is_some o ≡ ltb i (length xs) → IfSome o (λ x. x.now ≡ get_or xs i x.now) → option_map (λ x. x.now) o ≡ slice_get xs i
looked_up xs i None e h = sym (slice_get_past xs i (ltb-false i (length xs) (sym e)))
looked_up xs i (Some x) e h = ap Some h ∙ sym (slice_get-get_or xs i x.now (ltb-true i (length xs) (sym e)))

pub returns-in_err-checked_sub : goal.returns-in_err-checked_sub
returns-in_err-checked_sub g c =
    let h = c.in_err-checked_sub.ensures in
    let none : c.args.number ≡ 0 = grind (arith, h, c.from.ensures) in
    ap (option_map (λ x. x.now)) c.from_residual.ensures ∙ sym (ap (numbered c.args.row.now) none ∙ numbered_zero c.args.row.now)

pub returns : goal.returns
returns g c =
    let row = c.args.row.now in
    let before = c.in_ok-checked_sub.ensures in
    let one : suc c.in_ok-checked_sub.field-0 ≡ c.args.number = omega (arith, before, c.from.ensures) in
    looked_up row c.in_ok-checked_sub.field-0 c.get.result c.get.ensures.lookup.0 c.get.ensures.lookup.1 ∙ sym (numbered-get row c.in_ok-checked_sub.field-0) ∙ ap (numbered row) one
