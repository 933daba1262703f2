-- The fold goes on while there is room, so that it ends with the number of keys or stands at one too many.
use Rattle.std.proofs.Common.{◌≡◌, ℕ, ◌+◌, ◌<◌, ◌≤◌, cond, List, [], ◌∷◌, length, Ok, Err, Result, Some, None, Option, Continue, Break, sym, refl, ap, ◌∙◌, subst, rules, arith, ⊎_elim}
use denote.Param.Members.{Mut}
use Rattle.std.specs.declared.ops.ControlFlow.{ControlFlow}
use Rattle.std.specs.Fn.{Called}
use Rattle.std.specs.List.{FoldsTo}
use Rattle.std.specs.Option.{MatchOption}
use Rattle.std.specs.Result.{result_from_control_flow, IsErr, IsErrAnd}
use Rattle.std.specs.Iterator.{YieldsThen, TryFoldTurn, TryFoldsItems}
use Rattle.std.proofs.lemmas.Bool.{lt-ltb, le-ltb, cases_lt}
use Rattle.std.proofs.lemmas.Iterator.{YieldsList}
use Rattle.std.proofs.lemmas.Iterator.Consumers.{YieldsList-from_first, YieldsList-turn, YieldsList-end}
use Rattle.keys.specs.declared.refusal.Refusal.{Refusal}
use Rattle.keys.specs.declared.refusal.Refusal.TheVariants.{TooShort}
use Rattle.reading.specs.Slots.{firsts_left}
use Rattle.reading.specs.Walks.{firsts_under}
use Rattle.reading.specs.Promises.{counted_within, next_count}
use Rattle.reading.proofs.keys_off.count_within.Goals as goal

goes_on : (room a b : ℕ) → Ok b ≡ next_count room a → (a < room) × (b ≡ a + 1)
goes_on room a b e = ⊎_elim
    (λ h. let k : ◌≡◌ {A = Result ℕ Refusal} (Ok b) (Ok (a + 1)) = e ∙ ap (λ t. cond t (Ok (a + 1)) (Err TooShort)) (lt-ltb a room h) in (h, cc))
    (λ h. let k : ◌≡◌ {A = Result ℕ Refusal} (Ok b) (Err TooShort) = e ∙ ap (λ t. cond t (Ok (a + 1)) (Err TooShort)) (le-ltb a room h) in let z : ◌≡◌ {A = ℕ} 0 1 = cc in absurd (omega arith))
    (cases_lt a room)

stops : (room a : ℕ) (x : Refusal) → Err x ≡ next_count room a → (room ≤ a) × (x ≡ TooShort)
stops room a x e = ⊎_elim
    (λ h. let k : ◌≡◌ {A = Result ℕ Refusal} (Err x) (Ok (a + 1)) = e ∙ ap (λ t. cond t (Ok (a + 1)) (Err TooShort)) (lt-ltb a room h) in let z : ◌≡◌ {A = ℕ} 0 1 = cc in absurd (omega arith))
    (λ h. let k : ◌≡◌ {A = Result ℕ Refusal} (Err x) (Err TooShort) = e ∙ ap (λ t. cond t (Ok (a + 1)) (Err TooShort)) (le-ltb a room h) in (h, cc))
    (cases_lt a room)

-- what a refused fold hands on, read by `err`
module _ {E : Type 0} (back : ControlFlow E ℕ → Result ℕ Refusal) (err : E → Refusal) (on : (b : ℕ) → back (Continue b) ≡ Ok b) (off : (e : E) → back (Break e) ≡ Err (err e)) where
  abbrev branches : Result ℕ Refusal → ControlFlow E ℕ → Type 0
  branches = λ s r. s ≡ back r

  abbrev resumes : E → Result ℕ Refusal → Type 0
  resumes = λ e r. IsErr r × IsErrAnd r (λ y. y ≡ err e)

  refused : (x : E) (r : Result ℕ Refusal) → resumes x r → err x ≡ TooShort → r ≡ Err TooShort
  refused x (Ok n) h e = absurd h.1
  refused x (Err y) h e = ap Err (h.1 ∙ e)

  module _ {A F : Type 0} (g : Mut F (ℕ × (A × Unit {0})) (Result ℕ Refusal)) (f : F) (room : ℕ)
      (k : (a : ℕ) (x : A) (v : Result ℕ Refusal) (q : F) → Called g f (a, (x, tt)) v q → (q ≡ f) × (v ≡ next_count room a)) where
    passed : (xs : List A) (p q : F × ℕ) → p.0 ≡ f → p.1 ≤ room → FoldsTo {P = F × ℕ} (TryFoldTurn g branches) p xs q → (q.0 ≡ f) × (q.1 ≡ p.1 + length xs) × (q.1 ≤ room)
    passed [] p q e l c = let n : p.1 ≡ q.1 = ap (λ w. w.1) c in (ap (λ w. w.0) (sym c) ∙ e, omega arith, omega arith)
    passed (x ∷ xs) p q e l c =
        let t = k p.1 x c.1.0 c.0.0 (subst (λ z. Called g z (p.1, (x, tt)) c.1.0 c.0.0) e c.1.1) in
        let s = goes_on room p.1 c.0.1 (sym (on c.0.1) ∙ sym c.1.2 ∙ t.1) in
        let r = passed xs c.0 q t.0 (omega (arith, s.0, s.1)) c.2 in
        (r.0, omega (arith, r.1, s.1), r.2)

    module _ {S : Type 0} {steps : S → Option A → S → Type 0} (s : S) (all : List A) (road : YieldsList steps (λ x. x) s all) (r : Result ℕ Refusal) (u : S) where
      ended : (xs : List A) (o : Option A) (f' : F) (a : ℕ) → YieldsThen steps s xs o u → f' ≡ f → a ≡ length xs → a ≤ room
          → MatchOption o (branches r (Continue a)) (λ x. (v : Result ℕ Refusal) × (h : F) × (e : E) × Called g f' (a, (x, tt)) v h × branches v (Break e) × resumes e r)
          → r ≡ counted_within room (length all)
      ended xs None f' a y same n most c =
          let z = YieldsList-end road xs y.0 y.1 None u refl y.2 in
          let m : a ≡ length all = n ∙ z.1 in
          c ∙ on a ∙ ap Ok m ∙ ap (λ b. cond b (Err TooShort) (Ok (length all))) (sym (le-ltb room (length all) (omega arith)))
      ended xs (Some x) f' a y same n most c =
          let z = YieldsList-turn road xs y.0 y.1 (Some x) u x refl y.2 in
          let t = k a x c.0 c.1 (subst (λ w. Called g w (a, (x, tt)) c.0 c.1) same c.3) in
          let w = stops room a (err c.2) (sym (off c.2) ∙ sym c.4 ∙ t.1) in
          refused c.2 r c.5 w.1 ∙ ap (λ b. cond b (Err TooShort) (Ok (length all))) (sym (lt-ltb room (length all) (omega (arith, w.0, z.0))))

      pub counted : TryFoldsItems steps g branches resumes s f 0 r u → r ≡ counted_within room (length all)
      counted h =
          let p = passed h.0 (f, 0) (h.2, h.3) refl (omega arith) h.5 in
          let n : h.3 ≡ length h.0 = omega (arith, p.1) in
          ended h.0 h.1 h.2 h.3 h.4 p.0 n p.2 h.6

pub returns : goal.returns
returns g c =
    let all = firsts_under c.args.live.now c.args.gate in
    counted result_from_control_flow (λ e. e.0) (λ b. refl) (λ e. refl) _ _ c.args.room (λ a x v q h. search rules) c.new.result all (YieldsList-from_first (λ x. x) firsts_left all c.new.ensures.firsts) c.try_fold.result c.try_fold.new.self c.try_fold.ensures.ran
