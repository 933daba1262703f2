-- With the rules' own ways and step, the registers of specs/Ways are the rules.
use Rattle.std.proofs.Common.{◌≡◌, ℕ, zero, suc, Bool, true, false, cond, eqb, List, [], ◌∷◌, Some, None, Option, sym, refl, ap, ◌∙◌, eqb-true}
use Rattle.requests.specs.declared.request.Request.{Request}
use Rattle.rules.specs.declared.carried.Carried.{Carried}
use Rattle.rules.specs.declared.note.Note.{Note}
use Rattle.rules.specs.declared.note.Note.TheVariants as note
use Rattle.rules.specs.Kinds.{Kinds}
use Rattle.rules.specs.States.{State, Waiter}
use Rattle.rules.specs.Queues.{numbered, behind, finished}
use Rattle.rules.specs.Carries.{sought, late, at_gate, at_head, saw, walk, carried}
use Rattle.rules.specs.Calls.{Call, submit, follow, carry, collect, state_by, carry_refusal, after, after_all}
use Rattle.rules.specs.Laws.{Serves}
use Rattle.edges.specs.Ways.{rules_ways, if_noted, at_gate_by, at_head_by, saw_by, walk_by, carried_by, steps, ServesIn, RulesByTheirWays, ServiceByTheRules}

module _ {K T : Type 0} (w : Kinds K T) where
  module _ (s : State K T) (n : ℕ) where
    gate_same : (e : Waiter) (r : Request K) (k : Option K) (d : Option Bool)
        → at_gate_by w (rules_ways w) s n e (behind (s.queue 0)) r k d ≡ at_gate w s n e r k d
    gate_same e r None d = refl
    gate_same e r (Some k) (Some d) = refl
    gate_same e r (Some k) None = refl

    head_same : (p : ℕ) (e : Waiter) (r : Request K)
        → at_head_by w (rules_ways w) s n p e (behind (s.queue p)) r ≡ at_head w s n p e r
    head_same zero e r = gate_same e r (sought r) (s.decision e.number)
    head_same (suc p) e r = refl

    asked_same : (p : ℕ) (e : Waiter) (q : List Waiter) (o : Option (Request K)) → behind (s.queue p) ≡ q
        → elim o as (λ _. Carried × State K T) [ None ↦ late w s n | Some r ↦ at_head_by w (rules_ways w) s n p e q r ]
        ≡ elim o as (λ _. Carried × State K T) [ None ↦ late w s n | Some r ↦ at_head w s n p e r ]
    asked_same p e q None h = refl
    asked_same p e q (Some r) h = ap (λ x. at_head_by w (rules_ways w) s n p e x r) (sym h) ∙ head_same p e r

    saw-same : (t p : ℕ) (q : List Waiter) → s.queue p ≡ q → saw_by w (rules_ways w) s n p (if_noted t q) ≡ saw w s n t p q
    saw-same t p [] at_p = refl
    saw-same t p (e ∷ q) at_p = go (eqb e.number t) refl
      where
        go : (b : Bool) → eqb e.number t ≡ b
            → saw_by w (rules_ways w) s n p (cond b (Some (e, q)) None)
            ≡ cond b (elim (numbered s.requests t) as (λ _. Carried × State K T) [ None ↦ late w s n | Some r ↦ at_head w s n p e r ]) (late w s n)
        go false h = refl
        go true h =
            asked_same p e q (numbered s.requests e.number) (ap behind at_p)
            ∙ ap
            (λ x. elim (numbered s.requests x) as (λ _. Carried × State K T) [ None ↦ late w s n | Some r ↦ at_head w s n p e r ])
            (eqb-true e.number t h)

    walk_same : (t p : ℕ) (d : Option Bool) (k : Option K) → walk_by w (rules_ways w) s n t p d k ≡ walk w s n t p d k
    walk_same t p (Some d) k = refl
    walk_same t p None None = refl
    walk_same t p None (Some k) = refl

    carried_same : (x : Note) → carried_by w (rules_ways w) s n x ≡ carried w s n x
    carried_same note.None = refl
    carried_same (note.Saw t p) = saw-same t p (s.queue p) refl
    carried_same (note.Walk t p) = walk_same t p (s.decision t) (elim (numbered s.requests t) [ None ↦ None | Some r ↦ sought r ])

  pub rules_by_their_ways : RulesByTheirWays w
  rules_by_their_ways s (submit n r) = refl
  rules_by_their_ways s (follow n t) = refl
  rules_by_their_ways s (carry n) =
      ap (λ x. state_by (carry_refusal w s n) s x.1) (carried_same s n (s.desk n).note)
  rules_by_their_ways s (collect n) = refl

  steps-same : (s : State K T) (cs : List (Call K)) → steps w (after w) s cs ≡ after_all w s cs
  steps-same s [] = refl
  steps-same s (c ∷ cs) = steps-same (after w s c) cs

  serves_in : (n t : ℕ) (s : State K T) (cs : List (Call K)) → Serves w n t s cs → ServesIn w (after w) n t s cs
  serves_in n t s [] h = tt
  serves_in n t s (c ∷ cs) h = (h.0, serves_in n t (after w s c) cs h.1)

  serves_out : (n t : ℕ) (s : State K T) (cs : List (Call K)) → ServesIn w (after w) n t s cs → Serves w n t s cs
  serves_out n t s [] h = tt
  serves_out n t s (c ∷ cs) h = (h.0, serves_out n t (after w s c) cs h.1)

  pub service_by_the_rules : ServiceByTheRules w
  service_by_the_rules s = (
    (λ law n t r cs a b c d e. sym (ap (λ x. finished x t) (steps-same s cs)) ∙ law n t r cs a b c (serves_in n t s cs d) e),
    (λ law n t r cs a b c d e. ap (λ x. finished x t) (steps-same s cs) ∙ law n t r cs a b c (serves_out n t s cs d) e),
  )
