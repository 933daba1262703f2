-- What was counted fits, and is written.
use Rattle.std.proofs.Common.{◌≡◌, ℕ, Bool, true, false, cond, ltb, Ok, Err, Result, sym, ap, ◌∙◌, arith, refl}
use Rattle.std.proofs.lemmas.Bool.{ltb-false}
use Rattle.keys.specs.declared.refusal.Refusal.{Refusal}
use Rattle.keys.specs.declared.refusal.Refusal.TheVariants.{TooShort}
use Rattle.reading.specs.Walks.{firsts_under}
use Rattle.reading.specs.Promises.{keys_over, counted_within}
use Rattle.reading.proofs.keys_off.read_live.Goals as goal

-- a count says that they fit
fits : (room keys n : ℕ) → Ok n ≡ counted_within room keys → ltb room keys ≡ false
fits room keys n = go (ltb room keys)
  where
    go : (b : Bool) → ◌≡◌ {A = Result ℕ Refusal} (Ok n) (cond b (Err TooShort) (Ok keys)) → b ≡ false
    go true e = let z : ◌≡◌ {A = ℕ} 0 1 = cc in absurd (omega arith)
    go false e = refl

pub write_keys-requires : goal.write_keys-requires
write_keys-requires g c = (omega (arith, c.count_within.auto.work), ltb-false _ _ (fits _ _ c.in_ok-count.count (sym c.in_ok-count.was ∙ c.count_within.ensures)))

pub returns : goal.returns
returns g c =
    let all = firsts_under c.args.live.now c.args.gate in
    record {
      answer = sym c.in_ok-count.was ∙ c.count_within.ensures;
      after = c.write_keys.ensures ∙ ap (λ b. cond b c.args.row.now (keys_over (λ f. g.K.Key.parts (g.K.Key.made f)) all c.args.row.now)) (sym (fits _ _ c.in_ok-count.count (sym c.in_ok-count.was ∙ c.count_within.ensures)));
    }
