-- Each unfinished request is held by one station, and each station holds at most one. Rests on Counts.
use Rattle.std.proofs.Common.{◌≡◌, ℕ, suc, ◌<◌, ◌≤◌, Bool, true, false, not, eqb, is_some, Some, None, Option, sym, refl, ap, ◌∙◌, true≢false}
use mathlib.Core.Logic.{∥∥₁_elim}
use native.Mathlib.Nat.{ℕ_set}
use Rattle.rules.specs.Queues.{stands, given, waits, waiting_place, finished}
use Rattle.rules.specs.ReadOff.{all_finished}
use Rattle.rules.specs.Sound.{Sounds, Sound}
use Rattle.rules.specs.States.{State}
use Rattle.rules.proofs.Standings.{lowest_passes}
use Rattle.queues.specs.Finishing.{count_of, unfinished_held, unfinished_in}
use Rattle.queues.proofs.Counts.{count_all, all_count}
use Rattle.queues.proofs.Firsts.{station_from, station_upto}

module _ {K T : Type 0} (s : State K T) where
  -- who is unfinished waits somewhere
  waits_somewhere : (t : ℕ) → not (finished s t) ≡ true → (p : ℕ) × (stands t (s.queue p) ≡ true)
  waits_somewhere t e = go (waiting_place s t) refl e
    where
      go : (o : Option ℕ) → waiting_place s t ≡ o → not (not (is_some o)) ≡ true → (p : ℕ) × (stands t (s.queue p) ≡ true)
      go None f u = absurd (true≢false (sym u))
      go (Some p) f u = (p, (lowest_passes (waits s t) (suc (given s)) p f).1)

  -- what a station holds, once it is known
  held_known : (n t : ℕ) → (s.desk n).uncollected ≡ Some t → unfinished_held s n ≡ not (finished s t)
  held_known n t e = ap (λ o. elim o as (λ _. Bool) [ None ↦ false | Some x ↦ not (finished s x) ]) e

  module _ (h : Sounds s) where
    -- the station of an unfinished request holds it
    holder : (t : ℕ) → not (finished s t) ≡ true → (s.desk (s.asker t)).uncollected ≡ Some t
    holder t e = let v = waits_somewhere t e in (h.facts.held v.0 t v.1).1

    only : (n : ℕ) → unfinished_held s n ≡ true
        → (t : ℕ) × (0 < t) × (t ≤ given s) × (not (finished s t) ≡ true) × (s.asker t ≡ n) × ((u : ℕ) → not (finished s u) ≡ true → s.asker u ≡ n → u ≡ t)
    only n e = go (s.desk n).uncollected refl
      where
        go : (o : Option ℕ) → (s.desk n).uncollected ≡ o
            → (t : ℕ) × (0 < t) × (t ≤ given s) × (not (finished s t) ≡ true) × (s.asker t ≡ n) × ((u : ℕ) → not (finished s u) ≡ true → s.asker u ≡ n → u ≡ t)
        go None f = absurd (true≢false (sym e ∙ ap (λ o. elim o as (λ _. Bool) [ None ↦ false | Some x ↦ not (finished s x) ]) f))
        go (Some t) f =
            let v = h.facts.hands n t f in (
              t,
              v.2,
              v.3,
              sym (held_known n t f) ∙ e,
              v.1,
              λ u w is.
                  let own : (s.desk n).uncollected ≡ Some u = ap (λ i. (s.desk i).uncollected) (sym is) ∙ holder u w in
                  let same : u ≡ t = cc in
                  same,
            )

    held_all : count_of (unfinished_held s) 8 ≡ unfinished_in s
    held_all =
        count_all (unfinished_held s) (λ t. not (finished s t)) s.asker (given s)
        (λ t e. let v = waits_somewhere t e in station_from (s.asker t) (h.facts.held v.0 t v.1).0)
        (λ t e. held_known (s.asker t) t (holder t e) ∙ e)
        only 8
        (λ t e. let v = waits_somewhere t e in station_upto (s.asker t) (h.facts.held v.0 t v.1).0)

  -- after all stations, all unfinished requests are counted
  pub held_unfinished : Sound s → count_of (unfinished_held s) 8 ≡ unfinished_in s
  held_unfinished h = ∥∥₁_elim h (ℕ_set _ _) held_all

  -- and none is where all are finished
  pub none_unfinished : (r : ℕ) → r ≡ unfinished_in s → all_finished s ≡ eqb r 0
  none_unfinished r is = all_count (finished s) (given s) ∙ ap (λ n. eqb n 0) (sym is)
