-- One key more.
use Rattle.std.proofs.Common.{◌≡◌, ℕ, ◌+◌, ◌<◌, ◌≤◌, ◌^◌, List, length, get_or, set, Some, None, Option, sym, refl, ap, ap₂, ◌∙◌, subst, arith, rules, length-append, inl}
use Rattle.std.specs.declared.iter.Enumerate.{Enumerate}
use Rattle.std.specs.List.{enumerate_from}
use Rattle.std.specs.Iterator.{YieldsFirst, Yields}
use Rattle.std.specs.Iterator.Adapters.{enumerate_source, enumerate_count, enumerate_steps}
use Rattle.std.proofs.lemmas.Iterator.{YieldsList}
use Rattle.std.proofs.lemmas.Iterator.Consumers.{YieldsList-from_first, YieldsList-from_enumerate, YieldsList-turn, YieldsList-end}
use Rattle.std.proofs.lemmas.List.FromFn.{length-enumerate_from, get_or-enumerate_from}
use Rattle.reading.specs.declared.walk.Firsts.{Firsts}
use Rattle.reading.specs.Slots.{firsts_left, CanFind}
use Rattle.reading.specs.Walks.{firsts_under}
use Rattle.reading.proofs.Rows.{written-key, written_all}
use Rattle.reading.proofs.keys_off.write_keys.Goals as goal

module _ {F T : Type 0} (s : Enumerate (Firsts F T)) (all : List F) (from : firsts_left (enumerate_source s) ≡ all) (zero : enumerate_count s ≡ 0) where
  road : YieldsList {B = ℕ × F} (enumerate_steps (YieldsFirst firsts_left)) (λ p. (p.0, p.1)) s (enumerate_from 0 all)
  road = YieldsList-from_enumerate {v = λ x. x} (YieldsList-from_first (λ x. x) firsts_left all from) zero

  module _ (xs : List (ℕ × F)) (t : Enumerate (Firsts F T)) (y : Yields (enumerate_steps (YieldsFirst firsts_left)) s xs t) (r : Option (ℕ × F)) (u : Enumerate (Firsts F T)) (p : enumerate_steps (YieldsFirst firsts_left) t r u) where
    turn : (i : ℕ) (f : F) → r ≡ Some (i, f) → (length xs < length all) × (i ≡ length xs) × (f ≡ get_or all (length xs) f)
    turn i f is =
        let k = YieldsList-turn road xs t y r u (i, f) is p in
        let low : length xs < length all = omega (arith, k.0, length-enumerate_from 0 all) in
        let e : ◌≡◌ {A = ℕ × F} (i, f) (0 + length xs, get_or all (length xs) f) = k.1 ∙ get_or-enumerate_from 0 all (length xs) (i, f) low in
        let j : i ≡ 0 + length xs = ap (λ w. w.0) e in
        (low, omega arith, ap (λ w. w.1) e)

    end : r ≡ None → length xs ≡ length all
    end is = (YieldsList-end road xs t y r u is p).1 ∙ length-enumerate_from 0 all

pub loop-i-init : goal.loop-i-init
loop-i-init g c =
    let begun = c.into_iter-i-iterator.ensures.into_iter_gives in
    let made = ap enumerate_source begun ∙ c.enumerate-i-items.ensures.source in
    let long : length (firsts_left c.into_iter-i-iterator.result.iter) ≤ length c.args.row.now = omega (arith, ap (λ s. length (firsts_left s)) made, ap length c.new.ensures.firsts, c.requires.1) in
    let none : c.into_iter-i-iterator.result.count ≡ 0 = ap enumerate_count begun ∙ c.enumerate-i-items.ensures.count in
    let fits : length c.args.row.now < 2 ^ 64 = search rules in
    ((subst CanFind (sym made) c.new.ensures.begun, tt, inl (omega arith)), tt, refl)

here : (g : _) (c : goal.After-fields g) → (length c.loop-i.yielded < length (firsts_under c.args.live.now c.args.gate)) × (c.in-Some.i ≡ length c.loop-i.yielded) × (c.in-Some.first ≡ get_or (firsts_under c.args.live.now c.args.gate) (length c.loop-i.yielded) c.in-Some.first)
here g c =
    let begun = c.into_iter-i-iterator.ensures.into_iter_gives in
    turn c.into_iter-i-iterator.result (firsts_under c.args.live.now c.args.gate)
    (ap firsts_left (ap enumerate_source begun ∙ c.enumerate-i-items.ensures.source) ∙ c.new.ensures.firsts)
    (ap enumerate_count begun ∙ c.enumerate-i-items.ensures.count)
    c.loop-i.yielded c.loop-i.i-iterator c.loop-i.yielded_by c.next.result c.next.new.self c.next.ensures.steps c.in-Some.i c.in-Some.first c.in-Some.is

pub bounds-row-i : goal.bounds-row-i
bounds-row-i g c = let at = here g c in let long = c.loop-i.auto.row in omega (arith, at.0, at.1, c.requires.1)

pub offset_bounds-row-i : goal.offset_bounds-row-i
offset_bounds-row-i g c =
    let at = here g c in
    let long = c.loop-i.auto.row in
    let i : c.in-Some.i < length c.args.row.now = omega (arith, at.0, at.1, c.requires.1) in
    search rules

pub loop-i-preserved : goal.loop-i-preserved
loop-i-preserved g c =
    let at = here g c in (
      c.in-Some.ensures.goes.keeps,
      tt,
      written-key (λ f. g.K.Key.parts (g.K.Key.made f)) (firsts_under c.args.live.now c.args.gate) c.args.row.now (length c.loop-i.yielded) _ c.loop-i.row _ c.in-Some.first c.requires.1 c.loop-i.invariant.2 at.0 at.2
          (length-append c.loop-i.yielded _) (ap₂ (set c.loop-i.row) at.1 (c.fields.ensures ∙ ap g.K.Key.parts c.from_fields.ensures)),
    )

pub returns : goal.returns
returns g c =
    let begun = c.into_iter-i-iterator.ensures.into_iter_gives in
    written_all (λ f. g.K.Key.parts (g.K.Key.made f)) (firsts_under c.args.live.now c.args.gate) c.args.row.now (length c.loop-i.yielded) c.loop-i.row c.loop-i.invariant.2
    (end c.into_iter-i-iterator.result (firsts_under c.args.live.now c.args.gate)
    (ap firsts_left (ap enumerate_source begun ∙ c.enumerate-i-items.ensures.source) ∙ c.new.ensures.firsts)
    (ap enumerate_count begun ∙ c.enumerate-i-items.ensures.count)
    c.loop-i.yielded c.loop-i.i-iterator c.loop-i.yielded_by c.next.result c.next.new.self c.next.ensures.steps c.in-None.is)
