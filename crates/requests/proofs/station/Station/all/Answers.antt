-- Each place holds the station of the next number.
use Rattle.std.proofs.Common.{◌≡◌, ◌<◌, ◌+◌, ◌∙◌, ℕ, map, get_or, arith, rules}
use Rattle.std.proofs.lemmas.List.{length-map, get_or-map}
use Rattle.std.proofs.lemmas.List.FromFn.{fill_by_all}
use Rattle.requests.specs.declared.station.Station.{Station}
use Rattle.requests.proofs.station.Station.all.Goals as goal

first : Station
first = record { number = 1; known = omega arith }

pub returns : goal.returns
returns c =
    let stations = c.from_fn.result in
    let each : (k : ℕ) → k < 8 → (get_or stations k first).number ≡ k + 1 = λ k h. let e = c.from_fn.ensures.items.at k first h in search rules in
    fill_by_all (λ k. k + 1) (map (λ s. s.number) stations) 8 0 (length-map stations (λ s. s.number) ∙ c.from_fn.ensures.items.long) (λ k h. get_or-map (λ s. s.number) stations k first 0 (omega (arith, c.from_fn.ensures.items.long)) ∙ each k h)
